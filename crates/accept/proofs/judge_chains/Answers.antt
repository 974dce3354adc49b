-- `accept::judge_chains` meets its contract: where both first links are 0 there is nothing to judge; else a table of zeros is lent, which the map fits. Assumes nothing.
use native.Mathlib.Omega.{arith}
use mathlib.Core.Path.{sym, ◌∙◌}
use Rattle.records.specs.Headers.{is_wide}
use Rattle.judge.specs.Judging.{version_of}
use Rattle.judge.specs.Rules.{family_of}
use Rattle.judge.proofs.Rules.{sized}
use Rattle.accept.proofs.Verdicts.{no_index}
use Rattle.accept.proofs.judge_chains.Goals as goal

pub returns-then-u32_at-eq0-2 : goal.returns-then-u32_at-eq0-2
returns-then-u32_at-eq0-2 c =
    let m = c.args.m.now in
    sym (no_index (family_of m) (omega (arith, (sized (is_wide (version_of m))).least)) m c.args.used (sym c.u32_at.ensures ∙ c.if-u32_at-eq0.true) (sym c.u32_at-then-u32_at-eq0.ensures ∙ c.if-u32_at-eq0-2.true))
