-- `accept::entries::judge_symbols` meets its contract: where the first link is 0 there is no block. Assumes nothing.
use mathlib.Core.Path.{sym, ◌∙◌}
use Rattle.judge.specs.Rules.{family_for}
use Rattle.accept.proofs.Verdicts.{no-symbols}
use Rattle.accept.proofs.entries.judge_symbols.Goals as goal

pub returns-then-u32_at-eq0 : goal.returns-then-u32_at-eq0
returns-then-u32_at-eq0 g c =
    sym (no-symbols (family_for g.L.Layout.wide) c.args.opened.now.map.m.now c.args.opened.now.map.used c.args.opened.now.blocks (sym c.u32_at.ensures ∙ c.if-u32_at-eq0.true))
