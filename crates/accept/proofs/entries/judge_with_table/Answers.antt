-- `accept::entries::judge_with_table` meets its contract: the walk's answer, and of the blocks that were taken the entries first. Assumes nothing.
use native.Mathlib.Omega.{arith}
use mathlib.Core.Path.{◌≡◌, refl, sym, ◌∙◌}
use Rattle.std.specs.Prelude.{Ok, Err}
use Rattle.refusals.proofs.Passing.{passed_on}
use Rattle.chain.specs.Chains.{walked}
use Rattle.chain.proofs.Tables.{zeros}
use Rattle.judge.specs.Rules.{Family, family_for, symbol_rule_of}
use Rattle.judge.proofs.Rules.{sized, symbol-rule, symbol-ready, walk-by}
use Rattle.accept.proofs.Verdicts.{taken_of, symbols-is, first_good}
use Rattle.accept.proofs.entries.judge_with_table.Goals as goal

pub walk_chain-requires : goal.walk_chain-requires
walk_chain-requires g c =
    let o = c.args.opened.now in
    (o.map.indexed.room, symbol-ready (family_for g.L.Layout.wide) c.symbol_kind.ensures (sized g.L.Layout.wide) o.low (rw (g.met.L.Layout.block_is, g.met.L.Layout.page_is) at o.map.indexed) (omega (arith, c.requires.0)), zeros g.row.N)

pub judge_entries-requires : goal.judge_entries-requires
judge_entries-requires g c =
    let m = c.args.opened.now.map.m.now in
    let f : Family = family_for g.L.Layout.wide in
    let walk : walked (symbol_rule_of f m c.args.opened.now.blocks) m c.args.opened.now.map.used ≡ c.walk_chain.result = (walk-by c.args.opened.now.map.used (symbol-rule f c.symbol_kind.ensures m c.args.opened.now.blocks c.args.opened.now.map.index.now c.args.opened.now.touches) refl c.walk_chain.ensures).0 in
    taken_of (symbol_rule_of f m c.args.opened.now.blocks) m c.args.opened.now.map.used (Ok c.in-Ok.k) (walk ∙ c.in-Ok.is)

pub judge_entries-requires-in-Err : goal.judge_entries-requires-in-Err
judge_entries-requires-in-Err g c =
    let m = c.args.opened.now.map.m.now in
    let f : Family = family_for g.L.Layout.wide in
    let walk : walked (symbol_rule_of f m c.args.opened.now.blocks) m c.args.opened.now.map.used ≡ c.walk_chain.result = (walk-by c.args.opened.now.map.used (symbol-rule f c.symbol_kind.ensures m c.args.opened.now.blocks c.args.opened.now.map.index.now c.args.opened.now.touches) refl c.walk_chain.ensures).0 in
    taken_of (symbol_rule_of f m c.args.opened.now.blocks) m c.args.opened.now.map.used (Err c.in-Err.f) (walk ∙ c.in-Err.is)

pub returns-in-Ok : goal.returns-in-Ok
returns-in-Ok g c =
    let m = c.args.opened.now.map.m.now in
    let f : Family = family_for g.L.Layout.wide in
    let walk : walked (symbol_rule_of f m c.args.opened.now.blocks) m c.args.opened.now.map.used ≡ c.walk_chain.result = (walk-by c.args.opened.now.map.used (symbol-rule f c.symbol_kind.ensures m c.args.opened.now.blocks c.args.opened.now.map.index.now c.args.opened.now.touches) refl c.walk_chain.ensures).0 in
    sym (symbols-is f m c.args.opened.now.map.used c.args.opened.now.blocks (walk ∙ c.in-Ok.is) c.judge_entries.ensures ∙ first_good c.judge_entries.result)

pub returns-in_err-judge_entries-in-Err : goal.returns-in_err-judge_entries-in-Err
returns-in_err-judge_entries-in-Err g c =
    let m = c.args.opened.now.map.m.now in
    let f : Family = family_for g.L.Layout.wide in
    let walk : walked (symbol_rule_of f m c.args.opened.now.blocks) m c.args.opened.now.map.used ≡ c.walk_chain.result = (walk-by c.args.opened.now.map.used (symbol-rule f c.symbol_kind.ensures m c.args.opened.now.blocks c.args.opened.now.map.index.now c.args.opened.now.touches) refl c.walk_chain.ensures).0 in
    passed_on c.from_residual.result c.from_residual.ensures.1
    ∙ sym (symbols-is f m c.args.opened.now.map.used c.args.opened.now.blocks (walk ∙ c.in-Err.is) (sym c.in_err-judge_entries-in-Err.was ∙ c.judge_entries-in-Err.ensures))

pub returns-in_ok-judge_entries-in-Err : goal.returns-in_ok-judge_entries-in-Err
returns-in_ok-judge_entries-in-Err g c =
    let m = c.args.opened.now.map.m.now in
    let f : Family = family_for g.L.Layout.wide in
    let walk : walked (symbol_rule_of f m c.args.opened.now.blocks) m c.args.opened.now.map.used ≡ c.walk_chain.result = (walk-by c.args.opened.now.map.used (symbol-rule f c.symbol_kind.ensures m c.args.opened.now.blocks c.args.opened.now.map.index.now c.args.opened.now.touches) refl c.walk_chain.ensures).0 in
    sym (symbols-is f m c.args.opened.now.map.used c.args.opened.now.blocks (walk ∙ c.in-Err.is) (sym c.in_ok-judge_entries-in-Err.was ∙ c.judge_entries-in-Err.ensures))
