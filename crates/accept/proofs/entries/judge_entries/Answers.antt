use native.Mathlib.Omega.{arith}
use mathlib.Core.Path.{◌≡◌, sym, ◌∙◌}
use Rattle.records.specs.Sizes.{entry_size}
use Rattle.refusals.specs.declared.Refusal.TheVariants.{BadSymbol}
use Rattle.refusals.proofs.Passing.{passed_on}
use Rattle.chain.specs.Cells.{cell_in}
use Rattle.chain.proofs.Chains.{taken_pass}
use Rattle.judge.specs.Rules.{Family, family_for, symbol_rule_of}
use Rattle.accept.specs.Verdicts.{cells_judged, entries_judged_of}
use Rattle.accept.proofs.Looking.{along-start, along-inside, along-on, along-bad, along-good}
use Rattle.accept.proofs.entries.judge_entries.Goals as goal
use Rattle.accept.proofs.entries.judge_entries.Invariants.{at-fault}

pub loop-i-init : goal.loop-i-init
loop-i-init g c =
    let m = c.args.opened.now.map.m.now in
    along-start (rw c.requires (taken_pass (symbol_rule_of (family_for g.L.Layout.wide) m c.args.opened.now.blocks) m c.args.opened.now.map.used)) (omega (arith, c.args.opened.now.low))

pub u32_at-at-requires : goal.u32_at-at-requires
u32_at-at-requires g c = omega (arith, c.loop-i.invariant.room, c.args.opened.now.map.indexed.room)

pub judge_block_entries-requires : goal.judge_block_entries-requires
judge_block_entries-requires g c = along-inside c.loop-i.invariant c.loop-i-test.true c.u32_at-at.ensures

pub returns-in_err-judge_block_entries : goal.returns-in_err-judge_block_entries
unfolding entries_judged_of
returns-in_err-judge_block_entries g c =
    let a = c.args.opened.now in
    let f : Family = family_for g.L.Layout.wide in
    let told : c.judge_block_entries.result ≡ cells_judged BadSymbol (λ e. at-fault f a.map.m.now a.map.used a.blocks (cell_in c.u32_at-at.result entry_size e)) (cell_in c.u32_at-at.result entry_size) 256 =
    rw (at-fault, ← c.args.opened.now.touches) c.judge_block_entries.ensures
    in
    passed_on c.from_residual.result c.from_residual.ensures.1
    ∙ along-bad c.loop-i.invariant c.loop-i-test.true c.u32_at-at.ensures BadSymbol (sym told ∙ c.in_err-judge_block_entries.was)

pub loop-i-preserved : goal.loop-i-preserved
loop-i-preserved g c =
    let a = c.args.opened.now in
    let f : Family = family_for g.L.Layout.wide in
    let told : c.judge_block_entries.result ≡ cells_judged BadSymbol (λ e. at-fault f a.map.m.now a.map.used a.blocks (cell_in c.u32_at-at.result entry_size e)) (cell_in c.u32_at-at.result entry_size) 256 =
    rw (at-fault, ← c.args.opened.now.touches) c.judge_block_entries.ensures
    in
    along-on c.loop-i.invariant c.loop-i-test.true c.u32_at-at.ensures (omega arith) BadSymbol (sym told ∙ c.in_ok-judge_block_entries.was)

pub returns : goal.returns
unfolding entries_judged_of
returns g c = along-good c.loop-i.invariant BadSymbol c.loop-i-test.false
