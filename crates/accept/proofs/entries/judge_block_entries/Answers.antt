use native.Mathlib.Omega.{arith}
use Prim.Native.Nat.{◌+◌, ◌*◌}
use mathlib.Core.Path.{◌≡◌}
use Rattle.records.specs.Sizes.{entry_size}
use Rattle.refusals.specs.declared.Refusal.TheVariants.{BadSymbol}
use Rattle.chain.specs.Cells.{cell_in}
use Rattle.accept.proofs.Looking.{look-start, look-on, look-bad, look-good}
use Rattle.accept.proofs.entries.judge_block_entries.Goals as goal

pub loop-e-init : goal.loop-e-init
loop-e-init g c = look-start

pub loop-e-preserved : goal.loop-e-preserved
unfolding cell_in
loop-e-preserved g c =
    let here : c.args.block + 4 + 4 * c.loop-e.e ≡ cell_in c.args.block entry_size c.loop-e.e = omega arith in
    look-on c.loop-e.invariant here c.loop-e-test.true (c.entry_at_fault.ensures _ c.u32_at-p.ensures) c.if-entry_at_fault.false

pub returns-then-entry_at_fault : goal.returns-then-entry_at_fault
unfolding cell_in
returns-then-entry_at_fault g c =
    let here : c.args.block + 4 + 4 * c.loop-e.e ≡ cell_in c.args.block entry_size c.loop-e.e = omega arith in
    look-bad c.loop-e.invariant here c.loop-e-test.true (c.entry_at_fault.ensures _ c.u32_at-p.ensures) c.if-entry_at_fault.true BadSymbol

pub returns : goal.returns
returns g c = look-good c.loop-e.invariant c.loop-e-test.false BadSymbol
