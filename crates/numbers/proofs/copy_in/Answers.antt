-- `numbers::copy_in` meets its contract: each turn stores the next byte, and the last stores the last one. Assumes nothing.
use mathlib.Core.Path.{refl, ◌∙◌}
use lib.Seq.{take_all}
use Rattle.numbers.proofs.Runs.{copy_step}
use Rattle.numbers.proofs.copy_in.Goals as goal

pub loop-i-init : goal.loop-i-init
loop-i-init c =
    refl

pub loop-i-preserved : goal.loop-i-preserved
loop-i-preserved c =
    let a = c.args in
    rw c.loop-i.invariant (copy_step a.s.now a.d.now c.loop-i.i c.loop-i-test.true)

pub returns : goal.returns
returns c =
    c.loop-i.invariant ∙ rw (take_all c.loop-i.i c.args.s.now c.loop-i-test.false)
