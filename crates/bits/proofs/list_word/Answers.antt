use native.Mathlib.Omega.{arith}
use Rattle.bits.specs.Bits.{double}
use Rattle.bits.proofs.Listing.{list-start, list_done, list-room, list-turn}
use Rattle.bits.proofs.list_word.Goals as goal

pub loop-x-init : goal.loop-x-init
unfolding double
loop-x-init c =
    list-start (omega arith)

-- there is room for one more
pub bounds-list-d : goal.bounds-list-d
bounds-list-d c =
    omega (arith, list-room c.loop-x.invariant c.loop-x-test.true, c.loop-x.invariant.kept, c.requires.0)

pub loop-x-preserved : goal.loop-x-preserved
loop-x-preserved c =
    list-turn c.loop-x.invariant c.loop-x-test.true

pub returns : goal.returns
returns c =
    list_done c.loop-x.invariant c.loop-x-test.false
