-- `journal::MapSlots::is_used` meets its contract: the slot is found by the order, and it is free where its Len is 0. Assumes nothing.
use Prim.Native.Nat.{◌*◌}
use native.Mathlib.Omega.{arith}
use borrow.Author.Tests.{lt-ltb, le-ltb}
use lib.ListN.{length}
use Rattle.journal.specs.Journals.{slot_used}
use Rattle.journal.proofs.MapSlots.is_used.Goals as goal

pub at-requires : goal.at-requires
at-requires c =
    let x = c.args.self.now in
    rw (c.place_of.ensures x.map.now (length x.order.now) x.reach.ordered (omega arith)) (x.reach.inside c.args.s (omega arith))

pub returns-then-number-self : goal.returns-then-number-self
unfolding slot_used
returns-then-number-self c =
    let x = c.args.self.now in
    rw (lt-ltb c.args.s (256 * length x.order.now) (omega arith), ← c.place_of.ensures x.map.now (length x.order.now) x.reach.ordered (omega arith), ← c.at.ensures)

pub returns-else-number-self : goal.returns-else-number-self
unfolding slot_used
returns-else-number-self c =
    rw (le-ltb c.args.s (256 * length c.args.self.now.order.now) (omega arith))
