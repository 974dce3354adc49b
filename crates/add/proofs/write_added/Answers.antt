-- `add::write_added` meets its contract: where a slot is free the object and its slot are written, else the object, a block with its slot and the link.
-- Assumes nothing.
use mathlib.Core.Path.{◌≡◌, ap, ◌∙◌}
use Prim.Native.Nat.{◌*◌, ◌≤◌, ◌<◌}
use native.Mathlib.Omega.{arith}
use Rattle.judge.specs.Rules.{slot_at}
use Rattle.accept.proofs.Accepting.{accepted-tells}
use Rattle.frame.proofs.Writes.{slot-lies, link-low}
use Rattle.accept.specs.Slots.{free_slot}
use Rattle.add.specs.Adds.{slot_added, in_free, in_block}
use Rattle.add.proofs.Adding.{length-free, length-block, added-free, added-block}
use Rattle.edit.proofs.Edits.{few-blocks}
use Rattle.add.proofs.write_added.Goals as goal

pub u16_at-requires : goal.u16_at-requires
u16_at-requires c =
    let a = c.args in
    let h = accepted-tells a.map.now a.used a.n c.requires.0 in
    omega (arith, h.low, h.room)

pub overflow_cast-used : goal.overflow_cast-used
overflow_cast-used c =
    let a = c.args in
    omega (arith, (accepted-tells a.map.now a.used a.n c.requires.0).limit)

pub slot_for-t-requires : goal.slot_for-t-requires
slot_for-t-requires c =
    rw c.u16_at.ensures c.requires.4

pub overflow_mul-n : goal.overflow_mul-n
overflow_mul-n c =
    let a = c.args in
    omega (arith, few-blocks (accepted-tells a.map.now a.used a.n c.requires.0))

pub write_in_slot-requires : goal.write_in_slot-requires
write_in_slot-requires c =
    let a = c.args in
    let h = accepted-tells a.map.now a.used a.n c.requires.0 in
    let free : free_slot c.args.map.now c.args.n < 256 * c.args.n = omega (arith, c.requires.3) in
    let found = c.place_of.ensures a.map.now a.n c.requires.1 c.if-s-n.true ∙ ap (slot_at a.map.now) c.requires.3 in
    (omega (arith, length-free a.map.now a.used a.n a.o.now free, c.requires.6), omega (arith, found, (slot-lies h (free_slot a.map.now a.n) free).high, h.room))

pub write_in_block-requires : goal.write_in_block-requires
write_in_block-requires c =
    let a = c.args in
    let h = accepted-tells a.map.now a.used a.n c.requires.0 in
    let full : 256 * c.args.n ≤ free_slot c.args.map.now c.args.n = omega (arith, c.requires.3) in
    let e = length-block a.map.now a.used a.n a.o.now full in
    (omega (arith, e, c.requires.6), omega (arith, e, c.requires.5), omega (arith, c.last_link.ensures a.map.now c.requires.1, link-low h a.n (omega arith), h.room))

pub returns-then-s-n : goal.returns-then-s-n
unfolding in_free
returns-then-s-n c =
    let a = c.args in
    let free : free_slot c.args.map.now c.args.n < 256 * c.args.n = omega (arith, c.requires.3) in
    let found = c.place_of.ensures a.map.now a.n c.requires.1 c.if-s-n.true ∙ ap (slot_at a.map.now) c.requires.3 in
    let slot : c.slot_for-t.result ≡ slot_added a.map.now a.used a.o.now = rw (← c.u16_at.ensures) c.slot_for-t.ensures in
    rw (added-free a.map.now a.used a.n a.o.now free, ← found, ← slot) c.write_in_slot.ensures

pub returns-else-s-n : goal.returns-else-s-n
unfolding in_block
returns-else-s-n c =
    let a = c.args in
    let full : 256 * c.args.n ≤ free_slot c.args.map.now c.args.n = omega (arith, c.requires.3) in
    let slot : c.slot_for-t.result ≡ slot_added a.map.now a.used a.o.now = rw (← c.u16_at.ensures) c.slot_for-t.ensures in
    rw (added-block a.map.now a.used a.n a.o.now full, ← c.last_link.ensures a.map.now c.requires.1, ← slot) c.write_in_block.ensures
