-- `add::write_in_slot` meets its contract: two runs of stores, each made at the start of a part that was lent. Assumes nothing.
use mathlib.Core.Path.{ap, ◌∙◌}
use mathlib.Core.List.{List}
use Prim.Native.Nat.{ℕ}
use native.Mathlib.Omega.{arith}
use lib.ListN.{length}
use lib.Seq.{sets, length-sets}
use Rattle.slots.specs.Slots.{slot_bytes}
use Rattle.slots.proofs.Slots.{length-slot_bytes}
use Rattle.add.proofs.Adding.{lent-over}
use Rattle.add.proofs.write_in_slot.Goals as goal

pub returns : goal.returns
returns c =
    let a = c.args in
    let e = lent-over a.o.now a.map.now c.copy_in.new.d a.used c.requires.0 c.copy_in.ensures in
    let long = ap length e ∙ length-sets a.map.now a.used a.o.now in
    lent-over (slot_bytes a.t) _ c.put.new.part a.at (omega (arith, length-slot_bytes a.t, c.requires.1)) c.put.ensures
    ∙ ap (λ (l : List ℕ). sets l a.at (slot_bytes a.t)) e
