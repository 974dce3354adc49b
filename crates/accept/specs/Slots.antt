-- The slots of a map m of n index blocks.
--     slot_in m s        the fields of slot s
--     free_slot m n      the first free slot in slot order, or 256 * n where none is free
use Rattle.std.specs.Prelude.{ℕ, ◌*◌, List}
use Rattle.numbers.specs.Below.{first}
use Rattle.slots.specs.declared.Slot.{Slot}
use Rattle.slots.specs.declared.State.TheVariants.{Free}
use Rattle.records.specs.Sizes.{block_cells}
use Rattle.slots.specs.Slots.{slot_of, state_of, same_state}
use Rattle.judge.specs.Rules.{slot_at}

unfoldable pub slot_in : List ℕ → ℕ → Slot
slot_in m s = slot_of m (slot_at m s)

unfoldable pub free_slot : List ℕ → ℕ → ℕ
free_slot m n = first (λ s. same_state Free (state_of (slot_in m s))) (block_cells * n)
