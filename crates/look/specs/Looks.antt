-- For inner contracts: a reader of the promises may skip this file. The look at the slots in one pass, a word's
-- bits at a time: each slot is judged, and has a bit that says whether the search lists it.
--     block_words          the bits of an index block's 256 slots are so many words
--     slot_from z p j      where slot j of a run of slots of z bytes stands that starts at place p
--     live_from f m w p j  whether that slot, in the layout f, is live and its rectangle meets the window
--     word_seen bad live place     what the look at a word's slots answers, of slots that stand at `place`: the first at fault, or their bits
--     live_cell f m w b j  whether slot j of the block at b, in the layout f, is live and its rectangle meets the window
--     MarkedBy live ws n  each of the first n words has the bits of its slots, in slot order
--     Marked m w ws n     the same of the slots of the map
use Rattle.std.specs.Prelude.{ℕ, ◌+◌, ◌*◌, ◌<◌, Bool, ◌≡◌, List, get_or, Result, Ok}
use Rattle.refusals.specs.declared.Refusal.{Refusal}
use Rattle.refusals.specs.declared.Refusal.TheVariants.{BadSlot}
use Rattle.refusals.specs.Refusals.{unless}
use Rattle.bits.specs.Bits.{bits_from, word_bits}
use Rattle.windows.specs.declared.Window.{Window}
use Rattle.chain.specs.Cells.{cell_in}
use Rattle.judge.specs.Rules.{Family}
use Rattle.accept.specs.Verdicts.{cells_judged}
use Rattle.look.specs.Found.{live_at, live_in}

abbrev pub block_words : ℕ
block_words = 4

unfoldable pub slot_from : ℕ → ℕ → ℕ → ℕ
slot_from z p j = p + z * j

abbrev pub live_from : Family → List ℕ → Window → ℕ → ℕ → Bool
live_from f m w p j = live_at f m w (slot_from f.slot p j)

abbrev pub word_seen : (ℕ → Bool) → (ℕ → Bool) → (ℕ → ℕ) → Result ℕ Refusal
word_seen bad live place = unless (cells_judged BadSlot (λ j. bad (place j)) place word_bits) (Ok (bits_from live 0 word_bits))

abbrev pub live_cell : Family → List ℕ → Window → ℕ → ℕ → Bool
live_cell f m w b j = live_at f m w (cell_in b f.slot j)

abbrev pub MarkedBy : (ℕ → Bool) → List ℕ → ℕ → Type 0
MarkedBy live ws n = (i : ℕ) → i < n → get_or ws i 0 ≡ bits_from live (word_bits * i) word_bits

abbrev pub Marked : List ℕ → Window → List ℕ → ℕ → Type 0
Marked m w ws n = MarkedBy (live_in m w) ws n
