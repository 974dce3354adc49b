-- What an edit asks of slot s in a map m of n index blocks.
--     has_state k m n s          whether slot s exists and is in state k
--     resym t y                 slot t with y as its Sym
--     with_sym m s y             the map with y as the Sym of slot s: two bytes change
--     object_sym m s             the Sym that stands where the slot's position points to
--     is_accepted v              whether a verdict is accepted
--     can_reinstate m used n s   slot s is erased, its object's Sym is not 0, and the map with that slot live would be accepted
--     allowed_for k m used n s   what kind 2, remove, and kind 3, reinstate, ask: a live slot; one that can be reinstated
--     sym_for k m s              the Sym that they write: 0; the object's
use Rattle.std.specs.Prelude.{ℕ, ◌+◌, ◌*◌, Bool, true, false, not, cond, ◌&&◌, List, eqb, ltb, Result, Ok, Err}
use Rattle.std.proofs.lemmas.List.Edits.{sets}
use Rattle.numbers.specs.Bytes.{u16_at, bytes_of}
use Rattle.slots.specs.declared.Slot.{Slot}
use Rattle.slots.specs.declared.State.{State}
use Rattle.slots.specs.declared.State.TheVariants.{Erased, Live}
use Rattle.slots.specs.Slots.{state_of, same_state, sym_at}
use Rattle.refusals.specs.declared.Refusal.{Refusal}
use Rattle.judge.specs.Rules.{slot_at}
unfoldable pub use Rattle.accept.specs.Slots.{slot_in, free_slot}
use Rattle.accept.specs.Verdicts.{verdict}
use Rattle.records.specs.Sizes.{block_cells}

unfoldable pub has_state : State → List ℕ → ℕ → ℕ → Bool
has_state k m n s = ltb s (block_cells * n) && same_state k (state_of (slot_in m s))

abbrev pub resym : Slot → ℕ → Slot
resym t y =
    record {
      left = t.left;
      bottom = t.bottom;
      right = t.right;
      top = t.top;
      position = t.position;
      len = t.len;
      sym = y;
    }

unfoldable pub with_sym : List ℕ → ℕ → ℕ → List ℕ
with_sym m s y = sets m (slot_at m s + sym_at) (bytes_of 2 y)

unfoldable pub object_sym : List ℕ → ℕ → ℕ
object_sym m s = u16_at m (slot_in m s).position

abbrev pub is_accepted : Result ℕ Refusal → Bool
is_accepted (Ok n) = true
is_accepted (Err e) = false

unfoldable pub can_reinstate : List ℕ → ℕ → ℕ → ℕ → Bool
can_reinstate m used n s =
    has_state Erased m n s && (not (eqb (object_sym m s) 0) && is_accepted (verdict (with_sym m s (object_sym m s)) used))

abbrev pub allowed_for : ℕ → List ℕ → ℕ → ℕ → ℕ → Bool
allowed_for kind m used n s = cond (eqb kind 2) (has_state Live m n s) (can_reinstate m used n s)

abbrev pub sym_for : ℕ → List ℕ → ℕ → ℕ
sym_for kind m s = cond (eqb kind 2) 0 (object_sym m s)
