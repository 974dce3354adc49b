-- Slots, 24 bytes each.
--     slot_of m p         the slot whose bytes stand from place p
--     slot_bytes t        its 24 bytes
--     state_of t          Len 0: free, whatever Sym is; Len not 0 and Sym 0: erased; both not 0: live
--     same_state j k      whether two states are the same, by a number for each
--     found_at m p        what the slot reader answers: the fields, the state and the place
--     len_good v len      whether Len is one that version v allows: in 6 and 7 at least 40, and 32 less is a multiple of 8; in 8 at most 32,768
--     pairs_of v len      the pair count of a slot: in 6 and 7 Len is the object's bytes; in 8 it counts pairs
--     bytes_in v len      the object's bytes: Len in 6 and 7, 32 + 8 x Len in 8
--     bytes_in_range n     whether an object can have n bytes by its Len: room for a pair at least, and for 32,768 at most
--     len_of v k          the Len of an object of k pairs
use Rattle.std.specs.Prelude.{ℕ, ◌+◌, ◌-◌, ◌*◌, ◌/◌, ◌%◌, Bool, cond, ◌&&◌, List, ◌++◌, eqb, leb}
use Rattle.numbers.specs.Bytes.{u16_at, u32_at, bytes_of}
use Rattle.slots.specs.declared.Slot.{Slot}
use Rattle.slots.specs.declared.State.{State}
use Rattle.slots.specs.declared.State.TheVariants.{Free, Erased, Live}
use Rattle.slots.specs.declared.Found.{Found}
use Rattle.records.specs.Sizes.{object_header_size, pair_size, object_most, most_pairs8}

abbrev pub len_at : ℕ
len_at = 20

abbrev pub sym_at : ℕ
sym_at = 22

unfoldable pub slot_of : List ℕ → ℕ → Slot
slot_of m p =
    record {
      left = u32_at m p;
      bottom = u32_at m (p + 4);
      right = u32_at m (p + 8);
      top = u32_at m (p + 12);
      position = u32_at m (p + 16);
      len = u16_at m (p + len_at);
      sym = u16_at m (p + sym_at);
    }

unfoldable pub slot_bytes : Slot → List ℕ
slot_bytes t =
    bytes_of 4 t.left ++ (bytes_of 4 t.bottom ++ (bytes_of 4 t.right ++ (bytes_of 4 t.top
    ++ (bytes_of 4 t.position ++ (bytes_of 2 t.len ++ bytes_of 2 t.sym)))))

unfoldable pub state_of : Slot → State
state_of t = cond (eqb t.len 0) Free (cond (eqb t.sym 0) Erased Live)

abbrev pub state_number : State → ℕ
state_number Free = 0
state_number Erased = 1
state_number Live = 2

abbrev pub same_state : State → State → Bool
same_state j k = eqb (state_number j) (state_number k)

unfoldable pub found_at : List ℕ → ℕ → Found
found_at m p = record { slot = slot_of m p; state = state_of (slot_of m p); place = p }

-- version 8 counts pairs, 6 and 7 bytes
unfoldable pub len_good : ℕ → ℕ → Bool
len_good v len =
    cond (eqb v 8) (leb len most_pairs8) (leb (object_header_size + pair_size) len && eqb ((len - object_header_size) % pair_size) 0)

unfoldable pub pairs_of : ℕ → ℕ → ℕ
pairs_of v len = cond (eqb v 8) len ((len - object_header_size) / pair_size)

unfoldable pub bytes_in : ℕ → ℕ → ℕ
bytes_in v len = cond (eqb v 8) (object_header_size + pair_size * len) len

unfoldable pub bytes_in_range : ℕ → Bool
bytes_in_range n = leb (object_header_size + pair_size) n && leb n object_most

unfoldable pub len_of : ℕ → ℕ → ℕ
len_of v k = cond (eqb v 8) k (object_header_size + pair_size * k)
