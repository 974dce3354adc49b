-- Whether things are as document 01 wants them. `touch` is the test whether an index block shares a byte with a range (position, bytes).
--     version_of m                     the version in the header
--     length_good m used               48 to 16,777,216, and not past the buffer
--     part_good used p                 setup or info: absent (size 0), or behind the header and inside the map
--     object_good touch m used v t     the object of slot t, in a map of version v, lies inside and shares no byte with an index block; its Sym is the slot's, its
--                                     type 1 to 5, and nItem + nText is the pair count
--     slot_good touch m used v t       left <= right and bottom <= top by value, the Len is allowed, and the object is good
--     bad_slot touch m used v p        whether the slot at place p is live and not good. Erased and free slots are not judged
--     no_len m p                       whether the slot at place p has no Len, which is what makes it free
--     symbol_good touch m used q       a symbol record at q: 48 or later, inside the map, its signed Size 348 or more, no byte shared with an index block
--     bad_entry touch m used p         whether the symbol entry at place p is used (not 0) and its record is not good
use Rattle.std.specs.Prelude.{ℕ, ◌+◌, Bool, true, false, not, ◌&&◌, ◌||◌, List, eqb, leb, length, drop}
use Rattle.std.specs.Int.Signed.{le_z}
use Rattle.numbers.specs.Bytes.{u16_at, u32_at}
use Rattle.numbers.specs.Coordinates.{value_of}
use Rattle.records.specs.declared.Part.{Part}
use Rattle.slots.specs.declared.Slot.{Slot}
use Rattle.slots.specs.declared.State.{State}
use Rattle.slots.specs.declared.State.TheVariants.{Free, Erased, Live}
use Rattle.slots.specs.declared.ObjectHeader.{ObjectHeader}
use Rattle.records.specs.Sizes.{header_size, map_limit}
use Rattle.slots.specs.Slots.{slot_of, state_of, len_good, pairs_of, bytes_in, len_at}
use Rattle.slots.specs.Objects.{object_of, type_good}
use Rattle.records.specs.Symbols.{size_good}
use Rattle.chain.specs.Chains.{inside}

abbrev pub version_of : List ℕ → ℕ
version_of m = u16_at m 4

unfoldable pub length_good : List ℕ → ℕ → Bool
length_good m used = leb header_size used && (leb used map_limit && leb used (length m))

unfoldable pub part_good : ℕ → Part → Bool
part_good used p = eqb p.size 0 || inside used p.size p.at

unfoldable pub header_fits : ObjectHeader → ℕ → Slot → Bool
header_fits h v t = eqb h.sym t.sym && (type_good h.kind && eqb (h.items + h.texts) (pairs_of v t.len))

unfoldable pub object_good : (ℕ → ℕ → Bool) → List ℕ → ℕ → ℕ → Slot → Bool
object_good touch m used v t =
    inside used (bytes_in v t.len) t.position
    && (not (touch t.position (bytes_in v t.len)) && header_fits (object_of (drop t.position m)) v t)

unfoldable pub slot_good : (ℕ → ℕ → Bool) → List ℕ → ℕ → ℕ → Slot → Bool
slot_good touch m used v t =
    le_z (value_of t.left) (value_of t.right)
    && (le_z (value_of t.bottom) (value_of t.top) && (len_good v t.len && object_good touch m used v t))

abbrev pub is_live : State → Bool
is_live Free = false
is_live Erased = false
is_live Live = true

unfoldable pub bad_slot : (ℕ → ℕ → Bool) → List ℕ → ℕ → ℕ → ℕ → Bool
bad_slot touch m used v p = is_live (state_of (slot_of m p)) && not (slot_good touch m used v (slot_of m p))

abbrev pub no_len : List ℕ → ℕ → Bool
no_len m p = eqb (u16_at m (p + len_at)) 0

unfoldable pub symbol_good : (ℕ → ℕ → Bool) → List ℕ → ℕ → ℕ → Bool
symbol_good touch m used q =
    inside used 2 q && (size_good (u16_at m q) && (inside used (u16_at m q) q && not (touch q (u16_at m q))))

unfoldable pub bad_entry : (ℕ → ℕ → Bool) → List ℕ → ℕ → ℕ → Bool
bad_entry touch m used p = not (eqb (u32_at m p) 0) && not (symbol_good touch m used (u32_at m p))
