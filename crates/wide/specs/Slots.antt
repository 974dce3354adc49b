-- Slots of OCAD 9, 10 and 11, 40 bytes each, and the headers of their objects. Numbers are read unsigned: a negative position or Len is then past every map's end.
-- `touch` is the test whether an index block shares a byte with a range (position, bytes).
--     wide_slot_of m p        the slot whose bytes stand from place p. (The type at 28 and what stands from 31 on are not read)
--     wide_live t            status 1 (normal) or 2 (hidden), and Len is not 0; nothing else is live
--     wide_object_of o        the header of the object whose bytes start the list o
--     wide_type_good k        the type is 1 to 7
--     wide_bytes len k       the bytes of an object of k pairs (nItem + nText), by its slot's Len in both its meanings: Len is the object's bytes, 40 + 8 x k; or
--                           Len counts the pairs, and the object has 32 + 8 x Len bytes. 0: neither
--     wide_header_fits h t    Sym is the slot's, the type is good, and Len has one of its two meanings
--     wide_object_good        the object's header fits, and the object lies inside the map and shares no byte with an index block
--     wide_slot_good          left <= right and bottom <= top by value, and the object is good
--     wide_bad_slot           whether the slot at place p is live and not good. Nothing else is judged
use Rattle.std.specs.Prelude.{ℕ, ◌+◌, ◌*◌, Bool, not, cond, ◌&&◌, ◌||◌, List, eqb, leb, get_or, drop}
use Rattle.std.specs.Int.Signed.{le_z}
use Rattle.numbers.specs.Bytes.{u16_at, u32_at}
use Rattle.numbers.specs.Coordinates.{value_of}
use Rattle.records.specs.Sizes.{object_header_size, wide_header_size, pair_size}
use Rattle.chain.specs.Chains.{inside}
use Rattle.wide.specs.declared.WideSlot.{WideSlot}
use Rattle.wide.specs.declared.WideObject.{WideObject}

unfoldable pub wide_slot_of : List ℕ → ℕ → WideSlot
wide_slot_of m p =
    record {
      left = u32_at m p;
      bottom = u32_at m (p + 4);
      right = u32_at m (p + 8);
      top = u32_at m (p + 12);
      position = u32_at m (p + 16);
      len = u32_at m (p + 20);
      sym = u32_at m (p + 24);
      status = get_or m (p + 30) 0;
    }

unfoldable pub wide_live : WideSlot → Bool
wide_live t = (eqb t.status 1 || eqb t.status 2) && not (eqb t.len 0)

unfoldable pub wide_object_of : List ℕ → WideObject
wide_object_of o = record { sym = u32_at o 0; kind = get_or o 4 0; items = u32_at o 8; texts = u16_at o 12 }

unfoldable pub wide_type_good : ℕ → Bool
wide_type_good k = leb 1 k && leb k 7

unfoldable pub wide_bytes : ℕ → ℕ → ℕ
wide_bytes len k = cond (eqb len (wide_header_size + pair_size * k)) len (cond (eqb len k) (object_header_size + pair_size * len) 0)

abbrev pub bytes_by : WideSlot → WideObject → ℕ
bytes_by t h = wide_bytes t.len (h.items + h.texts)

unfoldable pub wide_header_fits : WideObject → WideSlot → Bool
wide_header_fits h t = eqb h.sym t.sym && (wide_type_good h.kind && not (eqb (bytes_by t h) 0))

unfoldable pub wide_fits : (ℕ → ℕ → Bool) → ℕ → WideSlot → WideObject → Bool
wide_fits touch used t h =
    wide_header_fits h t && (inside used (bytes_by t h) t.position && not (touch t.position (bytes_by t h)))

abbrev pub wide_object_good : (ℕ → ℕ → Bool) → List ℕ → ℕ → WideSlot → Bool
wide_object_good touch m used t = wide_fits touch used t (wide_object_of (drop t.position m))

unfoldable pub wide_slot_good : (ℕ → ℕ → Bool) → List ℕ → ℕ → WideSlot → Bool
wide_slot_good touch m used t =
    le_z (value_of t.left) (value_of t.right)
    && (le_z (value_of t.bottom) (value_of t.top) && wide_object_good touch m used t)

unfoldable pub wide_bad_slot : (ℕ → ℕ → Bool) → List ℕ → ℕ → ℕ → Bool
wide_bad_slot touch m used p = wide_live (wide_slot_of m p) && not (wide_slot_good touch m used (wide_slot_of m p))
