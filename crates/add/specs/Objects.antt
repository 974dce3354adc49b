-- The object o that an add offers to a map of version v.
--     pairs_in o               nItem + nText
--     pair_limit v             k is at most 8,187 in 6 and 7 (Len 65,528) and 32,768 in 8
--     offered_good v o         32 + 8k bytes, k = nItem + nText, nItem at least 1, type 1 to 5, Sym not 0, k within the limit
--     slot_for v o p           the slot of the object stored at p: the least rectangle over its first nItem pairs, position, Len, Sym
--     block_for t              an index block, zeroed but for slot 0, which is t
--     is_object m used t o     whether slot t's object starts at 48 or later, lies inside and equals o. It has Len bytes in 6 and 7 whatever Len is, and 32 + 8 x
--                             Len in 8
use Rattle.std.specs.Prelude.{ℕ, ◌+◌, ◌-◌, ◌*◌, Bool, not, cond, ◌&&◌, List, ◌++◌, eqb, leb, length, take, drop, replicate}
use Rattle.numbers.specs.Bytes.{same_bytes}
use Rattle.slots.specs.declared.Slot.{Slot}
use Rattle.records.specs.Sizes.{object_header_size, pair_size, link_size, index_block_size, slot_size, most_pairs8, most_pairs7}
use Rattle.slots.specs.Slots.{slot_bytes, bytes_in, len_of}
use Rattle.slots.specs.Objects.{object_of, type_good}
use Rattle.windows.specs.Rectangles.{rectangle_of}
use Rattle.chain.specs.Chains.{inside}
use Rattle.judge.specs.Judging.{version_of}

abbrev pub pairs_in : List ℕ → ℕ
pairs_in o = (object_of o).items + (object_of o).texts

abbrev pub pair_limit : ℕ → ℕ
pair_limit v = cond (eqb v 8) most_pairs8 most_pairs7

unfoldable pub offered_good : ℕ → List ℕ → Bool
offered_good v o =
    leb (object_header_size + pair_size) (length o)
    && (eqb (length o) (object_header_size + pair_size * pairs_in o)
    && (leb 1 (object_of o).items
    && (type_good (object_of o).kind && (not (eqb (object_of o).sym 0) && leb (pairs_in o) (pair_limit v)))))

unfoldable pub slot_for : ℕ → List ℕ → ℕ → Slot
slot_for v o p =
    record {
      left = (rectangle_of o (object_of o).items).left;
      bottom = (rectangle_of o (object_of o).items).bottom;
      right = (rectangle_of o (object_of o).items).right;
      top = (rectangle_of o (object_of o).items).top;
      position = p;
      len = len_of v (pairs_in o);
      sym = (object_of o).sym;
    }

unfoldable pub block_for : Slot → List ℕ
block_for t = replicate link_size 0 ++ (slot_bytes t ++ replicate (index_block_size - link_size - slot_size) 0)

unfoldable pub is_object : List ℕ → ℕ → Slot → List ℕ → Bool
is_object m used t o =
    inside used (bytes_in (version_of m) t.len) t.position
    && same_bytes (take (bytes_in (version_of m) t.len) (drop t.position m)) o
