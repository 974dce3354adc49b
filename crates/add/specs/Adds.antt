-- Add, under a journal j and an edit number e, on the first `used` bytes of a buffer m.
--     new_length              an add at the end: the object, and a block behind it where no slot is free
--     added_map               the map after an add: the object at the old end; and its slot in the first free one, or in a new block behind the object to which the
--                            chain's last link, or the header's, points
--     repeat_add              an add under a number that is held: an add whose slot's object equals the offered bytes is "done before", anything else 14
--     fresh_add, added        the add: 10, then 11, then 15, then done
--     Added                  its result: the answer a, and the map m' and the journal j' afterwards
use Rattle.std.specs.Prelude.{ℕ, ◌+◌, ◌*◌, Bool, cond, ◌&&◌, List, eqb, leb, ltb, length, Result, Ok, Err}
use Rattle.refusals.specs.declared.Refusal.{Refusal}
use Rattle.refusals.specs.declared.Refusal.TheVariants.{BadObject, NoRoom, NumberHeld, JournalFull}
use Rattle.std.proofs.lemmas.List.Edits.{sets}
use Rattle.numbers.specs.Bytes.{bytes_of}
use Rattle.slots.specs.declared.Slot.{Slot}
use Rattle.records.specs.Sizes.{index_block_size, map_limit, block_cells}
use Rattle.records.specs.Headers.{index_head}
use Rattle.slots.specs.Slots.{slot_bytes}
use Rattle.records.specs.Journals.{record_for}
use Rattle.chain.specs.Chains.{place}
use Rattle.judge.specs.Rules.{slot_at}
use Rattle.judge.specs.Judging.{version_of}
use Rattle.journal.specs.Journals.{is_full, appended}
use Rattle.edit.specs.declared.EditAnswer.{EditAnswer}
use Rattle.edit.specs.declared.EditAnswer.TheVariants.{Done, Before}
use Rattle.accept.specs.Slots.{slot_in, free_slot}
use Rattle.add.specs.Objects.{offered_good, slot_for, block_for, is_object}
use Rattle.edit.specs.Edits.{Outcome, Edited, saying, begun}

abbrev pub is_free : List ℕ → ℕ → Bool
is_free m n = ltb (free_slot m n) (block_cells * n)

unfoldable pub new_length : List ℕ → ℕ → ℕ → List ℕ → ℕ
new_length m used n o = cond (is_free m n) (used + length o) (used + length o + index_block_size)

abbrev pub slot_added : List ℕ → ℕ → List ℕ → Slot
slot_added m used o = slot_for (version_of m) o used

unfoldable pub in_free : List ℕ → ℕ → ℕ → List ℕ → List ℕ
in_free m used n o =
    -- the object "is stored at the old end", and "all 24 bytes" of the slot "are written"
    sets (sets m used o) (slot_at m (free_slot m n)) (slot_bytes (slot_added m used o))

unfoldable pub in_block : List ℕ → ℕ → ℕ → List ℕ → List ℕ
in_block m used n o =
    -- "If none is free, a new zeroed index block follows the object, the chain's last link (or the header's) points to it, and its slot 0 is used."
    sets (sets (sets m used o) (used + length o) (block_for (slot_added m used o))) (place index_head m n) (bytes_of 4 (used + length o))

unfoldable pub added_map : List ℕ → ℕ → ℕ → List ℕ → List ℕ
added_map m used n o = cond (is_free m n) (in_free m used n o) (in_block m used n o)

unfoldable pub repeat_add : List ℕ → ℕ → List ℕ → List ℕ → ℕ → ℕ → Outcome
repeat_add m used j o k t =
    -- "for an add: the slot's object [..] equals the offered bytes": "done before" with the slot and the length as it is
    cond (eqb k 1 && is_object m used (slot_in m t) o)
    (saying m j (Ok (Before t used)))
    -- 14: held under another kind, or the object differs
    (saying m j (Err NumberHeld))

unfoldable pub fresh_add : List ℕ → ℕ → List ℕ → ℕ → List ℕ → ℕ → Outcome
fresh_add m used j e o n =
    cond (offered_good (version_of m) o)
    (cond (leb (new_length m used n o) map_limit && leb (new_length m used n o) (length m))
    (cond (is_full j)
    -- 15: no record is unused
    (saying m j (Err JournalFull))
    -- done: "It takes the first free slot in slot order." "A done edit returns its slot and the new length."
    (record {
      answer = Ok (Done (free_slot m n) (new_length m used n o));
      map = added_map m used n o;
      journal = appended j (record_for e 1 (free_slot m n));
    }))
    -- 11: "new length over the buffer or 16,777,216"
    (saying m j (Err NoRoom)))
    -- 10: "offered object malformed"
    (saying m j (Err BadObject))

unfoldable pub added : List ℕ → ℕ → List ℕ → ℕ → List ℕ → Outcome
added m used j e o = begun m used j e (λ n k t. repeat_add m used j o k t) (λ n. fresh_add m used j e o n)

abbrev pub Added : List ℕ → ℕ → List ℕ → ℕ → List ℕ → Result EditAnswer Refusal → List ℕ → List ℕ → Type 0
Added m used j e o a m' j' = Edited (added m used j e o) a m' j'
