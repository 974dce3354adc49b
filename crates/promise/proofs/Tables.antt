-- The worked examples, by computation; the length after the second add by the law of an add, since slot 0 is then taken and slot 1 free; and what the two adds
-- answer, since the journal stays well formed. Assumes nothing.
use Prim.Native.Nat.{ℕ, ◌*◌, ◌≤◌}
use mathlib.Core.Bool.{true, false}
use mathlib.Core.Path.{◌≡◌, refl}
use mathlib.Core.List.{List, [], ◌∷◌, ◌++◌}
use native.Mathlib.Omega.{arith}
use lib.ListN.{length}
use lib.Seq.{length-sets}
use borrow.Author.Tests.{le-leb}
use Rattle.std.specs.Prelude.{Ok}
use Rattle.numbers.specs.Bytes.{Bytes, le_at, bytes_of}
use Rattle.numbers.specs.Below.{any, first}
use Rattle.numbers.specs.Coordinates.{signed, value_of, unmarked}
use Rattle.numbers.proofs.Below.{first-is}
use Rattle.slots.specs.declared.State.TheVariants.{Free}
use Rattle.records.specs.declared.JournalRecord.{JournalRecord}
use Rattle.records.specs.Journals.{record_of, record_bytes, record_for, is_unused, shape_good, kind_good}
use Rattle.records.specs.Headers.{header_of, pair_good, version_good, is_wide}
use Rattle.records.proofs.Journals.{RecordFits}
use Rattle.slots.specs.Slots.{state_of, same_state, len_of}
use Rattle.slots.specs.Objects.{object_of, type_good}
use Rattle.windows.specs.Rectangles.{x_of, y_of, cover_to, without_marks, rectangle_of}
use Rattle.windows.specs.Windows.{meets_window}
use Rattle.chain.specs.Chains.{place, block, stops, taken, walked}
use Rattle.judge.specs.Judging.{version_of, length_good, part_good}
use Rattle.accept.specs.Verdicts.{cells_judged, parts_judged, fields_judged, header_judged, verdict, Editable, after_index_of, entries_judged_of, slots_judged_of, symbols_judged_of}
use Rattle.accept.proofs.Accepting.{accepted-tells, editable-is}
use Rattle.frame.proofs.Frame.{version-same}
use Rattle.journal.specs.Journals.{record_in, in_use, bad_record, well_formed, holder, is_held, is_full, appended}
use Rattle.journal.proofs.Journals.{appended-well}
use Rattle.edit.specs.declared.EditAnswer.TheVariants.{Done}
use Rattle.accept.specs.Slots.{slot_in, free_slot}
use Rattle.add.specs.Objects.{offered_good, slot_for}
use Rattle.add.specs.Adds.{new_length, added_map, in_block, added}
use Rattle.add.proofs.Adds.{Grown}
use Rattle.promise.specs.Tables.{empty7, point_object, point_slot, empty_journal, first_add, second_add, Table}
use Rattle.promise.proofs.Bytes.{All, then, bytes-cons, bytes-nil, zero-bytes}
use Rattle.promise.proofs.Steps.{add_done_lem}
use Rattle.promise.proofs.Moves.{Moved, moved-use, moved_here, added-grown, added-moved, blocks_after}
use Rattle.promise.specs.Runs.{Good}

accepted : verdict empty7 48 ≡ Ok 0
unfolding verdict header_judged fields_judged parts_judged length_good header_of version_good is_wide pair_good part_good le_at after_index_of symbols_judged_of entries_judged_of slots_judged_of cells_judged walked taken first any stops block place
accepted = refl

-- the same in any buffer
accepted-in : (rest : List ℕ) → verdict (empty7 ++ rest) 48 ≡ Ok 0
unfolding verdict header_judged fields_judged parts_judged length_good header_of version_good is_wide pair_good part_good le_at after_index_of symbols_judged_of entries_judged_of slots_judged_of cells_judged walked taken first any stops block place
accepted-in rest = rw (le-leb 48 (length (empty7 ++ rest)) (omega arith))

seven-in : (rest : List ℕ) → version_of (empty7 ++ rest) ≡ 7
unfolding le_at
seven-in rest = refl

seven-narrow : is_wide 7 ≡ false
unfolding is_wide
seven-narrow = refl

slot : slot_for 7 point_object 48 ≡ point_slot
unfolding slot_for object_of le_at len_of rectangle_of without_marks cover_to x_of y_of unmarked
slot = refl

first-length : new_length empty7 48 0 point_object ≡ 6236
unfolding new_length free_slot first
first-length = refl

point-bytes : Bytes point_object
point-bytes = all.all
  where
    pair : All (0 ∷ 5 ∷ 0 ∷ 0 ∷ 0 ∷ 5 ∷ 0 ∷ 0 ∷ [])
    pair =
        bytes-cons (omega arith) (bytes-cons (omega arith) (bytes-cons (omega arith) (bytes-cons (omega arith)
        (bytes-cons (omega arith) (bytes-cons (omega arith) (bytes-cons (omega arith) (bytes-cons (omega arith) bytes-nil)))))))

    all : All point_object
    all =
        bytes-cons (omega arith) (bytes-cons (omega arith) (bytes-cons (omega arith) (bytes-cons (omega arith)
        (bytes-cons (omega arith) (bytes-cons (omega arith) (bytes-cons (omega arith) (bytes-cons (omega arith) (then (zero-bytes 24) pair))))))))

offered : offered_good 7 point_object ≡ true
unfolding offered_good object_of le_at type_good
offered = refl

-- the empty journal, and with the record of the first add
abbrev first_record : JournalRecord
first_record = record_for 1 1 0

empty-room : (is_held empty_journal 1 ≡ false) × (is_full empty_journal ≡ false)
unfolding is_held holder is_full in_use first any record_in record_of is_unused le_at
empty-room = (refl, refl)

empty-well : (m : List ℕ) → well_formed empty_journal m 0 ≡ true
unfolding well_formed bad_record in_use first any record_in record_of is_unused le_at
empty-well m = refl

first-room : (is_held (appended empty_journal first_record) 2 ≡ false) × (is_full (appended empty_journal first_record) ≡ false)
unfolding appended record_bytes bytes_of is_held holder is_full in_use first any record_in record_of is_unused le_at
first-room = (refl, refl)

first_fits : RecordFits first_record
first_fits = record { number = omega arith; kind = omega arith; slot = omega arith; zeros = omega arith }

first-shape : shape_good first_record ≡ true
unfolding shape_good kind_good
first-shape = refl

module _ (m : List ℕ) (v : verdict m 48 ≡ Ok 0) (seven : version_of m ≡ 7) (room : 6236 ≤ length m) where
  m' : List ℕ
  m' = added_map m 48 0 point_object

  editable : Editable m 48 0
  editable = (v, rw seven seven-narrow)

  good : offered_good (version_of m) point_object ≡ true
  good = rw seven offered

  grown : Grown m m' 48 6236 0 1 0 point_object
  unfolding m' blocks_after new_length free_slot first
  grown = added-grown (accepted-tells m 48 0 editable) point_object point-bytes good (omega arith) room

  -- slot 0 is taken, and slot 1 is free
  taken-zero : same_state Free (state_of (slot_in m' 0)) ≡ false
  taken-zero = rw grown.new added-slot
    where
      added-slot : same_state Free (state_of (slot_for (version_of m) point_object 48)) ≡ false
      added-slot = rw (seven, slot) (unfold state_of in refl)

  free_one : same_state Free (state_of (slot_in m' 1)) ≡ true
  unfolding state_of
  free_one = let e : (slot_in m' 1).len ≡ 0 = grown.free 1 (omega arith) (omega arith) (λ q. omega arith) in rw e

  free-is : free_slot m' 1 ≡ 1
  unfolding free_slot
  free-is =
      first-is (λ s. same_state Free (state_of (slot_in m' s))) (256 * 1) 1 (omega arith)
      (λ i l. let e : i ≡ 0 = omega arith in rw e taken-zero)
      (λ l. free_one)

  pub length_two : new_length (added_map m 48 0 point_object) 6236 1 point_object ≡ 6276
  unfolding new_length m'
  length_two = rw free-is

  -- ---- what the adds answer

  one : added m 48 empty_journal 1 point_object ≡ record { answer = Ok (Done 0 6236); map = m'; journal = appended empty_journal first_record }
  unfolding m' new_length free_slot first
  one = add_done_lem m 48 empty_journal 1 point_object 0 editable (λ q. omega arith) empty-room.0 (empty-well m) good (omega arith) room empty-room.1

  moved : Moved m m' 48 6236 0 1 0
  unfolding m' blocks_after new_length free_slot first
  moved = added-moved (accepted-tells m 48 0 editable) point_object point-bytes good (omega arith) room

  first-well : well_formed (appended empty_journal first_record) m' 1 ≡ true
  first-well =
      appended-well empty_journal m m' 0 1 first_record (empty-well m) empty-room.1 empty-room.0 first_fits first-shape (moved-use moved) (moved_here moved)

  length-same : length m' ≡ length m
  unfolding m' added_map in_block free_slot first
  length-same = rw (length-sets, length-sets, length-sets)

  two : 6276 ≤ length m → (added m' 6236 (appended empty_journal first_record) 2 point_object).answer ≡ Ok (Done 1 6276)
  unfolding m'
  two more =
      let l = length_two in
      rw (
        add_done_lem m' 6236 (appended empty_journal first_record) 2 point_object 1 (editable-is grown.holds) (λ q. omega arith) first-room.0 first-well
            (rw (version-same grown.change) good) (omega (arith, l)) (omega (arith, l, length-same)) first-room.1,
        free-is,
        l,
      )

-- ---- the same of the empty map in a buffer

first-answer : (rest : List ℕ) → 6236 ≤ length (empty7 ++ rest) → (first_add rest).answer ≡ Ok (Done 0 6236)
first-answer rest room = rw (one (empty7 ++ rest) (accepted-in rest) (seven-in rest) room)

second-answer : (rest : List ℕ) → 6276 ≤ length (empty7 ++ rest) → (second_add rest).answer ≡ Ok (Done 1 6276)
second-answer rest room =
    let v = accepted-in rest in
    let seven = seven-in rest in
    let enough : 6236 ≤ length (empty7 ++ rest) = omega arith in
    rw (one (empty7 ++ rest) v seven enough) (two (empty7 ++ rest) v seven enough room)

good-state : (rest : List ℕ) → Bytes rest → Good (record { map = empty7 ++ rest; used = 48; journal = empty_journal })
good-state rest b =
    record {
      blocks = 0;
      accepted = accepted-in rest;
      narrow = rw (seven-in rest) seven-narrow;
      well = empty-well (empty7 ++ rest);
      map-bytes = (then {ys = rest} empty-bytes (record { all = b })).all;
      journal-bytes = (zero-bytes 32).all;
    }
  where
    empty-bytes : All empty7
    empty-bytes =
        bytes-cons (omega arith) (bytes-cons (omega arith) (bytes-cons (omega arith)
        (bytes-cons (omega arith) (bytes-cons (omega arith) (bytes-cons (omega arith) (zero-bytes 42))))))

pub table : Table
unfolding value_of signed meets_window
table =
    record {
      coordinates = refl;
      found = refl;
      missed = refl;
      accepted = accepted;
      slot = slot;
      first = first-length;
      second = length_two;
      first-answer = first-answer;
      second-answer = second-answer;
      good = good-state;
    }
