-- The worked examples of document 01 that are to be proved, as one table: the seven coordinates, the two windows, and the lengths 48, 6,236 and 6,276.
--     empty7          an empty map of version 7, 48 bytes
--     point_object     a 40-byte object: Sym 101, type 1, one pair, (5, 5)
--     empty_journal    a journal with room for two records
--     first_add        the outcome of adding the object to the empty map, in a buffer that holds `rest` behind it
--     second_add       the outcome of adding it once more
use Rattle.std.specs.Prelude.{Ok}
use Rattle.std.specs.Prelude.{ℕ, ◌≤◌, true, false, List, [], ◌∷◌, ◌++◌, map, ◌≡◌, pos, negsuc, length, replicate}
use Rattle.numbers.specs.Bytes.{Bytes}
use Rattle.numbers.specs.Coordinates.{value_of}
use Rattle.slots.specs.declared.Slot.{Slot}
use Rattle.windows.specs.declared.Window.{Window}
use Rattle.windows.specs.Windows.{sides_of, meets_window}
use Rattle.judge.specs.Judging.{version_of}
use Rattle.accept.specs.Verdicts.{verdict}
use Rattle.add.specs.Objects.{slot_for}
use Rattle.edit.specs.declared.EditAnswer.TheVariants.{Done}
use Rattle.edit.specs.Edits.{Outcome}
use Rattle.add.specs.Adds.{new_length, added_map, added}
use Rattle.promise.specs.Runs.{Good}

abbrev pub empty7 : List ℕ
empty7 = 173 ∷ 12 ∷ 7 ∷ 0 ∷ 7 ∷ 0 ∷ replicate 42 0

abbrev pub point_object : List ℕ
point_object = 101 ∷ 0 ∷ 1 ∷ 0 ∷ 1 ∷ 0 ∷ 0 ∷ 0 ∷ (replicate 24 0 ++ (0 ∷ 5 ∷ 0 ∷ 0 ∷ 0 ∷ 5 ∷ 0 ∷ 0 ∷ []))

abbrev pub point_slot : Slot
point_slot = record { left = 1280; bottom = 1280; right = 1280; top = 1280; position = 48; len = 40; sym = 101 }

abbrev pub square : ℕ → ℕ → Window
square a b = record { left = pos a; bottom = pos a; right = pos b; top = pos b }

abbrev pub empty_journal : List ℕ
empty_journal = replicate 32 0

abbrev pub first_add : List ℕ → Outcome
first_add rest = added (empty7 ++ rest) 48 empty_journal 1 point_object

abbrev pub second_add : List ℕ → Outcome
second_add rest = added (first_add rest).map 6236 (first_add rest).journal 2 point_object

pub record Table : Type 0 where
  -- raw 25602, 255, -1, -256, -257, 2147483647, -2147483648, as their 32 bits
  pub coordinates : map value_of (25602 ∷ 255 ∷ 4294967295 ∷ 4294967040 ∷ 4294967039 ∷ 2147483647 ∷ 2147483648 ∷ [])
      ≡ pos 100 ∷ pos 0 ∷ negsuc 0 ∷ negsuc 0 ∷ negsuc 1 ∷ pos 8388607 ∷ negsuc 8388607 ∷ []
  -- point (5, 5): found by 5..10 both ways, not by 6..10
  pub found : meets_window (sides_of point_slot) (square 5 10) ≡ true
  pub missed : meets_window (sides_of point_slot) (square 6 10) ≡ false
  -- the empty map of 48 bytes is accepted; its slot for the object; the length after one add; and after a second
  pub accepted : verdict empty7 48 ≡ Ok 0
  pub slot : slot_for 7 point_object 48 ≡ point_slot
  pub first : new_length empty7 48 0 point_object ≡ 6236
  pub second : (m : List ℕ) → verdict m 48 ≡ Ok 0 → version_of m ≡ 7 → 6236 ≤ length m → new_length (added_map m 48 0 point_object) 6236 1 point_object ≡ 6276
  -- and so the two adds answer, in every buffer with room
  pub first-answer : (rest : List ℕ) → 6236 ≤ length (empty7 ++ rest) → (first_add rest).answer ≡ Ok (Done 0 6236)
  pub second-answer : (rest : List ℕ) → 6276 ≤ length (empty7 ++ rest) → (second_add rest).answer ≡ Ok (Done 1 6276)
  -- a run can begin: the empty map with its journal, in every buffer of bytes, is a good state. So the promises over runs, which begin in one, say something
  pub good : (rest : List ℕ) → Bytes rest → Good (record { map = empty7 ++ rest; used = 48; journal = empty_journal })
