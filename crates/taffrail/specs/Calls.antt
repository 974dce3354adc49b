-- The results of the C interface. Each is the call's own, with its answer by the number that is returned and the numbers that are written.
--     window_from l b r t     the window of four numbers
--     CChecked               of the check
--     CSearched              of a search with a window w and a lent list l, which holds `after` afterwards
--     Wrote a ..             the number that is returned and the four numbers that are written are those of an edit's answer a
--     CEdited o ..           of an edit whose outcome is o, with the map m and the journal j afterwards
--     CAdded, CRemoved, CReinstated     of the three edits
use Rattle.std.specs.Prelude.{ℕ, ◌≡◌, List, ℤ, length, Result}
use Rattle.refusals.specs.declared.Refusal.{Refusal}
use Rattle.refusals.specs.Refusals.{answer_number, answer_place}
use Rattle.windows.specs.declared.Window.{Window}
use Rattle.accept.specs.Verdicts.{verdict}
use Rattle.find.specs.Searches.{answer_of, list_after, count_of, blocks_of}
use Rattle.edit.specs.declared.EditAnswer.{EditAnswer}
use Rattle.edit.specs.Edits.{Outcome, before_of, slot_no, length_of}
use Rattle.add.specs.Adds.{added}
use Rattle.change.specs.Changes.{removed, reinstated}

abbrev pub window_from : ℤ → ℤ → ℤ → ℤ → Window
window_from l b r t = record { left = l; bottom = b; right = r; top = t }

abbrev pub CChecked : List ℕ → ℕ → ℕ → ℕ → Type 0
CChecked m used number place = (number ≡ answer_number (verdict m used)) × (place ≡ answer_place (verdict m used))

abbrev pub CSearched : List ℕ → ℕ → Window → List ℕ → ℕ → ℕ → ℕ → ℕ → List ℕ → Type 0
CSearched m used w l number place count blocks after =
    (number ≡ answer_number (answer_of m used w (length l)))
    × (place ≡ answer_place (answer_of m used w (length l)))
    × (count ≡ count_of (answer_of m used w (length l)))
    × (blocks ≡ blocks_of (answer_of m used w (length l)))
    × (after ≡ list_after m used w l)

pub record Wrote (a : Result EditAnswer Refusal) (number place before slot new_length : ℕ) : Type 0 where
  pub is_number : number ≡ answer_number a
  pub is-place : place ≡ answer_place a
  pub is-before : before ≡ before_of a
  pub is-slot : slot ≡ slot_no a
  pub is-length : new_length ≡ length_of a

abbrev pub CEdited : Outcome → ℕ → ℕ → ℕ → ℕ → ℕ → List ℕ → List ℕ → Type 0
CEdited o number place before slot new_length m j = Wrote o.answer number place before slot new_length × (m ≡ o.map) × (j ≡ o.journal)

abbrev pub CAdded : List ℕ → ℕ → List ℕ → ℕ → List ℕ → ℕ → ℕ → ℕ → ℕ → ℕ → List ℕ → List ℕ → Type 0
CAdded m used j e o = CEdited (added m used j e o)

abbrev pub CRemoved : List ℕ → ℕ → List ℕ → ℕ → ℕ → ℕ → ℕ → ℕ → ℕ → ℕ → List ℕ → List ℕ → Type 0
CRemoved m used j e s = CEdited (removed m used j e s)

abbrev pub CReinstated : List ℕ → ℕ → List ℕ → ℕ → ℕ → ℕ → ℕ → ℕ → ℕ → ℕ → List ℕ → List ℕ → Type 0
CReinstated m used j e s = CEdited (reinstated m used j e s)
