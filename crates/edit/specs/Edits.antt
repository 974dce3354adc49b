-- What the three edits have in common, each under a journal j and an edit number e, on the first `used` bytes of a buffer m. Everything is decided on the map
-- and the journal as they were; a refusal and "done before" change nothing.
--     before_of, slot_no, length_of     document 01's values of an answer, beside its number and place. In a refusal they are 0
--     Outcome                the answer, and every byte of the map's buffer and of the journal afterwards
--     Edited o a m j         the result of an edit whose outcome is o: its answer a, and the map m and the journal j afterwards
--     start_of, begun         1 to 7; then 17; then 13; then a number that is held (`repeat`, with the record's kind and slot) or a new one (`fresh`)
use Rattle.std.specs.Prelude.{ℕ, cond, ◌≡◌, List, Result, Ok, Err}
use Rattle.records.specs.Headers.{is_wide}
use Rattle.judge.specs.Judging.{version_of}
use Rattle.refusals.specs.declared.Refusal.{Refusal}
use Rattle.refusals.specs.declared.Refusal.TheVariants.{WideMap}
use Rattle.accept.specs.Verdicts.{verdict}
use Rattle.journal.specs.declared.JournalLook.{JournalLook}
use Rattle.journal.specs.declared.JournalLook.TheVariants.{Held, New}
use Rattle.journal.specs.Journals.{looked}
use Rattle.edit.specs.declared.EditAnswer.{EditAnswer}
use Rattle.edit.specs.declared.EditAnswer.TheVariants.{Done, Before}
use Rattle.edit.specs.declared.EditStart.{EditStart}
use Rattle.edit.specs.declared.EditStart.TheVariants as starts
use Rattle.accept.specs.Slots.{free_slot}

abbrev pub before_of : Result EditAnswer Refusal → ℕ
before_of (Ok (Done s l)) = 0
before_of (Ok (Before s l)) = 1
before_of (Err e) = 0

abbrev pub slot_no : Result EditAnswer Refusal → ℕ
slot_no (Ok (Done s l)) = s
slot_no (Ok (Before s l)) = s
slot_no (Err e) = 0

abbrev pub length_of : Result EditAnswer Refusal → ℕ
length_of (Ok (Done s l)) = l
length_of (Ok (Before s l)) = l
length_of (Err e) = 0

pub record Outcome : Type 0 where
  pub answer : Result EditAnswer Refusal
  pub map : List ℕ
  pub journal : List ℕ

abbrev pub Edited : Outcome → Result EditAnswer Refusal → List ℕ → List ℕ → Type 0
Edited o a m j = (a ≡ o.answer) × (m ≡ o.map) × (j ≡ o.journal)

-- an answer that changes nothing
abbrev pub saying : List ℕ → List ℕ → Result EditAnswer Refusal → Outcome
saying m j a = record { answer = a; map = m; journal = j }

abbrev pub after_look : List ℕ → ℕ → Result JournalLook Refusal → Result EditStart Refusal
-- 13: "journal malformed, or edit number 0"
after_look m n (Err e) = Err e
after_look m n (Ok (Held kind slot)) = Ok (starts.Held n kind slot)
after_look m n (Ok (New k)) = Ok (starts.New n k (free_slot m n))

abbrev pub after_check : List ℕ → List ℕ → ℕ → Result ℕ Refusal → Result EditStart Refusal
-- 1 to 7: the check's
after_check m j e (Err r) = Err r
-- 17: "for an edit [..] on them", which are maps of 9 to 11, "right after 1 to 7"
after_check m j e (Ok n) = cond (is_wide (version_of m)) (Err WideMap) (after_look m n (looked j m n e))

unfoldable pub start_of : List ℕ → ℕ → List ℕ → ℕ → Result EditStart Refusal
start_of m used j e = after_check m j e (verdict m used)

abbrev pub after : List ℕ → List ℕ → (ℕ → ℕ → ℕ → Outcome) → (ℕ → Outcome) → Result EditStart Refusal → Outcome
after m j repeat fresh (Err e) = saying m j (Err e)
after m j repeat fresh (Ok (starts.Held n kind slot)) = repeat n kind slot
after m j repeat fresh (Ok (starts.New n k f)) = fresh n

abbrev pub begun : List ℕ → ℕ → List ℕ → ℕ → (ℕ → ℕ → ℕ → Outcome) → (ℕ → Outcome) → Outcome
begun m used j e repeat fresh = after m j repeat fresh (start_of m used j e)
