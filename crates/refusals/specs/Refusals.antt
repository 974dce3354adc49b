-- Document 01's table of refusals.
--     Judged                             the answer of a judge: `good`, or a refusal
--     unless j a                         the refusal that j has, or else the answer a
--     number_of e, place_of e            its number, and its place: 0 where the refusal has none
--     answer_number a, answer_place a    the same of an answer: 0 where the call does not refuse
use Rattle.std.specs.Prelude.{ℕ, Result, Ok, Err}
use Rattle.refusals.specs.declared.Refusal.{Refusal}
use Rattle.refusals.specs.declared.Refusal.TheVariants.{BadLength, BadMark, BadVersion, BadPart, BadIndex, BadSymbol, BadSlot, BadWindow, ShortList, BadObject, NoRoom, WrongState, BadJournal, NumberHeld, JournalFull, WideMap}

abbrev pub Judged : Type 0
Judged = Result (Unit {0}) Refusal

abbrev pub good : Judged
good = Ok tt

abbrev pub unless : {A : Type 0} → Judged → Result A Refusal → Result A Refusal
unless (Ok u) a = a
unless (Err e) a = Err e

abbrev pub number_of : Refusal → ℕ
number_of BadLength = 1
number_of BadMark = 2
number_of BadVersion = 3
number_of (BadPart p) = 4
number_of (BadIndex p) = 5
number_of (BadSymbol p) = 6
number_of (BadSlot p) = 7
number_of BadWindow = 8
number_of (ShortList n) = 9
number_of BadObject = 10
number_of NoRoom = 11
number_of WrongState = 12
number_of BadJournal = 13
number_of NumberHeld = 14
number_of JournalFull = 15
number_of WideMap = 17

abbrev pub place_of : Refusal → ℕ
place_of BadLength = 0
place_of BadMark = 0
place_of BadVersion = 0
place_of (BadPart p) = p
place_of (BadIndex p) = p
place_of (BadSymbol p) = p
place_of (BadSlot p) = p
place_of BadWindow = 0
place_of (ShortList n) = 0
place_of BadObject = 0
place_of NoRoom = 0
place_of WrongState = 0
place_of BadJournal = 0
place_of NumberHeld = 0
place_of JournalFull = 0
place_of WideMap = 0

abbrev pub answer_number : {A : Type 0} → Result A Refusal → ℕ
answer_number (Ok a) = 0
answer_number (Err e) = number_of e

abbrev pub answer_place : {A : Type 0} → Result A Refusal → ℕ
answer_place (Ok a) = 0
answer_place (Err e) = place_of e
