-- Runs of calls on one map and one journal.
--     State               the buffer that holds the map, the length in use, and the journal
--     map_of st            the map: the first bytes of the buffer, as many as are in use
--     Call                an add, a removal, a reinstatement or a search, with its arguments; a search's are its window and the lent list of 32-bit numbers
--     Said                what a call says: an edit's answer; or a search's answer, and its list afterwards
--     outcome st c        what a call says, and the map's buffer and the journal afterwards, by the call's own definition
--     says_done, slot_said  whether it says that an edit is done: by document 01's numbers, 0 and not "done before"; the slot that it names
--     step st c           the state after one call: the next call gets the length that the last done edit returned
--     Event, turn st x    a call is made, or the host hands in another buffer; and the state after it
--     run st xs           the state after a list of events
--     is_done st c         whether call c, made in state st, is done
--     done_in st xs        those of the calls that are done, in order
--     records_in st xs     the journal records of those
--     applied c d         what an edit means: the bytes of a map before, and after
--     grown d n o         the map d of n index blocks with the object o behind it, and with its slot: in the first free one, or in a new block behind the object
--     blocks_in m used     the number of index blocks of an accepted map
--     is_live_in st s       whether slot s is live
--     content_of m s       a slot's contents: its fields, which are its 24 bytes, and its object's bytes
--     Good st             the map is accepted and of 6 to 8, and the journal is well formed for it
--     Sent c              the arguments are what a machine can send: numbers of 32 bits, bytes
--     HoldsMap st b       buffer b holds the map of st
--     Fair st xs          what may happen between calls and what may not: calls carry what a machine can send, and a buffer that is handed in holds the map
use Rattle.std.specs.Prelude.{Result, Ok, Err}
use Rattle.refusals.specs.declared.Refusal.{Refusal}
use Rattle.refusals.specs.Refusals.{answer_number}
use Rattle.std.specs.Prelude.{ℕ, ◌+◌, ◌^◌, ◌<◌, Bool, true, false, cond, ◌&&◌, List, [], ◌∷◌, ◌++◌, ◌≡◌, eqb, length, take, drop}
use Rattle.std.proofs.lemmas.List.Edits.{sets}
use Rattle.numbers.specs.Bytes.{Bytes, bytes_of}
use Rattle.slots.specs.declared.Slot.{Slot}
use Rattle.slots.specs.declared.State.TheVariants.{Live}
use Rattle.records.specs.declared.JournalRecord.{JournalRecord}
use Rattle.windows.specs.declared.Window.{Window}
use Rattle.slots.specs.Slots.{bytes_in, slot_bytes}
use Rattle.records.specs.Headers.{index_head, is_wide}
use Rattle.chain.specs.Chains.{place}
use Rattle.judge.specs.Rules.{slot_at}
use Rattle.records.specs.Journals.{record_for}
use Rattle.judge.specs.Judging.{version_of}
use Rattle.accept.specs.Verdicts.{verdict}
use Rattle.find.specs.declared.Listed.{Listed}
use Rattle.find.specs.Searches.{answer_of, list_after}
use Rattle.journal.specs.Journals.{well_formed}
use Rattle.edit.specs.declared.EditAnswer.{EditAnswer}
use Rattle.accept.specs.Slots.{slot_in, free_slot}
use Rattle.change.specs.Slots.{has_state, with_sym, object_sym}
use Rattle.edit.specs.Edits as edits
use Rattle.add.specs.Objects.{block_for}
use Rattle.add.specs.Adds.{added, is_free, slot_added}
use Rattle.change.specs.Changes.{removed, reinstated}
use Rattle.edit.specs.Edits.{before_of, slot_no, length_of}

abbrev pub accepted_blocks : Result ℕ Refusal → ℕ
accepted_blocks (Ok n) = n
accepted_blocks (Err x) = 0

abbrev pub blocks_in : List ℕ → ℕ → ℕ
blocks_in m used = accepted_blocks (verdict m used)

pub record State : Type 0 where
  pub map : List ℕ
  pub used : ℕ
  pub journal : List ℕ

pub data Call : Type 0 where
  add : ℕ → List ℕ → Call
  remove : ℕ → ℕ → Call
  reinstate : ℕ → ℕ → Call
  search : Window → List ℕ → Call

pub data Said : Type 0 where
  edited : Result EditAnswer Refusal → Said
  searched : Result Listed Refusal → List ℕ → Said

pub record CallOutcome : Type 0 where
  pub said : Said
  pub map : List ℕ
  pub journal : List ℕ

abbrev pub of_edit : edits.Outcome → CallOutcome
of_edit o = record { said = edited o.answer; map = o.map; journal = o.journal }

abbrev pub outcome : State → Call → CallOutcome
outcome st (add e o) = of_edit (added st.map st.used st.journal e o)
outcome st (remove e s) = of_edit (removed st.map st.used st.journal e s)
outcome st (reinstate e s) = of_edit (reinstated st.map st.used st.journal e s)
outcome st (search w l) =
    record {
      said = searched (answer_of st.map st.used w (length l)) (list_after st.map st.used w l);
      map = st.map;
      journal = st.journal;
    }

abbrev pub says_done : Said → Bool
says_done (edited a) = eqb (answer_number a) 0 && eqb (before_of a) 0
says_done (searched a l) = false

abbrev pub slot_said : Said → ℕ
slot_said (edited a) = slot_no a
slot_said (searched a l) = 0

abbrev pub length_said : Said → ℕ
length_said (edited a) = length_of a
length_said (searched a l) = 0

abbrev pub length_after : Said → ℕ → ℕ
length_after s used = cond (says_done s) (length_said s) used

abbrev pub next : ℕ → CallOutcome → State
next used out = record { map = out.map; used = length_after out.said used; journal = out.journal }

unfoldable pub step : State → Call → State
step st c = next st.used (outcome st c)

pub data Event : Type 0 where
  made : Call → Event
  handed : List ℕ → Event

abbrev pub with_buffer : State → List ℕ → State
with_buffer st b = record { map = b; used = st.used; journal = st.journal }

abbrev pub turn : State → Event → State
turn st (made c) = step st c
turn st (handed b) = with_buffer st b

unfoldable pub run : State → List Event → State
run st [] = st
run st (x ∷ xs) = run (turn st x) xs

unfoldable pub is_done : State → Call → Bool
is_done st c = says_done (outcome st c).said

unfoldable pub done_in : State → List Event → List Call
done_in st [] = []
done_in st (made c ∷ xs) = cond (is_done st c) (c ∷ done_in (step st c) xs) (done_in (step st c) xs)
done_in st (handed b ∷ xs) = done_in (with_buffer st b) xs

abbrev pub record_due : Call → ℕ → JournalRecord
record_due (add e o) s = record_for e 1 s
record_due (remove e t) s = record_for e 2 s
record_due (reinstate e t) s = record_for e 3 s
record_due (search w l) s = record_for 0 0 0

unfoldable pub records_in : State → List Event → List JournalRecord
records_in st [] = []
records_in st (made c ∷ xs) = cond (is_done st c) (record_due c (slot_said (outcome st c).said) ∷ records_in (step st c) xs) (records_in (step st c) xs)
records_in st (handed b ∷ xs) = records_in (with_buffer st b) xs

abbrev pub map_of : State → List ℕ
map_of st = take st.used st.map

unfoldable pub grown : List ℕ → ℕ → List ℕ → List ℕ
grown d n o =
    cond (is_free d n)
    (sets (d ++ o) (slot_at d (free_slot d n)) (slot_bytes (slot_added d (length d) o)))
    (sets (d ++ (o ++ block_for (slot_added d (length d) o))) (place index_head d n) (bytes_of 4 (length d + length o)))

unfoldable pub applied : Call → List ℕ → List ℕ
applied (add e o) d = grown d (blocks_in d (length d)) o
applied (remove e s) d = with_sym d s 0
applied (reinstate e s) d = with_sym d s (object_sym d s)
applied (search w l) d = d

unfoldable pub applied_all : List Call → List ℕ → List ℕ
applied_all [] d = d
applied_all (c ∷ cs) d = applied_all cs (applied c d)

unfoldable pub is_live_in : State → ℕ → Bool
is_live_in st s = has_state Live st.map (blocks_in st.map st.used) s

pub record Content : Type 0 where
  pub slot : Slot
  pub object : List ℕ

unfoldable pub content_of : List ℕ → ℕ → Content
content_of m s =
    record { slot = slot_in m s; object = take (bytes_in (version_of m) (slot_in m s).len) (drop (slot_in m s).position m) }

pub record Good (st : State) : Type 0 where
  pub blocks : ℕ
  pub accepted : verdict st.map st.used ≡ Ok blocks
  pub narrow : is_wide (version_of st.map) ≡ false
  pub well : well_formed st.journal st.map blocks ≡ true
  pub map-bytes : Bytes st.map
  pub journal-bytes : Bytes st.journal

abbrev pub Sent : Call → Type 0
Sent (add e o) = (e < 2 ^ 32) × Bytes o
Sent (remove e s) = (e < 2 ^ 32) × (s < 2 ^ 32)
Sent (reinstate e s) = (e < 2 ^ 32) × (s < 2 ^ 32)
Sent (search w l) = Unit {0}

abbrev pub HoldsMap : State → List ℕ → Type 0
HoldsMap st b = take st.used b ≡ map_of st

abbrev pub May : State → Event → Type 0
May st (made c) = Sent c
May st (handed b) = Bytes b × HoldsMap st b

abbrev pub Fair : State → List Event → Type 0
Fair st [] = Unit {0}
Fair st (x ∷ xs) = May st x × Fair (turn st x) xs
