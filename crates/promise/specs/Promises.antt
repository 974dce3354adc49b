-- The customer's third demand (README.md, "The three demands"), sentence by sentence, as statements over runs. The quoted sentences are its words. Each is
-- proved in proofs/ under the same name in small letters. A state is good when its map is accepted and of OCAD 6 to 8, and its journal well formed for it; on a map
-- of 9 to 11 no edit is done (`WideStays`). In a run calls may carry any numbers and bytes that a machine can send, and between two of them the host may put the
-- map into another buffer (`Fair`).
use Rattle.std.specs.Prelude.{Ok, Err}
use Rattle.refusals.specs.declared.Refusal.TheVariants.{BadWindow, WideMap, ShortList}
use Rattle.std.specs.Prelude.{ℕ, ◌+◌, ◌-◌, ◌*◌, ◌/◌, ◌≤◌, ◌<◌, true, false, ◌≡◌, ◌↔◌, List, [], ◌∷◌, ◌++◌, map, length, get_or, take, drop}
use Rattle.numbers.specs.Bytes.{Bytes}
use Rattle.numbers.specs.Ranges.{share}
use Rattle.windows.specs.declared.Window.{Window}
use Rattle.records.specs.declared.JournalRecord.{JournalRecord}
use Rattle.windows.specs.Windows.{window_good, rectangle_at, sides_of, meets_window}
use Rattle.slots.specs.Slots.{slot_of, slot_bytes, bytes_in}
use Rattle.records.specs.Sizes.{header_size, index_block_size, slot_size, journal_record_size, block_cells}
use Rattle.records.specs.Headers.{index_head, is_wide}
use Rattle.wide.specs.Slots.{wide_slot_of, wide_live}
use Rattle.chain.specs.Chains.{block}
use Rattle.judge.specs.Rules.{wide, slot_at, slot_at_of}
use Rattle.judge.specs.Judging.{version_of}
use Rattle.find.specs.Searches.{In}
use Rattle.journal.specs.Journals.{is_held, records_of}
use Rattle.accept.specs.Verdicts.{verdict}
use Rattle.edit.specs.declared.EditAnswer.TheVariants.{Before}
use Rattle.accept.specs.Slots.{slot_in}
use Rattle.change.specs.Slots.{resym, object_sym}
use Rattle.add.specs.Adds.{slot_added}
use Rattle.promise.specs.Runs.{State, Call, add, remove, reinstate, search, Said, edited, searched, outcome, step, Event, made, handed, run, slot_said, is_done, done_in, records_in, blocks_in, map_of, applied_all, is_live_in, content_of, Good, Sent, Fair}

-- ---- "after any run of adds, removals, reinstatements and searches, refused and repeated ones among them, the map is accepted"; and the journal is well
-- formed for it
abbrev pub StaysGood : Type 0
StaysGood = (st : State) (xs : List Event) → Good st → Fair st xs → Good (run st xs)

-- ---- "its index blocks are disjoint and end within (length - 48) / 6148 blocks, rounded down"
pub record Ends (m : List ℕ) (used : ℕ) : Type 0 where
  pub disjoint : (i k : ℕ) → i < blocks_in m used → k < blocks_in m used → (i ≡ k → ⊥) → share (block index_head m i) index_block_size (block index_head m k) index_block_size ≡ false
  pub end : block index_head m (blocks_in m used) ≡ 0
  pub within : blocks_in m used ≤ (used - header_size) / index_block_size

abbrev pub IndexEnds : Type 0
IndexEnds = (st : State) (xs : List Event) → Good st → Fair st xs → Ends (run st xs).map (run st xs).used

-- ---- slot numbers stay: the first chain is a prefix of the last
abbrev pub SlotNumbersStay : Type 0
SlotNumbersStay =
    (st : State) (xs : List Event) → Good st → Fair st xs
    → (blocks_in st.map st.used ≤ blocks_in (run st xs).map (run st xs).used)
    × ((k : ℕ) → k < blocks_in st.map st.used → block index_head (run st xs).map k ≡ block index_head st.map k)

-- ---- "its live slots, with contents, are those of the first map with each edit done here applied once, in the order first done": the whole map is
abbrev pub AppliedOnce : Type 0
AppliedOnce = (st : State) (xs : List Event) → Good st → Fair st xs → map_of (run st xs) ≡ applied_all (done_in st xs) (map_of st)

-- ---- and edit by edit: the live slots with their contents change in the edit's own slot alone
abbrev pub Own : State → Call → ℕ → Type 0
Own st (add e o) s =
    (is_live_in st s ≡ false) × (is_live_in (step st (add e o)) s ≡ true)
    × (content_of (step st (add e o)).map s ≡ record { slot = slot_added st.map st.used o; object = o })
Own st (remove e t) s = (s ≡ t) × (is_live_in st s ≡ true) × (is_live_in (step st (remove e t)) s ≡ false)
Own st (reinstate e t) s =
    (s ≡ t) × (is_live_in st s ≡ false) × (is_live_in (step st (reinstate e t)) s ≡ true)
    × (content_of (step st (reinstate e t)).map s ≡ record { slot = resym (slot_in st.map s) (object_sym st.map s); object = (content_of st.map s).object })
Own st (search w l) s = ⊥

pub record ByOne (st : State) (c : Call) : Type 0 where
  pub slot : ℕ
  pub answered : slot_said (outcome st c).said ≡ slot
  pub own : Own st c slot
  pub others : (d : ℕ) → (d ≡ slot → ⊥) → is_live_in (step st c) d ≡ is_live_in st d
  pub contents : (d : ℕ) → (d ≡ slot → ⊥) → is_live_in st d ≡ true → content_of (step st c).map d ≡ content_of st.map d

abbrev pub EditByEdit : Type 0
EditByEdit = (st : State) (c : Call) → Good st → Sent c → is_done st c ≡ true → ByOne st c

-- ---- a slot's fields are its 24 bytes
abbrev pub SlotBytes : Type 0
SlotBytes = (m : List ℕ) (p : ℕ) → Bytes m → p + slot_size ≤ length m → slot_bytes (slot_of m p) ≡ take slot_size (drop p m)

-- ---- and so equal contents are equal byte for byte: of a slot that exists in two good states, the 24 bytes at its place, and its object's bytes
abbrev pub slot_part : List ℕ → ℕ → List ℕ
slot_part m s = take slot_size (drop (slot_at m s) m)

abbrev pub object_part : List ℕ → ℕ → List ℕ
object_part m s = take (bytes_in (version_of m) (slot_in m s).len) (drop (slot_in m s).position m)

abbrev pub ContentIsBytes : Type 0
ContentIsBytes =
    (st st' : State) (s : ℕ) → Good st → Good st' → s < block_cells * blocks_in st.map st.used → s < block_cells * blocks_in st'.map st'.used
    → content_of st'.map s ≡ content_of st.map s
    → (slot_part st'.map s ≡ slot_part st.map s) × (object_part st'.map s ≡ object_part st.map s)

-- ---- a search, at any time of a run, lists exactly the live slots whose rectangles meet the window, ascending, in the first entries of its list, and the
-- others keep what they held. It says how many they are, and how many blocks the chain has. A window with left > right or bottom > top gets 8, and a list
-- shorter than the count gets 9 with the count needed; the list is then as it was
pub record SearchSays (wanted : ℕ → Type 0) (st : State) (w : Window) (l : List ℕ) : Type 0 where
  pub slots : List ℕ
  pub exactly : (s : ℕ) → In s slots ↔ wanted s
  pub ascending : (i k : ℕ) → i < k → k < length slots → get_or slots i 0 < get_or slots k 0
  pub finds : window_good w ≡ true → length slots ≤ length l
      → (outcome st (search w l)).said ≡ searched (Ok (record { count = length slots; blocks = blocks_in st.map st.used })) (slots ++ drop (length slots) l)
  pub short : window_good w ≡ true → length l < length slots → (outcome st (search w l)).said ≡ searched (Err (ShortList (length slots))) l
  pub refused : window_good w ≡ false → (outcome st (search w l)).said ≡ searched (Err BadWindow) l

abbrev pub Wanted : State → Window → ℕ → Type 0
Wanted st w s = (is_live_in st s ≡ true) × (meets_window (sides_of (content_of st.map s).slot) w ≡ true)

abbrev pub SearchFinds : Type 0
SearchFinds = (st : State) (w : Window) (l : List ℕ) → Good st → SearchSays (Wanted st w) st w l

-- ---- and so does a search of a map of 9 to 11: status 1 or 2, Len not 0
pub record WideWanted (m : List ℕ) (n : ℕ) (w : Window) (s : ℕ) : Type 0 where
  pub exists : s < block_cells * n
  pub live : wide_live (wide_slot_of m (slot_at_of wide m s)) ≡ true
  pub meets : meets_window (rectangle_at m (slot_at_of wide m s)) w ≡ true

abbrev pub WideSearchFinds : Type 0
WideSearchFinds =
    (st : State) (w : Window) (l : List ℕ) (n : ℕ) → verdict st.map st.used ≡ Ok n → is_wide (version_of st.map) ≡ true
    → SearchSays (WideWanted st.map n w) st w l

-- ---- and so it lists an added object, in every window that the least rectangle over its pairs meets, unless the list is shorter than the count
abbrev pub Lists : ℕ → List ℕ → Said → Type 0
Lists s l (edited a) = ⊥
Lists s l (searched (Ok f) after) = In s (take f.count after)
Lists s l (searched (Err (ShortList c)) after) = length l < c
Lists s l (searched (Err x) after) = ⊥

abbrev pub AddedIsFound : Type 0
AddedIsFound =
    (st : State) (e : ℕ) (o : List ℕ) (w : Window) (l : List ℕ) → Good st → Sent (add e o) → is_done st (add e o) ≡ true
    → window_good w ≡ true → meets_window (sides_of (slot_added st.map st.used o)) w ≡ true
    → Lists (slot_said (outcome st (add e o)).said) l (outcome (step st (add e o)) (search w l)).said

-- ---- a slot that was live, and is live again after removals and reinstatements, has the content it had
abbrev pub ContentStays : Type 0
ContentStays =
    (st : State) (xs : List Event) (s : ℕ) → Good st → Fair st xs → is_live_in st s ≡ true → is_live_in (run st xs) s ≡ true
    → content_of (run st xs).map s ≡ content_of st.map s

-- ---- "the journal holds its first records, then one for each of those edits in order"; and its length stays
abbrev pub JournalGrows : Type 0
JournalGrows =
    (st : State) (xs : List Event) → Good st → Fair st xs
    → (records_of (run st xs).journal ≡ records_of st.journal ++ records_in st xs) × (length (run st xs).journal ≡ length st.journal)

-- ---- the rest of the journal is zero, at any time of a run: every byte behind its records
abbrev pub RestZero : Type 0
RestZero =
    (st : State) (xs : List Event) → Good st → Fair st xs
    → (b : ℕ) → journal_record_size * length (records_of (run st xs).journal) ≤ b → b < length (run st xs).journal → get_or (run st xs).journal b 0 ≡ 0

-- ---- "an edit number the journal holds never acts again", at any later time
abbrev pub edit_number : Call → ℕ
edit_number (add e o) = e
edit_number (remove e s) = e
edit_number (reinstate e s) = e
edit_number (search w l) = 0

abbrev pub NeverActsAgain : Type 0
NeverActsAgain =
    (st : State) (xs : List Event) (c : Call) → Good st → Fair st xs → Sent c → is_held st.journal (edit_number c) ≡ true
    → (step (run st xs) c ≡ run st xs) × (is_done (run st xs) c ≡ false)

-- ---- "done before", with its slot, is what the exact repeat of an edit that was done is answered, at any later time, adds too
abbrev pub RepeatIsTold : Type 0
RepeatIsTold =
    (st : State) (c : Call) (xs : List Event) → Good st → Sent c → is_done st c ≡ true → Fair (step st c) xs
    → (outcome (run (step st c) xs) c).said ≡ edited (Ok (Before (slot_said (outcome st c).said) (run (step st c) xs).used))

-- ---- and so the numbers of the edits done in a run, which are those of their records, are distinct from each other, and the first journal holds none of them
abbrev pub numbers_in : State → List Event → List ℕ
numbers_in st xs = map edit_number (done_in st xs)

abbrev pub numbers_of : List JournalRecord → List ℕ
numbers_of rs = map (λ (r : JournalRecord). r.number) rs

pub record Once (j numbers : List ℕ) : Type 0 where
  pub distinct : (i k : ℕ) → i < k → k < length numbers → get_or numbers i 0 ≡ get_or numbers k 0 → ⊥
  pub new : (e : ℕ) → In e numbers → is_held j e ≡ false

abbrev pub NumbersOnce : Type 0
NumbersOnce =
    (st : State) (xs : List Event) → Good st → Fair st xs
    → Once st.journal (numbers_in st xs) × (numbers_of (records_in st xs) ≡ numbers_in st xs)

-- ---- on an accepted map of 9 to 11 no run changes a byte of the map or of the journal, whatever the journal is; no edit is done, and each is answered 17
abbrev pub IsEdit : Call → Type 0
IsEdit (add e o) = Unit {0}
IsEdit (remove e s) = Unit {0}
IsEdit (reinstate e s) = Unit {0}
IsEdit (search w l) = ⊥

pub record Untouched (st : State) (xs : List Event) : Type 0 where
  pub map : map_of (run st xs) ≡ map_of st
  pub used : (run st xs).used ≡ st.used
  pub journal : (run st xs).journal ≡ st.journal
  pub none : done_in st xs ≡ []
  pub told : (c : Call) → IsEdit c → (outcome (run st xs) c).said ≡ edited (Err WideMap)

abbrev pub WideStays : Type 0
WideStays =
    (st : State) (xs : List Event) (n : ℕ) → verdict st.map st.used ≡ Ok n → is_wide (version_of st.map) ≡ true → Fair st xs → Untouched st xs

-- ---- refusals and "done before" change nothing, and neither does a search
abbrev pub NothingElse : Type 0
NothingElse =
    ((st : State) (c : Call) → is_done st c ≡ false → step st c ≡ st)
    × ((st : State) (w : Window) (l : List ℕ) → step st (search w l) ≡ st)

-- ---- the footbridge: removed under number e, drawn back in under number f, and the phone repeats the removal. It is answered "done before", and the bridge
-- stays, with the content it had, whatever calls stand between that do not remove it
abbrev pub Removes : ℕ → Event → Type 0
Removes s (made (add e o)) = ⊥
Removes s (made (remove e t)) = t ≡ s
Removes s (made (reinstate e t)) = ⊥
Removes s (made (search w l)) = ⊥
Removes s (handed b) = ⊥

abbrev pub NoneRemoves : ℕ → List Event → Type 0
NoneRemoves s [] = Unit {0}
NoneRemoves s (x ∷ xs) = (Removes s x → ⊥) × NoneRemoves s xs

pub record BridgeStays (before now : State) (e s : ℕ) : Type 0 where
  pub said : (outcome now (remove e s)).said ≡ edited (Ok (Before s now.used))
  pub unchanged : step now (remove e s) ≡ now
  pub live : is_live_in now s ≡ true
  pub content : content_of now.map s ≡ content_of before.map s

abbrev pub Footbridge : Type 0
Footbridge =
    (st : State) (e f s : ℕ) (xs ys : List Event) → Good st → Sent (remove e s) → Sent (reinstate f s)
    → Fair (step st (remove e s)) xs
    → Fair (step (run (step st (remove e s)) xs) (reinstate f s)) ys
    → is_done st (remove e s) ≡ true
    → is_done (run (step st (remove e s)) xs) (reinstate f s) ≡ true
    → NoneRemoves s ys
    → BridgeStays st (run (step (run (step st (remove e s)) xs) (reinstate f s)) ys) e s
