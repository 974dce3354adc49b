-- The promises over runs, proved. Each name is that of its statement in specs/Promises.antt, in small letters. Assumes nothing.
use Prim.Native.Nat.{ℕ, zero, suc, ◌*◌, ◌/◌, ◌≤◌, ◌<◌}
use mathlib.Core.Bool.{Bool, true, false, cond}
use mathlib.Core.Path.{◌≡◌, refl, sym, ap, ◌∙◌}
use mathlib.Core.Logic.{⊎_elim}
use mathlib.Core.List.{List, [], ◌∷◌, ◌++◌, map, append_assoc, append-nil}
use native.Mathlib.Omega.{arith}
use lib.ListN.{length, get_or}
use Rattle.numbers.proofs.Below.{never}
use Rattle.records.specs.declared.JournalRecord.{JournalRecord}
use Rattle.records.specs.Headers.{index_head}
use Rattle.chain.specs.Chains.{block}
use Rattle.chain.proofs.Chains.{disjoint, few, walked_end}
use Rattle.judge.specs.Rules.{index_rule}
use Rattle.accept.proofs.Accepting.{accepted-is}
use Rattle.frame.proofs.Writes.{pass_of}
use Rattle.frame.proofs.Behind.{verdict-same, block_same}
use Rattle.find.specs.Searches.{In}
use Rattle.journal.specs.Journals.{is_held, holder, record_in, records_of}
use Rattle.journal.proofs.Records.{length-records_of}
use Rattle.journal.proofs.Journals.{well-formed-tells, room_of, records_of-appended, length-appended, appended-keeps, appended-record-kept, appended-holds}
use Rattle.promise.specs.Runs.{State, Call, add, remove, reinstate, search, outcome, step, Event, made, handed, with_buffer, turn, run, slot_said, is_done, done_in, records_in, record_due, blocks_in, accepted_blocks, map_of, applied_all, Good, Sent, HoldsMap, May, Fair}
use Rattle.promise.specs.Promises.{StaysGood, Ends, IndexEnds, SlotNumbersStay, AppliedOnce, JournalGrows, RestZero, edit_number, NeverActsAgain, numbers_in, numbers_of, Once, NumbersOnce, NothingElse}
use Rattle.promise.proofs.Bytes.{zero-record}
use Rattle.promise.proofs.Steps.{change-idle, add-idle}
use Rattle.promise.proofs.Keeping.{Did, Idle, idle-of, idle-search, holds_of, call-cases, step-good, handed-same, turn-good}

pub stays-good : StaysGood
unfolding run
stays-good st [] g a = g
stays-good st (x ∷ xs) g a = stays-good (turn st x) xs (turn-good g x a.0) a.1

pub blocks-of : {st : State} (g : Good st) → blocks_in st.map st.used ≡ g.blocks
blocks-of g = ap accepted_blocks g.accepted

good-ends : {st : State} → Good st → Ends st.map st.used
good-ends {st} g =
    let h = holds_of g in
    let e = blocks-of g in
    record {
      disjoint = λ i k a b ne. disjoint (pass_of h) i k (rw e at a) (rw e at b) ne;
      end = rw e (walked_end (index_rule st.map) st.map st.used h.index);
      within = rw e (few (pass_of h) (omega arith));
    }

pub index-ends : IndexEnds
index-ends st xs g a = good-ends (stays-good st xs g a)

-- ---- one event, for what grows along a run

-- the index blocks: no fewer, and the old ones where they were
record Longer (st st' : State) : Type 0 where
  upto : blocks_in st.map st.used ≤ blocks_in st'.map st'.used
  blocks : (k : ℕ) → k < blocks_in st.map st.used → block index_head st'.map k ≡ block index_head st.map k

longer-step : {st : State} → Good st → (c : Call) → Sent c → Longer st (step st c)
longer-step {st} g c a =
    ⊎_elim
    (λ i. rw i.same (record { upto = omega arith; blocks = λ k l. refl }))
    (λ (d : Did st c g.blocks).
    let e = blocks-of g in
    let f : blocks_in (step st c).map (step st c).used ≡ d.blocks = ap accepted_blocks (accepted-is d.moved.holds) in
    record { upto = omega (arith, e, f, d.moved.change.upto); blocks = λ k l. d.moved.change.blocks k (rw e at l) })
    (call-cases g c a)

longer-handed : {st : State} (g : Good st) {b : List ℕ} → HoldsMap st b → Longer st (with_buffer st b)
longer-handed {st} g {b} holds =
    let s = handed-same g holds in
    let e : blocks_in b st.used ≡ blocks_in st.map st.used = ap accepted_blocks (verdict-same s) in
    record { upto = omega (arith, e); blocks = λ k l. block_same s (holds_of g) k (omega (arith, l, blocks-of g)) }

longer-turn : {st : State} → Good st → (x : Event) → May st x → Longer st (turn st x)
longer-turn g (made c) a = longer-step g c a
longer-turn g (handed b) a = longer-handed g a.1

pub slot-numbers-stay : SlotNumbersStay
unfolding run
slot-numbers-stay st [] g a = (omega arith, λ k l. refl)
slot-numbers-stay st (x ∷ xs) g a =
    let s = longer-turn g x a.0 in
    let r = slot-numbers-stay (turn st x) xs (turn-good g x a.0) a.1 in
    (omega (arith, s.upto, r.0), λ k l. r.1 k (omega (arith, s.upto)) ∙ s.blocks k l)

did-done : {st : State} {c : Call} {n : ℕ} → Did st c n → is_done st c ≡ true
unfolding is_done
did-done d = rw d.said

pub applied-once : AppliedOnce
unfolding run done_in applied_all
applied-once st [] g a = refl
applied-once st (made c ∷ xs) g a =
    let r = applied-once (step st c) xs (step-good g c a.0) a.1 in
    ⊎_elim
    (λ (i : Idle st c). rw i.idle (r ∙ ap (λ (x : State). applied_all (done_in (step st c) xs) (map_of x)) i.same))
    (λ (d : Did st c g.blocks). rw (did-done d) (r ∙ ap (applied_all (done_in (step st c) xs)) d.applies))
    (call-cases g c a.0)
applied-once st (handed b ∷ xs) g a =
    applied-once (with_buffer st b) xs (turn-good g (handed b) a.0) a.1 ∙ ap (applied_all (done_in (with_buffer st b) xs)) a.0.1

-- ---- the journal

did-records : {st : State} {c : Call} {n : ℕ} → Good st → (d : Did st c n) → records_of (step st c).journal ≡ records_of st.journal ++ (record_due c (slot_said (outcome st c).said) ∷ [])
did-records {st} {c} {n} g d =
    rw (d.journal, d.said) (records_of-appended st.journal (record_due c d.slot) (room_of st.journal st.map n d.well d.room) d.fits d.shape)

pub journal-grows : JournalGrows
unfolding run records_in
journal-grows st [] g a = (sym (append-nil (records_of st.journal)), refl)
journal-grows st (made c ∷ xs) g a =
    let r = journal-grows (step st c) xs (step-good g c a.0) a.1 in
    ⊎_elim
    (λ (i : Idle st c). rw i.idle (r.0 ∙ ap (λ (x : State). records_of x.journal ++ records_in (step st c) xs) i.same, r.1 ∙ ap (λ (x : State). length x.journal) i.same))
    (λ (d : Did st c g.blocks).
    rw (did-done d) (
      r.0 ∙ ap (λ (x : List JournalRecord). x ++ records_in (step st c) xs) (did-records g d) ∙ append_assoc (records_of st.journal) (record_due c (slot_said (outcome st c).said) ∷ []) (records_in (step st c) xs),
      r.1 ∙ ap length d.journal ∙ length-appended st.journal (record_due c d.slot),
    ))
    (call-cases g c a.0)
journal-grows st (handed b ∷ xs) g a = journal-grows (with_buffer st b) xs (turn-good g (handed b) a.0) a.1

pub rest-zero : RestZero
unfolding record_in
rest-zero st xs g a b l h =
    let g' = stays-good st xs g a in
    let j = (run st xs).journal in
    let w = well-formed-tells j (run st xs).map g'.blocks g'.well in
    zero-record j (16 * (b / 16)) (w.rest (b / 16) (omega (arith, length-records_of j)) (omega (arith, w.whole))) b (omega arith) (omega arith)

-- ---- what is not done changes nothing

not_done : (st : State) (c : Call) → is_done st c ≡ false → step st c ≡ st
unfolding is_done
not_done st (add e o) i = (idle-of st (add e o) refl (add-idle st.map st.used st.journal e o i)).same
not_done st (remove e s) i = (idle-of st (remove e s) refl (change-idle st.map st.used st.journal e 2 s i)).same
not_done st (reinstate e s) i = (idle-of st (reinstate e s) refl (change-idle st.map st.used st.journal e 3 s i)).same
not_done st (search w l) i = (idle-search st w l).same

pub nothing-else : NothingElse
nothing-else = (not_done, λ st w l. (idle-search st w l).same)

-- ---- a number that is held

-- the record that holds it stays
pub record Keeps (j : List ℕ) (e : ℕ) (r : JournalRecord) : Type 0 where
  pub held : is_held j e ≡ true
  pub is : record_in j (holder j e) ≡ r

pub keeps-step : {st : State} → Good st → (c : Call) → Sent c → {e : ℕ} {r : JournalRecord} → Keeps st.journal e r → Keeps (step st c).journal e r
keeps-step {st} g c a {e} k =
    ⊎_elim
    (λ (i : Idle st c). rw i.same k)
    (λ (d : Did st c g.blocks).
    let room = room_of st.journal st.map g.blocks d.well d.room in
    rw d.journal
    (record {
      held = appended-keeps st.journal (record_due c d.slot) room d.fits d.shape e k.held;
      is = appended-record-kept st.journal (record_due c d.slot) room d.fits d.shape e k.held ∙ k.is;
    }))
    (call-cases g c a)

pub keeps-run : {st : State} → Good st → (xs : List Event) → Fair st xs → {e : ℕ} {r : JournalRecord} → Keeps st.journal e r → Keeps (run st xs).journal e r
unfolding run
keeps-run {st} g [] a k = k
keeps-run {st} g (made c ∷ xs) a k = keeps-run {st = step st c} (step-good g c a.0) xs a.1 (keeps-step g c a.0 k)
keeps-run {st} g (handed b ∷ xs) a k = keeps-run {st = with_buffer st b} (turn-good g (handed b) a.0) xs a.1 k

number_of : (c : Call) (s : ℕ) → (record_due c s).number ≡ edit_number c
number_of (add e o) s = refl
number_of (remove e t) s = refl
number_of (reinstate e t) s = refl
number_of (search w l) s = refl

pub never-acts-again : NeverActsAgain
never-acts-again st xs c g a b h =
    let g' = stays-good st xs g a in
    let k = keeps-run g xs a (record { held = h; is = refl }) in
    ⊎_elim
    (λ (i : Idle (run st xs) c). (i.same, i.idle))
    (λ (d : Did (run st xs) c g'.blocks). absurd (never (sym (rw (number_of c d.slot) k.held) ∙ d.fresh)))
    (call-cases g' c b)

-- ---- each number once

numbers-recorded : (st : State) (xs : List Event) → numbers_of (records_in st xs) ≡ numbers_in st xs
unfolding records_in done_in
numbers-recorded st [] = refl
numbers-recorded st (handed b ∷ xs) = numbers-recorded (with_buffer st b) xs
numbers-recorded st (made c ∷ xs) = go (is_done st c) (numbers-recorded (step st c) xs)
  where
    go : (b : Bool) → numbers_of (records_in (step st c) xs) ≡ numbers_in (step st c) xs
        → numbers_of (cond b (record_due c (slot_said (outcome st c).said) ∷ records_in (step st c) xs) (records_in (step st c) xs))
        ≡ map edit_number (cond b (c ∷ done_in (step st c) xs) (done_in (step st c) xs))
    go true e = rw (number_of c (slot_said (outcome st c).said), e)
    go false e = e

-- a number more in front: new in journal j, held in j', which holds what j holds
once_more : {j j' es : List ℕ} {e : ℕ} → is_held j e ≡ false → is_held j' e ≡ true → ((x : ℕ) → is_held j x ≡ true → is_held j' x ≡ true) → Once j' es → Once j (e ∷ es)
once_more {j} {j'} {es} {e} free held keep o = record { distinct = distinct_from; new = new_in }
  where
    distinct_from : (i k : ℕ) → i < k → k < length (e ∷ es) → get_or (e ∷ es) i 0 ≡ get_or (e ∷ es) k 0 → ⊥
    distinct_from i zero a b q = omega arith
    distinct_from zero (suc k) a b q = never (sym held ∙ ap (is_held j') q ∙ o.new (get_or es k 0) (k, omega arith, refl))
    distinct_from (suc i) (suc k) a b q = o.distinct i k (omega arith) (omega arith) q

    unheld : (x : ℕ) (b : Bool) → is_held j x ≡ b → is_held j' x ≡ false → is_held j x ≡ false
    unheld x true p q = absurd (never (sym (keep x p) ∙ q))
    unheld x false p q = p

    new_in : (x : ℕ) → In x (e ∷ es) → is_held j x ≡ false
    new_in x (zero, l, q) = rw (sym q) free
    new_in x (suc i, l, q) = unheld x (is_held j x) refl (o.new x (i, omega arith, q))

once-in : (st : State) (xs : List Event) → Good st → Fair st xs → Once st.journal (numbers_in st xs)
unfolding done_in
once-in st [] g a = record { distinct = λ i k l h q. omega arith; new = λ e h. let no_way : ⊥ = omega (arith, h.1) in absurd no_way }
once-in st (handed b ∷ xs) g a = once-in (with_buffer st b) xs (turn-good g (handed b) a.0) a.1
once-in st (made c ∷ xs) g a =
    let o = once-in (step st c) xs (step-good g c a.0) a.1 in
    ⊎_elim
    (λ (i : Idle st c). rw (i.idle, i.same) (rw i.same at o))
    (λ (d : Did st c g.blocks).
    let e = number_of c d.slot in
    let room = room_of st.journal st.map g.blocks d.well d.room in
    rw (did-done d)
    (once_more (rw e at d.fresh)
    (rw d.journal (rw e at (appended-holds st.journal (record_due c d.slot) room d.fits d.shape)))
    (λ x h. (keeps-step g c a.0 (record { held = h; is = refl })).held) o))
    (call-cases g c a.0)

pub numbers-once : NumbersOnce
numbers-once st xs g a = (once-in st xs g a, numbers-recorded st xs)
