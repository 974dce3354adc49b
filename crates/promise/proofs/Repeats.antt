-- The exact repeat of a done edit is answered "done before", with its slot. Assumes nothing.
use Prim.Native.Nat.{ℕ}
use mathlib.Core.Bool.{true}
use mathlib.Core.Path.{◌≡◌, refl, sym, ap, ◌∙◌}
use mathlib.Core.Logic.{⊎_elim}
use mathlib.Core.List.{List, [], ◌∷◌}
use borrow.Author.Tests.{eq-eqb, ne_eqb}
use Rattle.std.specs.Prelude.{Ok}
use Rattle.numbers.proofs.Below.{never}
use Rattle.slots.specs.declared.Slot.{Slot}
use Rattle.slots.specs.Slots.{bytes_in}
use Rattle.records.specs.Journals.{record_for}
use Rattle.judge.specs.Judging.{version_of}
use Rattle.journal.specs.Journals.{looked}
use Rattle.journal.proofs.Journals.{room_of, appended-new, appended-holds, appended-holder}
use Rattle.journal.proofs.Records.{not_full, shape-tells}
use Rattle.edit.specs.declared.EditAnswer.TheVariants.{Before}
use Rattle.accept.specs.Slots.{slot_in}
use Rattle.edit.specs.Edits.{start_of}
use Rattle.change.specs.Changes.{repeat_change, changed}
use Rattle.promise.specs.Runs.{State, Call, add, remove, reinstate, search, Said, edited, outcome, step, Event, run, slot_said, is_done, record_due, Content, content_of, Good, Sent, Fair}
use Rattle.promise.proofs.Keeping.{Did, Idle, call-cases, step-good}
use Rattle.promise.proofs.Promises.{stays-good, Keeps, keeps-run}
use Rattle.promise.proofs.ByEdit.{own_of}
use Rattle.promise.proofs.Dormant.{Dormant, dormant-start, dormant-run}
use Rattle.numbers.specs.Bytes.{same_bytes}
use Rattle.numbers.proofs.Ranges.{within-is}
use Rattle.add.specs.Adds.{added, repeat_add}
use Rattle.add.specs.Objects.{is_object}
use Rattle.promise.specs.Promises.{RepeatIsTold}

-- a done call is done
pub did_of : {st : State} (g : Good st) (c : Call) → Sent c → is_done st c ≡ true → Did st c g.blocks
did_of {st} g c a i = ⊎_elim (λ (x : Idle st c). absurd (never (sym i ∙ x.idle))) (λ (d : Did st c g.blocks). d) (call-cases g c a)

-- its record is the one that holds its number
pub did-keeps : {st : State} (g : Good st) (c : Call) (d : Did st c g.blocks) → Keeps (step st c).journal (record_due c d.slot).number (record_due c d.slot)
did-keeps {st} g c d =
    let j = st.journal in
    let r = record_due c d.slot in
    let room = room_of j st.map g.blocks d.well d.room in
    rw d.journal
    (record {
      held = appended-holds j r room d.fits d.shape;
      is = rw (appended-holder j r room d.fits d.shape d.fresh) (appended-new j r (not_full j d.room) d.fits);
    })

-- ---- what is held under its number, kind and slot is answered "done before"

pub repeated : {st : State} (g : Good st) (e kind s : ℕ) → Keeps st.journal e (record_for e kind s) → (e ≡ 0 → ⊥)
    → (changed st.map st.used st.journal e kind s).answer ≡ Ok (Before s st.used)
unfolding changed start_of looked repeat_change
repeated {st} g e kind s k ne = rw (g.accepted, g.narrow, ne_eqb e 0 ne, g.well, k.held, k.is, eq-eqb kind kind refl, eq-eqb s s refl)

-- an add, where the slot's object equals the offered bytes
repeated-add : {st : State} (g : Good st) (e s : ℕ) (o : List ℕ) → Keeps st.journal e (record_for e 1 s) → (e ≡ 0 → ⊥)
    → is_object st.map st.used (slot_in st.map s) o ≡ true → (added st.map st.used st.journal e o).answer ≡ Ok (Before s st.used)
unfolding added start_of looked repeat_add
repeated-add {st} g e s o k ne same = rw (g.accepted, g.narrow, ne_eqb e 0 ne, g.well, k.held, k.is, same)

same_self : (o : List ℕ) → same_bytes o o ≡ true
unfolding same_bytes
same_self [] = refl
same_self (x ∷ o) = rw (eq-eqb x x refl, same_self o)

-- the object of an added slot stays, whatever becomes of the slot
kept-object : {m₀ : List ℕ} {s : ℕ} {st : State} {n : ℕ} (o : List ℕ) → Dormant m₀ s st n → (content_of m₀ s).object ≡ o
    → is_object st.map st.used (slot_in st.map s) o ≡ true
unfolding is_object content_of
kept-object {m₀} {s} {st} {n} o x e =
    let p : (slot_in st.map s).position ≡ (slot_in m₀ s).position = ap (λ (t : Slot). t.position) x.slot in
    let l : (slot_in st.map s).len ≡ (slot_in m₀ s).len = ap (λ (t : Slot). t.len) x.slot in
    let g = x.good in
    rw (p, l, x.version, within-is 48 st.used (bytes_in (version_of m₀) (slot_in m₀ s).len) (slot_in m₀ s).position g.low g.end, x.object, e)
    (same_self o)

module _ {st : State} (g : Good st) (xs : List Event) where
  -- what a repeat of a done call c is to be answered after the events
  abbrev Told : Call → Type 0
  Told c = (outcome (run (step st c) xs) c).said ≡ edited (Ok (Before (slot_said (outcome st c).said) (run (step st c) xs).used))

  -- the slot that c named
  slot-told : (c : Call) (d : Did st c g.blocks) → ◌≡◌ {A = Said} (edited (Ok (Before d.slot (run (step st c) xs).used)))
      (edited (Ok (Before (slot_said (outcome st c).said) (run (step st c) xs).used)))
  slot-told c d = ap (λ (t : ℕ). edited (Ok (Before t (run (step st c) xs).used))) (sym (ap slot_said d.said))

  change-told : (c : Call) → Sent c → Fair (step st c) xs → (d : Did st c g.blocks) → (e kind s : ℕ)
      → ((w : State) → (outcome w c).said ≡ edited (changed w.map w.used w.journal e kind s).answer) → d.slot ≡ s → record_due c s ≡ record_for e kind s → Told c
  change-told c a f d e kind s is q rec =
      let g₁ = step-good g c a in
      let k : Keeps (step st c).journal e (record_for e kind s) = rw (q, rec) at (did-keeps g c d) in
      let ne : e ≡ 0 → ⊥ = rw (q, rec) at (shape-tells (record_due c d.slot) d.shape).number in
      is (run (step st c) xs) ∙ ap edited (repeated (stays-good (step st c) xs g₁ f) e kind s (keeps-run g₁ xs f k) ne) ∙ rw (← q) (slot-told c d)

  call-told : (c : Call) → Sent c → Fair (step st c) xs → Did st c g.blocks → Told c
  call-told (add e o) a f d =
      let g₁ = step-good g (add e o) a in
      let own = own_of g (add e o) a d in
      let x = dormant-run g₁ (step st (add e o)).map d.slot (dormant-start g₁ d.slot own.1) xs f in
      let same = kept-object o x.1 (ap (λ (t : Content). t.object) own.2) in
      let k = keeps-run g₁ xs f (did-keeps g (add e o) d) in
      ap edited (repeated-add x.0 e d.slot o k (shape-tells (record_due (add e o) d.slot) d.shape).number same) ∙ slot-told (add e o) d
  call-told (remove e s) a f d = change-told (remove e s) a f d e 2 s (λ w. refl) d.effect.0 refl
  call-told (reinstate e s) a f d = change-told (reinstate e s) a f d e 3 s (λ w. refl) d.effect.0 refl
  call-told (search w l) a f d = absurd d.effect

pub repeat-is-told : RepeatIsTold
repeat-is-told st c xs g a i f = call-told g xs c a f (did_of g c a i)
