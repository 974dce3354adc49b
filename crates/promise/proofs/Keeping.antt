-- A call keeps a good state good, and a done one has moved the map and appended its record. Assumes nothing.
use Prim.Native.Nat.{ℕ, ◌+◌, ◌*◌, ◌^◌, ◌≤◌, ◌<◌}
use mathlib.Core.Bool.{true, false}
use mathlib.Core.Path.{◌≡◌, refl, sym, ap, ◌∙◌}
use mathlib.Core.Logic.{◌⊎◌, inl, inr, ⊎_elim}
use mathlib.Core.List.{List}
use native.Mathlib.Omega.{arith}
use lib.ListN.{length, get_or, take}
use lib.Seq.{length-take-le}
use Rattle.std.specs.Prelude.{Result, Ok}
use Rattle.refusals.specs.declared.Refusal.{Refusal}
use Rattle.numbers.specs.Bytes.{Bytes}
use Rattle.windows.specs.declared.Window.{Window}
use Rattle.records.specs.Journals.{record_for, shape_good}
use Rattle.records.proofs.Journals.{RecordFits}
use Rattle.accept.proofs.Accepting.{Holds, accepted-tells, accepted-is, holds-narrow}
use Rattle.frame.proofs.Writes.{pass_of}
use Rattle.frame.proofs.Same.{SameMap}
use Rattle.frame.proofs.Behind.{verdict-same}
use Rattle.chain.proofs.Chains.{few}
use Rattle.journal.specs.Journals.{well_formed, is_held, is_full, appended, slot_used}
use Rattle.journal.proofs.Journals.{appended-well}
use Rattle.journal.proofs.Records.{shape_is}
use Rattle.edit.specs.declared.EditAnswer.{EditAnswer}
use Rattle.edit.specs.declared.EditAnswer.TheVariants.{Done}
use Rattle.slots.specs.declared.State.TheVariants.{Live}
use Rattle.judge.specs.Judging.{version_of}
use Rattle.accept.specs.Verdicts.{Editable}
use Rattle.accept.specs.Slots.{slot_in, free_slot}
use Rattle.change.specs.Slots.{has_state, resym, with_sym, object_sym, can_reinstate, allowed_for, sym_for}
use Rattle.add.specs.Objects.{offered_good}
use Rattle.change.proofs.Syms.{has-tells}
use Rattle.edit.specs.Edits as edits
use Rattle.change.specs.Changes.{changed}
use Rattle.add.specs.Adds.{added, new_length, slot_added}
use Rattle.promise.specs.Runs.{State, Call, add, remove, reinstate, search, edited, CallOutcome, outcome, of_edit, length_after, next, step, says_done, is_done, record_due, map_of, grown, Event, made, handed, with_buffer, turn, applied, Good, Sent, HoldsMap, May}
use Rattle.promise.proofs.Bytes.{appended-bytes, sym-bytes, added-bytes}
use Rattle.promise.proofs.Contents.{can-exists}
use Rattle.promise.proofs.Whole.{same_of, whole, holds_same, sym-whole, added-whole, revived-whole, well-same}
use Rattle.promise.proofs.Steps.{Still, DoneChange, DoneAdd, change-cases, add-cases}
use Rattle.promise.proofs.Moves.{Moved, moved-use, moved_here, object-sym-fits, changed-slot, remove-moved, reinstate-moved, blocks_after, added-grown, free-before, added-moved}

-- what each edit does to its own slot, s, in a map m of n index blocks that becomes m'
abbrev pub Effect : Call → List ℕ → ℕ → ℕ → List ℕ → ℕ → Type 0
Effect (add e o) m used n m' s =
    (s < 256 * n → (slot_in m s).len ≡ 0) × (slot_in m' s ≡ slot_added m used o) × (offered_good (version_of m) o ≡ true) × ((i : ℕ) → i < length o → get_or m' (used + i) 0 ≡ get_or o i 0)
Effect (remove e t) m used n m' s = (s ≡ t) × (has_state Live m n s ≡ true) × (slot_in m' s ≡ resym (slot_in m s) 0)
Effect (reinstate e t) m used n m' s = (s ≡ t) × (can_reinstate m used n s ≡ true) × (slot_in m' s ≡ resym (slot_in m s) (object_sym m s))
Effect (search w l) m used n m' s = ⊥

-- a done call c: its slot and its record, and what it has moved
pub record Did (st : State) (c : Call) (n : ℕ) : Type 0 where
  pub slot : ℕ
  pub own : (record_due c slot).slot ≡ slot
  pub blocks : ℕ
  pub said : (outcome st c).said ≡ edited (Ok (Done slot (step st c).used))
  pub moved : Moved st.map (step st c).map st.used (step st c).used n blocks slot
  pub fresh : is_held st.journal (record_due c slot).number ≡ false
  pub well : well_formed st.journal st.map n ≡ true
  pub room : is_full st.journal ≡ false
  pub fits : RecordFits (record_due c slot)
  pub shape : shape_good (record_due c slot) ≡ true
  pub journal : (step st c).journal ≡ appended st.journal (record_due c slot)
  pub bytes : Bytes (step st c).map
  pub applies : map_of (step st c) ≡ applied c (map_of st)
  pub effect : Effect c st.map st.used n (step st c).map slot

-- a slot's number fits 32 bits
slot-fits : {m : List ℕ} {used n : ℕ} → Holds m used n → (s : ℕ) → s < 256 * n → s < 2 ^ 32
slot-fits {m} {used} {n} h s l = omega (arith, few (pass_of h) (omega arith), h.limit)

record-good : (e kind s : ℕ) → e < 2 ^ 32 → (e ≡ 0 → ⊥) → 1 ≤ kind → kind ≤ 3 → s < 2 ^ 32 → RecordFits (record_for e kind s) × (shape_good (record_for e kind s) ≡ true)
record-good e kind s f ne a b g =
    (record { number = f; kind = omega arith; slot = g; zeros = omega arith }, shape_is (record_for e kind s) (record { number = ne; least = a; most = b; zeros = refl }))

-- a call that is not done leaves the state
still-same : (st : State) (out : edits.Outcome) → Still st.map st.journal out → next st.used (of_edit out) ≡ st
still-same st out s = λ i. record { map = s.map i; used = same out.answer s.idle i; journal = s.journal i }
  where
    same : (a : Result EditAnswer Refusal) → says_done (edited a) ≡ false → length_after (edited a) st.used ≡ st.used
    same a e = rw e

pub record Idle (st : State) (c : Call) : Type 0 where
  pub same : step st c ≡ st
  pub idle : is_done st c ≡ false

pub idle-of : (st : State) (c : Call) {out : edits.Outcome} → outcome st c ≡ of_edit out → Still st.map st.journal out → Idle st c
unfolding step is_done
idle-of st c {out} is s =
    record { same = ap (next st.used) is ∙ still-same st out s; idle = ap (λ (x : CallOutcome). says_done x.said) is ∙ s.idle }

pub idle-search : (st : State) (w : Window) (l : List ℕ) → Idle st (search w l)
unfolding step is_done
idle-search st w l = record { same = refl; idle = refl }

-- its map takes edits
editable-of : {st : State} (g : Good st) → Editable st.map st.used g.blocks
editable-of g = (g.accepted, g.narrow)

pub holds_of : {st : State} (g : Good st) → Holds st.map st.used g.blocks
holds_of {st} g = accepted-tells st.map st.used g.blocks (editable-of g)

module _ {st : State} (g : Good st) where
  h : Holds st.map st.used g.blocks
  h = holds_of g

  -- a removal or a reinstatement, by its kind
  module _ (c : Call) (e kind s : ℕ) (is : outcome st c ≡ of_edit (changed st.map st.used st.journal e kind s)) (rec : record_due c s ≡ record_for e kind s)
      (applies : allowed_for kind st.map st.used g.blocks s ≡ true → take st.used (with_sym st.map s (sym_for kind st.map s)) ≡ applied c (map_of st))
      (effects : allowed_for kind st.map st.used g.blocks s ≡ true → Effect c st.map st.used g.blocks (with_sym st.map s (sym_for kind st.map s)) s)
      (least : 1 ≤ kind) (most : kind ≤ 3) (fits : e < 2 ^ 32)
      (moves : allowed_for kind st.map st.used g.blocks s ≡ true → Moved st.map (with_sym st.map s (sym_for kind st.map s)) st.used st.used g.blocks g.blocks s) where
    did-change : DoneChange st.map st.used st.journal e kind s g.blocks (changed st.map st.used st.journal e kind s) → Did st c g.blocks
    unfolding step
    did-change d =
        let mv = moves d.allowed in
        let r = record-good e kind s fits d.number least most (slot-fits h s mv.here) in
        let said : (outcome st c).said ≡ edited (Ok (Done s st.used)) = rw (is, d.answer) in
        let map : (outcome st c).map ≡ with_sym st.map s (sym_for kind st.map s) = rw is d.map in
        let len : length_after (outcome st c).said st.used ≡ st.used = rw said in
        record {
          slot = s;
          own = rw rec;
          blocks = g.blocks;
          said = rw len said;
          moved = rw (len, map) mv;
          fresh = rw rec d.fresh;
          well = d.well;
          room = d.room;
          fits = rw rec r.0;
          shape = rw rec r.1;
          journal = rw (rec, is) d.journal;
          bytes = rw map (sym-bytes st.map s (sym_for kind st.map s) g.map-bytes);
          applies = rw (len, map) (applies d.allowed);
          effect = rw map (effects d.allowed);
        }

    change-step : Idle st c ⊎ Did st c g.blocks
    change-step =
        ⊎_elim
        (λ x. inl (idle-of st c is x))
        (λ d. inr (did-change d))
        (change-cases st.map st.used st.journal e kind s g.blocks (editable-of g))

  -- an add
  module _ (e : ℕ) (o : List ℕ) (fits : e < 2 ^ 32) (bytes : Bytes o) where
    add-applies : applied (add e o) (map_of st) ≡ grown (map_of st) g.blocks o
    unfolding applied
    add-applies = rw (length-take-le st.used st.map h.room, verdict-same (whole h), g.accepted)

    did-add : DoneAdd st.map st.used st.journal e o g.blocks (added st.map st.used st.journal e o) → Did st (add e o) g.blocks
    unfolding step
    did-add d =
        let mv = added-moved h o bytes d.offered d.limit d.fits in
        let gr = added-grown h o bytes d.offered d.limit d.fits in
        let r = record-good e 1 (free_slot st.map g.blocks) fits d.number (omega arith) (omega arith) (slot-fits mv.holds (free_slot st.map g.blocks) mv.here) in
        let len : length_after (edited (added st.map st.used st.journal e o).answer) st.used ≡ new_length st.map st.used g.blocks o = rw d.answer in
        record {
          slot = free_slot st.map g.blocks;
          own = refl;
          blocks = blocks_after h o bytes d.offered d.limit d.fits;
          said = rw len (ap edited d.answer);
          moved = rw (len, d.map) mv;
          fresh = d.fresh;
          well = d.well;
          room = d.room;
          fits = r.0;
          shape = r.1;
          journal = d.journal;
          bytes = rw d.map (added-bytes st.map st.used g.blocks o g.map-bytes bytes);
          applies = rw (len, d.map) (added-whole h o d.fits) ∙ sym add-applies;
          effect = rw d.map (free-before h o bytes d.offered d.limit d.fits, gr.new, d.offered, gr.stored);
        }

    add_step : Idle st (add e o) ⊎ Did st (add e o) g.blocks
    add_step = ⊎_elim (λ x. inl (idle-of st (add e o) refl x)) (λ d. inr (did-add d)) (add-cases st.map st.used st.journal e o g.blocks (editable-of g))

  -- every call: it is not done and changes nothing, or it is done
  pub call-cases : (c : Call) → Sent c → Idle st c ⊎ Did st c g.blocks
  call-cases (add e o) a = add_step e o a.0 a.1
  call-cases (remove e s) a = change-step (remove e s) e 2 s refl refl (λ k. unfold applied in sym-whole h s (has-tells Live st.map g.blocks s k).0 0) (λ k. (refl, k, changed-slot h g.map-bytes s (has-tells Live st.map g.blocks s k).0 0 (omega arith))) (omega arith) (omega arith) a.0 (λ k. remove-moved h g.map-bytes s k)
  call-cases (reinstate e s) a = change-step (reinstate e s) e 3 s refl refl (λ k. unfold applied in revived-whole h g.map-bytes s k) (λ k. (refl, k, changed-slot h g.map-bytes s (can-exists st.map st.used g.blocks s k) (object_sym st.map s) (object-sym-fits h g.map-bytes s))) (omega arith) (omega arith) a.0 (λ k. reinstate-moved h g.map-bytes s k)
  call-cases (search w l) a = inl (idle-search st w l)

-- what is done keeps the state good
unfoldable pub did-good : {st : State} {c : Call} {n : ℕ} → Good st → Did st c n → Good (step st c)
did-good {st} {c} {n} g d =
    record {
      blocks = d.blocks;
      accepted = accepted-is d.moved.holds;
      narrow = holds-narrow d.moved.holds;
      well = rw d.journal (appended-well st.journal st.map (step st c).map n d.blocks (record_due c d.slot) d.well d.room d.fresh d.fits d.shape (moved-use d.moved) (here d));
      map-bytes = d.bytes;
      journal-bytes = rw d.journal (appended-bytes st.journal (record_due c d.slot) g.journal-bytes);
    }
  where
    here : (d : Did st c n) → slot_used (step st c).map d.blocks (record_due c d.slot).slot ≡ true
    here d = rw d.own (moved_here d.moved)

pub step-good : {st : State} → Good st → (c : Call) → Sent c → Good (step st c)
step-good g c a = ⊎_elim (λ i. rw i.same g) (λ d. did-good g d) (call-cases g c a)

-- ---- the map in another buffer

module _ {st : State} (g : Good st) {b : List ℕ} (holds : HoldsMap st b) where
  pub handed-same : SameMap st.used st.map b
  handed-same = same_of st.used st.map b (holds_of g).room holds

  unfoldable pub handed-good : Bytes b → Good (with_buffer st b)
  handed-good bytes =
      record {
        blocks = g.blocks;
        accepted = verdict-same handed-same ∙ g.accepted;
        narrow = holds-narrow (holds_same handed-same (holds_of g));
        well = well-same handed-same (holds_of g) st.journal ∙ g.well;
        map-bytes = bytes;
        journal-bytes = g.journal-bytes;
      }

pub turn-good : {st : State} → Good st → (x : Event) → May st x → Good (turn st x)
turn-good g (made c) a = step-good g c a
turn-good g (handed b) a = handed-good g a.1 a.0
