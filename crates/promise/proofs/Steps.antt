-- One call: what it does to a good state. Assumes nothing.
use Prim.Native.Nat.{ℕ, ◌≤◌}
use native.Mathlib.Omega.{arith}
use mathlib.Core.Bool.{Bool, true, false, cond, ◌&&◌}
use mathlib.Core.Path.{◌≡◌, refl, sym, ap, ◌∙◌}
use mathlib.Core.Logic.{◌⊎◌, inl, inr, ⊎_elim}
use mathlib.Core.List.{List}
use lib.Dec.{eqb, leb}
use lib.ListN.{length}
use Rattle.std.specs.Prelude.{Result, Ok, Err}
use Rattle.refusals.specs.declared.Refusal.{Refusal}
use Rattle.refusals.specs.declared.Refusal.TheVariants.{BadObject, NoRoom, WrongState, NumberHeld, JournalFull, WideMap}
use Rattle.refusals.specs.Refusals.{number_of}
use Rattle.refusals.proofs.Passing.{number_some}
use Rattle.numbers.proofs.Below.{never}
use Rattle.records.specs.Headers.{is_wide}
use Rattle.records.specs.Journals.{record_for}
use Rattle.judge.specs.Judging.{version_of}
use Rattle.accept.specs.Verdicts.{verdict, Editable}
use Rattle.judge.proofs.Telling.{and-true}
use borrow.Author.Tests.{leb-true, le-leb, ne_eqb}
use Rattle.journal.specs.declared.JournalLook.{JournalLook}
use Rattle.journal.specs.declared.JournalLook.TheVariants.{Held, New}
use Rattle.journal.specs.Journals.{looked, is_full, is_held, appended, well_formed}
use Rattle.journal.proofs.Journals.{looked-new}
use Rattle.edit.specs.declared.EditAnswer.{EditAnswer}
use Rattle.edit.specs.declared.EditAnswer.TheVariants.{Done, Before}
use Rattle.accept.specs.Slots.{slot_in, free_slot}
use Rattle.change.specs.Slots.{with_sym, allowed_for, sym_for}
use Rattle.add.specs.Objects.{offered_good, is_object}
use Rattle.edit.specs.Edits.{Outcome, saying, after, after_look, start_of}
use Rattle.edit.proofs.Edits.{start-refused, start-wide, start-look}
use Rattle.change.specs.Changes.{repeat_change, fresh_change, changed}
use Rattle.add.specs.Adds.{new_length, added_map, repeat_add, fresh_add, added}
use Rattle.promise.specs.Runs.{edited, says_done}

-- ---- an edit's outcome by cases

-- the state as it was, with an answer that is not "done"
pub record Still (m j : List ℕ) (out : Outcome) : Type 0 where
  pub map : out.map ≡ m
  pub journal : out.journal ≡ j
  pub idle : says_done (edited out.answer) ≡ false

still : (m j : List ℕ) (a : Result EditAnswer Refusal) → says_done (edited a) ≡ false → Still m j (saying m j a)
still m j a e = record { map = refl; journal = refl; idle = e }

-- a refusal is not "done"
refused-not-done : (x : Refusal) → says_done (edited (Err x)) ≡ false
refused-not-done x = rw (ne_eqb (number_of x) 0 (λ z. omega (arith, number_some x, z)))

-- what a done change tells
pub record DoneChange (m : List ℕ) (used : ℕ) (j : List ℕ) (e kind s n : ℕ) (out : Outcome) : Type 0 where
  pub number : e ≡ 0 → ⊥
  pub fresh : is_held j e ≡ false
  pub well : well_formed j m n ≡ true
  pub allowed : allowed_for kind m used n s ≡ true
  pub room : is_full j ≡ false
  pub answer : out.answer ≡ Ok (Done s used)
  pub map : out.map ≡ with_sym m s (sym_for kind m s)
  pub journal : out.journal ≡ appended j (record_for e kind s)

module _ (m : List ℕ) (used : ℕ) (j : List ℕ) (e kind s n : ℕ) (v : Editable m used n) where
  repeat-still : (k t : ℕ) → Still m j (repeat_change m used j kind s k t)
  unfolding repeat_change
  repeat-still k t = go (eqb k kind && eqb t s)
    where
      go : (b : Bool) → Still m j (cond b (saying m j (Ok (Before s used))) (saying m j (Err NumberHeld)))
      go true = still m j (Ok (Before s used)) refl
      go false = still m j (Err NumberHeld) refl

  fresh-cases : is_held j e ≡ false → (e ≡ 0 → ⊥) → well_formed j m n ≡ true
      → Still m j (fresh_change m used j e kind s (allowed_for kind m used n s) (sym_for kind m s))
      ⊎ DoneChange m used j e kind s n (fresh_change m used j e kind s (allowed_for kind m used n s) (sym_for kind m s))
  unfolding fresh_change
  fresh-cases f ne w = go (allowed_for kind m used n s) refl (is_full j) refl
    where
      go : (a : Bool) → allowed_for kind m used n s ≡ a → (b : Bool) → is_full j ≡ b
          → Still m j (cond a (cond b (saying m j (Err JournalFull)) (record { answer = Ok (Done s used); map = with_sym m s (sym_for kind m s); journal = appended j (record_for e kind s) })) (saying m j (Err WrongState)))
          ⊎ DoneChange m used j e kind s n (cond a (cond b (saying m j (Err JournalFull)) (record { answer = Ok (Done s used); map = with_sym m s (sym_for kind m s); journal = appended j (record_for e kind s) })) (saying m j (Err WrongState)))
      go false p b q = inl (still m j (Err WrongState) refl)
      go true p true q = inl (still m j (Err JournalFull) refl)
      go true p false q = inr (record { number = ne; fresh = f; well = w; allowed = p; room = q; answer = refl; map = refl; journal = refl })

  pub change-cases : Still m j (changed m used j e kind s) ⊎ DoneChange m used j e kind s n (changed m used j e kind s)
  unfolding changed
  change-cases = rw (start-look m used j e v refl) (go (looked j m n e) refl)
    where
      abbrev-after : Result JournalLook Refusal → Outcome
      abbrev-after l = after m j (λ n k t. repeat_change m used j kind s k t) (λ n. fresh_change m used j e kind s (allowed_for kind m used n s) (sym_for kind m s)) (after_look m n l)

      go : (l : Result JournalLook Refusal) → looked j m n e ≡ l → Still m j (abbrev-after l) ⊎ DoneChange m used j e kind s n (abbrev-after l)
      go (Err x) q = inl (still m j (Err x) (refused-not-done x))
      go (Ok (Held k t)) q = inl (repeat-still k t)
      go (Ok (New k)) q = let h = looked-new j m n e k q in fresh-cases h.1 h.0.number h.0.well

-- what a done add tells
pub record DoneAdd (m : List ℕ) (used : ℕ) (j : List ℕ) (e : ℕ) (o : List ℕ) (n : ℕ) (out : Outcome) : Type 0 where
  pub number : e ≡ 0 → ⊥
  pub fresh : is_held j e ≡ false
  pub well : well_formed j m n ≡ true
  pub offered : offered_good (version_of m) o ≡ true
  pub limit : new_length m used n o ≤ 16777216
  pub fits : new_length m used n o ≤ length m
  pub room : is_full j ≡ false
  pub answer : out.answer ≡ Ok (Done (free_slot m n) (new_length m used n o))
  pub map : out.map ≡ added_map m used n o
  pub journal : out.journal ≡ appended j (record_for e 1 (free_slot m n))

module _ (m : List ℕ) (used : ℕ) (j : List ℕ) (e : ℕ) (o : List ℕ) (n : ℕ) (v : Editable m used n) where
  repeat-add-still : (k t : ℕ) → Still m j (repeat_add m used j o k t)
  unfolding repeat_add
  repeat-add-still k t = go (eqb k 1 && is_object m used (slot_in m t) o)
    where
      go : (b : Bool) → Still m j (cond b (saying m j (Ok (Before t used))) (saying m j (Err NumberHeld)))
      go true = still m j (Ok (Before t used)) refl
      go false = still m j (Err NumberHeld) refl

  abbrev pub add_done : Outcome
  add_done = record { answer = Ok (Done (free_slot m n) (new_length m used n o)); map = added_map m used n o; journal = appended j (record_for e 1 (free_slot m n)) }

  fresh-add-cases : is_held j e ≡ false → (e ≡ 0 → ⊥) → well_formed j m n ≡ true → Still m j (fresh_add m used j e o n) ⊎ DoneAdd m used j e o n (fresh_add m used j e o n)
  unfolding fresh_add
  fresh-add-cases f ne w = go (offered_good (version_of m) o) refl (leb (new_length m used n o) 16777216 && leb (new_length m used n o) (length m)) refl (is_full j) refl
    where
      go : (a : Bool) → offered_good (version_of m) o ≡ a → (b : Bool) → leb (new_length m used n o) 16777216 && leb (new_length m used n o) (length m) ≡ b → (c : Bool) → is_full j ≡ c
          → Still m j (cond a (cond b (cond c (saying m j (Err JournalFull)) add_done) (saying m j (Err NoRoom))) (saying m j (Err BadObject)))
          ⊎ DoneAdd m used j e o n (cond a (cond b (cond c (saying m j (Err JournalFull)) add_done) (saying m j (Err NoRoom))) (saying m j (Err BadObject)))
      go false p b q c r = inl (still m j (Err BadObject) refl)
      go true p false q c r = inl (still m j (Err NoRoom) refl)
      go true p true q true r = inl (still m j (Err JournalFull) refl)
      go true p true q false r =
          let l = and-true (leb (new_length m used n o) 16777216) (leb (new_length m used n o) (length m)) q in
          inr
          (record {
            number = ne;
            fresh = f;
            well = w;
            offered = p;
            limit = leb-true (new_length m used n o) 16777216 l.0;
            fits = leb-true (new_length m used n o) (length m) l.1;
            room = r;
            answer = refl;
            map = refl;
            journal = refl;
          })

  pub add-cases : Still m j (added m used j e o) ⊎ DoneAdd m used j e o n (added m used j e o)
  unfolding added
  add-cases = rw (start-look m used j e v refl) (go (looked j m n e) refl)
    where
      then : Result JournalLook Refusal → Outcome
      then l = after m j (λ n k t. repeat_add m used j o k t) (λ n. fresh_add m used j e o n) (after_look m n l)

      go : (l : Result JournalLook Refusal) → looked j m n e ≡ l → Still m j (then l) ⊎ DoneAdd m used j e o n (then l)
      go (Err x) q = inl (still m j (Err x) (refused-not-done x))
      go (Ok (Held k t)) q = inl (repeat-add-still k t)
      go (Ok (New k)) q = let h = looked-new j m n e k q in fresh-add-cases h.1 h.0.number h.0.well

  -- what makes an add done
  pub add_done_lem : (e ≡ 0 → ⊥) → is_held j e ≡ false → well_formed j m n ≡ true → offered_good (version_of m) o ≡ true
      → new_length m used n o ≤ 16777216 → new_length m used n o ≤ length m → is_full j ≡ false → added m used j e o ≡ add_done
  unfolding added looked fresh_add
  add_done_lem ne f w good limit fits room =
      rw (start-look m used j e v refl, ne_eqb e 0 ne, w, f, good, le-leb (new_length m used n o) 16777216 limit, le-leb (new_length m used n o) (length m) fits, room)

-- ---- in any map at all: what is not done changes nothing

-- the map alone refuses every edit, with 1 to 7 or with 17
abbrev pub RefusesEdits : List ℕ → ℕ → Refusal → Type 0
RefusesEdits m used x = (j : List ℕ) (e : ℕ) → start_of m used j e ≡ Err x

-- a map in two buffers, with one verdict and, where it is accepted, one version: both refuse every edit alike, or it is accepted and of 6 to 8
pub refused-or-editable : (m m' : List ℕ) (used : ℕ) → verdict m' used ≡ verdict m used → ((n : ℕ) → verdict m used ≡ Ok n → version_of m' ≡ version_of m)
    → ((x : Refusal) × RefusesEdits m used x × RefusesEdits m' used x) ⊎ ((n : ℕ) × Editable m used n)
refused-or-editable m m' used same version = go (verdict m used) refl (is_wide (version_of m)) refl
  where
    go : (v : Result ℕ Refusal) → verdict m used ≡ v → (b : Bool) → is_wide (version_of m) ≡ b
        → ((x : Refusal) × RefusesEdits m used x × RefusesEdits m' used x) ⊎ ((n : ℕ) × Editable m used n)
    go (Err x) q b w = inl (x, λ j e. start-refused m used j e q, λ j e. start-refused m' used j e (same ∙ q))
    go (Ok n) q true w = inl (WideMap, λ j e. start-wide m used j e q w, λ j e. start-wide m' used j e (same ∙ q) (ap is_wide (version n q) ∙ w))
    go (Ok n) q false w = inr (n, (q, w))

pub change-idle : (m : List ℕ) (used : ℕ) (j : List ℕ) (e kind s : ℕ) → says_done (edited (changed m used j e kind s).answer) ≡ false → Still m j (changed m used j e kind s)
change-idle m used j e kind s i =
    ⊎_elim
    (λ r. let b = r.1 j e in unfold changed in rw b (still m j (Err r.0) (rw b at i)))
    (λ r. ⊎_elim (λ x. x) (λ d. absurd (never (sym (ap (λ a. says_done (edited a)) d.answer) ∙ i))) (change-cases m used j e kind s r.0 r.1))
    (refused-or-editable m m used refl (λ n q. refl))

pub add-idle : (m : List ℕ) (used : ℕ) (j : List ℕ) (e : ℕ) (o : List ℕ) → says_done (edited (added m used j e o).answer) ≡ false → Still m j (added m used j e o)
add-idle m used j e o i =
    ⊎_elim
    (λ r. let b = r.1 j e in unfold added in rw b (still m j (Err r.0) (rw b at i)))
    (λ r. ⊎_elim (λ x. x) (λ d. absurd (never (sym (ap (λ a. says_done (edited a)) d.answer) ∙ i))) (add-cases m used j e o r.0 r.1))
    (refused-or-editable m m used refl (λ n q. refl))
