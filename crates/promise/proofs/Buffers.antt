-- What the buffer has behind the map decides nothing but 11. Assumes nothing.
use Prim.Native.Nat.{ℕ, ◌≤◌, ◌<◌}
use mathlib.Core.Path.{◌≡◌, refl, sym, ap, ap₂, ◌∙◌, subst}
use mathlib.Core.Logic.{◌⊎◌, inl, inr, ⊎_elim}
use mathlib.Core.List.{List}
use native.Mathlib.Omega.{arith}
use lib.ListN.{length, take}
use lib.Seq.{sets, take_all, length-take-le}
use Rattle.std.specs.Prelude.{Result, Ok, Err}
use Rattle.refusals.specs.declared.Refusal.{Refusal}
use Rattle.refusals.specs.declared.Refusal.TheVariants.{NoRoom}
use Rattle.numbers.specs.Bytes.{Bytes}
use Rattle.numbers.proofs.Coordinates.{lt-or-ge}
use Rattle.windows.specs.declared.Window.{Window}
use Rattle.windows.specs.Windows.{window_good}
use Rattle.accept.specs.Verdicts.{verdict, Editable}
use Rattle.accept.proofs.Accepting.{accepted-tells}
use Rattle.frame.proofs.Same.{SameMap}
use Rattle.frame.proofs.Behind.{verdict-same}
use Rattle.find.specs.declared.Listed.{Listed}
use Rattle.look.specs.Found.{found}
use Rattle.find.specs.Searches.{answer_for, answer_of, list_for, list_after}
use Rattle.find.proofs.Searches.{found-tells}
use Rattle.edit.specs.declared.EditAnswer.{EditAnswer}
use Rattle.edit.specs.Edits as edits
use Rattle.change.specs.Changes.{changed}
use Rattle.add.specs.Adds.{added}
use Rattle.promise.specs.Runs.{State, Call, add, remove, reinstate, search, edited, searched, outcome, of_edit, length_after, next, step, with_buffer}
use Rattle.promise.specs.Buffers.{Alike, TooShort, BytesBehind}
use Rattle.promise.proofs.Steps.{RefusesEdits, refused-or-editable}
use Rattle.promise.proofs.Whole.{same_of, accepted-version}
use Rattle.promise.proofs.Agreeing.{Agree, first-same, refused-agree, change-agree, add-agree, found-same}

-- ---- in any map at all

module _ {m m' : List ℕ} {used : ℕ} (s : SameMap used m m') where
  -- in both buffers the map refuses every edit alike, or it is accepted and of 6 to 8
  abbrev BothRefuse : Type 0
  BothRefuse = (x : Refusal) × RefusesEdits m used x × RefusesEdits m' used x

  both : BothRefuse ⊎ ((n : ℕ) × Editable m used n)
  both = refused-or-editable m m' used (verdict-same s) (λ n q. accepted-version s q)

  change-any : Bytes m → Bytes m' → (j : List ℕ) (e kind d : ℕ) → Agree used (changed m used j e kind d) (changed m' used j e kind d)
  change-any b b' j e kind d =
      ⊎_elim
      (λ (r : BothRefuse). unfold changed in rw (r.1 j e, r.2 j e) (refused-agree s j r.0))
      (λ r. change-agree s (accepted-tells m used r.0 r.1) b b' j e kind d)
      both

  add-any : (j : List ℕ) (e : ℕ) (o : List ℕ)
      → Agree used (added m used j e o) (added m' used j e o) ⊎ (((added m used j e o).answer ≡ Err NoRoom) ⊎ ((added m' used j e o).answer ≡ Err NoRoom))
  add-any j e o =
      ⊎_elim
      (λ (r : BothRefuse). inl (unfold added in rw (r.1 j e, r.2 j e) (refused-agree s j r.0)))
      (λ r. add-agree s (accepted-tells m used r.0 r.1) j e o)
      both

  answer-any : (w : Window) (room : ℕ) → answer_of m' used w room ≡ answer_of m used w room
  unfolding answer_of
  answer-any w room = rw (verdict-same s) (go (verdict m used) refl)
    where
      go : (v : Result ℕ Refusal) → verdict m used ≡ v → answer_for v (λ n. found m' n w) (window_good w) room ≡ answer_for v (λ n. found m n w) (window_good w) room
      go (Ok n) q = unfold answer_for in rw (found-same s q w)
      go (Err x) q = unfold answer_for in refl

  list_any : (w : Window) (l : List ℕ) → list_after m' used w l ≡ list_after m used w l
  unfolding list_after
  list_any w l = rw (answer-any w (length l)) (go (answer_of m used w (length l)) refl)
    where
      go : (a : Result Listed Refusal) → answer_of m used w (length l) ≡ a → list_for a (λ n. found m' n w) l ≡ list_for a (λ n. found m n w) l
      go (Ok x) q = ap (sets l 0) (found-same s (found-tells m used w (length l) q).accepted w)
      go (Err x) q = refl

-- ---- the calls

-- what is to be shown of a call in two buffers
abbrev Same : State → Call → State → Type 0
Same st c st' = (((outcome st' c).said ≡ (outcome st c).said) × Alike (step st c) (step st' c)) ⊎ (TooShort st c ⊎ TooShort st' c)

alike_of : {used : ℕ} {o o' : edits.Outcome} → Agree used o o' → Alike (next used (of_edit o)) (next used (of_edit o'))
alike_of {used} a =
    record { used = ap (λ (x : Result EditAnswer Refusal). length_after (edited x) used) a.answer; map = rw a.answer a.map; journal = a.journal }

module _ (st : State) (b : List ℕ) (x : Bytes st.map) (y : Bytes b) (s : SameMap st.used st.map b) where
  same-call : (c : Call) → Same st c (with_buffer st b)
  unfolding step
  same-call (add e o) =
      ⊎_elim
      (λ (a : Agree st.used (added st.map st.used st.journal e o) (added b st.used st.journal e o)). inl (ap edited a.answer, alike_of a))
      (λ t. inr (⊎_elim (λ q. inl (ap edited q)) (λ q. inr (ap edited q)) t))
      (add-any s st.journal e o)
  same-call (remove e d) = let a = change-any s x y st.journal e 2 d in inl (ap edited a.answer, alike_of a)
  same-call (reinstate e d) = let a = change-any s x y st.journal e 3 d in inl (ap edited a.answer, alike_of a)
  same-call (search w l) = inl (ap₂ searched (answer-any s w (length l)) (list_any s w l), record { used = refl; map = first-same s st.used (omega arith); journal = refl })

-- two alike states are one state with another buffer; and where the buffer is shorter than the length, the buffer is the same
module _ {st st' : State} (a : Alike st st') where
  other-buffer : with_buffer st st'.map ≡ st'
  other-buffer = λ i. record { map = st'.map; used = sym a.used i; journal = sym a.journal i }

  first_alike : take st.used st'.map ≡ take st.used st.map
  first_alike = ap (λ (u : ℕ). take u st'.map) (sym a.used) ∙ a.map

  one-buffer : length st.map < st.used → st.map ≡ st'.map
  one-buffer l =
      ⊎_elim
      (λ k. sym (take_all st.used st.map (omega arith)) ∙ sym first_alike ∙ take_all st.used st'.map (omega arith))
      (λ k. absurd (no k))
      (lt-or-ge (length st'.map) st.used)
    where
      no : st.used ≤ length st'.map → ⊥
      no k =
          let e : st.used ≡ length st.map = sym (length-take-le st.used st'.map k) ∙ ap length first_alike ∙ ap length (take_all st.used st.map (omega arith)) in
          omega arith

  one_state : length st.map < st.used → st ≡ st'
  one_state l = λ i. record { map = one-buffer l i; used = sym a.used i; journal = sym a.journal i }

pub bytes-behind : BytesBehind
bytes-behind =
    record {
      check = λ st st' a.
          ⊎_elim
          (λ l. ap (λ (x : State). verdict x.map x.used) (sym (one_state a l)))
          (λ l. ap (verdict st'.map) a.used ∙ verdict-same (same_of st.used st.map st'.map l (first_alike a)))
          (lt-or-ge (length st.map) st.used);
      call = λ st st' c x y a.
          ⊎_elim
          (λ l. subst (Same st c) (one_state a l) (inl (refl, record { used = refl; map = refl; journal = refl })))
          (λ l. subst (Same st c) (other-buffer a) (same-call st st'.map x y (same_of st.used st.map st'.map l (first_alike a)) c))
          (lt-or-ge (length st.map) st.used);
    }
