-- On an accepted map of 9 to 11 no run changes a byte of the map or of the journal, and every edit is answered 17. Assumes nothing.
use Prim.Native.Nat.{ℕ}
use mathlib.Core.Bool.{true, false}
use mathlib.Core.Path.{◌≡◌, refl, ap, ◌∙◌}
use mathlib.Core.List.{List, [], ◌∷◌}
use Rattle.std.specs.Prelude.{Ok, Err}
use Rattle.refusals.specs.declared.Refusal.TheVariants.{WideMap}
use Rattle.records.specs.Headers.{is_wide}
use Rattle.judge.specs.Judging.{version_of}
use Rattle.accept.specs.Verdicts.{verdict}
use Rattle.frame.proofs.Same.{SameMap}
use Rattle.frame.proofs.Behind.{verdict-same}
use Rattle.edit.specs.Edits.{start_of}
use Rattle.edit.proofs.Edits.{start-wide}
use Rattle.change.specs.Changes.{changed}
use Rattle.add.specs.Adds.{added}
use Rattle.promise.specs.Runs.{State, Call, add, remove, reinstate, search, edited, outcome, says_done, step, Event, made, handed, with_buffer, run, is_done, done_in, map_of, HoldsMap, Fair}
use Rattle.promise.specs.Promises.{IsEdit, Untouched, WideStays}
use Rattle.promise.proofs.Whole.{same_of, accepted-length, accepted-version}
use Rattle.promise.proofs.Promises.{nothing-else}

-- an accepted map of 9 to 11
record Wide (st : State) (n : ℕ) : Type 0 where
  accepted : verdict st.map st.used ≡ Ok n
  wide : is_wide (version_of st.map) ≡ true

module _ {st : State} {n : ℕ} (x : Wide st n) where
  -- it refuses every edit
  wide-start : (e : ℕ) → start_of st.map st.used st.journal e ≡ Err WideMap
  wide-start e = start-wide st.map st.used st.journal e x.accepted x.wide

  wide-says : (c : Call) → IsEdit c → (outcome st c).said ≡ edited (Err WideMap)
  unfolding added changed
  wide-says (add e o) i = rw (wide-start e)
  wide-says (remove e s) i = rw (wide-start e)
  wide-says (reinstate e s) i = rw (wide-start e)
  wide-says (search w l) i = absurd i

  wide-not-done : (c : Call) → is_done st c ≡ false
  unfolding is_done
  wide-not-done (add e o) = ap says_done (wide-says (add e o) tt)
  wide-not-done (remove e s) = ap says_done (wide-says (remove e s) tt)
  wide-not-done (reinstate e s) = ap says_done (wide-says (reinstate e s) tt)
  wide-not-done (search w l) = refl

  -- so no call changes the state
  wide_step : (c : Call) → step st c ≡ st
  wide_step c = nothing-else.0 st c (wide-not-done c)

  -- and in another buffer it is what it was
  wide-handed : {b : List ℕ} → HoldsMap st b → Wide (with_buffer st b) n
  wide-handed {b} holds =
      let s : SameMap st.used st.map b = same_of st.used st.map b (accepted-length st.map st.used x.accepted).2 holds in
      record { accepted = verdict-same s ∙ x.accepted; wide = ap is_wide (accepted-version s x.accepted) ∙ x.wide }

wide-run : {st : State} {n : ℕ} → Wide st n → (xs : List Event) → Fair st xs → Untouched st xs
unfolding run done_in
wide-run {st} {n} x [] a = record { map = refl; used = refl; journal = refl; none = refl; told = wide-says x }
wide-run {st} {n} x (made c ∷ xs) a =
    let e = wide_step x c in
    let r : Untouched (step st c) xs = wide-run {st = step st c} {n = n} (rw e x) xs a.1 in
    record {
      map = r.map ∙ ap map_of e;
      used = r.used ∙ ap (λ (y : State). y.used) e;
      journal = r.journal ∙ ap (λ (y : State). y.journal) e;
      none = rw (wide-not-done x c) r.none;
      told = r.told;
    }
wide-run {st} {n} x (handed b ∷ xs) a =
    let r : Untouched (with_buffer st b) xs = wide-run {st = with_buffer st b} {n = n} (wide-handed x a.0.1) xs a.1 in
    record { map = r.map ∙ a.0.1; used = r.used; journal = r.journal; none = r.none; told = r.told }

pub wide-stays : WideStays
wide-stays st xs n e w a = wide-run (record { accepted = e; wide = w }) xs a
