-- The list of the numbers below n that pass a test, by index: each entry passes, each number that passes has an entry, and the entries ascend. One number
-- more leaves each entry where it stood, and where it passes it stands behind them. Assumes nothing.
use Prim.Native.Nat.{ℕ, zero, suc, ◌<◌}
use mathlib.Core.Bool.{Bool, true, false}
use mathlib.Core.Path.{◌≡◌, refl, ◌∙◌}
use mathlib.Core.Logic.{◌⊎◌, inl, inr, ⊎_elim}
use mathlib.Core.List.{[], ◌∷◌}
use native.Mathlib.Nat.{not-suc-le-zero}
use native.Mathlib.Omega.{arith}
use lib.ListN.{length, get_or, length-append, get_or-append}
use lib.Seq.{get_or-append_seam}
use Rattle.numbers.specs.Below.{sel}
use Rattle.numbers.proofs.Below.{below-cases, sel-less}

module _ (p : ℕ → Bool) where
  old : (n i : ℕ) → i < length (sel p n) → get_or (sel p (suc n)) i 0 ≡ get_or (sel p n) i 0
  unfolding sel
  old n i h = go (p n) refl
    where
      go : (b : Bool) → p n ≡ b → get_or (sel p (suc n)) i 0 ≡ get_or (sel p n) i 0
      go true e = rw e (get_or-append (sel p n) (n ∷ []) 0 i h)
      go false e = rw e

  new : (n : ℕ) → p n ≡ true → get_or (sel p (suc n)) (length (sel p n)) 0 ≡ n
  unfolding sel
  new n e = rw e (get_or-append_seam (sel p n) n [] 0)

  cases : (n i : ℕ) → i < length (sel p (suc n)) → (i < length (sel p n)) ⊎ ((p n ≡ true) × (i ≡ length (sel p n)))
  unfolding sel
  cases n i h = go (p n) refl
    where
      go : (b : Bool) → p n ≡ b → (i < length (sel p n)) ⊎ ((p n ≡ true) × (i ≡ length (sel p n)))
      go true e =
          let l : i < suc (length (sel p n)) = omega (arith, rw (e, length-append) at h) in
          ⊎_elim (λ q. inr (e, q)) (λ k. inl k) (below-cases l)
      go false e = inl (rw e at h)

  pub sel-in : (n i : ℕ) → i < length (sel p n) → (get_or (sel p n) i 0 < n) × (p (get_or (sel p n) i 0) ≡ true)
  unfolding sel
  sel-in zero i h = absurd (not-suc-le-zero h)
  sel-in (suc n) i h =
      ⊎_elim
      (λ l. let r = sel-in n i l in rw (old n i l) (omega arith, r.1))
      (λ q. rw (q.1, new n q.0) (omega arith, q.0))
      (cases n i h)

  pub sel-ascends : (n i j : ℕ) → i < j → j < length (sel p n) → get_or (sel p n) i 0 < get_or (sel p n) j 0
  unfolding sel
  sel-ascends zero i j l h = absurd (not-suc-le-zero h)
  sel-ascends (suc n) i j l h =
      ⊎_elim
      (λ k. rw (old n i (omega arith), old n j k) (sel-ascends n i j l k))
      (λ q. rw (q.1, new n q.0, old n i (omega arith)) (sel-in n i (omega arith)).0)
      (cases n j h)

  -- the entry of a number that passes: as many stand before it as pass below it
  pub sel-at : (s n : ℕ) → s < n → p s ≡ true → get_or (sel p n) (length (sel p s)) 0 ≡ s
  sel-at s zero h e = absurd (not-suc-le-zero h)
  sel-at s (suc n) h e =
      ⊎_elim
      (λ q. rw q (new n (rw q at e)))
      (λ l. old n (length (sel p s)) (sel-less p s n l e) ∙ sel-at s n l e)
      (below-cases h)
