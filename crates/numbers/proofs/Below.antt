-- The laws of `any`, `first` and `sel`. Assumes nothing.
use Prim.Native.Nat.{ℕ, zero, suc, ◌+◌, ◌≤◌, ◌<◌}
use mathlib.Core.Bool.{Bool, true, false, ◌||◌}
use mathlib.Core.Path.{◌≡◌, refl, sym, ap, ◌∙◌}
use mathlib.Core.Logic.{◌⊎◌, ⊎_elim}
use mathlib.Core.List.{[], ◌∷◌, ◌++◌}
use native.Mathlib.Nat.{le_trans, le_of_suc-le-suc, not-suc-le-zero, eq-or-lt_of_le, lt_irrefl, lt_of_not-le}
use native.Mathlib.Numerals.{add-one}
use native.Mathlib.Omega.{arith}
use lib.ListN.{length, length-append}
use Rattle.numbers.specs.Below.{any, first, sel}

-- i is below suc n: it is below n, or it is n
pub below-cases : {i n : ℕ} → i < suc n → (i ≡ n) ⊎ (i < n)
below-cases h = eq-or-lt_of_le (le_of_suc-le-suc h)

pub or_right : (b : Bool) → b || true ≡ true
or_right true = refl
or_right false = refl

pub or_left : (b c : Bool) → b || c ≡ false → b ≡ false
or_left true c e = e
or_left false c e = refl

pub never : ◌≡◌ {A = Bool} true false → ⊥
never q = let z : ◌≡◌ {A = ℕ} 0 1 = cc in omega arith

pub or_snd : (b c : Bool) → b || c ≡ false → c ≡ false
or_snd true c e = absurd (never e)
or_snd false c e = e

module _ (p : ℕ → Bool) where
  pub any_at : {i : ℕ} (n : ℕ) → i < n → p i ≡ true → any p n ≡ true
  unfolding any
  any_at zero h e = absurd (not-suc-le-zero h)
  any_at {i} (suc n) h e =
      ⊎_elim
      (λ q. let f : p n ≡ true = cc in simp f (or_right (any p n)))
      (λ l. simp (any_at n l e))
      (below-cases h)

  pub any_none : (n : ℕ) → ((i : ℕ) → i < n → p i ≡ false) → any p n ≡ false
  unfolding any
  any_none zero h = refl
  any_none (suc n) h = simp (any_none n (λ i l. h i (omega arith)), h n (omega arith))

  pub any_false : (n : ℕ) → any p n ≡ false → (i : ℕ) → i < n → p i ≡ false
  unfolding any
  any_false zero e i h = absurd (not-suc-le-zero h)
  any_false (suc n) e i h =
      ⊎_elim
      (λ q. ap p q ∙ or_snd (any p n) (p n) e)
      (λ l. any_false n (or_left (any p n) (p n) e) i l)
      (below-cases h)

  -- some number below n passes, and which
  pub any-true : (n : ℕ) → any p n ≡ true → (i : ℕ) × (i < n) × (p i ≡ true)
  unfolding any
  any-true zero e = absurd (never (sym e))
  any-true (suc n) e = go (any p n) refl (p n) refl (λ f. any-true n f)
    where
      go : (b : Bool) → any p n ≡ b → (c : Bool) → p n ≡ c → (any p n ≡ true → (i : ℕ) × (i < n) × (p i ≡ true)) → (i : ℕ) × (i < suc n) × (p i ≡ true)
      go true f c g ih = let r = ih f in (r.0, omega arith, r.2)
      go false f true g ih = (n, omega arith, g)
      go false f false g ih = absurd (never (sym e ∙ simp (f, g)))

  pub first-none : (n : ℕ) → ((i : ℕ) → i < n → p i ≡ false) → first p n ≡ n
  unfolding first
  first-none zero h = refl
  first-none (suc n) h = simp (any_none n (λ i l. h i (omega arith)), h n (omega arith))

  -- what shows that r is the first: it is at most n, nothing below it passes, and it passes if it is below n
  pub first-is : (n r : ℕ) → r ≤ n → ((i : ℕ) → i < r → p i ≡ false) → (r < n → p r ≡ true) → first p n ≡ r
  unfolding first
  first-is zero r l h e = omega arith
  first-is (suc n) r l h e =
      ⊎_elim
      (λ q. first-none (suc n) (λ i k. h i (omega arith)) ∙ sym q)
      (λ (lt : r < suc n).
      ⊎_elim
      (λ q. here q)
      (λ k. simp (any_at n k (e (omega arith))) (first-is n r (omega arith) h (λ g. e (omega arith))))
      (below-cases lt))
      (eq-or-lt_of_le l)
    where
      here : r ≡ n → first p (suc n) ≡ r
      here q =
          let f : p n ≡ true = rw q at (e (omega arith)) in
          simp (any_none n (λ i k. h i (omega arith)), f) (sym q)

  -- what holds of the first
  pub record First (n r : ℕ) : Type 0 where
    pub within : r ≤ n
    pub before : (i : ℕ) → i < r → p i ≡ false
    pub here : r < n → p r ≡ true

  pub first-law : (n : ℕ) → First n (first p n)
  unfolding first
  first-law zero =
      record { within = omega arith; before = λ i h. absurd (not-suc-le-zero h); here = λ h. absurd (not-suc-le-zero h) }
  first-law (suc n) = go (first-law n) (any p n) refl (p n) refl
    where
      none : any p n ≡ false → First n (first p n) → (i : ℕ) → i < n → p i ≡ false
      none f r i h = any_false n f i h

      go : First n (first p n) → (b : Bool) → any p n ≡ b → (c : Bool) → p n ≡ c → First (suc n) (first p (suc n))
      go r true f c g =
          let k = any-true n f in
          let lt : first p n < n = lt_of_not-le (λ h. never (sym k.2 ∙ r.before k.0 (omega arith))) in
          rw f (record { within = omega arith; before = r.before; here = λ h. r.here lt })
      go r false f true g =
          rw (f, g) (record { within = omega arith; before = any_false n f; here = λ h. g })
      go r false f false g =
          rw (f, g)
          (record {
            within = omega arith;
            before = λ i h. ⊎_elim (λ q. ap p q ∙ g) (λ l. any_false n f i l) (below-cases h);
            here = λ h. absurd (lt_irrefl _ h);
          })

  -- the list of those that pass, one number more at a time, as a loop makes it
  pub sel_yes : (n : ℕ) → p n ≡ true → sel p (n + 1) ≡ sel p n ++ (n ∷ [])
  unfolding sel
  sel_yes n e = rw (add-one, e)

  pub sel_no : (n : ℕ) → p n ≡ false → sel p (n + 1) ≡ sel p n
  unfolding sel
  sel_no n e = rw (add-one, e)

  pub sel-length : (n : ℕ) → length (sel p n) ≤ n
  unfolding sel
  sel-length zero = omega arith
  sel-length (suc n) = go (p n) refl (sel-length n)
    where
      go : (b : Bool) → p n ≡ b → length (sel p n) ≤ n → length (sel p (suc n)) ≤ suc n
      go true e ih = rw (e, length-append) (omega arith)
      go false e ih = rw e (omega arith)

  -- the list only grows
  sel-step : (n : ℕ) → length (sel p n) ≤ length (sel p (suc n))
  unfolding sel
  sel-step n = go (p n) refl
    where
      go : (b : Bool) → p n ≡ b → length (sel p n) ≤ length (sel p (suc n))
      go true e = rw (e, length-append) (omega arith)
      go false e = rw e (omega arith)

  pub sel-mono : (i n : ℕ) → i ≤ n → length (sel p i) ≤ length (sel p n)
  sel-mono i zero h = let e : i ≡ 0 = omega arith in rw e (omega arith)
  sel-mono i (suc n) h =
      ⊎_elim
      (λ e. rw e (omega arith))
      (λ l. le_trans (sel-mono i n (le_of_suc-le-suc l)) (sel-step n))
      (eq-or-lt_of_le h)

  pub sel-less : (i n : ℕ) → i < n → p i ≡ true → length (sel p i) < length (sel p n)
  sel-less i n h e =
      let g : length (sel p (i + 1)) ≤ length (sel p n) = sel-mono (i + 1) n (omega arith) in
      omega (arith, rw (sel_yes i e, length-append) at g)
