-- Numbers below K, no two of them the same, are at most K; so ranges of n bytes inside [lo, hi), no two of which share a byte, are at most (hi - lo) / n.
-- Assumes nothing.
use Prim.Native.Nat.{ℕ, zero, suc, ◌+◌, ◌-◌, ◌*◌, ◌/◌, ◌≤◌, ◌<◌}
use mathlib.Core.Bool.{Bool, true, false}
use mathlib.Core.Path.{◌≡◌, refl, sym, ap, ◌∙◌}
use mathlib.Core.Logic.{⊎_elim}
use native.Mathlib.Nat.{lt_of_not-le, not-le_of_lt, div-add-mod', mod-lt, add-div_right, div-lt_iff_lt-mul, add-mul, one-mul}
use native.Mathlib.Omega.{arith}
use lib.Dec.{ltb, eqb}
use borrow.Author.Tests.{lt-ltb, le-ltb, ltb-true, eqb-true, eq-eqb}
use Rattle.numbers.specs.Ranges.{share}
use Rattle.numbers.proofs.Below.{below-cases}
use Rattle.numbers.proofs.Ranges.{share-no}

abbrev weight : Bool → ℕ
weight true = 1
weight false = 0

-- how many numbers below n pass the test
cnt : (ℕ → Bool) → ℕ → ℕ
cnt p zero = zero
cnt p (suc n) = weight (p n) + cnt p n

module _ (p : ℕ → Bool) where
  cnt-all : (n : ℕ) → ((i : ℕ) → i < n → p i ≡ true) → cnt p n ≡ n
  unfolding cnt
  cnt-all zero h = refl
  cnt-all (suc n) h = simp (h n (omega arith)) (omega (arith, cnt-all n (λ i l. h i (omega arith))))

  cnt-none : (n : ℕ) → ((i : ℕ) → i < n → p i ≡ false) → cnt p n ≡ 0
  unfolding cnt
  cnt-none zero h = refl
  cnt-none (suc n) h = simp (h n (omega arith)) (omega (arith, cnt-none n (λ i l. h i (omega arith))))

  cnt-one : (n : ℕ) → ((i j : ℕ) → i < j → j < n → p i ≡ true → p j ≡ true → ⊥) → cnt p n ≤ 1
  unfolding cnt
  cnt-one zero h = omega arith
  cnt-one (suc n) h = go (p n) refl (cnt-one n (λ i j l k. h i j l (omega arith)))
    where
      off : p n ≡ true → (i : ℕ) → i < n → (b : Bool) → p i ≡ b → b ≡ false
      off e i l true f = absurd (h i n l (omega arith) f e)
      off e i l false f = refl

      go : (b : Bool) → p n ≡ b → cnt p n ≤ 1 → cnt p (suc n) ≤ 1
      go true e ih = let z = cnt-none n (λ i l. off e i l (p i) refl) in simp e (omega arith)
      go false e ih = simp e (omega arith)

cnt-split : (p q r : ℕ → Bool) (n : ℕ) → ((i : ℕ) → weight (p i) ≤ weight (q i) + weight (r i)) → cnt p n ≤ cnt q n + cnt r n
unfolding cnt
cnt-split p q r zero h = omega arith
cnt-split p q r (suc n) h = omega (arith, h n, cnt-split p q r n h)

-- a is below k + 1: it is below k, or it is k
lt-split : (a k : ℕ) → weight (ltb a (suc k)) ≤ weight (ltb a k) + weight (eqb a k)
lt-split a k = go (ltb a (suc k)) refl
  where
    go : (b : Bool) → ltb a (suc k) ≡ b → weight b ≤ weight (ltb a k) + weight (eqb a k)
    go true e =
        ⊎_elim
        (λ q. simp (eq-eqb a k q) (omega arith))
        (λ l. simp (lt-ltb a k l) (omega arith))
        (below-cases (ltb-true a (suc k) e))
    go false e = omega arith

module _ (f : ℕ → ℕ) (n : ℕ) (inj : (i j : ℕ) → i < j → j < n → f i ≡ f j → ⊥) where
  below : (k : ℕ) → cnt (λ i. ltb (f i) k) n ≤ k
  below zero = omega (arith, cnt-none (λ i. ltb (f i) zero) n (λ i l. le-ltb (f i) 0 (omega arith)))
  below (suc k) =
      omega (
        arith,
        below k,
        cnt-split (λ i. ltb (f i) (suc k)) (λ i. ltb (f i) k) (λ i. eqb (f i) k) n (λ i. lt-split (f i) k),
        cnt-one (λ i. eqb (f i) k) n (λ i j l h e g. inj i j l h (eqb-true (f i) k e ∙ sym (eqb-true (f j) k g))),
      )

  pub pigeon : (k : ℕ) → ((i : ℕ) → i < n → f i < k) → n ≤ k
  pigeon k h = omega (arith, below k, cnt-all (λ i. ltb (f i) k) n (λ i l. lt-ltb (f i) k (h i l)))

-- ---- division by any positive number, of which `omega` knows nothing

pub div_mono : {a b : ℕ} (k : ℕ) → 0 < k → a ≤ b → a / k ≤ b / k
div_mono {a} {b} k z h =
    let l : a < b / k * k + k = omega (arith, div-add-mod' b k, mod-lt b z) in
    let g : a < (b / k + 1) * k = rw (add-mul, one-mul) l in
    omega (arith, (div-lt_iff_lt-mul {x = a} {y = b / k + 1} z).1 g)

pub div-lt : (a b k : ℕ) → 0 < k → a / k < b / k → a < b
div-lt a b k z l = lt_of_not-le (λ h. not-le_of_lt l (div_mono k z h))

-- a number whose quotient is below b is below b times the divisor
pub div_below : (a b k : ℕ) → 0 < k → a / k < b → a < b * k
div_below a b k z l = (div-lt_iff_lt-mul {k = k} {x = a} {y = b} z).0 l

-- two numbers with the same quotient are less than the divisor apart
pub div-near : (a b k : ℕ) → 0 < k → a / k ≡ b / k → a < b + k
div-near a b k z e =
    let q : a / k * k ≡ b / k * k = ap (λ (x : ℕ). x * k) e in
    omega (arith, div-add-mod' a k, div-add-mod' b k, mod-lt a z)

-- ---- ranges

-- blocks b 0, b 1, .. of sz bytes inside [lo, hi), of which no two share a byte: k of them
pub blocks-fit : (b : ℕ → ℕ) (sz lo hi n : ℕ) → 0 < sz → ((i : ℕ) → i < n → (lo ≤ b i) × (b i + sz ≤ hi)) → ((i j : ℕ) → i < j → j < n → share (b i) sz (b j) sz ≡ false) → n ≤ (hi - lo) / sz
blocks-fit b sz lo hi n z inside apart = pigeon (λ i. (b i - lo) / sz) n same ((hi - lo) / sz) small
  where
    small : (i : ℕ) → i < n → (b i - lo) / sz < (hi - lo) / sz
    small i l =
        let x = inside i l in
        let m : (b i - lo + sz) / sz ≤ (hi - lo) / sz = div_mono sz z (omega arith) in
        omega (arith, add-div_right (b i - lo) z)

    same : (i j : ℕ) → i < j → j < n → (b i - lo) / sz ≡ (b j - lo) / sz → ⊥
    same i j l h e =
        let x = inside i (omega arith) in
        let y = inside j h in
        let p = div-near (b i - lo) (b j - lo) sz z e in
        let q = div-near (b j - lo) (b i - lo) sz z (sym e) in
        share-no (apart i j l h) z z (omega arith) (omega arith)

-- a place before the end has its page in a table that is one entry longer than there are pages
pub page-in : (k x n : ℕ) → 0 < k → x + k < n * k → x / k + 1 < n
page-in k x n z l = rw (← add-div_right x z) ((div-lt_iff_lt-mul {k = k} {x = x + k} {y = n} z).1 l)
