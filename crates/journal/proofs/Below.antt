-- More laws of `any`: tests that agree, and a test made of two; and what a conjunction tells. Assumes nothing.
use Prim.Native.Nat.{ℕ, zero, suc, ◌≤◌, ◌<◌}
use mathlib.Core.Bool.{Bool, true, false, not, cond, ◌&&◌}
use mathlib.Core.Path.{◌≡◌, refl, sym}
use native.Mathlib.Omega.{arith}
use lib.Dec.{ltb}
use borrow.Author.Tests.{lt-ltb, ltb-true}
use Rattle.numbers.specs.Below.{any}
use Rattle.numbers.proofs.Below.{never, any_at, any_false, any-true}

-- 0 is not 1, so anything follows
pub zero_one : {A : Type 0} → ◌≡◌ {A = ℕ} 0 1 → A
zero_one z = let no_way : ⊥ = omega arith in absurd no_way

-- what a conjunction tells
pub and-tells : (a b : Bool) → a && b ≡ true → (a ≡ true) × (b ≡ true)
and-tells true b e = (refl, e)
and-tells false b e = absurd (never (sym e))

-- what is not true is false
pub not-true-is : (b : Bool) → (b ≡ true → ⊥) → b ≡ false
not-true-is true h = absurd (h refl)
not-true-is false h = refl

-- tests that agree below n
pub any_same : (p q : ℕ → Bool) (n : ℕ) → ((i : ℕ) → i < n → p i ≡ q i) → any p n ≡ any q n
unfolding any
any_same p q zero h = refl
any_same p q (suc n) h = rw (any_same p q n (λ i l. h i (omega arith)), h n (omega arith))

-- a test that is p below k and q from k on: none passes where neither does
pub none-split : (p q : ℕ → Bool) (k n : ℕ) → k ≤ n → not (any (λ i. cond (ltb i k) (p i) (q i)) n) ≡ not (any p k) && not (any (λ i. not (ltb i k) && q i) n)
none-split p q k n h = go (any p k) refl
  where
    both : ℕ → Bool
    both i = cond (ltb i k) (p i) (q i)

    high : ℕ → Bool
    high i = not (ltb i k) && q i

    agree : any p k ≡ false → (i : ℕ) (b : Bool) → ltb i k ≡ b → cond b (p i) (q i) ≡ not b && q i
    agree f i true e = any_false p k f i (ltb-true i k e)
    agree f i false e = refl

    go : (b : Bool) → any p k ≡ b → not (any both n) ≡ not (any p k) && not (any high n)
    go true f =
        let w = any-true p k f in
        let e : both w.0 ≡ true = rw (lt-ltb w.0 k w.1) w.2 in
        rw (f, any_at both n (omega arith) e)
    go false f = rw (f, any_same both high n (λ i l. agree f i (ltb i k) refl))
