-- The laws of ranges: what a test tells, and what shows each answer. Assumes nothing.
use Prim.Native.Nat.{ℕ, ◌+◌, ◌≤◌, ◌<◌, min, max}
use mathlib.Core.Bool.{Bool, true, false, ◌&&◌}
use mathlib.Core.Path.{◌≡◌, refl, sym}
use native.Mathlib.Omega.{arith}
use lib.Dec.{leb, ltb}
use borrow.Author.Tests.{lt-ltb, le-ltb, ltb-true, ltb-false, le-leb, lt-leb, leb-true}
use Rattle.numbers.specs.Ranges.{share, within}
use Rattle.numbers.proofs.Below.{never}

-- ---- two ranges

-- the first lies before the second, or after it
pub share-before : (a n b k : ℕ) → a + n ≤ b → share a n b k ≡ false
unfolding share
share-before a n b k h = le-ltb (max a b) (min (a + n) (b + k)) (omega arith)

pub share-after : (a n b k : ℕ) → b + k ≤ a → share a n b k ≡ false
unfolding share
share-after a n b k h = le-ltb (max a b) (min (a + n) (b + k)) (omega arith)

-- an empty range shares no byte
pub share-empty : (a n b : ℕ) → share a n b 0 ≡ false
unfolding share
share-empty a n b = le-ltb (max a b) (min (a + n) (b + 0)) (omega arith)

pub share-none : (a b k : ℕ) → share a 0 b k ≡ false
unfolding share
share-none a b k = le-ltb (max a b) (min (a + 0) (b + k)) (omega arith)

-- ranges with no byte in common do not reach into each other
pub share-no : {a n b k : ℕ} → share a n b k ≡ false → 0 < n → 0 < k → a < b + k → b < a + n → ⊥
unfolding share
share-no {a} {n} {b} {k} e x y l h = omega (arith, ltb-false (max a b) (min (a + n) (b + k)) e)

-- what shares no byte with a range shares none with a part of it
pub share_part : (a n b k i j : ℕ) → share a n b k ≡ false → b ≤ i → i + j ≤ b + k → share a n i j ≡ false
unfolding share
share_part a n b k i j e l h =
    le-ltb (max a i) (min (a + n) (i + j)) (omega (arith, ltb-false (max a b) (min (a + n) (b + k)) e))

pub share-comm : (a n b k : ℕ) → share a n b k ≡ share b k a n
unfolding share
share-comm a n b k = go (ltb (max a b) (min (a + n) (b + k))) refl
  where
    go : (t : Bool) → ltb (max a b) (min (a + n) (b + k)) ≡ t → ltb (max a b) (min (a + n) (b + k)) ≡ ltb (max b a) (min (b + k) (a + n))
    go true e = rw (e, lt-ltb (max b a) (min (b + k) (a + n)) (omega (arith, ltb-true (max a b) (min (a + n) (b + k)) e)))
    go false e = rw (e, le-ltb (max b a) (min (b + k) (a + n)) (omega (arith, ltb-false (max a b) (min (a + n) (b + k)) e)))

-- ---- a range inside another

pub within-true : (lo hi n p : ℕ) → within lo hi n p ≡ true → (lo ≤ p) × (p + n ≤ hi)
unfolding within
within-true lo hi n p e = go (leb lo p) refl e
  where
    go : (b : Bool) → leb lo p ≡ b → b && leb (p + n) hi ≡ true → (lo ≤ p) × (p + n ≤ hi)
    go true f g = (leb-true lo p f, leb-true (p + n) hi g)
    go false f g = absurd (never (sym g))

pub within-is : (lo hi n p : ℕ) → lo ≤ p → p + n ≤ hi → within lo hi n p ≡ true
unfolding within
within-is lo hi n p h l = rw (le-leb lo p h, le-leb (p + n) hi l)

pub within_low : (lo hi n p : ℕ) → p < lo → within lo hi n p ≡ false
unfolding within
within_low lo hi n p h = rw (lt-leb lo p h)

pub within-high : (lo hi n p : ℕ) → hi < p + n → within lo hi n p ≡ false
unfolding within
within-high lo hi n p h = go (leb lo p)
  where
    go : (b : Bool) → b && leb (p + n) hi ≡ false
    go true = lt-leb (p + n) hi h
    go false = refl
