-- The laws of bits: made from a test one at a time, lowest or highest first; taken apart, they list the numbers that pass it. Assumes nothing.
--     half              half of a number doubled
--     double-turn       a word, half of it, and a bit put in as the highest: what a loop makes of bits that it gets lowest first
--     bits-more         one bit more, as the highest
--     bits_below        n bits are below 2 ^ n
--     bits-word         and standing highest in a word, below what a word can hold
--     bits-same         tests that agree, each from its own number on, have the same bits and as many that pass
--     ones-bits         the bits that are 1 are the numbers that pass
--     ones_odd, ones-even, ones-zero     the lowest bit taken off; no bit is 1 where the number is 0
--     ones-lowest       the lowest bit that is 1, and the number without it
--     sel-from          those below s + n that pass: those below s, and those from s on
--     bits-moved, sel-moved     a test of the first n numbers that agrees with another from s on
--     ones-front        the first words of a list
--     ones-words        words that have the bits of a test, so many each, have the numbers that pass it
--     ones-count, bits-count     how many bits are 1, which is what the machine's count of ones gives; of a test's bits, as many as pass it
--     word-high, word-most, ones-full     the words of the code: the highest bit, what they can hold, and one all of whose bits are 1
use Prim.Native.Nat.{ℕ, zero, suc, ◌+◌, ◌-◌, ◌*◌, ◌/◌, ◌%◌, ◌≤◌, ◌<◌}
use mathlib.Core.Bool.{Bool, true, false, cond}
use mathlib.Core.Logic.{◌⊎◌, inl, inr, ⊎_elim}
use mathlib.Core.Path.{◌≡◌, refl, sym, ap, ◌∙◌}
use mathlib.Core.List.{List, [], ◌∷◌, ◌++◌, append_assoc, append-nil}
use native.Mathlib.Nat.{add-zero, add-suc, zero-add, mul-zero, mul-suc}
use native.Mathlib.Decide.{ℕ_discrete}
use native.Mathlib.Numerals.{add-one}
use native.Mathlib.Omega.{arith}
use lib.Bits.{bit_and, and_step, and_self}
use lib.Count.{ones as count, ones_step, ones-le, count_trailing_zeros}
use lib.ListN.{length, get_or, take, length-append}
use lib.Seq.{get_or-take, length-take-le}
use borrow.Author.Tests.{eq-eqb, ne_eqb}
use Rattle.numbers.specs.Below.{sel}
use Rattle.numbers.proofs.Below.{sel_yes, sel_no}
use Rattle.bits.specs.Bits.{bit, double, from, bits_from, ones, ones_in, word_bits, full}

pub bit-most : (b : Bool) → bit b ≤ 1
bit-most true = omega arith
bit-most false = omega arith

-- ---- doubling

pub half : (k x : ℕ) → double (suc k) x / 2 ≡ double k x
unfolding double
half k x = omega arith

double-add : (k x y : ℕ) → double k (x + y) ≡ double k x + double k y
unfolding double
double-add zero x y = refl
double-add (suc k) x y = omega (arith, double-add k x y)

double-zero : (k : ℕ) → double k 0 ≡ 0
unfolding double
double-zero zero = refl
double-zero (suc k) = omega (arith, double-zero k)

double-two : (k x : ℕ) → double k (2 * x) ≡ 2 * double k x
unfolding double
double-two zero x = refl
double-two (suc k) x = omega (arith, double-two k x)

double-double : (k j x : ℕ) → double k (double j x) ≡ double (k + j) x
unfolding double
double-double k zero x = rw add-zero
double-double k (suc j) x = rw add-suc (double-two k (double j x) ∙ ap (λ (y : ℕ). 2 * y) (double-double k j x))

double-below : (k x y : ℕ) → x < y → double k x < double k y
unfolding double
double-below zero x y h = h
double-below (suc k) x y h = omega (arith, double-below k x y h)

pub double-turn : (k j x : ℕ) (b : Bool) → double (suc k) x / 2 + bit b * double (k + j) 1 ≡ double k (x + double j (bit b))
double-turn k j x true = omega (arith, half k x, double-add k x (double j 1), double-double k j 1)
double-turn k j x false = rw (double-zero j, add-zero x) (omega (arith, half k x))

-- ---- the bits of a test

pub bits-more : (p : ℕ → Bool) (s n : ℕ) → bits_from p s (n + 1) ≡ bits_from p s n + double n (bit (p (s + n)))
unfolding bits_from double
bits-more p s zero = rw (add-zero s) (omega arith)
bits-more p s (suc n) =
    let e : s + 1 + n ≡ s + suc n = omega arith in
    let h : bits_from p (s + 1) (suc n) ≡ bits_from p (s + 1) n + double n (bit (p (s + suc n))) = rw (add-one n, e) at (bits-more p (s + 1) n) in
    rw (add-one (suc n)) (omega (arith, h))

pub bits_below : (p : ℕ → Bool) (s n : ℕ) → bits_from p s n < double n 1
unfolding bits_from double
bits_below p s zero = omega arith
bits_below p s (suc n) = omega (arith, bits_below p (s + 1) n, bit-most (p s))

-- bits that stand highest in a word are a word
pub bits-word : (p : ℕ → Bool) (s n k : ℕ) → double k (bits_from p s n) < double (k + n) 1
bits-word p s n k = omega (arith, double-below k (bits_from p s n) (double n 1) (bits_below p s n), double-double k n 1)

-- tests that agree
module _ (p q : ℕ → Bool) where
  pub bits-same : (s t n : ℕ) → ((j : ℕ) → j < n → p (s + j) ≡ q (t + j)) → bits_from p s n ≡ bits_from q t n
  unfolding bits_from
  bits-same s t zero h = refl
  bits-same s t (suc n) h =
      let e : p s ≡ q t = rw (add-zero s, add-zero t) at (h 0 (omega arith)) in
      rw e (ap (λ (x : ℕ). bit (q t) + 2 * x) (bits-same (s + 1) (t + 1) n (λ j l. rest j l)))
    where
      rest : (j : ℕ) → j < n → p (s + 1 + j) ≡ q (t + 1 + j)
      rest j l =
          let a : s + (j + 1) ≡ s + 1 + j = omega arith in
          let b : t + (j + 1) ≡ t + 1 + j = omega arith in
          rw (a, b) at (h (j + 1) (omega arith))

-- ---- the bits that are 1

pub parity : (x : ℕ) → (x % 2 ≡ 0) ⊎ (x % 2 ≡ 1)
parity x =
    elim (ℕ_discrete (x % 2) 0) [
      | yes e ↦ inl e
      | no e ↦ inr (omega arith)
    ]

module _ (x n s : ℕ) where
  pub ones_odd : x % 2 ≡ 1 → ones (suc n) x s ≡ s ∷ ones n (x / 2) (s + 1)
  unfolding ones
  ones_odd e = rw (eq-eqb (x % 2) 1 e)

  pub ones-even : x % 2 ≡ 0 → ones (suc n) x s ≡ ones n (x / 2) (s + 1)
  unfolding ones
  ones-even e = rw (ne_eqb (x % 2) 1 (omega arith))

pub ones-zero : (n s : ℕ) → ones n 0 s ≡ []
unfolding ones
ones-zero zero s = refl
ones-zero (suc n) s = ones-zero n (s + 1)

pub ones-bits : (p : ℕ → Bool) (s n : ℕ) → ones n (bits_from p s n) s ≡ from p s n
unfolding ones bits_from from
ones-bits p s zero = refl
ones-bits p s (suc n) = go (p s) refl (ones-bits p (s + 1) n)
  where
    go : (b : Bool) → p s ≡ b → ones n (bits_from p (s + 1) n) (s + 1) ≡ from p (s + 1) n → ones (suc n) (bits_from p s (suc n)) s ≡ from p s (suc n)
    go true f h =
        let x = 1 + 2 * bits_from p (s + 1) n in
        let e : x / 2 ≡ bits_from p (s + 1) n = omega arith in
        let o : x % 2 ≡ 1 = omega arith in
        rw (f, eq-eqb (x % 2) 1 o, e, h)
    go false f h =
        let x = 0 + 2 * bits_from p (s + 1) n in
        let e : x / 2 ≡ bits_from p (s + 1) n = omega arith in
        let o : x % 2 ≡ 0 = omega arith in
        rw (f, ne_eqb (x % 2) 1 (omega arith), e, h)

-- ---- those that pass, from a number on

pub from-none : (p : ℕ → Bool) (s : ℕ) → from p s 0 ≡ []
unfolding from
from-none p s = refl

pub from-yes : (p : ℕ → Bool) (s n : ℕ) → p s ≡ true → from p s (suc n) ≡ s ∷ from p (s + 1) n
unfolding from
from-yes p s n e = rw e

pub sel-from : (p : ℕ → Bool) (s n : ℕ) → sel p (s + n) ≡ sel p s ++ from p s n
unfolding from
sel-from p s zero = rw (add-zero s) (sym (append-nil (sel p s)))
sel-from p s (suc n) =
    let e : s + 1 + n ≡ s + suc n = omega arith in
    go (p s) refl (rw e at (sel-from p (s + 1) n))
  where
    go : (b : Bool) → p s ≡ b → sel p (s + suc n) ≡ sel p (s + 1) ++ from p (s + 1) n → sel p (s + suc n) ≡ sel p s ++ cond (p s) (s ∷ from p (s + 1) n) (from p (s + 1) n)
    go true f h = rw f (h ∙ ap (λ (l : List ℕ). l ++ from p (s + 1) n) (sel_yes p s f) ∙ append_assoc (sel p s) (s ∷ []) (from p (s + 1) n))
    go false f h = rw f (h ∙ ap (λ (l : List ℕ). l ++ from p (s + 1) n) (sel_no p s f))

pub from_zero : (p : ℕ → Bool) (n : ℕ) → from p 0 n ≡ sel p n
unfolding sel
from_zero p n = sym (rw (zero-add n) at (sel-from p 0 n))

-- how many pass: all of them; and as many as of a test that agrees
pub from_all : (p : ℕ → Bool) (s n : ℕ) → ((j : ℕ) → p j ≡ true) → length (from p s n) ≡ n
unfolding from
from_all p s zero h = refl
from_all p s (suc n) h = rw (h s) (omega (arith, from_all p (s + 1) n h))

pub from-same : (p q : ℕ → Bool) (s t n : ℕ) → ((j : ℕ) → j < n → p (s + j) ≡ q (t + j)) → length (from p s n) ≡ length (from q t n)
unfolding from
from-same p q s t zero h = refl
from-same p q s t (suc n) h = go (q t) refl (from-same p q (s + 1) (t + 1) n rest)
  where
    rest : (j : ℕ) → j < n → p (s + 1 + j) ≡ q (t + 1 + j)
    rest j l =
        let a : s + (j + 1) ≡ s + 1 + j = omega arith in
        let b : t + (j + 1) ≡ t + 1 + j = omega arith in
        rw (a, b) at (h (j + 1) (omega arith))

    e : p s ≡ q t
    e = rw (add-zero s, add-zero t) at (h 0 (omega arith))

    go : (b : Bool) → q t ≡ b → length (from p (s + 1) n) ≡ length (from q (t + 1) n) → length (from p s (suc n)) ≡ length (from q t (suc n))
    go true f g = rw (e, f) (omega (arith, g))
    go false f g = rw (e, f) g

-- a test of the first n numbers, which agrees with another from s on: it has the other's bits, and tells how many more pass
module _ (p q : ℕ → Bool) (s n : ℕ) (h : (j : ℕ) → j < n → p j ≡ q (s + j)) where
  moved : (j : ℕ) → j < n → p (0 + j) ≡ q (s + j)
  moved j l = rw (zero-add j) (h j l)

  pub bits-moved : bits_from p 0 n ≡ bits_from q s n
  bits-moved = bits-same p q 0 s n moved

  pub sel-moved : length (sel q s) + length (sel p n) ≡ length (sel q (s + n))
  sel-moved =
      let a = ap length (sel-from q s n) ∙ length-append (sel q s) (from q s n) in
      let b = ap length (sym (from_zero p n)) ∙ from-same p q 0 s n moved in
      omega (arith, a, b)

-- ---- words

module _ (w : ℕ) where
  pub ones-words : (p : ℕ → Bool) (ws : List ℕ) (k : ℕ) → ((i : ℕ) → i < k → get_or ws i 0 ≡ bits_from p (w * i) w) → ones_in w ws k ≡ sel p (w * k)
  unfolding ones_in sel
  ones-words p ws zero h = rw (mul-zero w)
  ones-words p ws (suc k) h =
      let e : w * suc k ≡ w * k + w = mul-suc w k in
      rw (e, sel-from p (w * k) w, ones-words p ws k (λ i l. h i (omega arith)), h k (omega arith), ones-bits p (w * k) w)

  -- a word more
  pub ones-more : (ws : List ℕ) (k : ℕ) → ones_in w ws (k + 1) ≡ ones_in w ws k ++ ones w (get_or ws k 0) (w * k)
  unfolding ones_in
  ones-more ws k = rw (add-one k)

  pub ones-mono : (ws : List ℕ) (i n : ℕ) → i ≤ n → length (ones_in w ws i) ≤ length (ones_in w ws n)
  ones-mono ws i zero h = let e : i ≡ 0 = omega arith in rw e (omega arith)
  ones-mono ws i (suc n) h =
      elim (ℕ_discrete i (suc n)) [
        | yes e ↦ rw e (omega arith)
        | no e ↦ omega (arith, ones-mono ws i n (omega arith), ap length (rw (add-one n) at (ones-more ws n)), length-append (ones_in w ws n) (ones w (get_or ws n 0) (w * n)))
      ]

-- words that agree
ones-same : (w : ℕ) (us vs : List ℕ) (k : ℕ) → ((i : ℕ) → i < k → get_or us i 0 ≡ get_or vs i 0) → ones_in w us k ≡ ones_in w vs k
unfolding ones_in
ones-same w us vs zero h = refl
ones-same w us vs (suc k) h = rw (ones-same w us vs k (λ i l. h i (omega arith)), h k (omega arith))

-- of a slice's first words those of the slice
pub ones-front : (w : ℕ) (ws : List ℕ) (k : ℕ) → k ≤ length ws → ones_in w (take k ws) (length (take k ws)) ≡ ones_in w ws k
ones-front w ws k h = rw (length-take-le k ws h) (ones-same w (take k ws) ws k (λ i l. get_or-take k ws i 0 l))

-- the lowest bit that is 1 is listed first, and without it the others are left
pub ones-lowest : (n x s : ℕ) → x < double n 1 → (x ≡ 0 → ⊥) → ones n x s ≡ (s + count_trailing_zeros n x) ∷ ones n (bit_and x (x - 1)) s
unfolding double count_trailing_zeros
ones-lowest zero x s l h = absurd (h (omega arith))
ones-lowest (suc n) x s l h =
    ⊎_elim
    (λ e.
    let y = x / 2 in
    let q : (x - 1) / 2 ≡ y - 1 = omega (arith, h) in
    let z : bit_and x (x - 1) ≡ bit_and y (y - 1) * 2 = omega (arith, rw q at (and_step x (x - 1)), e) in
    let m : bit_and x (x - 1) % 2 ≡ 0 = omega (arith, z) in
    let d : bit_and x (x - 1) / 2 ≡ bit_and y (y - 1) = omega (arith, z) in
    let t : s + suc (count_trailing_zeros n y) ≡ s + 1 + count_trailing_zeros n y = omega arith in
    let low : y < double n 1 = omega (arith, l) in
    let some : y ≡ 0 → ⊥ = λ g. h (omega (arith, g, e)) in
    rw (ones-even x n s e, ones-even (bit_and x (x - 1)) n s m, d, e, t) (ones-lowest n y (s + 1) low some))
    (λ e.
    let y = x / 2 in
    let q : (x - 1) / 2 ≡ y = omega (arith, e) in
    let r : (x - 1) % 2 ≡ 0 = omega (arith, e) in
    let z : bit_and x (x - 1) ≡ y * 2 = omega (arith, rw (q, and_self y) at (and_step x (x - 1)), r) in
    let m : bit_and x (x - 1) % 2 ≡ 0 = omega (arith, z) in
    let d : bit_and x (x - 1) / 2 ≡ y = omega (arith, z) in
    rw (ones_odd x n s e, ones-even (bit_and x (x - 1)) n s m, d, e, add-zero s))
    (parity x)

-- how many are 1, as the machine counts them
pub ones-count : (n x s : ℕ) → x < double n 1 → length (ones n x s) ≡ count x
unfolding double ones
ones-count zero x s l = let e : x < 1 = omega arith in omega (arith, ones-le 0 x e)
ones-count (suc n) x s l =
    let h = ones-count n (x / 2) (s + 1) (omega arith) in
    ⊎_elim
    (λ e. rw (ones-even x n s e) (omega (arith, h, ones_step x)))
    (λ e. rw (ones_odd x n s e) (omega (arith, h, ones_step x)))
    (parity x)

pub bits-count : (p : ℕ → Bool) (n : ℕ) → count (bits_from p 0 n) ≡ length (sel p n)
bits-count p n = sym (ones-count n (bits_from p 0 n) 0 (bits_below p 0 n)) ∙ ap length (ones-bits p 0 n ∙ from_zero p n)

-- ---- the words of the code

pub word-high : double (word_bits - 1) 1 ≡ 9223372036854775808
unfolding double
word-high = refl

pub word-most : double word_bits 1 ≡ 18446744073709551616
unfolding double
word-most = refl

pub ones-full : (s : ℕ) → ones word_bits full s ≡ from (λ i. true) s word_bits
unfolding bits_from
ones-full s = let e : bits_from (λ i. true) s word_bits ≡ full = refl in rw (← e) (ones-bits (λ i. true) s word_bits)

pub full-length : (s : ℕ) → length (ones word_bits full s) ≡ word_bits
full-length s = rw (ones-full s) (from_all (λ i. true) s word_bits (λ j. refl))
