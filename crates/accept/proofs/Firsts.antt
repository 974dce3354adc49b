-- The first number that passes a test, a run of numbers more at a time. Assumes nothing.
--     first-same      a test that answers alike on the numbers below n has the same first
--     first-after     the first of a run behind numbers that all fail is the first of all
--     first_free b f s     the first number by the one found before s, f, and whether s passes
--     first_or p n d   the first number below n that passes, or else d
--     or-run          that, with a run of numbers more; or-found, or-not with one more
use Prim.Native.Nat.{ℕ, ◌+◌, ◌-◌, ◌≤◌, ◌<◌, min}
use mathlib.Core.Bool.{Bool, true, false, cond}
use mathlib.Core.Path.{◌≡◌, refl, sym, ap, ◌∙◌}
use mathlib.Core.Logic.{⊎_elim}
use native.Mathlib.Omega.{arith}
use borrow.Author.Tests.{lt-ltb, le-ltb, ltb-true, ltb-false}
use lib.Dec.{ltb}
use Rattle.numbers.specs.Below.{first}
use Rattle.numbers.proofs.Below.{First, first-is, first-law}
use Rattle.numbers.proofs.Coordinates.{lt-or-ge}

pub first-same : {p q : ℕ → Bool} {n f : ℕ} → ((i : ℕ) → i < n → q i ≡ p i) → First p n f → First q n f
first-same {f} e h =
    record {
      within = h.within;
      before = λ i l. e i (omega (arith, h.within)) ∙ h.before i l;
      here = λ l. e f l ∙ h.here l;
    }

pub first-after : {p : ℕ → Bool} {n c f : ℕ} → ((i : ℕ) → i < n → p i ≡ false) → First (λ j. p (n + j)) c f → First p (n + c) (n + f)
first-after {p} {n} {f} none h =
    record {
      within = omega (arith, h.within);
      before = λ i l. ⊎_elim (none i) (λ g. let e : n + (i - n) ≡ i = omega arith in ap p (sym e) ∙ h.before (i - n) (omega arith)) (lt-or-ge i n);
      here = λ l. h.here (omega arith);
    }

-- the first number by the one found before s, and whether s passes
abbrev pub first_free : Bool → ℕ → ℕ → ℕ
first_free true free s = cond (ltb s free) s free
first_free false free s = free

pub lesser-free : (free s : ℕ) → min free s ≡ first_free true free s
lesser-free free s = go (ltb s free) refl
  where
    go : (b : Bool) → ltb s free ≡ b → min free s ≡ cond b s free
    go true e = omega (arith, ltb-true s free e)
    go false e = omega (arith, ltb-false s free e)

abbrev pub first_or : (ℕ → Bool) → ℕ → ℕ → ℕ
first_or p n d = cond (ltb (first p n) n) (first p n) d

pub or-run : (p : ℕ → Bool) (n c d f : ℕ) → n + c ≤ d → First (λ j. p (n + j)) c f → first_free (ltb f c) (first_or p n d) (n + f) ≡ first_or p (n + c) d
or-run p n c d f l h = go (ltb (first p n) n) refl (ltb f c) refl
  where
    found : first p n < n → first p (n + c) ≡ first p n
    found g = let o = first-law p n in first-is p (n + c) (first p n) (omega arith) o.before (λ k. o.here g)

    later : n ≤ first p n → first p (n + c) ≡ n + f
    later g =
        let o = first-after {p = p} (λ i k. (first-law p n).before i (omega arith)) h in
        first-is p (n + c) (n + f) o.within o.before o.here

    go : (a : Bool) → ltb (first p n) n ≡ a → (b : Bool) → ltb f c ≡ b → first_free (ltb f c) (first_or p n d) (n + f) ≡ first_or p (n + c) d
    go true x true y =
        let g = ltb-true (first p n) n x in
        rw (x, y, found g, lt-ltb (first p n) (n + c) (omega arith), le-ltb (n + f) (first p n) (omega arith))
    go true x false y =
        let g = ltb-true (first p n) n x in
        rw (x, y, found g, lt-ltb (first p n) (n + c) (omega arith))
    go false x true y =
        let g = ltb-true f c y in
        rw (x, y, later (ltb-false (first p n) n x), lt-ltb (n + f) (n + c) (omega arith), lt-ltb (n + f) d (omega arith))
    go false x false y =
        let g = ltb-false f c y in
        rw (x, y, later (ltb-false (first p n) n x), le-ltb (n + f) (n + c) (omega arith))

-- and with one number more, by what the test says of it
pub or-found : (p : ℕ → Bool) (n d : ℕ) → n < d → p n ≡ true → first_free true (first_or p n d) n ≡ first_or p (n + 1) d
or-found p n d l e =
    let z : n + 0 ≡ n = omega arith in
    let h : First (λ j. p (n + j)) 1 0 = record { within = omega arith; before = λ i g. absurd (omega arith); here = λ g. ap p z ∙ e } in
    ap (first_free true (first_or p n d)) (sym z) ∙ or-run p n 1 d 0 (omega arith) h

pub or-not : (p : ℕ → Bool) (n d : ℕ) → n < d → p n ≡ false → first_or p n d ≡ first_or p (n + 1) d
or-not p n d l e =
    or-run p n 1 d 1 (omega arith)
    (record { within = omega arith; before = λ i g. let z : n + i ≡ n = omega arith in ap p z ∙ e; here = λ g. absurd (omega arith) })

-- below 0 there is none, and below n, n itself stands for none
pub or-none : (p : ℕ → Bool) (d : ℕ) → first_or p 0 d ≡ d
or-none p d = rw (le-ltb (first p 0) 0 (omega arith))

pub or-all : (p : ℕ → Bool) (n : ℕ) → first_or p n n ≡ first p n
or-all p n = go (ltb (first p n) n) refl
  where
    go : (b : Bool) → ltb (first p n) n ≡ b → first_or p n n ≡ first p n
    go true f = rw f
    go false f = rw f (omega (arith, ltb-false (first p n) n f, (first-law p n).within))
