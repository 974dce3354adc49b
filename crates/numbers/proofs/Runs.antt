-- The laws of the loops over a run of bytes: of one that looks for zeros, of a copy, and of a comparison. Assumes nothing.
use mathlib.Core.Path.{◌≡◌, refl, sym, ap}
use mathlib.Core.List.{List, [], ◌∷◌}
use mathlib.Core.Logic.{⊎_elim}
use mathlib.Core.Bool.{Bool, true, false, ◌&&◌, and-false, and-eq-true_iff}
use Prim.Native.Nat.{ℕ, zero, suc, ◌+◌, ◌≤◌, ◌<◌}
use native.Mathlib.Decide.{ℕ_discrete}
use native.Mathlib.Numerals.{add-one}
use native.Mathlib.Nat.{zero-add}
use native.Mathlib.Omega.{arith}
use borrow.Author.Tests.{eqb-true, eq-eqb}
use lib.Dec.{eqb}
use lib.ListN.{length, get_or, take, set}
use lib.Seq.{take-suc, length-take-le, sets}
use Rattle.numbers.specs.Bytes.{same_bytes, Alike, Zeros, Tells}
use Rattle.numbers.proofs.Below.{never}
use Rattle.numbers.proofs.Bytes.{sets-snoc}
use Rattle.numbers.proofs.Coordinates.{lt-or-ge}

-- ---- zeros

module _ (b : List ℕ) (lo : ℕ) where
  pub zeros-none : Tells true (Zeros b lo lo)
  zeros-none = record { so = λ e i l h. absurd (omega arith); answers = λ f. refl }

  -- one element more
  pub zeros-turn : (hi : ℕ) → lo ≤ hi → {x : Bool} → Tells x (Zeros b lo hi) → Tells (x && eqb (get_or b hi 0) 0) (Zeros b lo (hi + 1))
  zeros-turn hi l {x} f =
      record {
        so = λ e i g k.
            let h = (and-eq-true_iff x (eqb (get_or b hi 0) 0)).0 e in
            elim (ℕ_discrete i hi) [
              | yes q ↦ rw q (eqb-true (get_or b hi 0) 0 h.1)
              | no q ↦ f.so h.0 i g (omega arith)
            ];
        answers = λ z. (and-eq-true_iff x (eqb (get_or b hi 0) 0)).1 (f.answers (λ i g k. z i g (omega arith)), eq-eqb (get_or b hi 0) 0 (z hi l (omega arith)));
      }

-- ---- a turn of a copy

pub copy_step : (s d : List ℕ) (i : ℕ) → i < length s → set (sets d 0 (take i s)) i (get_or s i 0) ≡ sets d 0 (take (i + 1) s)
copy_step s d i h =
    let l : 0 + length (take i s) ≡ i = rw (length-take-le i s (omega arith)) (zero-add i) in
    rw (add-one, take-suc s i 0 h) (sets-snoc (take i s) d 0 i (get_or s i 0) l)

-- ---- a comparison

-- lists of two lengths are not the same
pub same_not : (a b : List ℕ) → (length a ≡ length b → ⊥) → same_bytes a b ≡ false
unfolding same_bytes
same_not [] [] h = absurd (h refl)
same_not [] (y ∷ ys) h = refl
same_not (x ∷ xs) [] h = refl
same_not (x ∷ xs) (y ∷ ys) h = rw (same_not xs ys (λ e. h (ap suc e))) (and-false (eqb x y))

-- ---- tests that tell

pub tells_both : {x y : Bool} {P Q : Type 0} → Tells x P → Tells y Q → Tells (x && y) (P × Q)
tells_both {x} {y} f g =
    record {
      so = λ e. let h = (and-eq-true_iff x y).0 e in (f.so h.0, g.so h.1);
      answers = λ h. (and-eq-true_iff x y).1 (f.answers h.0, g.answers h.1);
    }

pub tells-same : {x : Bool} {P Q : Type 0} → (P → Q) → (Q → P) → Tells x P → Tells x Q
tells-same to from f = record { so = λ e. to (f.so e); answers = λ q. f.answers (from q) }

pub eq-tells : (x y : ℕ) → Tells (eqb x y) (x ≡ y)
eq-tells x y = record { so = eqb-true x y; answers = eq-eqb x y }

-- two tests of one thing
tells_is : (x y : Bool) {P : Type 0} → Tells x P → Tells y P → x ≡ y
tells_is true y f g = sym (g.answers (f.so refl))
tells_is false true f g = f.answers (g.so refl)
tells_is false false f g = refl

-- ---- what is alike

module _ (a b : List ℕ) where
  pub alike-none : (lo : ℕ) → Tells true (Alike a b lo lo)
  alike-none lo = record { so = λ e i l h. absurd (omega arith); answers = λ f. refl }

  -- one element more
  pub alike-turn : (lo hi : ℕ) → lo ≤ hi → {x : Bool} → Tells x (Alike a b lo hi) → Tells (x && eqb (get_or a hi 0) (get_or b hi 0)) (Alike a b lo (hi + 1))
  alike-turn lo hi l f =
      tells-same
      (λ h i g k.
      elim (ℕ_discrete i hi) [
        | yes q ↦ rw q h.1
        | no q ↦ h.0 i g (omega arith)
      ])
      (λ h. (λ i g k. h i g (omega arith), h hi l (omega arith)))
      (tells_both f (eq-tells (get_or a hi 0) (get_or b hi 0)))

  -- a part more
  pub alike-join : (lo mid hi : ℕ) → lo ≤ mid → mid ≤ hi → {x y : Bool} → Tells x (Alike a b lo mid) → Tells y (Alike a b mid hi) → Tells (x && y) (Alike a b lo hi)
  alike-join lo mid hi l g f h =
      tells-same
      (λ s i p q. ⊎_elim (s.0 i p) (λ t. s.1 i t q) (lt-or-ge i mid))
      (λ s. (λ i p q. s i p (omega arith), λ i p q. s i (omega arith) q))
      (tells_both f h)

-- lists of one length are the same where all their elements are alike
same-so : (a b : List ℕ) → same_bytes a b ≡ true → Alike a b 0 (length a)
unfolding same_bytes
same-so [] b e i l h = absurd (omega arith)
same-so (x ∷ xs) [] e i l h = absurd (never (sym e))
same-so (x ∷ xs) (y ∷ ys) e zero l h = eqb-true x y ((and-eq-true_iff (eqb x y) (same_bytes xs ys)).0 e).0
same-so (x ∷ xs) (y ∷ ys) e (suc i) l h = same-so xs ys ((and-eq-true_iff (eqb x y) (same_bytes xs ys)).0 e).1 i (omega arith) (omega arith)

same-answers : (a b : List ℕ) → length a ≡ length b → Alike a b 0 (length a) → same_bytes a b ≡ true
unfolding same_bytes
same-answers [] [] e f = refl
same-answers [] (y ∷ ys) e f = absurd (omega arith)
same-answers (x ∷ xs) [] e f = absurd (omega arith)
same-answers (x ∷ xs) (y ∷ ys) e f =
    (and-eq-true_iff (eqb x y) (same_bytes xs ys)).1
    (eq-eqb x y (f 0 (omega arith) (omega arith)), same-answers xs ys (omega arith) (λ i l h. f (suc i) (omega arith) (omega arith)))

pub same_by : (a b : List ℕ) → length a ≡ length b → {x : Bool} → Tells x (Alike a b 0 (length a)) → x ≡ same_bytes a b
same_by a b e {x} f = tells_is x (same_bytes a b) f (record { so = same-so a b; answers = same-answers a b e })
