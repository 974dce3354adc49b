-- The laws of the least rectangle: the rectangle over one pair more, and that it is the least. Assumes nothing.
use Prim.Native.Nat.{ℕ, zero, suc, ◌+◌, ◌-◌, ◌*◌, ◌^◌, ◌≤◌, ◌<◌}
use mathlib.Core.Bool.{Bool, true, false, cond}
use mathlib.Core.Path.{◌≡◌, refl, ap, ◌∙◌}
use mathlib.Core.Logic.{◌⊎◌, inl, inr, ⊎_elim}
use mathlib.Core.List.{List}
use native.Mathlib.Nat.{not-suc-le-zero, eq-or-lt_of_le, le_of_suc-le-suc}
use native.Mathlib.Omega.{arith}
use lib.Dec.{leb}
use lib.Signed.{le_z}
use borrow.Author.Tests.{le-leb, leb-true, leb-false}
use Rattle.numbers.specs.Bytes.{Bytes}
use Rattle.numbers.specs.Coordinates.{value_of, unmarked}
use Rattle.numbers.proofs.Bytes.{le_at-lt}
use Rattle.numbers.proofs.Coordinates.{key, le_z-value, unmarked-value, unmarked-twice}
use Rattle.windows.specs.declared.Rectangle.{Rectangle}
use Rattle.windows.specs.Rectangles.{x_of, y_of, lesser_of, greater_of, point_at, joined, cover_to, rectangle_of, without_marks}

-- ---- the rectangle is joined of coordinates without marks

cond-bare : (t : Bool) (a b : ℕ) → cond t (unmarked a) (unmarked b) ≡ unmarked (cond t a b)
cond-bare true a b = refl
cond-bare false a b = refl

lesser-bare : (a b : ℕ) → lesser_of (unmarked a) (unmarked b) ≡ unmarked (lesser_of a b)
unfolding lesser_of
lesser-bare a b = rw (unmarked-value a, unmarked-value b) (cond-bare (le_z (value_of a) (value_of b)) a b)

greater-bare : (a b : ℕ) → greater_of (unmarked a) (unmarked b) ≡ unmarked (greater_of a b)
unfolding greater_of
greater-bare a b = rw (unmarked-value a, unmarked-value b) (cond-bare (le_z (value_of b) (value_of a)) a b)

pub bare-sides : (r : Rectangle) → without_marks r ≡ r
    → (unmarked r.left ≡ r.left) × (unmarked r.bottom ≡ r.bottom) × (unmarked r.right ≡ r.right) × (unmarked r.top ≡ r.top)
unfolding without_marks
bare-sides r e =
    (ap (λ (q : Rectangle). q.left) e, ap (λ (q : Rectangle). q.bottom) e, ap (λ (q : Rectangle). q.right) e, ap (λ (q : Rectangle). q.top) e)

pub rectangle-one : (o : List ℕ) → rectangle_of o 1 ≡ point_at (unmarked (x_of o 0)) (unmarked (y_of o 0))
unfolding rectangle_of without_marks cover_to
rectangle-one o = refl

pub rectangle-more : (o : List ℕ) (i : ℕ) → 1 ≤ i
    → rectangle_of o (i + 1) ≡ joined (rectangle_of o i) (unmarked (x_of o i)) (unmarked (y_of o i))
unfolding rectangle_of without_marks cover_to joined
rectangle-more o zero h = absurd (not-suc-le-zero h)
rectangle-more o (suc i) h =
    let e : suc i + 1 - 1 ≡ suc i = omega arith in
    let f : suc i - 1 ≡ i = omega arith in
    rw (e, f) (simp (lesser-bare, greater-bare))

pub rectangle-bare : (o : List ℕ) (i : ℕ) → without_marks (rectangle_of o i) ≡ rectangle_of o i
unfolding rectangle_of without_marks
rectangle-bare o i = simp unmarked-twice

-- ---- the lesser and the greater of two, by their keys

-- by value a is at most b, and at least b
abbrev pub AtMost : ℕ → ℕ → Type 0
AtMost a b = key (value_of a) ≤ key (value_of b)

abbrev pub AtLeast : ℕ → ℕ → Type 0
AtLeast a b = key (value_of b) ≤ key (value_of a)

-- p is one of a and b, and stands before both
pub record Picked (Before : ℕ → ℕ → Type 0) (a b p : ℕ) : Type 0 where
  pub one : (p ≡ a) ⊎ (p ≡ b)
  pub left : Before p a
  pub right : Before p b

module _ (a b : ℕ) (f : a < 2 ^ 32) (g : b < 2 ^ 32) where
  pub lesser-picked : Picked AtMost a b (lesser_of a b)
  unfolding lesser_of
  lesser-picked = go (leb (key (value_of a)) (key (value_of b))) refl
    where
      go : (t : Bool) → leb (key (value_of a)) (key (value_of b)) ≡ t → Picked AtMost a b (lesser_of a b)
      go true e =
          let l = leb-true (key (value_of a)) (key (value_of b)) e in
          rw (le_z-value a b f g, e) (record { one = inl refl; left = omega arith; right = l })
      go false e =
          let l = leb-false (key (value_of a)) (key (value_of b)) e in
          rw (le_z-value a b f g, e) (record { one = inr refl; left = omega arith; right = omega arith })

  pub greater-picked : Picked AtLeast a b (greater_of a b)
  unfolding greater_of
  greater-picked = go (leb (key (value_of b)) (key (value_of a))) refl
    where
      go : (t : Bool) → leb (key (value_of b)) (key (value_of a)) ≡ t → Picked AtLeast a b (greater_of a b)
      go true e =
          let l = leb-true (key (value_of b)) (key (value_of a)) e in
          rw (le_z-value b a g f, e) (record { one = inl refl; left = omega arith; right = l })
      go false e =
          let l = leb-false (key (value_of b)) (key (value_of a)) e in
          rw (le_z-value b a g f, e) (record { one = inr refl; left = omega arith; right = omega arith })

-- ---- a side of the rectangle, for any order: s n is picked from f 0, .., f n

module _ (Before : ℕ → ℕ → Type 0) (same : (a : ℕ) → Before a a) (chain : (a b c : ℕ) → Before a b → Before b c → Before a c)
    (pick : ℕ → ℕ → ℕ) (law : (a b : ℕ) → a < 2 ^ 32 → b < 2 ^ 32 → Picked Before a b (pick a b))
    (s f : ℕ → ℕ) (start : s 0 ≡ f 0) (step : (n : ℕ) → s (suc n) ≡ pick (s n) (f (suc n))) (fits : (i : ℕ) → f i < 2 ^ 32) where
  pub record Side (n : ℕ) : Type 0 where
    pub at : ℕ
    pub upto : at ≤ n
    pub is : s n ≡ f at
    pub first : (i : ℕ) → i ≤ n → Before (s n) (f i)

  pub side : (n : ℕ) → Side n
  side zero =
      record {
        at = 0;
        upto = omega arith;
        is = start;
        first = λ i h. let e : i ≡ 0 = omega arith in rw (start, e) (same (f 0));
      }
  side (suc n) = go (side n)
    where
      go : Side n → Side (suc n)
      go d =
          let p = law (s n) (f (suc n)) (rw d.is (fits d.at)) (fits (suc n)) in
          ⊎_elim
          (λ e. record { at = d.at; upto = omega (arith, d.upto); is = step n ∙ e ∙ d.is; first = first' d p })
          (λ e. record { at = suc n; upto = omega arith; is = step n ∙ e; first = first' d p })
          p.one
        where
          first' : Side n → Picked Before (s n) (f (suc n)) (pick (s n) (f (suc n))) → (i : ℕ) → i ≤ suc n → Before (s (suc n)) (f i)
          first' d p i h =
              ⊎_elim
              (λ (e : i ≡ suc n). rw (step n, e) p.right)
              (λ l. rw (step n) (chain (pick (s n) (f (suc n))) (s n) (f i) p.left (d.first i (le_of_suc-le-suc l))))
              (eq-or-lt_of_le h)

-- ---- the rectangle over the pairs 0, .., n is the least: each side is a pair's own, and no pair lies outside it

module _ (o : List ℕ) (b : Bytes o) where
  x_fits : (i : ℕ) → x_of o i < 2 ^ 32
  unfolding x_of
  x_fits i = le_at-lt 4 o (32 + 8 * i) b

  y-fits : (i : ℕ) → y_of o i < 2 ^ 32
  unfolding y_of
  y-fits i = le_at-lt 4 o (32 + 8 * i + 4) b

  -- a least side and a greatest, over any of the four
  low-side : (s f : ℕ → ℕ) → s 0 ≡ f 0 → ((n : ℕ) → s (suc n) ≡ lesser_of (s n) (f (suc n))) → ((i : ℕ) → f i < 2 ^ 32) → (n : ℕ)
      → (k : ℕ) × (k ≤ n) × (s n ≡ f k) × ((i : ℕ) → i ≤ n → AtMost (s n) (f i))
  low-side s f e g h n =
      let d = side AtMost (λ a. omega arith) (λ a b c l m. omega arith) lesser_of lesser-picked s f e g h n in
      (d.at, d.upto, d.is, d.first)

  high-side : (s f : ℕ → ℕ) → s 0 ≡ f 0 → ((n : ℕ) → s (suc n) ≡ greater_of (s n) (f (suc n))) → ((i : ℕ) → f i < 2 ^ 32) → (n : ℕ)
      → (k : ℕ) × (k ≤ n) × (s n ≡ f k) × ((i : ℕ) → i ≤ n → AtLeast (s n) (f i))
  high-side s f e g h n =
      let d = side AtLeast (λ a. omega arith) (λ a b c l m. omega arith) greater_of greater-picked s f e g h n in
      (d.at, d.upto, d.is, d.first)

  pub left-least : (n : ℕ) → (k : ℕ) × (k ≤ n) × ((cover_to o n).left ≡ x_of o k) × ((i : ℕ) → i ≤ n → AtMost (cover_to o n).left (x_of o i))
  unfolding cover_to joined
  left-least = low-side (λ n. (cover_to o n).left) (x_of o) refl (λ n. refl) x_fits

  pub bottom-least : (n : ℕ) → (k : ℕ) × (k ≤ n) × ((cover_to o n).bottom ≡ y_of o k) × ((i : ℕ) → i ≤ n → AtMost (cover_to o n).bottom (y_of o i))
  unfolding cover_to joined
  bottom-least = low-side (λ n. (cover_to o n).bottom) (y_of o) refl (λ n. refl) y-fits

  pub right-greatest : (n : ℕ) → (k : ℕ) × (k ≤ n) × ((cover_to o n).right ≡ x_of o k) × ((i : ℕ) → i ≤ n → AtLeast (cover_to o n).right (x_of o i))
  unfolding cover_to joined
  right-greatest = high-side (λ n. (cover_to o n).right) (x_of o) refl (λ n. refl) x_fits

  pub top-greatest : (n : ℕ) → (k : ℕ) × (k ≤ n) × ((cover_to o n).top ≡ y_of o k) × ((i : ℕ) → i ≤ n → AtLeast (cover_to o n).top (y_of o i))
  unfolding cover_to joined
  top-greatest = high-side (λ n. (cover_to o n).top) (y_of o) refl (λ n. refl) y-fits

  -- so a rectangle that is computed is ordered, by value, also with its marks zero
  ordered : (l r : ℕ) → l < 2 ^ 32 → r < 2 ^ 32 → AtMost l r → le_z (value_of (unmarked l)) (value_of (unmarked r)) ≡ true
  ordered l r f g h = rw (unmarked-value l, unmarked-value r, le_z-value l r f g) (le-leb _ _ h)

  pub rectangle-wide : (k : ℕ) → le_z (value_of (rectangle_of o k).left) (value_of (rectangle_of o k).right) ≡ true
  unfolding rectangle_of without_marks
  rectangle-wide k =
      let l = left-least (k - 1) in
      let r = right-greatest (k - 1) in
      ordered (cover_to o (k - 1)).left (cover_to o (k - 1)).right (rw l.2 (x_fits l.0)) (rw r.2 (x_fits r.0))
      (omega (arith, l.3 0 (omega arith), r.3 0 (omega arith)))

  pub rectangle-high : (k : ℕ) → le_z (value_of (rectangle_of o k).bottom) (value_of (rectangle_of o k).top) ≡ true
  unfolding rectangle_of without_marks
  rectangle-high k =
      let l = bottom-least (k - 1) in
      let r = top-greatest (k - 1) in
      ordered (cover_to o (k - 1)).bottom (cover_to o (k - 1)).top (rw l.2 (y-fits l.0)) (rw r.2 (y-fits r.0))
      (omega (arith, l.3 0 (omega arith), r.3 0 (omega arith)))
