-- The laws of windows: that the sides fit, how a value is compared with a side by the raw number alone, the four tests of a rectangle, and document 01's two
-- windows. Assumes nothing.
use Prim.Native.Nat.{ℕ, suc, ◌+◌, ◌-◌, ◌*◌, ◌/◌}
use mathlib.Core.Bool.{Bool, true, false, ◌&&◌, and_assoc}
use mathlib.Core.Logic.{⊎_elim}
use mathlib.Core.Path.{◌≡◌, refl, sym, ◌∙◌}
use native.Mathlib.Omega.{arith}
use lib.Dec.{leb}
use lib.IntN.{ℤ, pos, negsuc, ◌+ℤ◌, ◌*ℤ◌}
use lib.Signed.{le_z}
use mir.Syntax.{w32, w64}
use mir.Val.{to_z, of_z, SFits}
use mir.Facts.{to_z-of_z, sfits_widen}
use borrow.Author.Tests.{lt-ltb, le-leb, lt-leb}
use Rattle.numbers.specs.Coordinates.{signed, signed32, floor_div, value_of}
use Rattle.numbers.proofs.Coordinates.{lt-or-ge}
use Rattle.slots.specs.declared.Slot.{Slot}
use Rattle.windows.specs.declared.Window.{Window}
use Rattle.windows.specs.declared.Rectangle.{Rectangle}
use Rattle.windows.specs.Windows.{sides_of, meets_window}

-- each side is a number of 32 bits
pub record WindowFits (w : Window) : Type 0 where
  pub left : SFits w32 w.left
  pub bottom : SFits w32 w.bottom
  pub right : SFits w32 w.right
  pub top : SFits w32 w.top

-- ---- the raw numbers whose value is z: from 256 z to 256 z + 255

abbrev least : ℤ → ℤ
least z = z *ℤ pos 256

abbrev greatest : ℤ → ℤ
greatest z = least z +ℤ pos 255

-- of naturals: the quotient is at least b from 256 b on, and at most b up to 256 b + 255
quotient-from : (a b : ℕ) → leb (b * 256) a ≡ leb b (a / 256)
quotient-from a b =
    ⊎_elim
    (λ l. lt-leb (b * 256) a (omega arith) ∙ sym (lt-leb b (a / 256) l))
    (λ l. le-leb (b * 256) a (omega arith) ∙ sym (le-leb b (a / 256) l))
    (lt-or-ge (a / 256) b)

quotient-to : (a b : ℕ) → leb a (b * 256 + 255) ≡ leb (a / 256) b
quotient-to a b =
    ⊎_elim
    (λ l. lt-leb a (b * 256 + 255) (omega arith) ∙ sym (lt-leb (a / 256) b l))
    (λ l. le-leb a (b * 256 + 255) (omega arith) ∙ sym (le-leb (a / 256) b l))
    (lt-or-ge b (a / 256))

least-negative : (b : ℕ) → least (negsuc b) ≡ negsuc (b * 256 + 255)
least-negative b =
    let e : suc b * 256 ≡ suc (b * 256 + 255) = omega arith in
    rw e

greatest-negative : (b : ℕ) → greatest (negsuc b) ≡ negsuc (b * 256)
greatest-negative b =
    let e : suc (b * 256 + 255) - 256 ≡ b * 256 = omega arith in
    rw (least-negative b, lt-ltb 255 (suc (b * 256 + 255)) (omega arith), e)

-- a number is at least the least of them just when its quotient, rounded down, is at least z
from-least : (z x : ℤ) → le_z (least z) x ≡ le_z z (floor_div x 256)
from-least (pos b) (pos a) = quotient-from a b
from-least (pos b) (negsuc a) = refl
from-least (negsuc b) (pos a) = rw (least-negative b)
from-least (negsuc b) (negsuc a) = rw (least-negative b) (quotient-to a b)

-- and at most the greatest just when it is at most z
to-greatest : (z x : ℤ) → le_z x (greatest z) ≡ le_z (floor_div x 256) z
to-greatest (pos b) (pos a) = quotient-to a b
to-greatest (pos b) (negsuc a) = refl
to-greatest (negsuc b) (pos a) = rw (greatest-negative b)
to-greatest (negsuc b) (negsuc a) = rw (greatest-negative b) (quotient-from a b)

-- both fit 64 bits where z fits 32
least_fits : (z : ℤ) → SFits w32 z → SFits w64 (least z)
least_fits (pos b) f = record { sfits = omega (arith, f.sfits) }
least_fits (negsuc b) f = rw (least-negative b) (record { sfits = omega (arith, f.sfits) })

greatest-fits : (z : ℤ) → SFits w32 z → SFits w64 (greatest z)
greatest-fits (pos b) f = record { sfits = omega (arith, f.sfits) }
greatest-fits (negsuc b) f = rw (greatest-negative b) (record { sfits = omega (arith, f.sfits) })

-- ---- the same as the machine makes them, each step held in its bits

-- a number of 32 bits, cast to 64
abbrev cast : ℤ → ℤ
cast z = to_z w64 (of_z w64 (to_z w32 (of_z w32 z)))

abbrev times : ℤ → ℤ
times z = to_z w64 (of_z w64 (cast z *ℤ pos 256))

abbrev plus : ℤ → ℤ
plus z = to_z w64 (of_z w64 (times z +ℤ pos 255))

module _ {z : ℤ} (f : SFits w32 z) where
  pub cast_fits : SFits w64 (to_z w32 (of_z w32 z))
  cast_fits = rw (to_z-of_z f) (sfits_widen tt f)

  cast_is : cast z ≡ z
  cast_is = to_z-of_z cast_fits ∙ to_z-of_z f

  pub times-fits : SFits w64 (cast z *ℤ pos 256)
  times-fits = rw cast_is (least_fits z f)

  times-is : times z ≡ least z
  times-is = rw (to_z-of_z times-fits, cast_is)

  pub plus-fits : SFits w64 (times z +ℤ pos 255)
  plus-fits = rw times-is (greatest-fits z f)

  plus-is : plus z ≡ greatest z
  plus-is = rw (to_z-of_z plus-fits, times-is)

-- ---- a raw coordinate, read as x into 32 bits, and a side z

module _ (raw : ℕ) {x : ℤ} {z : ℤ} (g : SFits w32 x) (e : x ≡ signed32 raw) (f : SFits w32 z) where
  pub value-at-most : le_z (cast x) (plus z) ≡ le_z (value_of raw) z
  unfolding value_of
  value-at-most = rw (cast_is g, e, plus-is f) (to-greatest z (signed32 raw))

  pub value-at-least : le_z (times z) (cast x) ≡ le_z z (value_of raw)
  unfolding value_of
  value-at-least = rw (cast_is g, e, times-is f) (from-least z (signed32 raw))

-- four tests, joined
pub four : (r : Rectangle) (w : Window) {left right bottom top : Bool} → left ≡ le_z (value_of r.left) w.right → right ≡ le_z w.left (value_of r.right)
    → bottom ≡ le_z (value_of r.bottom) w.top → top ≡ le_z w.bottom (value_of r.top) → left && right && bottom && top ≡ meets_window r w
unfolding meets_window
four r w {left} {right} {bottom} {top} l t b u =
    rw (← l, ← t, ← b, ← u) (and_assoc (left && right) bottom top ∙ and_assoc left right (bottom && top))

-- point (5, 5): found by 5..10 both ways, not by 6..10
abbrev pub point_slot : Slot
point_slot = record { left = 1280; bottom = 1280; right = 1280; top = 1280; position = 48; len = 40; sym = 101 }

abbrev pub square : ℕ → ℕ → Window
square a b = record { left = pos a; bottom = pos a; right = pos b; top = pos b }

pub table : (meets_window (sides_of point_slot) (square 5 10) ≡ true) × (meets_window (sides_of point_slot) (square 6 10) ≡ false)
unfolding meets_window value_of signed
table = (refl, refl)
