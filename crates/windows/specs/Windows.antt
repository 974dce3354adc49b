-- Windows: four signed numbers in 0.01 mm, closed on all sides, as rectangles are.
--     window_of i         the window whose 16 bytes start i: left, bottom, right, top, signed
--     window_good w       left is at most right and bottom at most top
--     rectangle_at m p    the rectangle of the slot whose bytes stand from place p. In every version it is the slot's first four numbers
--     sides_of t          the rectangle of a slot of 6 to 8
--     meets_window r w    whether the rectangle r, by value, and the window share a point; touching counts
use Rattle.std.specs.Prelude.{ℕ, ◌+◌, Bool, ◌&&◌, List}
use Rattle.std.specs.Int.Signed.{le_z}
use Rattle.numbers.specs.Bytes.{u32_at}
use Rattle.numbers.specs.Coordinates.{signed32, value_of}
use Rattle.slots.specs.declared.Slot.{Slot}
use Rattle.windows.specs.declared.Window.{Window}
use Rattle.windows.specs.declared.Rectangle.{Rectangle}

unfoldable pub window_of : List ℕ → Window
window_of i =
    record {
      left = signed32 (u32_at i 0);
      bottom = signed32 (u32_at i 4);
      right = signed32 (u32_at i 8);
      top = signed32 (u32_at i 12);
    }

unfoldable pub window_good : Window → Bool
window_good w = le_z w.left w.right && le_z w.bottom w.top

abbrev pub rectangle_at : List ℕ → ℕ → Rectangle
rectangle_at m p = record { left = u32_at m p; bottom = u32_at m (p + 4); right = u32_at m (p + 8); top = u32_at m (p + 12) }

abbrev pub sides_of : Slot → Rectangle
sides_of t = record { left = t.left; bottom = t.bottom; right = t.right; top = t.top }

unfoldable pub meets_window : Rectangle → Window → Bool
meets_window r w =
    le_z (value_of r.left) w.right
    && (le_z w.left (value_of r.right) && (le_z (value_of r.bottom) w.top && le_z w.bottom (value_of r.top)))
