-- Rectangles of raw coordinates: the least one over an object's pairs.
--     x_of o i, y_of o i     the raw coordinates of pair i
--     lesser_of a b         of two raw coordinates the one of less value, the first where they are equal
--     greater_of a b        the one of greater value, the first where they are equal
--     joined r x y         the rectangle r and the point (x, y) more
--     cover_to o n          the rectangle over the pairs 0, .., n
--     without_marks r       the same rectangle, marks zero
--     rectangle_of o k      the least rectangle over the first k pairs (one at least) by value, marks zero. For an object that is added k is nItem: text
--                          pairs do not count
use Rattle.std.specs.Prelude.{ℕ, zero, suc, ◌+◌, ◌-◌, ◌*◌, cond, List}
use Rattle.std.specs.Int.Signed.{le_z}
use Rattle.numbers.specs.Bytes.{u32_at}
use Rattle.numbers.specs.Coordinates.{value_of, unmarked}
use Rattle.windows.specs.declared.Rectangle.{Rectangle}
use Rattle.records.specs.Sizes.{object_header_size, pair_size}

unfoldable pub x_of : List ℕ → ℕ → ℕ
x_of o i = u32_at o (object_header_size + pair_size * i)

unfoldable pub y_of : List ℕ → ℕ → ℕ
y_of o i = u32_at o (object_header_size + pair_size * i + 4)

unfoldable pub lesser_of : ℕ → ℕ → ℕ
lesser_of a b = cond (le_z (value_of a) (value_of b)) a b

unfoldable pub greater_of : ℕ → ℕ → ℕ
greater_of a b = cond (le_z (value_of b) (value_of a)) a b

abbrev pub point_at : ℕ → ℕ → Rectangle
point_at x y = record { left = x; bottom = y; right = x; top = y }

unfoldable pub joined : Rectangle → ℕ → ℕ → Rectangle
joined r x y =
    record {
      left = lesser_of r.left x;
      bottom = lesser_of r.bottom y;
      right = greater_of r.right x;
      top = greater_of r.top y;
    }

unfoldable pub cover_to : List ℕ → ℕ → Rectangle
cover_to o zero = point_at (x_of o 0) (y_of o 0)
cover_to o (suc n) = joined (cover_to o n) (x_of o (suc n)) (y_of o (suc n))

unfoldable pub without_marks : Rectangle → Rectangle
without_marks r =
    record { left = unmarked r.left; bottom = unmarked r.bottom; right = unmarked r.right; top = unmarked r.top }

unfoldable pub rectangle_of : List ℕ → ℕ → Rectangle
rectangle_of o items = without_marks (cover_to o (items - 1))
