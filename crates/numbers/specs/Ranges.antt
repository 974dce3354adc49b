-- Ranges of bytes: n bytes from a are the places a, a + 1, .., a + n - 1.
--     share a n b k        whether the n bytes from a and the k bytes from b have a byte in common; an empty range shares none
--     within lo hi n p     whether the n bytes from p start at lo or later and end at hi or before
use Rattle.std.specs.Prelude.{ℕ, ◌+◌, min, max, Bool, ◌&&◌, ltb, leb}

unfoldable pub share : ℕ → ℕ → ℕ → ℕ → Bool
share a n b k = ltb (max a b) (min (a + n) (b + k))

unfoldable pub within : ℕ → ℕ → ℕ → ℕ → Bool
within lo hi n p = leb lo p && leb (p + n) hi
