-- Little-endian numbers. A byte past the end of a list counts as 0.
--     Bytes xs          each element of xs is a byte
--     le_at n xs at      the number whose n bytes, least first, stand in xs from index at
--     u16_at, u32_at      the same for two and for four bytes
--     bytes_of n v       the n low bytes of v, least first
--     same_bytes a b     whether two lists are equal, element by element
--     Zeros xs lo hi    the elements from index lo to below hi are 0
--     Alike a b lo hi   the elements from index lo to below hi are the same
--     Tells x P         a test answers x exactly where P holds
use Rattle.std.specs.Prelude.{List, [], ◌∷◌, Bool, true, false, ◌&&◌, ℕ, zero, suc, ◌+◌, ◌*◌, ◌/◌, ◌%◌, ◌≤◌, ◌<◌, ◌≡◌, eqb, get_or}

abbrev pub Bytes : List ℕ → Type 0
Bytes xs = (i : ℕ) → get_or xs i 0 < 256

unfoldable pub le_at : ℕ → List ℕ → ℕ → ℕ
le_at zero xs at = 0
le_at (suc n) xs at = get_or xs at 0 + 256 * le_at n xs (at + 1)

abbrev pub u16_at : List ℕ → ℕ → ℕ
u16_at xs at = le_at 2 xs at

abbrev pub u32_at : List ℕ → ℕ → ℕ
u32_at xs at = le_at 4 xs at

unfoldable pub bytes_of : ℕ → ℕ → List ℕ
bytes_of zero v = []
bytes_of (suc n) v = (v % 256) ∷ bytes_of n (v / 256)

unfoldable pub same_bytes : List ℕ → List ℕ → Bool
same_bytes [] [] = true
same_bytes [] (y ∷ ys) = false
same_bytes (x ∷ xs) [] = false
same_bytes (x ∷ xs) (y ∷ ys) = eqb x y && same_bytes xs ys

abbrev pub Zeros : List ℕ → ℕ → ℕ → Type 0
Zeros xs lo hi = (i : ℕ) → lo ≤ i → i < hi → get_or xs i 0 ≡ 0

abbrev pub Alike : List ℕ → List ℕ → ℕ → ℕ → Type 0
Alike a b lo hi = (i : ℕ) → lo ≤ i → i < hi → get_or a i 0 ≡ get_or b i 0

pub record Tells (x : Bool) (P : Type 0) : Type 0 where
  pub so : x ≡ true → P
  pub answers : P → x ≡ true
