-- For inner contracts: a reader of the promises may skip this file. A number as bits, the lowest first; and the numbers that pass a test, from one on.
--     bit b             1 or 0
--     double k x        x, doubled k times
--     from p s n        of the n numbers from s on those that pass the test p, ascending
--     bits_from p s n    the number whose bit i, of n, is 1 where p passes at s + i
--     ones n x s        which of the n lowest bits of x are 1, ascending, where the lowest has number s
--     ones_in w ws k     the same of the first k words of a list, w bits each, where the lowest bit of the first has number 0
--     word_bits, full    how many bits a word has in the code, and a word all of whose bits are 1
use Rattle.std.specs.Prelude.{ℕ, zero, suc, ◌+◌, ◌*◌, ◌/◌, ◌%◌, Bool, true, false, cond, List, [], ◌∷◌, ◌++◌, eqb, get_or}

abbrev pub bit : Bool → ℕ
bit true = 1
bit false = 0

unfoldable pub double : ℕ → ℕ → ℕ
double zero x = x
double (suc k) x = 2 * double k x

unfoldable pub from : (ℕ → Bool) → ℕ → ℕ → List ℕ
from p s zero = []
from p s (suc n) = cond (p s) (s ∷ from p (s + 1) n) (from p (s + 1) n)

unfoldable pub bits_from : (ℕ → Bool) → ℕ → ℕ → ℕ
bits_from p s zero = 0
bits_from p s (suc n) = bit (p s) + 2 * bits_from p (s + 1) n

unfoldable pub ones : ℕ → ℕ → ℕ → List ℕ
ones zero x s = []
ones (suc n) x s = cond (eqb (x % 2) 1) (s ∷ ones n (x / 2) (s + 1)) (ones n (x / 2) (s + 1))

unfoldable pub ones_in : ℕ → List ℕ → ℕ → List ℕ
ones_in w ws zero = []
ones_in w ws (suc k) = ones_in w ws k ++ ones w (get_or ws k 0) (w * k)

abbrev pub word_bits : ℕ
word_bits = 64

abbrev pub full : ℕ
full = 18446744073709551615
