-- The laws of a symbol record's Size. Assumes nothing.
use Prim.Native.Nat.{ℕ, ◌≤◌, ◌<◌}
use mathlib.Core.Bool.{false, ◌&&◌}
use mathlib.Core.Path.{◌≡◌}
use mathlib.Core.Logic.{⊎_elim}
use native.Mathlib.Omega.{arith}
use lib.Dec.{leb, ltb}
use borrow.Author.Tests.{lt-ltb, le-ltb, le-leb, lt-leb}
use Rattle.numbers.proofs.Coordinates.{signed_low, signed_high, lt-or-ge}
use Rattle.records.specs.Symbols.{size_good}

pub size_small : (n : ℕ) → n < 348 → size_good n ≡ false
unfolding size_good
size_small n h = rw (signed_low 32768 n (omega arith)) (lt-leb 348 n h)

-- from 348 on the sign decides
pub size-large : (n : ℕ) → 348 ≤ n → size_good n ≡ ltb n 32768
unfolding size_good
size-large n h =
    ⊎_elim
    (λ l. rw (signed_low 32768 n l, lt-ltb n 32768 l) (le-leb 348 n h))
    (λ l. rw (signed_high 32768 n l, le-ltb n 32768 l))
    (lt-or-ge n 32768)

-- both, as the code tests them
pub size_is : (n : ℕ) → size_good n ≡ leb 348 n && ltb n 32768
size_is n =
    ⊎_elim
    (λ l. rw (size_small n l, lt-leb 348 n l))
    (λ l. rw (size-large n l, le-leb 348 n l))
    (lt-or-ge n 348)
