-- The laws of a symbol record's Size. Assumes nothing.
use Prim.Native.Nat.{ℕ, ◌≤◌, ◌<◌}
use mathlib.Core.Bool.{true, false}
use mathlib.Core.Path.{◌≡◌}
use native.Mathlib.Omega.{arith}
use borrow.Author.Tests.{le-leb, lt-leb}
use Rattle.numbers.proofs.Coordinates.{signed_low}
use Rattle.wide.specs.Symbols.{wide_size_good}

pub size_small : (n : ℕ) → n < 572 → wide_size_good n ≡ false
unfolding wide_size_good
size_small n h = rw (signed_low 2147483648 n (omega arith)) (lt-leb 572 n h)

pub size-enough : (n : ℕ) → 572 ≤ n → n < 2147483648 → wide_size_good n ≡ true
unfolding wide_size_good
size-enough n h l = rw (signed_low 2147483648 n l) (le-leb 572 n h)

pub ruleset size_laws = (size_small, size-enough)
