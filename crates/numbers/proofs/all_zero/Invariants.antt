-- `numbers::all_zero` meets its contract. The invariant: `zero` tells of the bytes so far. Assumes nothing.
use Prim.Native.Nat.{◌+◌}
use Rattle.numbers.specs.Bytes.{Zeros, Tells}
use Rattle.numbers.proofs.all_zero.Given as goal

abbrev pub invariant-loop-x : goal.invariant-loop-x
invariant-loop-x l = Tells l.zero (Zeros l.fn.b l.from (l.from + l.x-index))
