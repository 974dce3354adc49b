-- `numbers::same_part` meets its contract. The invariant: `alike` tells of the bytes so far. Assumes nothing.
use Rattle.numbers.specs.Bytes.{Alike, Tells}
use Rattle.numbers.proofs.same_part.Given as goal

abbrev pub invariant-loop-i : goal.invariant-loop-i
invariant-loop-i l = Tells l.alike (Alike l.a l.b l.from l.i)
