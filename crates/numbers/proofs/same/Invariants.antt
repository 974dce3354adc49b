-- `numbers::same` meets its contract: slices of two lengths differ, and those of one length are the same where all their bytes are. The invariant: `alike` tells of
-- the bytes of the parts so far. Assumes nothing.
use Prim.Native.Nat.{◌*◌}
use Rattle.numbers.specs.Bytes.{Alike, Tells}
use Rattle.numbers.proofs.same.Given as goal

abbrev pub invariant-loop-k : goal.invariant-loop-k
invariant-loop-k l = Tells l.alike (Alike l.a l.b 0 (512 * l.k))
