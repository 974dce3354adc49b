-- `journal::link_for` meets its contract. The loop's invariant: the number has come down to the link, past records of other numbers. Each step leads to a later
-- link. Assumes nothing.
use Prim.Native.Nat.{◌-◌, ◌/◌}
use lib.ListN.{length}
use Rattle.journal.specs.Trees.{Planted}
use Rattle.journal.proofs.Trees.{Going}
use Rattle.journal.proofs.link_for.Given as goal

abbrev pub invariant-loop-k : goal.invariant-loop-k
invariant-loop-k l = Planted l.j l.links × Going (length l.links / 2) l.j l.links l.number l.bits l.at

abbrev pub decreases-loop-k : goal.decreases-loop-k
decreases-loop-k l = length l.links - l.at
