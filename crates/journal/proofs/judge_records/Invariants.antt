-- `journal::judge_records` meets its contract. The loop's invariant: the records below i are good and in their trees, and the one that holds the number is kept.
-- Assumes nothing.
use lib.ListN.{length}
use Rattle.journal.proofs.Passes.{Passed}
use Rattle.journal.proofs.judge_records.Given as goal

abbrev pub invariant-loop-i : goal.invariant-loop-i
invariant-loop-i l = Passed l.j l.slots.map.now (length l.slots.order.now) l.e l.links l.held l.i
