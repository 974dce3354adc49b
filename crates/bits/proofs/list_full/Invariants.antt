-- `bits::list_full` meets its contract, by the laws of a word's numbers in a row. Assumes nothing.
use Rattle.bits.proofs.Listing.{Run}
use Rattle.bits.proofs.list_full.Given as goal

abbrev pub invariant-loop-i : goal.invariant-loop-i
invariant-loop-i l = Run l.initial.entry-items l.first l.entry-items l.i
