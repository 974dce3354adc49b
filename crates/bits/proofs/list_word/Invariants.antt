-- `bits::list_word` meets its contract, by the laws of the loop that lists. The measure is what is left of the word. Assumes nothing.
use Rattle.bits.proofs.Listing.{Listing}
use Rattle.bits.proofs.list_word.Given as goal

abbrev pub invariant-loop-x : goal.invariant-loop-x
invariant-loop-x l = Listing l.initial.list l.before l.first l.word l.list l.x l.d

abbrev pub decreases-loop-x : goal.decreases-loop-x
decreases-loop-x l = l.x
