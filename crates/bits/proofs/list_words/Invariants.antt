-- `bits::list_words` meets its contract, by the laws of the words. Assumes nothing.
use lib.ListN.{length}
use Rattle.bits.proofs.Listing.{Words}
use Rattle.bits.proofs.list_words.Given as goal

abbrev pub invariant-loop-i : goal.invariant-loop-i
invariant-loop-i l = Words l.initial.list l.words (length l.words) l.list l.d l.i
