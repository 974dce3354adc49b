-- `find::search_slots` meets its contract: each size of words has enough for each block. Assumes nothing.
use native.Mathlib.Omega.{arith}
use Rattle.look.proofs.Looks.{open-few}
use Rattle.find.proofs.search_slots.Goals as goal

pub search_with_words-requires-else-n-le-SMALL_MOST : goal.search_with_words-requires-else-n-le-SMALL_MOST
search_with_words-requires-else-n-le-SMALL_MOST c =
    (c.requires.0, c.requires.1, c.requires.2, omega (arith, open-few c.requires.0), omega arith)
