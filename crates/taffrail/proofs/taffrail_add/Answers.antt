-- `taffrail::taffrail_add` meets its contract: what the edit answers is told, and what it leaves is left. Assumes nothing.
use Rattle.taffrail.proofs.taffrail_add.Goals as goal

pub returns : goal.returns
returns c =
    let d = c.add-a in
    (rw d.ensures.0 at c.tell.ensures, d.ensures.1, d.ensures.2)
