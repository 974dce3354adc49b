-- `taffrail::taffrail_check` meets its contract: the verdict's number and place. Assumes nothing.
use Rattle.taffrail.proofs.taffrail_check.Goals as goal

pub returns : goal.returns
returns c =
    ((cc), (cc))
