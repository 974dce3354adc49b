-- `numbers::at_most` meets its contract: the signed order, the first without its marks, is the order of values. Assumes nothing.
use Rattle.numbers.proofs.Coordinates.{unmarked-order}
use Rattle.numbers.proofs.at_most.Goals as goal

pub returns : goal.returns
returns c =
    cc (unmarked-order c.args.a c.args.b c.ranges.a.fits c.ranges.b.fits)
