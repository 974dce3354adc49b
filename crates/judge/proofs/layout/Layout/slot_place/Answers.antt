-- `judge::Layout::slot_place` meets its contract: a slot has the bytes that its layout says. Assumes nothing.
use Rattle.chain.specs.Cells.{cell_in}
use Rattle.judge.proofs.layout.Layout.slot_place.Goals as goal

pub returns : goal.returns
unfolding cell_in
returns g c =
    rw (c.SLOT.ensures, g.met.Self.Layout.slot_is)
