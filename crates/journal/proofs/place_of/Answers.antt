-- `journal::place_of` meets its contract: slot s is in block s / 256 of the order, at s % 256. Assumes nothing.
use mathlib.Core.Path.{sym, ◌∙◌}
use Rattle.records.specs.Sizes.{slot_size}
use Rattle.records.specs.Headers.{index_head}
use Rattle.chain.specs.Cells.{cell_in}
use Rattle.chain.proofs.Cells.{ordered-cell}
use Rattle.journal.proofs.place_of.Goals as goal

pub returns : goal.returns
unfolding cell_in
returns c =
    let a = c.args in
    λ m n o l. c.slot.ensures ∙ (rw c.new-b.ensures (sym (ordered-cell index_head slot_size m n a.order.now o a.s l)))
