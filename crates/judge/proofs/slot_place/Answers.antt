-- `judge::slot_place` meets its contract: the version tells which layout it is. Assumes nothing.
use native.Mathlib.Omega.{arith}
use mathlib.Core.Path.{sym, ◌∙◌}
use Rattle.chain.specs.Cells.{cell_in}
use Rattle.judge.proofs.slot_place.Goals as goal

pub returns-then-is_wide : goal.returns-then-is_wide
unfolding cell_in
returns-then-is_wide c =
    rw (sym c.is_wide.ensures ∙ c.if-is_wide.true) (omega (arith, c.slot.ensures, c.new.ensures))

pub returns-else-is_wide : goal.returns-else-is_wide
unfolding cell_in
returns-else-is_wide c =
    rw (sym c.is_wide.ensures ∙ c.if-is_wide.false) (omega (arith, c.slot-else-is_wide.ensures, c.new-else-is_wide.ensures))
