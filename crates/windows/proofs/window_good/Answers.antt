-- `windows::window_good` meets its contract: the sides are held in their bits. Assumes nothing.
use borrow.Author.Rules.{rules}
use mathlib.Core.Path.{◌≡◌}
use mathlib.Core.Bool.{true, false}
use lib.Signed.{le_z}
use mir.Facts.{to_z-of_z}
use Rattle.windows.proofs.Windows.{WindowFits}
use Rattle.windows.specs.Windows.{window_good}
use Rattle.windows.proofs.window_good.Goals as goal

pub returns-then-w : goal.returns-then-w
unfolding window_good
returns-then-w c =
    let w = c.args.w in
    let g : WindowFits w = search rules in
    let e : le_z w.left w.right ≡ true = rw (to_z-of_z g.left, to_z-of_z g.right) at c.if-w.true in
    rw (to_z-of_z g.bottom, to_z-of_z g.top, e)

pub returns-else-w : goal.returns-else-w
unfolding window_good
returns-else-w c =
    let w = c.args.w in
    let g : WindowFits w = search rules in
    let e : le_z w.left w.right ≡ false = rw (to_z-of_z g.left, to_z-of_z g.right) at c.if-w.false in
    rw (to_z-of_z g.left, to_z-of_z g.right, e)
