-- `windows::least_rectangle` meets its contract: after the pairs below i, `cover` is the rectangle over them. Assumes nothing.
use mathlib.Core.Path.{◌≡◌}
use Rattle.windows.specs.Rectangles.{rectangle_of}
use Rattle.windows.proofs.least_rectangle.Given as goal

abbrev pub invariant-loop-i : goal.invariant-loop-i
invariant-loop-i l = l.cover ≡ rectangle_of l.part l.i
