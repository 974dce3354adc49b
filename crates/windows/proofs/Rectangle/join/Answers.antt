-- `windows::Rectangle::join` meets its contract, side by side. Assumes nothing.
use Rattle.windows.specs.Rectangles.{joined}
use Rattle.windows.proofs.Rectangles.{bare-sides}
use Rattle.windows.proofs.Rectangle.join.Goals as goal

pub lesser-requires : goal.lesser-requires
lesser-requires c =
    let p = c.requires in ((bare-sides _ p.0).0, p.1)

pub lesser-requires-2 : goal.lesser-requires-2
lesser-requires-2 c =
    let p = c.requires in ((bare-sides _ p.0).1, p.2)

pub greater-requires : goal.greater-requires
greater-requires c =
    let p = c.requires in ((bare-sides _ p.0).2, p.1)

pub greater-requires-2 : goal.greater-requires-2
greater-requires-2 c =
    let p = c.requires in ((bare-sides _ p.0).3, p.2)

pub returns : goal.returns
unfolding joined
returns c =
    cc
