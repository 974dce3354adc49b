use native.Mathlib.Omega.{arith}
use Rattle.numbers.proofs.Coordinates.{unmarked-twice}
use Rattle.windows.proofs.Rectangles.{rectangle-one, rectangle-more, rectangle-bare}
use Rattle.windows.specs.Rectangles.{x_of, y_of}
use Rattle.windows.proofs.least_rectangle.Goals as goal

pub loop-i-init : goal.loop-i-init
loop-i-init c =
    cc (rectangle-one c.args.part.now)

pub join-cover-requires : goal.join-cover-requires
join-cover-requires c =
    let o = c.args.part.now in
    let i = c.loop-i.i in
    ((cc (rectangle-bare o i)), (cc (unmarked-twice (x_of o i))), (cc (unmarked-twice (y_of o i))))

pub loop-i-preserved : goal.loop-i-preserved
loop-i-preserved c =
    cc (rectangle-more c.args.part.now c.loop-i.i (omega arith))
