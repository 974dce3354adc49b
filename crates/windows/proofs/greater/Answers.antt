-- `windows::greater` meets its contract, in the two cases of the test. Assumes nothing.
use mathlib.Core.Path.{◌≡◌, ◌∙◌}
use lib.Signed.{le_z}
use Rattle.numbers.specs.Coordinates.{value_of}
use Rattle.numbers.proofs.Coordinates.{bare-order}
use Rattle.windows.specs.Rectangles.{greater_of}
use Rattle.windows.proofs.greater.Goals as goal

pub returns-then-signed_at_most : goal.returns-then-signed_at_most
unfolding greater_of
returns-then-signed_at_most c =
    let by_value : c.signed_at_most.result ≡ le_z (value_of c.args.b) (value_of c.args.a) = c.signed_at_most.ensures ∙ bare-order c.args.b c.args.a c.ranges.b.fits c.ranges.a.fits c.requires.1 c.requires.0 in
    rw (← by_value, c.if-signed_at_most.true)

pub returns-else-signed_at_most : goal.returns-else-signed_at_most
unfolding greater_of
returns-else-signed_at_most c =
    let by_value : c.signed_at_most.result ≡ le_z (value_of c.args.b) (value_of c.args.a) = c.signed_at_most.ensures ∙ bare-order c.args.b c.args.a c.ranges.b.fits c.ranges.a.fits c.requires.1 c.requires.0 in
    rw (← by_value, c.if-signed_at_most.false)
