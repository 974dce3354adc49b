-- `numbers::value_of` meets its contract: a shift by 8 bits divides by 256 and rounds down. Assumes nothing.
use mathlib.Core.Path.{◌∙◌}
use Rattle.numbers.proofs.Coordinates.{shift-value, machine_signed}
use Rattle.numbers.proofs.value_of.Goals as goal

pub returns : goal.returns
returns c =
    let raw = c.args.raw in
    shift-value raw c.ranges.raw.fits c.cast_signed.type_inv (c.cast_signed.ensures ∙ machine_signed raw)
