-- Symbol records, as far as the base reads them: the signed 16-bit Size at their start.
--     size_good n       whether the 16-bit number n, read as signed, is 348 or more
use Rattle.std.specs.Prelude.{ℕ, Bool, pos}
use Rattle.std.specs.Int.Signed.{le_z}
use Rattle.numbers.specs.Coordinates.{signed16}
use Rattle.records.specs.Sizes.{symbol_record_size}

unfoldable pub size_good : ℕ → Bool
size_good n = le_z (pos symbol_record_size) (signed16 n)
