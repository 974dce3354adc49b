-- Symbol records of OCAD 9, 10 and 11, as far as they are read: the signed 32-bit Size at their start. `touch` is the test whether an index block shares a byte
-- with a range (position, bytes).
--     wide_size_good n        whether the 32-bit number n, read as signed, is 572 or more
--     wide_symbol_good        a symbol record at q: 48 or later, inside the map, its Size good, no byte shared with an index block
--     wide_bad_entry          whether the symbol entry at place p is used (not 0) and its record is not good
use Rattle.std.specs.Prelude.{ℕ, Bool, not, ◌&&◌, List, eqb, pos}
use Rattle.std.specs.Int.Signed.{le_z}
use Rattle.numbers.specs.Bytes.{u32_at}
use Rattle.numbers.specs.Coordinates.{signed32}
use Rattle.records.specs.Sizes.{wide_record_size}
use Rattle.chain.specs.Chains.{inside}

unfoldable pub wide_size_good : ℕ → Bool
wide_size_good n = le_z (pos wide_record_size) (signed32 n)

unfoldable pub wide_symbol_good : (ℕ → ℕ → Bool) → List ℕ → ℕ → ℕ → Bool
wide_symbol_good touch m used q =
    inside used 4 q && (wide_size_good (u32_at m q) && (inside used (u32_at m q) q && not (touch q (u32_at m q))))

unfoldable pub wide_bad_entry : (ℕ → ℕ → Bool) → List ℕ → ℕ → ℕ → Bool
wide_bad_entry touch m used p = not (eqb (u32_at m p) 0) && not (wide_symbol_good touch m used (u32_at m p))
