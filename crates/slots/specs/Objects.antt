-- Objects: a header of 32 bytes, then pairs of raw coordinates, 8 bytes each.
--     object_of o           the header of the object whose bytes start the list o
--     type_good k           whether the type is 1 to 5
use Rattle.std.specs.Prelude.{ℕ, Bool, ◌&&◌, List, leb, get_or}
use Rattle.numbers.specs.Bytes.{u16_at}
use Rattle.slots.specs.declared.ObjectHeader.{ObjectHeader}

unfoldable pub object_of : List ℕ → ObjectHeader
object_of o = record { sym = u16_at o 0; kind = get_or o 2 0; items = u16_at o 4; texts = u16_at o 6 }

unfoldable pub type_good : ℕ → Bool
type_good k = leb 1 k && leb k 5
