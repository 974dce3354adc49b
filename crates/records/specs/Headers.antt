-- The header of a map, 48 bytes from place 0. Positions, sizes and links are read unsigned: a negative one is then past every map's end.
--     header_of m       the header's fields
--     pair_good v s     whether document 01 accepts the pair of version and section mark
--     is_wide v         whether a map of version v has the wide layout, that of OCAD 9, 10 and 11
--     file_type_good v k whether the version's document lists the file type k
--     version_good h    the version pair of 6 to 8, or a version of 9 to 11 with a file type that its document lists
--     setup_at, info_at  where the position of setup and of info is stored; the size follows
--     part_of m p       the position and the size that are stored from place p
--     symbol_head, index_head    where the first link of each chain is stored
use Rattle.std.specs.Prelude.{ℕ, ◌+◌, Bool, false, cond, ◌&&◌, ◌||◌, List, eqb, leb, get_or}
use Rattle.numbers.specs.Bytes.{u16_at, u32_at}
use Rattle.records.specs.declared.Header.{Header}
use Rattle.records.specs.declared.Part.{Part}

abbrev pub symbol_head : ℕ
symbol_head = 8

abbrev pub index_head : ℕ
index_head = 12

abbrev pub setup_at : ℕ
setup_at = 16

abbrev pub info_at : ℕ
info_at = 24

abbrev pub part_of : List ℕ → ℕ → Part
part_of m p = record { at = u32_at m p; size = u32_at m (p + 4) }

unfoldable pub header_of : List ℕ → Header
header_of m =
    record {
      mark = u16_at m 0;
      section = u16_at m 2;
      file_type = get_or m 2 0;
      version = u16_at m 4;
      setup = part_of m setup_at;
      info = part_of m info_at;
    }

-- 6 with 0; 7 with 7; 8 with 2 or 3; nothing else
unfoldable pub pair_good : ℕ → ℕ → Bool
pair_good v s = cond (eqb v 6) (eqb s 0) (cond (eqb v 7) (eqb s 7) (cond (eqb v 8) (eqb s 2 || eqb s 3) false))

unfoldable pub is_wide : ℕ → Bool
is_wide v = leb 9 v && leb v 11

-- 9 and 10 list 0, 1 and 3; 11 lists 0, 1 and 8
unfoldable pub file_type_good : ℕ → ℕ → Bool
file_type_good v k = leb k 1 || eqb k (cond (eqb v 11) 8 3)

unfoldable pub version_good : Header → Bool
version_good h = cond (is_wide h.version) (file_type_good h.version h.file_type) (pair_good h.version h.section)
