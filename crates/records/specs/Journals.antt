-- Journal records, 16 bytes each: edit number (4), kind (1), three zeros, slot (4), four zeros. The kind and the three zeros behind it are read as one
-- number of 32 bits, which is 1, 2 or 3 exactly when the byte is and the zeros are zeros.
--     record_of j p         the record whose bytes stand from place p
--     record_bytes r        its 16 bytes
--     record_for n k s      the record of a done edit
--     kind_good k           whether the kind is 1 (add), 2 (remove) or 3 (reinstate)
--     shape_good r          whether the number is not 0, the kind is known and the zeros are zeros
--     is_unused r           whether all its bytes are zero
use Rattle.std.specs.Prelude.{ℕ, ◌+◌, Bool, not, ◌&&◌, List, ◌++◌, eqb, leb}
use Rattle.numbers.specs.Bytes.{u32_at, bytes_of}
use Rattle.records.specs.declared.JournalRecord.{JournalRecord}

unfoldable pub record_of : List ℕ → ℕ → JournalRecord
record_of j p = record { number = u32_at j p; kind = u32_at j (p + 4); slot = u32_at j (p + 8); zeros = u32_at j (p + 12) }

unfoldable pub record_bytes : JournalRecord → List ℕ
record_bytes r = bytes_of 4 r.number ++ (bytes_of 4 r.kind ++ (bytes_of 4 r.slot ++ bytes_of 4 r.zeros))

abbrev pub record_for : ℕ → ℕ → ℕ → JournalRecord
record_for number kind slot = record { number = number; kind = kind; slot = slot; zeros = 0 }

unfoldable pub kind_good : ℕ → Bool
kind_good k = leb 1 k && leb k 3

unfoldable pub shape_good : JournalRecord → Bool
shape_good r = not (eqb r.number 0) && (kind_good r.kind && eqb r.zeros 0)

unfoldable pub is_unused : JournalRecord → Bool
is_unused r = eqb r.number 0 && (eqb r.kind 0 && (eqb r.slot 0 && eqb r.zeros 0))
