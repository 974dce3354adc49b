-- A journal j beside a map m of n index blocks. Records are counted from 0.
--     record_in j i            record i
--     total j                 how many records the journal has room for
--     in_use j                 how many are in use: those before the first whose bytes are all zero
--     slot_used m n s          whether slot s exists and is not free
--     record_good j m n i      record i, in use: its number is not 0, its kind known, its zeros zero, its slot exists and is not free, and no earlier record has
--                             its number
--     bad_record j m n i       a record in use that is not good, or one after those that is not all zero
--     well_formed j m n        the length is a multiple of a record's and within the limit, and no record is bad. Length 0 is well formed
--     holder j e              the record in use that holds edit number e, or in_use j where there is none
--     is_held j e, is_full j    whether e is held; whether no record is unused
--     appended j r            the journal with record r at the first unused place
--     looked j m n e          what a look into the journal for edit number e answers: held, with kind and slot, or new, with the number of records in use. It
--                             is refused where the journal is malformed, or the number 0
-- The same journal as a list, for a reader; no contract cites it:
--     records_to j k           the first k records in their order
--     records_of j             the records in use in their order
use Rattle.std.specs.Prelude.{ℕ, zero, suc, ◌*◌, ◌/◌, ◌%◌, Bool, not, cond, ◌&&◌, List, [], ◌∷◌, ◌++◌, eqb, leb, ltb, length, Result, Ok, Err}
use Rattle.std.proofs.lemmas.List.Edits.{sets}
use Rattle.numbers.specs.Below.{any, first}
use Rattle.records.specs.declared.JournalRecord.{JournalRecord}
use Rattle.records.specs.Sizes.{journal_record_size, journal_limit, block_cells}
use Rattle.slots.specs.Slots.{slot_of}
use Rattle.records.specs.Journals.{record_of, record_bytes, shape_good, is_unused}
use Rattle.judge.specs.Rules.{slot_at}
use Rattle.journal.specs.declared.JournalLook.{JournalLook}
use Rattle.journal.specs.declared.JournalLook.TheVariants.{Held, New}
use Rattle.refusals.specs.declared.Refusal.{Refusal}
use Rattle.refusals.specs.declared.Refusal.TheVariants.{BadJournal}

unfoldable pub record_in : List ℕ → ℕ → JournalRecord
record_in j i = record_of j (journal_record_size * i)

abbrev pub total : List ℕ → ℕ
total j = length j / journal_record_size

unfoldable pub in_use : List ℕ → ℕ
in_use j = first (λ i. is_unused (record_in j i)) (total j)

unfoldable pub slot_used : List ℕ → ℕ → ℕ → Bool
slot_used m n s = ltb s (block_cells * n) && not (eqb (slot_of m (slot_at m s)).len 0)

unfoldable pub record_good : List ℕ → List ℕ → ℕ → ℕ → Bool
record_good j m n i =
    shape_good (record_in j i)
    && (slot_used m n (record_in j i).slot && not (any (λ k. eqb (record_in j k).number (record_in j i).number) i))

unfoldable pub bad_record : List ℕ → List ℕ → ℕ → ℕ → Bool
bad_record j m n i = cond (ltb i (in_use j)) (not (record_good j m n i)) (not (is_unused (record_in j i)))

unfoldable pub well_formed : List ℕ → List ℕ → ℕ → Bool
well_formed j m n =
    leb (length j) journal_limit && (eqb (length j % journal_record_size) 0 && not (any (bad_record j m n) (total j)))

unfoldable pub holder : List ℕ → ℕ → ℕ
holder j e = first (λ i. eqb (record_in j i).number e) (in_use j)

unfoldable pub is_held : List ℕ → ℕ → Bool
is_held j e = ltb (holder j e) (in_use j)

unfoldable pub is_full : List ℕ → Bool
is_full j = eqb (in_use j) (total j)

unfoldable pub appended : List ℕ → JournalRecord → List ℕ
appended j r = sets j (journal_record_size * in_use j) (record_bytes r)

unfoldable pub looked : List ℕ → List ℕ → ℕ → ℕ → Result JournalLook Refusal
looked j m n e =
    cond (not (eqb e 0) && well_formed j m n)
    (Ok (cond (is_held j e) (Held (record_in j (holder j e)).kind (record_in j (holder j e)).slot) (New (in_use j))))
    (Err BadJournal)

unfoldable pub records_to : List ℕ → ℕ → List JournalRecord
records_to j zero = []
records_to j (suc k) = records_to j k ++ (record_in j k ∷ [])

unfoldable pub records_of : List ℕ → List JournalRecord
records_of j = records_to j (in_use j)
