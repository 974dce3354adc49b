-- The laws of journal records: a record depends on its 16 bytes alone, and what is written is read back. Assumes nothing.
use mathlib.Core.Path.{◌≡◌, refl, ◌∙◌}
use mathlib.Core.List.{List, [], ◌++◌}
use Prim.Native.Nat.{ℕ, ◌+◌, ◌≤◌, ◌<◌, ◌^◌}
use native.Mathlib.Nat.{add-zero, zero-add, add_assoc}
use native.Mathlib.Omega.{arith}
use lib.ListN.{length, get_or}
use lib.Seq.{sets}
use Rattle.numbers.specs.Bytes.{le_at, bytes_of}
use Rattle.numbers.proofs.Bytes.{le_at-cong, le_at-field, get_or-sets-in}
use Rattle.records.specs.declared.JournalRecord.{JournalRecord}
use Rattle.records.specs.Journals.{record_of, record_bytes}

pub record RecordFits (r : JournalRecord) : Type 0 where
  pub number : r.number < 2 ^ 32
  pub kind : r.kind < 2 ^ 32
  pub slot : r.slot < 2 ^ 32
  pub zeros : r.zeros < 2 ^ 32

pub length-record_bytes : (r : JournalRecord) → length (record_bytes r) ≡ 16
unfolding record_bytes bytes_of
length-record_bytes r = refl

record-ext : (r s : JournalRecord) → r.number ≡ s.number → r.kind ≡ s.kind → r.slot ≡ s.slot → r.zeros ≡ s.zeros → r ≡ s
record-ext r s a b c d = λ i. record { number = a i; kind = b i; slot = c i; zeros = d i }

pub record-cong : (xs ys : List ℕ) (a b : ℕ) → ((k : ℕ) → k < 16 → get_or xs (a + k) 0 ≡ get_or ys (b + k) 0) → record_of xs a ≡ record_of ys b
unfolding record_of
record-cong xs ys a b h =
    let go : (j : ℕ) → j + 4 ≤ 16 → le_at 4 xs (a + j) ≡ le_at 4 ys (b + j)
    = λ j l. le_at-cong 4 xs ys (a + j) (b + j) (λ k hk. rw (add_assoc a j k, add_assoc b j k) (h (j + k) (omega arith))) in
    let lowest : le_at 4 xs a ≡ le_at 4 ys b = rw (add-zero a, add-zero b) at (go 0 (omega arith)) in
    record-ext (record_of xs a) (record_of ys b) lowest (go 4 (omega arith)) (go 8 (omega arith)) (go 12 (omega arith))

own : (r : JournalRecord) → RecordFits r → record_of (record_bytes r) 0 ≡ r
unfolding record_of record_bytes bytes_of
own r f =
    let p1 : List ℕ = bytes_of 4 r.number in
    let p2 : List ℕ = p1 ++ bytes_of 4 r.kind in
    let p3 : List ℕ = p2 ++ bytes_of 4 r.slot in
    let e0 : le_at 4 (record_bytes r) 0 ≡ r.number = le_at-field 4 r.number [] _ f.number in
    let e1 : le_at 4 (record_bytes r) 4 ≡ r.kind = le_at-field 4 r.kind p1 _ f.kind in
    let e2 : le_at 4 (record_bytes r) 8 ≡ r.slot = le_at-field 4 r.slot p2 _ f.slot in
    let e3 : le_at 4 (record_bytes r) 12 ≡ r.zeros = le_at-field 4 r.zeros p3 [] f.zeros in
    record-ext (record_of (record_bytes r) 0) r e0 e1 e2 e3

pub record-back : (r : JournalRecord) (xs : List ℕ) (at : ℕ) → RecordFits r → at + 16 ≤ length xs → record_of (sets xs at (record_bytes r)) at ≡ r
record-back r xs at f h =
    let l : length (record_bytes r) ≡ 16 = length-record_bytes r in
    record-cong (sets xs at (record_bytes r)) (record_bytes r) at 0
    (λ k hk. rw zero-add (get_or-sets-in (record_bytes r) xs at k (omega arith) (omega arith)))
    ∙ own r f
