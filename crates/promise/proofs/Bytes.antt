-- What is stored is bytes, so a buffer of bytes stays one; the fields of a slot are its bytes; and the bytes of an unused record are
-- zero. Assumes nothing.
use Prim.Native.Nat.{ℕ, zero, suc, ◌+◌, ◌-◌, ◌*◌, ◌/◌, ◌%◌, ◌≤◌, ◌<◌}
use mathlib.Core.Bool.{Bool, true, false, cond}
use mathlib.Core.Path.{◌≡◌, refl, ap}
use mathlib.Core.Logic.{⊎_elim}
use mathlib.Core.List.{List, [], ◌∷◌, ◌++◌}
use native.Mathlib.Decide.{ℕ_discrete}
use native.Mathlib.Nat.{mod-lt, add-zero, add_assoc}
use native.Mathlib.Numerals.{add-one}
use native.Mathlib.Omega.{arith}
use lib.Dec.{eqb}
use lib.ListN.{length, get_or, take, drop, set, replicate, get_or-append}
use lib.Seq.{sets, get_or-set_same, get_or-set_other, set_out, get_or-append-add, drop-cons, drop-drop, take-add}
use borrow.Author.Tests.{eqb-true}
use Rattle.numbers.specs.Bytes.{Bytes, le_at, u32_at, bytes_of}
use Rattle.numbers.proofs.Coordinates.{lt-or-ge}
use Rattle.slots.specs.declared.Slot.{Slot}
use Rattle.records.specs.declared.JournalRecord.{JournalRecord}
use Rattle.slots.specs.Slots.{slot_of, slot_bytes}
use Rattle.records.specs.Journals.{record_of, record_bytes, is_unused}
use Rattle.chain.proofs.Tables.{zeros}
use Rattle.journal.specs.Journals.{appended}
use Rattle.chain.specs.Chains.{place}
use Rattle.judge.specs.Rules.{slot_at}
use Rattle.judge.proofs.Telling.{and-true}
use Rattle.change.specs.Slots.{with_sym}
use Rattle.accept.specs.Slots.{free_slot}
use Rattle.add.specs.Objects.{block_for}
use Rattle.add.specs.Adds.{is_free, slot_added, in_free, in_block, added_map}

byte-set : (xs : List ℕ) (i a : ℕ) → Bytes xs → a < 256 → Bytes (set xs i a)
byte-set xs i a b l j =
    elim (ℕ_discrete j i) [
      | yes e ↦
          ⊎_elim
          (λ h. rw (e, get_or-set_same xs i a 0 h) l)
          (λ h. rw (set_out xs i a h) (b j))
          (lt-or-ge i (length xs))
      | no e ↦ rw (get_or-set_other xs i j a 0 e) (b j)
    ]

pub bytes-sets : (vs xs : List ℕ) (i : ℕ) → Bytes xs → Bytes vs → Bytes (sets xs i vs)
bytes-sets [] xs i b v = b
bytes-sets (a ∷ vs) xs i b v = bytes-sets vs (set xs i a) (suc i) (byte-set xs i a b (v 0)) (λ k. v (suc k))

bytes-append : (xs ys : List ℕ) → Bytes xs → Bytes ys → Bytes (xs ++ ys)
bytes-append xs ys a b i =
    ⊎_elim
    (λ l. rw (get_or-append xs ys 0 i l) (a i))
    (λ l.
    let e : i ≡ length xs + (i - length xs) = omega arith in
    rw (e, get_or-append-add xs ys (i - length xs) 0) (b (i - length xs)))
    (lt-or-ge i (length xs))

pub bytes-of : (n v : ℕ) → Bytes (bytes_of n v)
unfolding bytes_of
bytes-of zero v zero = omega arith
bytes-of zero v (suc i) = omega arith
bytes-of (suc n) v zero = mod-lt v (omega arith)
bytes-of (suc n) v (suc i) = bytes-of n (v / 256) i

-- the same as a record, which shows its list
pub record All (xs : List ℕ) : Type 0 where
  pub all : Bytes xs

field : (n v : ℕ) → All (bytes_of n v)
field n v = record { all = bytes-of n v }

pub then : {xs ys : List ℕ} → All xs → All ys → All (xs ++ ys)
then {xs} {ys} a b = record { all = bytes-append xs ys a.all b.all }

-- one byte more in front
pub bytes-cons : {a : ℕ} {xs : List ℕ} → a < 256 → All xs → All (a ∷ xs)
bytes-cons {a} {xs} l b = record { all = go }
  where
    go : (i : ℕ) → get_or (a ∷ xs) i 0 < 256
    go zero = l
    go (suc i) = b.all i

pub bytes-nil : All []
bytes-nil = record { all = λ i. omega arith }

pub zero-bytes : (n : ℕ) → All (replicate n 0)
zero-bytes n = record { all = λ i. rw (zeros n i) (omega arith) }

slot-bytes : (t : Slot) → All (slot_bytes t)
unfolding slot_bytes
slot-bytes t =
    then (field 4 t.left)
    (then (field 4 t.bottom)
    (then (field 4 t.right)
    (then (field 4 t.top) (then (field 4 t.position) (then (field 2 t.len) (field 2 t.sym))))))

record-bytes : (r : JournalRecord) → All (record_bytes r)
unfolding record_bytes
record-bytes r = then (field 4 r.number) (then (field 4 r.kind) (then (field 4 r.slot) (field 4 r.zeros)))

pub appended-bytes : (j : List ℕ) (r : JournalRecord) → Bytes j → Bytes (appended j r)
unfolding appended
appended-bytes j r b = bytes-sets (record_bytes r) j _ b (record-bytes r).all

pub sym-bytes : (m : List ℕ) (s y : ℕ) → Bytes m → Bytes (with_sym m s y)
unfolding with_sym
sym-bytes m s y b = bytes-sets (bytes_of 2 y) m _ b (bytes-of 2 y)

block-bytes : (t : Slot) → All (block_for t)
unfolding block_for
block-bytes t = then (zero-bytes 4) (then (slot-bytes t) (zero-bytes 6120))

module _ (m : List ℕ) (used n : ℕ) (o : List ℕ) (b : Bytes m) (c : Bytes o) where
  free_bytes : Bytes (in_free m used n o)
  unfolding in_free
  free_bytes =
      bytes-sets (slot_bytes (slot_added m used o)) (sets m used o) (slot_at m (free_slot m n)) (bytes-sets o m used b c) (slot-bytes (slot_added m used o)).all

  new-bytes : Bytes (in_block m used n o)
  unfolding in_block
  new-bytes =
      bytes-sets (bytes_of 4 (used + length o)) (sets (sets m used o) (used + length o) (block_for (slot_added m used o))) (place 12 m n)
      (bytes-sets (block_for (slot_added m used o)) (sets m used o) (used + length o) (bytes-sets o m used b c) (block-bytes (slot_added m used o)).all)
      (bytes-of 4 (used + length o))

  pub added-bytes : Bytes (added_map m used n o)
  unfolding added_map
  added-bytes = go (is_free m n)
    where
      go : (f : Bool) → Bytes (cond f (in_free m used n o) (in_block m used n o))
      go true = free_bytes
      go false = new-bytes

-- ---- the bytes of what was read are those that stand there

part-number : (n : ℕ) (xs : List ℕ) (at : ℕ) → Bytes xs → at + n ≤ length xs → bytes_of n (le_at n xs at) ≡ take n (drop at xs)
unfolding bytes_of le_at
part-number zero xs at b h = refl
part-number (suc n) xs at b h =
    let r = le_at n xs (at + 1) in
    let low : (get_or xs at 0 + 256 * r) % 256 ≡ get_or xs at 0 = omega (arith, b at) in
    let high : (get_or xs at 0 + 256 * r) / 256 ≡ r = omega (arith, b at) in
    rw (drop-cons xs at 0 (omega arith), low, high, ← add-one at) (ap (λ (l : List ℕ). get_or xs at 0 ∷ l) (part-number n xs (at + 1) b (omega arith)))

module _ (m : List ℕ) (p : ℕ) (b : Bytes m) (h : p + 24 ≤ length m) where
  -- a field of n bytes at j, and the k bytes behind it
  part_field : (j n k : ℕ) → j + n + k ≤ 24 → {ys : List ℕ} → ys ≡ take k (drop (p + (j + n)) m) → bytes_of n (le_at n m (p + j)) ++ ys ≡ take (n + k) (drop (p + j) m)
  part_field j n k l e =
      rw (e, part-number n m (p + j) b (omega arith), take-add n k (drop (p + j) m), drop-drop n (p + j) m, add_assoc p j n)

  pub part-slot : slot_bytes (slot_of m p) ≡ take 24 (drop p m)
  unfolding slot_bytes slot_of
  part-slot =
      rw (add-zero p) at
      (part_field 0 4 20 (omega arith)
      (part_field 4 4 16 (omega arith)
      (part_field 8 4 12 (omega arith)
      (part_field 12 4 8 (omega arith) (part_field 16 4 4 (omega arith) (part_field 20 2 2 (omega arith) (part-number 2 m (p + 22) b (omega arith))))))))

-- ---- zero fields are zero bytes

zero_number : (n : ℕ) (xs : List ℕ) (at : ℕ) → le_at n xs at ≡ 0 → (b : ℕ) → at ≤ b → b < at + n → get_or xs b 0 ≡ 0
unfolding le_at
zero_number zero xs at e b l h = omega arith
zero_number (suc n) xs at e b l h =
    elim (ℕ_discrete b at) [
      | yes q ↦ rw q (omega (arith, e))
      | no q ↦ zero_number n xs (at + 1) (omega (arith, e)) b (omega arith) (omega arith)
    ]

pub zero-record : (j : List ℕ) (p : ℕ) → is_unused (record_of j p) ≡ true → (b : ℕ) → p ≤ b → b < p + 16 → get_or j b 0 ≡ 0
unfolding is_unused record_of
zero-record j p e b l h =
    let number = and-true (eqb (u32_at j p) 0) _ e in
    let kind = and-true (eqb (u32_at j (p + 4)) 0) _ number.1 in
    let slot = and-true (eqb (u32_at j (p + 8)) 0) _ kind.1 in
    ⊎_elim
    (λ g. zero_number 4 j p (eqb-true _ _ number.0) b l g)
    (λ l4.
    ⊎_elim
    (λ g. zero_number 4 j (p + 4) (eqb-true _ _ kind.0) b l4 (omega arith))
    (λ l8.
    ⊎_elim
    (λ g. zero_number 4 j (p + 8) (eqb-true _ _ slot.0) b l8 (omega arith))
    (λ l12. zero_number 4 j (p + 12) (eqb-true _ _ slot.1) b l12 (omega arith))
    (lt-or-ge b (p + 12)))
    (lt-or-ge b (p + 8)))
    (lt-or-ge b (p + 4))
