-- The laws of the tests: what a test in the code tells of the test in a definition, the table in the place of the chain, an object's header read in a lent
-- part, and the bounds of an object's bytes. Assumes nothing.
use Prim.Native.Nat.{ℕ, ◌+◌, ◌-◌, ◌*◌, ◌/◌, ◌%◌, ◌≤◌, ◌<◌}
use mathlib.Core.Bool.{Bool, true, false, cond, ◌&&◌, and-eq-true_iff}
use mathlib.Core.Logic.{⊎_elim}
use mathlib.Core.Path.{◌≡◌, refl, sym, ◌∙◌, fun_ext}
use mathlib.Core.List.{List}
use native.Mathlib.Omega.{arith}
use native.Mathlib.Decide.{ℕ_discrete}
use lib.Dec.{eqb, leb}
use lib.ListN.{take, drop}
use lib.Seq.{get_or-take}
use borrow.Author.Tests.{eqb-true, eqb-false, eq-eqb, ne_eqb, leb-true, leb-false, le-leb, lt-leb}
use Rattle.numbers.specs.Bytes.{u16_at}
use Rattle.numbers.proofs.Bytes.{le_at-part, le_at-drop}
use Rattle.records.specs.Sizes.{object_header_size, object_most}
use Rattle.records.specs.Headers.{index_head}
use Rattle.numbers.proofs.Below.{never}
use Rattle.numbers.proofs.Coordinates.{lt-or-ge}
use Rattle.slots.specs.Slots.{len_good, pairs_of, bytes_in, bytes_in_range}
use Rattle.records.specs.Symbols.{size_good}
use Rattle.records.proofs.Symbols.{size_small}
use Rattle.slots.specs.Objects.{object_of}
use Rattle.slots.proofs.Slots.{len-room}
use Rattle.chain.specs.Tables.{EndsTable, ends_meet}
use Rattle.chain.proofs.Tables.{table_meets_lem}
use Rattle.judge.specs.Rules.{Family, touches_of}

-- a call answered r, which is b: what a branch on `!r` tells of b
pub fails : {r b : Bool} → r ≡ b → r ≡ false → b ≡ false
fails e t = sym e ∙ t

pub passes : {r b : Bool} → r ≡ b → r ≡ true → b ≡ true
passes e t = sym e ∙ t

-- the table's test of a range is the chain's
pub same-touch : (f : Family) {m : List ℕ} {n : ℕ} {t : List ℕ} → EndsTable f.block index_head f.page m n t → ends_meet f.block t ≡ touches_of f m n
same-touch f w = fun_ext (λ p. fun_ext (λ len. table_meets_lem w.table f.block p len))

-- an object's header, read in a part that has it
pub object-part : (m : List ℕ) (p : ℕ) {k : ℕ} → object_header_size ≤ k → object_of (take k (drop p m)) ≡ object_of (drop p m)
unfolding object_of
object-part m p {k} h =
    let field : (j : ℕ) → j + 2 ≤ k → u16_at (take k (drop p m)) j ≡ u16_at (drop p m) j = λ j l. le_at-part 2 m p k j l ∙ sym (le_at-drop 2 m p j) in
    λ i.
    record {
      sym = field 0 (omega arith) i;
      kind = get_or-take k (drop p m) 2 0 (omega arith) i;
      items = field 4 (omega arith) i;
      texts = field 6 (omega arith) i;
    }

-- an object whose Len is allowed has room for its header; and no object has more bytes than a header and Len pairs
pub bytes-least : (v len : ℕ) → len_good v len ≡ true → object_header_size ≤ bytes_in v len
unfolding bytes_in
bytes-least v len e = go (eqb v 8) refl
  where
    go : (b : Bool) → eqb v 8 ≡ b → 32 ≤ cond b (32 + 8 * len) len
    go true f = omega arith
    go false f = omega (arith, len-room v len e (eqb-false v 8 f))

pub bytes_most : (v len : ℕ) → bytes_in v len ≤ 32 + 8 * len
unfolding bytes_in
bytes_most v len = go (eqb v 8)
  where
    go : (b : Bool) → cond b (32 + 8 * len) len ≤ 32 + 8 * len
    go true = omega arith
    go false = omega arith

-- a Size that is good is two bytes at least
pub size_two : (n : ℕ) → size_good n ≡ true → 2 ≤ n
size_two n e = ⊎_elim (λ l. absurd (never (sym e ∙ size_small n l))) (λ l. omega arith) (lt-or-ge n 348)

-- the bytes of an object tell its pairs
bytes-pairs : (v len : ℕ) → len_good v len ≡ true → bytes_in v len ≡ 32 + 8 * pairs_of v len
unfolding bytes_in pairs_of len_good
bytes-pairs v len g = go (eqb v 8) g
  where
    go : (b : Bool) → cond b (leb len 32768) (leb 40 len && eqb ((len - 32) % 8) 0) ≡ true → cond b (32 + 8 * len) len ≡ 32 + 8 * cond b len ((len - 32) / 8)
    go true e = refl
    go false e = let a = (and-eq-true_iff (leb 40 len) (eqb ((len - 32) % 8) 0)).0 e in omega (arith, leb-true 40 len a.0, eqb-true ((len - 32) % 8) 0 a.1)

-- an object whose bytes lie in the range has room for its header
pub in_range : (n : ℕ) → bytes_in_range n ≡ true → (object_header_size ≤ n) × (n ≤ object_most)
unfolding bytes_in_range
in_range n e = let a = (and-eq-true_iff (leb 40 n) (leb n 262176)).0 e in (omega (arith, leb-true 40 n a.0), leb-true n 262176 a.1)

-- one whose bytes are out of the range has a Len that is not allowed
pub out_of_range : (v len : ℕ) → (len ≡ 0 → ⊥) → len < 65536 → bytes_in_range (bytes_in v len) ≡ false → len_good v len ≡ false
unfolding bytes_in bytes_in_range len_good
out_of_range v len ne l r = go (eqb v 8) r
  where
    go : (b : Bool) → leb 40 (cond b (32 + 8 * len) len) && leb (cond b (32 + 8 * len) len) 262176 ≡ false
        → cond b (leb len 32768) (leb 40 len && eqb ((len - 32) % 8) 0) ≡ false
    go true f = lt-leb len 32768 (omega (arith, leb-false (32 + 8 * len) 262176 (rw (le-leb 40 (32 + 8 * len) (omega arith)) at f)))
    go false f =
        ⊎_elim
        (λ h. rw (lt-leb 40 len h))
        (λ h. absurd (never (rw (le-leb 40 len h, le-leb len 262176 (omega arith)) at f)))
        (lt-or-ge len 40)

pub ruleset range_laws = (in_range, out_of_range)

-- and in the range they are those of whole pairs only where its Len is allowed
bytes_whole : (v len k : ℕ) → bytes_in_range (bytes_in v len) ≡ true → 32 + 8 * k ≡ bytes_in v len → len_good v len ≡ true
unfolding bytes_in bytes_in_range len_good
bytes_whole v len k r e = go (eqb v 8) r e
  where
    go : (b : Bool) → leb 40 (cond b (32 + 8 * len) len) && leb (cond b (32 + 8 * len) len) 262176 ≡ true → 32 + 8 * k ≡ cond b (32 + 8 * len) len
        → cond b (leb len 32768) (leb 40 len && eqb ((len - 32) % 8) 0) ≡ true
    go true f h =
        let a = (and-eq-true_iff (leb 40 (32 + 8 * len)) (leb (32 + 8 * len) 262176)).0 f in
        le-leb len 32768 (omega (arith, leb-true (32 + 8 * len) 262176 a.1))
    go false f h =
        let a = (and-eq-true_iff (leb 40 len) (leb len 262176)).0 f in
        (and-eq-true_iff (leb 40 len) (eqb ((len - 32) % 8) 0)).1 (a.0, eq-eqb ((len - 32) % 8) 0 (omega (arith, h)))

-- so the test of the bytes is the test whether Len is allowed and the pairs are so many
pub pairs_by_bytes : (v len k : ℕ) → bytes_in_range (bytes_in v len) ≡ true → eqb (32 + 8 * k) (bytes_in v len) ≡ len_good v len && eqb k (pairs_of v len)
pairs_by_bytes v len k r = go (len_good v len) refl
  where
    go : (b : Bool) → len_good v len ≡ b → eqb (32 + 8 * k) (bytes_in v len) ≡ b && eqb k (pairs_of v len)
    go true g =
        rw (bytes-pairs v len g)
        (elim (ℕ_discrete k (pairs_of v len)) [
          | yes e ↦ eq-eqb (32 + 8 * k) (32 + 8 * pairs_of v len) (omega arith) ∙ sym (eq-eqb k (pairs_of v len) e)
          | no e ↦ ne_eqb (32 + 8 * k) (32 + 8 * pairs_of v len) (λ h. e (omega arith)) ∙ sym (ne_eqb k (pairs_of v len) e)
        ])
    go false g = ne_eqb (32 + 8 * k) (bytes_in v len) (λ h. never (sym (bytes_whole v len k r h) ∙ g))
