-- The laws of a journal's records: what a good shape tells, and which records are in use. Assumes nothing.
use Prim.Native.Nat.{ℕ, zero, suc, ◌+◌, ◌*◌, ◌/◌, ◌%◌, ◌≤◌, ◌<◌}
use mathlib.Core.Bool.{Bool, true, false, not, ◌&&◌}
use mathlib.Core.Path.{◌≡◌, refl, sym, ◌∙◌}
use mathlib.Core.Logic.{⊎_elim}
use mathlib.Core.List.{List}
use native.Mathlib.Omega.{arith}
use lib.Dec.{eqb, leb, ltb}
use lib.ListN.{length, length-append, get_or}
use borrow.Author.Tests.{eq-eqb, ne_eqb, le-leb, leb-true, eqb-true, eqb-false, lt-ltb, le-ltb, not-true, not-false}
use Rattle.numbers.specs.Bytes.{u32_at, Zeros, Tells}
use Rattle.numbers.specs.Below.{any}
use Rattle.numbers.proofs.Bytes.{le_at-zero, le_at-zeros}
use Rattle.numbers.proofs.Below.{never, any_none, any_false, First, first-law}
use Rattle.numbers.proofs.Coordinates.{lt-or-ge}
use Rattle.records.specs.declared.JournalRecord.{JournalRecord}
use Rattle.records.specs.Journals.{record_of, kind_good, shape_good, is_unused}
use Rattle.journal.specs.Journals.{record_in, total, in_use, is_full, records_to, records_of}
use Rattle.journal.proofs.Below.{and-tells}

-- ---- a record's shape

pub record Shape (r : JournalRecord) : Type 0 where
  pub number : r.number ≡ 0 → ⊥
  pub least : 1 ≤ r.kind
  pub most : r.kind ≤ 3
  pub zeros : r.zeros ≡ 0

pub shape-tells : (r : JournalRecord) → shape_good r ≡ true → Shape r
unfolding shape_good kind_good
shape-tells r e =
    let a = and-tells (not (eqb r.number 0)) ((leb 1 r.kind && leb r.kind 3) && eqb r.zeros 0) e in
    let b = and-tells (leb 1 r.kind && leb r.kind 3) (eqb r.zeros 0) a.1 in
    let k = and-tells (leb 1 r.kind) (leb r.kind 3) b.0 in
    record {
      number = eqb-false _ _ (not-true _ a.0);
      least = leb-true _ _ k.0;
      most = leb-true _ _ k.1;
      zeros = eqb-true _ _ b.1;
    }

pub shape_is : (r : JournalRecord) → Shape r → shape_good r ≡ true
unfolding shape_good kind_good
shape_is r s = rw (ne_eqb _ _ s.number, le-leb _ _ s.least, le-leb _ _ s.most, eq-eqb _ _ s.zeros)

-- a record of good shape is not unused
pub shape-in-use : (r : JournalRecord) → shape_good r ≡ true → is_unused r ≡ false
unfolding is_unused
shape-in-use r e = rw (ne_eqb _ _ (shape-tells r e).number)

-- ---- the records in use

-- they are those before the first unused
pub in-use-first : (jn : List ℕ) → First (λ i. is_unused (record_in jn i)) (total jn) (in_use jn)
unfolding in_use
in-use-first jn = first-law (λ i. is_unused (record_in jn i)) (total jn)

pub in-use-within : (jn : List ℕ) → in_use jn ≤ total jn
in-use-within jn = (in-use-first jn).within

pub in-use-not-unused : (jn : List ℕ) (i : ℕ) → i < in_use jn → is_unused (record_in jn i) ≡ false
in-use-not-unused jn = (in-use-first jn).before

-- a journal that is not full has an unused record behind them
pub not_full : (jn : List ℕ) → is_full jn ≡ false → in_use jn < total jn
unfolding is_full
not_full jn e = omega (arith, in-use-within jn, eqb-false (in_use jn) (total jn) e)

pub next-unused : (jn : List ℕ) → in_use jn < total jn → is_unused (record_in jn (in_use jn)) ≡ true
next-unused jn = (in-use-first jn).here

-- a record up to which none is unused is in use
pub in-use-past : (jn : List ℕ) (i : ℕ) → i < total jn → ((k : ℕ) → k < i + 1 → is_unused (record_in jn k) ≡ false) → i < in_use jn
in-use-past jn i l h =
    ⊎_elim (λ g. g) (λ g. absurd (never (sym (next-unused jn (omega arith)) ∙ h (in_use jn) (omega arith)))) (lt-or-ge i (in_use jn))

pub next-bytes : (jn : List ℕ) → in_use jn < total jn → 16 * in_use jn + 16 ≤ length jn
next-bytes jn h = omega arith

-- ---- the records as a list

length-records_to : (jn : List ℕ) (k : ℕ) → length (records_to jn k) ≡ k
unfolding records_to
length-records_to jn zero = refl
length-records_to jn (suc k) = rw (length-append, length-records_to jn k) (omega arith)

pub length-records_of : (jn : List ℕ) → length (records_of jn) ≡ in_use jn
unfolding records_of
length-records_of jn = length-records_to jn (in_use jn)

-- the list goes by the records alone
pub records_to-same : (jn kn : List ℕ) (k : ℕ) → ((i : ℕ) → i < k → record_in jn i ≡ record_in kn i) → records_to jn k ≡ records_to kn k
unfolding records_to
records_to-same jn kn zero h = refl
records_to-same jn kn (suc k) h = rw (records_to-same jn kn k (λ i l. h i (omega arith)), h k (omega arith))

-- ---- a record is unused exactly where its bytes are 0

module _ (jn : List ℕ) (i : ℕ) where
  zeros-unused : Zeros jn (16 * i) (16 * i + 16) → is_unused (record_in jn i) ≡ true
  unfolding is_unused record_in record_of
  zeros-unused h = rw (field (16 * i) (omega arith) (omega arith), field (16 * i + 4) (omega arith) (omega arith), field (16 * i + 8) (omega arith) (omega arith), field (16 * i + 12) (omega arith) (omega arith))
    where
      field : (p : ℕ) → 16 * i ≤ p → p + 4 ≤ 16 * i + 16 → eqb (u32_at jn p) 0 ≡ true
      field p l g = eq-eqb (u32_at jn p) 0 (le_at-zero 4 jn p (λ a x y. h a (omega arith) (omega arith)))

  unused-zeros : is_unused (record_in jn i) ≡ true → Zeros jn (16 * i) (16 * i + 16)
  unfolding is_unused record_in record_of
  unused-zeros e a l g =
      let n = and-tells (eqb (u32_at jn (16 * i)) 0) (eqb (u32_at jn (16 * i + 4)) 0 && (eqb (u32_at jn (16 * i + 8)) 0 && eqb (u32_at jn (16 * i + 12)) 0)) e in
      let k = and-tells (eqb (u32_at jn (16 * i + 4)) 0) (eqb (u32_at jn (16 * i + 8)) 0 && eqb (u32_at jn (16 * i + 12)) 0) n.1 in
      let s = and-tells (eqb (u32_at jn (16 * i + 8)) 0) (eqb (u32_at jn (16 * i + 12)) 0) k.1 in
      ⊎_elim
      (field (16 * i) n.0 l)
      (λ q. ⊎_elim (λ f. field (16 * i + 4) k.0 q (omega arith)) (λ f. ⊎_elim (λ t. field (16 * i + 8) s.0 f (omega arith)) (λ t. field (16 * i + 12) s.1 t (omega arith)) (lt-or-ge a (16 * i + 12))) (lt-or-ge a (16 * i + 8)))
      (lt-or-ge a (16 * i + 4))
    where
      field : (p : ℕ) → eqb (u32_at jn p) 0 ≡ true → p ≤ a → a < p + 4 → get_or jn a 0 ≡ 0
      field p f = le_at-zeros 4 jn p (eqb-true (u32_at jn p) 0 f) a

-- so the records from k on are unused exactly where the bytes from there on are 0
pub rest-zeros : (jn : List ℕ) (k : ℕ) {r : Bool} → length jn % 16 ≡ 0 → Tells r (Zeros jn (16 * k) (length jn)) → r ≡ not (any (λ i. not (ltb i k) && not (is_unused (record_in jn i))) (total jn))
rest-zeros jn k {r} whole t = go r refl (any bad (total jn)) refl
  where
    bad : ℕ → Bool
    bad i = not (ltb i k) && not (is_unused (record_in jn i))

    none : Zeros jn (16 * k) (length jn) → (i : ℕ) → i < total jn → bad i ≡ false
    none z i l =
        ⊎_elim
        (λ g. rw (lt-ltb i k g))
        (λ g. rw (le-ltb i k g, zeros-unused jn i (λ a x y. z a (omega arith) (omega arith))))
        (lt-or-ge i k)

    zeros : any bad (total jn) ≡ false → Zeros jn (16 * k) (length jn)
    zeros e a l g =
        let i : ℕ = a / 16 in
        unused-zeros jn i (not-false (is_unused (record_in jn i)) (rw (le-ltb i k (omega arith)) at (any_false bad (total jn) e i (omega arith)))) a (omega arith) (omega arith)

    go : (b : Bool) → r ≡ b → (d : Bool) → any bad (total jn) ≡ d → r ≡ not (any bad (total jn))
    go true e d f = rw (e, any_none bad (total jn) (none (t.so e)))
    go false e true f = rw (e, f)
    go false e false f = absurd (never (sym (t.answers (zeros f)) ∙ e))
