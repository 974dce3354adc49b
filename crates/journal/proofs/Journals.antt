-- The laws of whole journals: what a well formed one tells and what shows it, which record holds a number, the journal with one record more, and what each
-- answer of a look tells.
-- jn is a journal, m and m' maps of n and n' index blocks. Assumes nothing.
use Prim.Native.Nat.{ℕ, ◌+◌, ◌*◌, ◌%◌, ◌≤◌, ◌<◌}
use mathlib.Core.Bool.{Bool, true, false, not, ◌&&◌}
use mathlib.Core.Path.{◌≡◌, refl, sym, ◌∙◌}
use mathlib.Core.Logic.{◌⊎◌, inl, inr, ⊎_elim}
use mathlib.Core.List.{List, [], ◌∷◌, ◌++◌}
use native.Mathlib.Numerals.{add-one}
use native.Mathlib.Omega.{arith}
use lib.Dec.{eqb, leb, ltb}
use lib.ListN.{length, get_or}
use lib.Seq.{length-sets}
use borrow.Author.Count.{below_more}
use borrow.Author.Tests.{lt-ltb, le-ltb, ltb-true, ltb-false, le-leb, leb-true, eq-eqb, ne_eqb, eqb-true, eqb-false, not-true, not-false}
use Rattle.numbers.specs.Below.{any}
use Rattle.numbers.proofs.Below.{any_none, any_false, First, first-is, first-law}
use Rattle.numbers.proofs.Bytes.{get_or-sets-low, get_or-sets-high}
use Rattle.numbers.proofs.Coordinates.{lt-or-ge}
use Rattle.records.specs.declared.JournalRecord.{JournalRecord}
use Rattle.refusals.specs.declared.Refusal.{Refusal}
use Rattle.refusals.specs.declared.Refusal.TheVariants.{BadJournal}
use Rattle.std.specs.Prelude.{Result, Ok, Err}
use Rattle.records.specs.Sizes.{journal_record_size, journal_limit}
use Rattle.records.specs.Journals.{shape_good, is_unused, record_bytes}
use Rattle.records.proofs.Journals.{RecordFits, record-cong, record-back, length-record_bytes}
use Rattle.journal.specs.Journals.{record_in, total, in_use, slot_used, record_good, bad_record, well_formed, holder, is_held, is_full, appended, looked, records_to, records_of}
use Rattle.journal.specs.declared.JournalLook.{JournalLook}
use Rattle.journal.specs.declared.JournalLook.TheVariants.{Held, New}
use Rattle.journal.proofs.Below.{zero_one, and-tells, none-split}
use Rattle.journal.proofs.Records.{shape-in-use, in-use-within, in-use-not-unused, not_full, next-bytes, records_to-same}

-- ---- a good record

pub record Good (jn m : List ℕ) (n i : ℕ) : Type 0 where
  pub shape : shape_good (record_in jn i) ≡ true
  pub used : slot_used m n (record_in jn i).slot ≡ true
  pub new : (k : ℕ) → k < i → (record_in jn k).number ≡ (record_in jn i).number → ⊥

pub good-tells : (jn m : List ℕ) (n i : ℕ) → record_good jn m n i ≡ true → Good jn m n i
unfolding record_good
good-tells jn m n i e =
    let earlier : ℕ → Bool = λ k. eqb (record_in jn k).number (record_in jn i).number in
    let a = and-tells (shape_good (record_in jn i)) (slot_used m n (record_in jn i).slot && not (any earlier i)) e in
    let b = and-tells (slot_used m n (record_in jn i).slot) (not (any earlier i)) a.1 in
    record { shape = a.0; used = b.0; new = λ k l. eqb-false _ _ (any_false earlier i (not-true _ b.1) k l) }

pub good-is : (jn m : List ℕ) (n i : ℕ) → Good jn m n i → record_good jn m n i ≡ true
unfolding record_good
good-is jn m n i g =
    rw (g.shape, g.used, any_none (λ k. eqb (record_in jn k).number (record_in jn i).number) i (λ k l. ne_eqb _ _ (g.new k l)))

-- ---- a well formed journal

pub record WellFormed (jn m : List ℕ) (n : ℕ) : Type 0 where
  pub within : length jn ≤ journal_limit
  pub whole : length jn % journal_record_size ≡ 0
  pub good : (i : ℕ) → i < in_use jn → record_good jn m n i ≡ true
  pub rest : (i : ℕ) → in_use jn ≤ i → i < total jn → is_unused (record_in jn i) ≡ true

pub well-formed-tells : (jn m : List ℕ) (n : ℕ) → well_formed jn m n ≡ true → WellFormed jn m n
unfolding well_formed bad_record
well-formed-tells jn m n e =
    let a = and-tells (leb (length jn) journal_limit) (eqb (length jn % journal_record_size) 0 && not (any (bad_record jn m n) (total jn))) e in
    let b = and-tells (eqb (length jn % journal_record_size) 0) (not (any (bad_record jn m n) (total jn))) a.1 in
    let no : (i : ℕ) → i < total jn → bad_record jn m n i ≡ false = any_false (bad_record jn m n) (total jn) (not-true _ b.1) in
    record {
      within = leb-true _ _ a.0;
      whole = eqb-true _ _ b.0;
      good = λ i l. not-false _ (rw (lt-ltb i (in_use jn) l) at (no i (omega (arith, in-use-within jn))));
      rest = λ i l h. not-false _ (rw (le-ltb i (in_use jn) l) at (no i h));
    }

pub well-formed-is : (jn m : List ℕ) (n : ℕ) → WellFormed jn m n → well_formed jn m n ≡ true
unfolding well_formed bad_record
well-formed-is jn m n w =
    let no : (i : ℕ) → i < total jn → bad_record jn m n i ≡ false
    = λ i h.
    ⊎_elim
    (λ l. rw (lt-ltb i (in_use jn) l, w.good i l))
    (λ l. rw (le-ltb i (in_use jn) l, w.rest i l h))
    (lt-or-ge i (in_use jn)) in
    rw (le-leb _ _ w.within, eq-eqb _ _ w.whole, any_none (bad_record jn m n) (total jn) no)

-- the same as four tests, as the code makes them: two of the length, then the records in use, then the rest
pub well-formed-parts : (jn m : List ℕ) (n : ℕ)
    → well_formed jn m n
    ≡ leb (length jn) journal_limit
    && (eqb (length jn % journal_record_size) 0
    && (not (any (λ i. not (record_good jn m n i)) (in_use jn)) && not (any (λ i. not (ltb i (in_use jn)) && not (is_unused (record_in jn i))) (total jn))))
unfolding well_formed bad_record
well-formed-parts jn m n =
    rw (none-split (λ i. not (record_good jn m n i)) (λ i. not (is_unused (record_in jn i))) (in_use jn) (total jn) (in-use-within jn))

-- every slot that is used in the one map is used in the other
abbrev pub KeepsUse : List ℕ → ℕ → List ℕ → ℕ → Type 0
KeepsUse m n m' n' = (s : ℕ) → slot_used m n s ≡ true → slot_used m' n' s ≡ true

-- ---- what holds a number

holder-first : (jn : List ℕ) (e : ℕ) → First (λ i. eqb (record_in jn i).number e) (in_use jn) (holder jn e)
unfolding holder
holder-first jn e = first-law (λ i. eqb (record_in jn i).number e) (in_use jn)

pub held_tells : (jn : List ℕ) (e : ℕ) → is_held jn e ≡ true → (holder jn e < in_use jn) × ((record_in jn (holder jn e)).number ≡ e)
unfolding is_held
held_tells jn e h =
    let l = ltb-true (holder jn e) (in_use jn) h in
    (l, eqb-true _ _ ((holder-first jn e).here l))

pub not-held : (jn : List ℕ) (e : ℕ) → is_held jn e ≡ false → (i : ℕ) → i < in_use jn → (record_in jn i).number ≡ e → ⊥
unfolding is_held
not-held jn e h i l = eqb-false _ _ ((holder-first jn e).before i (omega (arith, ltb-false (holder jn e) (in_use jn) h)))

-- what shows which record holds a number: the first that has it
pub holder-is : (jn : List ℕ) (e i : ℕ) → i < in_use jn → (record_in jn i).number ≡ e → ((k : ℕ) → k < i → (record_in jn k).number ≡ e → ⊥) → holder jn e ≡ i
unfolding holder
holder-is jn e i l q earlier =
    first-is (λ k. eqb (record_in jn k).number e) (in_use jn) i (omega arith) (λ k g. ne_eqb _ _ (earlier k g)) (λ g. eq-eqb _ _ q)

pub held-is : (jn : List ℕ) (e i : ℕ) → i < in_use jn → (record_in jn i).number ≡ e → is_held jn e ≡ true
held-is jn e i l q = go (is_held jn e) refl
  where
    go : (b : Bool) → is_held jn e ≡ b → is_held jn e ≡ true
    go true f = f
    go false f = absurd (not-held jn e f i l q)

-- in a well formed journal no other record has the number
pub holder-only : (jn m : List ℕ) (n : ℕ) → well_formed jn m n ≡ true → (e i : ℕ) → i < in_use jn → (record_in jn i).number ≡ e → holder jn e ≡ i
holder-only jn m n w e i l q =
    holder-is jn e i l q (λ k g p. (good-tells jn m n i ((well-formed-tells jn m n w).good i l)).new k g (p ∙ sym q))

-- ---- the journal with one record more

pub length-appended : (jn : List ℕ) (r : JournalRecord) → length (appended jn r) ≡ length jn
unfolding appended
length-appended jn r = length-sets jn (16 * in_use jn) (record_bytes r)

-- bytes elsewhere are as they were, and so are records
pub appended-byte : (jn : List ℕ) (r : JournalRecord) (b : ℕ) → (b < 16 * in_use jn) ⊎ (16 * in_use jn + 16 ≤ b) → get_or (appended jn r) b 0 ≡ get_or jn b 0
unfolding appended
appended-byte jn r b (inl l) = get_or-sets-low (record_bytes r) jn (16 * in_use jn) b l
appended-byte jn r b (inr l) = get_or-sets-high (record_bytes r) jn (16 * in_use jn) b (omega (arith, length-record_bytes r))

pub appended-old : (jn : List ℕ) (r : JournalRecord) (i : ℕ) → (i ≡ in_use jn → ⊥) → record_in (appended jn r) i ≡ record_in jn i
unfolding record_in
appended-old jn r i ne =
    record-cong (appended jn r) jn (16 * i) (16 * i)
    (λ k l. appended-byte jn r (16 * i + k) (⊎_elim (λ g. inl (omega arith)) (λ g. inr (omega arith)) (lt-or-ge i (in_use jn))))

pub appended-below : (jn : List ℕ) (r : JournalRecord) (i : ℕ) → i < in_use jn → record_in (appended jn r) i ≡ record_in jn i
appended-below jn r i l = appended-old jn r i (λ q. omega arith)

pub appended-new : (jn : List ℕ) (r : JournalRecord) → in_use jn < total jn → RecordFits r → record_in (appended jn r) (in_use jn) ≡ r
unfolding record_in appended
appended-new jn r h f = record-back r jn (16 * in_use jn) f (next-bytes jn h)

-- there is an unused record, and every record behind those in use is unused
pub record Room (jn : List ℕ) : Type 0 where
  pub more : in_use jn < total jn
  pub rest : (i : ℕ) → in_use jn ≤ i → i < total jn → is_unused (record_in jn i) ≡ true

pub room_of : (jn m : List ℕ) (n : ℕ) → well_formed jn m n ≡ true → is_full jn ≡ false → Room jn
room_of jn m n w e = record { more = not_full jn e; rest = (well-formed-tells jn m n w).rest }

module _ (jn : List ℕ) (r : JournalRecord) (room : Room jn) (fits : RecordFits r) (shape : shape_good r ≡ true) where
  pub appended-use : in_use (appended jn r) ≡ in_use jn + 1
  unfolding in_use
  appended-use =
      first-is (λ i. is_unused (record_in (appended jn r) i)) (total (appended jn r)) (in_use jn + 1)
      (omega (arith, length-appended jn r, room.more))
      (below_more _ (in_use jn)
      (λ i l. rw (appended-below jn r i l) (in-use-not-unused jn i l))
      (rw (appended-new jn r room.more fits) (shape-in-use r shape)))
      (λ l. rw (appended-old jn r (in_use jn + 1) (λ e. omega arith)) (room.rest (in_use jn + 1) (omega arith) (omega (arith, length-appended jn r))))

  -- a record in use is an old one or the new one
  in-use-cases : (i : ℕ) → i < in_use (appended jn r) → (i < in_use jn) ⊎ (i ≡ in_use jn)
  in-use-cases i l = ⊎_elim inl (λ g. inr (omega (arith, appended-use))) (lt-or-ge i (in_use jn))

  pub records_of-appended : records_of (appended jn r) ≡ records_of jn ++ (r ∷ [])
  unfolding records_of records_to
  records_of-appended =
      rw (appended-use, add-one, records_to-same (appended jn r) jn (in_use jn) (appended-below jn r), appended-new jn r room.more fits)

  -- what was held stays held, by the same record
  pub appended-holder-kept : (e : ℕ) → is_held jn e ≡ true → holder (appended jn r) e ≡ holder jn e
  appended-holder-kept e h =
      let t = held_tells jn e h in
      holder-is (appended jn r) e (holder jn e)
      (omega (arith, appended-use))
      (rw (appended-below jn r (holder jn e) t.0) t.1)
      (λ k l. rw (appended-below jn r k (omega arith)) (eqb-false _ _ ((holder-first jn e).before k l)))

  pub appended-record-kept : (e : ℕ) → is_held jn e ≡ true → record_in (appended jn r) (holder (appended jn r) e) ≡ record_in jn (holder jn e)
  appended-record-kept e h =
      rw (appended-holder-kept e h) (appended-below jn r (holder jn e) (held_tells jn e h).0)

  pub appended-keeps : (e : ℕ) → is_held jn e ≡ true → is_held (appended jn r) e ≡ true
  appended-keeps e h =
      let t = held_tells jn e h in
      held-is (appended jn r) e (holder jn e) (omega (arith, appended-use)) (rw (appended-below jn r (holder jn e) t.0) t.1)

  -- the new number is held, by the new record if it was not held before
  pub appended-holds : is_held (appended jn r) r.number ≡ true
  appended-holds = held-is (appended jn r) r.number (in_use jn) (omega (arith, appended-use)) (rw (appended-new jn r room.more fits))

  pub appended-holder : is_held jn r.number ≡ false → holder (appended jn r) r.number ≡ in_use jn
  appended-holder h =
      holder-is (appended jn r) r.number (in_use jn) (omega (arith, appended-use)) (rw (appended-new jn r room.more fits))
      (λ k l. rw (appended-below jn r k l) (not-held jn r.number h k l))

pub appended-well : (jn m m' : List ℕ) (n n' : ℕ) (r : JournalRecord) → well_formed jn m n ≡ true → is_full jn ≡ false → is_held jn r.number ≡ false
    → RecordFits r → shape_good r ≡ true → KeepsUse m n m' n' → slot_used m' n' r.slot ≡ true → well_formed (appended jn r) m' n' ≡ true
appended-well jn m m' n n' r w full held fits shape keep used =
    let room = room_of jn m n w full in
    let t = well-formed-tells jn m n w in
    let u = appended-use jn r room fits shape in
    let new = appended-new jn r room.more fits in
    let old = appended-below jn r in
    well-formed-is (appended jn r) m' n'
    (record {
      within = rw (length-appended jn r) t.within;
      whole = rw (length-appended jn r) t.whole;
      good = λ i l. ⊎_elim
          (λ g.
          let x = good-tells jn m n i (t.good i g) in
          good-is (appended jn r) m' n' i
          (record {
            shape = rw (old i g) x.shape;
            used = rw (old i g) (keep _ x.used);
            new = λ k h. rw (old i g, old k (omega arith)) (x.new k h);
          }))
          (λ q.
          rw q
          (good-is (appended jn r) m' n' (in_use jn)
          (record { shape = rw new shape; used = rw new used; new = λ k h. rw (new, old k h) (not-held jn r.number held k h) })))
          (in-use-cases jn r room fits shape i l);
      rest = λ i l g. rw (appended-old jn r i (λ q. omega arith)) (t.rest i (omega arith) (rw (length-appended jn r) at g));
    })

-- ---- what a look tells, by its answer

pub record Sound (jn m : List ℕ) (n e : ℕ) : Type 0 where
  pub number : e ≡ 0 → ⊥
  pub well : well_formed jn m n ≡ true

by-look : (jn m : List ℕ) (n e : ℕ) {A : Type 0} (l : Result JournalLook Refusal) → looked jn m n e ≡ l
    → (l ≡ Err BadJournal → (e ≡ 0) ⊎ (well_formed jn m n ≡ false) → A)
    → (Sound jn m n e → is_held jn e ≡ true → l ≡ Ok (Held (record_in jn (holder jn e)).kind (record_in jn (holder jn e)).slot) → A)
    → (Sound jn m n e → is_held jn e ≡ false → l ≡ Ok (New (in_use jn)) → A)
    → A
unfolding looked
by-look jn m n e {A} l q bad held new = go (eqb e 0) refl (well_formed jn m n) refl (is_held jn e) refl
  where
    go : (a : Bool) → eqb e 0 ≡ a → (b : Bool) → well_formed jn m n ≡ b → (d : Bool) → is_held jn e ≡ d → A
    go true f b g d h = bad (sym q ∙ rw f) (inl (eqb-true e 0 f))
    go false f false g d h = bad (sym q ∙ rw (f, g)) (inr g)
    go false f true g true h = held (record { number = eqb-false e 0 f; well = g }) h (sym q ∙ rw (f, g, h))
    go false f true g false h = new (record { number = eqb-false e 0 f; well = g }) h (sym q ∙ rw (f, g, h))

pub looked-held : (jn m : List ℕ) (n e kind slot : ℕ) → looked jn m n e ≡ Ok (Held kind slot)
    → Sound jn m n e × (is_held jn e ≡ true) × (kind ≡ (record_in jn (holder jn e)).kind) × (slot ≡ (record_in jn (holder jn e)).slot)
looked-held jn m n e kind slot q =
    by-look jn m n e (Ok (Held kind slot)) q (λ p h. zero_one (cc)) (λ s h p. (s, h, (cc), (cc))) (λ s h p. zero_one (cc))

pub looked-new : (jn m : List ℕ) (n e used : ℕ) → looked jn m n e ≡ Ok (New used) → Sound jn m n e × (is_held jn e ≡ false) × (used ≡ in_use jn)
looked-new jn m n e used q =
    by-look jn m n e (Ok (New used)) q (λ p h. zero_one (cc)) (λ s h p. zero_one (cc)) (λ s h p. (s, h, (cc)))
