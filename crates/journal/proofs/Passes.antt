-- The laws of one pass over the records of a journal jn: what is known when i records have been passed, and what the pass's answer makes of a look. m is a map
-- of n index blocks. Assumes nothing.
use Prim.Native.Nat.{ℕ, zero, suc, ◌+◌, ◌*◌, ◌%◌, ◌≤◌, ◌<◌}
use mathlib.Core.Bool.{Bool, true, false, not, cond, ◌&&◌}
use mathlib.Core.Path.{◌≡◌, refl, sym, ◌∙◌}
use mathlib.Core.Logic.{◌⊎◌, inl, inr, ⊎_elim}
use mathlib.Core.List.{List}
use native.Mathlib.Numerals.{add-one}
use native.Mathlib.Omega.{arith}
use lib.Dec.{eqb, ltb}
use lib.ListN.{length, get_or, set, length-set}
use borrow.Author.Count.{below_none, below_more}
use borrow.Author.Tests.{eq-eqb, ne_eqb, le-leb, eqb-true, eqb-false}
use Rattle.numbers.specs.Below.{any}
use Rattle.numbers.proofs.Below.{below-cases, any_at, any_none, first-is}
use Rattle.chain.specs.Tables.{Empty}
use Rattle.records.specs.declared.JournalRecord.{JournalRecord}
use Rattle.records.specs.Sizes.{journal_record_size, journal_limit}
use Rattle.records.specs.Journals.{shape_good, is_unused}
use Rattle.journal.specs.Journals.{record_in, total, in_use, slot_used, record_good, well_formed, holder, is_held, looked}
use Rattle.journal.specs.Passes.{held_in, judged}
use Rattle.journal.specs.Trees.{Linked, Planted, Comes}
use Rattle.journal.specs.declared.UsedRecords.{UsedRecords}
use Rattle.journal.specs.declared.JournalLook.TheVariants.{Held, New}
use Rattle.refusals.specs.declared.Refusal.{Refusal}
use Rattle.refusals.specs.declared.Refusal.TheVariants.{BadJournal}
use Rattle.std.specs.Prelude.{◌/◌, Option, None, Some, Result, Ok, Err}
use Rattle.journal.proofs.Below.{zero_one, not-true-is}
use Rattle.journal.proofs.Records.{shape-in-use, in-use-past, in-use-within}
use Rattle.journal.proofs.Journals.{good-tells, well-formed-parts, held-is, holder-only, held_tells}
use Rattle.journal.proofs.Trees.{comes-has, comes-none, linked-more}

-- ---- the pass over the records

held_more : (jn : List ℕ) (e i : ℕ) → held_in jn e (i + 1) ≡ cond (eqb (record_in jn i).number e) (Some i) (held_in jn e i)
unfolding held_in
held_more jn e i = rw add-one

-- the records below i are good and in trees, with links enough for all, and the one that holds number e is kept
pub record Passed (jn m : List ℕ) (n e : ℕ) (l : List ℕ) (held : Option ℕ) (i : ℕ) : Type 0 where
  pub some : 2 ≤ length l
  pub most : length l ≤ 131072
  pub places : 4 * total jn ≤ length l
  pub linked : Linked (length l / 2) jn l i
  pub good : (k : ℕ) → k < i → record_good jn m n k ≡ true
  pub kept : held ≡ held_in jn e i

pub passed_none : (jn m : List ℕ) (n e : ℕ) (l : List ℕ) → Empty l → 2 ≤ length l → length l ≤ 131072 → 4 * total jn ≤ length l
    → Passed jn m n e l None 0
unfolding held_in
passed_none jn m n e l empty some most room =
    record {
      some = some;
      most = most;
      places = room;
      linked =
          record {
            inside = omega arith;
            room = omega (arith, room);
            within = λ p. rw (empty p) (omega arith);
            rises = λ p h. let no_way : ⊥ = omega (arith, empty p) in absurd no_way;
            leads = below_none _;
          };
      good = below_none _;
      kept = refl;
    }

module _ {jn m : List ℕ} {n e : ℕ} {l : List ℕ} {held : Option ℕ} {i : ℕ} (s : Passed jn m n e l held i) where
  pub passed-planted : Planted jn l
  passed-planted = record { some = s.some; most = s.most; trees = (i, s.linked) }

  in-use-below : (k : ℕ) → k < i → is_unused (record_in jn k) ≡ false
  in-use-below k h = shape-in-use (record_in jn k) (good-tells jn m n k (s.good k h)).shape

  -- no record is left, or the next is unused: those passed are in use
  pub passed-all : i ≤ total jn → (i < total jn → is_unused (record_in jn i) ≡ true) → Ok (record { used = i; held = held }) ≡ judged jn m n e
  unfolding judged in_use
  passed-all h stop =
      let q : in_use jn ≡ i = first-is (λ (k : ℕ). is_unused (record_in jn k)) (total jn) i h in-use-below stop in
      rw (q, any_none (λ (k : ℕ). not (record_good jn m n k)) i (λ k g. rw (s.good k g)), s.kept)

-- record i, the next to pass, is read as r
pub record Next (jn m : List ℕ) (n e : ℕ) (l : List ℕ) (held : Option ℕ) (i : ℕ) (r : JournalRecord) : Type 0 where
  pub passed : Passed jn m n e l held i
  pub within : i < total jn
  pub read : r ≡ record_in jn i

module _ {jn m : List ℕ} {n e : ℕ} {l : List ℕ} {held : Option ℕ} {i : ℕ} {r : JournalRecord} (x : Next jn m n e l held i r) where
  -- it is in use and not good
  bad : is_unused r ≡ false → record_good jn m n i ≡ false → Err BadJournal ≡ judged jn m n e
  unfolding judged
  bad u g =
      let h = in-use-past jn i x.within (below_more _ i (in-use-below x.passed) (rw x.read at u)) in
      rw (any_at (λ (k : ℕ). not (record_good jn m n k)) {i = i} (in_use jn) h (rw g))

  pub shape-bad : is_unused r ≡ false → shape_good r ≡ false → Err BadJournal ≡ judged jn m n e
  unfolding record_good
  shape-bad u f = bad u (rw (← x.read, f))

  pub slot-bad : is_unused r ≡ false → shape_good r ≡ true → slot_used m n r.slot ≡ false → Err BadJournal ≡ judged jn m n e
  unfolding record_good
  slot-bad u g f = bad u (rw (← x.read, g, f))

  by_number : shape_good r ≡ true → slot_used m n r.slot ≡ true
      → record_good jn m n i ≡ not (any (λ (k : ℕ). eqb (record_in jn k).number r.number) i)
  unfolding record_good
  by_number g f = rw (← x.read, g, f)

  -- the link that its number comes to leads to a record
  pub number-bad : {at : ℕ} → is_unused r ≡ false → shape_good r ≡ true → slot_used m n r.slot ≡ true
      → Comes (length l / 2) jn l r.number at → 0 < get_or l at 0 → Err BadJournal ≡ judged jn m n e
  number-bad u g f w v = bad u (by_number g f ∙ rw (comes-has x.passed.linked w v))

  -- it is good, and put there
  pub passed-more : {at : ℕ} → shape_good r ≡ true → slot_used m n r.slot ≡ true → Comes (length l / 2) jn l r.number at → get_or l at 0 ≡ 0
      → (held' : Option ℕ) → held' ≡ cond (eqb r.number e) (Some i) held → Passed jn m n e (set l at (i + 1)) held' (i + 1)
  passed-more {at} g f w z held' p =
      record {
        some = simp length-set x.passed.some;
        most = simp length-set x.passed.most;
        places = simp length-set x.passed.places;
        linked =
            simp length-set
            (linked-more (omega (arith, x.passed.some)) x.passed.linked (rw x.read at w) z (omega (arith, x.within)) (omega (arith, x.within, x.passed.places)));
        good = below_more _ i x.passed.good (by_number g f ∙ rw (comes-none x.passed.linked w z));
        kept = rw (held_more jn e i, ← x.read, ← x.passed.kept) p;
      }

-- ---- what the pass's answer makes of a look

-- held is a record below i that has number e; or none has it
abbrev Kept : List ℕ → ℕ → ℕ → Option ℕ → Type 0
Kept jn e i held =
    ((k : ℕ) × (k < i) × ((record_in jn k).number ≡ e) × (held ≡ Some k))
    ⊎ (((k : ℕ) → k < i → (record_in jn k).number ≡ e → ⊥) × (held ≡ None))

held-law : (jn : List ℕ) (e i : ℕ) → Kept jn e i (held_in jn e i)
unfolding held_in
held-law jn e zero = inr (below_none _, refl)
held-law jn e (suc i) = go (held-law jn e i) (eqb (record_in jn i).number e) refl
  where
    go : Kept jn e i (held_in jn e i) → (t : Bool) → eqb (record_in jn i).number e ≡ t → Kept jn e (suc i) (held_in jn e (suc i))
    go h true f = inl (i, omega arith, eqb-true _ _ f, rw f)
    go h false f =
        rw f
        (⊎_elim
        (λ w. inl (w.0, omega arith, w.2, w.3))
        (λ w. inr ((λ k l. ⊎_elim (λ q. rw q (eqb-false _ _ f)) (w.0 k) (below-cases l)), w.1))
        h)

-- the answer, taken apart
by-judged : (jn m : List ℕ) (n e : ℕ) {A : Type 0} (l : Result UsedRecords Refusal) → judged jn m n e ≡ l
    → (l ≡ Err BadJournal → any (λ (i : ℕ). not (record_good jn m n i)) (in_use jn) ≡ true → A)
    → (l ≡ Ok (record { used = in_use jn; held = held_in jn e (in_use jn) }) → any (λ (i : ℕ). not (record_good jn m n i)) (in_use jn) ≡ false → A)
    → A
unfolding judged
by-judged jn m n e {A} l q bad good = go (any (λ (i : ℕ). not (record_good jn m n i)) (in_use jn)) refl
  where
    go : (t : Bool) → any (λ (i : ℕ). not (record_good jn m n i)) (in_use jn) ≡ t → A
    go true f = bad (sym q ∙ rw f) f
    go false f = good (sym q ∙ rw f) f

-- whether the records from k on are all zero
abbrev rest_unused : List ℕ → ℕ → Bool
rest_unused jn k = not (any (λ (i : ℕ). not (ltb i k) && not (is_unused (record_in jn i))) (total jn))

-- a number that is not 0 and a journal of a good length, beside a map of n index blocks
pub record Sized (jn m : List ℕ) (n e : ℕ) : Type 0 where
  pub nonzero : e ≡ 0 → ⊥
  pub short : length jn ≤ journal_limit
  pub whole : length jn % journal_record_size ≡ 0

module _ {jn m : List ℕ} {n e : ℕ} (s : Sized jn m n e) where
  -- a refusal of the pass is the look's
  pub look-bad : {r : Refusal} → judged jn m n e ≡ Err r → Err r ≡ looked jn m n e
  unfolding looked
  look-bad {r} q =
      by-judged jn m n e (Err r) q
      (λ p f.
      let same : r ≡ BadJournal = cc in
      rw (same, ne_eqb _ _ s.nonzero, well-formed-parts jn m n, le-leb _ _ s.short, eq-eqb _ _ s.whole, f))
      (λ p f. zero_one (cc))

  module _ {u : UsedRecords} (q : judged jn m n e ≡ Ok u) where
    record Tells : Type 0 where
      good : any (λ (i : ℕ). not (record_good jn m n i)) (in_use jn) ≡ false
      count : u.used ≡ in_use jn
      kept : Kept jn e (in_use jn) u.held

    tells : Tells
    tells =
        by-judged jn m n e (Ok u) q
        (λ p f. zero_one (cc))
        (λ p f.
        let same : u ≡ record { used = in_use jn; held = held_in jn e (in_use jn) } = cc in
        record { good = f; count = rw same; kept = rw same (held-law jn e (in_use jn)) })

    pub look-count : u.used ≤ total jn
    look-count = omega (arith, tells.count, in-use-within jn)

    parts : well_formed jn m n ≡ rest_unused jn u.used
    parts = rw (well-formed-parts jn m n, le-leb _ _ s.short, eq-eqb _ _ s.whole, tells.good, tells.count)

    pub look-rest : rest_unused jn u.used ≡ false → Err BadJournal ≡ looked jn m n e
    unfolding looked
    look-rest r = rw (ne_eqb _ _ s.nonzero, parts, r)

    pub look-new : rest_unused jn u.used ≡ true → u.held ≡ None → Ok (New u.used) ≡ looked jn m n e
    unfolding looked
    look-new r new =
        let none : is_held jn e ≡ false
        = ⊎_elim
        (λ w. zero_one (cc (new, w.3)))
        (λ w. not-true-is _ (λ h. w.0 (holder jn e) (held_tells jn e h).0 (held_tells jn e h).1))
        tells.kept in
        rw (ne_eqb _ _ s.nonzero, parts, r, none, tells.count)

    module _ {k : ℕ} (has : u.held ≡ Some k) where
      pub look-within : k < total jn
      look-within = ⊎_elim (λ w. let same : k ≡ w.0 = cc (has, w.3) in omega (arith, w.1, in-use-within jn)) (λ w. zero_one (cc (has, w.1))) tells.kept

      pub look-held : rest_unused jn u.used ≡ true → Ok (Held (record_in jn k).kind (record_in jn k).slot) ≡ looked jn m n e
      unfolding looked
      look-held r =
          ⊎_elim
          (λ w.
          let same : k ≡ w.0 = cc (has, w.3) in
          rw (ne_eqb _ _ s.nonzero, parts, r, held-is jn e w.0 w.1 w.2, holder-only jn m n (parts ∙ r) e w.0 w.1 w.2, same))
          (λ w. zero_one (cc (has, w.1)))
          tells.kept
