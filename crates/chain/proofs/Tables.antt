-- The laws of the table of blocks: what an entry tells, that only a few pages can meet a range, that the table tells of the chain, one block more, and the
-- rule of a kind where one of its tests falls away. Assumes nothing.
use Prim.Native.Nat.{ℕ, zero, suc, ◌+◌, ◌-◌, ◌/◌, ◌≤◌, ◌<◌}
use mathlib.Core.Bool.{Bool, true, false, ◌||◌}
use mathlib.Core.Path.{◌≡◌, refl, sym, ap, ◌∙◌, fun_ext}
use mathlib.Core.Logic.{⊎_elim}
use mathlib.Core.List.{List, [], ◌∷◌}
use borrow.Author.Count.{below_none, below_more}
use borrow.Author.Tests.{ltb-true, ltb-false, eq-eqb, ne_eqb}
use native.Mathlib.Nat.{lt_of_not-le}
use Rattle.std.specs.Bool.{MatchBool}
use Rattle.std.specs.List.{range_with_len, AllWithin, HoldsAt}
use Rattle.std.proofs.lemmas.List.FromFn.{length-range_with_len, get_or-range_with_len}
use Rattle.numbers.proofs.Coordinates.{lt-or-ge}
use native.Mathlib.Decide.{ℕ_discrete}
use native.Mathlib.Omega.{arith}
use lib.Dec.{ltb}
use lib.ListN.{get_or, set, length, get_or-eq_default, replicate}
use lib.Seq.{get_or-set_same, get_or-set_other}
use Rattle.numbers.specs.Ranges.{share}
use Rattle.numbers.specs.Below.{any}
use Rattle.numbers.proofs.Below.{any_at, any_none, any_false, any-true, never}
use Rattle.numbers.proofs.Ranges.{share-before, share-after, share-empty, share-comm, share-no}
use Rattle.chain.specs.declared.Kind.{Kind}
use Rattle.chain.specs.Chains.{block, meets_block}
use Rattle.chain.specs.Tables.{Empty, Placed, Table, starts_of, entry_meets, table_meets, ends_meet, keeps_off, kind_rule, Ready}
use Rattle.chain.proofs.Pigeon.{div-lt, div-near}

-- ---- an entry

module _ (n : ℕ) (t : List ℕ) (p len : ℕ) where
  pub entry-empty : (b : ℕ) → get_or t b 0 ≡ 0 → entry_meets n t p len b ≡ false
  unfolding entry_meets
  entry-empty b e = rw (eq-eqb (get_or t b 0) 0 e)

  pub entry-full : (b : ℕ) → (get_or t b 0 ≡ 0 → ⊥) → entry_meets n t p len b ≡ share (get_or t b 0) n p len
  unfolding entry_meets
  entry-full b e = rw (ne_eqb (get_or t b 0) 0 e)

  -- by whether the entry is 0
  pub entry_case : (b : ℕ) → ((get_or t b 0 ≡ 0 → ⊥) → share (get_or t b 0) n p len ≡ false) → entry_meets n t p len b ≡ false
  entry_case b h = elim (ℕ_discrete (get_or t b 0) 0) [ yes e ↦ entry-empty b e | no e ↦ entry-full b e ∙ h e ]

  -- a block that starts in a page too low or too high does not meet the range
  entry-below : {w : ℕ} → Placed w t → 0 < w → (b : ℕ) → b ≤ (p - n) / w → n ≤ p → entry_meets n t p len b ≡ false
  entry-below {w} h z b l g =
      entry_case b
      (λ e.
      let o = h.own b e in
      let d = div-lt (get_or t b 0) (p - n) w z (omega arith) in
      share-before (get_or t b 0) n p len (omega arith))

  entry-above : {w : ℕ} → Placed w t → 0 < w → 0 < len → (b : ℕ) → (p + len - 1) / w + 1 < b → entry_meets n t p len b ≡ false
  entry-above {w} h z y b l =
      entry_case b
      (λ e.
      let o = h.own b e in
      let d = div-lt (p + len - 1) (get_or t b 0) w z (omega arith) in
      share-after (get_or t b 0) n p len (omega arith))

  -- ---- what a scan of the pages in which a block can start tells of the whole table

  pub scan-low : {w : ℕ} → Placed w t → 0 < w → n ≤ p → (k : ℕ) → k < (p - n) / w + 1 → entry_meets n t p len k ≡ false
  scan-low h z g k l = entry-below h z k (omega arith) g

  pub scan-end : {w : ℕ} → Placed w t → 0 < w → 0 < len → (b : ℕ) → (p + len - 1) / w + 1 < b → ((k : ℕ) → k < b → entry_meets n t p len k ≡ false) → table_meets n t p len ≡ false
  unfolding table_meets
  scan-end h z y b l seen = any_none (entry_meets n t p len) (length t) (λ k g. go k (ltb k b) refl)
    where
      go : (k : ℕ) (c : Bool) → ltb k b ≡ c → entry_meets n t p len k ≡ false
      go k true e = seen k (ltb-true k b e)
      go k false e = entry-above h z y k (omega (arith, ltb-false k b e))

  pub scan-hit : (b : ℕ) → entry_meets n t p len b ≡ true → table_meets n t p len ≡ true
  unfolding table_meets
  scan-hit b e =
      any_at (entry_meets n t p len) (length t)
      (lt_of_not-le (λ k. never (sym e ∙ entry-empty b (get_or-eq_default t 0 k)))) e

  -- the same by the answer of a scan of n pages from a on
  pub scan-is : {w : ℕ} (a n' : ℕ) (r : Bool) → Placed w t → 0 < w → 0 < len → (p + len - 1) / w + 1 < a + n' → ((k : ℕ) → k < a → entry_meets n t p len k ≡ false) → MatchBool r ((k : ℕ) × (k < length (range_with_len a n')) × HoldsAt (λ b. entry_meets n t p len b ≡ true) (range_with_len a n') k) (AllWithin (λ b. entry_meets n t p len b ≡ false) (range_with_len a n') 0 (length (range_with_len a n'))) → r ≡ table_meets n t p len
  scan-is a n' true h z y l low (k, g, e) = sym (scan-hit (get_or (range_with_len a n') k 0) (e 0))
  scan-is a n' false h z y l low e =
      sym
      (scan-end h z y (a + n') l
      (λ k g.
      ⊎_elim (low k)
      (λ f.
      let i : a + (k - a) ≡ k = omega arith in
      rw (get_or-range_with_len a n' (k - a) 0 (omega arith), i) at (e (k - a) 0 (omega arith) (omega (arith, length-range_with_len a n'))))
      (lt-or-ge k a)))

-- ---- an empty table

-- a table as a function makes it, `[0; n]`
pub zeros : (n : ℕ) → Empty (replicate n 0)
zeros zero b = refl
zeros (suc n) zero = refl
zeros (suc n) (suc b) = zeros n b

-- each entry of an empty table stands at its own page, whatever the page's size, and none meets a range
pub empty-placed : (w : ℕ) {t : List ℕ} → Empty t → Placed w t
empty-placed w e = record { own = λ b h. absurd (h (e b)) }

pub empty-meets : (n : ℕ) (t : List ℕ) → Empty t → (p len : ℕ) → table_meets n t p len ≡ false
unfolding table_meets
empty-meets n t e p len = any_none (entry_meets n t p len) (length t) (λ b l. entry-empty n t p len b (e b))

-- the starts of an empty table are none
pub starts-at : (n : ℕ) (t : List ℕ) (b : ℕ) → get_or (starts_of n t) b 0 ≡ get_or t b 0 - n
unfolding starts_of
starts-at n [] b = omega arith
starts-at n (e ∷ t) zero = refl
starts-at n (e ∷ t) (suc b) = starts-at n t b

pub starts-empty : (n : ℕ) (t : List ℕ) → Empty t → Empty (starts_of n t)
starts-empty n t e b = omega (arith, starts-at n t b, e b)

pub table_none : (h w : ℕ) (m : List ℕ) {t : List ℕ} → Empty t → Table h w m 0 t
table_none h w m {t} e =
    record {
      real = below_none (λ (i : ℕ). block h m i ≡ 0 → ⊥);
      sound = λ b z. absurd (z (e b));
      whole = below_none (λ (i : ℕ). get_or t (block h m i / w + 1) 0 ≡ block h m i);
    }

-- ---- the table and the chain

module _ {h w : ℕ} {m : List ℕ} {k : ℕ} {t : List ℕ} (v : Table h w m k t) where
  -- a block's page is one of the table's
  in_table : (i : ℕ) → i < k → block h m i / w + 1 < length t
  in_table i l = lt_of_not-le (λ g. v.real i l (sym (v.whole i l) ∙ get_or-eq_default t 0 g))

  -- the table tells of the chain, whatever the bytes of a block
  pub table_meets_lem : (n p len : ℕ) → table_meets n t p len ≡ meets_block h n m k p len
  unfolding table_meets meets_block
  table_meets_lem n p len = go (any (λ i. share (block h m i) n p len) k) refl
    where
      go : (b : Bool) → any (λ i. share (block h m i) n p len) k ≡ b → any (entry_meets n t p len) (length t) ≡ b
      go true e =
          let s = any-true (λ i. share (block h m i) n p len) k e in
          let q = v.whole s.0 s.1 in
          any_at (entry_meets n t p len) {i = block h m s.0 / w + 1} (length t) (in_table s.0 s.1)
          (entry-full n t p len (block h m s.0 / w + 1) (λ z. v.real s.0 s.1 (sym q ∙ z)) ∙ rw q s.2)
      go false e =
          any_none (entry_meets n t p len) (length t)
          (λ b l. entry_case n t p len b (λ z. let s = v.sound b z in rw s.2 (any_false (λ i. share (block h m i) n p len) k e s.0 s.1)))

-- one block more, which no entry meets, stored at its page
module _ {h n w : ℕ} {m : List ℕ} {k : ℕ} {t : List ℕ} (v : Table h w m k t) (z : 0 < w) (narrow : w ≤ n) (fits : block h m k / w + 1 < length t) (some : block h m k ≡ 0 → ⊥) (free : meets_block h n m k (block h m k) n ≡ false) where
  q : ℕ
  q = block h m k / w + 1

  t' : List ℕ
  t' = set t (block h m k / w + 1) (block h m k)

  at-q : get_or t' q 0 ≡ block h m k
  unfolding q t'
  at-q = get_or-set_same t (block h m k / w + 1) (block h m k) 0 fits

  off-q : (b : ℕ) → (b ≡ q → ⊥) → get_or t' b 0 ≡ get_or t b 0
  unfolding q t'
  off-q b ne = get_or-set_other t (block h m k / w + 1) b (block h m k) 0 ne

  -- no earlier block starts in the new one's page
  other : (i : ℕ) → i < k → block h m i / w + 1 ≡ q → ⊥
  unfolding q meets_block
  other i l e =
      let s : block h m i / w ≡ block h m k / w = omega arith in
      share-no (any_false (λ i. share (block h m i) n (block h m k) n) k free i l) (omega arith) (omega arith)
      (omega (arith, div-near (block h m i) (block h m k) w z s))
      (omega (arith, div-near (block h m k) (block h m i) w z (sym s)))

  pub placed-more : Placed w t → Placed w (set t (block h m k / w + 1) (block h m k))
  unfolding t'
  placed-more p =
      record {
        own = λ b ne.
            elim (ℕ_discrete b q) [
              | yes e ↦ (unfold q in rw (e, at-q))
              | no e ↦ rw (off-q b e) (p.own b (λ g. ne (off-q b e ∙ g)))
            ];
      }

  sound' : (b : ℕ) → (get_or t' b 0 ≡ 0 → ⊥) → (i : ℕ) × (i < k + 1) × (get_or t' b 0 ≡ block h m i)
  sound' b ne =
      elim (ℕ_discrete b q) [
        | yes e ↦ (k, omega arith, rw (e, at-q))
        | no e ↦ let s = v.sound b (λ g. ne (off-q b e ∙ g)) in (s.0, omega arith, off-q b e ∙ s.2)
      ]

  pub table_more : Table h w m (k + 1) (set t (block h m k / w + 1) (block h m k))
  unfolding t'
  table_more =
      record {
        real = below_more (λ (i : ℕ). block h m i ≡ 0 → ⊥) k v.real some;
        sound = sound';
        whole = below_more (λ (i : ℕ). get_or t' (block h m i / w + 1) 0 ≡ block h m i) k (λ i l. off-q (block h m i / w + 1) (other i l) ∙ v.whole i l) (unfold q in at-q);
      }

-- ---- kinds

-- what a walk needs does not hang on what its own table holds
pub ready-same : {k : Kind} {used : ℕ} {other t t' : List ℕ} → length t' ≡ length t → Ready k used other t → Ready k used other t'
ready-same e r =
    record {
      bounds = r.bounds;
      least = r.least;
      head_in = r.head_in;
      page-least = r.page-least;
      page-most = r.page-most;
      wide = rw e r.wide;
    }

or-false : (b : Bool) → b || false ≡ b
or-false true = refl
or-false false = refl

module _ (k : Kind) (other : List ℕ) where
  -- a kind as a rule, from its test
  rule-from : (f : ℕ → Bool) → ((p : ℕ) → keeps_off k other p ≡ f p) → kind_rule k other ≡ record { head = k.head; size = k.size; taboo = f }
  rule-from f e = ap (λ (g : ℕ → Bool). record { head = k.head; size = k.size; taboo = g }) (fun_ext e)

  -- where the other table is empty, the two ranges are left
  pub rule-ranges : Empty other → kind_rule k other ≡ record { head = k.head; size = k.size; taboo = λ p. share k.first.at k.first.size p k.size || share k.second.at k.second.size p k.size }
  unfolding keeps_off
  rule-ranges e =
      rule-from (λ p. share k.first.at k.first.size p k.size || share k.second.at k.second.size p k.size)
      (λ p. rw (empty-meets k.other_size (starts_of k.other_size other) (starts-empty k.other_size other e) p k.size, or-false (share k.second.at k.second.size p k.size)))

  -- where the two ranges are empty, the other table is left
  no-range : (a p : ℕ) {s : ℕ} → s ≡ 0 → share a s p k.size ≡ false
  no-range a p e = rw (e, share-comm a 0 p k.size) (share-empty p k.size a)

  pub rule-other : k.first.size ≡ 0 → k.second.size ≡ 0 → kind_rule k other ≡ record { head = k.head; size = k.size; taboo = λ p. ends_meet k.other_size other p k.size }
  unfolding keeps_off
  rule-other e f =
      rule-from (λ p. ends_meet k.other_size other p k.size)
      (λ p. rw (no-range k.first.at p e, no-range k.second.at p f))

  -- and where that is empty too, nothing
  pub rule-none : k.first.size ≡ 0 → k.second.size ≡ 0 → Empty other → kind_rule k other ≡ record { head = k.head; size = k.size; taboo = λ p. false }
  unfolding keeps_off
  rule-none e f g =
      rule-from (λ p. false)
      (λ p. rw (no-range k.first.at p e, no-range k.second.at p f) (empty-meets k.other_size (starts_of k.other_size other) (starts-empty k.other_size other g) p k.size))
