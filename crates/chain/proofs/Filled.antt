-- The laws of a filled table: an empty table is one, it is one for every earlier end, and the last block which starts before a range's end tells whether any
-- meets the range. They go by the starts that a table of ends tells. Assumes nothing.
use Prim.Native.Nat.{ℕ, ◌+◌, ◌-◌, ◌*◌, ◌/◌, ◌≤◌, ◌<◌, min, max}
use mathlib.Core.Bool.{Bool, true, false, cond}
use mathlib.Core.Path.{◌≡◌, refl, sym, ap, ◌∙◌}
use mathlib.Core.List.{List}
use borrow.Author.Tests.{ltb-true, ltb-false, lt-ltb, le-ltb}
use native.Mathlib.Nat.{div-add-mod', mod-lt, add-mul, one-mul}
use native.Mathlib.Decide.{ℕ_discrete}
use native.Mathlib.Omega.{arith}
use lib.Dec.{ltb}
use lib.ListN.{get_or, length}
use Rattle.numbers.specs.Ranges.{share}
use Rattle.numbers.proofs.Below.{any_none}
use Rattle.numbers.proofs.Ranges.{share-before, share-after}
use Rattle.chain.specs.Tables.{Empty, starts_of, LastStarts, Filled, entry_meets, table_meets, ends_meet, Bounds}
use Rattle.chain.specs.declared.Kind.{Kind}
use Rattle.chain.proofs.Pigeon.{div_mono, div_below}
use Rattle.chain.proofs.Tables.{entry-full, entry_case, scan-hit, starts-at, starts-empty}

-- ---- a filled table

pub empty-filled : (n w end : ℕ) {t : List ℕ} → Empty t → Filled n w end t
empty-filled n w end {t} e =
    let f = starts-empty n t e in
    record {
      past = λ b ne. absurd (ne (e b));
      starts = record { home = λ b ne. absurd (ne (f b)); last = λ b c l ne. absurd (ne (f c)) };
    }

pub filled-less : {n w end less : ℕ} {t : List ℕ} → less ≤ end → Filled n w end t → Filled n w less t
filled-less l f = record { past = f.past; starts = record { home = f.starts.home; last = λ b c h. f.starts.last b c (omega arith) } }

-- what the test of a kind needs, for a block that ends earlier
pub bounds-less : {k : Kind} {end less : ℕ} {other : List ℕ} → less ≤ end → Bounds k end other → Bounds k less other
bounds-less l b =
    record {
      most = omega (arith, b.most);
      block-least = b.block-least;
      block-most = b.block-most;
      other-least = b.other-least;
      other-most = b.other-most;
      other-page = b.other-page;
      other-wide = omega (arith, b.other-wide);
      other-filled = filled-less l b.other-filled;
    }

-- the last block that starts before `end`, or 0
unfoldable last_before : ℕ → List ℕ → ℕ → ℕ
last_before w t end =
    cond (ltb (get_or t ((end - 1) / w + 1) 0) end) (get_or t ((end - 1) / w + 1) 0) (get_or t ((end - 1) / w) 0)

module _ {w end : ℕ} {t : List ℕ} (f : LastStarts w end t) (z : 0 < w) (y : 0 < end) where
  q : ℕ
  q = (end - 1) / w

  low : q * w < end
  unfolding q
  low = omega (arith, div-add-mod' (end - 1) w, mod-lt (end - 1) z)

  before_here : get_or t (q + 1) 0 < end → last_before w t end ≡ get_or t (q + 1) 0
  unfolding last_before q
  before_here l = rw (lt-ltb (get_or t ((end - 1) / w + 1) 0) end l)

  before-there : end ≤ get_or t (q + 1) 0 → last_before w t end ≡ get_or t q 0
  unfolding last_before q
  before-there l = rw (le-ltb (get_or t ((end - 1) / w + 1) 0) end l)

  -- the last block that starts before the end does so, and is an entry
  record Last (x : ℕ) : Type 0 where
    pub at : ℕ
    pub is : x ≡ get_or t at 0
    pub starts : x < end
    pub most : (c : ℕ) → (get_or t c 0 ≡ 0 → ⊥) → get_or t c 0 < end → get_or t c 0 ≤ x

  page-of : (c : ℕ) → get_or t c 0 < end → get_or t c 0 / w ≤ q
  unfolding q
  page-of c l = div_mono w z (omega arith)

  here : get_or t (q + 1) 0 < end → Last (get_or t (q + 1) 0)
  here l =
      record {
        at = q + 1;
        is = refl;
        starts = l;
        most = λ c ne g. f.last (q + 1) c (rw (add-mul, one-mul) (omega (arith, low))) ne (omega (arith, page-of c g));
      }

  there : end ≤ get_or t (q + 1) 0 → Last (get_or t q 0)
  there l =
      record {
        at = q;
        is = refl;
        starts = elim (ℕ_discrete (get_or t q 0) 0) [
          | yes e ↦ omega arith
          | no e ↦ let h = (f.home q e).0 in omega (arith, low, div_below (get_or t q 0) q w z (omega arith))
        ];
        most = λ c ne g. f.last q c (omega (arith, low)) ne (not-here c ne g (page-of c g));
      }
    where
      -- were it in the page of the end, it would be the entry there, which starts too late
      not-here : (c : ℕ) → (get_or t c 0 ≡ 0 → ⊥) → get_or t c 0 < end → get_or t c 0 / w ≤ q → get_or t c 0 / w + 1 ≤ q
      not-here c ne g h =
          elim (ℕ_discrete (get_or t c 0 / w) q) [
            | yes e ↦ absurd (omega (arith, l, g, (f.home c ne).1, ap (λ (x : ℕ). get_or t (x + 1) 0) e))
            | no e ↦ omega arith
          ]

  last-before : Last (last_before w t end)
  last-before = go (ltb (get_or t (q + 1) 0) end) refl
    where
      go : (b : Bool) → ltb (get_or t (q + 1) 0) end ≡ b → Last (last_before w t end)
      go true e = let l = ltb-true (get_or t (q + 1) 0) end e in rw (before_here l) (here l)
      go false e = let l = ltb-false (get_or t (q + 1) 0) end e in rw (before-there l) (there l)

-- it settles whether a block meets a range that ends there
module _ {w : ℕ} {t : List ℕ} (n p len : ℕ) (f : LastStarts w (p + len) t) (z : 0 < w) (x : 0 < n) (y : 0 < len) where
  v : Last f z (omega arith) (last_before w t (p + len))
  v = last-before f z (omega arith)

  -- none meets it, if none that starts before its end reaches it
  unmet : ((c : ℕ) → (get_or t c 0 ≡ 0 → ⊥) → get_or t c 0 < p + len → get_or t c 0 + n ≤ p) → table_meets n t p len ≡ false
  unfolding table_meets
  unmet h =
      any_none (entry_meets n t p len) (length t)
      (λ c l. entry_case n t p len c (λ ne. go c ne (ltb (get_or t c 0) (p + len)) refl))
    where
      go : (c : ℕ) → (get_or t c 0 ≡ 0 → ⊥) → (b : Bool) → ltb (get_or t c 0) (p + len) ≡ b → share (get_or t c 0) n p len ≡ false
      go c ne true e = share-before (get_or t c 0) n p len (h c ne (ltb-true (get_or t c 0) (p + len) e))
      go c ne false e = share-after (get_or t c 0) n p len (ltb-false (get_or t c 0) (p + len) e)

  -- one that starts before its end and reaches it meets it
  reaches : (s : ℕ) → s < p + len → p < s + n → share s n p len ≡ true
  unfolding share
  reaches s l h = lt-ltb (max s p) (min (s + n) (p + len)) (omega arith)

  meets-none : last_before w t (p + len) ≡ 0 → table_meets n t p len ≡ false
  meets-none e = unmet (λ c ne l. absurd (ne (omega (arith, v.most c ne l))))

  meets-last : (last_before w t (p + len) ≡ 0 → ⊥) → table_meets n t p len ≡ ltb p (last_before w t (p + len) + n)
  meets-last ne = go (ltb p (last_before w t (p + len) + n)) refl
    where
      go : (b : Bool) → ltb p (last_before w t (p + len) + n) ≡ b → table_meets n t p len ≡ b
      go true e =
          scan-hit n t p len v.at
          (entry-full n t p len v.at (λ g. ne (v.is ∙ g)) ∙ rw (← v.is) (reaches (last_before w t (p + len)) v.starts (ltb-true p (last_before w t (p + len) + n) e)))
      go false e =
          let l = ltb-false p (last_before w t (p + len) + n) e in
          unmet (λ c nc g. omega (arith, l, v.most c nc g))

-- ---- the end of that block: by a filled table, the end of the last block that starts before `end`, or 0

unfoldable pub last_end : ℕ → ℕ → List ℕ → ℕ → ℕ
last_end n w t end =
    cond (ltb (get_or t ((end - 1) / w + 1) 0) (end + n)) (get_or t ((end - 1) / w + 1) 0) (get_or t ((end - 1) / w) 0)

module _ (n w : ℕ) (t : List ℕ) (end : ℕ) where
  -- it ends where the last start tells
  end-of-last : 0 < end → last_end n w t end - n ≡ last_before w (starts_of n t) end
  unfolding last_end last_before
  end-of-last y = go (ltb (get_or t ((end - 1) / w + 1) 0) (end + n)) refl
    where
      i : get_or (starts_of n t) ((end - 1) / w + 1) 0 ≡ get_or t ((end - 1) / w + 1) 0 - n
      i = starts-at n t ((end - 1) / w + 1)

      go : (b : Bool) → ltb (get_or t ((end - 1) / w + 1) 0) (end + n) ≡ b → last_end n w t end - n ≡ last_before w (starts_of n t) end
      go true e =
          let l = ltb-true (get_or t ((end - 1) / w + 1) 0) (end + n) e in
          rw (e, lt-ltb (get_or (starts_of n t) ((end - 1) / w + 1) 0) end (omega (arith, i))) (sym i)
      go false e =
          let l = ltb-false (get_or t ((end - 1) / w + 1) 0) (end + n) e in
          rw (e, le-ltb (get_or (starts_of n t) ((end - 1) / w + 1) 0) end (omega (arith, i))) (sym (starts-at n t ((end - 1) / w)))

  end-is-past : ((b : ℕ) → (get_or t b 0 ≡ 0 → ⊥) → n < get_or t b 0) → (last_end n w t end ≡ 0 → ⊥) → n < last_end n w t end
  unfolding last_end
  end-is-past past ne = go (ltb (get_or t ((end - 1) / w + 1) 0) (end + n)) refl
    where
      go : (b : Bool) → ltb (get_or t ((end - 1) / w + 1) 0) (end + n) ≡ b → n < last_end n w t end
      go true e = let i : last_end n w t end ≡ get_or t ((end - 1) / w + 1) 0 = rw e in rw i (past ((end - 1) / w + 1) (λ g. ne (i ∙ g)))
      go false e = let i : last_end n w t end ≡ get_or t ((end - 1) / w) 0 = rw e in rw i (past ((end - 1) / w) (λ g. ne (i ∙ g)))

pub meets-end : {w : ℕ} {t : List ℕ} (n p len : ℕ) → Filled n w (p + len) t → 0 < w → 0 < n → 0 < len → ends_meet n t p len ≡ ltb p (last_end n w t (p + len))
meets-end {w} {t} n p len f z x y =
    let i = end-of-last n w t (p + len) (omega arith) in
    elim (ℕ_discrete (last_end n w t (p + len)) 0) [
      | yes e ↦ meets-none n p len f.starts z x y (omega arith) ∙ sym (le-ltb p (last_end n w t (p + len)) (omega arith))
      | no e ↦
          let l = end-is-past n w t (p + len) f.past e in
          let j : last_before w (starts_of n t) (p + len) + n ≡ last_end n w t (p + len) = omega arith in
          meets-last n p len f.starts z x y (λ g. omega arith) ∙ ap (ltb p) j
    ]
