-- Ranges, parts and chains by the conditions of specs/Meets and by the tests: where one says yes, the other does. Assumes nothing.
use Rattle.std.specs.Prelude.{Ok}
use Prim.Native.Nat.{ℕ, ◌+◌, ◌<◌, min, max}
use mathlib.Core.Bool.{Bool, true, false, ◌||◌}
use mathlib.Core.Path.{◌≡◌, refl, sym, ◌∙◌}
use mathlib.Core.Logic.{◌↔◌}
use mathlib.Core.List.{List}
use native.Mathlib.Omega.{arith}
use lib.Dec.{eqb, ltb}
use lib.ListN.{length, get_or}
use borrow.Author.Tests.{ltb-true, eq-eqb, ne_eqb}
use Rattle.numbers.specs.Ranges.{share}
use Rattle.numbers.proofs.Below.{never, any_none, any_false}
use Rattle.numbers.proofs.Ranges.{share-no, share-comm, within-true, within-is}
use Rattle.records.specs.declared.Part.{Part}
use Rattle.chain.specs.Chains.{Rule, block, meets_block, inside, walked, Links, blocks_of}
use Rattle.chain.proofs.Chains.{Pass, walked-pass, disjoint}
use Rattle.chain.proofs.AsList.{length-blocks_of, walked-links, links-block}
use Rattle.judge.specs.Judging.{part_good}
use Rattle.accept.specs.Meets.{Inside, Apart, Off, Present, Chain}

-- ---- ranges

pub apart_of : (a n b k : ℕ) → share a n b k ≡ false → Apart a n b k
apart_of a n b k e x l h i j = share-no {a = a} {n = n} {b = b} {k = k} e (omega arith) (omega arith) (omega arith) (omega arith)

pub share-of : (a n b k : ℕ) → Apart a n b k → share a n b k ≡ false
unfolding share
share-of a n b k h = go (ltb (max a b) (min (a + n) (b + k))) refl
  where
    go : (t : Bool) → ltb (max a b) (min (a + n) (b + k)) ≡ t → t ≡ false
    go false e = refl
    go true e =
        let l = ltb-true (max a b) (min (a + n) (b + k)) e in
        absurd (h (max a b) (omega arith) (omega arith) (omega arith) (omega arith))

pub inside_of : (used p n : ℕ) → (inside used n p ≡ true) ↔ Inside used p n
inside_of used p n =
    (λ e. let i = within-true 48 used n p e in record { low = i.0; high = i.1 }, λ i. within-is 48 used n p i.low i.high)

-- ---- setup and info

pub present-of : (used : ℕ) (p : Part) → (part_good used p ≡ true) ↔ Present used p
unfolding part_good
present-of used p = (λ e ne. (inside_of used p.at p.size).0 (rw (ne_eqb p.size 0 ne) at e), λ h. go h (eqb p.size 0) refl)
  where
    go : Present used p → (t : Bool) → eqb p.size 0 ≡ t → t || inside used p.size p.at ≡ true
    go h true e = refl
    go h false e = (inside_of used p.at p.size).1 (h (λ z. never (sym (eq-eqb p.size 0 z) ∙ e)))

-- what an index block at b keeps off
pub keeps-off : (b n : ℕ) (p : Part) → (share p.at p.size b n ≡ false) ↔ Apart b n p.at p.size
keeps-off b n p = (
  λ e. apart_of b n p.at p.size (share-comm b n p.at p.size ∙ e),
  λ o. share-comm p.at p.size b n ∙ share-of b n p.at p.size o,
)

-- ---- a chain as a list

module _ {m : List ℕ} {h : ℕ} {bs : List ℕ} (ls : Links m h bs) (n p k : ℕ) where
  pub off_of : meets_block h n m (length bs) p k ≡ false → Off bs n p k
  unfolding meets_block
  off_of e i l =
      rw (links-block ls i l) (apart_of (block h m i) n p k (any_false (λ i. share (block h m i) n p k) (length bs) e i l))

  pub meets-of : Off bs n p k → meets_block h n m (length bs) p k ≡ false
  unfolding meets_block
  meets-of o =
      any_none (λ i. share (block h m i) n p k) (length bs) (λ i l. share-of (block h m i) n p k (rw (links-block ls i l) at (o i l)))

module _ (r : Rule) {m : List ℕ} {used : ℕ} {bs : List ℕ} where
  pub chain-of : Links m r.head bs → Pass r m used (length bs) → Chain m used r.head r.size bs
  chain-of ls h =
      record {
        links = ls;
        lies = λ k l. rw (links-block ls k l) (record { low = (h.lies k l).low; high = (h.lies k l).high });
        apart = λ i k l j.
            rw (links-block ls i (omega arith), links-block ls k j)
            (apart_of (block r.head m i) r.size (block r.head m k) r.size (disjoint h i k (omega arith) j (λ e. omega arith)));
      }

  pub pass_of : Chain m used r.head r.size bs → ((k : ℕ) → k < length bs → r.taboo (get_or bs k 0) ≡ false) → Pass r m used (length bs)
  unfolding meets_block
  pass_of c t =
      record {
        lies = λ k l.
            let e = links-block c.links k l in
            record {
              low = rw e at (c.lies k l).low;
              high = rw e at (c.lies k l).high;
              allowed = rw e at (t k l);
              free = any_none (λ i. share (block r.head m i) r.size (block r.head m k) r.size) k
                  (λ i j.
                  share-of (block r.head m i) r.size (block r.head m k) r.size
                  (rw (links-block c.links i (omega arith), e) at (c.apart i k j l)));
            };
      }

-- what a walk to the end gives
pub walk-list : (r : Rule) (m : List ℕ) (used n : ℕ) → walked r m used ≡ Ok n
    → (bs : List ℕ) × (length bs ≡ n) × Links m r.head bs × Pass r m used (length bs)
walk-list r m used n e =
    let z = length-blocks_of r.head m n in
    (blocks_of r.head m n, z, walked-links r m used e, rw z (walked-pass r m used e))
