-- The invariant of a walk: link n stands at `at`, the n links before it pass, and the table has their blocks. Its start, its turn and its two ends, for every
-- kind of chain. A turn leaves one block fewer that there can be, so a walk ends with no argument about cycles. Assumes nothing.
use Prim.Native.Nat.{ℕ, ◌+◌, ◌-◌, ◌*◌, ◌/◌, ◌≤◌, ◌<◌}
use mathlib.Core.Bool.{Bool, true, false, not, ◌&&◌, ◌||◌}
use mathlib.Core.Path.{◌≡◌, refl, sym, ap, ◌∙◌}
use mathlib.Core.List.{List}
use native.Mathlib.Nat.{div-le_self}
use native.Mathlib.Omega.{arith}
use lib.ListN.{set, length}
use Rattle.numbers.specs.Bytes.{u32_at}
use Rattle.numbers.proofs.Ranges.{within-is, within_low, within-high}
use Rattle.records.specs.Sizes.{header_size}
use Rattle.std.specs.Prelude.{Ok, Err}
use Rattle.chain.specs.Chains.{Rule, place, block, inside, meets_block, bad_link, taken, walked}
use Rattle.chain.specs.Tables.{Placed, Table, Empty, table_meets, good_block}
use Rattle.chain.proofs.Pigeon.{page-in}
use Rattle.chain.proofs.Tables.{empty-placed, table_meets_lem, table_none, placed-more, table_more}
use Rattle.chain.proofs.Chains.{Pass, pass-none, pass-more, few, good-link, place-more, block_at, stops-bad, stops-zero, taken_is, walked-blocks, walked-fault, walked-taken}

-- the test by the table, in its cases, as the code goes through them
module _ (r : Rule) (t : List ℕ) (used p : ℕ) where
  pub good-low : p < header_size → good_block r t used p ≡ false
  unfolding good_block
  good-low h = rw (within_low header_size used r.size p h)

  pub good-high : used < p + r.size → good_block r t used p ≡ false
  unfolding good_block
  good-high h = rw (within-high header_size used r.size p h)

  pub good-taboo : header_size ≤ p → p + r.size ≤ used → r.taboo p ≡ true → good_block r t used p ≡ false
  unfolding good_block
  good-taboo h l e = rw (within-is header_size used r.size p h l, e)

  pub good-is : header_size ≤ p → p + r.size ≤ used → r.taboo p ≡ false → good_block r t used p ≡ not (table_meets r.size t p r.size)
  unfolding good_block
  good-is h l e = rw (within-is header_size used r.size p h l, e)

pub record Walking (r : Rule) (w : ℕ) (m : List ℕ) (used : ℕ) (t : List ℕ) (n at : ℕ) : Type 0 where
  pub link : at ≡ place r.head m n
  pub room : at + 4 ≤ used
  pub pass : Pass r m used n
  pub placed : Placed w t
  pub table : Table r.head w m n t

pub walk_start : (r : Rule) (w : ℕ) (m : List ℕ) (used : ℕ) (t : List ℕ) → r.head + 4 ≤ used → Empty t → Walking r w m used t 0 r.head
unfolding place
walk_start r w m used t l e =
    record { link = refl; room = l; pass = pass-none r m used; placed = empty-placed w e; table = table_none r.head w m e }

opposite : (a b c : Bool) → not a || b || c ≡ not (a && not b && not c)
opposite true true c = refl
opposite true false true = refl
opposite true false false = refl
opposite false b c = refl

-- a link whose block, p, is tested by the table
module _ {r : Rule} {page : ℕ} {m : List ℕ} {used : ℕ} {t : List ℕ} {n at : ℕ} (w : Walking r page m used t n at) {p : ℕ} (e : p ≡ u32_at m at) where
  is : p ≡ block r.head m n
  is = e ∙ block_at r.head m n w.link

  -- the table's test is the chain's
  bad-is : bad_link r m used n ≡ not (good_block r t used p)
  unfolding bad_link good_block
  bad-is =
      let b : ℕ = block r.head m n in
      rw (is, table_meets_lem w.table r.size b r.size) (opposite (inside used r.size b) (r.taboo b) (meets_block r.head r.size m n b r.size))

  -- what the turn that takes the block needs
  pub record On : Type 0 where
    pub fits : p / page + 1 < length t
    pub less : n + 1 ≤ (used - header_size) / r.size
    pub count : n + 1 ≤ used
    pub next : Walking r page m used (set t (p / page + 1) p) (n + 1) p

  pub walk-on : 4 ≤ r.size → 0 < page → page ≤ r.size → used + page ≤ length t * page → (p ≡ 0 → ⊥) → {g : Bool} → g ≡ good_block r t used p → g ≡ true → On
  walk-on four z narrow wide some f g =
      let k = good-link r m used n (bad-is ∙ ap not (sym f ∙ g)) in
      let ps = pass-more w.pass k in
      let l = few ps (omega arith) in
      let f : block r.head m n / page + 1 < length t = page-in page (block r.head m n) (length t) z (omega (arith, k.high)) in
      record {
        fits = rw is f;
        less = l;
        count = omega (arith, div-le_self (used - header_size) r.size);
        next = record {
          link = is ∙ sym (place-more r.head m n);
          room = omega (arith, is, k.high);
          pass = ps;
          placed = rw is (placed-more w.table z narrow f (λ z. some (is ∙ z)) k.free w.placed);
          table = rw is (table_more w.table z narrow f (λ z. some (is ∙ z)) k.free);
        };
      }

  -- the two ends, with the number of blocks
  pub walk_end : 4 ≤ r.size → p ≡ 0 → (Ok n ≡ walked r m used) × Placed page t × Table r.head page m (taken r m used) t
  walk_end four none =
      let b : block r.head m n ≡ 0 = sym is ∙ none in
      let k = taken_is r m used (omega arith) w.pass (stops-zero r m used n b) in
      (sym (walked-blocks r m used k b), w.placed, rw k w.table)

  pub walk-fault : 4 ≤ r.size → (p ≡ 0 → ⊥) → {g : Bool} → g ≡ good_block r t used p → g ≡ false → (Err (record { place = at; taken = n }) ≡ walked r m used) × Placed page t × Table r.head page m (taken r m used) t
  walk-fault four some f g =
      let k = taken_is r m used (omega arith) w.pass (stops-bad r m used n (bad-is ∙ ap not (sym f ∙ g))) in
      (sym (walked-fault r m used k (λ o. some (is ∙ o)) ∙ ap (λ (x : ℕ). Err (record { place = x; taken = n })) (sym w.link)), w.placed, rw k w.table)

-- the table that a walk leaves, where it answers a number of blocks
pub table_of : (r : Rule) (m : List ℕ) (used : ℕ) {w n : ℕ} {t : List ℕ} → walked r m used ≡ Ok n → Table r.head w m (taken r m used) t → Table r.head w m n t
table_of r m used e h = rw (walked-taken r m used e) at h
