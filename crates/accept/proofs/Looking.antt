-- The look at one cell after the other, for any test `bad` of a cell's place: the cells of one block, and the blocks of a chain.
--     cells-good, cells-tell            the cells are judged good exactly where none is bad
--     Looking place n bad c             of n cells, no cell before cell c is bad
--     Along r m used w n bad at k       the n blocks pass, their cells have w bytes, link k stands at `at`, and no cell of a block before it is bad
-- Of each its start, a turn and its two ends, for slots and for symbol entries. Assumes nothing.
use Prim.Native.Nat.{ℕ, ◌+◌, ◌-◌, ◌*◌, ◌≤◌, ◌<◌}
use mathlib.Core.Bool.{Bool, true, false, cond}
use mathlib.Core.Path.{◌≡◌, refl, sym, ap, ◌∙◌}
use mathlib.Core.List.{List}
use native.Mathlib.Nat.{div-le_self}
use native.Mathlib.Omega.{arith}
use borrow.Author.Count.{below_none, below_more}
use borrow.Author.Tests.{lt-ltb, le-ltb, ltb-true, ltb-false}
use lib.Dec.{ltb}
use Rattle.numbers.specs.Bytes.{u32_at}
use Rattle.numbers.specs.Below.{first}
use Rattle.numbers.proofs.Below.{First, first-is, first-none, first-law}
use Rattle.records.specs.Sizes.{header_size}
use Rattle.chain.specs.Chains.{Rule, place, block}
use Rattle.chain.specs.Cells.{cell_in, cell_at}
use Rattle.chain.proofs.Chains.{Pass, few, block_at, place-more}
use Rattle.chain.proofs.Cells.{cell-no}
use Rattle.std.specs.Prelude.{Err}
use Rattle.refusals.specs.declared.Refusal.{Refusal}
use Rattle.refusals.specs.Refusals.{good}
use Rattle.accept.specs.Verdicts.{cells_judged}
use Rattle.accept.proofs.Firsts.{first-same, first-after}

module _ (refusal : ℕ → Refusal) (bad : ℕ → Bool) (place : ℕ → ℕ) (n : ℕ) where
  pub cells-good : ((i : ℕ) → i < n → bad i ≡ false) → cells_judged refusal bad place n ≡ good
  unfolding cells_judged
  cells-good h = rw (first-none bad n h, le-ltb n n (omega arith))

  pub cells-tell : cells_judged refusal bad place n ≡ good → (i : ℕ) → i < n → bad i ≡ false
  unfolding cells_judged
  cells-tell e i l = go (ltb (first bad n) n) refl e
    where
      go : (b : Bool) → ltb (first bad n) n ≡ b → cond b (Err (refusal (place (first bad n)))) good ≡ good → bad i ≡ false
      go true f g = let z : ◌≡◌ {A = ℕ} 0 1 = cc in let no_way : ⊥ = omega arith in absurd no_way
      go false f g = (first-law bad n).before i (omega (arith, ltb-false (first bad n) n f))

  -- the first that is bad, and what an answer tells of it
  pub cells-bad : {f : ℕ} → First bad n f → f < n → cells_judged refusal bad place n ≡ Err (refusal (place f))
  unfolding cells_judged
  cells-bad {f} h l = rw (first-is bad n f h.within h.before h.here, lt-ltb f n l)

  pub cells-fault : {e : Refusal} → cells_judged refusal bad place n ≡ Err e → (e ≡ refusal (place (first bad n))) × (first bad n < n)
  unfolding cells_judged
  cells-fault {e} h = go (ltb (first bad n) n) refl h
    where
      go : (b : Bool) → ltb (first bad n) n ≡ b → cond b (Err (refusal (place (first bad n)))) good ≡ Err e → (e ≡ refusal (place (first bad n))) × (first bad n < n)
      go true f g = ((cc), ltb-true (first bad n) n f)
      go false f g = let z : ◌≡◌ {A = ℕ} 0 1 = cc in let no_way : ⊥ = omega arith in absurd no_way

-- ---- the cells of one block

pub record Looking (place : ℕ → ℕ) (n : ℕ) (bad : ℕ → Bool) (c : ℕ) : Type 0 where
  pub upto : c ≤ n
  pub before : (i : ℕ) → i < c → bad (place i) ≡ false

pub look-start : {place : ℕ → ℕ} {n : ℕ} {bad : ℕ → Bool} → Looking place n bad 0
look-start {place} {bad} = record { upto = omega arith; before = below_none (λ (i : ℕ). bad (place i) ≡ false) }

module _ {place : ℕ → ℕ} {n : ℕ} {bad : ℕ → Bool} {c : ℕ} (k : Looking place n bad c) {at : ℕ} (here : at ≡ place c) (l : c < n) {b : Bool} (e : b ≡ bad at) where
  -- a turn: the cell is not bad
  pub look-on : b ≡ false → Looking place n bad (c + 1)
  look-on f =
      record { upto = omega arith; before = below_more (λ (i : ℕ). bad (place i) ≡ false) c k.before (ap bad (sym here) ∙ sym e ∙ f) }

  -- the cell is bad: it is the first
  pub look-bad : b ≡ true → (refusal : ℕ → Refusal) → Err (refusal at) ≡ cells_judged refusal (λ i. bad (place i)) place n
  look-bad f refusal =
      ap (λ p. Err (refusal p)) here
      ∙ sym (cells-bad refusal (λ i. bad (place i)) place n (record { within = k.upto; before = k.before; here = λ g. ap bad (sym here) ∙ sym e ∙ f }) l)

  -- its number is that of the first
  pub look-found : b ≡ true → c ≡ first (λ i. bad (place i)) n
  look-found f = sym (first-is (λ i. bad (place i)) n c k.upto k.before (λ g. ap bad (sym here) ∙ sym e ∙ f))

module _ {place : ℕ → ℕ} {n : ℕ} {bad : ℕ → Bool} {c : ℕ} (k : Looking place n bad c) (l : n ≤ c) where
  -- every cell was looked at
  pub look_none : n ≡ first (λ i. bad (place i)) n
  look_none = sym (first-none (λ i. bad (place i)) n (λ i g. k.before i (omega arith)))

  pub look-good : (refusal : ℕ → Refusal) → good ≡ cells_judged refusal (λ i. bad (place i)) place n
  look-good refusal = sym (cells-good refusal (λ i. bad (place i)) place n (λ i g. k.before i (omega arith)))

-- ---- the blocks of a chain

-- there are no more blocks than bytes
pub pass-few : {r : Rule} {m : List ℕ} {used n : ℕ} → Pass r m used n → 0 < r.size → n ≤ used
pass-few {r} {used} h z = omega (arith, few h z, div-le_self (used - header_size) r.size)

pub record Along (r : Rule) (m : List ℕ) (used w n : ℕ) (bad : ℕ → Bool) (at k : ℕ) : Type 0 where
  pub pass : Pass r m used n
  pub upto : k ≤ n
  pub link : at ≡ place r.head m k
  pub room : at + 4 ≤ used
  pub before : (i : ℕ) → i < 256 * k → bad (cell_at r.head w m i) ≡ false

pub along-start : {r : Rule} {m : List ℕ} {used w n : ℕ} {bad : ℕ → Bool} → Pass r m used n → r.head + 4 ≤ used → Along r m used w n bad r.head 0
unfolding place
along-start {r} {m} {w} {bad} h l =
    record { pass = h; upto = omega arith; link = refl; room = l; before = below_none (λ (i : ℕ). bad (cell_at r.head w m i) ≡ false) }

module _ {r : Rule} {m : List ℕ} {used w n : ℕ} {bad : ℕ → Bool} {at k : ℕ} (v : Along r m used w n bad at k) where
  -- the block that the link points to
  module _ (l : k < n) {p : ℕ} (e : p ≡ u32_at m at) where
    is : p ≡ block r.head m k
    is = e ∙ block_at r.head m k v.link

    pub along-inside : p + r.size ≤ used
    along-inside = omega (arith, is, (v.pass.lies k l).high)

    -- its cells are the chain's
    pub along-cell : (j : ℕ) → j < 256 → cell_at r.head w m (256 * k + j) ≡ cell_in p w j
    along-cell j g = cell-no r.head w m k j g ∙ ap (λ (b : ℕ). cell_in b w j) (sym is)

    same : {f : ℕ} → First (λ j. bad (cell_in p w j)) 256 f → First (λ i. bad (cell_at r.head w m i)) (256 * k + 256) (256 * k + f)
    same h = first-after {p = λ i. bad (cell_at r.head w m i)} v.before (first-same (λ j g. ap bad (along-cell j g)) h)

    -- a turn: no cell of the block is bad
    pub along-on : 4 ≤ r.size → (refusal : ℕ → Refusal) → cells_judged refusal (λ j. bad (cell_in p w j)) (cell_in p w) 256 ≡ good → Along r m used w n bad p (k + 1)
    along-on four refusal f =
        let none = cells-tell refusal (λ j. bad (cell_in p w j)) (cell_in p w) 256 f in
        let h = same {f = 256} (record { within = omega arith; before = none; here = λ g. absurd (omega arith) }) in
        record {
          pass = v.pass;
          upto = omega arith;
          link = is ∙ sym (place-more r.head m k);
          room = omega (arith, along-inside);
          before = λ i g. h.before i (omega arith);
        }

    -- the first that is bad in the block is the first of all
    pub along-bad : (refusal : ℕ → Refusal) {x : Refusal} → cells_judged refusal (λ j. bad (cell_in p w j)) (cell_in p w) 256 ≡ Err x
        → Err x ≡ cells_judged refusal (λ i. bad (cell_at r.head w m i)) (cell_at r.head w m) (256 * n)
    along-bad refusal f =
        let t = cells-fault refusal (λ j. bad (cell_in p w j)) (cell_in p w) 256 f in
        let h = same (first-law (λ j. bad (cell_in p w j)) 256) in
        let o = first (λ j. bad (cell_in p w j)) 256 in
        rw (t.0, ← along-cell o t.1)
        (sym (cells-bad refusal (λ i. bad (cell_at r.head w m i)) (cell_at r.head w m) (256 * n)
        (record { within = omega (arith, t.1); before = h.before; here = λ g. h.here (omega (arith, t.1)) })
        (omega (arith, t.1))))

  -- every block was looked at
  pub along-good : (refusal : ℕ → Refusal) → n ≤ k → good ≡ cells_judged refusal (λ i. bad (cell_at r.head w m i)) (cell_at r.head w m) (256 * n)
  along-good refusal l =
      sym (cells-good refusal (λ i. bad (cell_at r.head w m i)) (cell_at r.head w m) (256 * n) (λ i g. v.before i (omega arith)))
