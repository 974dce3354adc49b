-- The laws of the cells: cell c stands in block c / 256, past its link and before its end, so no two cells share a byte. Assumes nothing.
use Prim.Native.Nat.{ℕ, zero, suc, ◌+◌, ◌*◌, ◌/◌, ◌%◌, ◌≤◌, ◌<◌}
use mathlib.Core.Path.{◌≡◌, ap, ◌∙◌}
use mathlib.Core.Logic.{◌⊎◌, inl, inr, ⊎_elim}
use mathlib.Core.List.{List}
use borrow.Author.Count.{below_more}
use native.Mathlib.Decide.{ℕ_discrete}
use native.Mathlib.Nat.{mul-le-mul_left, mul-add, mul-one}
use native.Mathlib.Omega.{arith}
use lib.ListN.{get_or, set, length}
use lib.Seq.{get_or-set_same, get_or-set_other}
use Rattle.numbers.proofs.Coordinates.{lt-or-ge}
use Rattle.records.specs.Sizes.{header_size}
use Rattle.chain.specs.Chains.{Rule, place, block}
use Rattle.chain.specs.Cells.{cell_in, cell_at}
use Rattle.chain.specs.Tables.{Ordered}
use Rattle.chain.proofs.Chains.{Pass, apart, place-suc}

-- cell j of block k, by its number
pub cell-no : (h w : ℕ) (m : List ℕ) (k j : ℕ) → j < 256 → cell_at h w m (256 * k + j) ≡ cell_in (block h m k) w j
unfolding cell_at
cell-no h w m k j l =
    let q : (256 * k + j) / 256 ≡ k = omega arith in
    let s : (256 * k + j) % 256 ≡ j = omega arith in
    rw (q, s)

-- w more for each cell
mul-more : (w i j : ℕ) → i < j → w * i + w ≤ w * j
mul-more w i j l = omega (arith, mul-le-mul_left w l, mul-add w i 1, mul-one w)

-- ---- where the cells of blocks that pass lie

pub record Lies (r : Rule) (m : List ℕ) (used w c : ℕ) : Type 0 where
  pub past-link : block r.head m (c / 256) + 4 ≤ cell_at r.head w m c
  pub in-block : cell_at r.head w m c + w ≤ block r.head m (c / 256) + r.size
  pub low : header_size + 4 ≤ cell_at r.head w m c
  pub high : cell_at r.head w m c + w ≤ used

module _ {r : Rule} {m : List ℕ} {used n : ℕ} (h : Pass r m used n) (w : ℕ) (fits : 4 + 256 * w ≤ r.size) where
  pub cell_lies : (c : ℕ) → c < 256 * n → Lies r m used w c
  unfolding cell_at cell_in
  cell_lies c l =
      let k = h.lies (c / 256) (omega arith) in
      let more = mul-more w (c % 256) 256 (omega arith) in
      record { past-link = omega arith; in-block = omega arith; low = omega arith; high = omega arith }

  -- two different cells: in one block by their numbers there, in two since those lie apart
  pub cells-apart : (c d : ℕ) → c < 256 * n → d < 256 * n → (c ≡ d → ⊥) → (cell_at r.head w m c + w ≤ cell_at r.head w m d) ⊎ (cell_at r.head w m d + w ≤ cell_at r.head w m c)
  unfolding cell_at cell_in
  cells-apart c d l g ne =
      let x = cell_lies c l in
      let y = cell_lies d g in
      elim (ℕ_discrete (c / 256) (d / 256)) [
        | yes e ↦
            let b : block r.head m (c / 256) ≡ block r.head m (d / 256) = ap (block r.head m) e in
            ⊎_elim
            (λ k. inl (omega (arith, mul-more w (c % 256) (d % 256) k)))
            (λ k. inr (omega (arith, mul-more w (d % 256) (c % 256) (omega arith))))
            (lt-or-ge (c % 256) (d % 256))
        | no e ↦
            ⊎_elim
            (λ k. inl (omega arith))
            (λ k. inr (omega arith))
            (apart h (c / 256) (d / 256) (omega arith) (omega arith) e)
      ]

  -- no link stands in a cell: the first stands in the header, any other at the start of a block
  pub links-apart : r.head + 4 ≤ header_size → (k c : ℕ) → k ≤ n → c < 256 * n → (place r.head m k + 4 ≤ cell_at r.head w m c) ⊎ (cell_at r.head w m c + w ≤ place r.head m k)
  unfolding place
  links-apart first zero c g l = inl (omega (arith, (cell_lies c l).low))
  links-apart first (suc k) c g l =
      let x = cell_lies c l in
      let b : place r.head m (suc k) ≡ block r.head m k = place-suc r.head m k in
      elim (ℕ_discrete k (c / 256)) [
        | yes e ↦ inl (omega (arith, ap (block r.head m) e))
        | no e ↦ ⊎_elim (λ y. inl (omega arith)) (λ y. inr (omega arith)) (apart h k (c / 256) g (omega arith) e)
      ]

-- ---- the blocks in their order

-- one block more
pub ordered-more : (h : ℕ) (m : List ℕ) (k : ℕ) (o : List ℕ) {p : ℕ} → Ordered h m k o → k < length o → p ≡ block h m k → Ordered h m (k + 1) (set o k p)
ordered-more h m k o {p} e l q =
    below_more (λ (i : ℕ). get_or (set o k p) i 0 ≡ block h m i) k
    (λ i g. get_or-set_other o k i p 0 (λ z. omega arith) ∙ e i g)
    (get_or-set_same o k p 0 l ∙ q)

-- a cell is found in one step
pub ordered-cell : (h w : ℕ) (m : List ℕ) (n : ℕ) (o : List ℕ) → Ordered h m n o → (c : ℕ) → c < 256 * n → cell_at h w m c ≡ cell_in (get_or o (c / 256) 0) w (c % 256)
unfolding cell_at
ordered-cell h w m n o e c l = rw (e (c / 256) (omega arith))
