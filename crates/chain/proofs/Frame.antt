-- What an edit does to a chain. m' is the map after the edit, of used' bytes, and r' its rule.
--     Kept h m m' n    the first n links read as they did
--     Edited           so they do, the rule has the same head and block size, no fewer bytes count, and the n blocks, which passed, keep the rule's own test
--     Added            the last link now points past the old end, to a block q with a link of 0
-- A run of stores inside a cell leaves the links (`store_kept`). Then the blocks and the cells stand where they stood (`blocks-kept`, `cells-kept`), and the
-- walk answers n blocks, or one more. Assumes nothing.
use Prim.Native.Nat.{ℕ, zero, suc, ◌+◌, ◌*◌, ◌/◌, ◌≤◌, ◌<◌}
use mathlib.Core.Bool.{Bool, false}
use mathlib.Core.Path.{◌≡◌, refl, ap, ◌∙◌, fun_ext}
use mathlib.Core.Logic.{⊎_elim}
use mathlib.Core.List.{List}
use native.Mathlib.Omega.{arith}
use lib.ListN.{length}
use lib.Seq.{sets}
use Rattle.numbers.specs.Bytes.{u32_at}
use Rattle.numbers.specs.Ranges.{share}
use Rattle.numbers.specs.Below.{any}
use Rattle.numbers.proofs.Bytes.{le_at-sets-low, le_at-sets-high}
use Rattle.numbers.proofs.Below.{any_none}
use Rattle.numbers.proofs.Ranges.{share-before}
use Rattle.records.specs.Sizes.{header_size}
use Rattle.std.specs.Prelude.{Ok}
use Rattle.chain.specs.Chains.{Rule, place, block, meets_block, walked}
use Rattle.chain.specs.Cells.{cell_at}
use Rattle.chain.proofs.Chains.{Passed, Pass, pass-more, block_more, walked-is}
use Rattle.chain.proofs.Cells.{links-apart}

-- ---- the links are kept

pub record Kept (h : ℕ) (m m' : List ℕ) (n : ℕ) : Type 0 where
  pub link : (k : ℕ) → k < n → u32_at m' (place h m k) ≡ u32_at m (place h m k)

pub less : {h : ℕ} {m m' : List ℕ} {n : ℕ} → Kept h m m' n → (k : ℕ) → k ≤ n → Kept h m m' k
less e k l = record { link = λ i g. e.link i (omega arith) }

any_same : (p q : ℕ → Bool) (n : ℕ) → ((i : ℕ) → i < n → p i ≡ q i) → any p n ≡ any q n
unfolding any
any_same p q zero h = refl
any_same p q (suc n) h = rw (any_same p q n (λ i l. h i (omega arith)), h n (omega arith))

module _ {h : ℕ} {m m' : List ℕ} {n : ℕ} (e : Kept h m m' n) where
  pub places-kept : (k : ℕ) → k ≤ n → place h m' k ≡ place h m k
  unfolding place
  places-kept zero l = refl
  places-kept (suc k) l = ap (u32_at m') (places-kept k (omega arith)) ∙ e.link k l

  pub blocks-kept : (k : ℕ) → k < n → block h m' k ≡ block h m k
  unfolding block
  blocks-kept k l = ap (u32_at m') (places-kept k (omega arith)) ∙ e.link k l

  pub cells-kept : (w c : ℕ) → c < 256 * n → cell_at h w m' c ≡ cell_at h w m c
  unfolding cell_at
  cells-kept w c l = rw (blocks-kept (c / 256) (omega arith))

  -- the next link stands where it stood, whatever it says now
  pub block_last : {q : ℕ} → u32_at m' (place h m n) ≡ q → block h m' n ≡ q
  unfolding block
  block_last l = ap (u32_at m') (places-kept n (omega arith)) ∙ l

  -- so the same ranges share a byte with a block
  pub meets-kept : (s : ℕ) → meets_block h s m' n ≡ meets_block h s m n
  unfolding meets_block
  meets-kept s = fun_ext (λ p. fun_ext (λ len. any_same (λ i. share (block h m' i) s p len) (λ i. share (block h m i) s p len) n (λ i l. rw (blocks-kept i l))))

-- a run of stores inside a cell leaves every link, the last one too
pub store_kept : {r : Rule} {m : List ℕ} {used n : ℕ} → Pass r m used n → (w : ℕ) → 4 + 256 * w ≤ r.size → r.head + 4 ≤ header_size → (c : ℕ) → c < 256 * n → (vs : List ℕ) (at : ℕ) → cell_at r.head w m c ≤ at → at + length vs ≤ cell_at r.head w m c + w → Kept r.head m (sets m at vs) (n + 1)
store_kept {r} {m} {used} {n} h w fits first c l vs at low high =
    record {
      link = λ k g.
          ⊎_elim
          (λ x. le_at-sets-low 4 vs m at (place r.head m k) (omega arith))
          (λ x. le_at-sets-high 4 vs m at (place r.head m k) (omega arith))
          (links-apart h w fits first k c (omega arith) l);
    }

-- ---- the chain is kept

pub record Edited (r r' : Rule) (m m' : List ℕ) (used used' n : ℕ) : Type 0 where
  pub head : r'.head ≡ r.head
  pub size : r'.size ≡ r.size
  pub grown : used ≤ used'
  pub pass : Pass r m used n
  pub kept : Kept r.head m m' n
  pub allowed : (k : ℕ) → k < n → r'.taboo (block r.head m k) ≡ false

module _ {r r' : Rule} {m m' : List ℕ} {used used' n : ℕ} (e : Edited r r' m m' used used' n) where
  same : (k : ℕ) → k < n → block r'.head m' k ≡ block r.head m k
  same k l = rw e.head (blocks-kept e.kept k l)

  pub pass_kept : Pass r' m' used' n
  pass_kept = record { lies = go }
    where
      go : (k : ℕ) → k < n → Passed r' m' used' k
      go k l =
          let w = e.pass.lies k l in
          let b = same k l in
          record {
            low = omega (arith, w.low);
            high = omega (arith, w.high, e.size, e.grown);
            allowed = rw b (e.allowed k l);
            free = rw (b, e.head, e.size, meets-kept (less e.kept k (omega arith)) r.size) w.free;
          }

  pub walked-kept : 0 < r.size → u32_at m' (place r.head m n) ≡ 0 → walked r' m' used' ≡ Ok n
  walked-kept z l = walked-is r' m' used' (rw e.size z) pass_kept (rw e.head (block_last e.kept l))

-- ---- one block more

pub record Added (r r' : Rule) (m m' : List ℕ) (used used' n q : ℕ) : Type 0 where
  pub edited : Edited r r' m m' used used' n
  pub last : u32_at m' (place r.head m n) ≡ q
  pub end : u32_at m' q ≡ 0
  pub low : header_size ≤ q
  pub past : used ≤ q
  pub high : q + r.size ≤ used'
  pub allowed : r'.taboo q ≡ false

module _ {r r' : Rule} {m m' : List ℕ} {used used' n q : ℕ} (a : Added r r' m m' used used' n q) where
  pub added-block : block r'.head m' n ≡ q
  added-block = rw a.edited.head (block_last a.edited.kept a.last)

  -- the blocks before it end before the old end
  new-free : meets_block r'.head r'.size m' n q r'.size ≡ false
  unfolding meets_block
  new-free =
      any_none (λ i. share (block r'.head m' i) r'.size q r'.size) n
      (λ i l. share-before (block r'.head m' i) r'.size q r'.size (omega (arith, pass-end i l, a.past)))
    where
      pass-end : (i : ℕ) → i < n → block r'.head m' i + r'.size ≤ used
      pass-end i l = rw (same a.edited i l, a.edited.size) (a.edited.pass.lies i l).high

  pub added-pass : Pass r' m' used' (n + 1)
  added-pass =
      let b = added-block in
      pass-more (pass_kept a.edited)
      (record {
        low = rw b a.low;
        high = rw (b, a.edited.size) a.high;
        allowed = rw b a.allowed;
        free = rw b new-free;
      })

  pub walked-added : 0 < r.size → walked r' m' used' ≡ Ok (n + 1)
  walked-added z =
      walked-is r' m' used' (rw a.edited.size z) added-pass (block_more r'.head m' n ∙ ap (u32_at m') added-block ∙ a.end)
