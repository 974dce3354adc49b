-- For inner contracts: a reader of the promises may skip this file.
-- The trees in which a number is looked for among few records of a journal j. Links l are first the roots of b trees, then two for each record: a link is 0, or
-- 1 + the record that it leads to.
--     bits_of b e d         the spread of number e over b trees after d steps down: over 4,294,967,296, its whole part tells the tree, and after that the side
--     link_of b l e d       the link at which number e stands after d steps down
--     Down b l e at        number e comes down to link `at`, by links that are not 0
--     Linked b j l i       the first i records are in the trees: each one's number comes down to its link, and the links below a record lead to later ones
--     Planted j l          some records are in trees of which the first half of the links are the roots
--     Comes b j l e at     number e comes down to `at` past records of other numbers, and `at` is 0 or leads to a record that has it
use Rattle.std.specs.Prelude.{ℕ, zero, suc, ◌+◌, ◌-◌, ◌*◌, ◌/◌, ◌%◌, ◌≤◌, ◌<◌, List, ◌≡◌, length, get_or}
use Rattle.records.specs.Sizes.{journal_record_size}
use Rattle.journal.specs.Journals.{record_in}

unfoldable pub bits_of : ℕ → ℕ → ℕ → ℕ
bits_of b e zero = e * 2654435769 % 4294967296 * b
bits_of b e (suc d) = bits_of b e d % 4294967296 * 2

unfoldable pub link_of : ℕ → List ℕ → ℕ → ℕ → ℕ
link_of b l e zero = bits_of b e zero / 4294967296
link_of b l e (suc d) = b + 2 * (get_or l (link_of b l e d) 0 - 1) + bits_of b e (suc d) / 4294967296

pub record Down (b : ℕ) (l : List ℕ) (e at : ℕ) : Type 0 where
  pub steps : ℕ
  pub links : (c : ℕ) → c < steps → 0 < get_or l (link_of b l e c) 0
  pub stands : at ≡ link_of b l e steps

pub record Linked (b : ℕ) (j l : List ℕ) (i : ℕ) : Type 0 where
  pub inside : journal_record_size * i ≤ length j
  pub room : b + 2 * i ≤ length l
  pub within : (at : ℕ) → get_or l at 0 ≤ i
  pub rises : (at : ℕ) → 0 < get_or l at 0 → at < b + 2 * (get_or l at 0 - 1)
  pub leads : (k : ℕ) → k < i → (at : ℕ) × Down b l (record_in j k).number at × (get_or l at 0 ≡ k + 1)

pub record Planted (j l : List ℕ) : Type 0 where
  pub some : 2 ≤ length l
  pub most : length l ≤ 131072
  pub trees : (i : ℕ) × Linked (length l / 2) j l i

pub record Comes (b : ℕ) (j l : List ℕ) (e at : ℕ) : Type 0 where
  pub down : Down b l e at
  pub others : (c : ℕ) → c < down.steps → (record_in j (get_or l (link_of b l e c) 0 - 1)).number ≡ e → ⊥
  pub own : 0 < get_or l at 0 → (record_in j (get_or l at 0 - 1)).number ≡ e
