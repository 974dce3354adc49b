-- For inner contracts: a reader of the promises may skip this file. The tables that an edit is lent: what they have room for, and what they tell of a map.
use Rattle.std.specs.Prelude.{ℕ, ◌+◌, ◌*◌, ◌≤◌, ◌<◌, List, length}
use Rattle.records.specs.Sizes.{header_size, index_block_size, index_page}
use Rattle.records.specs.Headers.{index_head}
use Rattle.chain.specs.Tables.{Filled, EndsTable, Ordered}

-- the tables that an edit is lent have room for a map of so many bytes
pub record Roomy (used : ℕ) (index order : List ℕ) : Type 0 where
  pub pages : used + index_page ≤ length index * index_page
  pub blocks : used < header_size + index_block_size * (length order + 1)

-- what the tables that an edit fills tell of a map with n index blocks
pub record Known (m : List ℕ) (used n : ℕ) (index order : List ℕ) : Type 0 where
  pub filled : Filled index_block_size index_page used index
  pub table : EndsTable index_block_size index_head index_page m n index
  pub ordered : Ordered index_head m n order
