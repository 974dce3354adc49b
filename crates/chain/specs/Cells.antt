-- Behind its link a block has 256 cells of one width: slots in an index block, entries in a symbol block. Cell c of a chain is in block c / 256, at c % 256.
--     cell_in b w j       where cell j of the block at b stands, w the bytes of a cell
--     cell_at h w m c     where cell c of the chain stands whose first link stands at h
use Rattle.std.specs.Prelude.{ℕ, ◌+◌, ◌*◌, ◌/◌, ◌%◌, List}
use Rattle.chain.specs.Chains.{block}
use Rattle.records.specs.Sizes.{link_size, block_cells}

unfoldable pub cell_in : ℕ → ℕ → ℕ → ℕ
cell_in b w j = b + link_size + w * j

unfoldable pub cell_at : ℕ → ℕ → List ℕ → ℕ → ℕ
cell_at h w m c = cell_in (block h m (c / block_cells)) w (c % block_cells)
