-- For inner contracts: a reader of the promises may skip this file. A map with the table of its index blocks.
--     Indexed n w m used t   the first `used` bytes of the buffer m have a map's length at most, and the table t of index blocks of n bytes is filled, with an
--                            entry for each of their pages of w bytes
use Rattle.std.specs.Prelude.{ℕ, ◌+◌, ◌*◌, ◌≤◌, List, length}
use Rattle.records.specs.Sizes.{map_limit}
use Rattle.chain.specs.Tables.{Filled}

pub record Indexed (n w : ℕ) (m : List ℕ) (used : ℕ) (t : List ℕ) : Type 0 where
  pub limit : used ≤ map_limit
  pub room : used ≤ length m
  pub wide : used + w ≤ length t * w
  pub filled : Filled n w used t
