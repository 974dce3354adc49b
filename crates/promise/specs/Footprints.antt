-- What the verdict on an accepted map depends on: the header, the index blocks, the symbol blocks, the Size of each symbol record, and the first 8 bytes of each
-- live object, or 14 in 9 to 11. A map that agrees in these bytes, of the same length or longer, is accepted with the same chain. With the same map it says that
-- what is accepted stays so when more bytes of the buffer count.
--     Agree m m' p n       the n bytes from p are the same in m and m'
--     size_bytes b, head_bytes b     the bytes of a symbol record's Size, and those that are read of an object, in 9 to 11 where b is true
--     Footprint b h m'     m' agrees with m in those bytes; h has the chains of m
use Rattle.std.specs.Prelude.{Ok}
use Rattle.std.specs.Prelude.{ℕ, ◌+◌, ◌*◌, ◌≤◌, ◌<◌, Bool, true, cond, ◌≡◌, List, length, get_or}
use Rattle.numbers.specs.Bytes.{u32_at}
use Rattle.records.specs.Sizes.{header_size, map_limit, symbol_block_size, entry_size, block_cells}
use Rattle.records.specs.Headers.{index_head, is_wide}
use Rattle.chain.specs.Chains.{Links}
use Rattle.judge.specs.Judging.{version_of}
use Rattle.judge.specs.Rules.{family_for}
use Rattle.accept.specs.Verdicts.{verdict}
use Rattle.accept.specs.Meets.{conditions_for, MeetsOf, Meets, cell_of}

abbrev pub Agree : List ℕ → List ℕ → ℕ → ℕ → Type 0
Agree m m' p n = (i : ℕ) → i < n → get_or m' (p + i) 0 ≡ get_or m (p + i) 0

abbrev pub size_bytes : Bool → ℕ
size_bytes b = cond b 4 2

abbrev pub head_bytes : Bool → ℕ
head_bytes b = cond b 14 8

pub record Footprint (b : Bool) {m : List ℕ} {used n : ℕ} (h : MeetsOf (family_for b) (conditions_for b) m used n) (m' : List ℕ) : Type 0 where
  pub header : Agree m m' 0 header_size
  pub index : (k : ℕ) → k < length h.blocks → Agree m m' (get_or h.blocks k 0) (family_for b).block
  pub symbol : (k : ℕ) → k < length h.symbols → Agree m m' (get_or h.symbols k 0) symbol_block_size
  pub sizes : (e : ℕ) → e < block_cells * length h.symbols → (u32_at m (cell_of h.symbols entry_size e) ≡ 0 → ⊥)
      → Agree m m' (u32_at m (cell_of h.symbols entry_size e)) (size_bytes b)
  -- the position stands at 16 in a slot of either layout
  pub objects : (s : ℕ) → s < block_cells * length h.blocks → (family_for b).live m (cell_of h.blocks (family_for b).slot s) ≡ true
      → Agree m m' (u32_at m (cell_of h.blocks (family_for b).slot s + 16)) (head_bytes b)

abbrev pub DependsOnly : Type 0
DependsOnly =
    (m m' : List ℕ) (used used' n : ℕ) (h : Meets m used n) → Footprint (is_wide (version_of m)) h m' → used ≤ used' → used' ≤ map_limit → used' ≤ length m'
    → (verdict m' used' ≡ Ok n) × Links m' index_head h.blocks
