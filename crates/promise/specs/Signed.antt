-- Document 01 calls positions, sizes and links signed 32-bit; the definitions read them unsigned. Both say the same of every map of at most 16,777,216 bytes: a
-- negative number, read unsigned, is 2,147,483,648 or more and so past the map's end. The numbers need not be of 32 bits for it, nor the map a list of bytes.
--     InsideSigned used p n      the n bytes from p, both signed: p is at least 48, n is not negative, and p + n, which does not wrap, is at most the length
--     PositiveInside used p n    the same, and n is positive
--     PresentSigned used p n     setup or info with position p and size n, both signed: absent (size 0), or of positive size and inside
--     EitherWay p                p is the same number, read either way
--     PartEitherWay p            the position and the size of setup or info, where present
--     ChainEitherWay m h bs      the first link, where each block starts, and its link
--     AcceptedEitherWay b h      all of them in a map that is accepted, of 9 to 11 where b is true; and the Size of each symbol record, which is signed 16-bit in 6 to
--                                8 and 32-bit in 9 to 11, and there the Len of each live slot
use Rattle.std.specs.Prelude.{ℕ, ◌+◌, ◌*◌, ◌≤◌, ◌<◌, Bool, true, false, ◌≡◌, ◌⊎◌, ◌↔◌, List, ℤ, pos, ◌+ℤ◌, length, get_or}
use Rattle.std.specs.Int.Signed.{le_z}
use Rattle.numbers.specs.Bytes.{u16_at, u32_at}
use Rattle.numbers.specs.Coordinates.{signed16, signed32}
use Rattle.records.specs.declared.Part.{Part}
use Rattle.records.specs.Sizes.{header_size, map_limit, entry_size, block_cells}
use Rattle.records.specs.Headers.{part_of, setup_at, info_at, index_head, symbol_head, is_wide}
use Rattle.chain.specs.Chains as chains
use Rattle.judge.specs.Judging.{version_of}
use Rattle.judge.specs.Rules.{family_for}
use Rattle.accept.specs.Meets.{Inside, Present, conditions_for, MeetsOf, Meets, cell_of}

pub record InsideSigned (used : ℕ) (p n : ℤ) : Type 0 where
  pub low : le_z (pos header_size) p ≡ true
  pub size : le_z (pos 0) n ≡ true
  pub high : le_z (p +ℤ n) (pos used) ≡ true

pub record PositiveInside (used : ℕ) (p n : ℤ) : Type 0 where
  pub positive : le_z (pos 1) n ≡ true
  pub inside : InsideSigned used p n

abbrev pub PresentSigned : ℕ → ℤ → ℤ → Type 0
PresentSigned used p n = (n ≡ pos 0 → ⊥) → PositiveInside used p n

abbrev pub EitherWay : ℕ → Type 0
EitherWay p = signed32 p ≡ pos p

abbrev pub PartEitherWay : Part → Type 0
PartEitherWay p = (p.size ≡ 0 → ⊥) → EitherWay p.at × EitherWay p.size

pub record ChainEitherWay (m : List ℕ) (h : ℕ) (bs : List ℕ) : Type 0 where
  pub first : EitherWay (u32_at m h)
  pub blocks : (k : ℕ) → k < length bs → EitherWay (get_or bs k 0)
  pub links : (k : ℕ) → k < length bs → EitherWay (u32_at m (get_or bs k 0))

pub record AcceptedEitherWay (b : Bool) {m : List ℕ} {used n : ℕ} (h : MeetsOf (family_for b) (conditions_for b) m used n) : Type 0 where
  pub setup : b ≡ false → PartEitherWay (part_of m setup_at)
  pub info : b ≡ false → PartEitherWay (part_of m info_at)
  pub index : ChainEitherWay m index_head h.blocks
  pub symbol : ChainEitherWay m symbol_head h.symbols
  -- every entry, used or not; and the Size of the record of one that is used
  pub entries : (e : ℕ) → e < block_cells * length h.symbols → EitherWay (u32_at m (cell_of h.symbols entry_size e))
  pub sizes : b ≡ false → (e : ℕ) → e < block_cells * length h.symbols → (u32_at m (cell_of h.symbols entry_size e) ≡ 0 → ⊥)
      → signed16 (u16_at m (u32_at m (cell_of h.symbols entry_size e))) ≡ pos (u16_at m (u32_at m (cell_of h.symbols entry_size e)))
  pub wide-sizes : b ≡ true → (e : ℕ) → e < block_cells * length h.symbols → (u32_at m (cell_of h.symbols entry_size e) ≡ 0 → ⊥)
      → EitherWay (u32_at m (u32_at m (cell_of h.symbols entry_size e)))
  -- where a live slot has its position, and in 9 to 11 its Len
  pub slots : (s : ℕ) → s < block_cells * length h.blocks → (family_for b).live m (cell_of h.blocks (family_for b).slot s) ≡ true
      → EitherWay (u32_at m (cell_of h.blocks (family_for b).slot s + 16))
  pub lens : b ≡ true → (s : ℕ) → s < block_cells * length h.blocks → (family_for b).live m (cell_of h.blocks (family_for b).slot s) ≡ true
      → EitherWay (u32_at m (cell_of h.blocks (family_for b).slot s + 20))

pub record SignedAsWritten : Type 0 where
  -- a range is inside read signed exactly when it is inside read unsigned
  pub inside : (used p n : ℕ) → used ≤ map_limit → Inside used p n ↔ InsideSigned used (signed32 p) (signed32 n)
  -- the same where the size is no 32-bit field: of a block, an object, a symbol record
  pub sized : (used p n : ℕ) → used ≤ map_limit → Inside used p n ↔ InsideSigned used (signed32 p) (pos n)
  -- and that is what the definitions test, of a link, a part, a symbol record and an object
  pub tested : (used p n : ℕ) → (chains.inside used n p ≡ true) ↔ Inside used p n
  -- setup and info
  pub present : (used : ℕ) (p : Part) → used ≤ map_limit → Present used p ↔ PresentSigned used (signed32 p.at) (signed32 p.size)
  -- 0 (no link, no part, an unused entry) is 0 either way
  pub zero : (n : ℕ) → (n ≡ 0) ↔ (signed32 n ≡ pos 0)
  -- and so what is negative, a position, a link or a size, is never inside, read unsigned
  pub negative : (used p n : ℕ) → used ≤ map_limit → (le_z (pos 0) (signed32 p) ≡ false) ⊎ (le_z (pos 0) (signed32 n) ≡ false) → Inside used p n → ⊥
  -- what an accepted map has of them is the same number either way
  pub accepted : (m : List ℕ) (used n : ℕ) (h : Meets m used n) → AcceptedEitherWay (is_wide (version_of m)) h
