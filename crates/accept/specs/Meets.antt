-- For the reader, to be held against document 01, and document 02, f), for OCAD 9, 10 and 11: the conditions for a map, sentence by sentence, each chain as the
-- list of its blocks. What is quoted are their words. The check answers accepted exactly when they hold: proved in proofs/Meets.antt.
--     Inside used p n         the n bytes from p start behind the header and end inside the map
--     Apart p n q k           the n bytes from p and the k bytes from q have no byte in common
--     Off bs n p k            the k bytes from p have no byte in common with a block of bs, of n bytes each
--     Present used p          setup or info, where its size is not 0, is inside the map
--     Chain m used h n bs     the blocks along the links, from the link at h to a link of 0, are bs; each lies inside, and no two have a byte in common
--     cell_of bs w c           where cell c stands: in block c / 256 behind the link, w bytes a cell
--     GoodRecord              a symbol record at q, in 6 to 8. Its Size is signed. GoodWideRecord: in 9 to 11
--     GoodLive                a live slot t, with its object, in 6 to 8. GoodWideLive: in 9 to 11
--     Conditions              what a layout asks for, beside what both do: of the header, of what index blocks keep off beside each other, of a symbol record, and
--                             of the live slot at a place
--     MeetsOf                 the whole, with n index blocks, for a layout f (`judge`, Rules) and its conditions
--     Meets m used n          that, for the layout of the map's version
use Rattle.std.specs.Prelude.{ℕ, ◌+◌, ◌*◌, ◌/◌, ◌%◌, ◌≤◌, ◌<◌, Bool, true, false, ◌⊎◌, ◌≡◌, List, length, get_or, drop, Ok}
use Rattle.std.specs.Int.Signed.{le_z}
use Rattle.numbers.specs.Bytes.{u16_at, u32_at}
use Rattle.numbers.specs.Coordinates.{value_of}
use Rattle.records.specs.declared.Part.{Part}
use Rattle.slots.specs.declared.Slot.{Slot}
use Rattle.records.specs.Sizes.{header_size, map_limit, index_block_size, wide_block_size, symbol_block_size, entry_size, block_cells, object_header_size, wide_header_size, pair_size}
use Rattle.records.specs.Headers.{part_of, pair_good, is_wide, file_type_good, setup_at, info_at, index_head, symbol_head}
use Rattle.slots.specs.Slots.{slot_of, len_good, pairs_of, bytes_in}
use Rattle.wide.specs.declared.WideSlot.{WideSlot}
use Rattle.wide.specs.Slots.{wide_slot_of, wide_object_of, wide_type_good}
use Rattle.wide.specs.Symbols.{wide_size_good}
use Rattle.slots.specs.Objects.{object_of, type_good}
use Rattle.records.specs.Symbols.{size_good}
use Rattle.chain.specs.Chains.{Links}
use Rattle.chain.specs.Cells.{cell_in}
use Rattle.judge.specs.Judging.{version_of}
use Rattle.judge.specs.Rules.{Family, family_of}
use Rattle.accept.specs.Verdicts.{verdict}

pub record Inside (used p n : ℕ) : Type 0 where
  pub low : header_size ≤ p
  pub high : p + n ≤ used

abbrev pub Apart : ℕ → ℕ → ℕ → ℕ → Type 0
Apart p n q k = (x : ℕ) → p ≤ x → x < p + n → q ≤ x → x < q + k → ⊥

abbrev pub Off : List ℕ → ℕ → ℕ → ℕ → Type 0
Off bs n p k = (i : ℕ) → i < length bs → Apart (get_or bs i 0) n p k

abbrev pub Present : ℕ → Part → Type 0
Present used p = (p.size ≡ 0 → ⊥) → Inside used p.at p.size

pub record Chain (m : List ℕ) (used h n : ℕ) (bs : List ℕ) : Type 0 where
  pub links : Links m h bs
  pub lies : (k : ℕ) → k < length bs → Inside used (get_or bs k 0) n
  pub apart : (i k : ℕ) → i < k → k < length bs → Apart (get_or bs i 0) n (get_or bs k 0) n

abbrev pub cell_of : List ℕ → ℕ → ℕ → ℕ
cell_of bs w c = cell_in (get_or bs (c / block_cells) 0) w (c % block_cells)

pub record GoodRecord (m : List ℕ) (used : ℕ) (index : List ℕ) (q : ℕ) : Type 0 where
  -- "at least 48 and points to a record inside the map"
  pub start : Inside used q 2
  -- "whose signed 16-bit Size is 348 or more"
  pub size : size_good (u16_at m q) ≡ true
  pub lies : Inside used q (u16_at m q)
  -- "sharing no byte with an index block"
  pub off : Off index index_block_size q (u16_at m q)

pub record GoodWideRecord (m : List ℕ) (used : ℕ) (index : List ℕ) (q : ℕ) : Type 0 where
  pub start : Inside used q 4
  -- "symbol records of 572 bytes or more by a 32-bit Size"
  pub size : wide_size_good (u32_at m q) ≡ true
  pub lies : Inside used q (u32_at m q)
  pub off : Off index wide_block_size q (u32_at m q)

pub record GoodLive (m : List ℕ) (used : ℕ) (index : List ℕ) (t : Slot) : Type 0 where
  -- "left <= right and bottom <= top by value"
  pub wide : le_z (value_of t.left) (value_of t.right) ≡ true
  pub tall : le_z (value_of t.bottom) (value_of t.top) ≡ true
  -- "in 6 and 7, Len is the object's bytes, at least 40, and Len - 32 is a multiple of 8; in 8, Len itself counts pairs, at most 32,768"
  pub len : len_good (version_of m) t.len ≡ true
  -- "its position is at least 48, its object lies inside"
  pub lies : Inside used t.position (bytes_in (version_of m) t.len)
  -- "and shares no byte with an index block"
  pub off : Off index index_block_size t.position (bytes_in (version_of m) t.len)
  -- "the object's Sym equals the slot's"
  pub sym : (object_of (drop t.position m)).sym ≡ t.sym
  -- "the type is 1 to 5"
  pub kind : type_good (object_of (drop t.position m)).kind ≡ true
  -- "and nItem + nText is the pair count"
  pub pairs : (object_of (drop t.position m)).items + (object_of (drop t.position m)).texts ≡ pairs_of (version_of m) t.len

-- an object of k pairs has so many bytes by its slot's Len, which counts the pairs, or is the object's bytes
abbrev pub HasBytes : ℕ → ℕ → ℕ → Type 0
HasBytes len k bytes =
    ((len ≡ k) × (bytes ≡ object_header_size + pair_size * len)) ⊎ ((len ≡ wide_header_size + pair_size * k) × (bytes ≡ len))

pub record GoodWideLive (m : List ℕ) (used : ℕ) (index : List ℕ) (t : WideSlot) : Type 0 where
  pub wide : le_z (value_of t.left) (value_of t.right) ≡ true
  pub tall : le_z (value_of t.bottom) (value_of t.top) ≡ true
  pub bytes : ℕ
  pub len : HasBytes t.len ((wide_object_of (drop t.position m)).items + (wide_object_of (drop t.position m)).texts) bytes
  pub lies : Inside used t.position bytes
  pub off : Off index wide_block_size t.position bytes
  pub sym : (wide_object_of (drop t.position m)).sym ≡ t.sym
  pub kind : wide_type_good (wide_object_of (drop t.position m)).kind ≡ true

-- ---- what the two layouts ask for, each beside what both do

pub record NarrowHeader (m : List ℕ) (used : ℕ) : Type 0 where
  -- "Accepted pairs of version and section mark: 6 with 0; 7 with 7; 8 with 2 or 3. Nothing else."
  pub pair : pair_good (version_of m) (u16_at m 2) ≡ true
  -- "size 0 means absent, whatever the position. Otherwise size is positive, position is at least 48, and position plus size is at most the length"
  pub setup : Present used (part_of m setup_at)
  pub info : Present used (part_of m info_at)

-- "3 also for a file type that the version's document doesn't list; 4 isn't given for 9 to 11 (no setup or info there)". The file type is the byte at 2
pub record WideHeader (m : List ℕ) (used : ℕ) : Type 0 where
  pub version : is_wide (version_of m) ≡ true
  pub kind : file_type_good (version_of m) (get_or m 2 0) ≡ true

pub record OffParts (m : List ℕ) (blocks : List ℕ) : Type 0 where
  pub setup : Off blocks index_block_size (part_of m setup_at).at (part_of m setup_at).size
  pub info : Off blocks index_block_size (part_of m info_at).at (part_of m info_at).size

pub record Conditions : Type 1 where
  pub Header : List ℕ → ℕ → Type 0
  pub OffOthers : List ℕ → List ℕ → Type 0
  pub Record : List ℕ → ℕ → List ℕ → ℕ → Type 0
  pub LiveSlot : List ℕ → ℕ → List ℕ → ℕ → Type 0

abbrev pub narrow_conditions : Conditions
narrow_conditions =
    record {
      Header = NarrowHeader;
      OffOthers = OffParts;
      Record = GoodRecord;
      LiveSlot = λ m used index p. GoodLive m used index (slot_of m p);
    }

abbrev pub wide_conditions : Conditions
wide_conditions =
    record {
      Header = WideHeader;
      OffOthers = λ m blocks. Unit {0};
      Record = GoodWideRecord;
      LiveSlot = λ m used index p. GoodWideLive m used index (wide_slot_of m p);
    }

abbrev pub conditions_for : Bool → Conditions
conditions_for true = wide_conditions
conditions_for false = narrow_conditions

pub record MeetsOf (f : Family) (c : Conditions) (m : List ℕ) (used n : ℕ) : Type 0 where
  -- "A map is the first `used` bytes of a lent buffer. Its length is 48 to 16,777,216"
  pub least : header_size ≤ used
  pub most : used ≤ map_limit
  pub room : used ≤ length m
  -- "mark at 0 (3245)"
  pub mark : u16_at m 0 ≡ 3245
  pub header : c.Header m used
  -- "Link 0 ends a chain; a first link of 0 is an empty chain and is good. [..] Each index block starts at 48 or later, lies inside the map, and shares no byte
  -- with setup, info or an earlier index block."
  pub blocks : List ℕ
  pub count : length blocks ≡ n
  pub index : Chain m used index_head f.block blocks
  pub off-others : c.OffOthers m blocks
  -- "Each symbol block starts at 48 or later, lies inside, and shares no byte with an index block or earlier symbol block."
  pub symbols : List ℕ
  pub symbol : Chain m used symbol_head symbol_block_size symbols
  pub off-index : (k : ℕ) → k < length symbols → Off blocks f.block (get_or symbols k 0) symbol_block_size
  -- "A symbol position of 0 is an unused entry; any other is" good
  pub entries : (e : ℕ) → e < block_cells * length symbols → (u32_at m (cell_of symbols entry_size e) ≡ 0 → ⊥)
      → c.Record m used blocks (u32_at m (cell_of symbols entry_size e))
  -- "A live slot is good [..] Erased and free slots aren't judged."
  pub slots : (s : ℕ) → s < block_cells * length blocks → f.live m (cell_of blocks f.slot s) ≡ true
      → c.LiveSlot m used blocks (cell_of blocks f.slot s)

abbrev pub Meets : List ℕ → ℕ → ℕ → Type 0
Meets m = MeetsOf (family_of m) (conditions_for (is_wide (version_of m))) m

abbrev pub AcceptedExactly : Type 0
AcceptedExactly = (m : List ℕ) (used n : ℕ) → (Meets m used n → verdict m used ≡ Ok n) × (verdict m used ≡ Ok n → Meets m used n)
