-- The two layouts of a map m side by side, the two kinds of chain in it, and where slots and entries stand.
--     Family                what a layout has of its own: the bytes of an index block, of a page of their table and of a slot, what an index block keeps off,
--                           beside other index blocks, which slots are live, and whether a slot or a symbol entry at a place is at fault, by the test whether an
--                           index block shares a byte with a range
--     narrow, wide          the layouts of OCAD 6, 7 and 8; and of 9, 10 and 11
--     family_in v, family_of m     the layout of version v, and of the map m
--     index_rule_of f m       index blocks: the first link at 12, each as many bytes as the layout says. In 6 to 8 none shares a byte with setup or info. (Size 0
--                           means absent: an empty range shares no byte.)
--     touches_of f m n p len     whether one of the first n index blocks shares a byte with the len bytes from p on
--     symbol_rule_of f m n    symbol blocks of a map with n index blocks: the first link at 8, 1,028 bytes each, none shares a byte with an index block
--     slot_at_of f m s        where slot s stands: block s / 256 of the chain, place s % 256
--     index_rule, touches, symbol_rule, slot_at     the same of 6, 7 and 8
--     entry_at m e           where symbol entry e stands, in the same way
use Rattle.std.specs.Prelude.{ℕ, Bool, true, false, ◌||◌, List}
use Rattle.numbers.specs.Ranges.{share}
use Rattle.records.specs.Sizes.{index_block_size, index_page, slot_size, wide_block_size, wide_page, wide_slot_size, symbol_block_size, entry_size}
use Rattle.records.specs.Headers.{part_of, setup_at, info_at, index_head, symbol_head, is_wide}
use Rattle.slots.specs.declared.State.TheVariants.{Live}
use Rattle.slots.specs.Slots.{slot_of, state_of, same_state}
use Rattle.wide.specs.Slots.{wide_slot_of, wide_live, wide_bad_slot}
use Rattle.wide.specs.Symbols.{wide_bad_entry}
use Rattle.chain.specs.Chains.{Rule, meets_block}
use Rattle.chain.specs.Cells.{cell_at}
use Rattle.judge.specs.Judging.{version_of, bad_slot, bad_entry}

pub record Family : Type 0 where
  pub block : ℕ
  pub page : ℕ
  pub slot : ℕ
  pub taboo : List ℕ → ℕ → Bool
  pub live : List ℕ → ℕ → Bool
  pub slot_at_fault : (ℕ → ℕ → Bool) → List ℕ → ℕ → ℕ → Bool
  pub entry_at_fault : (ℕ → ℕ → Bool) → List ℕ → ℕ → ℕ → Bool

abbrev pub narrow : Family
narrow =
    record {
      block = index_block_size;
      page = index_page;
      slot = slot_size;
      taboo = λ m p.
          share (part_of m setup_at).at (part_of m setup_at).size p index_block_size
          || share (part_of m info_at).at (part_of m info_at).size p index_block_size;
      live = λ m p. same_state Live (state_of (slot_of m p));
      slot_at_fault = λ touch m used p. bad_slot touch m used (version_of m) p;
      entry_at_fault = bad_entry;
    }

abbrev pub wide : Family
wide =
    record {
      block = wide_block_size;
      page = wide_page;
      slot = wide_slot_size;
      taboo = λ m p. false;
      live = λ m p. wide_live (wide_slot_of m p);
      slot_at_fault = wide_bad_slot;
      entry_at_fault = wide_bad_entry;
    }

abbrev pub family_for : Bool → Family
family_for true = wide
family_for false = narrow

abbrev pub family_in : ℕ → Family
family_in v = family_for (is_wide v)

abbrev pub family_of : List ℕ → Family
family_of m = family_in (version_of m)

abbrev pub index_rule_of : Family → List ℕ → Rule
index_rule_of f m = record { head = index_head; size = f.block; taboo = f.taboo m }

abbrev pub touches_of : Family → List ℕ → ℕ → ℕ → ℕ → Bool
touches_of f m n p len = meets_block index_head f.block m n p len

abbrev pub symbol_rule_of : Family → List ℕ → ℕ → Rule
symbol_rule_of f m n = record { head = symbol_head; size = symbol_block_size; taboo = λ p. touches_of f m n p symbol_block_size }

abbrev pub slot_at_of : Family → List ℕ → ℕ → ℕ
slot_at_of f m s = cell_at index_head f.slot m s

abbrev pub index_rule : List ℕ → Rule
index_rule m = index_rule_of narrow m

abbrev pub touches : List ℕ → ℕ → ℕ → ℕ → Bool
touches m n = touches_of narrow m n

abbrev pub symbol_rule : List ℕ → ℕ → Rule
symbol_rule m n = symbol_rule_of narrow m n

abbrev pub slot_at : List ℕ → ℕ → ℕ
slot_at m s = slot_at_of narrow m s

abbrev pub entry_at : List ℕ → ℕ → ℕ
entry_at m e = cell_at symbol_head entry_size m e
