-- For inner contracts: a reader of the promises may skip this file. The two kinds of chain as the code hands them to the walk; Rules says what they mean.
--     kept_off b p           what index blocks keep off of setup or info: of no bytes in the wide layout
--     index_kind h           the kind of the index blocks, by the header: in 6 to 8 they keep off setup and info
--     symbol_kind f          the kind of the symbol blocks: they keep off the blocks of the index table, in the layout f
use Rattle.std.specs.Prelude.{Bool, cond}
use Rattle.records.specs.Sizes.{index_block_size, symbol_block_size, symbol_page, map_limit}
use Rattle.records.specs.Headers.{index_head, symbol_head, is_wide}
use Rattle.records.specs.declared.Header.{Header}
use Rattle.records.specs.declared.Part.{Part}
use Rattle.chain.specs.declared.Kind.{Kind}
use Rattle.judge.specs.Rules.{Family, family_in}

abbrev pub kept_off : Bool → Part → Part
kept_off wide p = record { at = p.at; size = cond wide 0 p.size }

abbrev pub index_kind : Header → Kind
index_kind h =
    record {
      head = index_head;
      size = (family_in h.version).block;
      page = (family_in h.version).page;
      first = kept_off (is_wide h.version) h.setup;
      second = kept_off (is_wide h.version) h.info;
      other_size = index_block_size;
      other_page = map_limit;
    }

abbrev pub symbol_kind : Family → Kind
symbol_kind f =
    record {
      head = symbol_head;
      size = symbol_block_size;
      page = symbol_page;
      first = record { at = 0; size = 0 };
      second = record { at = 0; size = 0 };
      other_size = f.block;
      other_page = f.page;
    }
