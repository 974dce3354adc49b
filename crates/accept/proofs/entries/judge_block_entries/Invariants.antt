-- `accept::entries::judge_block_entries` meets its contract, by the laws of the look at the cells of a block. Assumes nothing.
use Rattle.records.specs.Sizes.{entry_size}
use Rattle.chain.specs.Cells.{cell_in}
use Rattle.accept.specs.Opens.{entry_fault}
use Rattle.accept.proofs.Looking.{Looking}
use Rattle.accept.proofs.entries.judge_block_entries.Given as goal

abbrev pub invariant-loop-e : goal.invariant-loop-e
invariant-loop-e g l = Looking (cell_in l.block entry_size) 256 (entry_fault g.L.Layout.wide l.map.m.now l.map.used l.map.index.now) l.e
