-- `look::look_in_block` meets its contract, by the laws of the words of a block. Assumes nothing.
use Rattle.accept.specs.Opens.{slot_fault_for}
use Rattle.look.proofs.Looks.{Rows}
use Rattle.look.proofs.look_in_block.Given as goal

abbrev pub invariant-loop-q : goal.invariant-loop-q
invariant-loop-q g l = Rows g.L.Layout.wide l.map.m.now l.w (slot_fault_for g.L.Layout.wide l.map.m.now l.map.used l.map.index.now) l.block l.words l.found l.q
