-- `look::look_in_layout` meets its contract, by the laws of the look along the blocks. Assumes nothing.
use Rattle.look.proofs.Looks.{Marking}
use Rattle.look.proofs.look_in_layout.Given as goal

abbrev pub invariant-loop-k : goal.invariant-loop-k
invariant-loop-k g l = Marking g.L.Layout.wide l.opened.map.m.now l.w l.opened.map.used l.opened.blocks l.words l.at l.count l.k
