-- `accept::live::judge_block_slots` meets its contract, by the laws of the look at the cells of a block. Assumes nothing.
use mathlib.Core.Path.{◌≡◌}
use Rattle.chain.specs.Cells.{cell_in}
use Rattle.judge.specs.Rules.{family_for}
use Rattle.accept.specs.Opens.{slot_fault_for}
use Rattle.accept.proofs.Firsts.{first_or}
use Rattle.accept.proofs.Looking.{Looking}
use Rattle.accept.proofs.live.judge_block_slots.Given as goal

abbrev pub invariant-loop-j : goal.invariant-loop-j
invariant-loop-j g l =
    let f = family_for g.L.Layout.wide in
    Looking (cell_in l.block f.slot) 256 (slot_fault_for g.L.Layout.wide l.map.m.now l.map.used l.map.index.now) l.j
    × (l.free ≡ first_or (λ j. g.L.Layout.free l.map.m.now (cell_in l.block f.slot j)) l.j 256)
