-- `look::words::look_in_word` meets its contract, by the laws of the look at the cells and of their bits. Assumes nothing.
use Rattle.bits.specs.Bits.{word_bits}
use Rattle.judge.specs.Rules.{family_for}
use Rattle.accept.specs.Opens.{slot_fault_for}
use Rattle.accept.proofs.Looking.{Looking}
use Rattle.look.specs.Looks.{slot_from, live_from}
use Rattle.look.proofs.Looks.{Looks}
use Rattle.look.proofs.words.look_in_word.Given as goal

abbrev pub invariant-loop-j : goal.invariant-loop-j
invariant-loop-j g l =
    let f = family_for g.L.Layout.wide in
    Looking (slot_from f.slot l.from) word_bits (slot_fault_for g.L.Layout.wide l.map.m.now l.map.used l.map.index.now) l.j
    × Looks (live_from f l.map.m.now l.w l.from) l.bits l.j
