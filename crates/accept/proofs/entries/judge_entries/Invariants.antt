-- `accept::entries::judge_entries` meets its contract, by the laws of the look along the blocks of a chain. Assumes nothing.
use Prim.Native.Nat.{ℕ}
use mathlib.Core.Bool.{Bool}
use mathlib.Core.List.{List}
use Rattle.records.specs.Sizes.{entry_size}
use Rattle.judge.specs.Rules.{Family, family_for, symbol_rule_of, touches_of}
use Rattle.accept.proofs.Looking.{Along}
use Rattle.accept.proofs.entries.judge_entries.Given as goal

-- whether the entry at a place is at fault, by the chain in the place of the table
abbrev pub at-fault : Family → List ℕ → ℕ → ℕ → ℕ → Bool
at-fault f m used n = f.entry_at_fault (touches_of f m n) m used

abbrev pub invariant-loop-i : goal.invariant-loop-i
invariant-loop-i g l =
    let f = family_for g.L.Layout.wide in
    Along (symbol_rule_of f l.opened.map.m.now l.opened.blocks) l.opened.map.m.now l.opened.map.used entry_size l.k (at-fault f l.opened.map.m.now l.opened.map.used l.opened.blocks) l.at l.i
