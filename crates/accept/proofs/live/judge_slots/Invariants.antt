-- `accept::live::judge_slots` meets its contract, by the laws of the look along the blocks of a chain. Assumes nothing.
use Prim.Native.Nat.{ℕ, ◌*◌}
use mathlib.Core.Path.{◌≡◌}
use mathlib.Core.Bool.{Bool}
use mathlib.Core.List.{List}
use Rattle.judge.specs.Rules.{Family, family_for, index_rule_of, touches_of, slot_at_of}
use Rattle.accept.proofs.Firsts.{first_or}
use Rattle.accept.proofs.Looking.{Along}
use Rattle.accept.proofs.live.judge_slots.Given as goal

-- whether the slot at a place is at fault, by the chain in the place of the table
abbrev pub at-fault : Family → List ℕ → ℕ → ℕ → ℕ → Bool
at-fault f m used n = f.slot_at_fault (touches_of f m n) m used

abbrev pub invariant-loop-k : goal.invariant-loop-k
invariant-loop-k g l =
    let f = family_for g.L.Layout.wide in
    Along (index_rule_of f l.opened.map.m.now) l.opened.map.m.now l.opened.map.used f.slot l.opened.blocks (at-fault f l.opened.map.m.now l.opened.map.used l.opened.blocks) l.at l.k
    × (l.free ≡ first_or (λ s. g.L.Layout.free l.opened.map.m.now (slot_at_of f l.opened.map.m.now s)) (256 * l.k) (256 * l.opened.blocks))
