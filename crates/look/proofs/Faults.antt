-- Where a slot at fault stands. Assumes nothing.
--     slot-past, slot-low   a slot stands behind its block's link, and inside the map where its block does
--     fault-low             so the place that a refused look answers is that of a slot inside the map
use Prim.Native.Nat.{ℕ, ◌+◌, ◌*◌, ◌≤◌, ◌<◌}
use mathlib.Core.Bool.{Bool, true, false}
use mathlib.Core.Path.{◌≡◌}
use mathlib.Core.List.{List}
use native.Mathlib.Omega.{arith}
use Rattle.std.specs.Prelude.{Err}
use Rattle.refusals.specs.declared.Refusal.TheVariants.{BadSlot}
use Rattle.numbers.specs.Below.{first}
use Rattle.records.specs.Sizes.{map_limit}
use Rattle.records.specs.Headers.{is_wide}
use Rattle.chain.specs.Cells.{cell_in}
use Rattle.chain.proofs.Chains.{walked-pass}
use Rattle.chain.proofs.Cells.{cell_lies}
use Rattle.judge.specs.Judging.{version_of}
use Rattle.judge.specs.Rules.{Family, family_for, family_of, index_rule_of, touches_of, slot_at_of}
use Rattle.accept.specs.Opens.{Open}
use Rattle.accept.specs.Verdicts.{slots_judged, slots_judged_of}
use Rattle.accept.proofs.Looking.{cells-fault}

pub slot-past : (block z j : ℕ) → cell_in block z j ≡ 0 → ⊥
unfolding cell_in
slot-past block z j e = omega arith

pub slot-low : (b : Bool) (block used j : ℕ) → block + (family_for b).block ≤ used → j < 256 → cell_in block (family_for b).slot j ≤ used
unfolding cell_in
slot-low true block used j l h = omega arith
slot-low false block used j l h = omega arith

-- 256 slots and a link are a block
block-room : (b : Bool) → 4 + 256 * (family_for b).slot ≤ (family_for b).block
block-room true = omega arith
block-room false = omega arith

pub fault-low : {m : List ℕ} {used n p : ℕ} {t : List ℕ} → Open m used n t → slots_judged m used n ≡ Err (BadSlot p) → (p ≤ map_limit) × (p ≡ 0 → ⊥)
unfolding slots_judged_of
fault-low {m} {used} {n} {p} o e =
    let f : Family = family_of m in
    let bad : ℕ → Bool = λ s. f.slot_at_fault (touches_of f m n) m used (slot_at_of f m s) in
    let g = cells-fault BadSlot bad (slot_at_of f m) (256 * n) e in
    let is : p ≡ slot_at_of f m (first bad (256 * n)) = let h = g.0 in cc in
    let k = cell_lies (walked-pass (index_rule_of f m) m used o.index) f.slot (block-room (is_wide (version_of m))) (first bad (256 * n)) g.1 in
    (omega (arith, k.high, is, o.indexed.limit), λ z. omega (arith, k.low, is, z))
