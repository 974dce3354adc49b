use native.Mathlib.Omega.{arith}
use Prim.Native.Nat.{ℕ, ◌+◌, ◌*◌, ◌≤◌, ◌<◌}
use mathlib.Core.Path.{◌≡◌, sym, ap, ◌∙◌}
use mathlib.Core.Bool.{Bool, true, false}
use Rattle.std.specs.Prelude.{Result, Ok, Err}
use Rattle.refusals.specs.declared.Refusal.{Refusal}
use Rattle.refusals.specs.declared.Refusal.TheVariants.{BadSlot}
use Rattle.refusals.specs.Refusals.{Judged, unless}
use Rattle.numbers.specs.Below.{first}
use Rattle.chain.specs.Cells.{cell_in}
use Rattle.judge.specs.Rules.{Family, family_for}
use Rattle.accept.specs.Opens.{slot_fault_for}
use Rattle.accept.specs.Verdicts.{cells_judged}
use Rattle.accept.proofs.Firsts.{first_free, lesser-free, first_or, or-found, or-not, or-none, or-all}
use Rattle.accept.proofs.Looking.{look-start, look-on, look-bad, look-good}
use Rattle.accept.proofs.live.judge_block_slots.Goals as goal
use Rattle.accept.proofs.live.judge_block_slots.Goals.{then-is_free, else-is_free}

-- a slot lies in its block
cell-fits : (b : Bool) (j : ℕ) → j < 256 → 4 + (family_for b).slot * j + (family_for b).slot ≤ (family_for b).block
cell-fits true j l = omega arith
cell-fits false j l = omega arith

pub loop-j-init : goal.loop-j-init
loop-j-init g c =
    let a = c.args in
    let f : Family = family_for g.L.Layout.wide in
    (look-start, sym (or-none (λ j. g.L.Layout.free a.map.now.m.now (cell_in a.block f.slot j)) 256))

pub slot_at_fault-requires : goal.slot_at_fault-requires
unfolding cell_in
slot_at_fault-requires g c =
    (omega (arith, cell-fits g.L.Layout.wide c.loop-j.j c.loop-j-test.true, c.slot_place-at.ensures, c.requires.0), c.requires.1)

pub overflow_cast-result : goal.overflow_cast-result
unfolding cell_in
overflow_cast-result g c =
    omega (arith, cell-fits g.L.Layout.wide c.loop-j.j c.loop-j-test.true, c.slot_place-at.ensures, c.requires.0, c.args.map.now.indexed.limit)

pub is_free-requires : goal.is_free-requires
unfolding cell_in
is_free-requires g c =
    omega (arith, cell-fits g.L.Layout.wide c.loop-j.j c.loop-j-test.true, c.slot_place-at.ensures, c.requires.0, c.args.map.now.indexed.room)

pub returns-then-slot_at_fault : goal.returns-then-slot_at_fault
returns-then-slot_at_fault g c =
    let a = c.args in
    let f : Family = family_for g.L.Layout.wide in
    let cells : Judged = cells_judged BadSlot (λ j. slot_fault_for g.L.Layout.wide a.map.now.m.now a.map.now.used a.map.now.index.now (cell_in a.block f.slot j)) (cell_in a.block f.slot) 256 in
    let free : ℕ = first (λ j. g.L.Layout.free a.map.now.m.now (cell_in a.block f.slot j)) 256 in
    let bad : Err (BadSlot c.slot_place-at.result) ≡ cells = look-bad c.loop-j.invariant.0 c.slot_place-at.ensures c.loop-j-test.true c.slot_at_fault.ensures c.if-slot_at_fault.true BadSlot in
    let told : ◌≡◌ {A = Result ℕ Refusal} (Err (BadSlot c.slot_place-at.result)) (unless cells (Ok free)) = ap (λ (j : Judged). unless j (Ok free)) bad in
    told

pub loop-j-preserved : goal.loop-j-preserved
loop-j-preserved g c =
    let a = c.args in
    let l = c.loop-j in
    let f : Family = family_for g.L.Layout.wide in
    let free : ℕ → Bool = λ j. g.L.Layout.free a.map.now.m.now (cell_in a.block f.slot j) in
    let here = ap (g.L.Layout.free a.map.now.m.now) (sym c.slot_place-at.ensures) in
    let found : c.if-is_free.free ≡ first_or free (l.j + 1) 256 =
    elim c.if-is_free.branch [
      | then-is_free w ↦ w.free-is ∙ w.min-free.ensures ∙ lesser-free l.free l.j ∙ ap (λ (x : ℕ). first_free true x l.j) l.invariant.1
          ∙ or-found free l.j 256 c.loop-j-test.true (here ∙ sym c.is_free.ensures ∙ w.if-is_free.true)
      | else-is_free w ↦ w.free-is ∙ l.invariant.1 ∙ or-not free l.j 256 c.loop-j-test.true (here ∙ sym c.is_free.ensures ∙ w.if-is_free.false)
    ]
    in
    (look-on l.invariant.0 c.slot_place-at.ensures c.loop-j-test.true c.slot_at_fault.ensures c.if-slot_at_fault.false, found)

pub returns : goal.returns
returns g c =
    let a = c.args in
    let f : Family = family_for g.L.Layout.wide in
    let free : ℕ → Bool = λ j. g.L.Layout.free a.map.now.m.now (cell_in a.block f.slot j) in
    let v = c.loop-j.invariant in
    let e : c.loop-j.j ≡ 256 = omega (arith, v.0.upto, c.loop-j-test.false) in
    rw (← look-good v.0 c.loop-j-test.false BadSlot) (ap Ok (v.1 ∙ ap (λ (x : ℕ). first_or free x 256) e ∙ or-all free 256))
