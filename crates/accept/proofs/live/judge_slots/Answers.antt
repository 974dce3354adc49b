use native.Mathlib.Omega.{arith}
use Prim.Native.Nat.{ℕ, ◌+◌, ◌*◌}
use mathlib.Core.Path.{◌≡◌, sym, ap, ◌∙◌}
use mathlib.Core.Bool.{Bool}
use lib.Dec.{ltb}
use borrow.Author.Tests.{lt-ltb, le-ltb}
use Rattle.std.specs.Prelude.{Result, Ok}
use Rattle.refusals.specs.declared.Refusal.{Refusal}
use Rattle.refusals.specs.declared.Refusal.TheVariants.{BadSlot}
use Rattle.refusals.specs.Refusals.{Judged, good, unless}
use Rattle.refusals.proofs.Passing.{passed_on, unless_tells, unless_refuses}
use Rattle.numbers.specs.Below.{first}
use Rattle.numbers.proofs.Below.{First, first-law}
use Rattle.chain.specs.Cells.{cell_in}
use Rattle.chain.proofs.Chains.{walked-pass}
use Rattle.judge.specs.Rules.{Family, family_for, index_rule_of, slot_at_of}
use Rattle.judge.proofs.Rules.{sized}
use Rattle.accept.specs.Verdicts.{cells_judged, slots_judged_of}
use Rattle.accept.proofs.Firsts.{first-same, first_free, lesser-free, first_or, or-run, or-none, or-all}
use Rattle.accept.proofs.Looking.{along-start, along-inside, along-cell, along-on, along-bad, along-good, pass-few}
use Rattle.accept.proofs.live.judge_slots.Goals as goal
use Rattle.accept.proofs.live.judge_slots.Goals.{then-found-lt-SLOTS, else-found-lt-SLOTS}
use Rattle.accept.proofs.live.judge_slots.Invariants.{at-fault}

pub overflow_mul-free : goal.overflow_mul-free
overflow_mul-free g c =
    let f : Family = family_for g.L.Layout.wide in
    omega (arith, pass-few (walked-pass (index_rule_of f c.args.opened.now.map.m.now) c.args.opened.now.map.m.now c.args.opened.now.map.used c.args.opened.now.walk) (omega (arith, (sized g.L.Layout.wide).least)), c.args.opened.now.map.indexed.limit)

pub loop-k-init : goal.loop-k-init
loop-k-init g c =
    let a = c.args.opened.now in
    let f : Family = family_for g.L.Layout.wide in (
      along-start (walked-pass (index_rule_of f a.map.m.now) a.map.m.now a.map.used c.args.opened.now.walk) (omega (arith, c.args.opened.now.low)),
      sym (or-none (λ s. g.L.Layout.free a.map.m.now (slot_at_of f a.map.m.now s)) (256 * a.blocks)),
    )

pub u32_at-at-requires : goal.u32_at-at-requires
u32_at-at-requires g c = omega (arith, c.loop-k.invariant.0.room, c.args.opened.now.map.indexed.room)

pub judge_block_slots-requires : goal.judge_block_slots-requires
judge_block_slots-requires g c =
    (along-inside c.loop-k.invariant.0 c.loop-k-test.true c.u32_at-at.ensures, c.u16_at-version.ensures)

pub returns-in_err-found : goal.returns-in_err-found
unfolding slots_judged_of
returns-in_err-found g c =
    let a = c.args.opened.now in
    let f : Family = family_for g.L.Layout.wide in
    let at = c.u32_at-at.result in
    let told : c.judge_block_slots.result ≡ unless (cells_judged BadSlot (λ j. at-fault f a.map.m.now a.map.used a.blocks (cell_in at f.slot j)) (cell_in at f.slot) 256) (Ok (first (λ j. g.L.Layout.free a.map.m.now (cell_in at f.slot j)) 256)) =
    rw (at-fault, ← c.args.opened.now.touches) c.judge_block_slots.ensures
    in
    let bad = unless_refuses _ _ (sym told ∙ c.in_err-found.was) in
    passed_on c.from_residual.result c.from_residual.ensures.1
    ∙ rw (← along-bad c.loop-k.invariant.0 c.loop-k-test.true c.u32_at-at.ensures BadSlot bad)

pub overflow_mul-k : goal.overflow_mul-k
overflow_mul-k g c =
    omega (arith, pass-few c.loop-k.invariant.0.pass (omega (arith, (sized g.L.Layout.wide).least)), c.args.opened.now.map.indexed.limit)

pub overflow_add-k : goal.overflow_add-k
overflow_add-k g c =
    omega (arith, pass-few c.loop-k.invariant.0.pass (omega (arith, (sized g.L.Layout.wide).least)), c.args.opened.now.map.indexed.limit, c.if-found-lt-SLOTS.true)

pub loop-k-preserved : goal.loop-k-preserved
loop-k-preserved g c =
    let a = c.args.opened.now in
    let l = c.loop-k in
    let f : Family = family_for g.L.Layout.wide in
    let at = c.u32_at-at.result in
    let is_free : ℕ → Bool = λ s. g.L.Layout.free a.map.m.now (slot_at_of f a.map.m.now s) in
    let free : ℕ → Bool = λ j. g.L.Layout.free a.map.m.now (cell_in at f.slot j) in
    let cells : Judged = cells_judged BadSlot (λ j. at-fault f a.map.m.now a.map.used a.blocks (cell_in at f.slot j)) (cell_in at f.slot) 256 in
    let told : c.judge_block_slots.result ≡ unless cells (Ok (first free 256)) = rw (at-fault, ← c.args.opened.now.touches) c.judge_block_slots.ensures in
    let tells : (cells ≡ good) × (◌≡◌ {A = Result ℕ Refusal} (Ok (first free 256)) (Ok c.in_ok-found.found)) = unless_tells cells (sym told ∙ c.in_ok-found.was) in
    let n : ℕ = c.in_ok-found.found in
    let is : first free 256 ≡ n = let e = tells.1 in cc in
    let law : First free 256 n = rw (← is) (first-law free 256) in
    let h = first-same (λ j i. ap (g.L.Layout.free a.map.m.now) (along-cell l.invariant.0 c.loop-k-test.true c.u32_at-at.ensures j i)) law in
    let after = or-run is_free (256 * l.k) 256 (256 * a.blocks) n (omega (arith, c.loop-k-test.true)) h in
    let e : 256 * l.k + 256 ≡ 256 * (l.k + 1) = omega arith in
    let lesser : c.if-found-lt-SLOTS.free ≡ first_free (ltb n 256) l.free (256 * l.k + n) =
    elim c.if-found-lt-SLOTS.branch [
      | then-found-lt-SLOTS w ↦ w.free-is ∙ w.min-free.ensures ∙ lesser-free l.free (256 * l.k + n) ∙ rw (lt-ltb n 256 w.if-found-lt-SLOTS.true)
      | else-found-lt-SLOTS w ↦ w.free-is ∙ rw (le-ltb n 256 w.if-found-lt-SLOTS.false)
    ]
    in (
      along-on l.invariant.0 c.loop-k-test.true c.u32_at-at.ensures (omega (arith, (sized g.L.Layout.wide).least)) BadSlot tells.0,
      lesser ∙ ap (λ (x : ℕ). first_free (ltb n 256) x (256 * l.k + n)) l.invariant.1 ∙ after ∙ ap (λ (x : ℕ). first_or is_free x (256 * a.blocks)) e,
    )

pub returns : goal.returns
unfolding slots_judged_of
returns g c =
    let a = c.args.opened.now in
    let v = c.loop-k.invariant in
    let is_free : ℕ → Bool = λ s. g.L.Layout.free a.map.m.now (slot_at_of (family_for g.L.Layout.wide) a.map.m.now s) in
    let e : c.loop-k.k ≡ a.blocks = omega (arith, v.0.upto, c.loop-k-test.false) in
    rw (← along-good v.0 BadSlot c.loop-k-test.false)
    (ap Ok (v.1 ∙ ap (λ (x : ℕ). first_or is_free (256 * x) (256 * a.blocks)) e ∙ or-all is_free (256 * a.blocks)))
