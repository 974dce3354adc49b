use Prim.Native.Nat.{◌<◌}
use mathlib.Core.Path.{◌≡◌, sym, ◌∙◌}
use native.Mathlib.Omega.{arith}
use lib.ListN.{length}
use borrow.Author.Tests.{eq-eqb, ne_eqb}
use Rattle.journal.specs.Journals.{total}
use Rattle.journal.proofs.Trees.{planted_within}
use Rattle.journal.proofs.Passes.{passed_none, passed-planted, passed-all, shape-bad, slot-bad, number-bad, passed-more}
use Rattle.journal.proofs.judge_records.Goals as goal
use Rattle.journal.proofs.judge_records.Goals.{else-r-e, then-r-e, then-not-shape_good-via-then-not-shape_good, then-not-shape_good-via-else-not-shape_good+then-not-is_used}

pub loop-i-init : goal.loop-i-init
loop-i-init c =
    let p = c.requires in
    passed_none _ _ _ _ _ p.1 p.2 p.3 p.4

pub returns-then-is_unused : goal.returns-then-is_unused
returns-then-is_unused c =
    passed-all c.loop-i.invariant (omega arith) (λ l. rw (← c.record_in-r.ensures, ← c.is_unused.ensures) c.if-is_unused.true)

pub returns-then-not-shape_good : goal.returns-then-not-shape_good
returns-then-not-shape_good c =
    let used = sym c.is_unused.ensures ∙ c.if-is_unused.false in
    elim c.then-not-shape_good.branch [
      | then-not-shape_good-via-then-not-shape_good w ↦
          shape-bad (record { passed = c.loop-i.invariant; within = omega arith; read = c.record_in-r.ensures }) used
          (sym c.shape_good.ensures ∙ w.if-not-shape_good.true)
      | then-not-shape_good-via-else-not-shape_good+then-not-is_used w ↦
          slot-bad (record { passed = c.loop-i.invariant; within = omega arith; read = c.record_in-r.ensures }) used
          (sym c.shape_good.ensures ∙ w.if-not-shape_good.false) (sym w.is_used.ensures ∙ w.if-not-is_used.true)
    ]

pub offset_bounds-links-at : goal.offset_bounds-links-at
offset_bounds-links-at c =
    let inside : c.link_for-at.result < length c.loop-i.links = planted_within (passed-planted c.loop-i.invariant) c.link_for-at.ensures.down in
    omega (arith, c.loop-i.invariant.most)

pub bounds-links-at : goal.bounds-links-at
bounds-links-at c =
    planted_within (passed-planted c.loop-i.invariant) c.link_for-at.ensures.down

pub returns-then-link-ne0 : goal.returns-then-link-ne0
returns-then-link-ne0 c =
    let used = sym c.is_unused.ensures ∙ c.if-is_unused.false in
    let shaped = sym c.shape_good.ensures ∙ c.if-not-shape_good.false in
    let slotted = sym c.is_used.ensures ∙ c.if-not-is_used.false in
    number-bad (record { passed = c.loop-i.invariant; within = omega arith; read = c.record_in-r.ensures })
    used shaped slotted c.link_for-at.ensures (omega arith)

pub loop-i-preserved : goal.loop-i-preserved
loop-i-preserved c =
    let shaped = sym c.shape_good.ensures ∙ c.if-not-shape_good.false in
    let slotted = sym c.is_used.ensures ∙ c.if-not-is_used.false in
    passed-more (record { passed = c.loop-i.invariant; within = omega arith; read = c.record_in-r.ensures })
    shaped slotted c.link_for-at.ensures (omega arith) _
    (elim c.if-r-e.branch [ then-r-e y ↦ rw (eq-eqb _ _ y.if-r-e.true) y.held-is | else-r-e y ↦ rw (ne_eqb _ _ y.if-r-e.false) y.held-is ])

pub returns : goal.returns
returns c =
    let all : c.loop-i.i ≡ total c.args.j.now = omega arith in
    rw (← all) (passed-all c.loop-i.invariant (omega arith) (λ l. let no_way : ⊥ = omega arith in absurd no_way))
