use native.Mathlib.Omega.{arith}
use mathlib.Core.Path.{refl}
use lib.ListN.{length-set}
use Rattle.chain.specs.Tables.{kind_rule}
use Rattle.chain.proofs.Tables.{ready-same}
use Rattle.chain.proofs.Walking.{walk_start, On, walk-on, walk_end, walk-fault}
use Rattle.chain.proofs.walk_chain.Goals as goal
use Rattle.chain.proofs.walk_chain.Goals.{Else-not-can_be_block}

-- what the turn that takes a block needs
on : (c : Else-not-can_be_block) → On c.loop-kind.invariant.2 c.u32_at-p.ensures
on c =
    let i = c.loop-kind.invariant in
    walk-on i.2 c.u32_at-p.ensures i.1.bounds.block-least i.1.page-least i.1.page-most i.1.wide c.if-p-eq0.false c.can_be_block.ensures c.if-not-can_be_block.false

pub loop-kind-init : goal.loop-kind-init
loop-kind-init c =
    let a = c.args in
    let pre = c.requires in
    (refl, pre.1, walk_start (kind_rule a.kind a.other.now) a.kind.page a.m.now a.used a.t.now (omega arith) pre.2)

pub returns-then-p-eq0 : goal.returns-then-p-eq0
returns-then-p-eq0 c =
    let i = c.loop-kind.invariant in
    walk_end i.2 c.u32_at-p.ensures i.1.bounds.block-least c.if-p-eq0.true

pub returns-then-not-can_be_block : goal.returns-then-not-can_be_block
returns-then-not-can_be_block c =
    let i = c.loop-kind.invariant in
    walk-fault i.2 c.u32_at-p.ensures i.1.bounds.block-least c.if-p-eq0.false c.can_be_block.ensures c.if-not-can_be_block.true

pub bounds-t-p : goal.bounds-t-p
bounds-t-p c = (on c).fits

pub overflow_add-n : goal.overflow_add-n
overflow_add-n c = omega (arith, (on c).count)

pub loop-kind-smaller : goal.loop-kind-smaller
loop-kind-smaller c = omega (arith, (on c).less)

pub loop-kind-preserved : goal.loop-kind-preserved
loop-kind-preserved c =
    let i = c.loop-kind.invariant in
    (simp length-set i.0, ready-same (simp length-set) i.1, (on c).next)
