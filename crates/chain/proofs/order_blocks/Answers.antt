use native.Mathlib.Omega.{arith}
use mathlib.Core.Path.{refl, sym, ◌∙◌}
use Rattle.std.proofs.lemmas.List.{length-take-le}
use Rattle.chain.specs.Chains.{place}
use Rattle.chain.proofs.Chains.{place-more, block_at}
use Rattle.chain.proofs.Cells.{ordered-more}
use borrow.Author.Count.{below_none}
use Rattle.chain.proofs.order_blocks.Goals as goal

pub loop-block-init : goal.loop-block-init
unfolding place
loop-block-init c =
    let a = c.args in
    (refl, omega arith, below_none _)

pub loop-block-preserved : goal.loop-block-preserved
loop-block-preserved c =
    let a = c.args in
    let l = c.loop-block in
    let p = c.u32_at.ensures ∙ block_at a.head a.m.now l.block-index l.invariant.0 in
    (p ∙ sym (place-more a.head a.m.now l.block-index), omega (arith, p, c.requires.1 l.block-index (omega (arith, length-take-le a.n a.order.now c.requires.2))), ordered-more a.head a.m.now l.block-index l.block-items l.invariant.2 (omega arith) p)
