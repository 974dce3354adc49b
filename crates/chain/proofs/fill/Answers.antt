use native.Mathlib.Omega.{arith}
use Prim.Native.Nat.{◌+◌}
use mathlib.Core.Path.{◌≡◌, ◌∙◌}
use lib.ListN.{take, length}
use Rattle.std.proofs.lemmas.List.{length-take-le}
use Rattle.chain.specs.Tables.{last_below, end_of}
use Rattle.chain.proofs.Filling.{carried_none, carried-more, carried-front, last_none, last-full, last_empty}
use Rattle.chain.proofs.fill.Goals as goal
use Rattle.chain.proofs.fill.Goals.{else-entry-ne0, then-entry-ne0}

pub loop-entry-init : goal.loop-entry-init
loop-entry-init c =
    (last_none _ _, carried_none _ _)

pub loop-entry-preserved : goal.loop-entry-preserved
loop-entry-preserved c =
    let l = c.loop-entry in
    let last : c.if-entry-ne0.last ≡ end_of c.args.size (last_below (take c.args.k c.args.t.now) (l.entry-index + 1)) =
    elim c.if-entry-ne0.branch [ then-entry-ne0 w ↦ w.last-is ∙ last-full l.invariant.1 w.if-entry-ne0.true | else-entry-ne0 w ↦ w.last-is ∙ last_empty l.invariant.1 w.if-entry-ne0.false l.invariant.0 ] in
    (last, carried-more l.invariant.1 (omega arith) last)

pub returns : goal.returns
returns c =
    let l = c.loop-entry in
    let all : length (take c.args.k c.args.t.now) ≡ c.args.k = length-take-le c.args.k c.args.t.now c.requires.0 in
    let e : l.entry-index ≡ c.args.k = omega arith in
    carried-front (omega arith) (rw e at l.invariant.1)
