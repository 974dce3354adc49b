use Prim.Native.Nat.{◌-◌, ◌<◌}
use mathlib.Core.Path.{◌≡◌}
use native.Mathlib.Omega.{arith}
use lib.ListN.{length, get_or}
use Rattle.journal.proofs.Trees.{going-first, going_on, going-none, going-found, planted_within}
use Rattle.journal.proofs.link_for.Goals as goal

pub loop-k-init : goal.loop-k-init
loop-k-init c =
    (c.requires, going-first _ _ _ _ c.spread-bits.ensures)

pub offset_bounds-links-at : goal.offset_bounds-links-at
offset_bounds-links-at c =
    let inside : c.loop-k.at < length c.args.links.now = planted_within c.requires c.loop-k.invariant.1.down in
    omega (arith, c.requires.most)

pub bounds-links-at : goal.bounds-links-at
bounds-links-at c =
    planted_within c.requires c.loop-k.invariant.1.down

pub returns-then-record_in-number : goal.returns-then-record_in-number
returns-then-record_in-number c =
    let same : c.in-Some.k ≡ get_or c.args.links.now c.loop-k.at 0 - 1 = omega (arith, c.in-Some.ensures) in
    going-found c.loop-k.invariant.1 (rw (← same, ← c.record_in.ensures) c.if-record_in-number.true)

pub loop-k-preserved : goal.loop-k-preserved
loop-k-preserved c =
    let same : c.in-Some.k ≡ get_or c.args.links.now c.loop-k.at 0 - 1 = omega (arith, c.in-Some.ensures) in
    (c.requires, rw same (going_on c.loop-k.invariant.1 (omega (arith, c.in-Some.ensures)) (rw (← same, ← c.record_in.ensures) c.if-record_in-number.false)))

pub returns : goal.returns
returns c =
    going-none c.loop-k.invariant.1 (omega (arith, c.in_default.ensures))
