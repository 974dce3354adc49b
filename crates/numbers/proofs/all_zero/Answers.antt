use mathlib.Core.Path.{◌≡◌, ◌∙◌}
use Prim.Native.Nat.{◌+◌, ◌-◌}
use native.Mathlib.Nat.{add-zero, add_assoc}
use native.Mathlib.Omega.{arith}
use lib.ListN.{length, length-drop, get_or, take, drop}
use lib.Seq.{get_or-take, get_or-drop, length-take-le}
use Rattle.numbers.proofs.Runs.{zeros-none, zeros-turn}
use Rattle.numbers.proofs.all_zero.Goals as goal

pub loop-x-init : goal.loop-x-init
loop-x-init c =
    rw add-zero (zeros-none c.args.b.now c.args.from)

pub loop-x-preserved : goal.loop-x-preserved
loop-x-preserved c =
    let b = c.args.b.now in
    let from = c.args.from in
    let i = c.loop-x.x-index in
    let k = length b - from in
    let l : length (take k (drop from b)) ≡ k = length-take-le k (drop from b) (omega (arith, length-drop from b)) in
    let e : get_or (take k (drop from b)) i 0 ≡ get_or b (from + i) 0 = get_or-take k (drop from b) i 0 (omega (arith, l)) ∙ get_or-drop from b i 0 in
    rw (e, ← add_assoc) (zeros-turn b from (from + i) (omega arith) c.loop-x.invariant)

pub returns : goal.returns
returns c =
    let b = c.args.b.now in
    let k = length b - c.args.from in
    let l : length (take k (drop c.args.from b)) ≡ k = length-take-le k (drop c.args.from b) (omega (arith, length-drop c.args.from b)) in
    let e : c.args.from + c.loop-x.x-index ≡ length b = omega (arith, l) in
    rw (← e) c.loop-x.invariant
