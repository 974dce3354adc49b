use mathlib.Core.Path.{◌≡◌}
use native.Mathlib.Omega.{arith}
use Rattle.numbers.proofs.Runs.{alike-none, alike-turn}
use Rattle.numbers.proofs.same_part.Goals as goal

pub loop-i-init : goal.loop-i-init
loop-i-init c =
    alike-none c.args.a.now c.args.b.now c.args.from

pub loop-i-preserved : goal.loop-i-preserved
loop-i-preserved c =
    alike-turn c.args.a.now c.args.b.now c.args.from c.loop-i.i (omega arith) c.loop-i.invariant

pub returns : goal.returns
returns c =
    let e : c.loop-i.i ≡ c.args.to = omega arith in
    rw e at c.loop-i.invariant
