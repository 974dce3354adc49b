use Prim.Native.Nat.{◌+◌, ◌*◌, ◌/◌}
use mathlib.Core.Path.{◌≡◌, sym}
use native.Mathlib.Omega.{arith}
use lib.ListN.{length}
use Rattle.numbers.proofs.Runs.{same_not, same_by, alike-none, alike-join}
use Rattle.numbers.proofs.same.Goals as goal

pub returns-then-a-b : goal.returns-then-a-b
returns-then-a-b c =
    sym (same_not _ _ c.if-a-b.true)

pub loop-k-init : goal.loop-k-init
loop-k-init c =
    alike-none c.args.a.now c.args.b.now 0

pub loop-k-preserved : goal.loop-k-preserved
loop-k-preserved c =
    let a = c.args in
    let k = c.loop-k.k in
    let e : 512 * k + 512 ≡ 512 * (k + 1) = omega arith in
    rw e at (alike-join a.a.now a.b.now 0 (512 * k) (512 * k + 512) (omega arith) (omega arith) c.loop-k.invariant c.same_part-alike.ensures)

pub returns : goal.returns
returns c =
    let a = c.args in
    let e : c.loop-k.k ≡ length a.a.now / 512 = omega arith in
    same_by a.a.now a.b.now c.if-a-b.false (alike-join a.a.now a.b.now 0 (512 * (length a.a.now / 512)) (length a.a.now) (omega arith) (omega arith) (rw e at c.loop-k.invariant) c.same_part.ensures)
