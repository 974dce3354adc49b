-- `add::is_object` meets its contract: each test that fails settles the answer, and the last one is that of the part of the map where the object lies.
-- Assumes nothing.
use Prim.Native.Nat.{◌+◌, ◌-◌}
use mathlib.Core.Path.{◌≡◌}
use native.Mathlib.Omega.{arith}
use Rattle.numbers.proofs.Ranges.{within_low, within-high, within-is}
use Rattle.slots.specs.Slots.{slot_of, bytes_in}
use Rattle.judge.specs.Judging.{version_of}
use Rattle.judge.proofs.Judging.{bytes_most}
use Rattle.add.specs.Objects.{is_object}
use Rattle.add.proofs.is_object.Goals as goal
use Rattle.add.proofs.is_object.Goals.{then-start-lt-SIZE-via-then-start-lt-SIZE, then-start-lt-SIZE-via-else-start-lt-SIZE+then-used-end}

pub overflow_add-end : goal.overflow_add-end
overflow_add-end c =
    omega (arith, c.bytes_in.ensures, bytes_most c.u16_at.result c.at-t.result.len, c.at-t.type_inv)

pub returns-then-start-lt-SIZE : goal.returns-then-start-lt-SIZE
unfolding is_object
returns-then-start-lt-SIZE c =
    let bytes : let a = c.args in c.bytes_in.result ≡ bytes_in (version_of a.m.now) (slot_of a.m.now a.at).len = rw (← c.u16_at.ensures, ← c.at-t.ensures) c.bytes_in.ensures in
    elim c.then-start-lt-SIZE.branch [
      | then-start-lt-SIZE-via-then-start-lt-SIZE w ↦ rw (← c.at-t.ensures, within_low _ _ _ _ w.if-start-lt-SIZE.true)
      | then-start-lt-SIZE-via-else-start-lt-SIZE+then-used-end w ↦ rw (← bytes, ← c.at-t.ensures, within-high _ _ _ _ w.if-used-end.true)
    ]

pub returns : goal.returns
unfolding is_object
returns c =
    let bytes : let a = c.args in c.bytes_in.result ≡ bytes_in (version_of a.m.now) (slot_of a.m.now a.at).len = rw (← c.u16_at.ensures, ← c.at-t.ensures) c.bytes_in.ensures in
    let t = c.at-t.result in
    let e : t.position + c.bytes_in.result - t.position ≡ c.bytes_in.result = omega arith in
    rw (← bytes, ← c.at-t.ensures, within-is _ _ _ _ c.if-start-lt-SIZE.false c.if-used-end.false, ← e) c.same.ensures
