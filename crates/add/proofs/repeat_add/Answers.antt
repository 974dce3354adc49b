-- `add::repeat_add` meets its contract: another kind, or another object, is refused; the slot is found by the order. Assumes nothing.
use mathlib.Core.Path.{◌≡◌, sym, ◌∙◌}
use native.Mathlib.Omega.{arith}
use borrow.Author.Tests.{eq-eqb, ne_eqb}
use Rattle.accept.proofs.Accepting.{accepted-tells}
use Rattle.judge.proofs.Judging.{fails, passes}
use Rattle.frame.proofs.Writes.{slot-lies}
use Rattle.accept.specs.Slots.{slot_in}
use Rattle.add.specs.Objects.{is_object}
use Rattle.add.specs.Adds.{repeat_add}
use Rattle.add.proofs.repeat_add.Goals as goal
use Rattle.add.proofs.repeat_add.Goals.{then-kind-from-via-then-kind-from, then-kind-from-via-else-kind-from+then-not-is_object}

pub is_object-requires : goal.is_object-requires
is_object-requires c =
    let a = c.args in
    let h = accepted-tells a.m.now a.used a.n c.requires.0 in
    let found = c.place_of.ensures a.m.now a.n c.requires.1 c.requires.3 in
    (h.low, h.limit, h.room, omega (arith, found, (slot-lies h a.slot c.requires.3).high, h.room))

pub overflow_cast-result : goal.overflow_cast-result
overflow_cast-result c =
    let a = c.args in
    omega (arith, (accepted-tells a.m.now a.used a.n c.requires.0).limit)

pub returns-then-kind-from : goal.returns-then-kind-from
unfolding repeat_add slot_in
returns-then-kind-from c =
    let a = c.args in
    elim c.then-kind-from.branch [
      | then-kind-from-via-then-kind-from w ↦ λ j. rw (ne_eqb a.kind 1 (λ e. w.if-kind-from.true (e ∙ sym c.from.ensures)))
      | then-kind-from-via-else-kind-from+then-not-is_object w ↦
          let object : w.is_object.result ≡ is_object a.m.now a.used (slot_in a.m.now a.slot) a.o.now = rw (← w.place_of.ensures a.m.now a.n c.requires.1 c.requires.3) w.is_object.ensures in
          λ j. rw (eq-eqb a.kind 1 (w.if-kind-from.false ∙ c.from.ensures), fails object w.if-not-is_object.true)
    ]

pub returns : goal.returns
unfolding repeat_add slot_in
returns c =
    let a = c.args in
    let object : c.is_object.result ≡ is_object a.m.now a.used (slot_in a.m.now a.slot) a.o.now = rw (← c.place_of.ensures a.m.now a.n c.requires.1 c.requires.3) c.is_object.ensures in
    λ j. rw (eq-eqb a.kind 1 (c.if-kind-from.false ∙ c.from.ensures), passes object c.if-not-is_object.false)
