-- `add::add_with` meets its contract: it is refused, repeated or made, as the start says. Assumes nothing.
use mathlib.Core.Path.{sym, ◌∙◌}
use native.Mathlib.Omega.{arith}
use Rattle.refusals.proofs.Passing.{passed_on}
use Rattle.accept.proofs.Accepting.{accepted-tells}
use Rattle.edit.proofs.Edits.{blocks-fit, held-tells, new-tells, said}
use Rattle.add.proofs.Adding.{held-there, added-refused, added-held, added_new, repeat-keeps}
use Rattle.add.proofs.add_with.Goals as goal

pub examine-v-requires : goal.examine-v-requires
examine-v-requires c =
    (λ l. (c.requires.0 l).pages, c.requires.1)

pub begin-requires : goal.begin-requires
begin-requires c =
    (c.examine-v.ensures.0, λ l. (c.requires.0 l).blocks)

pub returns-in_err-start : goal.returns-in_err-start
returns-in_err-start c =
    let a = c.args in
    said (passed_on c.from_residual.result c.from_residual.ensures.1) (added-refused a.map.now a.used a.journal.now a.edit a.o.now (sym c.begin.ensures.0 ∙ c.in_err-start.was))

pub repeat_add-requires : goal.repeat_add-requires
repeat_add-requires c =
    let a = c.args in
    let n = c.in-Held.blocks in
    let t = held-tells a.map.now a.used a.journal.now a.edit c.begin.ensures.0 c.in_ok-start.was c.in-Held.is in
    let h = accepted-tells a.map.now a.used n t.1 in
    (t.1, c.begin.ensures.1 n t.1, omega (arith, blocks-fit h a.order.now (c.requires.0 h.limit).blocks, c.begin.auto.order), held-there a.journal.now a.map.now n a.edit c.in-Held.kind c.in-Held.slot t.2)

pub add_new-requires : goal.add_new-requires
add_new-requires c =
    let a = c.args in
    let t = new-tells a.map.now a.used a.journal.now a.edit a.order.now c.begin.ensures.0 c.in_ok-start.was c.in-New.is (λ l. (c.requires.0 l).blocks) in
    (t.accepted, c.begin.ensures.1 c.in-New.blocks t.accepted, omega (arith, t.room, c.begin.auto.order), t.records, t.free)

pub returns-in-Held : goal.returns-in-Held
returns-in-Held c =
    let a = c.args in
    let t = held-tells a.map.now a.used a.journal.now a.edit c.begin.ensures.0 c.in_ok-start.was c.in-Held.is in
    let k = repeat-keeps a.map.now a.used a.journal.now a.o.now c.in-Held.kind c.in-Held.slot in
    rw (added-held a.map.now a.used a.journal.now a.edit a.o.now c.in-Held.blocks c.in-Held.kind c.in-Held.slot t.0)
    (c.repeat_add.ensures a.journal.now, k.0, k.1)

pub returns-in-New : goal.returns-in-New
returns-in-New c =
    let a = c.args in
    let t = new-tells a.map.now a.used a.journal.now a.edit a.order.now c.begin.ensures.0 c.in_ok-start.was c.in-New.is (λ l. (c.requires.0 l).blocks) in
    rw (added_new a.map.now a.used a.journal.now a.edit a.o.now c.in-New.blocks c.in-New.records c.in-New.free t.start) c.add_new.ensures
