-- `change::change_with` meets its contract: the start's refusal; what a held number says; or, under a new number, 12 where no Sym may be written, and else the
-- change of the slot. Assumes nothing.
use mathlib.Core.Path.{refl, sym, ◌∙◌}
use native.Mathlib.Omega.{arith}
use Rattle.records.specs.Kinds.{code_of}
use Rattle.refusals.proofs.Passing.{passed_on}
use Rattle.accept.proofs.Accepting.{accepted-tells}
use Rattle.frame.proofs.Writes.{slot-lies}
use Rattle.edit.proofs.Edits.{known_by, held-tells, new-tells, parts, said}
use Rattle.change.proofs.Changing.{sym-write, allowed-exists, repeat-map, repeat-journal, changed-refused, changed-held, changed-none, changed-write}
use Rattle.change.proofs.change_with.Goals as goal

pub examine-v-requires : goal.examine-v-requires
examine-v-requires c =
    (λ l. (c.requires.0 l).pages, c.requires.1)

pub begin-requires : goal.begin-requires
begin-requires c =
    (c.examine-v.ensures.0, λ l. (c.requires.0 l).blocks)

pub returns-in_err-start : goal.returns-in_err-start
returns-in_err-start c =
    let a = c.args in
    said (passed_on c.from_residual.result c.from_residual.ensures.1) (changed-refused a.map.now a.used a.journal.now a.edit (code_of a.kind) a.at (sym c.begin.ensures.0 ∙ c.in_err-start.was))

-- ---- a number that is held

pub repeat_change-requires : goal.repeat_change-requires
repeat_change-requires c =
    let a = c.args in
    let t = held-tells a.map.now a.used a.journal.now a.edit c.begin.ensures.0 c.in_ok-start.was c.in-Held.is in
    (accepted-tells a.map.now a.used c.in-Held.blocks t.1).limit

pub returns-in-Held : goal.returns-in-Held
returns-in-Held c =
    let a = c.args in
    let kind = code_of a.kind in
    let k = c.in-Held.held in
    let s = c.in-Held.slot in
    let t = held-tells a.map.now a.used a.journal.now a.edit c.begin.ensures.0 c.in_ok-start.was c.in-Held.is in
    let e = parts (changed-held a.map.now a.used a.journal.now a.edit kind a.at t.0) in (
      c.repeat_change.ensures a.map.now a.journal.now ∙ e.0,
      sym (repeat-map a.map.now a.used a.journal.now kind a.at k s) ∙ e.1,
      sym (repeat-journal a.map.now a.used a.journal.now kind a.at k s) ∙ e.2,
    )

-- ---- a new one

pub sym_for-requires : goal.sym_for-requires
sym_for-requires c =
    let a = c.args in
    let t = new-tells a.map.now a.used a.journal.now a.edit a.order.now c.begin.ensures.0 c.in_ok-start.was c.in-New.is (λ l. (c.requires.0 l).blocks) in (
      t.accepted,
      known_by a.map.now a.used c.in-New.blocks c.examine-v.new.index c.begin.new.order c.examine-v.ensures.0 c.examine-v.ensures.1 (c.begin.ensures.1 c.in-New.blocks t.accepted) t.accepted,
      omega (arith, (c.requires.0 t.holds.limit).pages, c.examine-v.auto.index),
      omega (arith, t.room, c.begin.auto.order),
    )

pub returns-in_default : goal.returns-in_default
returns-in_default c =
    let a = c.args in
    let t = new-tells a.map.now a.used a.journal.now a.edit a.order.now c.begin.ensures.0 c.in_ok-start.was c.in-New.is (λ l. (c.requires.0 l).blocks) in
    said refl (changed-none a.map.now a.used a.journal.now a.edit (code_of a.kind) a.at t.start (sym c.sym_for.ensures ∙ c.in_default.is))

pub place_of-place-requires : goal.place_of-place-requires
place_of-place-requires c =
    let a = c.args in
    let kind = code_of a.kind in
    let n = c.in-New.blocks in
    let t = new-tells a.map.now a.used a.journal.now a.edit a.order.now c.begin.ensures.0 c.in_ok-start.was c.in-New.is (λ l. (c.requires.0 l).blocks) in
    let exists = allowed-exists kind a.map.now a.used n a.at (sym-write kind a.map.now a.used n a.at (sym c.sym_for.ensures ∙ c.in-Some.is)).0 in
    omega (arith, exists, t.room, c.begin.auto.order)

pub change_slot-requires : goal.change_slot-requires
change_slot-requires c =
    let a = c.args in
    let kind = code_of a.kind in
    let n = c.in-New.blocks in
    let t = new-tells a.map.now a.used a.journal.now a.edit a.order.now c.begin.ensures.0 c.in_ok-start.was c.in-New.is (λ l. (c.requires.0 l).blocks) in
    let exists = allowed-exists kind a.map.now a.used n a.at (sym-write kind a.map.now a.used n a.at (sym c.sym_for.ensures ∙ c.in-Some.is)).0 in
    let place = c.place_of-place.ensures a.map.now n (c.begin.ensures.1 n t.accepted) exists in
    (t.holds.limit, place, omega (arith, place, (slot-lies t.holds a.at exists).high, t.holds.room), t.records)

pub returns-in-Some : goal.returns-in-Some
returns-in-Some c =
    let a = c.args in
    let t = new-tells a.map.now a.used a.journal.now a.edit a.order.now c.begin.ensures.0 c.in_ok-start.was c.in-New.is (λ l. (c.requires.0 l).blocks) in
    let e = parts (changed-write a.map.now a.used a.journal.now a.edit (code_of a.kind) a.at t.start (sym c.sym_for.ensures ∙ c.in-Some.is)) in
    (c.change_slot.ensures.0 ∙ e.0, c.change_slot.ensures.1 ∙ e.1, c.change_slot.ensures.2 ∙ e.2)
