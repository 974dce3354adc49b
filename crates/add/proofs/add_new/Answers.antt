-- `add::add_new` meets its contract: the tests come in the definition's order, and the map and the journal are written when all of them have passed.
-- Assumes nothing.
use mathlib.Core.Path.{◌≡◌, refl, sym, ap, ◌∙◌}
use mathlib.Core.Bool.{true}
use native.Mathlib.Omega.{arith}
use mathlib.Core.Logic.{⊎_elim}
use Rattle.records.specs.Journals.{record_for}
use Rattle.judge.specs.Judging.{version_of}
use Rattle.accept.proofs.Accepting.{accepted-tells}
use Rattle.judge.proofs.Judging.{fails}
use Rattle.journal.proofs.Records.{not_full, next-bytes}
use Rattle.add.specs.Objects.{offered_good}
use Rattle.edit.proofs.Edits.{few-blocks, said}
use Rattle.accept.proofs.Slots.{free-most}
use Rattle.add.proofs.Adding.{offered-most, fresh-malformed, fresh-long, fresh-tight, fresh-full, fresh-done}
use Rattle.add.proofs.add_new.Goals as goal

pub u16_at-requires : goal.u16_at-requires
u16_at-requires c =
    let a = c.args in
    let h = accepted-tells a.map.now a.used a.n c.requires.0 in
    omega (arith, h.low, h.room)

-- ---- the refusals
pub returns-then-not-offered_good : goal.returns-then-not-offered_good
returns-then-not-offered_good c =
    let offered : let a = c.args in c.offered_good.result ≡ offered_good (version_of a.map.now) a.o.now = rw (← c.u16_at.ensures) c.offered_good.ensures in
    let a = c.args in
    said refl (fresh-malformed a.map.now a.used a.journal.now a.edit a.o.now a.n (fails offered c.if-not-offered_good.true))

pub new_length-length-requires : goal.new_length-length-requires
new_length-length-requires c =
    let a = c.args in
    let good : offered_good (version_of a.map.now) a.o.now ≡ true = rw c.u16_at.ensures at (sym c.if-not-offered_good.ensures) in
    let h = accepted-tells a.map.now a.used a.n c.requires.0 in
    (h.limit, omega (arith, offered-most (version_of a.map.now) a.o.now good), omega (arith, few-blocks h))

pub returns-then-length-gt-LIMIT : goal.returns-then-length-gt-LIMIT
returns-then-length-gt-LIMIT c =
    let a = c.args in
    let good : offered_good (version_of a.map.now) a.o.now ≡ true = rw c.u16_at.ensures at (sym c.if-not-offered_good.ensures) in
    let long = c.new_length-length.ensures a.map.now c.requires.4 in
    said refl
    (⊎_elim
    (λ l. fresh-long a.map.now a.used a.journal.now a.edit a.o.now a.n good (omega (arith, long, l)))
    (λ l. fresh-tight a.map.now a.used a.journal.now a.edit a.o.now a.n good (omega (arith, long, l.0)) (omega (arith, long, l.1)))
    c.then-length-gt-LIMIT.either)

pub returns-then-full : goal.returns-then-full
returns-then-full c =
    let a = c.args in
    let good : offered_good (version_of a.map.now) a.o.now ≡ true = rw c.u16_at.ensures at (sym c.if-not-offered_good.ensures) in
    let long = c.new_length-length.ensures a.map.now c.requires.4 in
    said refl (fresh-full a.map.now a.used a.journal.now a.edit a.o.now a.n good (omega (arith, long)) (omega (arith, long)) (sym c.is_full-full.ensures ∙ c.if-full.true))

-- ---- the writes
pub write_added-requires : goal.write_added-requires
write_added-requires c =
    let a = c.args in
    let good : offered_good (version_of a.map.now) a.o.now ≡ true = rw c.u16_at.ensures at (sym c.if-not-offered_good.ensures) in
    let long = c.new_length-length.ensures a.map.now c.requires.4 in
    (c.requires.0, c.requires.1, c.requires.2, c.requires.4, good, omega (arith, long), omega (arith, long))

pub overflow_cast-s : goal.overflow_cast-s
overflow_cast-s c =
    let a = c.args in
    omega (arith, c.requires.4, free-most a.map.now a.n, few-blocks (accepted-tells a.map.now a.used a.n c.requires.0))

pub append-requires : goal.append-requires
append-requires c =
    let j = c.args.journal.now in
    (c.requires.3, omega (arith, c.requires.3, next-bytes j (not_full j (sym c.is_full-full.ensures ∙ c.if-full.false))))

pub returns : goal.returns
returns c =
    let a = c.args in
    let good : offered_good (version_of a.map.now) a.o.now ≡ true = rw c.u16_at.ensures at (sym c.if-not-offered_good.ensures) in
    let long = c.new_length-length.ensures a.map.now c.requires.4 in
    let added : c.new-record.result ≡ record_for a.edit 1 a.s = c.new-record.ensures ∙ ap (λ k. record_for a.edit k a.s) c.from.ensures in
    rw (
      fresh-done a.map.now a.used a.journal.now a.edit a.o.now a.n good (omega (arith, long)) (omega (arith, long)) (sym c.is_full-full.ensures ∙ c.if-full.false),
      ← long,
      ← c.requires.4,
      ← added,
    )
    (refl, c.write_added.ensures, c.append.ensures)
