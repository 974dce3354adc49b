-- `change::change_slot` meets its contract: a full journal is refused before a byte is written; else the slot's Sym and the record are stored. Assumes nothing.
use mathlib.Core.Path.{◌≡◌, refl, sym, ap, ◌∙◌}
use mathlib.Core.Bool.{false}
use native.Mathlib.Omega.{arith}
use Rattle.records.specs.Journals.{record_for}
use Rattle.records.specs.Kinds.{code_of}
use Rattle.journal.specs.Journals.{is_full, appended}
use Rattle.journal.proofs.Records.{not_full, next-bytes}
use Rattle.change.specs.Slots.{with_sym}
use Rattle.edit.proofs.Edits.{parts, said}
use Rattle.change.proofs.Changing.{fresh-full, fresh-done}
use Rattle.change.proofs.change_slot.Goals as goal

pub returns-then-is_full : goal.returns-then-is_full
returns-then-is_full c =
    let a = c.args in
    said refl (fresh-full a.map.now a.used a.journal.now a.edit (code_of a.kind) a.at a.sym (sym c.is_full.ensures ∙ c.if-is_full.true))

pub append-requires : goal.append-requires
append-requires c =
    let room : is_full c.args.journal.now ≡ false = sym c.is_full.ensures ∙ c.if-is_full.false in
    let j = c.args.journal.now in
    (c.requires.3, omega (arith, c.requires.3, next-bytes j (not_full j room)))

pub returns : goal.returns
unfolding with_sym
returns c =
    let room : is_full c.args.journal.now ≡ false = sym c.is_full.ensures ∙ c.if-is_full.false in
    let a = c.args in
    let e = parts (fresh-done a.map.now a.used a.journal.now a.edit (code_of a.kind) a.at a.sym room) in (
      e.0,
      (rw c.requires.1 at c.put_sym.ensures) ∙ e.1,
      c.append.ensures ∙ ap (appended a.journal.now) (c.new-record.ensures ∙ ap (λ k. record_for a.edit k a.at) c.from.ensures) ∙ e.2,
    )
