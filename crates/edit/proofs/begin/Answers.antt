-- `edit::begin` meets its contract: the check's refusal; or 17 of an accepted map of 9 to 11; or, of one of 6 to 8, whose blocks are few enough for the lent
-- order, what the look into the journal answers. Assumes nothing.
use Prim.Native.Nat.{ℕ, ◌≤◌}
use mathlib.Core.Path.{◌≡◌, sym, ap, ◌∙◌}
use native.Mathlib.Omega.{arith}
use mathlib.Core.List.{List}
use lib.ListN.{length, take}
use Rattle.std.specs.Prelude.{Result, Ok}
use Rattle.refusals.specs.declared.Refusal.{Refusal}
use Rattle.std.proofs.lemmas.List.{length-take-le}
use Rattle.numbers.proofs.Below.{never}
use Rattle.refusals.proofs.Passing.{passed_on, refused}
use Rattle.accept.specs.Verdicts.{verdict}
use Rattle.accept.proofs.Slots.{verdict-of, accepted-wide}
use Rattle.journal.specs.declared.JournalLook.{JournalLook}
use Rattle.journal.specs.Journals.{looked}
use Rattle.edit.specs.declared.EditStart.TheVariants as starts
use Rattle.edit.proofs.Edits.{taken, order-ready, reach, ordered-by, start-refused, start-wide, start-look}
use Rattle.edit.proofs.begin.Goals as goal

pub returns-in_err-blocks : goal.returns-in_err-blocks
returns-in_err-blocks c =
    let a = c.args in
    let q = sym (verdict-of a.m.now (verdict a.m.now a.used) (sym c.in_err-blocks.was ∙ c.requires.0)) in
    (passed_on c.from_residual.result c.from_residual.ensures.1 ∙ sym (start-refused a.m.now a.used a.j.now a.e q), λ n e. absurd (refused (sym q ∙ e.0)))

pub returns-in_default : goal.returns-in_default
returns-in_default c =
    let a = c.args in
    let w = accepted-wide a.m.now (verdict a.m.now a.used) c.requires.0 (c.in_ok-blocks.was ∙ ap Ok c.in_default.is) in
    (sym (start-wide a.m.now a.used a.j.now a.e w.0 w.1), λ n e. absurd (never (sym w.1 ∙ e.1)))

pub order_blocks-requires : goal.order_blocks-requires
order_blocks-requires c =
    let t = taken c.args.m.now c.args.used c.args.order.now c.requires c.in_ok-blocks.was c.in-Accepted.is in
    order-ready t.holds c.args.order.now t.room

pub slice_bounds-slots-end : goal.slice_bounds-slots-end
slice_bounds-slots-end c =
    let t = taken c.args.m.now c.args.used c.args.order.now c.requires c.in_ok-blocks.was c.in-Accepted.is in
    omega (arith, t.room, c.order_blocks.auto.order)

pub slice_bounds-slots-end-2 : goal.slice_bounds-slots-end-2
slice_bounds-slots-end-2 c =
    let t = taken c.args.m.now c.args.used c.args.order.now c.requires c.in_ok-blocks.was c.in-Accepted.is in
    sym (length-take-le _ _ (omega (arith, t.room, c.order_blocks.auto.order)))

pub invariant_of-slots : goal.invariant_of-slots
invariant_of-slots c =
    let t = taken c.args.m.now c.args.used c.args.order.now c.requires c.in_ok-blocks.was c.in-Accepted.is in
    record { reach = reach t.holds c.order_blocks.new.order (omega (arith, t.room, c.order_blocks.auto.order)) c.order_blocks.ensures }

-- what the look answers, by the number of blocks
looked-by : (jn m : List ℕ) (e n : ℕ) (o o' : List ℕ) {l : Result JournalLook Refusal} → n ≤ length o → length o' ≡ length o → l ≡ looked jn m (length (take n o')) e
    → looked jn m n e ≡ l
looked-by jn m e n o o' g h q = sym (q ∙ ap (λ k. looked jn m k e) (length-take-le n o' (omega (arith, g, h))))

pub returns-in_err-look : goal.returns-in_err-look
returns-in_err-look c =
    let a = c.args in
    let t = taken a.m.now a.used a.order.now c.requires c.in_ok-blocks.was c.in-Accepted.is in
    let l = looked-by a.j.now a.m.now a.e c.in-Accepted.blocks a.order.now c.order_blocks.new.order t.room c.order_blocks.auto.order c.look_up.ensures in (
      passed_on c.from_residual-in_err-look.result c.from_residual-in_err-look.ensures.1 ∙ sym (start-look a.m.now a.used a.j.now a.e t.accepted (l ∙ c.in_err-look.was)),
      ordered-by a.m.now a.used c.order_blocks.new.order t.accepted c.order_blocks.ensures,
    )

pub returns-in-Held : goal.returns-in-Held
returns-in-Held c =
    let a = c.args in
    let t = taken a.m.now a.used a.order.now c.requires c.in_ok-blocks.was c.in-Accepted.is in
    let l = looked-by a.j.now a.m.now a.e c.in-Accepted.blocks a.order.now c.order_blocks.new.order t.room c.order_blocks.auto.order c.look_up.ensures in (
      sym (start-look a.m.now a.used a.j.now a.e t.accepted (l ∙ c.in_ok-look.was ∙ ap Ok c.in-Held.is)),
      ordered-by a.m.now a.used c.order_blocks.new.order t.accepted c.order_blocks.ensures,
    )

pub returns-in-New : goal.returns-in-New
returns-in-New c =
    let a = c.args in
    let t = taken a.m.now a.used a.order.now c.requires c.in_ok-blocks.was c.in-Accepted.is in
    let l = looked-by a.j.now a.m.now a.e c.in-Accepted.blocks a.order.now c.order_blocks.new.order t.room c.order_blocks.auto.order c.look_up.ensures in (
      ap (λ f. Ok (starts.New c.in-Accepted.blocks c.in-New.records f)) t.free
          ∙ sym (start-look a.m.now a.used a.j.now a.e t.accepted (l ∙ c.in_ok-look.was ∙ ap Ok c.in-New.is)),
      ordered-by a.m.now a.used c.order_blocks.new.order t.accepted c.order_blocks.ensures,
    )
