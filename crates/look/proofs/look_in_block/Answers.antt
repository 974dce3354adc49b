use native.Mathlib.Omega.{arith}
use Prim.Native.Nat.{ℕ, ◌+◌, ◌*◌, ◌≤◌}
use mathlib.Core.Path.{◌≡◌, sym, ap, ◌∙◌}
use lib.Count.{ones}
use Rattle.std.specs.Prelude.{Ok}
use Rattle.refusals.proofs.Passing.{passed_on, refused, unless_refuses}
use Rattle.bits.specs.Bits.{word_bits}
use Rattle.judge.specs.Rules.{Family, family_for}
use Rattle.look.proofs.Looks.{row_at, seen_tells, rows_start, rows_few, rows-bad, rows_on, rows-done, word-few}
use Rattle.look.proofs.look_in_block.Goals as goal

pub loop-q-init : goal.loop-q-init
loop-q-init g c = rows_start

pub returns-in_err-bits : goal.returns-in_err-bits
returns-in_err-bits g c =
    let f : Family = family_for g.L.Layout.wide in
    let here : c.args.block + 4 + 64 * c.SLOT.result * c.loop-q.q ≡ row_at f c.args.block c.loop-q.q =
    ap (λ (z : ℕ). c.args.block + 4 + word_bits * z * c.loop-q.q) (c.SLOT.ensures ∙ g.met.L.Layout.slot_is)
    in
    let bad = rows-bad c.loop-q.invariant (omega (arith, c.loop-q-test.true, c.requires.2)) here (unless_refuses _ _ (sym c.look_in_word.ensures ∙ c.in_err-bits.was)) in
    let is = passed_on c.from_residual.result c.from_residual.ensures.1 in
    (is ∙ rw bad, λ n e. absurd (refused (sym is ∙ e)))

pub overflow_add-found : goal.overflow_add-found
overflow_add-found g c =
    let few : ones c.in_ok-bits.bits ≤ word_bits = word-few _ (seen_tells _ (sym c.look_in_word.ensures ∙ c.in_ok-bits.was)).1 in
    omega (arith, few, rows_few c.loop-q.invariant, c.loop-q-test.true, c.requires.2)

pub loop-q-preserved : goal.loop-q-preserved
loop-q-preserved g c =
    let f : Family = family_for g.L.Layout.wide in
    let here : c.args.block + 4 + 64 * c.SLOT.result * c.loop-q.q ≡ row_at f c.args.block c.loop-q.q =
    ap (λ (z : ℕ). c.args.block + 4 + word_bits * z * c.loop-q.q) (c.SLOT.ensures ∙ g.met.L.Layout.slot_is)
    in
    let t = seen_tells _ (sym c.look_in_word.ensures ∙ c.in_ok-bits.was) in
    rows_on c.loop-q.invariant (omega (arith, c.loop-q-test.true, c.requires.2)) here t.0 t.1 (omega (arith, c.loop-q.auto.words, c.requires.2, c.loop-q-test.true))

pub returns : goal.returns
returns g c =
    let t = rows-done c.loop-q.invariant (omega (arith, c.loop-q-test.false, c.requires.2)) in
    (rw t.0 (ap Ok t.1), λ n e. t.2)
