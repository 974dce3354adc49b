-- `accept::examine_slots` meets its contract: the version tells which layout it is. Assumes nothing.
use native.Mathlib.Omega.{arith}
use mathlib.Core.Bool.{false}
use mathlib.Core.Path.{◌≡◌, sym, ap, ◌∙◌}
use Prim.Native.Nat.{ℕ, ◌*◌}
use Rattle.std.specs.Prelude.{Result, Ok}
use Rattle.refusals.specs.declared.Refusal.{Refusal}
use Rattle.refusals.specs.Refusals.{unless}
use Rattle.refusals.proofs.Passing.{unless_tells}
use Rattle.numbers.specs.Below.{first}
use Rattle.records.specs.Headers.{is_wide}
use Rattle.judge.specs.Judging.{version_of, no_len}
use Rattle.judge.specs.Rules.{narrow, slot_at}
use Rattle.accept.specs.declared.ExaminedMap.TheVariants.{Accepted}
use Rattle.accept.specs.Slots.{free_slot}
use Rattle.accept.specs.Verdicts.{slots_judged_of}
use Rattle.accept.proofs.Slots.{free-first}
use Rattle.accept.proofs.examine_slots.Goals as goal

pub u16_at-requires : goal.u16_at-requires
u16_at-requires c =
    omega (arith, c.requires.low, c.requires.indexed.room)

pub returns-in_ok-free : goal.returns-in_ok-free
returns-in_ok-free c =
    let m = c.args.m.now in
    let layout : is_wide (version_of m) ≡ false = ap is_wide (sym c.u16_at.ensures) ∙ sym c.is_wide.ensures ∙ c.if-is_wide.false in
    let e = c.new-else-is_wide.ensures in
    let told : c.judge_slots-else-is_wide.result ≡ unless (slots_judged_of narrow m c.args.used c.args.n) (Ok (first (λ s. no_len m (slot_at m s)) (256 * c.args.n))) =
    c.judge_slots-else-is_wide.ensures
    ∙ (λ i. unless (slots_judged_of narrow (e.0 i) (e.1 i) (e.3 i)) (Ok (first (λ s. no_len (e.0 i) (slot_at (e.0 i) s)) (256 * (e.3 i)))))
    in
    let tells = unless_tells (slots_judged_of narrow m c.args.used c.args.n) (sym told ∙ c.in_ok-free.was) in
    let free : c.in_ok-free.free ≡ free_slot m c.args.n =
    let e : ◌≡◌ {A = Result ℕ Refusal} (Ok (first (λ s. no_len m (slot_at m s)) (256 * c.args.n))) (Ok c.in_ok-free.free) = tells.1 in
    let is : first (λ s. no_len m (slot_at m s)) (256 * c.args.n) ≡ c.in_ok-free.free = cc in
    sym is ∙ free-first m c.args.n
    in
    rw (layout, tells.0, layout) (ap (λ (x : ℕ). Ok (Accepted c.args.n x)) free)
