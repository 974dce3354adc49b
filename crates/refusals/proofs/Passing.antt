-- How a refusal is passed on. Assumes nothing.
--     passed_on                    the exit of a `?` returns the refusal that it found
--     refused                      a refusal is no answer
--     number_some, answered        no refusal has number 0: an answer with number 0 is none
--     unless_tells, unless_refuses   what an answer behind a judge tells of both
use mathlib.Core.Path.{◌≡◌, refl, ap, ◌∙◌}
use native.Mathlib.Omega.{arith}
use Prim.Native.Nat.{ℕ, ◌<◌}
use Rattle.std.specs.Prelude.{Result, Ok, Err}
use Rattle.std.specs.Result.{IsErrAnd}
use Rattle.std.proofs.lemmas.Result.{err_from_is_err_and}
use Rattle.refusals.specs.declared.Refusal.{Refusal}
use Rattle.refusals.specs.declared.Refusal.TheVariants.{BadLength, BadMark, BadVersion, BadPart, BadIndex, BadSymbol, BadSlot, BadWindow, ShortList, BadObject, NoRoom, WrongState, BadJournal, NumberHeld, JournalFull, WideMap}
use Rattle.refusals.specs.Refusals.{Judged, good, unless, number_of, answer_number}

pub number_some : (e : Refusal) → 0 < number_of e
number_some = elim [
  | BadLength ↦ omega arith
  | BadMark ↦ omega arith
  | BadVersion ↦ omega arith
  | BadPart p ↦ omega arith
  | BadIndex p ↦ omega arith
  | BadSymbol p ↦ omega arith
  | BadSlot p ↦ omega arith
  | BadWindow ↦ omega arith
  | ShortList n ↦ omega arith
  | BadObject ↦ omega arith
  | NoRoom ↦ omega arith
  | WrongState ↦ omega arith
  | BadJournal ↦ omega arith
  | NumberHeld ↦ omega arith
  | JournalFull ↦ omega arith
  | WideMap ↦ omega arith
]

module _ {A : Type 0} where
  pub passed_on : {e : Refusal} (r : Result A Refusal) → IsErrAnd r (λ x. x ≡ e) → r ≡ Err e
  passed_on r h =
      let p = err_from_is_err_and r h in
      p.1 ∙ ap Err p.2

  pub refused : {e : Refusal} {a : A} → Err e ≡ Ok a → ⊥
  refused e = let z : ◌≡◌ {A = ℕ} 0 1 = cc in omega arith

  pub unless_tells : (j : Judged) {v : Result A Refusal} {a : A} → unless j v ≡ Ok a → (j ≡ good) × (v ≡ Ok a)
  unless_tells (Ok u) e = (refl, e)
  unless_tells (Err r) e = absurd (refused e)

  pub unless_refuses : (j : Judged) (a : A) {e : Refusal} → unless j (Ok a) ≡ Err e → j ≡ Err e
  unless_refuses (Ok u) a h = let z : ◌≡◌ {A = ℕ} 0 1 = cc in let no_way : ⊥ = omega arith in absurd no_way
  unless_refuses (Err r) a {e} h = let q : r ≡ e = cc in ap Err q

  pub answered : (a : Result A Refusal) → answer_number a ≡ 0 → (x : A) × (a ≡ Ok x)
  answered (Ok x) z = (x, refl)
  answered (Err e) z = let no_way : ⊥ = omega (arith, number_some e, z) in absurd no_way
