-- No refusal has number 0: where the check, a search or an edit refuses, it names one of 1 to 15 or 17 (refusals, Passing). Assumes nothing.
use Prim.Native.Nat.{ℕ, ◌<◌}
use mathlib.Core.Bool.{true}
use mathlib.Core.Path.{◌≡◌, refl, sym, ap}
use mathlib.Core.Logic.{◌↔◌}
use native.Mathlib.Omega.{arith}
use lib.Dec.{eqb}
use Rattle.std.specs.Prelude.{Result, Ok, Err}
use Rattle.refusals.specs.declared.Refusal.{Refusal}
use Rattle.refusals.specs.Refusals.{answer_number}
use Rattle.refusals.proofs.Passing.{number_some, answered}
use Rattle.numbers.proofs.Below.{never}
use Rattle.judge.proofs.Telling.{and-true}
use Rattle.accept.specs.Verdicts.{verdict}
use Rattle.accept.proofs.Meets.{accepted-exactly}
use Rattle.find.specs.Searches.{answer_of}
use Rattle.edit.specs.declared.EditAnswer.{EditAnswer}
use Rattle.edit.specs.declared.EditAnswer.TheVariants.{Done, Before}
use Rattle.edit.specs.Edits.{before_of}
use Rattle.add.specs.Adds.{added}
use Rattle.change.specs.Changes.{changed}
use Rattle.promise.specs.Zeros.{EditTells, ZeroTells}
use Rattle.promise.specs.Runs.{State, Call, add, remove, reinstate, search, Said, edited, outcome, says_done, is_done}
use borrow.Author.Tests.{eqb-true}

-- a number that is not 0 and is 0
not-zero : {A : Type 0} {n : ℕ} → 0 < n → n ≡ 0 → A
not-zero l e =
    let no : ⊥ = omega (arith, l, e) in
    absurd no

-- ---- the edits

done-tells : (a : Result EditAnswer Refusal) → answer_number a ≡ 0 → before_of a ≡ 0 → (s : ℕ) × (l : ℕ) × (a ≡ Ok (Done s l))
done-tells (Ok (Done s l)) z b = (s, l, refl)
done-tells (Ok (Before s l)) z b = not-zero (omega arith) b
done-tells (Err e) z b = not-zero (number_some e) z

before-tells : (a : Result EditAnswer Refusal) → answer_number a ≡ 0 → before_of a ≡ 1 → (s : ℕ) × (l : ℕ) × (a ≡ Ok (Before s l))
before-tells (Ok (Done s l)) z b = not-zero (omega (arith, b)) refl
before-tells (Ok (Before s l)) z b = (s, l, refl)
before-tells (Err e) z b = not-zero (number_some e) z

edit-tells : (a : Result EditAnswer Refusal) → EditTells a
edit-tells a =
    record {
      done = (λ e. done-tells a e.0 e.1, λ d. (ap answer_number d.2, ap before_of d.2));
      before = (λ e. before-tells a e.0 e.1, λ d. (ap answer_number d.2, ap before_of d.2));
    }

-- ---- a call of a run

says-tells : (a : Result EditAnswer Refusal) → (says_done (edited a) ≡ true) ↔ ((s : ℕ) × (l : ℕ) × (◌≡◌ {A = Said} (edited a) (edited (Ok (Done s l)))))
says-tells a = (
  λ e.
      let b = and-true (eqb (answer_number a) 0) (eqb (before_of a) 0) e in
      let d = (edit-tells a).done.0 (eqb-true (answer_number a) 0 b.0, eqb-true (before_of a) 0 b.1) in
      (d.0, d.1, ap edited d.2),
  λ d. ap says_done d.2,
)

call-tells : (st : State) (c : Call) → (is_done st c ≡ true) ↔ ((s : ℕ) × (l : ℕ) × ((outcome st c).said ≡ edited (Ok (Done s l))))
unfolding is_done
call-tells st (add e o) = says-tells _
call-tells st (remove e s) = says-tells _
call-tells st (reinstate e s) = says-tells _
call-tells st (search w l) = (λ e. absurd (never (sym e)), λ d. ap says_done d.2)

pub zero-tells : ZeroTells
zero-tells =
    record {
      check = λ m used. (
        λ z. let a = answered (verdict m used) z in (a.0, (accepted-exactly m used a.0).1 a.1),
        λ h. ap answer_number ((accepted-exactly m used h.0).0 h.1),
      );
      search = λ m used w room. (
        λ z. let a = answered (answer_of m used w room) z in (a.0.count, a.0.blocks, a.1),
        λ f. ap answer_number f.2,
      );
      add = λ m used j e o. edit-tells (added m used j e o).answer;
      remove = λ m used j e s. edit-tells (changed m used j e 2 s).answer;
      reinstate = λ m used j e s. edit-tells (changed m used j e 3 s).answer;
      done = call-tells;
    }
