-- What the contracts of the public calls say, as they are written in src: nothing is asked for, and what is ensured is the result that specs names. And any two
-- answers that such a result allows are equal. Assumes nothing.
--     one      what equals one thing is one: for a call that returns one number of an answer that is all
use mathlib.Core.Path.{◌≡◌, refl, sym, ◌∙◌}
use mathlib.Core.List.{List}
use Prim.Native.Nat.{ℕ}
use Rattle.std.specs.Prelude.{Result}
use Rattle.refusals.specs.declared.Refusal.{Refusal}
use denote.RattleType.{RattleType}
use contract.Lifetimes.{lft_at}
use contract.BorrowLft.{◌⊑◌}
use Rattle.refusals.specs.Refusals.{answer_number, answer_place}
use Rattle.refusals.specs.contracts.number as number
use Rattle.refusals.specs.contracts.place as place
use Rattle.accept.specs.Verdicts.{Checked}
use Rattle.accept.specs.Clauses.{Says, SaysLent}
use Rattle.accept.specs.contracts.check as check

-- ---- what is said

pub check-says : Says check.ended (λ M 𝓤 𝓛. check.clauses 𝓛) (λ κs (m, (used, _)) r e. Checked m.now used r)
check-says M 𝓤 𝓛 mem run = refl

-- of an answer of any type T, which lives as long as it is lent
pub number-says : (T : RattleType) → SaysLent (number.ended T) (λ M 𝓤 𝓛. number.clauses T 𝓛) (λ κs. lft_at 2 1 tt κs ⊑ T.lives) (λ κs (a, _) r e. r ≡ answer_number a.now)
number-says T M 𝓤 𝓛 mem run = refl

pub place-says : (T : RattleType) → SaysLent (place.ended T) (λ M 𝓤 𝓛. place.clauses T 𝓛) (λ κs. lft_at 2 1 tt κs ⊑ T.lives) (λ κs (a, _) r e. r ≡ answer_place a.now)
place-says T M 𝓤 𝓛 mem run = refl

-- ---- one answer each

pub one : {A : Type 0} {x a b : A} → a ≡ x → b ≡ x → a ≡ b
one p q = p ∙ sym q

pub check-one : (m : List ℕ) (used : ℕ) {v v' : Result ℕ Refusal} → Checked m used v → Checked m used v' → v ≡ v'
check-one m used p q = one p q
