-- What the contract of the public call says, as it is written in src: nothing is asked for, and what is ensured is the result that specs names. And any two
-- answers, maps and journals that it allows are equal. Assumes nothing.
use mathlib.Core.Path.{◌≡◌, refl}
use mathlib.Core.List.{List}
use Prim.Native.Nat.{ℕ}
use Rattle.std.specs.Prelude.{Result}
use Rattle.refusals.specs.declared.Refusal.{Refusal}
use Rattle.accept.specs.Clauses.{Says}
use Rattle.edit.specs.declared.EditAnswer.{EditAnswer}
use Rattle.edit.proofs.Contracts.{edited-one}
use Rattle.add.specs.Adds.{added, Added}
use Rattle.add.specs.contracts.add as add

pub add-says : Says add.ended (λ M 𝓤 𝓛. add.clauses 𝓛)
    (λ κs (m, (used, (j, (e, (o, _))))) r (m', (_, (j', _))). Added m.now used j.now e o.now r m'.now j'.now)
add-says M 𝓤 𝓛 mem run = refl

pub add-one : (m : List ℕ) (used : ℕ) (j : List ℕ) (e : ℕ) (o : List ℕ) {a a' : Result EditAnswer Refusal} {m₁ m₂ j₁ j₂ : List ℕ}
    → Added m used j e o a m₁ j₁ → Added m used j e o a' m₂ j₂ → (a ≡ a') × (m₁ ≡ m₂) × (j₁ ≡ j₂)
add-one m used j e o = edited-one (added m used j e o)
