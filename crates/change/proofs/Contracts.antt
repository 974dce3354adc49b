-- What the contracts of the public calls say, as they are written in src: nothing is asked for, and what is ensured is the result that specs names. And any two
-- answers, maps and journals that such a result allows are equal. Assumes nothing.
use mathlib.Core.Path.{◌≡◌, refl}
use mathlib.Core.List.{List}
use Prim.Native.Nat.{ℕ}
use Rattle.std.specs.Prelude.{Result}
use Rattle.refusals.specs.declared.Refusal.{Refusal}
use Rattle.accept.specs.Clauses.{Says}
use Rattle.edit.specs.declared.EditAnswer.{EditAnswer}
use Rattle.edit.proofs.Contracts.{edited-one}
use Rattle.change.specs.Changes.{removed, reinstated, Removed, Reinstated}
use Rattle.change.specs.contracts.remove as remove
use Rattle.change.specs.contracts.reinstate as reinstate

-- ---- what is said

pub remove-says : Says remove.ended (λ M 𝓤 𝓛. remove.clauses 𝓛)
    (λ κs (m, (used, (j, (e, (s, _))))) r (m', (_, (j', _))). Removed m.now used j.now e s r m'.now j'.now)
remove-says M 𝓤 𝓛 mem run = refl

pub reinstate-says : Says reinstate.ended (λ M 𝓤 𝓛. reinstate.clauses 𝓛)
    (λ κs (m, (used, (j, (e, (s, _))))) r (m', (_, (j', _))). Reinstated m.now used j.now e s r m'.now j'.now)
reinstate-says M 𝓤 𝓛 mem run = refl

-- ---- one answer each

module _ (m : List ℕ) (used : ℕ) (j : List ℕ) (e s : ℕ) {a a' : Result EditAnswer Refusal} {m₁ m₂ j₁ j₂ : List ℕ} where
  pub remove-one : Removed m used j e s a m₁ j₁ → Removed m used j e s a' m₂ j₂ → (a ≡ a') × (m₁ ≡ m₂) × (j₁ ≡ j₂)
  remove-one = edited-one (removed m used j e s)

  pub reinstate-one : Reinstated m used j e s a m₁ j₁ → Reinstated m used j e s a' m₂ j₂ → (a ≡ a') × (m₁ ≡ m₂) × (j₁ ≡ j₂)
  reinstate-one = edited-one (reinstated m used j e s)
