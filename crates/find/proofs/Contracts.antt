-- What the contracts of the public calls say, as they are written in src: nothing is asked for, and what is ensured is the result that specs names. And any two
-- answers and lists that such a result allows are equal. Assumes nothing.
use mathlib.Core.Path.{◌≡◌, refl}
use mathlib.Core.List.{List}
use Prim.Native.Nat.{ℕ}
use Rattle.windows.specs.declared.Window.{Window}
use Rattle.accept.specs.Clauses.{Says}
use Rattle.accept.proofs.Contracts.{one}
use Rattle.std.specs.Prelude.{Result}
use Rattle.refusals.specs.declared.Refusal.{Refusal}
use Rattle.find.specs.declared.Listed.{Listed}
use Rattle.find.specs.Searches.{count_of, blocks_of, checked_length, Searched}
use Rattle.find.specs.Inputs.{SearchedInput}
use Rattle.find.specs.contracts.search as search
use Rattle.find.specs.contracts.search_input as search-input
use Rattle.find.specs.contracts.count as count
use Rattle.find.specs.contracts.blocks as blocks
use Rattle.find.specs.contracts.checked_length as checked-length

-- ---- what is said

pub search-says : Says search.ended (λ M 𝓤 𝓛. search.clauses 𝓛)
    (λ κs (m, (used, (w, (l, _)))) r (_, (_, (_, (after, _)))). Searched m.now used w l.now r after.now)
search-says M 𝓤 𝓛 mem run = refl

pub search-input-says : Says search-input.ended (λ M 𝓤 𝓛. search-input.clauses 𝓛)
    (λ κs (i, (l, _)) r (_, (after, _)). SearchedInput i.now l.now r after.now)
search-input-says M 𝓤 𝓛 mem run = refl

pub count-says : Says count.ended (λ M 𝓤 𝓛. count.clauses 𝓛) (λ κs (a, _) r e. r ≡ count_of a.now)
count-says M 𝓤 𝓛 mem run = refl

pub blocks-says : Says blocks.ended (λ M 𝓤 𝓛. blocks.clauses 𝓛) (λ κs (a, _) r e. r ≡ blocks_of a.now)
blocks-says M 𝓤 𝓛 mem run = refl

pub checked-length-says : Says checked-length.ended (λ M 𝓤 𝓛. checked-length.clauses 𝓛) (λ κs (m, (used, _)) r e. r ≡ checked_length m.now used)
checked-length-says M 𝓤 𝓛 mem run = refl

-- ---- one answer each

pub search-one : (m : List ℕ) (used : ℕ) (w : Window) (l : List ℕ) {a a' : Result Listed Refusal} {z z' : List ℕ}
    → Searched m used w l a z → Searched m used w l a' z' → (a ≡ a') × (z ≡ z')
search-one m used w l p q = (one p.0 q.0, one p.1 q.1)

pub search-input-one : (i l : List ℕ) {a a' : Result Listed Refusal} {z z' : List ℕ} → SearchedInput i l a z → SearchedInput i l a' z' → (a ≡ a') × (z ≡ z')
search-input-one i l p q = (one p.0 q.0, one p.1 q.1)
