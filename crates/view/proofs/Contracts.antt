-- What the contracts of the public calls say, as they are written in src: nothing is asked for, and what is ensured is the result that specs names. And any two
-- views, answers and lists that such a result allows are equal. Assumes nothing.
use mathlib.Core.Path.{◌≡◌, refl}
use mathlib.Core.List.{List}
use Prim.Native.Nat.{ℕ}
use denote.Ref.{Bor}
use Rattle.windows.specs.declared.Window.{Window}
use Rattle.accept.specs.Clauses.{Says}
use Rattle.accept.proofs.Contracts.{one}
use Rattle.std.specs.Prelude.{Result}
use Rattle.refusals.specs.declared.Refusal.{Refusal}
use Rattle.find.specs.declared.Listed.{Listed}
use Rattle.view.specs.declared.MapView.{MapView}
use Rattle.view.specs.Views.{Viewed, FoundIn, SearchedView}
use Rattle.view.specs.contracts.view as view
use Rattle.view.specs.contracts.find_in as find-in
use Rattle.view.specs.contracts.search_view as search-view

-- ---- what is said

pub view-says : Says view.ended (λ M 𝓤 𝓛. view.clauses 𝓛) (λ κs (bytes, (used, _)) r e. Viewed bytes used r)
view-says M 𝓤 𝓛 mem run = refl

pub find-in-says : Says find-in.ended (λ M 𝓤 𝓛. find-in.clauses 𝓛)
    (λ κs (v, (w, (l, _))) r (_, (_, (after, _))). FoundIn v w l.now r after.now)
find-in-says M 𝓤 𝓛 mem run = refl

pub search-view-says : Says search-view.ended (λ M 𝓤 𝓛. search-view.clauses 𝓛)
    (λ κs (m, (used, (w, (l, _)))) r (_, (_, (_, (after, _)))). SearchedView m.now used w l.now r after.now)
search-view-says M 𝓤 𝓛 mem run = refl

-- ---- one answer each

pub view-one : (bytes : Bor (List ℕ)) (used : ℕ) {v v' : MapView} → Viewed bytes used v → Viewed bytes used v' → v ≡ v'
view-one bytes used p q = λ i. record { bytes = one p.0 q.0 i; used = one p.1 q.1 i }

pub find-in-one : (v : MapView) (w : Window) (l : List ℕ) {a a' : Result Listed Refusal} {z z' : List ℕ} → FoundIn v w l a z → FoundIn v w l a' z' → (a ≡ a') × (z ≡ z')
find-in-one v w l p q = (one p.0 q.0, one p.1 q.1)

pub search-view-one : (m : List ℕ) (used : ℕ) (w : Window) (l : List ℕ) {a a' : Result Listed Refusal} {z z' : List ℕ}
    → SearchedView m used w l a z → SearchedView m used w l a' z' → (a ≡ a') × (z ≡ z')
search-view-one m used w l p q = (one p.0 q.0, one p.1 q.1)
