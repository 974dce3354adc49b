-- What the contracts of the five calls say, as they are written in src: nothing is asked for, and what is ensured is the result that specs names. And any two
-- numbers, lists, maps and journals that such a result allows are equal. Assumes nothing.
use mathlib.Core.Path.{◌≡◌, refl}
use mathlib.Core.List.{List}
use Prim.Native.Nat.{ℕ}
use Rattle.windows.specs.declared.Window.{Window}
use Rattle.accept.specs.Clauses.{Says}
use Rattle.accept.proofs.Contracts.{one}
use Rattle.edit.specs.Edits.{Outcome}
use Rattle.add.specs.Adds.{added}
use Rattle.change.specs.Changes.{removed, reinstated}
use Rattle.taffrail.specs.Calls.{window_from, CChecked, CSearched, CEdited, CAdded, CRemoved, CReinstated}
use Rattle.taffrail.specs.contracts.taffrail_check as taffrail-check
use Rattle.taffrail.specs.contracts.taffrail_search as taffrail-search
use Rattle.taffrail.specs.contracts.taffrail_add as taffrail-add
use Rattle.taffrail.specs.contracts.taffrail_remove as taffrail-remove
use Rattle.taffrail.specs.contracts.taffrail_reinstate as taffrail-reinstate

-- ---- what is said

pub check-says : Says taffrail-check.ended (λ M 𝓤 𝓛. taffrail-check.clauses 𝓛) (λ κs (m, (used, _)) r (_, (_, (p, _))). CChecked m.now used r p.now)
check-says M 𝓤 𝓛 mem run = refl

pub search-says : Says taffrail-search.ended (λ M 𝓤 𝓛. taffrail-search.clauses 𝓛)
    (λ κs (m, (used, (left, (bottom, (right, (top, (l, _))))))) r (_, (_, (_, (_, (_, (_, (after, (p, (c, (b, _)))))))))).
    CSearched m.now used (window_from left bottom right top) l.now r p.now c.now b.now after.now)
search-says M 𝓤 𝓛 mem run = refl

pub add-says : Says taffrail-add.ended (λ M 𝓤 𝓛. taffrail-add.clauses 𝓛)
    (λ κs (m, (used, (j, (e, (o, _))))) r (m', (_, (j', (_, (_, (p, (b, (s, (n, _))))))))).
    CAdded m.now used j.now e o.now r p.now b.now s.now n.now m'.now j'.now)
add-says M 𝓤 𝓛 mem run = refl

pub remove-says : Says taffrail-remove.ended (λ M 𝓤 𝓛. taffrail-remove.clauses 𝓛)
    (λ κs (m, (used, (j, (e, (at, _))))) r (m', (_, (j', (_, (_, (p, (b, (s, (n, _))))))))).
    CRemoved m.now used j.now e at r p.now b.now s.now n.now m'.now j'.now)
remove-says M 𝓤 𝓛 mem run = refl

pub reinstate-says : Says taffrail-reinstate.ended (λ M 𝓤 𝓛. taffrail-reinstate.clauses 𝓛)
    (λ κs (m, (used, (j, (e, (at, _))))) r (m', (_, (j', (_, (_, (p, (b, (s, (n, _))))))))).
    CReinstated m.now used j.now e at r p.now b.now s.now n.now m'.now j'.now)
reinstate-says M 𝓤 𝓛 mem run = refl

-- ---- one answer each

pub check-one : (m : List ℕ) (used : ℕ) {n n' p p' : ℕ} → CChecked m used n p → CChecked m used n' p' → (n ≡ n') × (p ≡ p')
check-one m used x y = (one x.0 y.0, one x.1 y.1)

pub search-one : (m : List ℕ) (used : ℕ) (w : Window) (l : List ℕ) {n n' p p' c c' b b' : ℕ} {z z' : List ℕ}
    → CSearched m used w l n p c b z → CSearched m used w l n' p' c' b' z' → (n ≡ n') × (p ≡ p') × (c ≡ c') × (b ≡ b') × (z ≡ z')
search-one m used w l x y = (one x.0 y.0, one x.1 y.1, one x.2 y.2, one x.3 y.3, one x.4 y.4)

module _ {n n' p p' b b' s s' l l' : ℕ} {m₁ m₂ j₁ j₂ : List ℕ} where
  pub edited-one : (o : Outcome) → CEdited o n p b s l m₁ j₁ → CEdited o n' p' b' s' l' m₂ j₂
      → (n ≡ n') × (p ≡ p') × (b ≡ b') × (s ≡ s') × (l ≡ l') × (m₁ ≡ m₂) × (j₁ ≡ j₂)
  edited-one o x y = (
    one x.0.is_number y.0.is_number,
    one x.0.is-place y.0.is-place,
    one x.0.is-before y.0.is-before,
    one x.0.is-slot y.0.is-slot,
    one x.0.is-length y.0.is-length,
    one x.1 y.1,
    one x.2 y.2,
  )

  pub add-one : (m : List ℕ) (used : ℕ) (j : List ℕ) (e : ℕ) (o : List ℕ) → CAdded m used j e o n p b s l m₁ j₁ → CAdded m used j e o n' p' b' s' l' m₂ j₂
      → (n ≡ n') × (p ≡ p') × (b ≡ b') × (s ≡ s') × (l ≡ l') × (m₁ ≡ m₂) × (j₁ ≡ j₂)
  add-one m used j e o = edited-one (added m used j e o)

  pub remove-one : (m : List ℕ) (used : ℕ) (j : List ℕ) (e at : ℕ) → CRemoved m used j e at n p b s l m₁ j₁ → CRemoved m used j e at n' p' b' s' l' m₂ j₂
      → (n ≡ n') × (p ≡ p') × (b ≡ b') × (s ≡ s') × (l ≡ l') × (m₁ ≡ m₂) × (j₁ ≡ j₂)
  remove-one m used j e at = edited-one (removed m used j e at)

  pub reinstate-one : (m : List ℕ) (used : ℕ) (j : List ℕ) (e at : ℕ) → CReinstated m used j e at n p b s l m₁ j₁ → CReinstated m used j e at n' p' b' s' l' m₂ j₂
      → (n ≡ n') × (p ≡ p') × (b ≡ b') × (s ≡ s') × (l ≡ l') × (m₁ ≡ m₂) × (j₁ ≡ j₂)
  reinstate-one m used j e at = edited-one (reinstated m used j e at)
