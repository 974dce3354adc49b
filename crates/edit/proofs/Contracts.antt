-- What the contracts of the public calls say, as they are written in src: nothing is asked for, and what is ensured is the result that specs names. And any two
-- answers, maps and journals that the result of an edit allows are equal. Assumes nothing.
use mathlib.Core.Path.{◌≡◌, refl}
use mathlib.Core.List.{List}
use Prim.Native.Nat.{ℕ}
use Rattle.std.specs.Prelude.{Result}
use Rattle.refusals.specs.declared.Refusal.{Refusal}
use Rattle.accept.specs.Clauses.{Says}
use Rattle.accept.proofs.Contracts.{one}
use Rattle.edit.specs.declared.EditAnswer.{EditAnswer}
use Rattle.edit.specs.Edits.{before_of, slot_no, length_of, Outcome, Edited}
use Rattle.edit.specs.contracts.before as before
use Rattle.edit.specs.contracts.slot as slot
use Rattle.edit.specs.contracts.length as length

-- ---- what is said

pub before-says : Says before.ended (λ M 𝓤 𝓛. before.clauses 𝓛) (λ κs (a, _) r e. r ≡ before_of a.now)
before-says M 𝓤 𝓛 mem run = refl

pub slot-says : Says slot.ended (λ M 𝓤 𝓛. slot.clauses 𝓛) (λ κs (a, _) r e. r ≡ slot_no a.now)
slot-says M 𝓤 𝓛 mem run = refl

pub length-says : Says length.ended (λ M 𝓤 𝓛. length.clauses 𝓛) (λ κs (a, _) r e. r ≡ length_of a.now)
length-says M 𝓤 𝓛 mem run = refl

-- ---- one answer

pub edited-one : (o : Outcome) {a a' : Result EditAnswer Refusal} {m m' j j' : List ℕ} → Edited o a m j → Edited o a' m' j' → (a ≡ a') × (m ≡ m') × (j ≡ j')
edited-one o p q = (one p.0 q.0, one p.1 q.1, one p.2 q.2)
