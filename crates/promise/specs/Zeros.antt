-- Number 0 means what document 01 says, "accepted, searched or done", with "done before" told apart from done; and no refusal has it. So a caller who sees
-- the numbers alone knows.
--     EditTells a     an edit's answer: number 0 and before 0 exactly when it is done; number 0 and before 1 exactly when it was done before
--     ZeroTells       the check, the search and the three edits
use Rattle.std.specs.Prelude.{Result, Ok}
use Rattle.refusals.specs.declared.Refusal.{Refusal}
use Rattle.refusals.specs.Refusals.{answer_number}
use Rattle.std.specs.Prelude.{ℕ, true, ◌≡◌, ◌↔◌, List}
use Rattle.windows.specs.declared.Window.{Window}
use Rattle.accept.specs.Verdicts.{verdict}
use Rattle.accept.specs.Meets.{Meets}
use Rattle.find.specs.Searches.{answer_of}
use Rattle.edit.specs.declared.EditAnswer.{EditAnswer}
use Rattle.edit.specs.declared.EditAnswer.TheVariants.{Done, Before}
use Rattle.edit.specs.Edits.{before_of}
use Rattle.add.specs.Adds.{added}
use Rattle.change.specs.Changes.{removed, reinstated}
use Rattle.promise.specs.Runs.{State, Call, edited, outcome, is_done}

pub record EditTells (a : Result EditAnswer Refusal) : Type 0 where
  pub done : ((answer_number a ≡ 0) × (before_of a ≡ 0)) ↔ ((s : ℕ) × (l : ℕ) × (a ≡ Ok (Done s l)))
  pub before : ((answer_number a ≡ 0) × (before_of a ≡ 1)) ↔ ((s : ℕ) × (l : ℕ) × (a ≡ Ok (Before s l)))

pub record ZeroTells : Type 0 where
  -- a check's number is 0 exactly when the map meets document 01
  pub check : (m : List ℕ) (used : ℕ) → (answer_number (verdict m used) ≡ 0) ↔ ((n : ℕ) × Meets m used n)
  -- a search's number is 0 exactly when it found, c slots in b blocks
  pub search : (m : List ℕ) (used : ℕ) (w : Window) (room : ℕ)
      → (answer_number (answer_of m used w room) ≡ 0) ↔ ((c : ℕ) × (b : ℕ) × (answer_of m used w room ≡ Ok (record { count = c; blocks = b })))
  pub add : (m : List ℕ) (used : ℕ) (j : List ℕ) (e : ℕ) (o : List ℕ) → EditTells (added m used j e o).answer
  pub remove : (m : List ℕ) (used : ℕ) (j : List ℕ) (e s : ℕ) → EditTells (removed m used j e s).answer
  pub reinstate : (m : List ℕ) (used : ℕ) (j : List ℕ) (e s : ℕ) → EditTells (reinstated m used j e s).answer
  -- and so a call of a run counts as done, which goes by these numbers, exactly when its answer is `Done`
  pub done : (st : State) (c : Call) → (is_done st c ≡ true) ↔ ((s : ℕ) × (l : ℕ) × ((outcome st c).said ≡ edited (Ok (Done s l))))
