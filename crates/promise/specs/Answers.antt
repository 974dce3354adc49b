-- One answer each: any two results that a call's contract allows for one input are equal, answer, counts and every lent byte. What a contract allows is the
-- result that it names, of its crate's specs; that the contract says it, and nothing else, is proved in the crate's proofs/Contracts.antt. Here a result has a
-- field for what is returned, and one for each thing that is lent to be written.
--     One S                               two results that S allows are equal
--     OneSearch S, OneEdit S              the same of a search's result S, and of an edit's
--     OneCEdit S                          of an edit's over the C interface
--     OneAnswer                           one answer each, by the name of the call; in `refusals`, `find` and `edit` also the calls that take an answer apart
use Rattle.std.specs.Prelude.{Result}
use Rattle.refusals.specs.declared.Refusal.{Refusal}
use Rattle.refusals.specs.Refusals.{answer_number, answer_place}
use Rattle.std.specs.Prelude.{ℕ, ◌≡◌, List, ℤ}
use Rattle.std.specs.Borrow.{Bor}
use Rattle.windows.specs.declared.Window.{Window}
use Rattle.accept.specs.Verdicts.{Checked}
use Rattle.find.specs.declared.Listed.{Listed}
use Rattle.find.specs.Searches.{count_of, blocks_of, checked_length, Searched}
use Rattle.find.specs.Inputs.{SearchedInput}
use Rattle.view.specs.declared.MapView.{MapView}
use Rattle.view.specs.Views.{Viewed, FoundIn, SearchedView}
use Rattle.edit.specs.declared.EditAnswer.{EditAnswer}
use Rattle.edit.specs.Edits.{Outcome, before_of, slot_no, length_of}
use Rattle.add.specs.Adds.{Added}
use Rattle.change.specs.Changes.{Removed, Reinstated}
use Rattle.taffrail.specs.Calls.{window_from, CChecked, CSearched, CAdded, CRemoved, CReinstated}

abbrev pub One : {A : Type 0} → (A → Type 0) → Type 0
One {A} S = (a b : A) → S a → S b → a ≡ b

-- ---- the searches: the answer, and the list afterwards

pub record SearchResult : Type 0 where
  pub answer : Result Listed Refusal
  pub list : List ℕ

abbrev pub OneSearch : (Result Listed Refusal → List ℕ → Type 0) → Type 0
OneSearch S = One (λ (r : SearchResult). S r.answer r.list)

-- ---- the edits: the answer, and the map and the journal afterwards

abbrev pub OneEdit : (Result EditAnswer Refusal → List ℕ → List ℕ → Type 0) → Type 0
OneEdit S = One (λ (r : Outcome). S r.answer r.map r.journal)

-- ---- the C interface: the number, the other numbers that are written, and what is lent afterwards

pub record CCheckResult : Type 0 where
  pub number : ℕ
  pub place : ℕ

pub record CSearchResult : Type 0 where
  pub number : ℕ
  pub place : ℕ
  pub count : ℕ
  pub blocks : ℕ
  pub list : List ℕ

pub record CEditResult : Type 0 where
  pub number : ℕ
  pub place : ℕ
  pub before : ℕ
  pub slot : ℕ
  pub new_length : ℕ
  pub map : List ℕ
  pub journal : List ℕ

abbrev pub OneCEdit : (ℕ → ℕ → ℕ → ℕ → ℕ → List ℕ → List ℕ → Type 0) → Type 0
OneCEdit S = One (λ (r : CEditResult). S r.number r.place r.before r.slot r.new_length r.map r.journal)

-- ---- one answer each

pub record OneAnswer : Type 0 where
  -- accept
  pub check : (m : List ℕ) (used : ℕ) → One (Checked m used)
  pub check-number : (v : Result ℕ Refusal) → One (λ r. r ≡ answer_number v)
  pub check-place : (v : Result ℕ Refusal) → One (λ r. r ≡ answer_place v)
  -- find
  pub search : (m : List ℕ) (used : ℕ) (w : Window) (l : List ℕ) → OneSearch (Searched m used w l)
  pub search-input : (i l : List ℕ) → OneSearch (SearchedInput i l)
  pub search-number : (a : Result Listed Refusal) → One (λ r. r ≡ answer_number a)
  pub search-place : (a : Result Listed Refusal) → One (λ r. r ≡ answer_place a)
  pub search-count : (a : Result Listed Refusal) → One (λ r. r ≡ count_of a)
  pub search-blocks : (a : Result Listed Refusal) → One (λ r. r ≡ blocks_of a)
  pub checked-length : (m : List ℕ) (used : ℕ) → One (λ r. r ≡ checked_length m used)
  -- view
  pub view : (bytes : Bor (List ℕ)) (used : ℕ) → One (Viewed bytes used)
  pub find-in : (v : MapView) (w : Window) (l : List ℕ) → OneSearch (FoundIn v w l)
  pub search-view : (m : List ℕ) (used : ℕ) (w : Window) (l : List ℕ) → OneSearch (SearchedView m used w l)
  -- add, change and edit
  pub add : (m : List ℕ) (used : ℕ) (j : List ℕ) (e : ℕ) (o : List ℕ) → OneEdit (Added m used j e o)
  pub remove : (m : List ℕ) (used : ℕ) (j : List ℕ) (e s : ℕ) → OneEdit (Removed m used j e s)
  pub reinstate : (m : List ℕ) (used : ℕ) (j : List ℕ) (e s : ℕ) → OneEdit (Reinstated m used j e s)
  pub edit-number : (a : Result EditAnswer Refusal) → One (λ r. r ≡ answer_number a)
  pub edit-place : (a : Result EditAnswer Refusal) → One (λ r. r ≡ answer_place a)
  pub edit-before : (a : Result EditAnswer Refusal) → One (λ r. r ≡ before_of a)
  pub edit-slot : (a : Result EditAnswer Refusal) → One (λ r. r ≡ slot_no a)
  pub edit-length : (a : Result EditAnswer Refusal) → One (λ r. r ≡ length_of a)
  -- taffrail
  pub taffrail-check : (m : List ℕ) (used : ℕ) → One (λ (r : CCheckResult). CChecked m used r.number r.place)
  pub taffrail-search : (m : List ℕ) (used : ℕ) (left bottom right top : ℤ) (l : List ℕ)
      → One (λ (r : CSearchResult). CSearched m used (window_from left bottom right top) l r.number r.place r.count r.blocks r.list)
  pub taffrail-add : (m : List ℕ) (used : ℕ) (j : List ℕ) (e : ℕ) (o : List ℕ) → OneCEdit (CAdded m used j e o)
  pub taffrail-remove : (m : List ℕ) (used : ℕ) (j : List ℕ) (e s : ℕ) → OneCEdit (CRemoved m used j e s)
  pub taffrail-reinstate : (m : List ℕ) (used : ℕ) (j : List ℕ) (e s : ℕ) → OneCEdit (CReinstated m used j e s)
