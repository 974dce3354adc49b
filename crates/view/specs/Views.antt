-- The reader's view of a lent map, and the search through one, with a window w and a lent list l.
--     Viewed bytes used v               the result of a view: v is the lent slice itself, with its checked length
--     FoundIn v w l a after             of a search in the view v: the search's, of the view's slice and length; its answer a, and the list afterwards
--     SearchedView m used w l a after   of a view that is made and searched: the search's, of the checked length
use Rattle.std.specs.Prelude.{ℕ, ◌≡◌, List, Result}
use Rattle.std.specs.Borrow.{Bor}
use Rattle.windows.specs.declared.Window.{Window}
use Rattle.refusals.specs.declared.Refusal.{Refusal}
use Rattle.find.specs.declared.Listed.{Listed}
use Rattle.find.specs.Searches.{checked_length, Searched}
use Rattle.view.specs.declared.MapView.{MapView}

abbrev pub Viewed : Bor (List ℕ) → ℕ → MapView → Type 0
Viewed bytes used v = (v.bytes ≡ bytes) × (v.used ≡ checked_length bytes.now used)

abbrev pub FoundIn : MapView → Window → List ℕ → Result Listed Refusal → List ℕ → Type 0
FoundIn v w l a after = Searched v.bytes.now v.used w l a after

abbrev pub SearchedView : List ℕ → ℕ → Window → List ℕ → Result Listed Refusal → List ℕ → Type 0
SearchedView m used w l a after = Searched m (checked_length m used) w l a after
