-- Each export has the clauses of `taffrail`'s call of its name, as the compiler makes both of what is written in src: so what is proved of these calls holds of the
-- exports, and none can lose a part. Assumes nothing.
use mathlib.Core.Path.{◌≡◌, refl}
use seplogic.Ra.Ura.{Ura}
use base.Logic.{SProp}
use prog.Memory.{Memory}
use prog.Routine.{Routine}
use types.Logic.{Logic}
use contract.Monad.{Fun}
use Rattle.taffrail.specs.contracts.taffrail_check as check
use Rattle.taffrail.specs.contracts.taffrail_search as search
use Rattle.taffrail.specs.contracts.taffrail_add as add
use Rattle.taffrail.specs.contracts.taffrail_remove as remove
use Rattle.taffrail.specs.contracts.taffrail_reinstate as reinstate
use Rattle.taffrail_c.specs.contracts.taffrail_check as check-export
use Rattle.taffrail_c.specs.contracts.taffrail_search as search-export
use Rattle.taffrail_c.specs.contracts.taffrail_add as add-export
use Rattle.taffrail_c.specs.contracts.taffrail_remove as remove-export
use Rattle.taffrail_c.specs.contracts.taffrail_reinstate as reinstate-export

module _ {M : Type 1} {𝓤 : Ura M} (𝓛 : Logic 𝓤) (mem : Memory → SProp 𝓤) (run : Routine → Fun 𝓤) where
  pub check-says : check-export.clauses 𝓛 mem run ≡ check.clauses 𝓛 mem run
  check-says = refl

  pub search-says : search-export.clauses 𝓛 mem run ≡ search.clauses 𝓛 mem run
  search-says = refl

  pub add-says : add-export.clauses 𝓛 mem run ≡ add.clauses 𝓛 mem run
  add-says = refl

  pub remove-says : remove-export.clauses 𝓛 mem run ≡ remove.clauses 𝓛 mem run
  remove-says = refl

  pub reinstate-says : reinstate-export.clauses 𝓛 mem run ≡ reinstate.clauses 𝓛 mem run
  reinstate-says = refl
