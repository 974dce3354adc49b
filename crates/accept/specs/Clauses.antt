-- What the contract of a public call says, as it is written in src.
--     Written T, Ensures T   the clauses of a call of the signature T; what is said of its arguments, its result and what is lent at exit
--     ensuring S             the clauses that ask for nothing and ensure S
--     Says T c S             the clauses c are those
--     lent P S               the clauses that ask that P holds of the lifetimes, as a borrow of any type asks that the type lives as long, and ensure S
--     SaysLent T c P S       the clauses c are those
use Rattle.std.specs.Prelude.{◌≡◌}
use seplogic.Ra.Ura.{Ura}
use base.Logic.{SProp}
use prog.Memory.{Memory}
use prog.Routine.{Routine}
use types.Logic.{Logic}
use contract.Lifetimes.{Lfts}
use contract.Monad.{Fun}
use contract.Notation.{connectives}
use denote.Triple.Entry.{Args, Res}
use denote.Triple.Clauses.{Ended, AtExit, Clauses}

abbrev pub Written : Ended → Type 2
Written T = (M : Type 1) (𝓤 : Ura M) → (𝓛 : Logic 𝓤) → (Memory → SProp 𝓤) → (Routine → Fun 𝓤) → Clauses 𝓤 T

abbrev pub Ensures : Ended → Type 1
Ensures T = (κs : Lfts T.signature.lifetimes) → Args T.signature κs → Res T.signature κs → AtExit T κs → Type 0

module _ {M : Type 1} (𝓤 : Ura M) where
  open connectives 𝓤 use {⌜◌⌝, ⊤ₛ, ◌∗◌}

  abbrev pub ensuring : (T : Ended) → Ensures T → Clauses 𝓤 T
  ensuring T S κs a = record { ghost = Unit {0}; requires = λ g. ⊤ₛ; ensures = λ g r e. ⌜ S κs a r e ⌝ }

  abbrev pub lent : (T : Ended) → (Lfts T.signature.lifetimes → Type 0) → Ensures T → Clauses 𝓤 T
  lent T P S κs a = record { ghost = Unit {0}; requires = λ g. ⌜ P κs ⌝ ∗ ⊤ₛ; ensures = λ g r e. ⌜ S κs a r e ⌝ }

abbrev pub Says : (T : Ended) → Written T → Ensures T → Type 2
Says T c S =
    (M : Type 1) (𝓤 : Ura M) (𝓛 : Logic 𝓤) (mem : Memory → SProp 𝓤) (run : Routine → Fun 𝓤) → c M 𝓤 𝓛 mem run ≡ ensuring 𝓤 T S

abbrev pub SaysLent : (T : Ended) → Written T → (Lfts T.signature.lifetimes → Type 0) → Ensures T → Type 2
SaysLent T c P S =
    (M : Type 1) (𝓤 : Ura M) (𝓛 : Logic 𝓤) (mem : Memory → SProp 𝓤) (run : Routine → Fun 𝓤) → c M 𝓤 𝓛 mem run ≡ lent 𝓤 T P S
