-- For inner contracts: a reader of the promises may skip this file. The Sym that a removal or a reinstatement writes, as the code answers it.
--     sym_to_reinstate touch m used t    of an erased slot t: its object's Sym, where that is inside the map and not 0 and the slot would be good with it
--     new_sym_for kind m used n s        of an edit of kind 2 or 3 on slot s: what `sym_for` says where `allowed_for` allows it
use Rattle.std.specs.Prelude.{ℕ, ◌+◌, Bool, not, cond, ◌&&◌, List, eqb, leb, Option, None, Some}
use Rattle.numbers.specs.Bytes.{u16_at}
use Rattle.slots.specs.declared.Slot.{Slot}
use Rattle.judge.specs.Judging.{version_of, slot_good}
use Rattle.change.specs.Slots.{resym, allowed_for, sym_for}

unfoldable pub sym_to_reinstate : (ℕ → ℕ → Bool) → List ℕ → ℕ → Slot → Option ℕ
sym_to_reinstate touch m used t =
    cond
    (leb (t.position + 2) used
    && (not (eqb (u16_at m t.position) 0) && slot_good touch m used (version_of m) (resym t (u16_at m t.position))))
    (Some (u16_at m t.position))
    None

unfoldable pub new_sym_for : ℕ → List ℕ → ℕ → ℕ → ℕ → Option ℕ
new_sym_for kind m used n s = cond (allowed_for kind m used n s) (Some (sym_for kind m s)) None
