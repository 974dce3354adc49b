-- Remove and reinstate, under a journal j and an edit number e, on the first `used` bytes of a buffer m.
--     repeat_change           remove and reinstate under a number that is held: the same kind and slot is "done before", anything else 14
--     fresh_change            remove and reinstate under a new number: 12, then 15, then done, with one Sym written
--     removed, reinstated    the two, by their kind in the journal: 2 and 3
--     Removed, Reinstated    their results: the answer a, and the map m' and the journal j' afterwards
use Rattle.std.specs.Prelude.{ℕ, Bool, cond, ◌&&◌, List, eqb, Result, Ok, Err}
use Rattle.refusals.specs.declared.Refusal.{Refusal}
use Rattle.refusals.specs.declared.Refusal.TheVariants.{WrongState, NumberHeld, JournalFull}
use Rattle.records.specs.Journals.{record_for}
use Rattle.journal.specs.Journals.{is_full, appended}
use Rattle.edit.specs.declared.EditAnswer.{EditAnswer}
use Rattle.edit.specs.declared.EditAnswer.TheVariants.{Done, Before}
use Rattle.change.specs.Slots.{with_sym, allowed_for, sym_for}
use Rattle.edit.specs.Edits.{Outcome, Edited, saying, begun}

unfoldable pub repeat_change : List ℕ → ℕ → List ℕ → ℕ → ℕ → ℕ → ℕ → Outcome
repeat_change m used j kind s k t =
    -- "A number already held: same kind and slot [..] answers "done before" with the slot and the length as it is, and nothing changes"
    cond (eqb k kind && eqb t s)
    (saying m j (Ok (Before s used)))
    -- 14: held under another kind or slot
    (saying m j (Err NumberHeld))

unfoldable pub fresh_change : List ℕ → ℕ → List ℕ → ℕ → ℕ → ℕ → Bool → ℕ → Outcome
fresh_change m used j e kind s allowed y =
    cond allowed
    (cond (is_full j)
    -- 15: no record is unused
    (saying m j (Err JournalFull))
    -- done: one Sym is written, and the record, "at the first unused record". "Beside these writes no byte of the buffer changes."
    (record { answer = Ok (Done s used); map = with_sym m s y; journal = appended j (record_for e kind s) }))
    -- 12: "slot missing or not in the state wanted, or reinstating refused"
    (saying m j (Err WrongState))

unfoldable pub changed : List ℕ → ℕ → List ℕ → ℕ → ℕ → ℕ → Outcome
changed m used j e kind s =
    begun m used j e
    (λ n k t. repeat_change m used j kind s k t)
    (λ n. fresh_change m used j e kind s (allowed_for kind m used n s) (sym_for kind m s))

abbrev pub removed : List ℕ → ℕ → List ℕ → ℕ → ℕ → Outcome
removed m used j e s = changed m used j e 2 s

abbrev pub reinstated : List ℕ → ℕ → List ℕ → ℕ → ℕ → Outcome
reinstated m used j e s = changed m used j e 3 s

abbrev pub Removed : List ℕ → ℕ → List ℕ → ℕ → ℕ → Result EditAnswer Refusal → List ℕ → List ℕ → Type 0
Removed m used j e s a m' j' = Edited (removed m used j e s) a m' j'

abbrev pub Reinstated : List ℕ → ℕ → List ℕ → ℕ → ℕ → Result EditAnswer Refusal → List ℕ → List ℕ → Type 0
Reinstated m used j e s a m' j' = Edited (reinstated m used j e s) a m' j'
