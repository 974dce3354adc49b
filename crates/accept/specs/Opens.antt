-- For inner contracts: a reader of the promises may skip this file. What 1 to 6 of the check answer for the first `used`
-- bytes of a buffer m, and the table t of the index blocks that is left; and what the look at the slots finds beside the verdict.
--     opened_after, opened_of   5, then 6, by the walk of the index blocks; and 1 to 4 before them: a refusal, or the number of index blocks
--     after_opened m used o    the check's answer for a map that was opened: the refusal, or 7, or accepted
--     entry_fault b m used t   whether the symbol entry at a place is at fault, in a map of 9 to 11 where b is true, with the table t of its index blocks;
--     slot_fault_for b m used t  the same of the slot at a place; slot_fault v m used t: in a map of version v
--     OpenOf f m used n t     1 to 5 hold for a map of the layout f, with n index blocks, which are in the table, filled; Open m: of the map's own layout
--     Opens m used t o        the map is open where o is no refusal
--     blocks_of x              the number of index blocks that the examination found
--     with_free m v            a verdict, with the first free slot where it is accepted; a map of 9 to 11, which no edit takes, is told apart
use Rattle.std.specs.Prelude.{ℕ, ◌≤◌, Bool, cond, ◌≡◌, List, Result, Ok, Err}
use Rattle.records.specs.Sizes.{header_size}
use Rattle.records.specs.Headers.{index_head, is_wide}
use Rattle.chain.specs.declared.LinkFault.{LinkFault}
use Rattle.chain.specs.Chains.{walked}
use Rattle.chain.specs.Tables.{EndsTable, ends_meet}
use Rattle.chain.specs.Indexed.{Indexed}
use Rattle.judge.specs.Rules.{Family, family_for, family_of, index_rule_of}
use Rattle.refusals.specs.declared.Refusal.{Refusal}
use Rattle.refusals.specs.declared.Refusal.TheVariants.{BadIndex}
use Rattle.refusals.specs.Refusals.{unless}
use Rattle.accept.specs.Verdicts.{header_judged, symbols_judged, slots_judged}
use Rattle.accept.specs.declared.ExaminedMap.{ExaminedMap}
use Rattle.accept.specs.declared.ExaminedMap.TheVariants.{Accepted, Wide}
use Rattle.judge.specs.Judging.{version_of}
use Rattle.accept.specs.Slots.{free_slot}

unfoldable pub opened_after : List ℕ → ℕ → Result ℕ LinkFault → Result ℕ Refusal
opened_after m used (Ok n) = unless (symbols_judged m used n) (Ok n)
opened_after m used (Err x) = Err (BadIndex x.place)

unfoldable pub opened_of : List ℕ → ℕ → Result ℕ Refusal
opened_of m used = unless (header_judged m used) (opened_after m used (walked (index_rule_of (family_of m) m) m used))

abbrev pub after_opened : List ℕ → ℕ → Result ℕ Refusal → Result ℕ Refusal
after_opened m used (Ok n) = unless (slots_judged m used n) (Ok n)
after_opened m used (Err e) = Err e

abbrev pub entry_fault : Bool → List ℕ → ℕ → List ℕ → ℕ → Bool
entry_fault b m used t = (family_for b).entry_at_fault (ends_meet (family_for b).block t) m used

abbrev pub slot_fault_for : Bool → List ℕ → ℕ → List ℕ → ℕ → Bool
slot_fault_for b m used t = (family_for b).slot_at_fault (ends_meet (family_for b).block t) m used

abbrev pub slot_fault : ℕ → List ℕ → ℕ → List ℕ → ℕ → Bool
slot_fault v = slot_fault_for (is_wide v)

pub record OpenOf (f : Family) (m : List ℕ) (used n : ℕ) (t : List ℕ) : Type 0 where
  pub low : header_size ≤ used
  pub indexed : Indexed f.block f.page m used t
  pub index : walked (index_rule_of f m) m used ≡ Ok n
  pub table : EndsTable f.block index_head f.page m n t

abbrev pub Open : List ℕ → ℕ → ℕ → List ℕ → Type 0
Open m = OpenOf (family_of m) m

abbrev pub Opens : List ℕ → ℕ → List ℕ → Result ℕ Refusal → Type 0
Opens m used t (Ok n) = Open m used n t
Opens m used t (Err e) = Unit {0}

abbrev pub blocks_of : ExaminedMap → ℕ
blocks_of (Accepted n free) = n
blocks_of (Wide n) = n

abbrev pub with_free : List ℕ → Result ℕ Refusal → Result ExaminedMap Refusal
with_free m (Ok n) = Ok (cond (is_wide (version_of m)) (Wide n) (Accepted n (free_slot m n)))
with_free m (Err e) = Err e
