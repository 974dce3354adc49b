-- What the check answers for the first `used` bytes of a buffer m: document 01's numbers 1 to 7 in its order, each with its place; or accepted, with the
-- number of index blocks.
--     cells_judged               the first cell at fault, by number: the place where it stands
--     header_judged m used       1: the length. 2: the mark. 3: the version, with its section mark in 6 to 8 and its file type in 9 to 11. 4: setup (16), then
--                               info (24); there is no 4 in 9 to 11
--     link_judged                6: the link of a symbol block, at the place where the link is stored
--     symbols_judged m used n    6: of the symbol blocks taken, the first entry at fault; then the link at which the walk stopped. That is the order a block,
--                               its entries, then its link
--     slots_judged m used n      7: the live slot at fault of lowest number
--     after_index, verdict       5: the link of an index block, at the place where the link is stored; then 6, then 7
--     Checked m used v          the check's result: its answer v is the verdict
--     Editable m used n         the map is accepted and of 6 to 8: edits take no other
--     entries_judged_of f, symbols_judged_of f, slots_judged_of f, after_index_of f     the same of a layout (`judge`, Rules); those without one are of the map's own
use Rattle.std.specs.Prelude.{ℕ, ◌*◌, Bool, false, cond, ◌≡◌, List, ltb, eqb, Result, Ok, Err}
use Rattle.refusals.specs.declared.Refusal.{Refusal}
use Rattle.refusals.specs.declared.Refusal.TheVariants.{BadLength, BadMark, BadVersion, BadPart, BadIndex, BadSymbol, BadSlot}
use Rattle.refusals.specs.Refusals.{Judged, unless, good}
use Rattle.numbers.specs.Below.{first}
use Rattle.records.specs.declared.Header.{Header}
use Rattle.records.specs.Headers.{header_of, version_good, is_wide, setup_at, info_at}
use Rattle.chain.specs.declared.LinkFault.{LinkFault}
use Rattle.chain.specs.Chains.{walked, taken}
use Rattle.judge.specs.Rules.{Family, family_of, index_rule_of, symbol_rule_of, touches_of, slot_at_of, entry_at}
use Rattle.judge.specs.Judging.{version_of, length_good, part_good}
use Rattle.records.specs.Sizes.{block_cells}

unfoldable pub cells_judged : (ℕ → Refusal) → (ℕ → Bool) → (ℕ → ℕ) → ℕ → Judged
cells_judged refusal bad place n = cond (ltb (first bad n) n) (Err (refusal (place (first bad n)))) good

unfoldable pub parts_judged : Header → ℕ → Judged
parts_judged h used =
    cond (part_good used h.setup) (cond (part_good used h.info) good (Err (BadPart info_at))) (Err (BadPart setup_at))

unfoldable pub fields_judged : Header → ℕ → Judged
fields_judged h used =
    cond (eqb h.mark 3245) (cond (version_good h) (cond (is_wide h.version) good (parts_judged h used)) (Err BadVersion)) (Err BadMark)

unfoldable pub header_judged : List ℕ → ℕ → Judged
header_judged m used = cond (length_good m used) (fields_judged (header_of m) used) (Err BadLength)

abbrev pub link_judged : Result ℕ LinkFault → Judged
link_judged (Ok n) = good
link_judged (Err f) = Err (BadSymbol f.place)

unfoldable pub entries_judged_of : Family → List ℕ → ℕ → ℕ → ℕ → Judged
entries_judged_of f m used n k = cells_judged BadSymbol (λ e. f.entry_at_fault (touches_of f m n) m used (entry_at m e)) (entry_at m) (block_cells * k)

unfoldable pub symbols_judged_of : Family → List ℕ → ℕ → ℕ → Judged
symbols_judged_of f m used n =
    unless (entries_judged_of f m used n (taken (symbol_rule_of f m n) m used)) (link_judged (walked (symbol_rule_of f m n) m used))

unfoldable pub slots_judged_of : Family → List ℕ → ℕ → ℕ → Judged
slots_judged_of f m used n = cells_judged BadSlot (λ s. f.slot_at_fault (touches_of f m n) m used (slot_at_of f m s)) (slot_at_of f m) (block_cells * n)

unfoldable pub after_index_of : Family → List ℕ → ℕ → Result ℕ LinkFault → Result ℕ Refusal
after_index_of f m used (Ok n) = unless (symbols_judged_of f m used n) (unless (slots_judged_of f m used n) (Ok n))
after_index_of f m used (Err x) = Err (BadIndex x.place)

abbrev pub entries_judged : List ℕ → ℕ → ℕ → ℕ → Judged
entries_judged m used n k = entries_judged_of (family_of m) m used n k

abbrev pub symbols_judged : List ℕ → ℕ → ℕ → Judged
symbols_judged m used n = symbols_judged_of (family_of m) m used n

abbrev pub slots_judged : List ℕ → ℕ → ℕ → Judged
slots_judged m used n = slots_judged_of (family_of m) m used n

abbrev pub after_index : List ℕ → ℕ → Result ℕ LinkFault → Result ℕ Refusal
after_index m used w = after_index_of (family_of m) m used w

unfoldable pub verdict : List ℕ → ℕ → Result ℕ Refusal
verdict m used = unless (header_judged m used) (after_index m used (walked (index_rule_of (family_of m) m) m used))

abbrev pub Checked : List ℕ → ℕ → Result ℕ Refusal → Type 0
Checked m used v = v ≡ verdict m used

abbrev pub Editable : List ℕ → ℕ → ℕ → Type 0
Editable m used n = (verdict m used ≡ Ok n) × (is_wide (version_of m) ≡ false)
