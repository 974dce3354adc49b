-- `chain::fill` meets its contract. The loop's invariant: the first entries are filled, and `last` is the end of the last block below the next. Assumes nothing.
use mathlib.Core.Path.{◌≡◌}
use Rattle.chain.specs.Tables.{last_below, end_of, Carried}
use Rattle.chain.proofs.fill.Given as goal

abbrev pub invariant-loop-entry : goal.invariant-loop-entry
invariant-loop-entry l = (l.last ≡ end_of l.size (last_below l.initial.entry-items l.entry-index)) × Carried l.size l.entry-index l.initial.entry-items l.entry-items
