-- Which slots a search by the window w lists, in a map m of n index blocks, of either layout.
--     live_at f m w p       whether the slot of the layout f (`judge`, Rules) at place p is live and its rectangle meets the window
--     live_in_of f m w s    the same of slot s; live_in m w s: in the layout of the map
--     slots_for test n      the slots of n index blocks that pass a test, ascending, each once
--     found m n w          those that the search lists: the live ones that meet the window
use Rattle.std.specs.Prelude.{ℕ, ◌*◌, Bool, ◌&&◌, List}
use Rattle.numbers.specs.Below.{sel}
use Rattle.records.specs.Sizes.{block_cells}
use Rattle.windows.specs.declared.Window.{Window}
use Rattle.windows.specs.Windows.{rectangle_at, meets_window}
use Rattle.judge.specs.Rules.{Family, family_of, slot_at_of}

unfoldable pub live_at : Family → List ℕ → Window → ℕ → Bool
live_at f m w p = f.live m p && meets_window (rectangle_at m p) w

abbrev pub live_in_of : Family → List ℕ → Window → ℕ → Bool
live_in_of f m w s = live_at f m w (slot_at_of f m s)

abbrev pub live_in : List ℕ → Window → ℕ → Bool
live_in m = live_in_of (family_of m) m

unfoldable pub slots_for : (ℕ → Bool) → ℕ → List ℕ
slots_for test n = sel test (block_cells * n)

abbrev pub found : List ℕ → ℕ → Window → List ℕ
found m n w = slots_for (live_in m w) n
