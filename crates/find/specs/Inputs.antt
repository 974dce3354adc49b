-- The search program's input: a window, four 32-bit numbers, and behind it a map of at most 65,536 bytes.
--     input_good i           whether the window is whole and the map not longer than that
--     input_answer i room    what is answered: 1 where the input is not good, else the search's answer
--     input_list i l         what the lent list holds afterwards
--     SearchedInput i l a after     the result: the answer a, and the list afterwards
use Rattle.std.specs.Prelude.{ℕ, ◌+◌, ◌-◌, Bool, cond, ◌&&◌, ◌≡◌, List, leb, length, drop, Result, Err}
use Rattle.refusals.specs.declared.Refusal.{Refusal}
use Rattle.refusals.specs.declared.Refusal.TheVariants.{BadLength}
use Rattle.records.specs.Sizes.{window_size}
use Rattle.windows.specs.Windows.{window_of}
use Rattle.find.specs.declared.Listed.{Listed}
use Rattle.find.specs.Searches.{answer_of, list_after}

abbrev pub program_limit : ℕ
program_limit = 65536

unfoldable pub input_good : List ℕ → Bool
input_good i = leb window_size (length i) && leb (length i) (window_size + program_limit)

unfoldable pub input_answer : List ℕ → ℕ → Result Listed Refusal
input_answer i room =
    cond (input_good i) (answer_of (drop window_size i) (length i - window_size) (window_of i) room) (Err BadLength)

unfoldable pub input_list : List ℕ → List ℕ → List ℕ
input_list i l = cond (input_good i) (list_after (drop window_size i) (length i - window_size) (window_of i) l) l

abbrev pub SearchedInput : List ℕ → List ℕ → Result Listed Refusal → List ℕ → Type 0
SearchedInput i l a after = (a ≡ input_answer i (length l)) × (after ≡ input_list i l)
