-- The search by rectangle in the first `used` bytes of a buffer m, with a window w and a lent list l. Which slots it lists is `found` (`look`, Found).
--     count_of, blocks_of         the count found and the blocks walked of an answer. Beside 9, which returns the count needed, every count in a refusal is 0.
--                                 Its number and its place are those of every answer (`refusals`, Refusals)
--     checked_length m used       a length that is checked against the limits and the buffer; else 0, which no map has
--     answer_for, answer_of        1 to 7 as the check has them; 8: left > right or bottom > top; 9: the list is shorter than the count
--     In x l                     x stands in the list l
--     list_after m used w l       what the lent list holds afterwards: the slots found in its first entries and the rest as it was; after a refusal all as it was
--     Searched m used w l a after     the search's result: its answer a, and the list afterwards
use Rattle.std.specs.Prelude.{ℕ, ◌<◌, Bool, cond, ◌≡◌, List, ltb, length, get_or, Result, Ok, Err}
use Rattle.std.proofs.lemmas.List.Edits.{sets}
use Rattle.windows.specs.declared.Window.{Window}
use Rattle.windows.specs.Windows.{window_good}
use Rattle.refusals.specs.declared.Refusal.{Refusal}
use Rattle.refusals.specs.declared.Refusal.TheVariants.{BadWindow, ShortList}
use Rattle.judge.specs.Judging.{length_good}
use Rattle.accept.specs.Verdicts.{verdict}
use Rattle.look.specs.Found.{found}
use Rattle.find.specs.declared.Listed.{Listed}

abbrev pub needed_of : Refusal → ℕ
needed_of (ShortList n) = n
needed_of e = 0

abbrev pub count_of : Result Listed Refusal → ℕ
count_of (Ok l) = l.count
count_of (Err e) = needed_of e

abbrev pub blocks_of : Result Listed Refusal → ℕ
blocks_of (Ok l) = l.blocks
blocks_of (Err e) = 0

unfoldable pub checked_length : List ℕ → ℕ → ℕ
checked_length m used = cond (length_good m used) used 0

unfoldable pub answer_for : Result ℕ Refusal → (ℕ → List ℕ) → Bool → ℕ → Result Listed Refusal
-- 1 to 7: the check's
answer_for (Err e) hits good room = Err e
answer_for (Ok n) hits good room =
    cond good
    (cond (ltb room (length (hits n)))
    -- 9: "list shorter than the count"
    (Err (ShortList (length (hits n))))
    -- "the count found and the blocks walked, which is the chain's length"
    (Ok (record { count = length (hits n); blocks = n })))
    -- 8: "window with left > right or bottom > top"
    (Err BadWindow)

unfoldable pub answer_of : List ℕ → ℕ → Window → ℕ → Result Listed Refusal
answer_of m used w room = answer_for (verdict m used) (λ n. found m n w) (window_good w) room

abbrev pub list_for : Result Listed Refusal → (ℕ → List ℕ) → List ℕ → List ℕ
list_for (Ok f) hits l = sets l 0 (hits f.blocks)
list_for (Err e) hits l = l

unfoldable pub list_after : List ℕ → ℕ → Window → List ℕ → List ℕ
list_after m used w l = list_for (answer_of m used w (length l)) (λ n. found m n w) l

abbrev pub Searched : List ℕ → ℕ → Window → List ℕ → Result Listed Refusal → List ℕ → Type 0
Searched m used w l a after = (a ≡ answer_of m used w (length l)) × (after ≡ list_after m used w l)

abbrev pub In : ℕ → List ℕ → Type 0
In x l = (i : ℕ) × (i < length l) × (get_or l i 0 ≡ x)
