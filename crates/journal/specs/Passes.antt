-- For inner contracts: a reader of the promises may skip this file. One pass over the records of a journal j.
--     Reach m o               what finds each slot of the map: o has its index blocks in their order, and each slot lies inside the bytes
--     held_in j e i            the last of the first i records that has number e
--     judged j m n e          what the pass answers beside a map m of n index blocks: how many records are in use and which of them holds number e; or a refusal
--                             where one is not good
use Rattle.std.specs.Prelude.{ℕ, zero, suc, ◌+◌, ◌*◌, ◌≤◌, ◌<◌, not, cond, List, eqb, length, Option, None, Some, Result, Ok, Err}
use Rattle.numbers.specs.Below.{any}
use Rattle.journal.specs.Journals.{record_in, in_use, record_good}
use Rattle.journal.specs.declared.UsedRecords.{UsedRecords}
use Rattle.refusals.specs.declared.Refusal.{Refusal}
use Rattle.refusals.specs.declared.Refusal.TheVariants.{BadJournal}
use Rattle.records.specs.Sizes.{slot_size, map_limit, block_cells}
use Rattle.records.specs.Headers.{index_head}
use Rattle.chain.specs.Tables.{Ordered}
use Rattle.judge.specs.Rules.{slot_at}

unfoldable pub held_in : List ℕ → ℕ → ℕ → Option ℕ
held_in j e zero = None
held_in j e (suc k) = cond (eqb (record_in j k).number e) (Some k) (held_in j e k)

unfoldable pub judged : List ℕ → List ℕ → ℕ → ℕ → Result UsedRecords Refusal
judged j m n e =
    cond (any (λ i. not (record_good j m n i)) (in_use j))
    (Err BadJournal)
    (Ok (record { used = in_use j; held = held_in j e (in_use j) }))

pub record Reach (m o : List ℕ) : Type 0 where
  pub few : length o ≤ map_limit
  pub ordered : Ordered index_head m (length o) o
  pub inside : (s : ℕ) → s < block_cells * length o → slot_at m s + slot_size ≤ length m
