-- The laws of the two layouts and the two kinds of chain: how large a block can be; as the code hands a kind to the walk, it is the rule of specs/; what the walk
-- needs of it; and how many index blocks there are at most. Assumes nothing.
use Prim.Native.Nat.{ℕ, ◌+◌, ◌-◌, ◌*◌, ◌/◌, ◌≤◌, ◌<◌}
use mathlib.Core.Bool.{Bool, true, false}
use mathlib.Core.Path.{◌≡◌, refl, sym, ap, ◌∙◌, subst}
use mathlib.Core.List.{List}
use native.Mathlib.Omega.{arith}
use lib.ListN.{length}
use Rattle.numbers.specs.Bytes.{Bytes}
use Rattle.records.specs.declared.Header.{Header}
use Rattle.records.specs.Sizes.{header_size, map_limit, index_block_size, wide_block_size, wide_slot_size, index_page, most_blocks, symbol_block_size, symbol_page}
use Rattle.records.specs.Headers.{header_of, symbol_head, is_wide}
use Rattle.chain.specs.declared.Kind.{Kind}
use Rattle.std.specs.Prelude.{Result}
use Rattle.chain.specs.declared.LinkFault.{LinkFault}
use Rattle.chain.specs.Chains.{Rule, walked, taken}
use Rattle.chain.specs.Tables.{Empty, Placed, Table, ends_meet, kind_rule, Ready}
use Rattle.chain.proofs.Chains.{Pass, few}
use Rattle.chain.proofs.Tables.{rule-ranges, rule-other, rule-none}
use Rattle.chain.proofs.Filled.{empty-filled}
use Rattle.chain.specs.Indexed.{Indexed}
use Rattle.judge.specs.Judging.{version_of}
use Rattle.judge.specs.Rules.{Family, family_for, family_of, index_rule_of, symbol_rule_of, touches_of}
use Rattle.judge.specs.Kinds.{index_kind, symbol_kind}

-- ---- the two layouts

-- an index block of either has more bytes than a page of its table, and few enough, and so has a slot
pub record Sized (f : Family) : Type 0 where
  pub least : index_block_size ≤ f.block
  pub most : f.block ≤ wide_block_size
  pub page-least : index_page ≤ f.page
  pub page-most : f.page ≤ f.block
  pub slot-most : f.slot ≤ wide_slot_size

pub sized : (b : Bool) → Sized (family_for b)
sized true = record { least = omega arith; most = omega arith; page-least = omega arith; page-most = omega arith; slot-most = omega arith }
sized false = record { least = omega arith; most = omega arith; page-least = omega arith; page-most = omega arith; slot-most = omega arith }

-- a table that reaches as far by the smaller pages does so by those of either
pub pages-fit : (b : Bool) (used n : ℕ) → used + index_page ≤ n * index_page → used + (family_for b).page ≤ n * (family_for b).page
pages-fit true used n l = omega arith
pages-fit false used n l = l

-- it has an entry for each page of the map, and one before them
pub pages-count : (b : Bool) (used n : ℕ) → 1 ≤ used → used + index_page ≤ n * index_page → (used - 1) / (family_for b).page + 2 ≤ n
pages-count true used n h l = omega arith
pages-count false used n h l = omega arith

pub pages-below : (b : Bool) (used i : ℕ) → 1 ≤ used → i * (family_for b).page < used + (family_for b).page → i < (used - 1) / (family_for b).page + 2
pages-below true used i h l = omega arith
pages-below false used i h l = omega arith

-- ---- index blocks

-- they share no byte, so a map has room for so many
pub most-blocks : (b : Bool) {m : List ℕ} {used n : ℕ} → Pass (index_rule_of (family_for b) m) m used n → used ≤ map_limit → n ≤ most_blocks
most-blocks true h l = omega (arith, few h (omega arith))
most-blocks false h l = omega (arith, few h (omega arith))

module _ (m : List ℕ) (none : List ℕ) (g : Empty none) where
  index-rule-in : (b : Bool) → is_wide (version_of m) ≡ b → kind_rule (index_kind (header_of m)) none ≡ index_rule_of (family_of m) m
  unfolding header_of
  index-rule-in true e = rw e (rule-none _ none refl refl g)
  index-rule-in false e = rw e (rule-ranges _ none g)

pub index-page : (m : List ℕ) {h : Header} {k : Kind} → h ≡ header_of m → k ≡ index_kind h → k.page ≡ (family_of m).page
unfolding header_of
index-page m e f = rw (f, e)

module _ (m : List ℕ) {h : Header} {k : Kind} (e : h ≡ header_of m) (f : k ≡ index_kind h) (none : List ℕ) (g : Empty none) where
  pub index-rule : kind_rule k none ≡ index_rule_of (family_of m) m
  index-rule = rw (f, e) (index-rule-in m none g (is_wide (version_of m)) refl)

  pub index-ready : {used : ℕ} {t : List ℕ} → Bytes m → header_size ≤ used → used ≤ map_limit → 2 ≤ length none → used + index_page ≤ length t * index_page → Ready k used none t
  unfolding header_of
  index-ready b least most reach wide =
      let w : Bool = is_wide (version_of m) in
      let s : Sized (family_for w) = sized w in
      rw (f, e)
      (record {
        bounds = record {
          most = most;
          block-least = omega (arith, s.least);
          block-most = omega (arith, s.most);
          other-least = omega arith;
          other-most = omega arith;
          other-page = omega arith;
          other-wide = omega arith;
          other-filled = empty-filled index_block_size map_limit _ g;
        };
        least = least;
        head_in = omega arith;
        page-least = omega (arith, s.page-least);
        page-most = s.page-most;
        wide = pages-fit w _ _ wide;
      })

-- ---- symbol blocks

module _ (f : Family) {k : Kind} (e : k ≡ symbol_kind f) where
  pub symbol-rule : (m : List ℕ) (n : ℕ) (index : List ℕ) → ends_meet f.block index ≡ touches_of f m n → kind_rule k index ≡ symbol_rule_of f m n
  symbol-rule m n index w =
      rw e
      (rule-other (symbol_kind f) index refl refl
      ∙ ap (λ (touch : ℕ → ℕ → Bool). record { head = symbol_head; size = symbol_block_size; taboo = λ p. touch p symbol_block_size }) w)

  pub symbol-ready : Sized f → {m : List ℕ} {used : ℕ} {index t : List ℕ} → header_size ≤ used → Indexed f.block f.page m used index → used + symbol_page ≤ length t * symbol_page → Ready k used index t
  symbol-ready s least indexed wide =
      rw e
      (record {
        bounds = record {
          most = indexed.limit;
          block-least = omega arith;
          block-most = omega arith;
          other-least = omega (arith, s.least);
          other-most = omega (arith, s.most);
          other-page = omega (arith, s.page-least);
          other-wide = indexed.wide;
          other-filled = indexed.filled;
        };
        least = least;
        head_in = omega arith;
        page-least = omega arith;
        page-most = omega arith;
        wide = wide;
      })

-- ---- what a walk answers, by the rule that its kind is

pub walk-by : {r s : Rule} {m : List ℕ} (used : ℕ) {w : Result ℕ LinkFault} {a b : ℕ} {t : List ℕ} → r ≡ s → a ≡ b → (w ≡ walked r m used) × Placed a t × Table r.head a m (taken r m used) t → (walked s m used ≡ w) × Placed b t × Table s.head b m (taken s m used) t
walk-by {m} used {w} {a} {t} e f h =
    rw f at (subst (λ (q : Rule). (walked q m used ≡ w) × Placed a t × Table q.head a m (taken q m used) t) e (sym h.0, h.1, h.2))
