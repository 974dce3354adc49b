-- The laws of the answers: what a good length tells, what the symbol blocks are judged to be, and what an accepted map tells behind its header. Assumes
-- nothing.
use Prim.Native.Nat.{ℕ, ◌*◌, ◌≤◌, ◌<◌}
use mathlib.Core.Bool.{Bool, true, false, cond, ◌&&◌}
use mathlib.Core.Path.{◌≡◌, refl, sym, ap, ◌∙◌}
use mathlib.Core.List.{List}
use native.Mathlib.Omega.{arith}
use lib.Dec.{leb}
use lib.ListN.{length}
use borrow.Author.Tests.{leb-true}
use Rattle.records.specs.Sizes.{header_size, map_limit}
use Rattle.numbers.specs.Bytes.{u32_at}
use Rattle.records.specs.Headers.{header_of, index_head, symbol_head}
use Rattle.chain.specs.declared.LinkFault.{LinkFault}
use Rattle.chain.specs.Chains.{Rule, place, block, walked, taken}
use Rattle.chain.proofs.Chains.{pass-none, block_at, stops-zero, taken_is, walked-blocks, walked-taken, fault-tells}
use Rattle.judge.specs.Rules.{Family, index_rule_of, symbol_rule_of, touches_of, slot_at_of, entry_at}
use Rattle.judge.specs.Judging.{length_good}
use Rattle.std.specs.Prelude.{Result, Ok, Err}
use Rattle.refusals.specs.declared.Refusal.TheVariants.{BadLength, BadSymbol, BadSlot}
use Rattle.refusals.specs.Refusals.{Judged, unless, good}
use Rattle.refusals.proofs.Passing.{refused, unless_tells}
use Rattle.accept.proofs.Looking.{cells-good}
use Rattle.judge.proofs.Telling.{and-true}
use Rattle.accept.specs.Verdicts.{link_judged, fields_judged, header_judged, after_index_of, entries_judged_of, slots_judged_of, symbols_judged_of}

-- ---- 1: the length

pub length-tells : (m : List ℕ) (used : ℕ) → length_good m used ≡ true → (header_size ≤ used) × (used ≤ map_limit) × (used ≤ length m)
unfolding length_good
length-tells m used e =
    let f = and-true (leb header_size used) (leb used map_limit && leb used (length m)) e in
    let g = and-true (leb used map_limit) (leb used (length m)) f.1 in
    (leb-true header_size used f.0, leb-true used map_limit g.0, leb-true used (length m) g.1)

pub header-tells : (m : List ℕ) (used : ℕ) → header_judged m used ≡ good → (header_size ≤ used) × (used ≤ map_limit) × (used ≤ length m)
unfolding header_judged
header-tells m used e = go (length_good m used) refl e
  where
    go : (b : Bool) → length_good m used ≡ b → cond b (fields_judged (header_of m) used) (Err BadLength) ≡ good → (header_size ≤ used) × (used ≤ map_limit) × (used ≤ length m)
    go true f g = length-tells m used f
    go false f g = let z : ◌≡◌ {A = ℕ} 0 1 = cc in let no_way : ⊥ = omega arith in absurd no_way

-- the same, by what the code answers
pub header_passed : (m : List ℕ) (used : ℕ) {r : Judged} → r ≡ header_judged m used → r ≡ good → (header_size ≤ used) × (used ≤ map_limit) × (used ≤ length m)
header_passed m used e f = header-tells m used (sym e ∙ f)

-- ---- 6: the symbol blocks

-- how many blocks an answer of the walk tells of: those that were taken
abbrev pub blocks_in : Result ℕ LinkFault → ℕ
blocks_in (Ok n) = n
blocks_in (Err x) = x.taken

pub taken_of : (r : Rule) (m : List ℕ) (used : ℕ) (w : Result ℕ LinkFault) → walked r m used ≡ w → blocks_in w ≡ taken r m used
taken_of r m used (Ok n) e = sym (walked-taken r m used e)
taken_of r m used (Err x) e = sym (fault-tells r m used {p = x.place} {k = x.taken} e).0

-- the walk answered w, and the entries of its blocks were judged to be j
pub symbols-is : (f : Family) (m : List ℕ) (used n : ℕ) {w : Result ℕ LinkFault} {j : Judged} → walked (symbol_rule_of f m n) m used ≡ w → j ≡ entries_judged_of f m used n (blocks_in w) → symbols_judged_of f m used n ≡ unless j (link_judged w)
unfolding symbols_judged_of
symbols-is f m used n {w} e g = rw (e, ← taken_of (symbol_rule_of f m n) m used w e, ← g)

pub first_good : (j : Judged) → unless j good ≡ j
first_good (Ok u) = refl
first_good (Err e) = refl

-- ---- a chain whose first link is 0

pub no_blocks : (r : Rule) (m : List ℕ) (used : ℕ) → 0 < r.size → u32_at m r.head ≡ 0 → walked r m used ≡ Ok 0
unfolding place
no_blocks r m used l e =
    let b : block r.head m 0 ≡ 0 = sym (block_at r.head m 0 refl) ∙ e in
    walked-blocks r m used (taken_is r m used l (pass-none r m used) (stops-zero r m used 0 b)) b

pub no-symbols : (f : Family) (m : List ℕ) (used n : ℕ) → u32_at m symbol_head ≡ 0 → symbols_judged_of f m used n ≡ good
unfolding entries_judged_of
no-symbols f m used n e =
    symbols-is f m used n (no_blocks (symbol_rule_of f m n) m used (omega arith) e)
    (sym (cells-good BadSymbol (λ i. f.entry_at_fault (touches_of f m n) m used (entry_at m i)) (entry_at m) (256 * 0) (λ i l. absurd (omega arith))))

pub no_index : (f : Family) → 0 < f.block → (m : List ℕ) (used : ℕ) → u32_at m index_head ≡ 0 → u32_at m symbol_head ≡ 0 → after_index_of f m used (walked (index_rule_of f m) m used) ≡ Ok 0
unfolding after_index_of slots_judged_of
no_index f l m used e g =
    rw (
      no_blocks (index_rule_of f m) m used l e,
      no-symbols f m used 0 g,
      cells-good BadSlot (λ s. f.slot_at_fault (touches_of f m 0) m used (slot_at_of f m s)) (slot_at_of f m) (256 * 0) (λ i k. absurd (omega arith)),
    )

-- ---- accepted, and with how many index blocks

pub after-tells : (f : Family) (m : List ℕ) (used : ℕ) (w : Result ℕ LinkFault) {n : ℕ} → after_index_of f m used w ≡ Ok n → (w ≡ Ok n) × (symbols_judged_of f m used n ≡ good) × (slots_judged_of f m used n ≡ good)
unfolding after_index_of
after-tells f m used (Ok k) {n} e =
    let a = unless_tells (symbols_judged_of f m used k) e in
    let g = unless_tells (slots_judged_of f m used k) a.1 in
    let q : k ≡ n = cc in
    (ap Ok q, rw q at a.0, rw q at g.0)
after-tells f m used (Err x) e = absurd (refused e)
