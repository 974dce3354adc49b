-- `accept::open_index` meets its contract: a link at fault, or what the symbols are judged to be, with the table of the walk. Assumes nothing.
use native.Mathlib.Omega.{arith}
use Prim.Native.Nat.{ℕ}
use mathlib.Core.Bool.{Bool, true, false}
use mathlib.Core.List.{List}
use mathlib.Core.Path.{◌≡◌, refl, sym, ap, ◌∙◌}
use lib.ListN.{replicate}
use Rattle.std.specs.Prelude.{Result, Ok, Err}
use Rattle.refusals.specs.declared.Refusal.{Refusal}
use Rattle.refusals.specs.Refusals.{unless}
use Rattle.records.specs.declared.Header.{Header}
use Rattle.records.specs.Headers.{header_of, is_wide}
use Rattle.chain.specs.Chains.{walked}
use Rattle.chain.proofs.Tables.{zeros}
use Rattle.chain.proofs.Walking.{table_of}
use Rattle.judge.specs.Judging.{version_of}
use Rattle.judge.specs.Rules.{family_for, family_of, index_rule_of}
use Rattle.accept.specs.Opens.{OpenOf, Open, opened_after, Opens}
use Rattle.accept.specs.Verdicts.{symbols_judged_of}
use Rattle.judge.proofs.Rules.{index-page, index-rule, index-ready, walk-by}
use Rattle.accept.proofs.open_index.Goals as goal

-- the map is open where the answer is no refusal
opens : {m : List ℕ} {used : ℕ} {t : List ℕ} (r : Result ℕ Refusal) → ((k : ℕ) → r ≡ Ok k → Open m used k t) → Opens m used t r
opens (Ok k) h = h k refl
opens (Err e) h = tt

-- what the symbols are judged to be, by the layout that the map has
opens-by : (b : Bool) {m : List ℕ} {used n : ℕ} {t : List ℕ} {r : Result ℕ Refusal} → is_wide (version_of m) ≡ b → walked (index_rule_of (family_of m) m) m used ≡ Ok n
    → r ≡ unless (symbols_judged_of (family_for b) m used n) (Ok n) → ((k : ℕ) → r ≡ Ok k → OpenOf (family_for b) m used k t)
    → (r ≡ opened_after m used (walked (index_rule_of (family_of m) m) m used)) × Opens m used t r
unfolding opened_after
opens-by b {m} {used} {n} {t} {r} layout walk e h = (rw (walk, layout) e, opens r (λ k q. rw layout (h k q)))

pub walk_chain-requires : goal.walk_chain-requires
walk_chain-requires c = (
  c.requires.2,
  index-ready c.args.m.now c.of-h.ensures c.index_kind.ensures (replicate 2 0) (zeros 2) (λ i. (c.type_inv.m i).fits) c.requires.0 c.requires.1 (omega arith) c.requires.3,
  c.requires.4,
)

pub open_symbols-requires : goal.open_symbols-requires
unfolding header_of
open_symbols-requires c =
    let a = c.args in
    let m = a.m.now in
    let walk = walk-by a.used (index-rule m c.of-h.ensures c.index_kind.ensures (replicate 2 0) (zeros 2)) (index-page m c.of-h.ensures c.index_kind.ensures) c.walk_chain.ensures in
    let layout : is_wide (version_of m) ≡ true = ap (λ (h : Header). is_wide h.version) (sym c.of-h.ensures) ∙ sym c.is_wide.ensures ∙ c.if-is_wide.true in
    let whole : walked (index_rule_of (family_of m) m) m a.used ≡ Ok c.in-Ok.n = walk.0 ∙ c.in-Ok.is in
    (c.requires.0, c.requires.1, c.requires.2, omega (arith, c.requires.3, c.walk_chain.auto.t), rw layout at whole, rw layout at walk.1, rw layout at (table_of (index_rule_of (family_of m) m) m a.used whole walk.2))

pub open_symbols-requires-else-is_wide : goal.open_symbols-requires-else-is_wide
unfolding header_of
open_symbols-requires-else-is_wide c =
    let a = c.args in
    let m = a.m.now in
    let walk = walk-by a.used (index-rule m c.of-h.ensures c.index_kind.ensures (replicate 2 0) (zeros 2)) (index-page m c.of-h.ensures c.index_kind.ensures) c.walk_chain.ensures in
    let layout : is_wide (version_of m) ≡ false = ap (λ (h : Header). is_wide h.version) (sym c.of-h.ensures) ∙ sym c.is_wide.ensures ∙ c.if-is_wide.false in
    let whole : walked (index_rule_of (family_of m) m) m a.used ≡ Ok c.in-Ok.n = walk.0 ∙ c.in-Ok.is in
    (c.requires.0, c.requires.1, c.requires.2, omega (arith, c.requires.3, c.walk_chain.auto.t), rw layout at whole, rw layout at walk.1, rw layout at (table_of (index_rule_of (family_of m) m) m a.used whole walk.2))

pub returns-in-Err : goal.returns-in-Err
unfolding opened_after
returns-in-Err c =
    let a = c.args in
    let m = a.m.now in
    let walk = walk-by a.used (index-rule m c.of-h.ensures c.index_kind.ensures (replicate 2 0) (zeros 2)) (index-page m c.of-h.ensures c.index_kind.ensures) c.walk_chain.ensures in
    (sym (ap (opened_after m a.used) (walk.0 ∙ c.in-Err.is)), tt)

pub returns-then-is_wide : goal.returns-then-is_wide
unfolding header_of
returns-then-is_wide c =
    let a = c.args in
    let m = a.m.now in
    let walk = walk-by a.used (index-rule m c.of-h.ensures c.index_kind.ensures (replicate 2 0) (zeros 2)) (index-page m c.of-h.ensures c.index_kind.ensures) c.walk_chain.ensures in
    let layout : is_wide (version_of m) ≡ true = ap (λ (h : Header). is_wide h.version) (sym c.of-h.ensures) ∙ sym c.is_wide.ensures ∙ c.if-is_wide.true in
    opens-by true layout (walk.0 ∙ c.in-Ok.is) c.open_symbols.ensures.0 c.open_symbols.ensures.1

pub returns-else-is_wide : goal.returns-else-is_wide
unfolding header_of
returns-else-is_wide c =
    let a = c.args in
    let m = a.m.now in
    let walk = walk-by a.used (index-rule m c.of-h.ensures c.index_kind.ensures (replicate 2 0) (zeros 2)) (index-page m c.of-h.ensures c.index_kind.ensures) c.walk_chain.ensures in
    let layout : is_wide (version_of m) ≡ false = ap (λ (h : Header). is_wide h.version) (sym c.of-h.ensures) ∙ sym c.is_wide.ensures ∙ c.if-is_wide.false in
    opens-by false layout (walk.0 ∙ c.in-Ok.is) c.open_symbols-else-is_wide.ensures.0 c.open_symbols-else-is_wide.ensures.1
