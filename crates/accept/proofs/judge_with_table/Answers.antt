-- `accept::judge_with_table` meets its contract: the map is opened from its index blocks on, then its slots are judged. Assumes nothing.
use native.Mathlib.Omega.{arith}
use Prim.Native.Nat.{ℕ}
use mathlib.Core.List.{List}
use mathlib.Core.Path.{◌≡◌, sym, ap, ◌∙◌}
use Rattle.std.specs.Prelude.{Result, Ok}
use Rattle.refusals.specs.declared.Refusal.{Refusal}
use Rattle.refusals.proofs.Passing.{passed_on}
use Rattle.chain.specs.Chains.{walked}
use Rattle.chain.proofs.Tables.{zeros}
use Rattle.judge.specs.Rules.{family_of, index_rule_of}
use Rattle.accept.specs.Opens.{opened_after, after_opened}
use Rattle.accept.specs.Verdicts.{after_index}
use Rattle.accept.proofs.Opens.{after-opened}
use Rattle.accept.proofs.Slots.{verdict-of}
use Rattle.accept.proofs.judge_with_table.Goals as goal

-- the check's answer behind the header, by what the opening answers
by-opened : (m : List ℕ) (used : ℕ) {r o : Result ℕ Refusal} → r ≡ opened_after m used (walked (index_rule_of (family_of m) m) m used) → r ≡ o
    → after_opened m used o ≡ after_index m used (walked (index_rule_of (family_of m) m) m used)
by-opened m used e f = sym (after-opened m used (walked (index_rule_of (family_of m) m) m used) ∙ ap (after_opened m used) (sym e ∙ f))

pub open_index-requires : goal.open_index-requires
open_index-requires g c = (c.requires.0, c.requires.1, c.requires.2, omega (arith, c.requires.3), zeros g.row.N)

pub returns-in_err-n : goal.returns-in_err-n
returns-in_err-n g c =
    passed_on c.from_residual.result c.from_residual.ensures.1 ∙ by-opened c.args.m.now c.args.used c.open_index.ensures.0 c.in_err-n.was

pub returns-in_err-examined : goal.returns-in_err-examined
returns-in_err-examined g c =
    let m = c.args.m.now in
    passed_on c.from_residual-in_err-examined.result c.from_residual-in_err-examined.ensures.1
    ∙ verdict-of m (after_opened m c.args.used (Ok c.in_ok-n.n)) (sym c.in_err-examined.was ∙ c.examine_slots.ensures)
    ∙ by-opened m c.args.used c.open_index.ensures.0 c.in_ok-n.was

pub returns : goal.returns
returns g c =
    let m = c.args.m.now in
    ap Ok c.blocks-2.ensures
    ∙ verdict-of m (after_opened m c.args.used (Ok c.in_ok-n.n)) (sym c.in_ok-examined.was ∙ c.examine_slots.ensures)
    ∙ by-opened m c.args.used c.open_index.ensures.0 c.in_ok-n.was
