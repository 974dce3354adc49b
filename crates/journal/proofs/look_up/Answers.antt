-- `journal::look_up` meets its contract: number 0 and a bad length are refused, and so is a journal with a bad record; else the record that holds the number
-- answers, or the number is new. Assumes nothing.
use mathlib.Core.Path.{sym, ◌∙◌}
use borrow.Author.Rules.{rules}
use native.Mathlib.Omega.{arith}
use lib.ListN.{length}
use borrow.Author.Tests.{le-leb, lt-leb, eq-eqb, ne_eqb}
use Rattle.journal.specs.Journals.{looked}
use Rattle.journal.proofs.Journals.{well-formed-parts}
use Rattle.journal.proofs.Passes.{look-bad, look-count, look-rest, look-new, look-within, look-held}
use Rattle.journal.proofs.look_up.Goals as goal
use Rattle.journal.proofs.look_up.Goals.{then-e-eq0-via-then-e-eq0, then-e-eq0-via-else-e-eq0+then-j-gt-LIMIT, then-e-eq0-via-else-e-eq0+else-j-gt-LIMIT+then-j-ne0}

pub returns-then-e-eq0 : goal.returns-then-e-eq0
unfolding looked
returns-then-e-eq0 c =
    let a = c.args in
    elim c.then-e-eq0.branch [
      | then-e-eq0-via-then-e-eq0 w ↦ rw (eq-eqb _ _ w.if-e-eq0.true)
      | then-e-eq0-via-else-e-eq0+then-j-gt-LIMIT w ↦
          rw (ne_eqb _ _ w.if-e-eq0.false, well-formed-parts a.j.now a.slots.map.now (length a.slots.order.now), lt-leb _ _ w.if-j-gt-LIMIT.true)
      | then-e-eq0-via-else-e-eq0+else-j-gt-LIMIT+then-j-ne0 w ↦
          rw (ne_eqb _ _ w.if-e-eq0.false, well-formed-parts a.j.now a.slots.map.now (length a.slots.order.now), le-leb _ _ w.if-j-gt-LIMIT.false, ne_eqb _ _ w.if-j-ne0.true)
    ]

pub returns-in_err-used : goal.returns-in_err-used
returns-in_err-used c =
    let refused = look-bad (record { nonzero = c.if-e-eq0.false; short = c.if-j-gt-LIMIT.false; whole = c.if-j-ne0.false })
    (sym c.judge_journal.ensures ∙ c.in_err-used.was) in
    rw (← refused) (search rules)

pub rest_unused-requires : goal.rest_unused-requires
rest_unused-requires c = (
  c.if-j-ne0.false,
  look-count (record { nonzero = c.if-e-eq0.false; short = c.if-j-gt-LIMIT.false; whole = c.if-j-ne0.false })
      (sym c.judge_journal.ensures ∙ c.in_ok-used.was),
)

pub returns-then-not-rest_unused : goal.returns-then-not-rest_unused
returns-then-not-rest_unused c =
    look-rest (record { nonzero = c.if-e-eq0.false; short = c.if-j-gt-LIMIT.false; whole = c.if-j-ne0.false })
    (sym c.judge_journal.ensures ∙ c.in_ok-used.was)
    (sym c.rest_unused.ensures ∙ c.if-not-rest_unused.true)

pub record_in-r-requires : goal.record_in-r-requires
record_in-r-requires c =
    omega (
      arith,
      look-within (record { nonzero = c.if-e-eq0.false; short = c.if-j-gt-LIMIT.false; whole = c.if-j-ne0.false })
          (sym c.judge_journal.ensures ∙ c.in_ok-used.was) c.in-Some.is,
    )

pub returns-in-Some : goal.returns-in-Some
returns-in-Some c =
    rw c.record_in-r.ensures
    (look-held (record { nonzero = c.if-e-eq0.false; short = c.if-j-gt-LIMIT.false; whole = c.if-j-ne0.false })
    (sym c.judge_journal.ensures ∙ c.in_ok-used.was)
    c.in-Some.is (sym c.rest_unused.ensures ∙ c.if-not-rest_unused.false))

pub returns-in-None : goal.returns-in-None
returns-in-None c =
    look-new (record { nonzero = c.if-e-eq0.false; short = c.if-j-gt-LIMIT.false; whole = c.if-j-ne0.false })
    (sym c.judge_journal.ensures ∙ c.in_ok-used.was)
    (sym c.rest_unused.ensures ∙ c.if-not-rest_unused.false) c.in-None.is
