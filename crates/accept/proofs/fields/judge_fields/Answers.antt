-- `accept::fields::judge_fields` meets its contract: each test that fails settles the answer. Assumes nothing.
use mathlib.Core.Path.{sym, ◌∙◌}
use borrow.Author.Tests.{eq-eqb, ne_eqb}
use Rattle.accept.specs.Verdicts.{fields_judged}
use Rattle.judge.proofs.Judging.{fails, passes}
use Rattle.accept.proofs.fields.judge_fields.Goals as goal

pub returns-then-h-ne-MARK : goal.returns-then-h-ne-MARK
unfolding fields_judged
returns-then-h-ne-MARK c =
    rw (ne_eqb _ _ c.if-h-ne-MARK.true)

pub returns-then-not-version_good : goal.returns-then-not-version_good
unfolding fields_judged
returns-then-not-version_good c =
    rw (eq-eqb _ _ c.if-h-ne-MARK.false, fails c.version_good.ensures c.if-not-version_good.true)

pub returns-then-is_wide : goal.returns-then-is_wide
unfolding fields_judged
returns-then-is_wide c =
    rw (eq-eqb _ _ c.if-h-ne-MARK.false, passes c.version_good.ensures c.if-not-version_good.false, sym c.is_wide.ensures ∙ c.if-is_wide.true)

pub returns : goal.returns
unfolding fields_judged
returns c =
    rw (eq-eqb _ _ c.if-h-ne-MARK.false, passes c.version_good.ensures c.if-not-version_good.false, sym c.is_wide.ensures ∙ c.if-is_wide.false) c.judge_parts.ensures
