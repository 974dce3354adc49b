-- `accept::fields::judge_parts` meets its contract: each test that fails settles the answer. Assumes nothing.
use Rattle.accept.specs.Verdicts.{parts_judged}
use Rattle.judge.proofs.Judging.{fails, passes}
use Rattle.accept.proofs.fields.judge_parts.Goals as goal

pub returns-then-not-part_good : goal.returns-then-not-part_good
unfolding parts_judged
returns-then-not-part_good c =
    rw (fails c.part_good.ensures c.if-not-part_good.true)

pub returns-then-not-part_good-2 : goal.returns-then-not-part_good-2
unfolding parts_judged
returns-then-not-part_good-2 c =
    rw (passes c.part_good.ensures c.if-not-part_good.false, fails c.part_good-2.ensures c.if-not-part_good-2.true)

pub returns : goal.returns
unfolding parts_judged
returns c =
    rw (passes c.part_good.ensures c.if-not-part_good.false, passes c.part_good-2.ensures c.if-not-part_good-2.false)
