-- `accept::fields::judge_header` meets its contract: the three tests of the length, then the fields. Assumes nothing.
use borrow.Author.Tests.{le-leb, lt-leb}
use Rattle.judge.specs.Judging.{length_good}
use Rattle.accept.specs.Verdicts.{header_judged}
use Rattle.accept.proofs.fields.judge_header.Goals as goal
use Rattle.accept.proofs.fields.judge_header.Goals.{then-used-lt-SIZE-via-then-used-lt-SIZE, then-used-lt-SIZE-via-else-used-lt-SIZE+then-used-gt-LIMIT, then-used-lt-SIZE-via-else-used-lt-SIZE+else-used-gt-LIMIT+then-m-used}

pub returns-then-used-lt-SIZE : goal.returns-then-used-lt-SIZE
unfolding header_judged length_good
returns-then-used-lt-SIZE c =
    elim c.then-used-lt-SIZE.branch [
      | then-used-lt-SIZE-via-then-used-lt-SIZE w ↦ rw (lt-leb _ _ w.if-used-lt-SIZE.true)
      | then-used-lt-SIZE-via-else-used-lt-SIZE+then-used-gt-LIMIT w ↦ rw (le-leb _ _ w.if-used-lt-SIZE.false, lt-leb _ _ w.if-used-gt-LIMIT.true)
      | then-used-lt-SIZE-via-else-used-lt-SIZE+else-used-gt-LIMIT+then-m-used w ↦
          rw (le-leb _ _ w.if-used-lt-SIZE.false, le-leb _ _ w.if-used-gt-LIMIT.false, lt-leb _ _ w.if-m-used.true)
    ]

pub returns : goal.returns
unfolding header_judged length_good
returns c =
    rw (le-leb _ _ c.if-used-lt-SIZE.false, le-leb _ _ c.if-used-gt-LIMIT.false, le-leb _ _ c.if-m-used.false, ← c.of.ensures)
    c.judge_fields.ensures
