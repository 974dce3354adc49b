-- `accept::open_map` meets its contract: the header's fault, or what opening the index blocks tells. Assumes nothing.
use native.Mathlib.Omega.{arith}
use mathlib.Core.Path.{◌∙◌}
use Rattle.refusals.proofs.Passing.{passed_on}
use Rattle.accept.specs.Opens.{opened_of}
use Rattle.accept.proofs.Verdicts.{header_passed}
use Rattle.accept.proofs.open_map.Goals as goal

pub open_index-requires : goal.open_index-requires
open_index-requires c =
    let h = header_passed c.args.m.now c.args.used c.judge_header.ensures c.in_ok-judge_header.was in
    (h.0, h.1, h.2, omega (arith, c.requires.0 h.1), c.requires.1)

pub returns-in_err-judge_header : goal.returns-in_err-judge_header
unfolding opened_of
returns-in_err-judge_header c =
    let is = passed_on c.from_residual.result c.from_residual.ensures.1 in
    (is ∙ rw (← c.judge_header.ensures, c.in_err-judge_header.was), rw is tt)

pub returns : goal.returns
unfolding opened_of
returns c =
    (rw (← c.judge_header.ensures, c.in_ok-judge_header.was) c.open_index.ensures.0, c.open_index.ensures.1)
