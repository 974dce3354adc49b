-- `find::bad_window` meets its contract: the check's refusal, or 8. Assumes nothing.
use mathlib.Core.Path.{sym, ◌∙◌}
use Rattle.refusals.proofs.Passing.{passed_on}
use Rattle.find.proofs.Searches.{answer-refused, answer-window}
use Rattle.find.proofs.bad_window.Goals as goal

pub returns-in_err-check : goal.returns-in_err-check
returns-in_err-check c =
    λ w room g. let a = c.args in
    passed_on c.from_residual.result c.from_residual.ensures.1 ∙ sym (answer-refused a.m.now a.used w room (sym c.check.ensures ∙ c.in_err-check.was))

pub returns : goal.returns
returns c =
    λ w room g. let a = c.args in
    sym (answer-window a.m.now a.used w room (sym c.check.ensures ∙ c.in_ok-check.was) g)
