-- `find::search_with_table` meets its contract: the refusal that opening the map told, or the search of the open map. Assumes nothing.
use mathlib.Core.Path.{sym, ap, ◌∙◌}
use lib.ListN.{length}
use Rattle.refusals.proofs.Passing.{passed_on}
use Rattle.accept.specs.Opens.{after_opened}
use Rattle.accept.proofs.Opens.{verdict-opened}
use Rattle.find.proofs.Searches.{answer-refused, answers}
use Rattle.find.proofs.search_with_table.Goals as goal

pub returns-in_err-n : goal.returns-in_err-n
returns-in_err-n g c =
    let a = c.args in
    let told = verdict-opened a.m.now a.used ∙ ap (after_opened a.m.now a.used) (sym c.open_map.ensures.0 ∙ c.in_err-n.was) in
    let s = answers a.m.now a.used a.w a.list.now (answer-refused a.m.now a.used a.w (length a.list.now) told) in
    (passed_on c.from_residual.result c.from_residual.ensures.1 ∙ s.0, s.1)
