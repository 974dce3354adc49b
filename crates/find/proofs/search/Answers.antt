-- `find::search` meets its contract: a window that is not good, or a table of zeros is lent, which the map fits. Assumes nothing.
use mathlib.Core.Path.{sym, ◌∙◌}
use lib.ListN.{length}
use Rattle.find.proofs.Searches.{window-leaves}
use Rattle.find.proofs.search.Goals as goal

pub returns-then-not-window_good : goal.returns-then-not-window_good
returns-then-not-window_good c =
    let a = c.args in
    let g = sym c.window_good.ensures ∙ c.if-not-window_good.true in
    (c.bad_window.ensures a.w (length a.list.now) g, sym (window-leaves a.m.now a.used a.w a.list.now g))
