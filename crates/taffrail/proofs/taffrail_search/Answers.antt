-- `taffrail::taffrail_search` meets its contract: the answer's numbers, and the list as the search leaves it. Assumes nothing.
use mathlib.Core.Path.{◌≡◌, ap, ◌∙◌}
use mir.Syntax.{w32}
use mir.Val.{to_z, of_z}
use mir.Facts.{to_z-of_z}
use Rattle.refusals.specs.Refusals.{answer_number, answer_place}
use Rattle.find.specs.Searches.{count_of, blocks_of}
use Rattle.taffrail.specs.Calls.{window_from}
use Rattle.taffrail.proofs.taffrail_search.Goals as goal

pub returns : goal.returns
returns c =
    let same : window_from (to_z w32 (of_z w32 c.args.left)) (to_z w32 (of_z w32 c.args.bottom)) (to_z w32 (of_z w32 c.args.right)) (to_z w32 (of_z w32 c.args.top))
    ≡ window_from c.args.left c.args.bottom c.args.right c.args.top = λ i. record {
      left = to_z-of_z c.ranges.left i;
      bottom = to_z-of_z c.ranges.bottom i;
      right = to_z-of_z c.ranges.right i;
      top = to_z-of_z c.ranges.top i;
    } in
    let a = rw same at c.search-a.ensures.0 in
    let l = rw same at c.search-a.ensures.1 in (
      c.number.ensures ∙ ap answer_number a,
      c.place.ensures ∙ ap answer_place a,
      c.count.ensures ∙ ap count_of a,
      c.blocks-2.ensures ∙ ap blocks_of a,
      l,
    )
