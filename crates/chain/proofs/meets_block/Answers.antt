-- `chain::meets_block` meets its contract: the end of the last block that starts before the range's end settles it. Assumes nothing.
use native.Mathlib.Omega.{arith}
use Prim.Native.Nat.{◌+◌, ◌-◌, ◌/◌}
use mathlib.Core.Path.{sym, ◌∙◌}
use lib.ListN.{get_or}
use borrow.Author.Tests.{lt-ltb, le-ltb}
use Rattle.chain.proofs.Filled.{last_end, meets-end}
use Rattle.chain.proofs.meets_block.Goals as goal

pub returns-then-here-end : goal.returns-then-here-end
unfolding last_end
returns-then-here-end c =
    let a = c.args in
    let pre = c.requires in
    let here = get_or a.t.now ((a.start + a.len - 1) / a.page + 1) 0 in
    rw (lt-ltb here (a.start + a.len + a.size) c.if-here-end.true) (sym (meets-end a.size a.start a.len pre.6 pre.0 pre.1 pre.3 ∙ rw (lt-ltb here (a.start + a.len + a.size) c.if-here-end.true, lt-ltb a.start here c.if-start-here.true)))

pub returns-else-here-end : goal.returns-else-here-end
unfolding last_end
returns-else-here-end c =
    let a = c.args in
    let pre = c.requires in
    let here = get_or a.t.now ((a.start + a.len - 1) / a.page + 1) 0 in
    sym (meets-end a.size a.start a.len pre.6 pre.0 pre.1 pre.3 ∙ rw (le-ltb here (a.start + a.len + a.size) c.if-here-end.false))

pub returns-else-start-here : goal.returns-else-start-here
unfolding last_end
returns-else-start-here c =
    let a = c.args in
    let pre = c.requires in
    let here = get_or a.t.now ((a.start + a.len - 1) / a.page + 1) 0 in
    rw (le-ltb a.start here c.if-start-here.false) (sym (meets-end a.size a.start a.len pre.6 pre.0 pre.1 pre.3 ∙ rw (lt-ltb here (a.start + a.len + a.size) (omega arith), le-ltb a.start here c.if-start-here.false)))
