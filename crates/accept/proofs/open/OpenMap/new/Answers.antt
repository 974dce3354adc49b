-- `accept::open::OpenMap::new` meets its contract: the layout's sizes are its family's, and the table has the ends of the chain's blocks. Assumes nothing.
use Rattle.judge.specs.Rules.{family_for}
use Rattle.judge.proofs.Judging.{same-touch}
use Rattle.accept.proofs.open.OpenMap.new.Goals as goal

pub new-requires : goal.new-requires
new-requires g c = rw (← g.met.L.Layout.block_is, ← g.met.L.Layout.page_is) at c.requires.indexed

pub invariant_of-result : goal.invariant_of-result
invariant_of-result g c =
    let f = family_for g.L.Layout.wide in
    record {
      low = rw c.new.ensures.1 c.requires.low;
      walk = rw (c.new.ensures.0, c.new.ensures.1) c.requires.index;
      touches = rw (c.new.ensures.0, c.new.ensures.2) (same-touch f c.requires.table);
    }
