-- `add::put_block` meets its contract: the block is cleared, and then its slot 0 is stored 4 bytes in. Assumes nothing.
use Rattle.add.proofs.Adding.{block-put}
use Rattle.add.proofs.put_block.Goals as goal

pub returns : goal.returns
returns c =
    block-put c.args.part.now c.clear.new.d c.put.new.part c.args.t c.requires c.clear.ensures c.put.ensures
