-- `journal::rest_unused` meets its contract: the records from k on are unused exactly where their bytes are all 0. Assumes nothing.
use Rattle.journal.proofs.Records.{rest-zeros}
use Rattle.journal.proofs.rest_unused.Goals as goal

pub returns : goal.returns
returns c =
    rest-zeros c.args.j.now c.args.k c.requires.0 c.all_zero.ensures
