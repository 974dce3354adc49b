-- `journal::append` meets its contract: the record's bytes are stored at the start of the part that was lent. Assumes nothing.
use Prim.Native.Nat.{◌-◌, ◌*◌, ◌≤◌}
use native.Mathlib.Omega.{arith}
use lib.ListN.{length}
use Rattle.numbers.proofs.Bytes.{lent-sets}
use Rattle.records.specs.Journals.{record_bytes}
use Rattle.records.proofs.Journals.{length-record_bytes}
use Rattle.journal.specs.Journals.{appended}
use Rattle.journal.proofs.append.Goals as goal

pub returns : goal.returns
unfolding appended
returns c =
    let k = length c.args.j.now - 16 * c.args.k in
    let h : length (record_bytes c.args.r) ≤ k = rw (length-record_bytes c.args.r) (omega arith) in
    rw (← c.requires.0) (lent-sets (record_bytes c.args.r) c.args.j.now c.put.new.part (16 * c.args.k) k h c.put.ensures)
