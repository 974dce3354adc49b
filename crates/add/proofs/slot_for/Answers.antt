-- `add::slot_for` meets its contract: the object is well formed, so its header and its pairs are there and its Len fits. Assumes nothing.
use mathlib.Core.Path.{refl}
use native.Mathlib.Omega.{arith}
use Rattle.add.specs.Objects.{pairs_in, slot_for}
use Rattle.add.proofs.Objects.{offered-tells, len-fits}
use Rattle.add.proofs.Adding.{offered-most}
use Rattle.add.proofs.slot_for.Goals as goal

pub of-h-requires : goal.of-h-requires
of-h-requires c =
    omega (arith, (offered-tells c.args.version c.args.o.now c.requires).exact)

pub least_rectangle-cover-requires : goal.least_rectangle-cover-requires
least_rectangle-cover-requires c =
    let told = offered-tells c.args.version c.args.o.now c.requires in
    rw c.of-h.ensures (omega (arith, told.some), omega (arith, told.exact, offered-most c.args.version c.args.o.now c.requires), omega (arith, told.exact))

pub overflow_cast-result : goal.overflow_cast-result
overflow_cast-result c =
    let told = offered-tells c.args.version c.args.o.now c.requires in
    let len = rw c.of-h.ensures at c.len_of.ensures in
    omega (arith, len, len-fits c.args.version (pairs_in c.args.o.now) (omega (arith, told.some)) told.few)

pub returns : goal.returns
unfolding slot_for
returns c =
    rw (c.least_rectangle-cover.ensures, c.len_of.ensures, c.of-h.ensures) refl
