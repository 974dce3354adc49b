-- `add::new_length` meets its contract: the slot is below 256 * n exactly where one is free, and else a block comes behind the object. Assumes nothing.
use mathlib.Core.Path.{sym}
use native.Mathlib.Omega.{arith}
use Rattle.add.proofs.Adding.{length-free, length-block}
use Rattle.add.proofs.new_length.Goals as goal

pub returns-then-s-n : goal.returns-then-s-n
returns-then-s-n c =
    λ m e. let a = c.args in sym (length-free m a.used a.n a.o.now (omega (arith, e)))

pub returns-else-s-n : goal.returns-else-s-n
returns-else-s-n c =
    λ m e. let a = c.args in sym (length-block m a.used a.n a.o.now (omega (arith, e)))
