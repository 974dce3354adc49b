-- `add::write_in_block` meets its contract: the object and the block are each stored at the start of a part that was lent, and then the link. Assumes nothing.
use mathlib.Core.Path.{ap, ◌∙◌}
use mathlib.Core.List.{List}
use Prim.Native.Nat.{ℕ, ◌+◌, ◌-◌}
use native.Mathlib.Omega.{arith}
use lib.ListN.{length}
use lib.Seq.{sets}
use Rattle.numbers.specs.Bytes.{bytes_of}
use Rattle.numbers.proofs.Bytes.{lent-sets}
use Rattle.add.specs.Objects.{block_for}
use Rattle.add.proofs.Objects.{block-full}
use Rattle.add.proofs.Adding.{lent-over}
use Rattle.add.proofs.write_in_block.Goals as goal

pub returns : goal.returns
returns c =
    let a = c.args in
    let p = a.used + length a.o.now in
    let first = lent-over a.o.now a.map.now c.copy_in.new.d a.used (omega (arith, c.requires.0)) c.copy_in.ensures in
    let second = lent-sets (block_for a.t) _ c.put_block.new.part p (p + 6148 - p) (omega (arith, block-full a.t)) c.put_block.ensures in
    c.put_u32_at.ensures
    ∙ ap (λ (l : List ℕ). sets l a.link (bytes_of 4 p)) (second ∙ ap (λ (l : List ℕ). sets l p (block_for a.t)) first)
