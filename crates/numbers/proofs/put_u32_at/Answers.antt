-- `numbers::put_u32_at` meets its contract: the number's bytes go over a part. Assumes nothing.
use mathlib.Core.Path.{◌≡◌, ◌∙◌}
use native.Mathlib.Omega.{arith}
use lib.ListN.{length}
use Rattle.numbers.proofs.Bytes.{sets-part, bytes_of-four, length-bytes_of}
use Rattle.numbers.specs.Bytes.{bytes_of}
use Rattle.numbers.proofs.put_u32_at.Goals as goal

pub returns : goal.returns
returns c =
    let a = c.args in
    let l : length (bytes_of 4 a.v) ≡ 4 = length-bytes_of 4 a.v in
    sets-part a.s.now c.copy_from_slice.new.self (bytes_of 4 a.v) a.at _ (c.copy_from_slice.ensures.after ∙ c.to_le_bytes.ensures ∙ bytes_of-four a.v) (omega arith) (omega arith)
