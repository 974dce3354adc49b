-- `numbers::clear` meets its contract: zeros go over the front of d. Assumes nothing.
use mathlib.Core.Path.{◌≡◌, sym}
use Prim.Native.Nat.{ℕ}
use lib.ListN.{length, replicate, take, length-replicate}
use lib.Seq.{length-take-le}
use Rattle.numbers.proofs.Bytes.{sets-front}
use Rattle.numbers.proofs.clear.Goals as goal

pub returns : goal.returns
returns c =
    let d = c.args.d.now in
    let n = c.args.n in
    let e : length (take n d) ≡ n = length-take-le n d c.requires in
    sets-front d c.fill.new.self (replicate n 0) n (rw e at (c.fill.ensures.after (λ y h. h))) (sym (length-replicate {A = ℕ} n 0)) c.requires
