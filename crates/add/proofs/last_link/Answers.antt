-- `add::last_link` meets its contract: link 0 stands in the header, and link n at the start of block n - 1. Assumes nothing.
use Prim.Native.Nat.{◌+◌, ◌-◌}
use mathlib.Core.Path.{◌≡◌, ap, sym, ◌∙◌}
use native.Mathlib.Omega.{arith}
use Rattle.records.specs.Headers.{index_head}
use Rattle.chain.specs.Chains.{place}
use Rattle.chain.proofs.Chains.{place-more}
use Rattle.add.proofs.last_link.Goals as goal

pub returns-then-n-eq0 : goal.returns-then-n-eq0
unfolding place
returns-then-n-eq0 c =
    λ m o. rw c.if-n-eq0.true

pub returns-else-n-eq0 : goal.returns-else-n-eq0
returns-else-n-eq0 c =
    let n = c.args.n in
    let e : n - 1 + 1 ≡ n = omega arith in
    λ m o. o (n - 1) (omega arith) ∙ sym (place-more index_head m (n - 1)) ∙ ap (place index_head m) e
