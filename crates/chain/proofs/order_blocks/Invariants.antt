-- `chain::order_blocks` meets its contract. The loop's invariant: the next link stands at `at`, and the blocks before it are in their places. Assumes nothing.
use Prim.Native.Nat.{◌+◌, ◌≤◌}
use mathlib.Core.Path.{◌≡◌}
use lib.ListN.{length}
use Rattle.chain.specs.Chains.{place}
use Rattle.chain.specs.Tables.{Ordered}
use Rattle.chain.proofs.order_blocks.Given as goal

abbrev pub invariant-loop-block : goal.invariant-loop-block
invariant-loop-block l = (l.at ≡ place l.head l.m l.block-index) × (l.at + 4 ≤ length l.m) × Ordered l.head l.m l.block-index l.block-items
