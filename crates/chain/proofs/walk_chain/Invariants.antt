-- `chain::walk_chain` meets its contract, by the laws of any chain's walk. The measure is how many blocks there can still be. Assumes nothing.
use Prim.Native.Nat.{◌-◌, ◌/◌}
use mathlib.Core.Path.{◌≡◌}
use lib.ListN.{length}
use Rattle.records.specs.Sizes.{header_size}
use Rattle.chain.specs.Tables.{kind_rule, Ready}
use Rattle.chain.proofs.Walking.{Walking}
use Rattle.chain.proofs.walk_chain.Given as goal

abbrev pub invariant-loop-kind : goal.invariant-loop-kind
invariant-loop-kind l = (length l.t ≡ length l.initial.t) × Ready l.kind l.used l.other l.t × Walking (kind_rule l.kind l.other) l.kind.page l.m l.used l.t l.n l.at

abbrev pub decreases-loop-kind : goal.decreases-loop-kind
decreases-loop-kind l = (l.used - header_size) / l.kind.size - l.n
