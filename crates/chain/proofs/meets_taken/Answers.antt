-- `chain::meets_taken` meets its contract. Blocks of the pages below the first end before the range, and each page behind the last lies too high. Assumes nothing.
use native.Mathlib.Omega.{arith}
use Prim.Native.Nat.{ℕ, ◌+◌, ◌-◌, ◌/◌, ◌<◌}
use mathlib.Core.Path.{◌≡◌, refl}
use mathlib.Core.Bool.{true, false}
use lib.ListN.{length}
use borrow.Author.Tests.{tests}
use Rattle.std.proofs.Common.{rules}
use Rattle.std.proofs.iter.Serving.{serving}
use Rattle.std.proofs.lemmas.Iterator.{cases_from_any, YieldsList-from_range}
use Rattle.chain.specs.Tables.{entry_meets}
use Rattle.chain.proofs.Pigeon.{page-in}
use Rattle.chain.proofs.Tables.{scan-is, scan-low}
use Rattle.chain.proofs.meets_taken.Goals as goal
use Rattle.chain.proofs.meets_taken.Goals.{then-size-start, else-size-start}

pub any-requires-clause-callable : goal.any-requires-clause-callable
any-requires-clause-callable c =
    let fits : (c.args.start + c.args.len - 1) / c.args.page + 1 < length c.args.t.now = page-in c.args.page (c.args.start + c.args.len - 1) (length c.args.t.now) c.requires.0 (omega arith) in
    grind (serving, fits)

pub returns : goal.returns
returns c =
    let a = c.args in
    let pre = c.requires in
    let end = (a.start + a.len - 1) / a.page + 1 + 1 in
    let first = c.if-size-start.first in
    let low : (k : ℕ) → k < first → entry_meets a.size a.t.now a.start a.len k ≡ false =
    elim c.if-size-start.branch [ then-size-start w ↦ rw w.first-is (scan-low a.size a.t.now a.start a.len pre.5 pre.0 w.if-size-start.true) | else-size-start w ↦ λ k l. absurd (omega (arith, w.first-is)) ] in
    scan-is a.size a.t.now a.start a.len first (end - first) c.any.result pre.5 pre.0 pre.2 (omega arith) low
    (cases_from_any _ _ _ (λ b. entry_meets a.size a.t.now a.start a.len b ≡ true) (λ b. entry_meets a.size a.t.now a.start a.len b ≡ false) c.any.ensures.ran (YieldsList-from_range first end (end - first) refl refl) (λ x q k. search (rules, tests)) (λ x q k. search (rules, tests)))
