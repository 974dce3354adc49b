use Prim.Native.Nat.{◌+◌, ◌-◌}
use mathlib.Core.Path.{◌≡◌, refl}
use native.Mathlib.Omega.{arith}
use lib.ListN.{length, length-drop, take, drop}
use lib.Seq.{length-take-le, sets}
use Rattle.numbers.proofs.Bytes.{lent-sets}
use Rattle.bits.specs.Bits.{from, word_bits}
use Rattle.bits.proofs.Bits.{ones-full, from_all}
use Rattle.bits.proofs.Listing.{all, run-start, run-turn, run-done}
use Rattle.bits.proofs.list_full.Goals as goal

pub loop-i-init : goal.loop-i-init
loop-i-init c =
    run-start

pub loop-i-preserved : goal.loop-i-preserved
loop-i-preserved c =
    let a = c.args in
    let k = a.before + word_bits - a.before in
    let l : length (take k (drop a.before a.list.now)) ≡ k = length-take-le k (drop a.before a.list.now) (omega (arith, length-drop a.before a.list.now, c.requires.0)) in
    run-turn c.loop-i.invariant (omega (arith, l, c.loop-i-test.true))

pub returns : goal.returns
returns c =
    let a = c.args in
    let k = a.before + word_bits - a.before in
    let l : length (take k (drop a.before a.list.now)) ≡ k = length-take-le k (drop a.before a.list.now) (omega (arith, length-drop a.before a.list.now, c.requires.0)) in
    let n : length (from all a.first word_bits) ≡ word_bits = from_all all a.first word_bits (λ j. refl) in
    let done : c.loop-i.entry-items ≡ sets (take k (drop a.before a.list.now)) 0 (from all a.first word_bits) = run-done c.loop-i.invariant (omega (arith, l, c.loop-i-test.false)) in
    rw (ones-full a.first) (omega (arith, n), lent-sets (from all a.first word_bits) a.list.now c.loop-i.entry-items a.before k (omega (arith, n)) done)
