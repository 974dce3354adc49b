use Prim.Native.Nat.{◌+◌, ◌*◌, ◌≤◌}
use mathlib.Core.Path.{◌∙◌}
use native.Mathlib.Omega.{arith}
use lib.ListN.{length, get_or}
use Rattle.bits.specs.Bits.{ones, word_bits}
use Rattle.bits.proofs.Bits.{full-length}
use Rattle.bits.proofs.Listing.{words-start, words-room, words-turn}
use Rattle.bits.proofs.list_words.Goals as goal
use Rattle.bits.proofs.list_words.Goals.{else-x, then-x}

pub loop-i-init : goal.loop-i-init
loop-i-init c =
    words-start

pub list_full-d-requires : goal.list_full-d-requires
list_full-d-requires c =
    let room : let l = c.loop-i in l.d + length (ones word_bits (get_or c.args.words.now l.i 0) (word_bits * l.i)) ≤ length l.list = words-room c.loop-i.invariant c.loop-i-test.true c.requires.1 in
    let f = full-length (word_bits * c.loop-i.i) in
    (omega (arith, rw c.if-x.true at room, f), omega (arith, c.requires.0, c.loop-i-test.true))

pub list_word-d-requires : goal.list_word-d-requires
list_word-d-requires c =
    (words-room c.loop-i.invariant c.loop-i-test.true c.requires.1, omega (arith, c.requires.0, c.loop-i-test.true))

pub loop-i-preserved : goal.loop-i-preserved
loop-i-preserved c =
    let v = c.loop-i.invariant in
    elim c.if-x.branch [
      | then-x w ↦ words-turn v c.loop-i-test.true (rw w.if-x.true (w.d-is ∙ w.list_full-d.ensures.0)) (rw w.if-x.true (w.list-is ∙ w.list_full-d.ensures.1))
      | else-x w ↦ words-turn v c.loop-i-test.true (w.d-is ∙ w.list_word-d.ensures.0) (w.list-is ∙ w.list_word-d.ensures.1)
    ]
