-- `find::search_words` meets its contract: each of its ways out is a case of the answer. Assumes nothing.
use native.Mathlib.Omega.{arith}
use Prim.Native.Nat.{◌*◌, ◌≤◌}
use mathlib.Core.Path.{◌≡◌, ap, ◌∙◌}
use lib.ListN.{length}
use lib.Seq.{sets, length-take-le}
use Rattle.bits.specs.Bits.{ones_in, word_bits}
use Rattle.bits.proofs.Bits.{ones-front}
use Rattle.refusals.proofs.Passing.{passed_on}
use Rattle.look.specs.Looks.{block_words}
use Rattle.look.specs.Found.{live_in, found}
use Rattle.look.proofs.Looks.{slots-low, marked-found, open-refused, open-accepted, open-few}
use Rattle.find.proofs.Searches.{answer-refused, answer-short, answer-found, answers}
use Rattle.find.proofs.search_words.Goals as goal

pub returns-in_err-count : goal.returns-in_err-count
returns-in_err-count c =
    let a = c.args in
    let told = open-refused a.m.now a.used a.n a.w c.requires.1 c.look_in_slots.ensures.0 c.in_err-count.was in
    let s = answers a.m.now a.used a.w a.list.now (answer-refused a.m.now a.used a.w (length a.list.now) told) in
    (passed_on c.from_residual.result c.from_residual.ensures.1 ∙ s.0, s.1)

pub overflow_cast-result : goal.overflow_cast-result
overflow_cast-result c =
    let a = c.args in
    let t = open-accepted a.m.now a.used a.n a.w c.requires.1 c.look_in_slots.ensures.0 c.in_ok-count.was in
    omega (arith, t.1, slots-low (live_in a.m.now a.w) a.n, open-few c.requires.0)

pub returns-then-list-count : goal.returns-then-list-count
returns-then-list-count c =
    let a = c.args in
    let t = open-accepted a.m.now a.used a.n a.w c.requires.1 c.look_in_slots.ensures.0 c.in_ok-count.was in
    answers a.m.now a.used a.w a.list.now (answer-short a.m.now a.used a.w (length a.list.now) t.0 c.requires.2 t.1 c.if-list-count.true)

pub list_words-requires : goal.list_words-requires
list_words-requires c =
    let a = c.args in
    let t = open-accepted a.m.now a.used a.n a.w c.requires.1 c.look_in_slots.ensures.0 c.in_ok-count.was in
    let listed : ones_in word_bits c.look_in_slots.new.words (block_words * a.n) ≡ found a.m.now a.n a.w =
    marked-found a.m.now a.w c.look_in_slots.new.words a.n (c.look_in_slots.ensures.1 c.in_ok-count.count c.in_ok-count.was)
    in
    let ws = c.look_in_slots.new.words in
    let k = block_words * a.n in
    let room : k ≤ length ws = omega (arith, c.requires.3, c.look_in_slots.auto.words) in
    let front = ones-front word_bits ws k room in
    (omega (arith, length-take-le k ws room, open-few c.requires.0), omega (arith, ap length (front ∙ listed), t.1, c.if-list-count.false))

pub overflow_cast-result-2 : goal.overflow_cast-result-2
overflow_cast-result-2 c =
    let a = c.args in
    let t = open-accepted a.m.now a.used a.n a.w c.requires.1 c.look_in_slots.ensures.0 c.in_ok-count.was in
    omega (arith, t.1, slots-low (live_in a.m.now a.w) a.n, open-few c.requires.0)

pub overflow_cast-result-3 : goal.overflow_cast-result-3
overflow_cast-result-3 c = omega (arith, open-few c.requires.0)

pub returns : goal.returns
returns c =
    let a = c.args in
    let t = open-accepted a.m.now a.used a.n a.w c.requires.1 c.look_in_slots.ensures.0 c.in_ok-count.was in
    let listed : ones_in word_bits c.look_in_slots.new.words (block_words * a.n) ≡ found a.m.now a.n a.w =
    marked-found a.m.now a.w c.look_in_slots.new.words a.n (c.look_in_slots.ensures.1 c.in_ok-count.count c.in_ok-count.was)
    in
    let s = answers a.m.now a.used a.w a.list.now (answer-found a.m.now a.used a.w (length a.list.now) t.0 c.requires.2 t.1 c.if-list-count.false) in
    let ws = c.look_in_slots.new.words in
    let k = block_words * a.n in
    let room : k ≤ length ws = omega (arith, c.requires.3, c.look_in_slots.auto.words) in
    (s.0, c.list_words.ensures ∙ ap (sets a.list.now 0) (ones-front word_bits ws k room ∙ listed) ∙ s.1)
