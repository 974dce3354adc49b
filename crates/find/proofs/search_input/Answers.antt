-- `find::search_input` meets its contract: input that is too short or too long is refused, and any other is searched behind its window. Assumes nothing.
use native.Mathlib.Omega.{arith}
use Prim.Native.Nat.{◌+◌, ◌-◌}
use mathlib.Core.Path.{◌≡◌, refl}
use lib.ListN.{length, take, drop, length-drop}
use lib.Seq.{take_all}
use borrow.Author.Tests.{lt-leb, le-leb}
use Rattle.records.specs.Sizes.{window_size}
use Rattle.find.specs.Inputs.{program_limit, input_good, input_answer, input_list}
use Rattle.find.proofs.search_input.Goals as goal
use Rattle.find.proofs.search_input.Goals.{then-input-lt-SIZE-via-then-input-lt-SIZE, then-input-lt-SIZE-via-else-input-lt-SIZE+then-input}

pub returns-then-input-lt-SIZE : goal.returns-then-input-lt-SIZE
unfolding input_good input_answer input_list
returns-then-input-lt-SIZE c =
    let i = c.args.input.now in
    elim c.then-input-lt-SIZE.branch [
      | then-input-lt-SIZE-via-then-input-lt-SIZE w ↦ rw (lt-leb window_size (length i) w.if-input-lt-SIZE.true) (refl, refl)
      | then-input-lt-SIZE-via-else-input-lt-SIZE+then-input w ↦
          rw (le-leb window_size (length i) w.if-input-lt-SIZE.false, lt-leb (length i) (window_size + program_limit) w.if-input.true) (refl, refl)
    ]

pub returns : goal.returns
unfolding input_good input_answer input_list
returns c =
    let i = c.args.input.now in
    let behind = drop window_size i in
    let whole : take (length i - window_size) behind ≡ behind = take_all (length i - window_size) behind (simp length-drop (omega arith)) in
    let here : length behind ≡ length i - window_size = simp length-drop (omega arith) in
    rw (le-leb window_size (length i) c.if-input-lt-SIZE.false, le-leb (length i) (window_size + program_limit) c.if-input.false, ← c.of.ensures)
    (rw (whole, here) at c.search.ensures)
