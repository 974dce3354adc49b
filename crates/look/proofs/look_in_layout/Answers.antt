use native.Mathlib.Omega.{arith}
use mathlib.Core.Path.{◌≡◌, sym, ap, ◌∙◌}
use Rattle.std.specs.Prelude.{Ok}
use Rattle.refusals.specs.Refusals.{unless}
use Rattle.refusals.proofs.Passing.{passed_on, refused, unless_refuses}
use lib.ListN.{length, length-take, length-drop}
use Rattle.numbers.specs.Below.{sel}
use Rattle.numbers.proofs.Below.{sel-length}
use Rattle.chain.proofs.Chains.{walked-pass}
use Rattle.judge.specs.Rules.{Family, family_for, index_rule_of}
use Rattle.look.specs.Looks.{live_cell}
use Rattle.look.proofs.Looks.{at_fault, block_judged, seen_tells, mark-start, marking-few, mark-inside, mark-bad, mark_on, mark-done}
use Rattle.look.proofs.look_in_layout.Goals as goal

pub loop-k-init : goal.loop-k-init
loop-k-init g c =
    let m = c.args.opened.now.map.m.now in
    mark-start (walked-pass (index_rule_of (family_for g.L.Layout.wide) m) m c.args.opened.now.map.used c.args.opened.now.walk) c.args.opened.now.low

pub look_in_block-requires : goal.look_in_block-requires
look_in_block-requires g c =
    (c.u16_at-version.ensures, mark-inside c.loop-k.invariant c.loop-k-test.true c.u32_at-at.ensures, simp (length-take, length-drop) (omega (arith, c.requires, c.loop-k.auto.words, c.loop-k-test.true)))

pub returns-in_err-count : goal.returns-in_err-count
returns-in_err-count g c =
    let a = c.args in
    let f : Family = family_for g.L.Layout.wide in
    let told : c.look_in_block.result ≡ unless (block_judged f (at_fault f a.opened.now.map.m.now a.opened.now.map.used a.opened.now.blocks) c.u32_at-at.result) (Ok (length (sel (live_cell f a.opened.now.map.m.now a.w c.u32_at-at.result) 256))) =
    rw (at_fault, ← c.args.opened.now.touches) c.look_in_block.ensures.0
    in
    let bad = mark-bad c.loop-k.invariant c.loop-k-test.true c.u32_at-at.ensures (unless_refuses _ _ (sym told ∙ c.in_err-count.was)) in
    let is = passed_on c.from_residual.result c.from_residual.ensures.1 in
    (is ∙ rw bad, λ n e. absurd (refused (sym is ∙ e)))

pub overflow_add-count : goal.overflow_add-count
overflow_add-count g c =
    let t = seen_tells _ (sym c.look_in_block.ensures.0 ∙ c.in_ok-count.was) in
    omega (arith, t.1, sel-length (live_cell (family_for g.L.Layout.wide) c.args.opened.now.map.m.now c.args.w c.u32_at-at.result) 256, marking-few c.loop-k.invariant c.args.opened.now.map.indexed.limit)

pub loop-k-preserved : goal.loop-k-preserved
loop-k-preserved g c =
    let a = c.args in
    let f : Family = family_for g.L.Layout.wide in
    let told : c.look_in_block.result ≡ unless (block_judged f (at_fault f a.opened.now.map.m.now a.opened.now.map.used a.opened.now.blocks) c.u32_at-at.result) (Ok (length (sel (live_cell f a.opened.now.map.m.now a.w c.u32_at-at.result) 256))) =
    rw (at_fault, ← c.args.opened.now.touches) c.look_in_block.ensures.0
    in
    let t = seen_tells _ (sym told ∙ c.in_ok-count.was) in
    mark_on c.loop-k.invariant c.loop-k-test.true c.u32_at-at.ensures t.0 (omega (arith, c.requires, c.loop-k.auto.words)) c.look_in_block.new.words _ t.1
    (c.look_in_block.ensures.1 c.in_ok-count.field-0 c.in_ok-count.was)
    (c.look_in_block.auto.words ∙ simp (length-take, length-drop) (omega (arith, c.requires, c.loop-k.auto.words, c.loop-k-test.true)))

pub returns : goal.returns
returns g c =
    let t = mark-done c.loop-k.invariant c.loop-k-test.false in
    (rw t.0 (ap Ok t.1), λ n e. t.2)
