use Prim.Native.Nat.{ℕ, ◌+◌, ◌*◌}
use mathlib.Core.Path.{◌≡◌, refl, sym, ap, ◌∙◌}
use mathlib.Core.Bool.{Bool}
use Rattle.std.specs.Prelude.{Ok}
use Rattle.refusals.specs.declared.Refusal.TheVariants.{BadSlot}
use Rattle.refusals.specs.Refusals.{Judged, unless}
use Rattle.bits.specs.Bits.{bits_from, word_bits}
use Rattle.accept.proofs.Looking.{look-start, look-on, look-bad, look-good}
use Rattle.judge.specs.Rules.{Family, family_for}
use Rattle.look.specs.Found.{live_at}
use Rattle.look.specs.Looks.{slot_from, live_from}
use Rattle.look.proofs.Looks.{looks-start, looks_on, looks-past, looks-done, unwanted, wanted, unjudged, slot-inside}
use Rattle.look.proofs.words.look_in_word.Goals as goal
use Rattle.look.proofs.words.look_in_word.Goals.{then-live+else-slot_at_fault, else-live}

pub loop-j-init : goal.loop-j-init
loop-j-init g c = (look-start, looks-start (live_from (family_for g.L.Layout.wide) c.args.map.now.m.now c.args.w c.args.from))

pub slot_at_fault-requires : goal.slot_at_fault-requires
slot_at_fault-requires g c =
    rw (c.SLOT.ensures, g.met.L.Layout.slot_is) (slot-inside g.L.Layout.wide c.args.from c.args.map.now.used c.loop-j.j c.requires.1 c.loop-j-test.true, c.requires.0)

pub returns-then-slot_at_fault : goal.returns-then-slot_at_fault
unfolding slot_from
returns-then-slot_at_fault g c =
    let f : Family = family_for g.L.Layout.wide in
    let e : c.SLOT.result ≡ f.slot = c.SLOT.ensures ∙ g.met.L.Layout.slot_is in
    let here : c.args.from + c.SLOT.result * c.loop-j.j ≡ slot_from f.slot c.args.from c.loop-j.j = ap (λ (z : ℕ). c.args.from + z * c.loop-j.j) e in
    ap (λ (j : Judged). unless j (Ok (bits_from (live_from f c.args.map.now.m.now c.args.w c.args.from) 0 word_bits)))
    (look-bad c.loop-j.invariant.0 here c.loop-j-test.true c.slot_at_fault.ensures c.if-slot_at_fault.true BadSlot)

pub loop-j-preserved : goal.loop-j-preserved
unfolding slot_from
loop-j-preserved g c =
    let a = c.args in
    let l = c.loop-j in
    let h = c.loop-j-test.true in
    let b : Bool = g.L.Layout.wide in
    let f : Family = family_for b in
    let at : ℕ = a.from + c.SLOT.result * l.j in
    let e : c.SLOT.result ≡ f.slot = c.SLOT.ensures ∙ g.met.L.Layout.slot_is in
    let here : at ≡ slot_from f.slot a.from l.j = ap (λ (z : ℕ). a.from + z * l.j) e in
    let live = ap (live_at f a.map.now.m.now a.w) (sym here) in
    elim c.if-live.branch [
      | then-live+else-slot_at_fault w ↦ (
        look-on l.invariant.0 here h w.slot_at_fault.ensures w.if-slot_at_fault.false,
        rw (w.bits-is, w.from.ensures) (looks_on l.invariant.1 h w.meets_window-hit.result (live ∙ wanted f a.map.now.m.now a.w at (sym c.is_live-live.ensures ∙ w.if-live.true) w.at.ensures w.meets_window-hit.ensures)),
      )
      | else-live w ↦
          let dead = sym c.is_live-live.ensures ∙ w.if-live.false in (
            look-on l.invariant.0 here h refl (unjudged b a.map.now.m.now a.map.now.used a.map.now.index.now at dead),
            rw w.bits-is (looks-past l.invariant.1 h (live ∙ unwanted f a.map.now.m.now a.w at dead)),
          )
    ]

pub returns : goal.returns
returns g c =
    let v = c.loop-j.invariant in
    rw (← look-good v.0 c.loop-j-test.false BadSlot) (ap Ok (looks-done v.1 c.loop-j-test.false v.0.upto))
