-- The footbridge. Assumes nothing.
use Prim.Native.Nat.{ℕ}
use mathlib.Core.Bool.{true}
use mathlib.Core.Path.{◌≡◌, sym, ap, ◌∙◌}
use mathlib.Core.Logic.{⊎_elim}
use mathlib.Core.List.{List, [], ◌∷◌}
use native.Mathlib.Decide.{ℕ_discrete}
use Rattle.slots.specs.declared.State.TheVariants.{Live}
use Rattle.records.specs.Journals.{record_for}
use Rattle.journal.proofs.Records.{shape-tells}
use Rattle.promise.specs.Runs.{State, Call, add, remove, reinstate, search, edited, step, Event, made, handed, with_buffer, run, record_due, is_live_in, Good, Sent, HoldsMap, Fair}
use Rattle.promise.specs.Promises.{Removes, NoneRemoves, Footbridge}
use Rattle.promise.proofs.Whole.{holds_same, has_same}
use Rattle.promise.proofs.Keeping.{Did, Idle, holds_of, call-cases, step-good, handed-same, turn-good}
use Rattle.promise.proofs.Promises.{stays-good, never-acts-again, Keeps, keeps-step, keeps-run}
use Rattle.promise.proofs.ByEdit.{live_in, own_of, others-live}
use Rattle.promise.proofs.Dormant.{dormant-start, dormant-turn, dormant-run, dormant-content}
use Rattle.promise.proofs.Repeats.{did_of, did-keeps, repeated}

-- a slot that no call removes stays live
live-step : {st : State} (g : Good st) (c : Call) → Sent c → (s : ℕ) → (Removes s (made c) → ⊥) → is_live_in st s ≡ true → is_live_in (step st c) s ≡ true
live-step {st} g c a s keep l =
    ⊎_elim
    (λ (i : Idle st c). rw i.same l)
    (λ (d : Did st c g.blocks).
    elim (ℕ_discrete s d.slot) [
      | yes q ↦ rw q (here c a d keep q)
      | no q ↦ others-live g a d s q ∙ l
    ])
    (call-cases g c a)
  where
    here : (c : Call) → Sent c → (d : Did st c g.blocks) → (Removes s (made c) → ⊥) → s ≡ d.slot → is_live_in (step st c) d.slot ≡ true
    here (add e o) a d n q = (own_of g (add e o) a d).1
    here (remove e t) a d n q = absurd (n (sym d.effect.0 ∙ sym q))
    here (reinstate e t) a d n q = (own_of g (reinstate e t) a d).2
    here (search w l) a d n q = absurd d.effect

live-handed : {st : State} (g : Good st) (b : List ℕ) → HoldsMap st b → (s : ℕ) → is_live_in (with_buffer st b) s ≡ is_live_in st s
live-handed {st} g b holds s =
    let same = handed-same g holds in
    live_in (with_buffer st b) (holds_same same (holds_of g)) s
    ∙ has_same same (holds_of g) Live s ∙ sym (live_in st (holds_of g) s)

live-run : {st : State} (g : Good st) (xs : List Event) → Fair st xs → (s : ℕ) → NoneRemoves s xs → is_live_in st s ≡ true → is_live_in (run st xs) s ≡ true
unfolding run
live-run {st} g [] a s keep l = l
live-run {st} g (made c ∷ xs) a s keep l = live-run {st = step st c} (step-good g c a.0) xs a.1 s keep.1 (live-step g c a.0 s keep.0 l)
live-run {st} g (handed b ∷ xs) a s keep l = live-run {st = with_buffer st b} (turn-good g (handed b) a.0) xs a.1 s keep.1 (live-handed g b a.0.1 s ∙ l)

pub footbridge : Footbridge
footbridge st e f s xs ys g a b sx sy i₁ i₂ keep =
    let d₁ = did_of g (remove e s) a i₁ in
    let g₁ = step-good g (remove e s) a in
    let g₂ = stays-good (step st (remove e s)) xs g₁ sx in
    let d₂ = did_of g₂ (reinstate f s) b i₂ in
    let g₃ = step-good g₂ (reinstate f s) b in
    let g₄ = stays-good (step (run (step st (remove e s)) xs) (reinstate f s)) ys g₃ sy in
    let k₁ : Keeps (step st (remove e s)).journal e (record_for e 2 s) = rw d₁.effect.0 at (did-keeps g (remove e s) d₁) in
    let k₃ = keeps-step g₂ (reinstate f s) b (keeps-run g₁ xs sx k₁) in
    let live₃ : is_live_in (step (run (step st (remove e s)) xs) (reinstate f s)) s ≡ true = rw d₂.effect.0 at (own_of g₂ (reinstate f s) b d₂).2 in
    let live₄ = live-run g₃ ys sy s keep live₃ in
    let live₀ : is_live_in st s ≡ true = rw d₁.effect.0 at (own_of g (remove e s) a d₁).1 in
    let x₁ = dormant-turn g st.map s (dormant-start g s live₀) (made (remove e s)) a in
    let x₂ = dormant-run x₁.0 st.map s x₁.1 xs sx in
    let x₃ = dormant-turn x₂.0 st.map s x₂.1 (made (reinstate f s)) b in
    let x₄ = dormant-run x₃.0 st.map s x₃.1 ys sy in
    record {
      said = ap edited (repeated g₄ e 2 s (keeps-run g₃ ys sy k₃) (shape-tells (record_due (remove e s) d₁.slot) d₁.shape).number);
      unchanged = (never-acts-again (step (run (step st (remove e s)) xs) (reinstate f s)) ys (remove e s) g₃ sy a k₃.held).0;
      live = live₄;
      content = dormant-content x₄.0 st.map s x₄.1 live₄;
    }
