-- What stays for good of a slot that was live; live again, it has the content it had. Assumes nothing.
use Prim.Native.Nat.{ℕ, ◌*◌, ◌<◌}
use mathlib.Core.Bool.{true}
use mathlib.Core.Path.{◌≡◌, refl, sym, ap, ◌∙◌}
use mathlib.Core.Logic.{◌⊎◌, inl, inr, ⊎_elim}
use mathlib.Core.List.{List, [], ◌∷◌}
use native.Mathlib.Decide.{ℕ_discrete}
use native.Mathlib.Nat.{add-zero}
use native.Mathlib.Omega.{arith}
use lib.Dec.{eqb}
use lib.ListN.{take, drop}
use borrow.Author.Tests.{eqb-true}
use Rattle.numbers.specs.Bytes.{u16_at}
use Rattle.numbers.proofs.Bytes.{le_at-drop}
use Rattle.numbers.proofs.Below.{never}
use Rattle.slots.specs.declared.Slot.{Slot}
use Rattle.slots.specs.declared.State.TheVariants.{Free, Live}
use Rattle.slots.specs.Slots.{state_of, bytes_in}
use Rattle.slots.specs.Objects.{object_of}
use Rattle.judge.specs.Rules.{touches}
use Rattle.judge.specs.Judging.{version_of, header_fits}
use Rattle.judge.proofs.Telling.{and-true, GoodSlot}
use Rattle.frame.proofs.Frame.{good-kept, version-same}
use Rattle.frame.proofs.Behind.{slot-in-same}
use Rattle.accept.specs.Slots.{slot_in}
use Rattle.change.specs.Slots.{has_state, resym, object_sym}
use Rattle.change.proofs.Syms.{has-tells}
use Rattle.judge.proofs.States.{len-some, same_live, state-unmarked}
use Rattle.promise.specs.Runs.{State, Call, add, remove, reinstate, search, step, Event, made, handed, with_buffer, turn, run, is_live_in, content_of, Good, Sent, HoldsMap, May, Fair}
use Rattle.promise.specs.Promises.{ContentStays}
use Rattle.promise.proofs.Whole.{handed-change}
use Rattle.promise.proofs.Contents.{good_of, object-kept}
use Rattle.promise.proofs.Keeping.{Did, Idle, holds_of, call-cases, did-good, handed-same, handed-good}
use Rattle.promise.proofs.ByEdit.{live_in}

-- ---- a slot that was live, in the map of st₀: what stays of it for good

pub record Dormant (m₀ : List ℕ) (s : ℕ) (st : State) (n : ℕ) : Type 0 where
  pub exists : s < 256 * n
  pub slot : resym (slot_in st.map s) (slot_in m₀ s).sym ≡ slot_in m₀ s
  pub mark : ((slot_in st.map s).sym ≡ 0) ⊎ ((slot_in st.map s).sym ≡ (slot_in m₀ s).sym)
  pub some : (slot_in m₀ s).len ≡ 0 → ⊥
  pub version : version_of st.map ≡ version_of m₀
  pub good : GoodSlot (touches st.map n) st.map st.used (version_of m₀) (slot_in m₀ s)
  pub object : take (bytes_in (version_of m₀) (slot_in m₀ s).len) (drop (slot_in m₀ s).position st.map) ≡ take (bytes_in (version_of m₀) (slot_in m₀ s).len) (drop (slot_in m₀ s).position m₀)

live-some : (m : List ℕ) (n s : ℕ) → has_state Live m n s ≡ true → (slot_in m s).len ≡ 0 → ⊥
live-some m n s e = len-some Live (slot_in m s) (has-tells Live m n s e).1 not_free
  where
    not_free : Live ≡ Free → ⊥
    not_free q = let z : ◌≡◌ {A = ℕ} 0 1 = cc in omega arith

pub dormant-start : {st : State} (g : Good st) (s : ℕ) → is_live_in st s ≡ true → Dormant st.map s st g.blocks
dormant-start {st} g s l =
    let e : has_state Live st.map g.blocks s ≡ true = sym (live_in st (holds_of g) s) ∙ l in
    record {
      exists = (has-tells Live st.map g.blocks s e).0;
      slot = refl;
      mark = inr refl;
      some = live-some st.map g.blocks s e;
      version = refl;
      good = good_of (holds_of g) s e;
      object = refl;
    }

-- the Len is as it was
dormant-len : {m₀ : List ℕ} {s : ℕ} {st : State} {n : ℕ} → Dormant m₀ s st n → (slot_in st.map s).len ≡ (slot_in m₀ s).len
dormant-len x = ap (λ (t : Slot). t.len) x.slot

-- the object's Sym is the slot's own, so that is what reinstating writes
dormant-sym : {m₀ : List ℕ} {s : ℕ} {st : State} {n : ℕ} → Dormant m₀ s st n → object_sym st.map s ≡ (slot_in m₀ s).sym
unfolding object_sym header_fits object_of
dormant-sym {m₀} {s} {st} {n} x =
    let p : (slot_in st.map s).position ≡ (slot_in m₀ s).position = ap (λ (t : Slot). t.position) x.slot in
    let f = and-true (eqb (u16_at (drop (slot_in m₀ s).position st.map) 0) (slot_in m₀ s).sym) _ x.good.fits in
    let q : u16_at (drop (slot_in m₀ s).position st.map) 0 ≡ (slot_in m₀ s).sym = eqb-true (u16_at (drop (slot_in m₀ s).position st.map) 0) (slot_in m₀ s).sym f.0 in
    let r : u16_at (drop (slot_in m₀ s).position st.map) 0 ≡ u16_at st.map (slot_in m₀ s).position = rw (add-zero (slot_in m₀ s).position) at (le_at-drop 2 st.map (slot_in m₀ s).position 0) in
    ap (u16_at st.map) p ∙ sym r ∙ q

module _ {st : State} (g : Good st) (m₀ : List ℕ) (s : ℕ) (x : Dormant m₀ s st g.blocks) where
  -- a done call: the slot's fields by cases on the call, the rest by the change law
  dormant-own : (c : Call) → Sent c → (d : Did st c g.blocks) → (s ≡ d.slot) → (y : ℕ) × (slot_in (step st c).map s ≡ resym (slot_in st.map s) y) × ((y ≡ 0) ⊎ (y ≡ (slot_in m₀ s).sym))
  dormant-own (add e o) a d q = absurd (x.some (sym (dormant-len x) ∙ (rw q (d.effect.0 (rw q at x.exists)))))
  dormant-own (remove e t) a d q = (0, rw q d.effect.2, inl refl)
  dormant-own (reinstate e t) a d q = (object_sym st.map s, rw q d.effect.2, inr (dormant-sym x))
  dormant-own (search w l) a d q = absurd d.effect

  dormant-slot : (c : Call) → Sent c → (d : Did st c g.blocks) → (y : ℕ) × (slot_in (step st c).map s ≡ resym (slot_in st.map s) y) × ((y ≡ 0) ⊎ (y ≡ (slot_in m₀ s).sym))
  dormant-slot c a d =
      elim (ℕ_discrete s d.slot) [
        | yes q ↦ dormant-own c a d q
        | no q ↦ ((slot_in st.map s).sym, d.moved.old s x.exists q, x.mark)
      ]

  dormant-step : (c : Call) → Sent c → (d : Did st c g.blocks) → Dormant m₀ s (step st c) d.blocks
  dormant-step c a d =
      let y = dormant-slot c a d in
      let ch = d.moved.change in
      record {
        exists = omega (arith, x.exists, ch.upto);
        slot = rw y.1 x.slot;
        mark = rw y.1 y.2;
        some = x.some;
        version = version-same ch ∙ x.version;
        good = good-kept ch x.good;
        object = object-kept (holds_of g) ch x.good ∙ x.object;
      }

  -- the map in another buffer
  dormant-handed : {b : List ℕ} → HoldsMap st b → Dormant m₀ s (with_buffer st b) g.blocks
  dormant-handed holds =
      let same = handed-same g holds in
      let ch = handed-change same (holds_of g) in
      record {
        exists = x.exists;
        slot = rw (slot-in-same same (holds_of g) s x.exists) x.slot;
        mark = rw (slot-in-same same (holds_of g) s x.exists) x.mark;
        some = x.some;
        version = version-same ch ∙ x.version;
        good = good-kept ch x.good;
        object = object-kept (holds_of g) ch x.good ∙ x.object;
      }

pub dormant-turn : {st : State} (g : Good st) (m₀ : List ℕ) (s : ℕ) → Dormant m₀ s st g.blocks → (x : Event) → May st x
    → (k : Good (turn st x)) × Dormant m₀ s (turn st x) k.blocks
dormant-turn {st} g m₀ s x (made c) a =
    ⊎_elim
    (λ (i : Idle st c). rw i.same (g, x))
    (λ (d : Did st c g.blocks). (did-good g d, unfold did-good in dormant-step g m₀ s x c a d))
    (call-cases g c a)
dormant-turn {st} g m₀ s x (handed b) a = (handed-good g a.1 a.0, unfold handed-good in dormant-handed g m₀ s x a.1)

pub dormant-run : {st : State} (g : Good st) (m₀ : List ℕ) (s : ℕ) → Dormant m₀ s st g.blocks → (xs : List Event) → Fair st xs
    → (k : Good (run st xs)) × Dormant m₀ s (run st xs) k.blocks
unfolding run
dormant-run {st} g m₀ s x [] a = (g, x)
dormant-run {st} g m₀ s x (y ∷ ys) a = let k = dormant-turn g m₀ s x y a.0 in dormant-run {st = turn st y} k.0 m₀ s k.1 ys a.1

-- live again, the slot has the content it had
pub dormant-content : {st : State} (g : Good st) (m₀ : List ℕ) (s : ℕ) → Dormant m₀ s st g.blocks → is_live_in st s ≡ true → content_of st.map s ≡ content_of m₀ s
unfolding content_of
dormant-content {st} g m₀ s x l =
    let e : has_state Live st.map g.blocks s ≡ true = sym (live_in st (holds_of g) s) ∙ l in
    let marked : (slot_in st.map s).sym ≡ (slot_in m₀ s).sym = ⊎_elim (λ z. absurd (live-marked st.map g.blocks s e z)) (λ q. q) x.mark in
    let same : slot_in st.map s ≡ slot_in m₀ s = ap (resym (slot_in st.map s)) marked ∙ x.slot in
    let o = x.object in
    rw (same, x.version) (λ i. record { slot = slot_in m₀ s; object = o i })
  where
    live-marked : (m : List ℕ) (n s : ℕ) → has_state Live m n s ≡ true → (slot_in m s).sym ≡ 0 → ⊥
    live-marked m n s e z = never (sym (same_live (state_of (slot_in m s)) (has-tells Live m n s e).1) ∙ state-unmarked (slot_in m s) z)

pub content-stays : ContentStays
content-stays st xs s g a l r =
    let k = dormant-run g st.map s (dormant-start g s l) xs a in
    dormant-content k.0 st.map s k.1 r
