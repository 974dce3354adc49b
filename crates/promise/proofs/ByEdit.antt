-- Edit by edit, and contents as bytes. Assumes nothing.
use Prim.Native.Nat.{ℕ, ◌*◌, ◌<◌}
use mathlib.Core.Path.{◌≡◌, refl, sym, ap, ◌∙◌}
use mathlib.Core.Logic.{⊎_elim}
use mathlib.Core.List.{List}
use native.Mathlib.Omega.{arith}
use Rattle.numbers.proofs.Below.{never}
use Rattle.slots.specs.declared.State.TheVariants.{Live}
use Rattle.slots.specs.Slots.{slot_bytes}
use Rattle.judge.specs.Rules.{slot_at}
use Rattle.accept.proofs.Accepting.{Holds, accepted-is}
use Rattle.frame.proofs.Writes.{slot-lies}
use Rattle.accept.specs.Slots.{slot_in}
use Rattle.change.specs.Slots.{has_state}
use Rattle.promise.specs.Runs.{State, Call, add, remove, reinstate, search, step, blocks_in, accepted_blocks, is_live_in, Content, content_of, Good, Sent}
use Rattle.promise.specs.Promises.{Own, ByOne, EditByEdit, SlotBytes, slot_part, object_part, ContentIsBytes}
use Rattle.promise.proofs.Bytes.{part-slot}
use Rattle.promise.proofs.Moves.{Moved}
use Rattle.promise.proofs.Contents.{live_same, content-same, removed-dead, erased-dead, reinstated-live, reinstated-content, free-dead, added-live, added-content}
use Rattle.promise.proofs.Keeping.{Did, Idle, holds_of, call-cases}
use Rattle.promise.proofs.Promises.{blocks-of}

-- ---- live slots, by the state's own number of blocks

pub live_in : (st : State) {n : ℕ} → Holds st.map st.used n → (s : ℕ) → is_live_in st s ≡ has_state Live st.map n s
unfolding is_live_in
live_in st {n} h s = rw (ap accepted_blocks (accepted-is h))

module _ {st : State} (g : Good st) {c : Call} (a : Sent c) (d : Did st c g.blocks) where
  h : Holds st.map st.used g.blocks
  h = holds_of g

  w : Moved st.map (step st c).map st.used (step st c).used g.blocks d.blocks d.slot
  w = d.moved

  before : (s : ℕ) → is_live_in st s ≡ has_state Live st.map g.blocks s
  before s = live_in st h s

  now : (s : ℕ) → is_live_in (step st c) s ≡ has_state Live (step st c).map d.blocks s
  now s = live_in (step st c) w.holds s

pub own_of : {st : State} (g : Good st) (c : Call) → Sent c → (d : Did st c g.blocks) → Own st c d.slot
own_of {st} g (add e o) a d =
    let f = d.effect in
    let x = d.moved in (
      before g a d d.slot ∙ free-dead (holds_of g) x o a.1 f.2 f.0 f.1 f.3,
      now g a d d.slot ∙ added-live (holds_of g) x o a.1 f.2 f.0 f.1 f.3,
      added-content (holds_of g) x o a.1 f.2 f.0 f.1 f.3,
    )
own_of {st} g (remove e t) a d =
    let f = d.effect in
    (f.0, before g a d d.slot ∙ f.1, now g a d d.slot ∙ removed-dead (holds_of g) d.moved f.2)
own_of {st} g (reinstate e t) a d =
    let f = d.effect in (
      f.0,
      before g a d d.slot ∙ erased-dead (holds_of g) d.moved g.map-bytes f.1 f.2,
      now g a d d.slot ∙ reinstated-live (holds_of g) d.moved g.map-bytes f.1 f.2,
      reinstated-content (holds_of g) d.moved g.map-bytes f.1 f.2,
    )
own_of {st} g (search w l) a d = d.effect

pub others-live : {st : State} (g : Good st) {c : Call} → Sent c → (d : Did st c g.blocks) → (s : ℕ) → (s ≡ d.slot → ⊥) → is_live_in (step st c) s ≡ is_live_in st s
others-live g a d s ne = now g a d s ∙ live_same (holds_of g) d.moved s ne ∙ sym (before g a d s)

by_one : {st : State} (g : Good st) (c : Call) → Sent c → Did st c g.blocks → ByOne st c
by_one {st} g c a d =
    record {
      slot = d.slot;
      answered = rw d.said;
      own = own_of g c a d;
      others = others-live g a d;
      contents = λ s ne l. content-same (holds_of g) d.moved s ne (sym (before g a d s) ∙ l);
    }

pub edit-by-edit : EditByEdit
edit-by-edit st c g a i =
    ⊎_elim (λ (x : Idle st c). absurd (never (sym i ∙ x.idle))) (λ (d : Did st c g.blocks). by_one g c a d) (call-cases g c a)

-- ---- contents are bytes

pub slot-bytes : SlotBytes
slot-bytes m p b h = part-slot m p b h

-- a slot that exists, as the bytes at its place
slot-part : {st : State} → Good st → (s : ℕ) → s < 256 * blocks_in st.map st.used → slot_part st.map s ≡ slot_bytes (content_of st.map s).slot
unfolding content_of slot_in
slot-part {st} g s l =
    let h = holds_of g in
    sym (slot-bytes st.map (slot_at st.map s) g.map-bytes (omega (arith, (slot-lies h s (rw (blocks-of g) at l)).high, h.room)))

object-part : (m : List ℕ) (s : ℕ) → object_part m s ≡ (content_of m s).object
unfolding content_of
object-part m s = refl

pub content-is-bytes : ContentIsBytes
content-is-bytes st st' s g g' l l' e = (
  slot-part g' s l' ∙ ap (λ (c : Content). slot_bytes c.slot) e ∙ sym (slot-part g s l),
  object-part st'.map s ∙ ap (λ (c : Content). c.object) e ∙ sym (object-part st.map s),
)
