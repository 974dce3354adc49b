-- Live slots and their contents across one done call: the edit's own slot changes as the edit says, and every other is as it was. Assumes nothing.
use Prim.Native.Nat.{ℕ, ◌+◌, ◌*◌, ◌≤◌, ◌<◌}
use mathlib.Core.Bool.{true, false, not}
use mathlib.Core.Path.{◌≡◌, refl, sym, ap, ◌∙◌}
use mathlib.Core.Logic.{⊎_elim}
use mathlib.Core.List.{List}
use native.Mathlib.Omega.{arith}
use lib.Dec.{eqb}
use lib.ListN.{length, get_or, take, drop, length-drop}
use lib.Seq.{get_or-take, get_or-drop, ext_get_or, length-take-le}
use borrow.Author.Tests.{lt-ltb, le-ltb, not-true, eqb-false}
use Rattle.numbers.specs.Bytes.{Bytes}
use Rattle.numbers.proofs.Below.{never}
use Rattle.numbers.proofs.Coordinates.{lt-or-ge}
use Rattle.slots.specs.declared.Slot.{Slot}
use Rattle.slots.specs.declared.State.{State}
use Rattle.slots.specs.declared.State.TheVariants.{Free, Erased, Live}
use Rattle.slots.specs.Slots.{slot_of, state_of, same_state, bytes_in}
use Rattle.slots.specs.Objects.{object_of}
use Rattle.judge.specs.Rules.{slot_at, touches}
use Rattle.judge.specs.Judging.{version_of, is_live}
use Rattle.accept.specs.Verdicts.{verdict}
use Rattle.accept.proofs.Accepting.{Holds}
use Rattle.judge.proofs.Telling.{and-true, GoodSlot, slot-tells, bad-tells}
use Rattle.frame.proofs.Frame.{Change, touch-part, version-same}
use Rattle.accept.specs.Slots.{slot_in}
use Rattle.change.specs.Slots.{has_state, resym, with_sym, object_sym, is_accepted, can_reinstate}
use Rattle.add.specs.Objects.{pairs_in, slot_for, offered_good}
use Rattle.add.specs.Adds.{slot_added}
use Rattle.change.proofs.Syms.{has-tells, accepted-good}
use Rattle.judge.proofs.States.{same_live, state-live, state-unmarked, state-empty, len-some}
use Rattle.add.proofs.Objects.{Offered, offered-tells, len-bytes}
use Rattle.promise.specs.Runs.{content_of}
use Rattle.promise.proofs.Moves.{Moved, object-sym-fits}

-- ---- parts of two maps

part_same : (m m' : List ℕ) (p k : ℕ) → p + k ≤ length m → p + k ≤ length m' → ((i : ℕ) → i < k → get_or m' (p + i) 0 ≡ get_or m (p + i) 0) → take k (drop p m') ≡ take k (drop p m)
part_same m m' p k a b h =
    let l' : length (take k (drop p m')) ≡ k = length-take-le k (drop p m') (rw length-drop (omega arith)) in
    let l : length (take k (drop p m)) ≡ k = length-take-le k (drop p m) (rw length-drop (omega arith)) in
    ext_get_or 0 (take k (drop p m')) (take k (drop p m)) (l' ∙ sym l)
    (λ i g.
    let j : i < k = omega arith in
    rw (get_or-take k (drop p m') i 0 j, get_or-take k (drop p m) i 0 j, get_or-drop p m' i 0, get_or-drop p m i 0) (h i j))

pub part-stored : (m o : List ℕ) (p : ℕ) → p + length o ≤ length m → ((i : ℕ) → i < length o → get_or m (p + i) 0 ≡ get_or o i 0) → take (length o) (drop p m) ≡ o
part-stored m o p a h =
    let l : length (take (length o) (drop p m)) ≡ length o = length-take-le (length o) (drop p m) (rw length-drop (omega arith)) in
    ext_get_or 0 (take (length o) (drop p m)) o l
    (λ i g. let j : i < length o = omega arith in rw (get_or-take (length o) (drop p m) i 0 j, get_or-drop p m i 0) (h i j))

-- ---- states

pub live_of : (t : Slot) → same_state Live (state_of t) ≡ is_live (state_of t)
live_of t = go (state_of t)
  where
    go : (k : State) → same_state Live k ≡ is_live k
    go Free = refl
    go Erased = refl
    go Live = refl

pub has-live : (m : List ℕ) (n d : ℕ) → d < 256 * n → has_state Live m n d ≡ is_live (state_of (slot_in m d))
unfolding has_state
has-live m n d l = rw (lt-ltb d (256 * n) l) (live_of (slot_in m d))

pub has-none : (m : List ℕ) (n d : ℕ) → 256 * n ≤ d → has_state Live m n d ≡ false
unfolding has_state
has-none m n d l = rw (le-ltb d (256 * n) l)

-- a live slot of an accepted map is good
pub good_of : {m : List ℕ} {used n : ℕ} → Holds m used n → (d : ℕ) → has_state Live m n d ≡ true → GoodSlot (touches m n) m used (version_of m) (slot_in m d)
unfolding slot_in
good_of {m} {used} {n} h d e =
    let a = has-tells Live m n d e in
    bad-tells (touches m n) m used (version_of m) (slot_at m d) (h.slot d a.0) (same_live (state_of (slot_of m (slot_at m d))) a.1)

-- ---- an object that no index block meets keeps its bytes
pub object-kept : {m m' : List ℕ} {used used' n n' v : ℕ} {t : Slot} → Holds m used n → Change m m' used used' n n' → GoodSlot (touches m n) m used v t
    → take (bytes_in v t.len) (drop t.position m') ≡ take (bytes_in v t.len) (drop t.position m)
object-kept {m} {m'} {used} {used'} {n} {n'} {v} {t} h c g =
    part_same m m' t.position (bytes_in v t.len) (omega (arith, g.end, h.room)) (omega (arith, g.end, c.grown, c.room))
    (λ i l.
    c.rest (t.position + i) (omega (arith, g.low)) (omega (arith, g.end))
    (touch-part m n t.position (bytes_in v t.len) (t.position + i) 1 g.off (omega arith) (omega arith)))

-- ---- every other slot

module _ {m m' : List ℕ} {used used' n n' s : ℕ} (h : Holds m used n) (w : Moved m m' used used' n n' s) (d : ℕ) (ne : d ≡ s → ⊥) where
  pub live_same : has_state Live m' n' d ≡ has_state Live m n d
  live_same =
      ⊎_elim
      (λ l. rw (has-live m' n' d (omega (arith, w.change.upto)), has-live m n d l, w.old d l ne))
      (λ l.
      rw (has-none m n d l)
      (⊎_elim
      (λ k. rw (has-live m' n' d k) (state-empty (slot_in m' d) (w.free d l k ne)))
      (λ k. has-none m' n' d k)
      (lt-or-ge d (256 * n'))))
      (lt-or-ge d (256 * n))

  pub content-same : has_state Live m n d ≡ true → content_of m' d ≡ content_of m d
  unfolding content_of
  content-same e =
      let l = (has-tells Live m n d e).0 in
      let o = object-kept h w.change (good_of h d e) in
      rw (w.old d l ne, version-same w.change) (λ i. record { slot = slot_in m d; object = o i })

-- ---- a slot that can be reinstated: it is erased, its object's Sym is not 0, and it is good with that Sym

-- it exists
pub can-exists : (m : List ℕ) (used n s : ℕ) → can_reinstate m used n s ≡ true → s < 256 * n
unfolding can_reinstate
can-exists m used n s e = (has-tells Erased m n s (and-true (has_state Erased m n s) _ e).0).0

module _ {m : List ℕ} {used n : ℕ} (h : Holds m used n) (bytes : Bytes m) (s : ℕ) (can : can_reinstate m used n s ≡ true) where
  pub can-parts : (has_state Erased m n s ≡ true) × (object_sym m s ≡ 0 → ⊥) × (is_accepted (verdict (with_sym m s (object_sym m s)) used) ≡ true)
  unfolding can_reinstate
  can-parts =
      let a = and-true (has_state Erased m n s) _ can in
      let b = and-true (not (eqb (object_sym m s) 0)) (is_accepted (verdict (with_sym m s (object_sym m s)) used)) a.1 in
      (a.0, eqb-false (object_sym m s) 0 (not-true (eqb (object_sym m s) 0) b.0), b.1)

  can-len : (slot_in m s).len ≡ 0 → ⊥
  can-len = len-some Erased (slot_in m s) (has-tells Erased m n s can-parts.0).1 not_free
    where
      not_free : Erased ≡ Free → ⊥
      not_free q = let z : ◌≡◌ {A = ℕ} 0 1 = cc in omega arith

  pub can-good : GoodSlot (touches m n) m used (version_of m) (resym (slot_in m s) (object_sym m s))
  can-good =
      slot-tells (touches m n) m used (version_of m) (resym (slot_in m s) (object_sym m s))
      (sym (accepted-good h s (can-exists m used n s can) (object_sym m s) (object-sym-fits h bytes s) can-parts.1 can-len) ∙ can-parts.2)

-- ---- the edit's own slot

module _ {m m' : List ℕ} {used used' n n' s : ℕ} (h : Holds m used n) (w : Moved m m' used used' n n' s) where
  -- removed
  pub removed-dead : slot_in m' s ≡ resym (slot_in m s) 0 → has_state Live m' n' s ≡ false
  removed-dead e = rw (has-live m' n' s w.here, e) (state-unmarked (resym (slot_in m s) 0) refl)

  -- reinstated: live afterwards, with the object as it lay
  module _ (bytes : Bytes m) (can : can_reinstate m used n s ≡ true) (e : slot_in m' s ≡ resym (slot_in m s) (object_sym m s)) where
    pub erased-dead : has_state Live m n s ≡ false
    erased-dead =
        let a = has-tells Erased m n s (can-parts h bytes s can).0 in
        rw (has-live m n s a.0) (go (state_of (slot_in m s)) a.1)
      where
        go : (k : State) → same_state Erased k ≡ true → is_live k ≡ false
        go Free q = refl
        go Erased q = refl
        go Live q = absurd (never (sym q))

    pub reinstated-live : has_state Live m' n' s ≡ true
    reinstated-live = rw (has-live m' n' s w.here, e, state-live (resym (slot_in m s) (object_sym m s)) (can-len h bytes s can) (can-parts h bytes s can).1)

    pub reinstated-content : content_of m' s ≡ record { slot = resym (slot_in m s) (object_sym m s); object = (content_of m s).object }
    unfolding content_of
    reinstated-content =
        let o = object-kept h w.change (can-good h bytes s can) in
        rw (e, version-same w.change) (λ i. record { slot = resym (slot_in m s) (object_sym m s); object = o i })

  -- added
  module _ (o : List ℕ) (bytes : Bytes o) (good : offered_good (version_of m) o ≡ true) (before : s < 256 * n → (slot_in m s).len ≡ 0) (e : slot_in m' s ≡ slot_added m used o) (stored : (i : ℕ) → i < length o → get_or m' (used + i) 0 ≡ get_or o i 0) where
    offered : Offered (version_of m) o
    offered = offered-tells (version_of m) o good

    pub free-dead : has_state Live m n s ≡ false
    free-dead = ⊎_elim (λ l. rw (has-live m n s l) (state-empty (slot_in m s) (before l))) (λ l. has-none m n s l) (lt-or-ge s (256 * n))

    pub added-live : has_state Live m' n' s ≡ true
    added-live = rw (has-live m' n' s w.here) (rw (state-live (slot_in m' s) w.some marked))
      where
        marked : (slot_in m' s).sym ≡ 0 → ⊥
        marked z = offered.marked (sym (added-sym) ∙ z)
          where
            added-sym : (slot_in m' s).sym ≡ (object_of o).sym
            added-sym = ap (λ (t : Slot). t.sym) e ∙ (unfold slot_for in refl)

    size : bytes_in (version_of m) (slot_added m used o).len ≡ length o
    unfolding slot_for
    size = len-bytes (version_of m) (pairs_in o) ∙ sym offered.exact

    position : (slot_added m used o).position ≡ used
    unfolding slot_for
    position = refl

    stored-end : used + length o ≤ used'
    stored-end =
        let k = good_of w.holds s added-live in
        let a : (slot_added m used o).position + bytes_in (version_of m') (slot_added m used o).len ≤ used' = rw e at k.end in
        rw (position, version-same w.change, size) at a

    pub added-content : content_of m' s ≡ record { slot = slot_added m used o; object = o }
    unfolding content_of slot_for
    added-content =
        let q = part-stored m' o used (omega (arith, stored-end, w.holds.room)) stored in
        rw (e, version-same w.change, size, position) (λ i. record { slot = slot_added m used o; object = q i })
