-- What a done edit does to an accepted map, for the three edits alike: `Moved` says of slot s, the edit's own, that it is in use afterwards, and of everything
-- else that it is as it was. Assumes nothing.
use Prim.Native.Nat.{ℕ, ◌+◌, ◌*◌, ◌^◌, ◌≤◌, ◌<◌}
use mathlib.Core.Bool.{Bool, true, false, not, cond}
use mathlib.Core.Path.{◌≡◌, refl, sym, ap, ◌∙◌}
use mathlib.Core.Logic.{inl}
use mathlib.Core.List.{List}
use native.Mathlib.Decide.{ℕ_discrete}
use native.Mathlib.Omega.{arith}
use lib.Dec.{eqb, ltb}
use lib.ListN.{length}
use borrow.Author.Tests.{ltb-true, ltb-false, lt-ltb, eqb-true, eqb-false, ne_eqb, not-true}
use Rattle.std.specs.Prelude.{Result, Ok, Err}
use Rattle.refusals.specs.declared.Refusal.{Refusal}
use Rattle.numbers.specs.Bytes.{Bytes}
use Rattle.numbers.proofs.Bytes.{le_at-lt}
use Rattle.numbers.specs.Below.{first}
use Rattle.numbers.proofs.Below.{never, first-law}
use Rattle.slots.specs.declared.Slot.{Slot}
use Rattle.slots.specs.declared.State.TheVariants.{Free, Erased, Live}
use Rattle.slots.specs.Slots.{slot_of, state_of, same_state, len_of}
use Rattle.judge.specs.Rules.{slot_at}
use Rattle.judge.specs.Judging.{version_of}
use Rattle.accept.specs.Verdicts.{verdict}
use Rattle.accept.proofs.Accepting.{Holds, accepted-tells, holds-narrow, blocks-one}
use Rattle.judge.proofs.Telling.{and-true}
use Rattle.frame.proofs.Frame.{Change, version-same}
use Rattle.journal.specs.Journals.{slot_used}
use Rattle.journal.proofs.Journals.{KeepsUse}
use Rattle.accept.specs.Slots.{slot_in, free_slot}
use Rattle.change.specs.Slots.{has_state, resym, with_sym, object_sym, is_accepted, can_reinstate}
use Rattle.add.specs.Objects.{pairs_in, slot_for, offered_good}
use Rattle.add.specs.Adds.{is_free, slot_added, in_free, in_block, new_length, added_map}
use Rattle.change.proofs.Syms.{has-tells, sym-change, sym-place, sym-other, sym-slot, sym-holds}
use Rattle.judge.proofs.States.{len-some}
use Rattle.add.proofs.Objects.{Offered, offered-tells, pairs-some}
use Rattle.add.proofs.Adds.{Grown, in-slot, in-block}

pub record Moved (m m' : List ℕ) (used used' n n' s : ℕ) : Type 0 where
  pub change : Change m m' used used' n n'
  pub holds : Holds m' used' n'
  pub here : s < 256 * n'
  pub some : (slot_in m' s).len ≡ 0 → ⊥
  pub place : (d : ℕ) → d < 256 * n → slot_at m' d ≡ slot_at m d
  pub old : (d : ℕ) → d < 256 * n → (d ≡ s → ⊥) → slot_in m' d ≡ slot_in m d
  pub free : (d : ℕ) → 256 * n ≤ d → d < 256 * n' → (d ≡ s → ⊥) → (slot_in m' d).len ≡ 0

-- ---- a slot in use stays in use

pub use-tells : (m : List ℕ) (n d : ℕ) → slot_used m n d ≡ true → (d < 256 * n) × ((slot_in m d).len ≡ 0 → ⊥)
unfolding slot_used slot_in
use-tells m n d e =
    let a = and-true (ltb d (256 * n)) (not (eqb (slot_of m (slot_at m d)).len 0)) e in
    (ltb-true d (256 * n) a.0, eqb-false (slot_of m (slot_at m d)).len 0 (not-true (eqb (slot_of m (slot_at m d)).len 0) a.1))

use-is : (m : List ℕ) (n d : ℕ) → d < 256 * n → ((slot_in m d).len ≡ 0 → ⊥) → slot_used m n d ≡ true
unfolding slot_used slot_in
use-is m n d l ne = rw (lt-ltb d (256 * n) l, ne_eqb (slot_of m (slot_at m d)).len 0 ne)

module _ {m m' : List ℕ} {used used' n n' s : ℕ} (w : Moved m m' used used' n n' s) where
  pub moved-use : KeepsUse m n m' n'
  moved-use d e =
      let u = use-tells m n d e in
      elim (ℕ_discrete d s) [
        | yes q ↦ rw q (use-is m' n' s w.here w.some)
        | no q ↦ use-is m' n' d (omega (arith, u.0, w.change.upto)) (λ z. u.1 (sym (ap (λ (t : Slot). t.len) (w.old d u.0 q)) ∙ z))
      ]

  pub moved_here : slot_used m' n' s ≡ true
  moved_here = use-is m' n' s w.here w.some

-- ---- remove and reinstate

module _ {m : List ℕ} {used n : ℕ} (h : Holds m used n) (bytes : Bytes m) (s : ℕ) where
  pub object-sym-fits : object_sym m s < 2 ^ 16
  unfolding object_sym
  object-sym-fits = le_at-lt 2 m (slot_in m s).position bytes

  -- the change of a Sym, once the map with it is known to be accepted
  sym-moved : (l : s < 256 * n) (y : ℕ) → y < 2 ^ 16 → ((slot_in m s).len ≡ 0 → ⊥) → Holds (with_sym m s y) used n → Moved m (with_sym m s y) used used n n s
  sym-moved l y f some g =
      record {
        change = sym-change h s l y;
        holds = g;
        here = l;
        some = λ z. some (sym (ap (λ (t : Slot). t.len) (sym-slot h s l y f)) ∙ z);
        place = sym-place h s l y;
        old = sym-other h s l y;
        free = λ d a b e. absurd (impossible d a b);
      }
    where
      impossible : (d : ℕ) → 256 * n ≤ d → d < 256 * n → ⊥
      impossible d a b = omega arith

  -- the slot afterwards
  pub changed-slot : (l : s < 256 * n) (y : ℕ) → y < 2 ^ 16 → slot_in (with_sym m s y) s ≡ resym (slot_in m s) y
  changed-slot l y f = sym-slot h s l y f

  pub remove-moved : has_state Live m n s ≡ true → Moved m (with_sym m s 0) used used n n s
  remove-moved e =
      let a = has-tells Live m n s e in
      sym-moved a.0 0 (omega arith) (len-some Live (slot_in m s) a.1 live-not-free) (sym-holds h s a.0 0 (omega arith) (inl refl))
    where
      live-not-free : Live ≡ Free → ⊥
      live-not-free q = let z : ◌≡◌ {A = ℕ} 0 1 = cc in omega arith

  accepted-holds : (l : s < 256 * n) (y : ℕ) (v : Result ℕ Refusal) → verdict (with_sym m s y) used ≡ v → is_accepted v ≡ true → Holds (with_sym m s y) used n
  accepted-holds l y (Err x) q e = absurd (never (sym e))
  accepted-holds l y (Ok k) q e =
      let g = accepted-tells (with_sym m s y) used k (q, rw (version-same (sym-change h s l y)) (holds-narrow h)) in
      rw (blocks-one (sym g.index ∙ (sym-change h s l y).index)) at g

  pub reinstate-moved : can_reinstate m used n s ≡ true → Moved m (with_sym m s (object_sym m s)) used used n n s
  unfolding can_reinstate
  reinstate-moved e =
      let a = and-true (has_state Erased m n s) _ e in
      let b = and-true (not (eqb (object_sym m s) 0)) (is_accepted (verdict (with_sym m s (object_sym m s)) used)) a.1 in
      let c = has-tells Erased m n s a.0 in
      sym-moved c.0 (object_sym m s) object-sym-fits (len-some Erased (slot_in m s) c.1 erased-not-free) (accepted-holds c.0 (object_sym m s) (verdict (with_sym m s (object_sym m s)) used) refl b.1)
    where
      erased-not-free : Erased ≡ Free → ⊥
      erased-not-free q = let z : ◌≡◌ {A = ℕ} 0 1 = cc in omega arith

-- ---- add

grown-moved : {m m' : List ℕ} {used used' n n' s : ℕ} {o : List ℕ} → ((slot_added m used o).len ≡ 0 → ⊥) → Grown m m' used used' n n' s o → Moved m m' used used' n n' s
grown-moved some g =
    record {
      change = g.change;
      holds = g.holds;
      here = g.here;
      some = λ z. some (sym (ap (λ (t : Slot). t.len) g.new) ∙ z);
      place = g.place;
      old = g.old;
      free = g.free;
    }

len-not-zero : (v k : ℕ) → 1 ≤ k → len_of v k ≡ 0 → ⊥
unfolding len_of
len-not-zero v k l e = go (eqb v 8) refl
  where
    go : (b : Bool) → eqb v 8 ≡ b → ⊥
    go true f = omega (arith, rw f at e)
    go false f = omega (arith, rw f at e)

-- a free slot has no Len
free-len : (t : Slot) → same_state Free (state_of t) ≡ true → t.len ≡ 0
unfolding state_of
free-len t e = go (eqb t.len 0) refl e
  where
    go : (b : Bool) → eqb t.len 0 ≡ b → same_state Free (cond b Free (cond (eqb t.sym 0) Erased Live)) ≡ true → t.len ≡ 0
    go true f q = eqb-true t.len 0 f
    go false f q = absurd (rest (eqb t.sym 0) q)
      where
        rest : (c : Bool) → same_state Free (cond c Erased Live) ≡ true → ⊥
        rest true r = never (sym r)
        rest false r = never (sym r)

module _ {m : List ℕ} {used n : ℕ} (h : Holds m used n) (o : List ℕ) (bytes : Bytes o) (g : offered_good (version_of m) o ≡ true) (limit : new_length m used n o ≤ 16777216) (fits : new_length m used n o ≤ length m) where
  offered : Offered (version_of m) o
  offered = offered-tells (version_of m) o g

  -- with how many index blocks the map ends
  unfoldable pub blocks_after : ℕ
  blocks_after = cond (is_free m n) n (n + 1)

  pub added-grown : Grown m (added_map m used n o) used (new_length m used n o) n blocks_after (free_slot m n) o
  unfolding blocks_after added_map new_length in_free in_block
  added-grown = go (is_free m n) refl limit fits
    where
      go : (b : Bool) → is_free m n ≡ b → cond b (used + length o) (used + length o + 6148) ≤ 16777216 → cond b (used + length o) (used + length o + 6148) ≤ length m
          → Grown m (cond b (in_free m used n o) (in_block m used n o)) used (cond b (used + length o) (used + length o + 6148)) n (cond b n (n + 1)) (free_slot m n) o
      go true e l r = in-slot h o bytes offered l r (free_slot m n) (ltb-true (free_slot m n) (256 * n) e)
      go false e l r =
          let q : free_slot m n ≡ 256 * n = all-used (ltb-false (free_slot m n) (256 * n) e) in
          rw q (in-block h o bytes offered (omega arith) (omega arith) l r)
        where
          all-used : 256 * n ≤ free_slot m n → free_slot m n ≡ 256 * n
          all-used k = unfold free_slot in omega (arith, (first-law (λ s. same_state Free (state_of (slot_in m s))) (256 * n)).within)

  -- the slot that an add takes is free, or one of the new block
  pub free-before : free_slot m n < 256 * n → (slot_in m (free_slot m n)).len ≡ 0
  unfolding free_slot
  free-before l = free-len (slot_in m (first (λ s. same_state Free (state_of (slot_in m s))) (256 * n))) ((first-law (λ s. same_state Free (state_of (slot_in m s))) (256 * n)).here l)

  pub added-moved : Moved m (added_map m used n o) used (new_length m used n o) n blocks_after (free_slot m n)
  unfolding slot_for
  added-moved = grown-moved (len-not-zero (version_of m) (pairs_in o) (pairs-some (version_of m) o bytes offered)) added-grown
