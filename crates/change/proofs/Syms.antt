-- A change of one slot's Sym: what the slot is afterwards, that the map is accepted, and that reinstating can be judged by the one slot. Assumes nothing.
use Prim.Native.Nat.{ℕ, ◌+◌, ◌*◌, ◌^◌, ◌≤◌, ◌<◌}
use mathlib.Core.Bool.{Bool, true, false}
use mathlib.Core.Path.{◌≡◌, refl, sym, ◌∙◌}
use mathlib.Core.Logic.{◌⊎◌, inr, ⊎_elim}
use mathlib.Core.List.{List}
use native.Mathlib.Decide.{ℕ_discrete}
use native.Mathlib.Nat.{add-zero}
use native.Mathlib.Omega.{arith}
use lib.Dec.{ltb}
use lib.ListN.{length}
use lib.Seq.{sets}
use borrow.Author.Tests.{ltb-true}
use Rattle.numbers.specs.Bytes.{le_at, bytes_of}
use Rattle.numbers.proofs.Bytes.{le_at-sets-low, le_at-sets-in, le_at-bytes_of, length-bytes_of}
use Rattle.numbers.proofs.Below.{never}
use Rattle.slots.specs.declared.State.{State}
use Rattle.slots.specs.Slots.{slot_of, state_of, same_state}
use Rattle.slots.proofs.Slots.{slot-ext}
use Rattle.std.specs.Prelude.{Result, Ok, Err}
use Rattle.refusals.specs.declared.Refusal.{Refusal}
use Rattle.judge.specs.Rules.{slot_at, touches}
use Rattle.judge.specs.Judging.{version_of, slot_good, is_live, bad_slot}
use Rattle.accept.specs.Verdicts.{verdict}
use Rattle.accept.proofs.Accepting.{Holds, accepted-is, accepted-tells, holds-narrow, blocks-one}
use Rattle.judge.proofs.Telling.{and-true, GoodSlot, slot_is, slot-tells, bad-good, bad-dead, bad-tells}
use Rattle.frame.proofs.Frame.{Change, good-kept, slot_kept, version-same, change-accepted, change-back}
use Rattle.frame.proofs.Writes.{slot-lies, store-change, store-place, store_other}
use Rattle.accept.specs.Slots.{slot_in}
use Rattle.change.specs.Slots.{has_state, resym, with_sym, is_accepted}
use Rattle.judge.proofs.States.{state-live, state-unmarked}

pub has-tells : (k : State) (m : List ℕ) (n s : ℕ) → has_state k m n s ≡ true → (s < 256 * n) × (same_state k (state_of (slot_in m s)) ≡ true)
unfolding has_state
has-tells k m n s e = let a = and-true (ltb s (256 * n)) _ e in (ltb-true s (256 * n) a.0, a.1)

-- ---- the slot after the change

module _ {m : List ℕ} {used n : ℕ} (h : Holds m used n) (s : ℕ) (l : s < 256 * n) (y : ℕ) where
  two : length (bytes_of 2 y) ≡ 2
  two = length-bytes_of 2 y

  pub sym-change : Change m (with_sym m s y) used used n n
  unfolding with_sym
  sym-change = store-change h s l (bytes_of 2 y) (slot_at m s + 22) (omega arith) (omega (arith, two))

  pub sym-place : (d : ℕ) → d < 256 * n → slot_at (with_sym m s y) d ≡ slot_at m d
  unfolding with_sym
  sym-place = store-place h s l (bytes_of 2 y) (slot_at m s + 22) (omega arith) (omega (arith, two))

  pub sym-other : (d : ℕ) → d < 256 * n → (d ≡ s → ⊥) → slot_in (with_sym m s y) d ≡ slot_in m d
  unfolding with_sym slot_in
  sym-other = store_other h s l (bytes_of 2 y) (slot_at m s + 22) (omega arith) (omega (arith, two))

  sym-new : y < 2 ^ 16 → le_at 2 (with_sym m s y) (slot_at m s + 22) ≡ y
  unfolding with_sym
  sym-new f =
      let e : le_at 2 (sets m (slot_at m s + 22) (bytes_of 2 y)) (slot_at m s + 22 + 0) ≡ le_at 2 (bytes_of 2 y) 0
      = le_at-sets-in 2 (bytes_of 2 y) m (slot_at m s + 22) 0 (omega (arith, two)) (omega (arith, two, (slot-lies h s l).high, h.room)) in
      (rw (add-zero (slot_at m s + 22)) at e) ∙ le_at-bytes_of 2 y f

  sym-low : (w k : ℕ) → k + w ≤ 22 → le_at w (with_sym m s y) (slot_at m s + k) ≡ le_at w m (slot_at m s + k)
  unfolding with_sym
  sym-low w k a = le_at-sets-low w (bytes_of 2 y) m (slot_at m s + 22) (slot_at m s + k) (omega arith)

  -- the slot has the new Sym, and is as it was beside that
  sym-bytes : y < 2 ^ 16 → slot_of (with_sym m s y) (slot_at m s) ≡ resym (slot_of m (slot_at m s)) y
  unfolding slot_of
  sym-bytes f =
      let p = slot_at m s in
      let first : le_at 4 (with_sym m s y) p ≡ le_at 4 m p = rw (add-zero p) at (sym-low 4 0 (omega arith)) in
      slot-ext (slot_of (with_sym m s y) p) (resym (slot_of m p) y) first (sym-low 4 4 (omega arith)) (sym-low 4 8 (omega arith)) (sym-low 4 12 (omega arith))
      (sym-low 4 16 (omega arith)) (sym-low 2 20 (omega arith)) (sym-new f)

  pub sym-slot : y < 2 ^ 16 → slot_in (with_sym m s y) s ≡ resym (slot_in m s) y
  unfolding slot_in
  sym-slot f = rw (sym-place s l) (sym-bytes f)

  -- ---- the map after the change

  -- accepted, where the slot is no longer live, or good with its new Sym
  pub sym-holds : y < 2 ^ 16 → (y ≡ 0) ⊎ GoodSlot (touches m n) m used (version_of m) (resym (slot_in m s) y) → Holds (with_sym m s y) used n
  unfolding slot_in
  sym-holds f o = change-accepted sym-change h slots
    where
      here : bad_slot (touches (with_sym m s y) n) (with_sym m s y) used (version_of (with_sym m s y)) (slot_at (with_sym m s y) s) ≡ false
      here =
          ⊎_elim
          (λ z. bad-dead (touches (with_sym m s y) n) (with_sym m s y) used (version_of (with_sym m s y)) (slot_at (with_sym m s y) s) (rw (sym-slot f) (state-unmarked (resym (slot_of m (slot_at m s)) y) z)))
          (λ g. bad-good (touches (with_sym m s y) n) (with_sym m s y) used (version_of (with_sym m s y)) (slot_at (with_sym m s y) s) (rw (sym-slot f, version-same sym-change) (good-kept sym-change g)))
          o

      slots : (d : ℕ) → d < 256 * n → bad_slot (touches (with_sym m s y) n) (with_sym m s y) used (version_of (with_sym m s y)) (slot_at (with_sym m s y) d) ≡ false
      slots d g =
          elim (ℕ_discrete d s) [
            | yes e ↦ rw e here
            | no e ↦ slot_kept sym-change d (sym-other d g e) (h.slot d g)
          ]

-- ---- reinstating, by the one slot

-- the map with the slot live is accepted exactly when the slot is good with its object's Sym
module _ {m : List ℕ} {used n : ℕ} (h : Holds m used n) (s : ℕ) (l : s < 256 * n) (y : ℕ) (f : y < 2 ^ 16) (some : y ≡ 0 → ⊥) (len : (slot_in m s).len ≡ 0 → ⊥) where
  same_blocks : {k : ℕ} → Holds (with_sym m s y) used k → k ≡ n
  same_blocks g = blocks-one (sym g.index ∙ (sym-change h s l y).index)

  -- an accepted map has the slot good, and so the slot was good before
  back : Holds (with_sym m s y) used n → GoodSlot (touches m n) m used (version_of m) (resym (slot_in m s) y)
  unfolding slot_in
  back g =
      let c = sym-change h s l y in
      let live : is_live (state_of (slot_of (with_sym m s y) (slot_at (with_sym m s y) s))) ≡ true
      = rw (sym-slot h s l y f, state-live (resym (slot_of m (slot_at m s)) y) len some) in
      let t = bad-tells (touches (with_sym m s y) n) (with_sym m s y) used (version_of (with_sym m s y)) (slot_at (with_sym m s y) s) (g.slot s l) live in
      good-kept (change-back h c) (rw (sym-slot h s l y f, version-same c) at t)

  pub accepted-good : is_accepted (verdict (with_sym m s y) used) ≡ slot_good (touches m n) m used (version_of m) (resym (slot_in m s) y)
  accepted-good = go (slot_good (touches m n) m used (version_of m) (resym (slot_in m s) y)) refl (verdict (with_sym m s y) used) refl
    where
      go : (b : Bool) → slot_good (touches m n) m used (version_of m) (resym (slot_in m s) y) ≡ b → (v : Result ℕ Refusal) → verdict (with_sym m s y) used ≡ v → is_accepted v ≡ b
      go true e v q =
          let g = slot-tells (touches m n) m used (version_of m) (resym (slot_in m s) y) e in
          rw (sym q ∙ accepted-is (sym-holds h s l y f (inr g)))
      go false e (Err r) q = refl
      go false e (Ok k) q =
          let g = accepted-tells (with_sym m s y) used k (q, rw (version-same (sym-change h s l y)) (holds-narrow h)) in
          let t = back (rw (same_blocks g) at g) in
          absurd (never (sym (slot_is t) ∙ e))
