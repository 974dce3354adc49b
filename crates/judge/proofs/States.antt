-- The laws of a slot's state, by its Len and Sym, and of a slot at fault, by its fields. Assumes nothing.
use Prim.Native.Nat.{ℕ, ◌+◌}
use mathlib.Core.Bool.{Bool, true, false, not, cond}
use mathlib.Core.Path.{◌≡◌, refl, sym, ap, ◌∙◌}
use mathlib.Core.List.{List}
use lib.Dec.{eqb}
use borrow.Author.Tests.{eqb-true, eq-eqb, ne_eqb}
use Rattle.numbers.specs.Bytes.{u16_at}
use Rattle.numbers.proofs.Below.{never}
use Rattle.slots.specs.declared.Slot.{Slot}
use Rattle.slots.specs.declared.State.{State}
use Rattle.slots.specs.declared.State.TheVariants.{Free, Erased, Live}
use Rattle.slots.specs.Slots.{slot_of, state_of, same_state}
use Rattle.judge.specs.Judging.{slot_good, is_live, bad_slot, no_len}

pub state-live : (t : Slot) → (t.len ≡ 0 → ⊥) → (t.sym ≡ 0 → ⊥) → state_of t ≡ Live
unfolding state_of
state-live t a b = rw (ne_eqb t.len 0 a, ne_eqb t.sym 0 b)

pub state-unmarked : (t : Slot) → t.sym ≡ 0 → is_live (state_of t) ≡ false
unfolding state_of
state-unmarked t e = go (eqb t.len 0) refl
  where
    go : (b : Bool) → eqb t.len 0 ≡ b → is_live (state_of t) ≡ false
    go true f = rw f
    go false f = rw (f, eq-eqb t.sym 0 e)

pub state-empty : (t : Slot) → t.len ≡ 0 → is_live (state_of t) ≡ false
unfolding state_of
state-empty t e = rw (eq-eqb t.len 0 e)

pub same_live : (k : State) → same_state Live k ≡ true → is_live k ≡ true
same_live Free e = e
same_live Erased e = e
same_live Live e = e

-- whether a slot is live, by its fields as they are tested
pub live_none : (t : Slot) → t.len ≡ 0 → same_state Live (state_of t) ≡ false
unfolding state_of
live_none t e = rw (eq-eqb t.len 0 e)

pub live_some : (t : Slot) → (t.len ≡ 0 → ⊥) → same_state Live (state_of t) ≡ not (eqb t.sym 0)
unfolding state_of
live_some t e = rw (ne_eqb t.len 0 e) (go (eqb t.sym 0))
  where
    go : (b : Bool) → same_state Live (cond b Erased Live) ≡ not b
    go true = refl
    go false = refl

-- the same, where the Len was read alone
pub live_free : (m : List ℕ) (p : ℕ) → no_len m p ≡ true → same_state Live (state_of (slot_of m p)) ≡ false
unfolding slot_of
live_free m p e = live_none (slot_of m p) (eqb-true (u16_at m (p + 20)) 0 e)

pub live_taken : (m : List ℕ) (p : ℕ) → no_len m p ≡ false → same_state Live (state_of (slot_of m p)) ≡ not (eqb (slot_of m p).sym 0)
unfolding slot_of
live_taken m p e = live_some (slot_of m p) (λ z. never (sym (eq-eqb (u16_at m (p + 20)) 0 z) ∙ e))

pub len_taken : (m : List ℕ) (p : ℕ) → no_len m p ≡ false → (slot_of m p).len ≡ 0 → ⊥
unfolding slot_of
len_taken m p e z = never (sym (eq-eqb (u16_at m (p + 20)) 0 z) ∙ e)

-- a slot that is live or erased has a Len
pub len-some : (k : State) (t : Slot) → same_state k (state_of t) ≡ true → (k ≡ Free → ⊥) → t.len ≡ 0 → ⊥
unfolding state_of
len-some Free t e ne z = ne refl
len-some Erased t e ne z = never (sym (rw (eq-eqb t.len 0 z) at e))
len-some Live t e ne z = never (sym (rw (eq-eqb t.len 0 z) at e))

-- ---- whether a slot is free and whether it is at fault, by its fields as they are tested

module _ (m : List ℕ) (p : ℕ) {t : Slot} (e : t ≡ slot_of m p) where
  pub no-len : t.len ≡ 0 → no_len m p ≡ true
  unfolding slot_of
  no-len z = eq-eqb (u16_at m (p + 20)) 0 (sym (ap (λ (x : Slot). x.len) e) ∙ z)

  pub has-len : (t.len ≡ 0 → ⊥) → no_len m p ≡ false
  unfolding slot_of
  has-len z = ne_eqb (u16_at m (p + 20)) 0 (λ g. z (ap (λ (x : Slot). x.len) e ∙ g))

module _ (touch : ℕ → ℕ → Bool) (m : List ℕ) (used v p : ℕ) {t : Slot} (e : t ≡ slot_of m p) where
  pub fault-free : t.len ≡ 0 → bad_slot touch m used v p ≡ false
  unfolding bad_slot slot_of state_of
  fault-free z = rw (no-len m p e z)

  pub fault_erased : (t.len ≡ 0 → ⊥) → t.sym ≡ 0 → bad_slot touch m used v p ≡ false
  unfolding bad_slot slot_of state_of
  fault_erased z y = rw (has-len m p e z, eq-eqb (u16_at m (p + 22)) 0 (sym (ap (λ (x : Slot). x.sym) e) ∙ y))

  pub fault_live : (t.len ≡ 0 → ⊥) → (t.sym ≡ 0 → ⊥) → bad_slot touch m used v p ≡ not (slot_good touch m used v t)
  unfolding bad_slot slot_of state_of
  fault_live z y = rw (has-len m p e z, ne_eqb (u16_at m (p + 22)) 0 (λ g. y (ap (λ (x : Slot). x.sym) e ∙ g)), e)

-- a slot with no Len is not at fault
pub fault_none : (touch : ℕ → ℕ → Bool) (m : List ℕ) (used v p : ℕ) → (slot_of m p).len ≡ 0 → bad_slot touch m used v p ≡ false
fault_none touch m used v p e = fault-free touch m used v p refl e

pub fault_unjudged : (touch : ℕ → ℕ → Bool) (m : List ℕ) (used v p : ℕ) → no_len m p ≡ true → bad_slot touch m used v p ≡ false
unfolding slot_of
fault_unjudged touch m used v p e = fault_none touch m used v p (eqb-true (u16_at m (p + 20)) 0 e)
