-- A removal or reinstatement case by case: the Sym that is written in each state of the slot, and the outcome. Assumes nothing.
use Prim.Native.Nat.{ℕ, ◌+◌, ◌*◌, ◌^◌, ◌≤◌, ◌<◌}
use mathlib.Core.Bool.{Bool, true, false, not, cond, ◌&&◌}
use mathlib.Core.Path.{◌≡◌, refl, sym, ap, ◌∙◌}
use mathlib.Core.List.{List}
use native.Mathlib.Omega.{arith}
use lib.Dec.{eqb, leb}
use borrow.Author.Tests.{lt-ltb, le-ltb, le-leb, eq-eqb, ne_eqb, eqb-false}
use Rattle.numbers.specs.Bytes.{Bytes}
use Rattle.numbers.proofs.Bytes.{le_at-lt}
use Rattle.numbers.proofs.Below.{never}
use Rattle.slots.specs.declared.Slot.{Slot}
use Rattle.slots.specs.declared.State.{State}
use Rattle.slots.specs.declared.State.TheVariants.{Erased, Free, Live}
use Rattle.slots.specs.Slots.{state_of, same_state}
use Rattle.records.specs.Sizes.{index_block_size, index_page}
use Rattle.records.specs.Headers.{index_head}
use Rattle.records.specs.Journals.{record_for}
use Rattle.chain.specs.Tables.{EndsTable, ends_meet}
use Rattle.judge.specs.Rules.{narrow, touches}
use Rattle.judge.specs.Judging.{version_of, slot_good}
use Rattle.accept.specs.Verdicts.{verdict}
use Rattle.accept.proofs.Accepting.{Holds}
use Rattle.judge.proofs.Judging.{bytes-least, same-touch}
use Rattle.judge.proofs.Telling.{and-true, slot-tells}
use Rattle.journal.specs.Journals.{is_full, appended}
use Rattle.journal.proofs.Below.{zero_one}
use Rattle.std.specs.Prelude.{None, Some, Ok, Err}
use Rattle.std.specs.Bool.{then_some, Decides}
use Rattle.records.specs.declared.EditKind.{EditKind}
use Rattle.records.specs.declared.EditKind.TheVariants.{Add, Remove, Reinstate}
use Rattle.records.specs.Kinds.{code_of}
use Rattle.refusals.specs.declared.Refusal.{Refusal}
use Rattle.refusals.specs.declared.Refusal.TheVariants.{WrongState, JournalFull}
use Rattle.edit.specs.declared.EditAnswer.TheVariants.{Done}
use Rattle.edit.specs.declared.EditStart.TheVariants as starts
use Rattle.accept.specs.Slots.{slot_in}
use Rattle.change.specs.Slots.{has_state, resym, with_sym, object_sym, is_accepted, can_reinstate, allowed_for, sym_for}
use Rattle.change.specs.NewSyms.{sym_to_reinstate, new_sym_for}
use Rattle.edit.specs.Edits.{saying, start_of}
use Rattle.change.specs.Changes.{repeat_change, fresh_change, changed}
use Rattle.judge.proofs.States.{len-some}
use Rattle.change.proofs.Syms.{has-tells, accepted-good}

-- ---- the slot's state

pub state-has : (j : State) {k : State} (m : List ℕ) (n s : ℕ) → s < 256 * n → state_of (slot_in m s) ≡ k → has_state j m n s ≡ same_state j k
unfolding has_state
state-has j m n s l e = rw (lt-ltb s (256 * n) l, e)

pub beyond-has : (k : State) (m : List ℕ) (n s : ℕ) → 256 * n ≤ s → has_state k m n s ≡ false
unfolding has_state
beyond-has k m n s l = rw (le-ltb s (256 * n) l)

-- ---- the Sym that is written

pub kind-other : (k : EditKind) → (k ≡ Remove → ⊥) → code_of k ≡ 2 → ⊥
kind-other Remove f e = f refl
kind-other Add f e = omega arith
kind-other Reinstate f e = omega arith

module _ (kind : ℕ) (m : List ℕ) (used n s : ℕ) where
  -- neither live nor erased
  pub sym-neither : has_state Live m n s ≡ false → has_state Erased m n s ≡ false → new_sym_for kind m used n s ≡ None
  unfolding new_sym_for can_reinstate
  sym-neither a b = go (eqb kind 2) refl
    where
      go : (c : Bool) → eqb kind 2 ≡ c → new_sym_for kind m used n s ≡ None
      go true e = rw (e, a)
      go false e = rw (e, b)

  -- a removal's, by a test of the slot's state
  pub sym-remove : {k : State} {b : Bool} → kind ≡ 2 → s < 256 * n → state_of (slot_in m s) ≡ k → Decides b (k ≡ Live) → then_some {T = ℕ} b 0 ≡ new_sym_for kind m used n s
  unfolding new_sym_for
  sym-remove {k} {b} e l f d = rw (eq-eqb kind 2 e, state-has Live m n s l f) (go k b d)
    where
      go : (k : State) (b : Bool) → Decides b (k ≡ Live) → then_some {T = ℕ} b 0 ≡ cond (same_state Live k) (Some 0) None
      go Live true d = refl
      go Live false d = absurd (never (sym (d.1 refl)))
      go Erased true d = absurd (never (sym (ap (same_state Live) (d.0 refl))))
      go Erased false d = refl
      go Free true d = absurd (never (sym (ap (same_state Live) (d.0 refl))))
      go Free false d = refl

  pub sym-reinstate-none : (kind ≡ 2 → ⊥) → s < 256 * n → (state_of (slot_in m s) ≡ Erased → ⊥) → new_sym_for kind m used n s ≡ None
  unfolding new_sym_for can_reinstate
  sym-reinstate-none e l f = rw (ne_eqb kind 2 e, state-has Erased m n s l refl, go (state_of (slot_in m s)) f)
    where
      go : (k : State) → (k ≡ Erased → ⊥) → same_state Erased k ≡ false
      go Erased f = absurd (f refl)
      go Live f = refl
      go Free f = refl

  pub sym-reinstate : (kind ≡ 2 → ⊥) → new_sym_for kind m used n s ≡ cond (can_reinstate m used n s) (Some (object_sym m s)) None
  unfolding new_sym_for
  sym-reinstate e = rw (ne_eqb kind 2 e)

  -- and back
  pub sym_none : new_sym_for kind m used n s ≡ None → allowed_for kind m used n s ≡ false
  unfolding new_sym_for
  sym_none e = go (allowed_for kind m used n s) e
    where
      go : (b : Bool) → cond b (Some (sym_for kind m s)) None ≡ None → b ≡ false
      go true q = zero_one (cc)
      go false q = refl

  pub sym-write : {y : ℕ} → new_sym_for kind m used n s ≡ Some y → (allowed_for kind m used n s ≡ true) × (sym_for kind m s ≡ y)
  unfolding new_sym_for
  sym-write {y} e = go (allowed_for kind m used n s) e
    where
      go : (b : Bool) → cond b (Some (sym_for kind m s)) None ≡ Some y → (b ≡ true) × (sym_for kind m s ≡ y)
      go true q = (refl, (cc))
      go false q = zero_one (cc)

  -- the slot exists
  pub allowed-exists : allowed_for kind m used n s ≡ true → s < 256 * n
  unfolding can_reinstate
  allowed-exists e = go (eqb kind 2) e
    where
      go : (b : Bool) → cond b (has_state Live m n s) (can_reinstate m used n s) ≡ true → s < 256 * n
      go true q = (has-tells Live m n s q).0
      go false q = (has-tells Erased m n s (and-true (has_state Erased m n s) _ q).0).0

-- ---- reinstating, by the table

and_no : (b : Bool) → b && false ≡ false
and_no true = refl
and_no false = refl

-- a good slot's object has room for its Sym
good-room : (touch : ℕ → ℕ → Bool) (m : List ℕ) (used v : ℕ) (t : Slot) → leb (t.position + 2) used && slot_good touch m used v t ≡ slot_good touch m used v t
good-room touch m used v t = go (slot_good touch m used v t) refl
  where
    go : (b : Bool) → slot_good touch m used v t ≡ b → leb (t.position + 2) used && b ≡ b
    go true e =
        let g = slot-tells touch m used v t e in
        rw (le-leb (t.position + 2) used (omega (arith, g.end, bytes-least v t.len g.len)))
    go false e = and_no (leb (t.position + 2) used)

-- an erased slot has a Len
pub erased-len : (t : Slot) → state_of t ≡ Erased → t.len ≡ 0 → ⊥
erased-len t e = len-some Erased t (rw e) (λ e. zero_one (cc))

module _ {m : List ℕ} {used n : ℕ} (h : Holds m used n) (bytes : Bytes m) (s : ℕ) (l : s < 256 * n) (erased : state_of (slot_in m s) ≡ Erased) where
  sym-fits : object_sym m s < 2 ^ 16
  unfolding object_sym
  sym-fits = le_at-lt 2 m (slot_in m s).position bytes

  -- the object's Sym, and whether the slot is good with it
  good : Bool
  good = slot_good (touches m n) m used (version_of m) (resym (slot_in m s) (object_sym m s))

  tests_agree : leb ((slot_in m s).position + 2) used && (not (eqb (object_sym m s) 0) && good) ≡ can_reinstate m used n s
  unfolding can_reinstate good
  tests_agree = rw (state-has Erased m n s l erased) (go (eqb (object_sym m s) 0) refl)
    where
      go : (b : Bool) → eqb (object_sym m s) 0 ≡ b
          → leb ((slot_in m s).position + 2) used && (not b && slot_good (touches m n) m used (version_of m) (resym (slot_in m s) (object_sym m s))) ≡ not b && is_accepted (verdict (with_sym m s (object_sym m s)) used)
      go true e = and_no (leb ((slot_in m s).position + 2) used)
      go false e =
          good-room (touches m n) m used (version_of m) (resym (slot_in m s) (object_sym m s))
          ∙ sym (accepted-good h s l (object_sym m s) sym-fits (eqb-false (object_sym m s) 0 e) (erased-len (slot_in m s) erased))

  pub reinstate-by : {index : List ℕ} → EndsTable index_block_size index_head index_page m n index
      → sym_to_reinstate (ends_meet index_block_size index) m used (slot_in m s) ≡ cond (can_reinstate m used n s) (Some (object_sym m s)) None
  unfolding sym_to_reinstate good object_sym
  reinstate-by w = rw (same-touch narrow w, ← tests_agree)

-- ---- the outcome

module _ (m : List ℕ) (used : ℕ) (jn : List ℕ) (e kind s y : ℕ) where
  pub fresh-full : is_full jn ≡ true → fresh_change m used jn e kind s true y ≡ saying m jn (Err JournalFull)
  unfolding fresh_change
  fresh-full f = rw f

  pub fresh-done : is_full jn ≡ false
      → fresh_change m used jn e kind s true y ≡ record { answer = Ok (Done s used); map = with_sym m s y; journal = appended jn (record_for e kind s) }
  unfolding fresh_change
  fresh-done f = rw f

-- a repetition changes nothing
pub repeat-map : (m : List ℕ) (used : ℕ) (jn : List ℕ) (kind s k t : ℕ) → (repeat_change m used jn kind s k t).map ≡ m
unfolding repeat_change
repeat-map m used jn kind s k t = go (eqb k kind && eqb t s) refl
  where
    go : (b : Bool) → eqb k kind && eqb t s ≡ b → (repeat_change m used jn kind s k t).map ≡ m
    go true e = rw e
    go false e = rw e

pub repeat-journal : (m : List ℕ) (used : ℕ) (jn : List ℕ) (kind s k t : ℕ) → (repeat_change m used jn kind s k t).journal ≡ jn
unfolding repeat_change
repeat-journal m used jn kind s k t = go (eqb k kind && eqb t s) refl
  where
    go : (b : Bool) → eqb k kind && eqb t s ≡ b → (repeat_change m used jn kind s k t).journal ≡ jn
    go true e = rw e
    go false e = rw e

module _ (m : List ℕ) (used : ℕ) (jn : List ℕ) (e kind s : ℕ) where
  pub changed-refused : {r : Refusal} → start_of m used jn e ≡ Err r → changed m used jn e kind s ≡ saying m jn (Err r)
  unfolding changed
  changed-refused q = rw q

  pub changed-held : {n k t : ℕ} → start_of m used jn e ≡ Ok (starts.Held n k t) → changed m used jn e kind s ≡ repeat_change m used jn kind s k t
  unfolding changed
  changed-held q = rw q

  pub changed-none : {n k f : ℕ} → start_of m used jn e ≡ Ok (starts.New n k f) → new_sym_for kind m used n s ≡ None → changed m used jn e kind s ≡ saying m jn (Err WrongState)
  unfolding changed fresh_change
  changed-none {n} q f = rw (q, sym_none kind m used n s f)

  pub changed-write : {n k f y : ℕ} → start_of m used jn e ≡ Ok (starts.New n k f) → new_sym_for kind m used n s ≡ Some y
      → changed m used jn e kind s ≡ fresh_change m used jn e kind s true y
  unfolding changed
  changed-write {n} q f = let w = sym-write kind m used n s f in rw (q, w.0, w.1)
