-- An edit and a search of one accepted map in two buffers: one answer, and the same map and journal afterwards, unless a buffer is too short. Assumes nothing.
use Prim.Native.Nat.{ℕ, zero, suc, ◌+◌, ◌*◌, ◌≤◌, ◌<◌}
use mathlib.Core.Bool.{Bool, true, false, cond, ◌&&◌}
use mathlib.Core.Path.{◌≡◌, refl, sym, ap, ◌∙◌}
use mathlib.Core.Logic.{◌⊎◌, inl, inr}
use mathlib.Core.List.{List}
use native.Mathlib.Omega.{arith}
use lib.Dec.{eqb, leb}
use lib.ListN.{length, take, drop}
use lib.Seq.{length-sets}
use borrow.Author.Tests.{ne_eqb, leb-true}
use Rattle.std.specs.Prelude.{Result, Ok, Err}
use Rattle.refusals.specs.declared.Refusal.{Refusal}
use Rattle.refusals.specs.declared.Refusal.TheVariants.{BadObject, NoRoom, WrongState, NumberHeld, JournalFull}
use Rattle.refusals.specs.Refusals.{number_of}
use Rattle.numbers.specs.Bytes.{Bytes, bytes_of, same_bytes}
use Rattle.numbers.specs.Below.{sel}
use Rattle.numbers.proofs.Ranges.{within-true}
use Rattle.slots.specs.declared.Slot.{Slot}
use Rattle.slots.specs.declared.State.TheVariants.{Erased, Live}
use Rattle.slots.specs.Slots.{bytes_in}
use Rattle.records.specs.Sizes.{map_limit}
use Rattle.records.specs.Headers.{is_wide}
use Rattle.records.specs.Journals.{record_for}
use Rattle.windows.specs.declared.Window.{Window}
use Rattle.windows.specs.Windows.{rectangle_at}
use Rattle.chain.specs.Chains.{inside}
use Rattle.judge.specs.Rules.{family_for, family_of, slot_at, slot_at_of}
use Rattle.judge.specs.Judging.{version_of}
use Rattle.judge.proofs.Judging.{bytes-least}
use Rattle.accept.specs.Slots.{slot_in, free_slot}
use Rattle.accept.specs.Verdicts.{verdict}
use Rattle.accept.proofs.Accepting.{Holds, editable-is}
use Rattle.frame.proofs.Same.{SameMap, number_same, part_same, version-alike, slot_read, wide-slot-read}
use Rattle.frame.proofs.Behind.{verdict-same, slot-place-same, slot-place-low, slot-in-same, free-same}
use Rattle.look.specs.Found.{live_at, slots_for, found}
use Rattle.journal.specs.declared.JournalLook.{JournalLook}
use Rattle.journal.specs.declared.JournalLook.TheVariants.{Held, New}
use Rattle.journal.specs.Journals.{record_in, holder, looked, is_full, appended}
use Rattle.journal.proofs.Journals.{looked-held, held_tells, well-formed-tells, good-tells}
use Rattle.edit.specs.declared.EditAnswer.{EditAnswer}
use Rattle.edit.specs.declared.EditAnswer.TheVariants.{Done, Before}
use Rattle.edit.specs.Edits as edits
use Rattle.edit.specs.Edits.{saying, after, after_look, start_of}
use Rattle.edit.proofs.Edits.{start-look}
use Rattle.change.specs.Slots.{has_state, with_sym, object_sym, can_reinstate, allowed_for, sym_for}
use Rattle.change.proofs.Syms.{has-tells}
use Rattle.change.specs.Changes.{repeat_change, fresh_change, changed}
use Rattle.add.specs.Objects.{offered_good, is_object}
use Rattle.add.specs.Adds.{new_length, added_map, repeat_add, fresh_add, added}
use Rattle.promise.specs.Runs.{edited, length_after, grown}
use Rattle.promise.proofs.Moves.{use-tells}
use Rattle.promise.proofs.Contents.{can-exists, can-parts, can-good}
use Rattle.promise.proofs.Whole.{one-test, same_of, accepted-version, holds_same, sym-whole, added-whole, object-sym-same, has_same, looked-same}

sel-alike : {p q : ℕ → Bool} (k : ℕ) → ((i : ℕ) → i < k → q i ≡ p i) → sel q k ≡ sel p k
unfolding sel
sel-alike zero e = refl
sel-alike (suc k) e = rw (sel-alike k (λ i l. e i (omega arith)), e k (omega arith))

-- ---- two outcomes of an edit, in two buffers: one answer, and the same first bytes and journal afterwards

pub record Agree (used : ℕ) (o o' : edits.Outcome) : Type 0 where
  pub answer : o'.answer ≡ o.answer
  pub map : take (length_after (edited o.answer) used) o'.map ≡ take (length_after (edited o.answer) used) o.map
  pub journal : o'.journal ≡ o.journal

module _ {m m' : List ℕ} {used : ℕ} (s : SameMap used m m') where
  pub first-same : (k : ℕ) → k ≤ used → take k m' ≡ take k m
  first-same k l = part_same s 0 k (omega arith)

  back : SameMap used m' m
  back = record { room = s.room'; room' = s.room; same = λ i l. sym (s.same i l) }

  -- an answer that changes nothing
  still-agree : (j : List ℕ) (a : Result EditAnswer Refusal) → length_after (edited a) used ≤ used → Agree used (saying m j a) (saying m' j a)
  still-agree j a l = record { answer = refl; map = first-same (length_after (edited a) used) l; journal = refl }

  pub refused-agree : (j : List ℕ) (x : Refusal) → Agree used (saying m j (Err x)) (saying m' j (Err x))
  refused-agree j x = still-agree j (Err x) (go (eqb (number_of x) 0 && true))
    where
      go : (b : Bool) → cond b 0 used ≤ used
      go true = omega arith
      go false = omega arith

  -- ---- an accepted map

  module _ {n : ℕ} (h : Holds m used n) where
    -- a Sym is written
    sym-same : (d : ℕ) → d < 256 * n → (y : ℕ) → take used (with_sym m' d y) ≡ take used (with_sym m d y)
    sym-same d l y = sym-whole (holds_same s h) d l y ∙ ap (λ (x : List ℕ). with_sym x d y) (first-same used (omega arith)) ∙ sym (sym-whole h d l y)

    can-sym : Bytes m → (d : ℕ) → can_reinstate m used n d ≡ true → object_sym m' d ≡ object_sym m d
    can-sym bytes d can =
        let g = can-good h bytes d can in
        object-sym-same s h d (can-exists m used n d can) (omega (arith, g.end, bytes-least (version_of m) (slot_in m d).len g.len))

    can-kept : Bytes m → (d : ℕ) → can_reinstate m used n d ≡ true → can_reinstate m' used n d ≡ true
    unfolding can_reinstate
    can-kept bytes d can =
        let l = can-exists m used n d can in
        let p = can-parts h bytes d can in
        let room : used ≤ length (with_sym m d (object_sym m d)) = unfold with_sym in rw (length-sets m (slot_at m d + 22) (bytes_of 2 (object_sym m d))) h.room in
        let v = verdict-same (same_of used (with_sym m d (object_sym m d)) (with_sym m' d (object_sym m d)) room (sym-same d l (object_sym m d))) in
        rw (has_same s h Erased d, p.0, can-sym bytes d can, ne_eqb (object_sym m d) 0 p.1, v, p.2)

module _ {m m' : List ℕ} {used n : ℕ} (s : SameMap used m m') (h : Holds m used n) where
  -- ---- a removal or a reinstatement

  can-same : Bytes m → Bytes m' → (d : ℕ) → can_reinstate m' used n d ≡ can_reinstate m used n d
  can-same b b' d = one-test (can_reinstate m used n d) (can_reinstate m' used n d) (can-kept s h b d) (can-kept (back s) (holds_same s h) b' d)

  allowed_same : Bytes m → Bytes m' → (kind d : ℕ) → allowed_for kind m' used n d ≡ allowed_for kind m used n d
  allowed_same b b' kind d = rw (has_same s h Live d, can-same b b' d)

  -- where it is allowed, the slot exists, and one Sym is written
  allowed-exists : (kind d : ℕ) → allowed_for kind m used n d ≡ true → d < 256 * n
  allowed-exists kind d = go (eqb kind 2)
    where
      go : (b : Bool) → cond b (has_state Live m n d) (can_reinstate m used n d) ≡ true → d < 256 * n
      go true e = (has-tells Live m n d e).0
      go false e = can-exists m used n d e

  sym-for-same : Bytes m → (kind d : ℕ) → allowed_for kind m used n d ≡ true → sym_for kind m' d ≡ sym_for kind m d
  sym-for-same b kind d = go (eqb kind 2)
    where
      go : (x : Bool) → cond x (has_state Live m n d) (can_reinstate m used n d) ≡ true → cond x 0 (object_sym m' d) ≡ cond x 0 (object_sym m d)
      go true e = refl
      go false e = can-sym s h b d e

  fresh-change : Bytes m → Bytes m' → (j : List ℕ) (e kind d : ℕ)
      → Agree used (fresh_change m used j e kind d (allowed_for kind m used n d) (sym_for kind m d)) (fresh_change m' used j e kind d (allowed_for kind m' used n d) (sym_for kind m' d))
  unfolding fresh_change
  fresh-change b b' j e kind d = rw (allowed_same b b' kind d) (go (allowed_for kind m used n d) refl (is_full j))
    where
      done : List ℕ → edits.Outcome
      done x = record { answer = Ok (Done d used); map = x; journal = appended j (record_for e kind d) }

      go : (a : Bool) → allowed_for kind m used n d ≡ a → (f : Bool)
          → Agree used (cond a (cond f (saying m j (Err JournalFull)) (done (with_sym m d (sym_for kind m d)))) (saying m j (Err WrongState)))
          (cond a (cond f (saying m' j (Err JournalFull)) (done (with_sym m' d (sym_for kind m' d)))) (saying m' j (Err WrongState)))
      go false q f = refused-agree s j WrongState
      go true q true = refused-agree s j JournalFull
      go true q false =
          record {
            answer = refl;
            map = rw (sym-for-same b kind d q) (sym-same s h d (allowed-exists kind d q) (sym_for kind m d));
            journal = refl;
          }

  repeat-change : (j : List ℕ) (kind d k t : ℕ) → Agree used (repeat_change m used j kind d k t) (repeat_change m' used j kind d k t)
  unfolding repeat_change
  repeat-change j kind d k t = go (eqb k kind && eqb t d)
    where
      go : (b : Bool) → Agree used (cond b (saying m j (Ok (Before d used))) (saying m j (Err NumberHeld))) (cond b (saying m' j (Ok (Before d used))) (saying m' j (Err NumberHeld)))
      go true = still-agree s j (Ok (Before d used)) (omega arith)
      go false = refused-agree s j NumberHeld

  -- ---- an add

  -- the object of a slot that a record names
  object-is : (o : List ℕ) (t : Slot) → is_object m' used t o ≡ is_object m used t o
  unfolding is_object
  object-is o t = rw (version-alike s h.low) (go (inside used (bytes_in (version_of m) t.len) t.position) refl)
    where
      go : (b : Bool) → inside used (bytes_in (version_of m) t.len) t.position ≡ b
          → inside used (bytes_in (version_of m) t.len) t.position && same_bytes (take (bytes_in (version_of m) t.len) (drop t.position m')) o
          ≡ inside used (bytes_in (version_of m) t.len) t.position && same_bytes (take (bytes_in (version_of m) t.len) (drop t.position m)) o
      go true e = rw (part_same s t.position (bytes_in (version_of m) t.len) (within-true 48 used (bytes_in (version_of m) t.len) t.position e).1)
      go false e = rw e

  held-exists : (j : List ℕ) (e k t : ℕ) → looked j m n e ≡ Ok (Held k t) → t < 256 * n
  held-exists j e k t q =
      let l = looked-held j m n e k t q in
      let w = well-formed-tells j m n l.0.well in
      rw l.3 (use-tells m n (record_in j (holder j e)).slot (good-tells j m n (holder j e) (w.good (holder j e) (held_tells j e l.1).0)).used).0

  repeat-add : (j o : List ℕ) (k t : ℕ) → t < 256 * n → Agree used (repeat_add m used j o k t) (repeat_add m' used j o k t)
  unfolding repeat_add
  repeat-add j o k t l = rw (slot-in-same s h t l, object-is o (slot_in m t)) (go (eqb k 1 && is_object m used (slot_in m t) o))
    where
      go : (b : Bool) → Agree used (cond b (saying m j (Ok (Before t used))) (saying m j (Err NumberHeld))) (cond b (saying m' j (Ok (Before t used))) (saying m' j (Err NumberHeld)))
      go true = still-agree s j (Ok (Before t used)) (omega arith)
      go false = refused-agree s j NumberHeld

  length-same : (o : List ℕ) → new_length m' used n o ≡ new_length m used n o
  unfolding new_length
  length-same o = rw (free-same s h)

  -- both buffers have room: the same bytes are written
  abbrev add_done : List ℕ → List ℕ → ℕ → List ℕ → edits.Outcome
  add_done x j e o = record { answer = Ok (Done (free_slot m n) (new_length m used n o)); map = added_map x used n o; journal = appended j (record_for e 1 (free_slot m n)) }

  done-add : (j : List ℕ) (e : ℕ) (o : List ℕ) → new_length m used n o ≤ length m → new_length m used n o ≤ length m' → Agree used (add_done m j e o) (add_done m' j e o)
  done-add j e o l l' =
      record {
        answer = refl;
        map = rw (← length-same o) (added-whole (holds_same s h) o (rw (length-same o) l')) ∙ ap (λ (x : List ℕ). grown x n o) (first-same s used (omega arith)) ∙ sym (added-whole h o l);
        journal = refl;
      }

  fresh-add : (j : List ℕ) (e : ℕ) (o : List ℕ)
      → Agree used (fresh_add m used j e o n) (fresh_add m' used j e o n)
      ⊎ (((fresh_add m used j e o n).answer ≡ Err NoRoom) ⊎ ((fresh_add m' used j e o n).answer ≡ Err NoRoom))
  unfolding fresh_add
  fresh-add j e o =
      rw (version-alike s h.low, length-same o, free-same s h)
      (go (offered_good (version_of m) o) (leb (new_length m used n o) map_limit) (leb (new_length m used n o) (length m)) refl (leb (new_length m used n o) (length m')) refl (is_full j))
    where
      add-by : Bool → Bool → Bool → Bool → List ℕ → edits.Outcome
      add-by a b r f x = cond a (cond (b && r) (cond f (saying x j (Err JournalFull)) (add_done x j e o)) (saying x j (Err NoRoom))) (saying x j (Err BadObject))

      go : (a b r : Bool) → leb (new_length m used n o) (length m) ≡ r → (r' : Bool) → leb (new_length m used n o) (length m') ≡ r' → (f : Bool)
          → Agree used (add-by a b r f m) (add-by a b r' f m') ⊎ (((add-by a b r f m).answer ≡ Err NoRoom) ⊎ ((add-by a b r' f m').answer ≡ Err NoRoom))
      go false b r q r' q' f = inl (refused-agree s j BadObject)
      go true false r q r' q' f = inl (refused-agree s j NoRoom)
      go true true false q r' q' f = inr (inl refl)
      go true true true q false q' f = inr (inr refl)
      go true true true q true q' true = inl (refused-agree s j JournalFull)
      go true true true q true q' false = inl (done-add j e o (leb-true (new_length m used n o) (length m) q) (leb-true (new_length m used n o) (length m') q'))

  -- ---- the edits

  starts-same : (j : List ℕ) (e : ℕ) → start_of m' used j e ≡ after_look m' n (looked j m n e)
  starts-same j e = start-look m' used j e (editable-is (holds_same s h)) (looked-same s h j e)

  pub change-agree : Bytes m → Bytes m' → (j : List ℕ) (e kind d : ℕ) → Agree used (changed m used j e kind d) (changed m' used j e kind d)
  unfolding changed
  change-agree b b' j e kind d = rw (start-look m used j e (editable-is h) refl, starts-same j e) (go (looked j m n e))
    where
      then : List ℕ → Result JournalLook Refusal → edits.Outcome
      then x l = after x j (λ n k t. repeat_change x used j kind d k t) (λ n. fresh_change x used j e kind d (allowed_for kind x used n d) (sym_for kind x d)) (after_look x n l)

      go : (l : Result JournalLook Refusal) → Agree used (then m l) (then m' l)
      go (Err x) = refused-agree s j x
      go (Ok (Held k t)) = repeat-change j kind d k t
      go (Ok (New k)) = fresh-change b b' j e kind d

  pub add-agree : (j : List ℕ) (e : ℕ) (o : List ℕ)
      → Agree used (added m used j e o) (added m' used j e o) ⊎ (((added m used j e o).answer ≡ Err NoRoom) ⊎ ((added m' used j e o).answer ≡ Err NoRoom))
  unfolding added
  add-agree j e o = rw (start-look m used j e (editable-is h) refl, starts-same j e) (go (looked j m n e) refl)
    where
      then : List ℕ → Result JournalLook Refusal → edits.Outcome
      then x l = after x j (λ n k t. repeat_add x used j o k t) (λ n. fresh_add x used j e o n) (after_look x n l)

      go : (l : Result JournalLook Refusal) → looked j m n e ≡ l
          → Agree used (then m l) (then m' l) ⊎ (((then m l).answer ≡ Err NoRoom) ⊎ ((then m' l).answer ≡ Err NoRoom))
      go (Err x) q = inl (refused-agree s j x)
      go (Ok (Held k t)) q = inl (repeat-add j o k t (held-exists j e k t q))
      go (Ok (New k)) q = fresh-add j e o

-- ---- the search, of an accepted map of either layout

module _ {m m' : List ℕ} {used : ℕ} (s : SameMap used m m') where
  rectangle-same : (p : ℕ) → p + 16 ≤ used → rectangle_at m' p ≡ rectangle_at m p
  rectangle-same p l =
      rw (number_same s 4 p (omega arith), number_same s 4 (p + 4) (omega arith), number_same s 4 (p + 8) (omega arith), number_same s 4 (p + 12) (omega arith))

  live_alike : (b : Bool) (w : Window) (p : ℕ) → p + (family_for b).slot ≤ used → live_at (family_for b) m' w p ≡ live_at (family_for b) m w p
  unfolding live_at
  live_alike true w p l = rw (wide-slot-read s p l, rectangle-same p (omega arith))
  live_alike false w p l = rw (slot_read s p l, rectangle-same p (omega arith))

  pub found-same : {n : ℕ} → verdict m used ≡ Ok n → (w : Window) → found m' n w ≡ found m n w
  unfolding slots_for
  found-same {n} e w =
      sel-alike (256 * n)
      (λ d l.
      rw (slot-place-same s e d l, accepted-version s e)
      (live_alike (is_wide (version_of m)) w (slot_at_of (family_of m) m d) (slot-place-low s e d l)))
