-- The map as its own bytes, the first `used` of its buffer: what an edit does to them is the same in every buffer (`applied`). Assumes nothing.
use Prim.Native.Nat.{ℕ, suc, ◌+◌, ◌*◌, ◌≤◌, ◌<◌}
use mathlib.Core.Bool.{Bool, true, false, not, cond, ◌&&◌}
use mathlib.Core.Path.{◌≡◌, refl, sym, ap, ◌∙◌}
use mathlib.Core.Logic.{⊎_elim}
use mathlib.Core.List.{List, [], ◌∷◌, ◌++◌, append_assoc}
use native.Mathlib.Omega.{arith}
use lib.Dec.{eqb, ltb}
use borrow.Author.Tests.{ltb-true, le-ltb}
use lib.ListN.{length, get_or, take, drop, set, length-append}
use lib.Seq.{sets, set_out, take_at, take-set-le, take-set-lt, length-take-le, get_or-take, take_all, take-take}
use Rattle.std.specs.Prelude.{Ok}
use Rattle.numbers.specs.Bytes.{Bytes, u16_at, bytes_of}
use Rattle.numbers.proofs.Bytes.{sets-splice, sets-append}
use Rattle.numbers.proofs.Coordinates.{lt-or-ge}
use Rattle.records.specs.Headers.{index_head}
use Rattle.numbers.proofs.Below.{never}
use Rattle.slots.specs.declared.Slot.{Slot}
use Rattle.slots.specs.declared.State.{State}
use Rattle.slots.specs.Slots.{slot_bytes, state_of, same_state}
use Rattle.chain.specs.Chains.{place}
use Rattle.judge.specs.Rules.{slot_at}
use Rattle.judge.specs.Judging.{version_of}
use Rattle.judge.proofs.Judging.{bytes-least}
use Rattle.accept.specs.Slots.{slot_in, free_slot}
use Rattle.accept.specs.Verdicts.{verdict}
use Rattle.accept.proofs.Verdicts.{header-tells}
use Rattle.accept.proofs.Accepting.{Holds, verdict-tells, accepted-tells, accepted-is, holds-narrow}
use Rattle.frame.proofs.Frame.{Change}
use Rattle.frame.proofs.Same.{SameMap, number_same, version-alike}
use Rattle.frame.proofs.Behind.{verdict-same, block_same, place_same, slot-at-same, slot-in-same, free-same}
use Rattle.journal.specs.Journals.{record_in, slot_used, well_formed, looked}
use Rattle.journal.proofs.Journals.{KeepsUse, good-tells, good-is, well-formed-tells, well-formed-is}
use Rattle.change.specs.Slots.{has_state, with_sym, object_sym, can_reinstate}
use Rattle.add.specs.Objects.{block_for}
use Rattle.add.specs.Adds.{is_free, slot_added, in_free, in_block, new_length, added_map}
use Rattle.add.proofs.Objects.{block-full}
use Rattle.promise.specs.Runs.{grown}
use Rattle.promise.proofs.Contents.{can-exists, can-good}

-- ---- the first n bytes of a list that is written to

take-set : (n : ℕ) (xs : List ℕ) (i a : ℕ) → take n (set xs i a) ≡ set (take n xs) i a
take-set n xs i a =
    ⊎_elim
    (λ l. take-set-lt n xs i a l)
    (λ l. take-set-le n xs i a l ∙ sym (set_out (take n xs) i a (short l)))
    (lt-or-ge i n)
  where
    short : n ≤ i → length (take n xs) ≤ i
    short l = ⊎_elim (λ k. rw (length-take-le n xs (omega arith)) l) (λ k. rw (take_all n xs k) (omega arith)) (lt-or-ge n (length xs))

take-sets : (vs : List ℕ) (n : ℕ) (xs : List ℕ) (i : ℕ) → take n (sets xs i vs) ≡ sets (take n xs) i vs
take-sets [] n xs i = refl
take-sets (a ∷ vs) n xs i = take-sets vs n (set xs i a) (suc i) ∙ ap (λ (l : List ℕ). sets l (suc i) vs) (take-set n xs i a)

take-stored : (vs xs : List ℕ) (i : ℕ) → i + length vs ≤ length xs → take (i + length vs) (sets xs i vs) ≡ take i xs ++ vs
take-stored vs xs i h =
    rw (sets-splice vs xs i h, ← append_assoc (take i xs) vs (drop (i + length vs) xs))
    (take_at (take i xs ++ vs) (drop (i + length vs) xs) (i + length vs) (rw (length-append (take i xs) vs, length-take-le i xs (omega arith))))

-- ---- a buffer whose first bytes are the map

pub same_of : (used : ℕ) (m m' : List ℕ) → used ≤ length m → take used m' ≡ take used m → SameMap used m m'
same_of used m m' h e =
    record {
      room = h;
      room' = ⊎_elim (λ l. absurd (short l)) (λ l. l) (lt-or-ge (length m') used);
      same = λ i l. sym (get_or-take used m' i 0 l) ∙ ap (λ (x : List ℕ). get_or x i 0) e ∙ get_or-take used m i 0 l;
    }
  where
    short : length m' < used → ⊥
    short l =
        let a : length m' ≡ used = ap length (sym (take_all used m' (omega arith)) ∙ e) ∙ length-take-le used m h in
        omega arith

-- an accepted map, of either layout: its length lies between the limits and in the buffer, and in another buffer it has one version
pub accepted-length : (m : List ℕ) (used : ℕ) {n : ℕ} → verdict m used ≡ Ok n → (48 ≤ used) × (used ≤ 16777216) × (used ≤ length m)
accepted-length m used {n} e = header-tells m used (verdict-tells m used n e).header

pub accepted-version : {m m' : List ℕ} {used n : ℕ} → SameMap used m m' → verdict m used ≡ Ok n → version_of m' ≡ version_of m
accepted-version {m} {m'} {used} s e = version-alike s (accepted-length m used e).0

pub object-sym-same : {m m' : List ℕ} {used n : ℕ} → SameMap used m m' → Holds m used n → (s : ℕ) → s < 256 * n → (slot_in m s).position + 2 ≤ used
    → object_sym m' s ≡ object_sym m s
unfolding object_sym
object-sym-same {m} {m'} s h d l r = ap (λ (t : Slot). u16_at m' t.position) (slot-in-same s h d l) ∙ number_same s 2 (slot_in m d).position r

-- ---- what an edit does to an accepted map

module _ {m : List ℕ} {used n : ℕ} (h : Holds m used n) where
  pub whole : SameMap used m (take used m)
  whole = same_of used m (take used m) h.room (take-take used used m (omega arith))

  whole_length : length (take used m) ≡ used
  whole_length = length-take-le used m h.room

  pub sym-whole : (s : ℕ) → s < 256 * n → (y : ℕ) → take used (with_sym m s y) ≡ with_sym (take used m) s y
  unfolding with_sym
  sym-whole s l y = take-sets (bytes_of 2 y) used m (slot_at m s + 22) ∙ ap (λ (p : ℕ). sets (take used m) (p + 22) (bytes_of 2 y)) (sym (slot-at-same whole h s l))

  pub added-whole : (o : List ℕ) → new_length m used n o ≤ length m → take (new_length m used n o) (added_map m used n o) ≡ grown (take used m) n o
  unfolding new_length added_map in_free in_block grown
  added-whole o r = rw (free-same whole h, version-alike whole h.low, whole_length) (go (is_free m n) refl r)
    where
      blk : List ℕ
      blk = block_for (slot_added m used o)

      go : (b : Bool) → is_free m n ≡ b → cond b (used + length o) (used + length o + 6148) ≤ length m
          → take (cond b (used + length o) (used + length o + 6148)) (cond b (in_free m used n o) (in_block m used n o))
          ≡ cond b
          (sets (take used m ++ o) (slot_at (take used m) (free_slot m n)) (slot_bytes (slot_added m used o)))
          (sets (take used m ++ (o ++ blk)) (place index_head (take used m) n) (bytes_of 4 (used + length o)))
      go true e l =
          take-sets (slot_bytes (slot_added m used o)) (used + length o) (sets m used o) (slot_at m (free_slot m n))
          ∙ rw (take-stored o m used l, slot-at-same whole h (free_slot m n) (ltb-true (free_slot m n) (256 * n) e)) refl
      go false e l =
          take-sets (bytes_of 4 (used + length o)) (used + length o + 6148) (sets (sets m used o) (used + length o) blk) (place index_head m n)
          ∙ rw (sets-append o blk m used, place_same whole h n (omega arith)) (ap (λ (x : List ℕ). sets x (place index_head m n) (bytes_of 4 (used + length o))) (both l))
        where
          both : used + length o + 6148 ≤ length m → take (used + length o + 6148) (sets m used (o ++ blk)) ≡ take used m ++ (o ++ blk)
          both l =
              let k : used + length (o ++ blk) ≡ used + length o + 6148 = rw (length-append o blk, block-full (slot_added m used o)) (omega arith) in
              rw (← k) (take-stored (o ++ blk) m used (rw k l))

-- ---- what is asked of an accepted map in another buffer

-- two tests that pass together are one
pub one-test : (a b : Bool) → (a ≡ true → b ≡ true) → (b ≡ true → a ≡ true) → b ≡ a
one-test true b f g = f refl
one-test false true f g = absurd (never (sym (g refl)))
one-test false false f g = refl

module _ {m m' : List ℕ} {used n : ℕ} (s : SameMap used m m') (h : Holds m used n) where
  -- it is accepted there too
  pub holds_same : Holds m' used n
  holds_same = accepted-tells m' used n (verdict-same s ∙ accepted-is h, rw (version-alike s h.low) (holds-narrow h))

  pub used-same : (d : ℕ) → slot_used m' n d ≡ slot_used m n d
  unfolding slot_used slot_in
  used-same d =
      ⊎_elim
      (λ l. ap (λ (t : Slot). ltb d (256 * n) && not (eqb t.len 0)) (slot-in-same s h d l))
      (λ l. rw (le-ltb d (256 * n) l))
      (lt-or-ge d (256 * n))

  pub has_same : (k : State) (d : ℕ) → has_state k m' n d ≡ has_state k m n d
  unfolding has_state
  has_same k d =
      ⊎_elim
      (λ l. ap (λ (t : Slot). ltb d (256 * n) && same_state k (state_of t)) (slot-in-same s h d l))
      (λ l. rw (le-ltb d (256 * n) l))
      (lt-or-ge d (256 * n))

  pub well-same : (j : List ℕ) → well_formed j m' n ≡ well_formed j m n
  well-same j = one-test (well_formed j m n) (well_formed j m' n) (well-kept m m' (λ d e. used-same d ∙ e)) (well-kept m' m (λ d e. sym (used-same d) ∙ e))
    where
      well-kept : (x y : List ℕ) → KeepsUse x n y n → well_formed j x n ≡ true → well_formed j y n ≡ true
      well-kept x y keep e =
          let w = well-formed-tells j x n e in
          well-formed-is j y n
          (record {
            within = w.within;
            whole = w.whole;
            good = λ i l.
                let r = good-tells j x n i (w.good i l) in
                good-is j y n i (record { shape = r.shape; used = keep (record_in j i).slot r.used; new = r.new });
            rest = w.rest;
          })

  -- as a change that keeps every byte of the map
  pub handed-change : Change m m' used used n n
  handed-change =
      record {
        grown = omega arith;
        limit = h.limit;
        room = s.room';
        header = λ i l o. s.same i (omega (arith, h.low));
        rest = λ i a l e. s.same i l;
        index = holds_same.index;
        upto = omega arith;
        blocks = λ k l. block_same s h k (omega arith);
        new = λ k a b. absurd (impossible k a b);
      }
    where
      impossible : (k : ℕ) → n ≤ k → k < n → ⊥
      impossible k a b = omega arith

  pub looked-same : (j : List ℕ) (e : ℕ) → looked j m' n e ≡ looked j m n e
  unfolding looked
  looked-same j e = rw (well-same j)

-- what a slot that can be reinstated has of its object: its Sym lies inside
pub revived-whole : {m : List ℕ} {used n : ℕ} (h : Holds m used n) → Bytes m → (s : ℕ) → can_reinstate m used n s ≡ true
    → take used (with_sym m s (object_sym m s)) ≡ with_sym (take used m) s (object_sym (take used m) s)
revived-whole {m} {used} {n} h bytes s can =
    let g = can-good h bytes s can in
    rw (object-sym-same (whole h) h s (can-exists m used n s can) (omega (arith, g.end, bytes-least (version_of m) (slot_in m s).len g.len)))
    (sym-whole h s (can-exists m used n s can) (object_sym m s))
