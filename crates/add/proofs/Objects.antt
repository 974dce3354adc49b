-- The laws of an offered object and of the slot that it gets: every field fits, its Len says its pairs and its bytes, and with the object's bytes in place the
-- slot is good. Assumes nothing.
use Prim.Native.Nat.{ℕ, ◌+◌, ◌-◌, ◌*◌, ◌%◌, ◌^◌, ◌≤◌, ◌<◌}
use mathlib.Core.Bool.{Bool, true, false, not, cond}
use mathlib.Core.Path.{◌≡◌, refl, sym, ap, ◌∙◌}
use mathlib.Core.List.{List, ◌++◌}
use native.Mathlib.Nat.{zero-add}
use native.Mathlib.Omega.{arith}
use lib.Dec.{eqb, leb}
use lib.ListN.{length, get_or, drop, replicate, length-append, length-replicate, get_or-append}
use lib.Seq.{get_or-drop, get_or-append-add}
use borrow.Author.Tests.{leb-true, le-leb, eqb-true, eq-eqb, not-true, eqb-false}
use Rattle.numbers.specs.Bytes.{Bytes, le_at, u32_at}
use Rattle.numbers.specs.Coordinates.{unmarked}
use Rattle.numbers.proofs.Bytes.{le_at-cong, le_at-lt}
use Rattle.slots.specs.declared.Slot.{Slot}
use Rattle.slots.specs.Slots.{slot_of, slot_bytes, len_good, pairs_of, bytes_in, len_of}
use Rattle.slots.specs.Objects.{object_of, type_good}
use Rattle.windows.specs.Rectangles.{x_of, y_of, cover_to, rectangle_of, without_marks}
use Rattle.slots.proofs.Slots.{SlotFits, length-slot_bytes, slot-cong, slot-own}
use Rattle.windows.proofs.Rectangles.{left-least, bottom-least, right-greatest, top-greatest, rectangle-wide, rectangle-high}
use Rattle.chain.proofs.Tables.{zeros}
use Rattle.judge.specs.Judging.{header_fits}
use Rattle.judge.proofs.Telling.{and-true, GoodSlot}
use Rattle.add.specs.Objects.{pairs_in, pair_limit, offered_good, slot_for, block_for}

pub record Offered (v : ℕ) (o : List ℕ) : Type 0 where
  pub exact : length o ≡ 32 + 8 * pairs_in o
  pub some : 1 ≤ (object_of o).items
  pub kind : type_good (object_of o).kind ≡ true
  pub marked : (object_of o).sym ≡ 0 → ⊥
  pub few : pairs_in o ≤ pair_limit v

pub offered-tells : (v : ℕ) (o : List ℕ) → offered_good v o ≡ true → Offered v o
unfolding offered_good
offered-tells v o e =
    let a = and-true (leb 40 (length o)) _ e in
    let b = and-true (eqb (length o) (32 + 8 * pairs_in o)) _ a.1 in
    let c = and-true (leb 1 (object_of o).items) _ b.1 in
    let d = and-true (type_good (object_of o).kind) _ c.1 in
    let f = and-true (not (eqb (object_of o).sym 0)) (leb (pairs_in o) (pair_limit v)) d.1 in
    record {
      exact = eqb-true (length o) (32 + 8 * pairs_in o) b.0;
      some = leb-true 1 (object_of o).items c.0;
      kind = d.0;
      marked = eqb-false (object_of o).sym 0 (not-true (eqb (object_of o).sym 0) f.0);
      few = leb-true (pairs_in o) (pair_limit v) f.1;
    }

-- ---- Len, for an object of k pairs

module _ (v k : ℕ) (some : 1 ≤ k) (few : k ≤ pair_limit v) where
  pub len-fits : len_of v k < 2 ^ 16
  unfolding len_of
  len-fits = go (eqb v 8) refl few
    where
      go : (b : Bool) → eqb v 8 ≡ b → k ≤ cond b 32768 8187 → len_of v k < 2 ^ 16
      go true e l = rw e (omega arith)
      go false e l = rw e (omega arith)

  pub len-good : len_good v (len_of v k) ≡ true
  unfolding len_of len_good
  len-good = go (eqb v 8) refl few
    where
      go : (b : Bool) → eqb v 8 ≡ b → k ≤ cond b 32768 8187 → len_good v (len_of v k) ≡ true
      go true e l = rw e (le-leb k 32768 l)
      go false e l = rw (e, le-leb 40 (32 + 8 * k) (omega arith)) (eq-eqb ((32 + 8 * k - 32) % 8) 0 (omega arith))

pub len-pairs : (v k : ℕ) → pairs_of v (len_of v k) ≡ k
unfolding len_of pairs_of
len-pairs v k = go (eqb v 8) refl
  where
    go : (b : Bool) → eqb v 8 ≡ b → pairs_of v (len_of v k) ≡ k
    go true e = rw e
    go false e = rw e (omega arith)

pub len-bytes : (v k : ℕ) → bytes_in v (len_of v k) ≡ 32 + 8 * k
unfolding len_of bytes_in
len-bytes v k = go (eqb v 8) refl
  where
    go : (b : Bool) → eqb v 8 ≡ b → bytes_in v (len_of v k) ≡ 32 + 8 * k
    go true e = rw e
    go false e = rw e

-- ---- the slot

module _ (v : ℕ) (o : List ℕ) (bytes : Bytes o) (g : Offered v o) where
  pub pairs-some : 1 ≤ pairs_in o
  pairs-some = omega (arith, g.some)

  x_fits : (k : ℕ) → x_of o k < 2 ^ 32
  unfolding x_of
  x_fits k = le_at-lt 4 o (32 + 8 * k) bytes

  y-fits : (k : ℕ) → y_of o k < 2 ^ 32
  unfolding y_of
  y-fits k = le_at-lt 4 o (32 + 8 * k + 4) bytes

  unmarked-fits : (a : ℕ) → a < 2 ^ 32 → unmarked a < 2 ^ 32
  unfolding unmarked
  unmarked-fits a f = omega arith

  sym-fits : (object_of o).sym < 2 ^ 16
  unfolding object_of
  sym-fits = le_at-lt 2 o 0 bytes

  pub slot-fits : (p : ℕ) → p < 2 ^ 32 → SlotFits (slot_for v o p)
  unfolding slot_for rectangle_of without_marks
  slot-fits p f =
      let i = (object_of o).items - 1 in
      let l = left-least o bytes i in
      let b = bottom-least o bytes i in
      let r = right-greatest o bytes i in
      let t = top-greatest o bytes i in
      record {
        left = unmarked-fits (cover_to o i).left (rw l.2 (x_fits l.0));
        bottom = unmarked-fits (cover_to o i).bottom (rw b.2 (y-fits b.0));
        right = unmarked-fits (cover_to o i).right (rw r.2 (x_fits r.0));
        top = unmarked-fits (cover_to o i).top (rw t.2 (y-fits t.0));
        position = f;
        len = len-fits v (pairs_in o) pairs-some g.few;
        sym = sym-fits;
      }

  -- with the object's bytes at p, inside the map and off the index blocks, its slot is good
  module _ (touch : ℕ → ℕ → Bool) (m : List ℕ) (used p : ℕ) (stored : (i : ℕ) → i < length o → get_or m (p + i) 0 ≡ get_or o i 0) (low : 48 ≤ p) (end : p + length o ≤ used) (off : touch p (length o) ≡ false) where
    pub object-stored : object_of (drop p m) ≡ object_of o
    unfolding object_of
    object-stored =
        let f : (w k : ℕ) → k + w ≤ 8 → le_at w (drop p m) k ≡ le_at w o k
        = λ w k l. le_at-cong w (drop p m) o k k (λ i r. rw (get_or-drop p m (k + i) 0) (stored (k + i) (omega (arith, g.exact)))) in
        let b : get_or (drop p m) 2 0 ≡ get_or o 2 0 = rw (get_or-drop p m 2 0) (stored 2 (omega (arith, g.exact))) in
        λ i. record { sym = f 2 0 (omega arith) i; kind = b i; items = f 2 4 (omega arith) i; texts = f 2 6 (omega arith) i }

    fits : header_fits (object_of o) v (slot_for v o p) ≡ true
    unfolding header_fits slot_for
    fits = rw (eq-eqb (object_of o).sym (object_of o).sym refl, g.kind) (eq-eqb (pairs_in o) (pairs_of v (len_of v (pairs_in o))) (sym (len-pairs v (pairs_in o))))

    pub slot_added_lem : GoodSlot touch m used v (slot_for v o p)
    unfolding slot_for
    slot_added_lem =
        let n : bytes_in v (len_of v (pairs_in o)) ≡ length o = len-bytes v (pairs_in o) ∙ sym g.exact in
        record {
          wide = rectangle-wide o bytes (object_of o).items;
          high = rectangle-high o bytes (object_of o).items;
          len = len-good v (pairs_in o) pairs-some g.few;
          low = low;
          end = rw n end;
          off = rw n off;
          fits = rw object-stored fits;
        }

-- ---- a block, zeroed but for slot 0

module _ (t : Slot) where
  tail : List ℕ
  tail = slot_bytes t ++ replicate 6120 0

  block-low : (i : ℕ) → i < 4 → get_or (block_for t) i 0 ≡ 0
  unfolding block_for
  block-low i l = get_or-append (replicate 4 0) (slot_bytes t ++ replicate 6120 0) 0 i l ∙ zeros 4 i

  block-tail : (k : ℕ) → get_or (block_for t) (4 + k) 0 ≡ get_or tail k 0
  unfolding block_for tail
  block-tail k = get_or-append-add (replicate 4 0) (slot_bytes t ++ replicate 6120 0) k 0

  block-slot : (k : ℕ) → k < 24 → get_or (block_for t) (4 + k) 0 ≡ get_or (slot_bytes t) k 0
  unfolding tail
  block-slot k l = block-tail k ∙ get_or-append (slot_bytes t) (replicate 6120 0) 0 k (omega (arith, length-slot_bytes t))

  block-rest : (k : ℕ) → get_or (block_for t) (4 + (24 + k)) 0 ≡ 0
  unfolding tail
  block-rest k =
      let e : 24 + k ≡ length (slot_bytes t) + k = omega (arith, length-slot_bytes t) in
      block-tail (24 + k) ∙ ap (λ (i : ℕ). get_or (slot_bytes t ++ replicate 6120 0) i 0) e ∙ get_or-append-add (slot_bytes t) (replicate 6120 0) k 0 ∙ zeros 6120 k

  pub block-full : length (block_for t) ≡ 6148
  unfolding block_for
  block-full = simp (length-append, length-replicate, length-slot_bytes)

  pub block-ends : u32_at (block_for t) 0 ≡ 0
  unfolding le_at
  block-ends = le_at-cong 4 (block_for t) (replicate 4 0) 0 0 (λ k l. rw zero-add (block-low k l ∙ sym (zeros 4 k)))

  pub block-first : SlotFits t → slot_of (block_for t) (4 + 24 * 0) ≡ t
  block-first f = slot-cong (block_for t) (slot_bytes t) 4 0 (λ k l. rw zero-add (block-slot k l)) ∙ slot-own t f

  pub block-others : (j : ℕ) → 1 ≤ j → (slot_of (block_for t) (4 + 24 * j)).len ≡ 0
  unfolding slot_of le_at
  block-others j l =
      le_at-cong 2 (block_for t) (replicate 2 0) (4 + 24 * j + 20) 0
      (λ k a.
      let e : 4 + 24 * j + 20 + k ≡ 4 + (24 + (24 * (j - 1) + 20 + k)) = omega arith in
      rw (e, zero-add) (block-rest (24 * (j - 1) + 20 + k) ∙ sym (zeros 2 k)))
