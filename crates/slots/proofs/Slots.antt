-- The laws of slots: what is written is read back, what lies elsewhere stays, and what a Len that is allowed tells. Assumes nothing.
use mathlib.Core.Path.{◌≡◌, refl, sym, ◌∙◌}
use mathlib.Core.Bool.{Bool, true, false, ◌&&◌}
use mathlib.Core.List.{List, [], ◌++◌}
use Prim.Native.Nat.{ℕ, ◌+◌, ◌-◌, ◌%◌, ◌≤◌, ◌<◌, ◌^◌}
use native.Mathlib.Nat.{add-zero, zero-add, add_assoc}
use native.Mathlib.Omega.{arith}
use lib.Dec.{eqb, leb}
use lib.ListN.{length, get_or}
use lib.Seq.{sets}
use borrow.Author.Tests.{ne_eqb, leb-true}
use Rattle.numbers.specs.Bytes.{le_at, bytes_of, Bytes}
use Rattle.numbers.proofs.Bytes.{le_at-cong, le_at-field, le_at-lt, get_or-sets-in}
use Rattle.numbers.proofs.Below.{never}
use Rattle.slots.specs.declared.Slot.{Slot}
use Rattle.slots.specs.Slots.{slot_of, slot_bytes, len_good}

-- a Len that 6 or 7 allows has room for the header and a pair
pub len-room : (v len : ℕ) → len_good v len ≡ true → (v ≡ 8 → ⊥) → 40 ≤ len
unfolding len_good
len-room v len e ne = go (leb 40 len) refl (rw (ne_eqb v 8 ne) at e)
  where
    go : (b : Bool) → leb 40 len ≡ b → b && eqb ((len - 32) % 8) 0 ≡ true → 40 ≤ len
    go true f g = leb-true 40 len f
    go false f g = absurd (never (sym g))

-- each field is a number of its width
pub record SlotFits (t : Slot) : Type 0 where
  pub left : t.left < 2 ^ 32
  pub bottom : t.bottom < 2 ^ 32
  pub right : t.right < 2 ^ 32
  pub top : t.top < 2 ^ 32
  pub position : t.position < 2 ^ 32
  pub len : t.len < 2 ^ 16
  pub sym : t.sym < 2 ^ 16

pub slot-fits : (m : List ℕ) (p : ℕ) → Bytes m → SlotFits (slot_of m p)
unfolding slot_of
slot-fits m p b =
    record {
      left = le_at-lt 4 m p b;
      bottom = le_at-lt 4 m (p + 4) b;
      right = le_at-lt 4 m (p + 8) b;
      top = le_at-lt 4 m (p + 12) b;
      position = le_at-lt 4 m (p + 16) b;
      len = le_at-lt 2 m (p + 20) b;
      sym = le_at-lt 2 m (p + 22) b;
    }

pub length-slot_bytes : (t : Slot) → length (slot_bytes t) ≡ 24
unfolding slot_bytes bytes_of
length-slot_bytes t = refl

-- two slots are equal when their fields are
pub slot-ext : (t u : Slot) → t.left ≡ u.left → t.bottom ≡ u.bottom → t.right ≡ u.right → t.top ≡ u.top
    → t.position ≡ u.position → t.len ≡ u.len → t.sym ≡ u.sym → t ≡ u
slot-ext t u a b c d e f g =
    λ i. record { left = a i; bottom = b i; right = c i; top = d i; position = e i; len = f i; sym = g i }

-- a slot depends on its 24 bytes alone
pub slot-cong : (xs ys : List ℕ) (a b : ℕ) → ((k : ℕ) → k < 24 → get_or xs (a + k) 0 ≡ get_or ys (b + k) 0) → slot_of xs a ≡ slot_of ys b
unfolding slot_of
slot-cong xs ys a b h =
    let go : (n j : ℕ) → j + n ≤ 24 → le_at n xs (a + j) ≡ le_at n ys (b + j)
    = λ n j l. le_at-cong n xs ys (a + j) (b + j) (λ k hk. rw (add_assoc a j k, add_assoc b j k) (h (j + k) (omega arith))) in
    let lowest : le_at 4 xs a ≡ le_at 4 ys b = rw (add-zero a, add-zero b) at (go 4 0 (omega arith)) in
    slot-ext (slot_of xs a) (slot_of ys b) lowest (go 4 4 (omega arith)) (go 4 8 (omega arith)) (go 4 12 (omega arith)) (go 4 16 (omega arith))
    (go 2 20 (omega arith)) (go 2 22 (omega arith))

-- the slot of the 24 bytes
pub slot-own : (t : Slot) → SlotFits t → slot_of (slot_bytes t) 0 ≡ t
unfolding slot_of slot_bytes bytes_of
slot-own t f =
    let p1 : List ℕ = bytes_of 4 t.left in
    let p2 : List ℕ = p1 ++ bytes_of 4 t.bottom in
    let p3 : List ℕ = p2 ++ bytes_of 4 t.right in
    let p4 : List ℕ = p3 ++ bytes_of 4 t.top in
    let p5 : List ℕ = p4 ++ bytes_of 4 t.position in
    let p6 : List ℕ = p5 ++ bytes_of 2 t.len in
    let e0 : le_at 4 (slot_bytes t) 0 ≡ t.left = le_at-field 4 t.left [] _ f.left in
    let e1 : le_at 4 (slot_bytes t) 4 ≡ t.bottom = le_at-field 4 t.bottom p1 _ f.bottom in
    let e2 : le_at 4 (slot_bytes t) 8 ≡ t.right = le_at-field 4 t.right p2 _ f.right in
    let e3 : le_at 4 (slot_bytes t) 12 ≡ t.top = le_at-field 4 t.top p3 _ f.top in
    let e4 : le_at 4 (slot_bytes t) 16 ≡ t.position = le_at-field 4 t.position p4 _ f.position in
    let e5 : le_at 2 (slot_bytes t) 20 ≡ t.len = le_at-field 2 t.len p5 _ f.len in
    let e6 : le_at 2 (slot_bytes t) 22 ≡ t.sym = le_at-field 2 t.sym p6 [] f.sym in
    slot-ext (slot_of (slot_bytes t) 0) t e0 e1 e2 e3 e4 e5 e6

-- what is written is read back
pub slot-back : (t : Slot) (xs : List ℕ) (at : ℕ) → SlotFits t → at + 24 ≤ length xs → slot_of (sets xs at (slot_bytes t)) at ≡ t
slot-back t xs at f h =
    let l : length (slot_bytes t) ≡ 24 = length-slot_bytes t in
    slot-cong (sets xs at (slot_bytes t)) (slot_bytes t) at 0
    (λ k hk. rw zero-add (get_or-sets-in (slot_bytes t) xs at k (omega arith) (omega arith)))
    ∙ slot-own t f
