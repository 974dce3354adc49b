-- The laws of a slot's object: its header, its bytes, and where it does not fit; and what a slot at fault is. Assumes nothing.
use Prim.Native.Nat.{ℕ, ◌+◌, ◌-◌, ◌*◌, ◌≤◌, ◌<◌}
use mathlib.Core.Bool.{Bool, true, false, not, cond, and-false}
use mathlib.Core.Path.{◌≡◌, refl, sym, ◌∙◌}
use mathlib.Core.List.{List}
use native.Mathlib.Omega.{arith}
use lib.Dec.{eqb}
use lib.ListN.{take, drop, length}
use lib.Seq.{get_or-take}
use borrow.Author.Tests.{eqb-true, eqb-false}
use Rattle.numbers.specs.Bytes.{le_at}
use Rattle.numbers.proofs.Bytes.{le_at-part, le_at-drop}
use Rattle.numbers.proofs.Ranges.{within-high}
use Rattle.wide.specs.declared.WideSlot.{WideSlot}
use Rattle.wide.specs.declared.WideObject.{WideObject}
use Rattle.numbers.proofs.Below.{never}
use Rattle.wide.specs.Slots.{wide_slot_of, wide_live, wide_object_of, wide_bytes, bytes_by, wide_header_fits, wide_fits, wide_slot_good, wide_bad_slot}

-- an object's header, read in a part that has it
pub object-part : (m : List ℕ) (p : ℕ) {k : ℕ} → 40 ≤ k → wide_object_of (take k (drop p m)) ≡ wide_object_of (drop p m)
unfolding wide_object_of
object-part m p {k} h =
    let field : (n j : ℕ) → j + n ≤ k → le_at n (take k (drop p m)) j ≡ le_at n (drop p m) j = λ n j l. le_at-part n m p k j l ∙ sym (le_at-drop n m p j) in
    λ i.
    record {
      sym = field 4 0 (omega arith) i;
      kind = get_or-take k (drop p m) 4 0 (omega arith) i;
      items = field 4 8 (omega arith) i;
      texts = field 2 12 (omega arith) i;
    }

-- as the code reads it, in the part that starts there
pub object_in : (m : List ℕ) (p : ℕ) {h : WideObject} → h ≡ wide_object_of (take (length m - p) (drop p m)) → p + 40 ≤ length m → h ≡ wide_object_of (drop p m)
object_in m p e l = e ∙ object-part m p (omega arith)

-- an object has 40 bytes at least, in both meanings of Len
pub bytes-least : (len k : ℕ) → (len ≡ 0 → ⊥) → (wide_bytes len k ≡ 0 → ⊥) → 40 ≤ wide_bytes len k
unfolding wide_bytes
bytes-least len k ne nz = go (eqb len (40 + 8 * k)) refl (eqb len k) refl nz
  where
    some : (n : ℕ) → (n ≡ 0 → ⊥) → 1 ≤ n
    some n h = omega arith

    go : (a : Bool) → eqb len (40 + 8 * k) ≡ a → (b : Bool) → eqb len k ≡ b
        → (cond a len (cond b (32 + 8 * len) 0) ≡ 0 → ⊥) → 40 ≤ cond a len (cond b (32 + 8 * len) 0)
    go true p b q z = omega (arith, eqb-true len (40 + 8 * k) p)
    go false p true q z = omega (arith, some len ne)
    go false p false q z = absurd (z refl)

-- and never more than a header and Len pairs have
pub bytes_most : (len k : ℕ) → wide_bytes len k ≤ 32 + 8 * len
unfolding wide_bytes
bytes_most len k = go (eqb len (40 + 8 * k)) (eqb len k)
  where
    go : (a b : Bool) → cond a len (cond b (32 + 8 * len) 0) ≤ 32 + 8 * len
    go true b = omega arith
    go false true = omega arith
    go false false = omega arith

module _ (touch : ℕ → ℕ → Bool) (used : ℕ) (t : WideSlot) (h : WideObject) where
  pub fits-past : used < t.position + bytes_by t h → wide_fits touch used t h ≡ false
  unfolding wide_fits
  fits-past l = rw (within-high 48 used (bytes_by t h) t.position l, and-false)

  pub fits-none : bytes_by t h ≡ 0 → wide_fits touch used t h ≡ false
  unfolding wide_fits wide_header_fits
  fits-none e = rw (e, and-false, and-false)

  -- a map that has not 40 bytes from the position on
  pub fits-short : (t.len ≡ 0 → ⊥) → used < t.position + 40 → wide_fits touch used t h ≡ false
  fits-short ne l = go (eqb (bytes_by t h) 0) refl
    where
      go : (b : Bool) → eqb (bytes_by t h) 0 ≡ b → wide_fits touch used t h ≡ false
      go true e = fits-none (eqb-true (bytes_by t h) 0 e)
      go false e = let n = bytes-least t.len (h.items + h.texts) ne (eqb-false (bytes_by t h) 0 e) in fits-past (omega arith)

-- ---- at fault: live and not good

module _ (touch : ℕ → ℕ → Bool) (m : List ℕ) (used p : ℕ) {t : WideSlot} (e : t ≡ wide_slot_of m p) where
  pub bad-dead : wide_live t ≡ false → wide_bad_slot touch m used p ≡ false
  unfolding wide_bad_slot
  bad-dead d = rw (← e, d)

  pub bad-live : wide_live t ≡ true → wide_bad_slot touch m used p ≡ not (wide_slot_good touch m used t)
  unfolding wide_bad_slot
  bad-live l = rw (← e, l)

-- a live slot has a Len
pub live-len : (t : WideSlot) → wide_live t ≡ true → t.len ≡ 0 → ⊥
unfolding wide_live
live-len t l z = never (sym (rw (z, and-false) at l))

-- what the two tests of a slot go by
pub ruleset object_laws = (object_in, bytes-least, bytes_most)

pub ruleset fault_laws = (bad-dead, bad-live, live-len)
