-- Two buffers whose first `used` bytes are the same (`SameMap`): what is read there is the same, and so is, in both layouts, whether a symbol entry or a slot that
-- lies there is at fault (`Alike`). Assumes nothing.
use Prim.Native.Nat.{ℕ, ◌+◌, ◌*◌, ◌≤◌, ◌<◌}
use mathlib.Core.Bool.{Bool, true, false, not, ◌&&◌}
use mathlib.Core.Path.{◌≡◌, refl, sym, ap, ◌∙◌}
use mathlib.Core.Logic.{⊎_elim}
use mathlib.Core.List.{List}
use native.Mathlib.Omega.{arith}
use lib.ListN.{length, get_or, take, drop, length-drop}
use lib.Seq.{get_or-take, get_or-drop, ext_get_or, length-take-le}
use Rattle.numbers.specs.Bytes.{le_at, u32_at}
use Rattle.numbers.proofs.Bytes.{le_at-cong}
use Rattle.numbers.proofs.Coordinates.{lt-or-ge}
use Rattle.numbers.proofs.Ranges.{within-true}
use Rattle.records.specs.Headers.{header_of}
use Rattle.records.specs.Symbols.{size_good}
use Rattle.slots.specs.declared.Slot.{Slot}
use Rattle.slots.specs.declared.State.TheVariants.{Live}
use Rattle.slots.specs.Slots.{slot_of, state_of, same_state, len_good, bytes_in}
use Rattle.slots.specs.Objects.{object_of}
use Rattle.slots.proofs.Slots.{slot-cong}
use Rattle.chain.specs.Chains.{inside}
use Rattle.wide.specs.declared.WideSlot.{WideSlot}
use Rattle.wide.specs.Slots.{wide_slot_of, wide_live, wide_object_of, wide_object_good, wide_slot_good, wide_bad_slot}
use Rattle.wide.specs.Symbols.{wide_size_good, wide_symbol_good, wide_bad_entry}
use Rattle.wide.proofs.Slots as wides
use Rattle.judge.specs.Rules.{Family, narrow, wide, family_for}
use Rattle.judge.specs.Judging.{version_of, object_good, slot_good, bad_slot, symbol_good, bad_entry}
use Rattle.judge.proofs.Judging.{object-part, bytes-least}

-- the first `used` bytes of two buffers are the same, and both have them
pub record SameMap (used : ℕ) (m m' : List ℕ) : Type 0 where
  pub room : used ≤ length m
  pub room' : used ≤ length m'
  pub same : (i : ℕ) → i < used → get_or m' i 0 ≡ get_or m i 0

-- the tests of the layout f answer alike for what lies below the length; an index block has room for its slots, and a slot for its rectangle
pub record Alike (used : ℕ) (m m' : List ℕ) (f : Family) : Type 0 where
  pub taboo : (p : ℕ) → f.taboo m' p ≡ f.taboo m p
  pub entry : (touch : ℕ → ℕ → Bool) (p : ℕ) → p + 4 ≤ used → f.entry_at_fault touch m' used p ≡ f.entry_at_fault touch m used p
  pub slot : (touch : ℕ → ℕ → Bool) (p : ℕ) → p + f.slot ≤ used → f.slot_at_fault touch m' used p ≡ f.slot_at_fault touch m used p
  pub live : (p : ℕ) → p + f.slot ≤ used → f.live m' p ≡ f.live m p
  pub fits : 4 + 256 * f.slot ≤ f.block
  pub sides : 16 ≤ f.slot

module _ {used : ℕ} {m m' : List ℕ} (s : SameMap used m m') where
  -- ---- what is read below the length

  pub number_same : (w p : ℕ) → p + w ≤ used → le_at w m' p ≡ le_at w m p
  number_same w p l = le_at-cong w m' m p p (λ k h. s.same (p + k) (omega arith))

  pub part_same : (p k : ℕ) → p + k ≤ used → take k (drop p m') ≡ take k (drop p m)
  part_same p k h =
      let l' : length (take k (drop p m')) ≡ k = length-take-le k (drop p m') (rw length-drop (omega (arith, s.room'))) in
      let l : length (take k (drop p m)) ≡ k = length-take-le k (drop p m) (rw length-drop (omega (arith, s.room))) in
      ext_get_or 0 (take k (drop p m')) (take k (drop p m)) (l' ∙ sym l)
      (λ i g.
      let j : i < k = omega arith in
      rw (get_or-take k (drop p m') i 0 j, get_or-take k (drop p m) i 0 j, get_or-drop p m' i 0, get_or-drop p m i 0) (s.same (p + i) (omega arith)))

  pub version-alike : 48 ≤ used → version_of m' ≡ version_of m
  version-alike low = number_same 2 4 (omega arith)

  pub header_read : 48 ≤ used → header_of m' ≡ header_of m
  unfolding header_of
  header_read low =
      rw (
        number_same 2 0 (omega arith),
        number_same 2 2 (omega arith),
        s.same 2 (omega arith),
        number_same 2 4 (omega arith),
        number_same 4 16 (omega arith),
        number_same 4 20 (omega arith),
        number_same 4 24 (omega arith),
        number_same 4 28 (omega arith),
      )

  pub slot_read : (p : ℕ) → p + 24 ≤ used → slot_of m' p ≡ slot_of m p
  slot_read p l = slot-cong m' m p p (λ k h. s.same (p + k) (omega arith))

  pub wide-slot-read : (p : ℕ) → p + 40 ≤ used → wide_slot_of m' p ≡ wide_slot_of m p
  unfolding wide_slot_of
  wide-slot-read p l =
      rw (
        number_same 4 p (omega arith),
        number_same 4 (p + 4) (omega arith),
        number_same 4 (p + 8) (omega arith),
        number_same 4 (p + 12) (omega arith),
        number_same 4 (p + 16) (omega arith),
        number_same 4 (p + 20) (omega arith),
        number_same 4 (p + 24) (omega arith),
        s.same (p + 30) (omega arith),
      )

  object-read : (p : ℕ) → p + 32 ≤ used → object_of (drop p m') ≡ object_of (drop p m)
  object-read p l = sym (object-part m' p {k = 32} (omega arith)) ∙ ap object_of (part_same p 32 l) ∙ object-part m p {k = 32} (omega arith)

  wide-object-read : (p : ℕ) → p + 40 ≤ used → wide_object_of (drop p m') ≡ wide_object_of (drop p m)
  wide-object-read p l = sym (wides.object-part m' p {k = 40} (omega arith)) ∙ ap wide_object_of (part_same p 40 l) ∙ wides.object-part m p {k = 40} (omega arith)

  -- ---- whether a symbol entry is at fault

  -- a number at q is read only where it lies inside
  size-alike : (w q : ℕ) (good : ℕ → Bool) → inside used w q && good (le_at w m' q) ≡ inside used w q && good (le_at w m q)
  size-alike w q good = go (inside used w q) refl
    where
      go : (b : Bool) → inside used w q ≡ b → inside used w q && good (le_at w m' q) ≡ inside used w q && good (le_at w m q)
      go true e = rw (number_same w q (within-true 48 used w q e).1)
      go false e = rw e

  symbol-alike : (touch : ℕ → ℕ → Bool) (q : ℕ) → symbol_good touch m' used q ≡ symbol_good touch m used q
  unfolding symbol_good
  symbol-alike touch q = size-alike 2 q (λ n. size_good n && (inside used n q && not (touch q n)))

  wide-symbol-alike : (touch : ℕ → ℕ → Bool) (q : ℕ) → wide_symbol_good touch m' used q ≡ wide_symbol_good touch m used q
  unfolding wide_symbol_good
  wide-symbol-alike touch q = size-alike 4 q (λ n. wide_size_good n && (inside used n q && not (touch q n)))

  entry-alike : (touch : ℕ → ℕ → Bool) (p : ℕ) → p + 4 ≤ used → bad_entry touch m' used p ≡ bad_entry touch m used p
  unfolding bad_entry
  entry-alike touch p l = rw (number_same 4 p l, symbol-alike touch (u32_at m p))

  wide-entry-alike : (touch : ℕ → ℕ → Bool) (p : ℕ) → p + 4 ≤ used → wide_bad_entry touch m' used p ≡ wide_bad_entry touch m used p
  unfolding wide_bad_entry
  wide-entry-alike touch p l = rw (number_same 4 p l, wide-symbol-alike touch (u32_at m p))

  -- ---- whether a slot of 6 to 8 is at fault: its object's header is read only where the object lies inside

  object-alike : (touch : ℕ → ℕ → Bool) (v : ℕ) (t : Slot) → len_good v t.len ≡ true → object_good touch m' used v t ≡ object_good touch m used v t
  unfolding object_good
  object-alike touch v t g = go (inside used (bytes_in v t.len) t.position) refl
    where
      go : (b : Bool) → inside used (bytes_in v t.len) t.position ≡ b → object_good touch m' used v t ≡ object_good touch m used v t
      go true e =
          rw (object-read t.position (omega (arith, bytes-least v t.len g, (within-true 48 used (bytes_in v t.len) t.position e).1)))
      go false e = rw e

  good-alike : (touch : ℕ → ℕ → Bool) (v : ℕ) (t : Slot) → slot_good touch m' used v t ≡ slot_good touch m used v t
  unfolding slot_good
  good-alike touch v t = go (len_good v t.len) refl
    where
      go : (b : Bool) → len_good v t.len ≡ b → slot_good touch m' used v t ≡ slot_good touch m used v t
      go true e = rw (object-alike touch v t e)
      go false e = rw e

  slot-alike : (touch : ℕ → ℕ → Bool) (v p : ℕ) → p + 24 ≤ used → bad_slot touch m' used v p ≡ bad_slot touch m used v p
  unfolding bad_slot
  slot-alike touch v p l = rw (slot_read p l, good-alike touch v (slot_of m p))

  -- ---- and one of 9 to 11: a live slot's object has 40 bytes at least, so where they do not lie inside it is at fault whatever stands there

  wide-object-alike : (touch : ℕ → ℕ → Bool) (t : WideSlot) → (t.len ≡ 0 → ⊥) → wide_object_good touch m' used t ≡ wide_object_good touch m used t
  wide-object-alike touch t ne =
      ⊎_elim
      (λ l. wides.fits-short touch used t (wide_object_of (drop t.position m')) ne l ∙ sym (wides.fits-short touch used t (wide_object_of (drop t.position m)) ne l))
      (λ l. rw (wide-object-read t.position l))
      (lt-or-ge used (t.position + 40))

  wide-slot-alike : (touch : ℕ → ℕ → Bool) (p : ℕ) → p + 40 ≤ used → wide_bad_slot touch m' used p ≡ wide_bad_slot touch m used p
  unfolding wide_bad_slot wide_slot_good
  wide-slot-alike touch p l = rw (wide-slot-read p l) (go (wide_live (wide_slot_of m p)) refl)
    where
      go : (b : Bool) → wide_live (wide_slot_of m p) ≡ b
          → wide_live (wide_slot_of m p) && not (wide_slot_good touch m' used (wide_slot_of m p)) ≡ wide_live (wide_slot_of m p) && not (wide_slot_good touch m used (wide_slot_of m p))
      go true e = rw (wide-object-alike touch (wide_slot_of m p) (wides.live-len (wide_slot_of m p) e))
      go false e = rw e

  -- ---- so the tests of both layouts are alike

  narrow-alike : 48 ≤ used → Alike used m m' narrow
  narrow-alike low =
      record {
        taboo = λ p.
            rw (number_same 4 16 (omega arith), number_same 4 20 (omega arith), number_same 4 24 (omega arith), number_same 4 28 (omega arith));
        entry = entry-alike;
        slot = λ touch p l. rw (version-alike low) (slot-alike touch (version_of m) p l);
        live = λ p l. ap (λ (t : Slot). same_state Live (state_of t)) (slot_read p l);
        fits = omega arith;
        sides = omega arith;
      }

  wide-alike : Alike used m m' wide
  wide-alike =
      record {
        taboo = λ p. refl;
        entry = wide-entry-alike;
        slot = wide-slot-alike;
        live = λ p l. ap wide_live (wide-slot-read p l);
        fits = omega arith;
        sides = omega arith;
      }

  pub alike : 48 ≤ used → (b : Bool) → Alike used m m' (family_for b)
  alike low true = wide-alike
  alike low false = narrow-alike low
