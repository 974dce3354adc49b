-- What a good slot and a good symbol record tell, and what shows them: a record with a field for each of document 01's conditions. Assumes nothing.
use Prim.Native.Nat.{ℕ, ◌+◌, ◌≤◌}
use mathlib.Core.Bool.{Bool, true, false, not, ◌&&◌}
use mathlib.Core.Path.{◌≡◌, refl, sym}
use mathlib.Core.List.{List}
use lib.Dec.{eqb}
use lib.ListN.{drop}
use lib.Signed.{le_z}
use borrow.Author.Tests.{not-true, not-false, eq-eqb, ne_eqb}
use Rattle.numbers.specs.Bytes.{u16_at, u32_at}
use Rattle.numbers.specs.Coordinates.{value_of}
use Rattle.numbers.proofs.Below.{never}
use Rattle.numbers.proofs.Ranges.{within-true, within-is}
use Rattle.slots.specs.declared.Slot.{Slot}
use Rattle.slots.specs.Slots.{slot_of, state_of, len_good, bytes_in}
use Rattle.slots.specs.Objects.{object_of}
use Rattle.records.specs.Symbols.{size_good}
use Rattle.chain.specs.Chains.{inside}
use Rattle.judge.specs.Judging.{header_fits, object_good, slot_good, is_live, bad_slot, symbol_good, bad_entry}

pub and-true : (a b : Bool) → a && b ≡ true → (a ≡ true) × (b ≡ true)
and-true true b e = (refl, e)
and-true false b e = absurd (never (sym e))

pub record GoodSlot (touch : ℕ → ℕ → Bool) (m : List ℕ) (used v : ℕ) (t : Slot) : Type 0 where
  pub wide : le_z (value_of t.left) (value_of t.right) ≡ true
  pub high : le_z (value_of t.bottom) (value_of t.top) ≡ true
  pub len : len_good v t.len ≡ true
  pub low : 48 ≤ t.position
  pub end : t.position + bytes_in v t.len ≤ used
  pub off : touch t.position (bytes_in v t.len) ≡ false
  pub fits : header_fits (object_of (drop t.position m)) v t ≡ true

module _ {touch : ℕ → ℕ → Bool} {m : List ℕ} {used v : ℕ} {t : Slot} where
  pub slot_is : GoodSlot touch m used v t → slot_good touch m used v t ≡ true
  unfolding slot_good object_good
  slot_is g = rw (g.wide, g.high, g.len, within-is 48 used (bytes_in v t.len) t.position g.low g.end, g.off) g.fits

pub slot-tells : (touch : ℕ → ℕ → Bool) (m : List ℕ) (used v : ℕ) (t : Slot) → slot_good touch m used v t ≡ true → GoodSlot touch m used v t
unfolding slot_good object_good
slot-tells touch m used v t e =
    let a = and-true (le_z (value_of t.left) (value_of t.right)) _ e in
    let b = and-true (le_z (value_of t.bottom) (value_of t.top)) _ a.1 in
    let c = and-true (len_good v t.len) _ b.1 in
    let d = and-true (inside used (bytes_in v t.len) t.position) _ c.1 in
    let f = and-true (not (touch t.position (bytes_in v t.len))) _ d.1 in
    let i = within-true 48 used (bytes_in v t.len) t.position d.0 in
    record {
      wide = a.0;
      high = b.0;
      len = c.0;
      low = i.0;
      end = i.1;
      off = not-true (touch t.position (bytes_in v t.len)) f.0;
      fits = f.1;
    }

-- a live slot that is not at fault is good, and back
module _ (touch : ℕ → ℕ → Bool) (m : List ℕ) (used v p : ℕ) where
  pub bad-tells : bad_slot touch m used v p ≡ false → is_live (state_of (slot_of m p)) ≡ true → GoodSlot touch m used v (slot_of m p)
  unfolding bad_slot
  bad-tells e l = slot-tells touch m used v (slot_of m p) (not-false (slot_good touch m used v (slot_of m p)) (rw l at e))

  pub bad-good : GoodSlot touch m used v (slot_of m p) → bad_slot touch m used v p ≡ false
  unfolding bad_slot
  bad-good g = rw (slot_is g) (go (is_live (state_of (slot_of m p))))
    where
      go : (b : Bool) → b && false ≡ false
      go true = refl
      go false = refl

  pub bad-dead : is_live (state_of (slot_of m p)) ≡ false → bad_slot touch m used v p ≡ false
  unfolding bad_slot
  bad-dead l = rw l

pub record GoodSymbol (touch : ℕ → ℕ → Bool) (m : List ℕ) (used q : ℕ) : Type 0 where
  pub low : 48 ≤ q
  pub start : q + 2 ≤ used
  pub size : size_good (u16_at m q) ≡ true
  pub end : q + u16_at m q ≤ used
  pub off : touch q (u16_at m q) ≡ false

module _ {touch : ℕ → ℕ → Bool} {m : List ℕ} {used q : ℕ} where
  pub symbol-is : GoodSymbol touch m used q → symbol_good touch m used q ≡ true
  unfolding symbol_good
  symbol-is g = rw (within-is 48 used 2 q g.low g.start, g.size, within-is 48 used (u16_at m q) q g.low g.end, g.off)

pub symbol-tells : (touch : ℕ → ℕ → Bool) (m : List ℕ) (used q : ℕ) → symbol_good touch m used q ≡ true → GoodSymbol touch m used q
unfolding symbol_good
symbol-tells touch m used q e =
    let a = and-true (inside used 2 q) _ e in
    let b = and-true (size_good (u16_at m q)) _ a.1 in
    let c = and-true (inside used (u16_at m q) q) _ b.1 in
    let i = within-true 48 used 2 q a.0 in
    record {
      low = i.0;
      start = i.1;
      size = b.0;
      end = (within-true 48 used (u16_at m q) q c.0).1;
      off = not-true (touch q (u16_at m q)) c.1;
    }

module _ (touch : ℕ → ℕ → Bool) (m : List ℕ) (used p : ℕ) where
  pub entry-tells : bad_entry touch m used p ≡ false → (u32_at m p ≡ 0 → ⊥) → GoodSymbol touch m used (u32_at m p)
  unfolding bad_entry
  entry-tells e ne = symbol-tells touch m used (u32_at m p) (not-false (symbol_good touch m used (u32_at m p)) (rw (ne_eqb (u32_at m p) 0 ne) at e))

  pub entry-good : GoodSymbol touch m used (u32_at m p) → bad_entry touch m used p ≡ false
  unfolding bad_entry
  entry-good g = rw (symbol-is g) (go (not (eqb (u32_at m p) 0)))
    where
      go : (b : Bool) → b && false ≡ false
      go true = refl
      go false = refl

  pub entry-unused : u32_at m p ≡ 0 → bad_entry touch m used p ≡ false
  unfolding bad_entry
  entry-unused e = rw (eq-eqb (u32_at m p) 0 e)
