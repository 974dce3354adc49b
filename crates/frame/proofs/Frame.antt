-- What a change of a map leaves. m becomes m', its length used becomes used' and its n index blocks n', so that (`Change`) the header keeps all but its index
-- link, every byte below used that lies in no index block is as it was, and index blocks are only added, past used. Then the symbol blocks, their entries and
-- every slot whose 24 bytes are as they were are judged as before, so the map is accepted as before. Assumes nothing.
use Prim.Native.Nat.{ℕ, suc, ◌+◌, ◌-◌, ◌*◌, ◌/◌, ◌≤◌, ◌<◌}
use mathlib.Core.Bool.{Bool, true, false, ◌||◌}
use mathlib.Core.Path.{◌≡◌, refl, sym, ◌∙◌}
use mathlib.Core.Logic.{◌⊎◌, inl, inr, ⊎_elim}
use mathlib.Core.List.{List}
use native.Mathlib.Decide.{ℕ_discrete}
use native.Mathlib.Omega.{arith}
use lib.Dec.{eqb}
use lib.ListN.{length, get_or, drop}
use lib.Seq.{get_or-drop}
use Rattle.numbers.specs.Bytes.{le_at, u16_at, u32_at}
use Rattle.numbers.specs.Below.{any}
use Rattle.numbers.specs.Ranges.{share}
use Rattle.numbers.proofs.Bytes.{le_at-cong}
use Rattle.numbers.proofs.Below.{any_none, any_false, any-true, any_at}
use Rattle.numbers.proofs.Ranges.{share_part, share-after, within-true, within-is}
use Rattle.numbers.proofs.Coordinates.{lt-or-ge}
use Rattle.slots.specs.declared.Slot.{Slot}
use Rattle.records.specs.declared.Part.{Part}
use Rattle.records.specs.Headers.{index_head, symbol_head, part_of}
use Rattle.slots.specs.Slots.{slot_of, state_of, bytes_in}
use Rattle.slots.specs.Objects.{object_of}
use Rattle.chain.specs.Chains.{place, block, meets_block, walked, inside}
use Rattle.std.specs.Prelude.{Ok}
use Rattle.chain.proofs.Chains.{Pass, walked-pass, walked_end, place-suc}
use Rattle.chain.proofs.Cells.{cell_lies}
use Rattle.chain.proofs.Frame.{Kept, less, cells-kept, walked-kept}
use Rattle.judge.specs.Rules.{index_rule, symbol_rule, touches, slot_at, entry_at}
use Rattle.judge.specs.Judging.{version_of, part_good, is_live, bad_slot, bad_entry}
use Rattle.judge.proofs.Judging.{size_two, bytes-least}
use Rattle.accept.proofs.Accepting.{Holds}
use Rattle.judge.proofs.Telling.{GoodSlot, GoodSymbol, bad-tells, bad-good, bad-dead, entry-tells, entry-good, entry-unused}

pub record Change (m m' : List ℕ) (used used' n n' : ℕ) : Type 0 where
  pub grown : used ≤ used'
  pub limit : used' ≤ 16777216
  pub room : used' ≤ length m'
  pub header : (i : ℕ) → i < 48 → (i < 12) ⊎ (16 ≤ i) → get_or m' i 0 ≡ get_or m i 0
  pub rest : (i : ℕ) → 48 ≤ i → i < used → touches m n i 1 ≡ false → get_or m' i 0 ≡ get_or m i 0
  pub index : walked (index_rule m') m' used' ≡ Ok n'
  pub upto : n ≤ n'
  pub blocks : (k : ℕ) → k < n → block index_head m' k ≡ block index_head m k
  pub new : (k : ℕ) → n ≤ k → k < n' → used ≤ block index_head m' k

-- setup or info, in a longer map
pub part-grown : (used used' : ℕ) (p : Part) → used ≤ used' → part_good used p ≡ true → part_good used' p ≡ true
unfolding part_good
part-grown used used' p l e = go (eqb p.size 0) refl e
  where
    go : (b : Bool) → eqb p.size 0 ≡ b → b || inside used p.size p.at ≡ true → eqb p.size 0 || inside used' p.size p.at ≡ true
    go true f g = rw f
    go false f g =
        let i = within-true 48 used p.size p.at g in
        rw f (within-is 48 used' p.size p.at i.0 (omega arith))

-- a byte of a range that no index block meets is in none itself
pub touch-part : (m : List ℕ) (n p len i j : ℕ) → touches m n p len ≡ false → p ≤ i → i + j ≤ p + len → touches m n i j ≡ false
unfolding meets_block
touch-part m n p len i j e l h =
    any_none (λ k. share (block 12 m k) 6148 i j) n
    (λ k g. share_part (block 12 m k) 6148 p len i j (any_false (λ k. share (block 12 m k) 6148 p len) n e k g) l h)

module _ {m m' : List ℕ} {used used' n n' : ℕ} (c : Change m m' used used' n n') where
  -- ---- what is read as before

  byte-same : (p len i : ℕ) → touches m n p len ≡ false → 48 ≤ p → p + len ≤ used → p ≤ i → i < p + len → get_or m' i 0 ≡ get_or m i 0
  byte-same p len i e low high a b = c.rest i (omega arith) (omega arith) (touch-part m n p len i 1 e a (omega arith))

  -- a field of w bytes inside a range that no index block meets
  pub field-same : (w p len q : ℕ) → touches m n p len ≡ false → 48 ≤ p → p + len ≤ used → p ≤ q → q + w ≤ p + len → le_at w m' q ≡ le_at w m q
  field-same w p len q e low high a b = le_at-cong w m' m q q (λ k h. byte-same p len (q + k) e low high (omega arith) (omega arith))

  -- a field of the header, behind its index link or before
  pub header-same : (w q : ℕ) → q + w ≤ 48 → (q + w ≤ 12) ⊎ (16 ≤ q) → le_at w m' q ≡ le_at w m q
  header-same w q h o =
      le_at-cong w m' m q q
      (λ k l. c.header (q + k) (omega arith) (⊎_elim (λ a. inl (omega arith)) (λ a. inr (omega arith)) o))

  -- the index blocks that meet a range below used
  pub touch-same : (p len : ℕ) → p + len ≤ used → touches m' n' p len ≡ touches m n p len
  unfolding meets_block
  touch-same p len h = go (any (λ k. share (block 12 m k) 6148 p len) n) refl
    where
      go : (b : Bool) → any (λ k. share (block 12 m k) 6148 p len) n ≡ b → any (λ k. share (block 12 m' k) 6148 p len) n' ≡ b
      go true e =
          let k = any-true (λ k. share (block 12 m k) 6148 p len) n e in
          any_at (λ k. share (block 12 m' k) 6148 p len) {i = k.0} n' (omega (arith, c.upto, k.1)) (rw (c.blocks k.0 k.1) k.2)
      go false e =
          any_none (λ k. share (block 12 m' k) 6148 p len) n'
          (λ k g.
          ⊎_elim
          (λ l. rw (c.blocks k l) (any_false (λ k. share (block 12 m k) 6148 p len) n e k l))
          (λ l. share-after (block 12 m' k) 6148 p len (omega (arith, c.new k l g)))
          (lt-or-ge k n))

  -- ---- the symbols

  module _ (h : Holds m used n) where
    pass : Pass (symbol_rule m n) m used h.symbols
    pass = walked-pass (symbol_rule m n) m used h.symbol

    symbol-links : Kept symbol_head m m' (h.symbols + 1)
    symbol-links = record { link = link' }
      where
        link' : (k : ℕ) → k < h.symbols + 1 → u32_at m' (place 8 m k) ≡ u32_at m (place 8 m k)
        link' k l =
            elim (ℕ_discrete k 0) [
              | yes e ↦ rw e (first)
              | no e ↦
                  let q : k ≡ suc (k - 1) = omega arith in
                  let d = pass.lies (k - 1) (omega arith) in
                  rw (q, place-suc 8 m (k - 1)) (field-same 4 (block 8 m (k - 1)) 1028 (block 8 m (k - 1)) d.allowed d.low d.high (omega arith) (omega arith))
            ]
          where
            first : u32_at m' (place 8 m 0) ≡ u32_at m (place 8 m 0)
            first = unfold place in header-same 4 8 (omega arith) (inl (omega arith))

    symbols-same : walked (symbol_rule m' n') m' used' ≡ Ok h.symbols
    unfolding block
    symbols-same =
        walked-kept
        (record {
          head = refl;
          size = refl;
          grown = c.grown;
          pass = pass;
          kept = less symbol-links h.symbols (omega arith);
          allowed = λ k l. let d = pass.lies k l in touch-same (block 8 m k) 1028 d.high ∙ d.allowed;
        })
        (omega arith)
        (symbol-links.link h.symbols (omega arith) ∙ walked_end (symbol_rule m n) m used h.symbol)

    entry-same : (e : ℕ) → e < 256 * h.symbols → bad_entry (touches m' n') m' used' (entry_at m' e) ≡ false
    entry-same e l =
        let y = cell_lies pass 4 (omega arith) e l in
        let d = pass.lies (e / 256) (omega arith) in
        let at : entry_at m' e ≡ entry_at m e = cells-kept (less symbol-links h.symbols (omega arith)) 4 e l in
        let v : u32_at m' (entry_at m e) ≡ u32_at m (entry_at m e)
        = field-same 4 (block 8 m (e / 256)) 1028 (entry_at m e) d.allowed d.low d.high (omega (arith, y.past-link)) (omega (arith, y.in-block)) in
        rw at
        (elim (ℕ_discrete (u32_at m (entry_at m e)) 0) [
          | yes z ↦ entry-unused (touches m' n') m' used' (entry_at m e) (v ∙ z)
          | no z ↦ entry-good (touches m' n') m' used' (entry_at m e) (rw v (symbol-same (entry-tells (touches m n) m used (entry_at m e) (h.entry e l) z)))
        ])
      where
        symbol-same : {q : ℕ} → GoodSymbol (touches m n) m used q → GoodSymbol (touches m' n') m' used' q
        symbol-same {q} g =
            let s : u16_at m' q ≡ u16_at m q = size_same g in
            record {
              low = g.low;
              start = omega (arith, g.start, c.grown);
              size = rw s g.size;
              end = omega (arith, s, g.end, c.grown);
              off = rw s (touch-same q (u16_at m q) g.end ∙ g.off);
            }
          where
            size_same : GoodSymbol (touches m n) m used q → u16_at m' q ≡ u16_at m q
            size_same g = field-same 2 q (u16_at m q) q g.off g.low g.end (omega arith) (omega (arith, size_two (u16_at m q) g.size))

  -- ---- the slots

  -- the header of an object that no index block meets
  pub object-same : (p len : ℕ) → touches m n p len ≡ false → 48 ≤ p → p + len ≤ used → 8 ≤ len → object_of (drop p m') ≡ object_of (drop p m)
  unfolding object_of
  object-same p len e low high l =
      let f : (w k : ℕ) → k + w ≤ 8 → le_at w (drop p m') k ≡ le_at w (drop p m) k
      = λ w k g. le_at-cong w (drop p m') (drop p m) k k (λ i r. rw (get_or-drop, get_or-drop) (byte-same p len (p + (k + i)) e low high (omega arith) (omega arith))) in
      let b : get_or (drop p m') 2 0 ≡ get_or (drop p m) 2 0 = rw (get_or-drop, get_or-drop) (byte-same p len (p + 2) e low high (omega arith) (omega arith)) in
      λ i. record { sym = f 2 0 (omega arith) i; kind = b i; items = f 2 4 (omega arith) i; texts = f 2 6 (omega arith) i }

  -- a slot that is good is good after the change
  pub good-kept : {v : ℕ} {t : Slot} → GoodSlot (touches m n) m used v t → GoodSlot (touches m' n') m' used' v t
  good-kept {v} {t} g =
      record {
        wide = g.wide;
        high = g.high;
        len = g.len;
        low = g.low;
        end = omega (arith, g.end, c.grown);
        off = touch-same t.position (bytes_in v t.len) g.end ∙ g.off;
        fits = rw (object-same t.position (bytes_in v t.len) g.off g.low g.end (omega (arith, bytes-least v t.len g.len))) g.fits;
      }

  pub version-same : version_of m' ≡ version_of m
  version-same = header-same 2 4 (omega arith) (inl (omega arith))

  -- a slot whose bytes are as they were is judged as before
  pub slot_kept : (s : ℕ) → slot_of m' (slot_at m' s) ≡ slot_of m (slot_at m s) → bad_slot (touches m n) m used (version_of m) (slot_at m s) ≡ false
      → bad_slot (touches m' n') m' used' (version_of m') (slot_at m' s) ≡ false
  slot_kept s e b = go (is_live (state_of (slot_of m (slot_at m s)))) refl
    where
      go : (l : Bool) → is_live (state_of (slot_of m (slot_at m s))) ≡ l → bad_slot (touches m' n') m' used' (version_of m') (slot_at m' s) ≡ false
      go true l =
          let g = bad-tells (touches m n) m used (version_of m) (slot_at m s) b l in
          bad-good (touches m' n') m' used' (version_of m') (slot_at m' s) (rw (e, version-same) (good-kept g))
      go false l = bad-dead (touches m' n') m' used' (version_of m') (slot_at m' s) (rw e l)

  -- ---- so the map is accepted as before, if each of its slots is judged good

  pub change-accepted : Holds m used n → ((s : ℕ) → s < 256 * n' → bad_slot (touches m' n') m' used' (version_of m') (slot_at m' s) ≡ false) → Holds m' used' n'
  change-accepted h slots =
      record {
        low = omega (arith, h.low, c.grown);
        limit = c.limit;
        room = c.room;
        mark = header-same 2 0 (omega arith) (inl (omega arith)) ∙ h.mark;
        pair = rw (version-same, header-same 2 2 (omega arith) (inl (omega arith))) h.pair;
        setup = part-kept 16 (omega arith) (omega arith) h.setup;
        info = part-kept 24 (omega arith) (omega arith) h.info;
        index = c.index;
        symbols = h.symbols;
        symbol = symbols-same h;
        entry = entry-same h;
        slot = slots;
      }
    where
      part-kept : (p : ℕ) → 16 ≤ p → p + 8 ≤ 48 → part_good used (part_of m p) ≡ true → part_good used' (part_of m' p) ≡ true
      part-kept p a b e = rw (header-same 4 p (omega arith) (inr a), header-same 4 (p + 4) (omega arith) (inr (omega arith))) (part-grown used used' (part_of m p) c.grown e)

-- a change that keeps the length and the number of index blocks can be undone
pub change-back : {m m' : List ℕ} {used n : ℕ} → Holds m used n → Change m m' used used n n → Change m' m used used n n
change-back {m} {m'} {used} {n} h c =
    record {
      grown = omega arith;
      limit = h.limit;
      room = h.room;
      header = λ i l o. sym (c.header i l o);
      rest = λ i a b e. sym (c.rest i a b (sym (touch-same c i 1 (omega arith)) ∙ e));
      index = h.index;
      upto = omega arith;
      blocks = λ k l. sym (c.blocks k l);
      new = λ k a b. absurd (impossible k a b);
    }
  where
    impossible : (k : ℕ) → n ≤ k → k < n → ⊥
    impossible k a b = omega arith

-- two changes, one after the other
pub change-trans : {m m₁ m₂ : List ℕ} {used used₁ used₂ n n₂ : ℕ} → Change m m₁ used used₁ n n → Change m₁ m₂ used₁ used₂ n n₂ → Change m m₂ used used₂ n n₂
change-trans {m} {m₁} {m₂} {used} {used₁} {used₂} {n} {n₂} a b =
    record {
      grown = omega (arith, a.grown, b.grown);
      limit = b.limit;
      room = b.room;
      header = λ i l o. b.header i l o ∙ a.header i l o;
      rest = λ i l r e. b.rest i l (omega (arith, a.grown)) (touch-same a i 1 (omega arith) ∙ e) ∙ a.rest i l r e;
      index = b.index;
      upto = b.upto;
      blocks = λ k l. b.blocks k l ∙ a.blocks k l;
      new = λ k l r. omega (arith, a.grown, b.new k l r);
    }
