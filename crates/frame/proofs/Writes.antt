-- Where the links and the slots of an accepted map lie, and two kinds of write as changes of it: a run of stores inside one slot (`store-change`), and one past
-- the map's end (`grow-change`). What each leaves of the slots is said beside it. The third kind is in `NewBlock`. Assumes nothing.
use Prim.Native.Nat.{ℕ, zero, suc, ◌+◌, ◌*◌, ◌/◌, ◌≤◌, ◌<◌}
use mathlib.Core.Bool.{false}
use mathlib.Core.Path.{◌≡◌, refl, ◌∙◌}
use mathlib.Core.Logic.{◌⊎◌, inl, inr, ⊎_elim}
use mathlib.Core.List.{List}
use native.Mathlib.Decide.{dec_le}
use native.Mathlib.Nat.{lt_of_not-le}
use native.Mathlib.Omega.{arith}
use lib.ListN.{length, get_or}
use lib.Seq.{sets, length-sets}
use Rattle.numbers.specs.Bytes.{u32_at}
use Rattle.numbers.specs.Ranges.{share}
use Rattle.numbers.proofs.Bytes.{le_at-cong, get_or-sets-low, get_or-sets-high}
use Rattle.numbers.proofs.Below.{any_false}
use Rattle.numbers.proofs.Ranges.{share-no}
use Rattle.records.specs.Headers.{index_head}
use Rattle.slots.specs.Slots.{slot_of}
use Rattle.slots.proofs.Slots.{slot-cong}
use Rattle.chain.specs.Chains.{place, block, meets_block, walked}
use Rattle.std.specs.Prelude.{Ok}
use Rattle.chain.proofs.Chains.{Pass, walked-pass, walked_end}
use Rattle.chain.proofs.Cells.{Lies, cell_lies, cells-apart}
use Rattle.chain.proofs.Frame.{Kept, less, places-kept, blocks-kept, cells-kept, store_kept, walked-kept}
use Rattle.judge.specs.Rules.{index_rule, touches, slot_at}
use Rattle.accept.proofs.Accepting.{Holds}
use Rattle.frame.proofs.Frame.{Change}

module _ {m : List ℕ} {used n : ℕ} (h : Holds m used n) where
  pub pass_of : Pass (index_rule m) m used n
  pass_of = walked-pass (index_rule m) m used h.index

  pub slot-lies : (s : ℕ) → s < 256 * n → Lies (index_rule m) m used 24 s
  slot-lies s l = cell_lies pass_of 24 (omega arith) s l

  -- every link lies below the end
  pub link-low : (k : ℕ) → k ≤ n → place 12 m k + 4 ≤ used
  unfolding place
  link-low zero l = omega (arith, h.low)
  link-low (suc k) l = unfold block in omega (arith, (pass_of.lies k l).high)

  -- a map whose header and links read the same has the same index blocks
  pub index_kept : (m' : List ℕ) (used' : ℕ) → used ≤ used' → ((i : ℕ) → 16 ≤ i → i < 48 → get_or m' i 0 ≡ get_or m i 0) → Kept index_head m m' (n + 1)
      → walked (index_rule m') m' used' ≡ Ok n
  index_kept m' used' g same kept =
      walked-kept
      (record {
        head = refl;
        size = refl;
        grown = g;
        pass = pass_of;
        kept = less kept n (omega arith);
        allowed = λ k l.
            rw (word 16 (omega arith) (omega arith), word 20 (omega arith) (omega arith), word 24 (omega arith) (omega arith), word 28 (omega arith) (omega arith))
            (pass_of.lies k l).allowed;
      })
      (omega arith)
      (kept.link n (omega arith) ∙ (unfold block in walked_end (index_rule m) m used h.index))
    where
      word : (p : ℕ) → 16 ≤ p → p + 4 ≤ 48 → u32_at m' p ≡ u32_at m p
      word p a b = le_at-cong 4 m' m p p (λ k l. same (p + k) (omega arith) (omega arith))

  -- a byte in no index block lies before or behind each, and so off each slot
  pub off-block : (i k : ℕ) → touches m n i 1 ≡ false → k < n → (i < block 12 m k) ⊎ (block 12 m k + 6148 ≤ i)
  unfolding meets_block
  off-block i k e l =
      let free = any_false (λ k. share (block 12 m k) 6148 i 1) n e k l in
      elim (dec_le (block 12 m k) i) [
        | no a ↦ inl (lt_of_not-le a)
        | yes a ↦
            elim (dec_le (block 12 m k + 6148) i) [
              | yes b ↦ inr b
              | no b ↦ absurd (share-no free (omega arith) (omega arith) (omega (arith, a)) (omega (arith, lt_of_not-le b)))
            ]
      ]

  outside : (i s : ℕ) → touches m n i 1 ≡ false → s < 256 * n → (i < slot_at m s) ⊎ (slot_at m s + 24 ≤ i)
  outside i s e l =
      let y = slot-lies s l in
      ⊎_elim (λ a. inl (omega (arith, y.past-link))) (λ a. inr (omega (arith, y.in-block))) (off-block i (s / 256) e (omega arith))

  -- ---- a run of stores inside slot s

  module _ (s : ℕ) (l : s < 256 * n) (vs : List ℕ) (at : ℕ) (low : slot_at m s ≤ at) (high : at + length vs ≤ slot_at m s + 24) where
    store-links : Kept index_head m (sets m at vs) (n + 1)
    store-links = store_kept pass_of 24 (omega arith) (omega arith) s l vs at low high

    store_byte : (i : ℕ) → (i < at) ⊎ (at + length vs ≤ i) → get_or (sets m at vs) i 0 ≡ get_or m i 0
    store_byte i o = ⊎_elim (λ a. get_or-sets-low vs m at i a) (λ a. get_or-sets-high vs m at i a) o

    pub store-change : Change m (sets m at vs) used used n n
    store-change =
        let y = slot-lies s l in
        record {
          grown = omega arith;
          limit = h.limit;
          room = rw (length-sets m at vs) h.room;
          header = λ i a o. store_byte i (inl (omega (arith, y.low)));
          rest = λ i a b e. store_byte i (⊎_elim (λ x. inl (omega arith)) (λ x. inr (omega arith)) (outside i s e l));
          index = index_kept (sets m at vs) used (omega arith) (λ i a b. store_byte i (inl (omega (arith, y.low)))) store-links;
          upto = omega arith;
          blocks = blocks-kept (less store-links n (omega arith));
          new = λ k a b. absurd (impossible k a b);
        }
      where
        impossible : (k : ℕ) → n ≤ k → k < n → ⊥
        impossible k a b = omega arith

    -- the slots stand where they stood, and every other one has the same bytes
    pub store-place : (d : ℕ) → d < 256 * n → slot_at (sets m at vs) d ≡ slot_at m d
    store-place d g = cells-kept (less store-links n (omega arith)) 24 d g

    pub store_other : (d : ℕ) → d < 256 * n → (d ≡ s → ⊥) → slot_of (sets m at vs) (slot_at (sets m at vs) d) ≡ slot_of m (slot_at m d)
    store_other d g ne =
        rw (store-place d g)
        (slot-cong (sets m at vs) m (slot_at m d) (slot_at m d)
        (λ k a.
        store_byte (slot_at m d + k)
        (⊎_elim (λ x. inl (omega arith)) (λ x. inr (omega arith)) (cells-apart pass_of 24 (omega arith) d s g l ne))))

  -- ---- a run of stores past the end

  module _ (vs : List ℕ) (at used' : ℕ) (past : used ≤ at) (grown : used ≤ used') (limit : used' ≤ 16777216) (room : used' ≤ length m) where
    grow-byte : (i : ℕ) → i < used → get_or (sets m at vs) i 0 ≡ get_or m i 0
    grow-byte i l = get_or-sets-low vs m at i (omega arith)

    grow-links : Kept index_head m (sets m at vs) (n + 1)
    grow-links =
        record {
          link = λ k l. le_at-cong 4 (sets m at vs) m (place 12 m k) (place 12 m k) (λ j a. grow-byte (place 12 m k + j) (omega (arith, link-low k (omega arith))));
        }

    pub grow-change : Change m (sets m at vs) used used' n n
    grow-change =
        record {
          grown = grown;
          limit = limit;
          room = rw (length-sets m at vs) room;
          header = λ i a o. grow-byte i (omega (arith, h.low));
          rest = λ i a b e. grow-byte i b;
          index = index_kept (sets m at vs) used' grown (λ i a b. grow-byte i (omega (arith, h.low))) grow-links;
          upto = omega arith;
          blocks = blocks-kept (less grow-links n (omega arith));
          new = λ k a b. absurd (impossible k a b);
        }
      where
        impossible : (k : ℕ) → n ≤ k → k < n → ⊥
        impossible k a b = omega arith

    pub grow-place : (d : ℕ) → d < 256 * n → slot_at (sets m at vs) d ≡ slot_at m d
    grow-place d g = cells-kept (less grow-links n (omega arith)) 24 d g

    pub grow-link : (k : ℕ) → k ≤ n → place 12 (sets m at vs) k ≡ place 12 m k
    grow-link k l = places-kept (less grow-links n (omega arith)) k l

    pub grow-slot : (d : ℕ) → d < 256 * n → slot_of (sets m at vs) (slot_at (sets m at vs) d) ≡ slot_of m (slot_at m d)
    grow-slot d g =
        rw (grow-place d g)
        (slot-cong (sets m at vs) m (slot_at m d) (slot_at m d) (λ k a. grow-byte (slot_at m d + k) (omega (arith, (slot-lies d g).high))))
