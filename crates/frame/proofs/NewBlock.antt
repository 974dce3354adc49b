-- The third kind of write, as a change of an accepted map: a new index block at the end, to which the last link points (`block-change`). What it leaves of the
-- slots, and what slots it brings, is said beside it. Assumes nothing.
use Prim.Native.Nat.{ℕ, zero, suc, ◌+◌, ◌*◌, ◌≤◌, ◌<◌}
use mathlib.Core.Bool.{Bool, true, false, ◌||◌}
use mathlib.Core.Path.{◌≡◌, refl, ◌∙◌}
use mathlib.Core.Logic.{◌⊎◌, inl, inr, ⊎_elim}
use mathlib.Core.List.{List}
use native.Mathlib.Nat.{zero-add}
use native.Mathlib.Omega.{arith}
use lib.Dec.{eqb}
use lib.ListN.{length, get_or}
use borrow.Author.Tests.{eqb-true}
use lib.Seq.{sets, length-sets}
use Rattle.numbers.specs.Bytes.{u32_at, bytes_of}
use Rattle.numbers.specs.Ranges.{share}
use Rattle.numbers.proofs.Bytes.{le_at-cong, le_at-bytes_of, length-bytes_of, get_or-sets-low, get_or-sets-high, get_or-sets-in}
use Rattle.numbers.proofs.Ranges.{share-none, share-before, within-true}
use Rattle.records.specs.declared.Part.{Part}
use Rattle.records.specs.Headers.{index_head, part_of}
use Rattle.slots.specs.Slots.{slot_of}
use Rattle.slots.proofs.Slots.{slot-cong}
use Rattle.chain.specs.Chains.{place, block, inside}
use Rattle.chain.specs.Cells.{cell_in}
use Rattle.chain.proofs.Chains.{place-suc, apart}
use Rattle.chain.proofs.Cells.{links-apart, cell-no}
use Rattle.chain.proofs.Frame.{Kept, blocks-kept, cells-kept, Added, walked-added, added-block}
use Rattle.judge.specs.Rules.{index_rule, touches, slot_at}
use Rattle.judge.specs.Judging.{part_good}
use Rattle.accept.proofs.Accepting.{Holds}
use Rattle.frame.proofs.Frame.{Change}
use Rattle.frame.proofs.Writes.{pass_of, slot-lies, link-low, off-block}

module _ {m : List ℕ} {used n : ℕ} (h : Holds m used n) where
  -- a link stands in the header, or at the start of an index block
  link-kinds : (k : ℕ) → k ≤ n → ((k ≡ 0) × (place 12 m k ≡ 12)) ⊎ ((i : ℕ) × (suc i ≡ k) × (place 12 m k ≡ block 12 m i))
  link-kinds zero l = inl (refl, unfold place in refl)
  link-kinds (suc k) l = inr (k, refl, place-suc 12 m k)

  -- setup or info lies below the end, so no block past it meets it
  part_off : (p : Part) (q len : ℕ) → part_good used p ≡ true → used ≤ q → share p.at p.size q len ≡ false
  unfolding part_good
  part_off p q len e l = go (eqb p.size 0) refl e
    where
      go : (b : Bool) → eqb p.size 0 ≡ b → b || inside used p.size p.at ≡ true → share p.at p.size q len ≡ false
      go true f g = rw (eqb-true p.size 0 f) (share-none p.at q len)
      go false f g = share-before p.at p.size q len (omega (arith, (within-true 48 used p.size p.at g).1))

  module _ (bs : List ℕ) (full : length bs ≡ 6148) (ends : u32_at bs 0 ≡ 0) (limit : used + 6148 ≤ 16777216) (room : used + 6148 ≤ length m) where
    q : ℕ
    q = place 12 m n

    m₁ : List ℕ
    m₁ = sets m used bs

    m₂ : List ℕ
    m₂ = sets m₁ q (bytes_of 4 used)

    long₁ : length m₁ ≡ length m
    unfolding m₁
    long₁ = length-sets m used bs

    q-low : q + 4 ≤ used
    unfolding q
    q-low = link-low h n (omega arith)

    link-bytes : length (bytes_of 4 used) ≡ 4
    link-bytes = length-bytes_of 4 used

    -- a byte below the end and off the last link is as it was
    low_byte : (i : ℕ) → i < used → (i < q) ⊎ (q + 4 ≤ i) → get_or m₂ i 0 ≡ get_or m i 0
    unfolding m₁ m₂
    low_byte i l o =
        ⊎_elim (λ a. get_or-sets-low (bytes_of 4 used) m₁ q i a) (λ a. get_or-sets-high (bytes_of 4 used) m₁ q i (omega (arith, link-bytes))) o
        ∙ get_or-sets-low bs m used i l

    -- a byte of the block is that of the block
    block-byte : (k : ℕ) → k < 6148 → get_or m₂ (used + k) 0 ≡ get_or bs k 0
    unfolding m₁ m₂
    block-byte k l =
        get_or-sets-high (bytes_of 4 used) m₁ q (used + k) (omega (arith, link-bytes, q-low))
        ∙ get_or-sets-in bs m used k (omega arith) (omega arith)

    -- the last link is off every earlier one, and off every slot
    links-off : (k : ℕ) → k < n → (place 12 m k + 4 ≤ q) ⊎ (q + 4 ≤ place 12 m k)
    unfolding q
    links-off k l =
        ⊎_elim
        (λ e. absurd (never_first e.0))
        (λ b.
        ⊎_elim
        (λ f. inl (omega (arith, f.1, b.2, ((pass_of h).lies b.0 (omega (arith, b.1))).low)))
        (λ a.
        ⊎_elim
        (λ x. inl (omega (arith, a.2, b.2)))
        (λ x. inr (omega (arith, a.2, b.2)))
        (apart (pass_of h) a.0 b.0 (omega (arith, a.1)) (omega (arith, b.1)) (λ e. omega (arith, a.1, b.1))))
        (link-kinds k (omega arith)))
        (link-kinds n (omega arith))
      where
        never_first : n ≡ 0 → ⊥
        never_first e = omega arith

    slots-off : (d : ℕ) → d < 256 * n → (slot_at m d + 24 ≤ q) ⊎ (q + 4 ≤ slot_at m d)
    unfolding q
    slots-off d l = ⊎_elim (λ x. inr x) (λ x. inl x) (links-apart (pass_of h) 24 (omega arith) (omega arith) n d (omega arith) l)

    block-links : Kept index_head m m₂ n
    block-links =
        record {
          link = λ k l.
              le_at-cong 4 m₂ m (place 12 m k) (place 12 m k)
              (λ j a.
              low_byte (place 12 m k + j) (omega (arith, link-low h k (omega arith)))
              (⊎_elim (λ x. inl (omega arith)) (λ x. inr (omega arith)) (links-off k l)));
        }

    header-byte : (i : ℕ) → i < 48 → (i < 12) ⊎ (16 ≤ i) → get_or m₂ i 0 ≡ get_or m i 0
    unfolding q
    header-byte i l o =
        low_byte i (omega (arith, h.low))
        (⊎_elim
        (λ f. ⊎_elim (λ a. inl (omega (arith, f.1))) (λ a. inr (omega (arith, f.1))) o)
        (λ b. inl (omega (arith, b.2, ((pass_of h).lies b.0 (omega (arith, b.1))).low)))
        (link-kinds n (omega arith)))

    part_same : (p : ℕ) → 16 ≤ p → p + 4 ≤ 48 → u32_at m₂ p ≡ u32_at m p
    part_same p a b = le_at-cong 4 m₂ m p p (λ k l. header-byte (p + k) (omega arith) (inr (omega arith)))

    taboo-same : (p : ℕ) → (index_rule m₂).taboo p ≡ (index_rule m).taboo p
    taboo-same p = rw (part_same 16 (omega arith) (omega arith), part_same 20 (omega arith) (omega arith), part_same 24 (omega arith) (omega arith), part_same 28 (omega arith) (omega arith))

    block-added : Added (index_rule m) (index_rule m₂) m m₂ used (used + 6148) n used
    unfolding q
    block-added =
        record {
          edited = record {
            head = refl;
            size = refl;
            grown = omega arith;
            pass = pass_of h;
            kept = block-links;
            allowed = λ k l. taboo-same (block 12 m k) ∙ ((pass_of h).lies k l).allowed;
          };
          last = last';
          end = le_at-cong 4 m₂ bs used 0 (λ k l. rw zero-add (block-byte k (omega arith))) ∙ ends;
          low = h.low;
          past = omega arith;
          high = omega arith;
          allowed = taboo-same used ∙ rw (part_off (part_of m 16) used 6148 h.setup (omega arith), part_off (part_of m 24) used 6148 h.info (omega arith));
        }
      where
        last' : u32_at m₂ (place 12 m n) ≡ used
        last' =
            le_at-cong 4 m₂ (bytes_of 4 used) (place 12 m n) 0
            (λ k l. rw zero-add (unfold m₂ q in get_or-sets-in (bytes_of 4 used) m₁ (place 12 m n) k (omega (arith, link-bytes)) (omega (arith, link-bytes, q-low, long₁, h.room))))
            ∙ le_at-bytes_of 4 used (omega (arith, h.limit))

    -- the bytes of a new map: the block stored at the end, and the last link pointed to it
    pub block-change : Change m (sets (sets m used bs) (place 12 m n) (bytes_of 4 used)) used (used + 6148) n (n + 1)
    unfolding m₁ m₂ q
    block-change =
        record {
          grown = omega arith;
          limit = limit;
          room = rw (length-sets m₁ q (bytes_of 4 used), length-sets m used bs) room;
          header = header-byte;
          rest = λ i a b e. low_byte i b (rest' i a e);
          index = walked-added block-added (omega arith);
          upto = omega arith;
          blocks = blocks-kept block-links;
          new = λ k a b. let e : k ≡ n = omega arith in rw (e, added-block block-added) (omega arith);
        }
      where
        rest' : (i : ℕ) → 48 ≤ i → touches m n i 1 ≡ false → (i < q) ⊎ (q + 4 ≤ i)
        rest' i a e =
            ⊎_elim
            (λ f. inr (omega (arith, f.1)))
            (λ b. ⊎_elim (λ x. inl (omega (arith, b.2))) (λ x. inr (omega (arith, b.2))) (off-block h i b.0 e (omega (arith, b.1))))
            (link-kinds n (omega arith))

    -- the slots of the older blocks have the same bytes
    pub block-place : (d : ℕ) → d < 256 * n → slot_at (sets (sets m used bs) (place 12 m n) (bytes_of 4 used)) d ≡ slot_at m d
    unfolding m₁ m₂ q
    block-place d g = cells-kept block-links 24 d g

    pub block-old : (d : ℕ) → d < 256 * n
        → slot_of (sets (sets m used bs) (place 12 m n) (bytes_of 4 used)) (slot_at (sets (sets m used bs) (place 12 m n) (bytes_of 4 used)) d) ≡ slot_of m (slot_at m d)
    unfolding m₁ m₂ q
    block-old d g =
        rw (block-place d g)
        (slot-cong m₂ m (slot_at m d) (slot_at m d)
        (λ k a.
        low_byte (slot_at m d + k) (omega (arith, (slot-lies h d g).high))
        (⊎_elim (λ x. inl (omega arith)) (λ x. inr (omega arith)) (slots-off d g))))

    -- and slot j of the new block is that of the block's bytes
    pub block_new : (j : ℕ) → j < 256
        → slot_of (sets (sets m used bs) (place 12 m n) (bytes_of 4 used)) (slot_at (sets (sets m used bs) (place 12 m n) (bytes_of 4 used)) (256 * n + j)) ≡ slot_of bs (4 + 24 * j)
    unfolding m₁ m₂ q cell_in
    block_new j g =
        rw (cell-no 12 24 m₂ n j g, added-block block-added)
        (slot-cong m₂ bs (used + 4 + 24 * j) (4 + 24 * j)
        (λ k a. let e : used + 4 + 24 * j + k ≡ used + (4 + 24 * j + k) = omega arith in rw e (block-byte (4 + 24 * j + k) (omega arith))))
