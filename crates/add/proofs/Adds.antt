-- The map after an add: accepted, with the new slot good, and every other slot as it was. Assumes nothing.
use Prim.Native.Nat.{ℕ, ◌+◌, ◌-◌, ◌*◌, ◌≤◌, ◌<◌}
use mathlib.Core.Bool.{false}
use mathlib.Core.Path.{◌≡◌, ap, ◌∙◌}
use mathlib.Core.Logic.{⊎_elim}
use mathlib.Core.List.{List}
use native.Mathlib.Decide.{ℕ_discrete}
use native.Mathlib.Omega.{arith}
use lib.ListN.{length, get_or}
use lib.Seq.{sets, length-sets}
use Rattle.numbers.specs.Bytes.{Bytes, bytes_of}
use Rattle.numbers.specs.Ranges.{share}
use Rattle.numbers.proofs.Bytes.{get_or-sets-low, get_or-sets-high, get_or-sets-in, length-bytes_of}
use Rattle.numbers.proofs.Below.{any_none}
use Rattle.numbers.proofs.Coordinates.{lt-or-ge}
use Rattle.numbers.proofs.Ranges.{share-before, share-after}
use Rattle.slots.specs.declared.Slot.{Slot}
use Rattle.slots.specs.Slots.{slot_of, slot_bytes}
use Rattle.slots.proofs.Slots.{SlotFits, length-slot_bytes, slot-back}
use Rattle.chain.specs.Chains.{block, meets_block}
use Rattle.chain.specs.Chains as chains
use Rattle.judge.specs.Rules.{slot_at, touches}
use Rattle.judge.specs.Judging.{version_of, bad_slot}
use Rattle.accept.proofs.Accepting.{Holds}
use Rattle.judge.proofs.Telling.{bad-good, bad-dead}
use Rattle.frame.proofs.Frame.{Change, touch-same, slot_kept, version-same, change-accepted, change-trans}
use Rattle.frame.proofs.Writes.{pass_of, slot-lies, link-low, store-change, store-place, store_other, grow-change, grow-place, grow-slot, grow-link}
use Rattle.frame.proofs.NewBlock.{block-change, block-place, block-old, block_new}
use Rattle.accept.specs.Slots.{slot_in}
use Rattle.add.specs.Objects.{block_for}
use Rattle.add.specs.Adds.{slot_added}
use Rattle.judge.proofs.States.{state-empty}
use Rattle.add.proofs.Objects.{Offered, slot-fits, slot_added_lem, block-full, block-ends, block-first, block-others}

-- what an add does to a map: slot s is the new one
pub record Grown (m m' : List ℕ) (used used' n n' s : ℕ) (o : List ℕ) : Type 0 where
  pub change : Change m m' used used' n n'
  pub holds : Holds m' used' n'
  pub here : s < 256 * n'
  pub place : (d : ℕ) → d < 256 * n → slot_at m' d ≡ slot_at m d
  pub old : (d : ℕ) → d < 256 * n → (d ≡ s → ⊥) → slot_in m' d ≡ slot_in m d
  pub new : slot_in m' s ≡ slot_added m used o
  pub free : (d : ℕ) → 256 * n ≤ d → d < 256 * n' → (d ≡ s → ⊥) → (slot_in m' d).len ≡ 0
  pub stored : (i : ℕ) → i < length o → get_or m' (used + i) 0 ≡ get_or o i 0

module _ {m : List ℕ} {used n : ℕ} (h : Holds m used n) (o : List ℕ) (bytes : Bytes o) (g : Offered (version_of m) o) (limit : used + length o ≤ 16777216) (room : used + length o ≤ length m) where
  used₁ : ℕ
  used₁ = used + length o

  -- the object is stored at the old end
  m₁ : List ℕ
  m₁ = sets m used o

  t : Slot
  t = slot_added m used o

  change₁ : Change m m₁ used used₁ n n
  unfolding m₁ used₁
  change₁ = grow-change h o used (used + length o) (omega arith) (omega arith) limit room

  pub object-holds : Holds (sets m used o) (used + length o) n
  unfolding m₁ used₁
  object-holds =
      change-accepted change₁ h
      (λ d l. slot_kept change₁ d (grow-slot h o used (used + length o) (omega arith) (omega arith) limit room d l) (h.slot d l))

  h₁ : Holds m₁ used₁ n
  unfolding m₁ used₁
  h₁ = object-holds

  stored₁ : (i : ℕ) → i < length o → get_or m₁ (used + i) 0 ≡ get_or o i 0
  unfolding m₁
  stored₁ i l = get_or-sets-in o m used i l room

  fits : SlotFits t
  unfolding t
  fits = slot-fits (version_of m) o bytes g used (omega (arith, h.limit))

  version₁ : version_of m₁ ≡ version_of m
  version₁ = version-same change₁

  place₁ : (d : ℕ) → d < 256 * n → slot_at m₁ d ≡ slot_at m d
  unfolding m₁
  place₁ = grow-place h o used (used + length o) (omega arith) (omega arith) limit room

  slot₁ : (d : ℕ) → d < 256 * n → slot_of m₁ (slot_at m₁ d) ≡ slot_of m (slot_at m d)
  unfolding m₁
  slot₁ = grow-slot h o used (used + length o) (omega arith) (omega arith) limit room

  same-link : chains.place 12 m₁ n ≡ chains.place 12 m n
  unfolding m₁
  same-link = grow-link h o used (used + length o) (omega arith) (omega arith) limit room n (omega arith)

  -- no index block reaches the object
  off₁ : touches m₁ n used (length o) ≡ false
  unfolding meets_block
  off₁ =
      any_none (λ k. share (block 12 m₁ k) 6148 used (length o)) n
      (λ k a. share-before (block 12 m₁ k) 6148 used (length o) (omega (arith, change₁.blocks k a, ((pass_of h).lies k a).high)))

  -- ---- into a free slot

  module _ (s : ℕ) (l : s < 256 * n) where
    m₂ : List ℕ
    m₂ = sets m₁ (slot_at m₁ s) (slot_bytes t)

    change₂ : Change m₁ m₂ used₁ used₁ n n
    unfolding m₂
    change₂ = store-change h₁ s l (slot_bytes t) (slot_at m₁ s) (omega arith) (omega (arith, length-slot_bytes t))

    place₂ : (d : ℕ) → d < 256 * n → slot_at m₂ d ≡ slot_at m₁ d
    unfolding m₂
    place₂ = store-place h₁ s l (slot_bytes t) (slot_at m₁ s) (omega arith) (omega (arith, length-slot_bytes t))

    other₂ : (d : ℕ) → d < 256 * n → (d ≡ s → ⊥) → slot_of m₂ (slot_at m₂ d) ≡ slot_of m₁ (slot_at m₁ d)
    unfolding m₂
    other₂ = store_other h₁ s l (slot_bytes t) (slot_at m₁ s) (omega arith) (omega (arith, length-slot_bytes t))

    slot₂ : slot_of m₂ (slot_at m₂ s) ≡ t
    slot₂ = rw (place₂ s l) (unfold m₂ in slot-back t m₁ (slot_at m₁ s) fits (omega (arith, (slot-lies h₁ s l).high, h₁.room)))

    stored₂ : (i : ℕ) → i < length o → get_or m₂ (used + i) 0 ≡ get_or o i 0
    unfolding m₂
    stored₂ i a =
        get_or-sets-high (slot_bytes t) m₁ (slot_at m₁ s) (used + i) (omega (arith, length-slot_bytes t, slot-low))
        ∙ stored₁ i a
      where
        slot-low : slot_at m₁ s + 24 ≤ used
        slot-low = omega (arith, place₁ s l, (slot-lies h s l).high)

    holds₂ : Holds m₂ used₁ n
    holds₂ = change-accepted change₂ h₁ slots
      where
        here : bad_slot (touches m₂ n) m₂ used₁ (version_of m₂) (slot_at m₂ s) ≡ false
        here =
            bad-good (touches m₂ n) m₂ used₁ (version_of m₂) (slot_at m₂ s)
            (rw (slot₂, version-same change₂ ∙ version₁) (unfold t used₁ in slot_added_lem (version_of m) o bytes g (touches m₂ n) m₂ (used + length o) used stored₂ h.low (omega arith) (unfold used₁ in touch-same change₂ used (length o) (omega arith) ∙ off₁)))

        slots : (d : ℕ) → d < 256 * n → bad_slot (touches m₂ n) m₂ used₁ (version_of m₂) (slot_at m₂ d) ≡ false
        slots d a =
            elim (ℕ_discrete d s) [
              | yes e ↦ rw e here
              | no e ↦ slot_kept change₂ d (other₂ d a e) (h₁.slot d a)
            ]

    same₂ : m₂ ≡ sets (sets m used o) (slot_at m s) (slot_bytes (slot_added m used o))
    unfolding m₂ m₁ t
    same₂ = ap (λ (p : ℕ). sets (sets m used o) p (slot_bytes (slot_added m used o))) (place₁ s l)

    grown₂ : Grown m m₂ used used₁ n n s o
    unfolding slot_in t
    grown₂ =
        record {
          change = change-trans change₁ change₂;
          holds = holds₂;
          here = l;
          place = λ d a. place₂ d a ∙ place₁ d a;
          old = λ d a e. other₂ d a e ∙ slot₁ d a;
          new = slot₂;
          free = λ d a b e. absurd (impossible d a b);
          stored = stored₂;
        }
      where
        impossible : (d : ℕ) → 256 * n ≤ d → d < 256 * n → ⊥
        impossible d a b = omega arith

    pub in-slot : Grown m (sets (sets m used o) (slot_at m s) (slot_bytes (slot_added m used o))) used (used + length o) n n s o
    unfolding used₁
    in-slot = rw same₂ at grown₂

  -- ---- with a new block

  module _ (limit' : used + length o + 6148 ≤ 16777216) (room' : used + length o + 6148 ≤ length m) where
    room₃ : used₁ + 6148 ≤ length m₁
    unfolding m₁ used₁
    room₃ = rw (length-sets m used o) room'

    limit₃ : used₁ + 6148 ≤ 16777216
    unfolding used₁
    limit₃ = limit'

    m₃ : List ℕ
    m₃ = sets (sets m₁ used₁ (block_for t)) (chains.place 12 m₁ n) (bytes_of 4 used₁)

    change₃ : Change m₁ m₃ used₁ (used₁ + 6148) n (n + 1)
    unfolding m₃
    change₃ = block-change h₁ (block_for t) (block-full t) (block-ends t) limit₃ room₃

    old₃ : (d : ℕ) → d < 256 * n → slot_of m₃ (slot_at m₃ d) ≡ slot_of m₁ (slot_at m₁ d)
    unfolding m₃
    old₃ = block-old h₁ (block_for t) (block-full t) (block-ends t) limit₃ room₃

    place₃ : (d : ℕ) → d < 256 * n → slot_at m₃ d ≡ slot_at m₁ d
    unfolding m₃
    place₃ = block-place h₁ (block_for t) (block-full t) (block-ends t) limit₃ room₃

    new₃ : (j : ℕ) → j < 256 → slot_of m₃ (slot_at m₃ (256 * n + j)) ≡ slot_of (block_for t) (4 + 24 * j)
    unfolding m₃
    new₃ = block_new h₁ (block_for t) (block-full t) (block-ends t) limit₃ room₃

    slot₃ : slot_of m₃ (slot_at m₃ (256 * n)) ≡ t
    slot₃ = let e : 256 * n + 0 ≡ 256 * n = omega arith in (rw e at (new₃ 0 (omega arith))) ∙ block-first t fits

    free₃ : (d : ℕ) → 256 * n ≤ d → d < 256 * (n + 1) → (d ≡ 256 * n → ⊥) → (slot_of m₃ (slot_at m₃ d)).len ≡ 0
    free₃ d a b ne =
        let e : 256 * n + (d - 256 * n) ≡ d = omega arith in
        let f = new₃ (d - 256 * n) (omega arith) in
        ap (λ (x : Slot). x.len) (rw e at f) ∙ block-others t (d - 256 * n) (omega arith)

    -- the object lies before the block and off the link
    stored₃ : (i : ℕ) → i < length o → get_or m₃ (used + i) 0 ≡ get_or o i 0
    unfolding m₃
    stored₃ i a =
        get_or-sets-high (bytes_of 4 used₁) (sets m₁ used₁ (block_for t)) (chains.place 12 m₁ n) (used + i) (omega (arith, length-bytes_of 4 used₁, link₁))
        ∙ get_or-sets-low (block_for t) m₁ used₁ (used + i) (unfold used₁ in omega arith)
        ∙ stored₁ i a
      where
        link₁ : chains.place 12 m₁ n + 4 ≤ used
        link₁ = omega (arith, same-link, link-low h n (omega arith))

    off₃ : touches m₃ (n + 1) used (length o) ≡ false
    unfolding meets_block used₁
    off₃ =
        any_none (λ k. share (block 12 m₃ k) 6148 used (length o)) (n + 1)
        (λ k a.
        ⊎_elim
        (λ b. share-before (block 12 m₃ k) 6148 used (length o) (omega (arith, change₃.blocks k b, change₁.blocks k b, ((pass_of h).lies k b).high)))
        (λ b. share-after (block 12 m₃ k) 6148 used (length o) (change₃.new k b a))
        (lt-or-ge k n))

    holds₃ : Holds m₃ (used₁ + 6148) (n + 1)
    holds₃ = change-accepted change₃ h₁ slots
      where
        here : bad_slot (touches m₃ (n + 1)) m₃ (used₁ + 6148) (version_of m₃) (slot_at m₃ (256 * n)) ≡ false
        here =
            bad-good (touches m₃ (n + 1)) m₃ (used₁ + 6148) (version_of m₃) (slot_at m₃ (256 * n))
            (rw (slot₃, version-same change₃ ∙ version₁) (unfold t used₁ in slot_added_lem (version_of m) o bytes g (touches m₃ (n + 1)) m₃ (used + length o + 6148) used stored₃ h.low (omega arith) off₃))

        slots : (d : ℕ) → d < 256 * (n + 1) → bad_slot (touches m₃ (n + 1)) m₃ (used₁ + 6148) (version_of m₃) (slot_at m₃ d) ≡ false
        slots d a =
            ⊎_elim
            (λ b. slot_kept change₃ d (old₃ d b) (h₁.slot d b))
            (λ b.
            elim (ℕ_discrete d (256 * n)) [
              | yes e ↦ rw e here
              | no e ↦ bad-dead (touches m₃ (n + 1)) m₃ (used₁ + 6148) (version_of m₃) (slot_at m₃ d) (state-empty (slot_of m₃ (slot_at m₃ d)) (free₃ d b a e))
            ])
            (lt-or-ge d (256 * n))

    same₃ : m₃ ≡ sets (sets (sets m used o) (used + length o) (block_for (slot_added m used o))) (chains.place 12 m n) (bytes_of 4 (used + length o))
    unfolding m₃ m₁ used₁ t
    same₃ = ap (λ (p : ℕ). sets (sets (sets m used o) (used + length o) (block_for (slot_added m used o))) p (bytes_of 4 (used + length o))) same-link

    grown₃ : Grown m m₃ used (used₁ + 6148) n (n + 1) (256 * n) o
    unfolding slot_in t
    grown₃ =
        record {
          change = change-trans change₁ change₃;
          holds = holds₃;
          here = omega arith;
          place = λ d a. place₃ d a ∙ place₁ d a;
          old = λ d a e. old₃ d a ∙ slot₁ d a;
          new = slot₃;
          free = free₃;
          stored = stored₃;
        }

    pub in-block : Grown m (sets (sets (sets m used o) (used + length o) (block_for (slot_added m used o))) (chains.place 12 m n) (bytes_of 4 (used + length o))) used (used + length o + 6148) n (n + 1) (256 * n) o
    unfolding used₁
    in-block = rw same₃ at grown₃
