-- The laws of an add, as the code makes it: the first free slot, the writes, and the add by how it starts.
--     lent-over           the whole after a run of stores at the start of a part that was lent to its end
--     length-free ..      the new length and the new map, with a free slot and without
--     block-put           a block of zeros with a slot stored in it is the block for that slot
--     fresh-malformed ..  an add under a new number, by its tests in their order
--     added-refused ..    the add, by how it starts
-- Assumes nothing.
use Prim.Native.Nat.{ℕ, ◌+◌, ◌-◌, ◌*◌, ◌≤◌, ◌<◌}
use mathlib.Core.Bool.{Bool, true, false, cond, ◌&&◌}
use mathlib.Core.Path.{◌≡◌, refl, sym, ap, ◌∙◌}
use mathlib.Core.List.{List, ◌++◌, append_assoc}
use native.Mathlib.Omega.{arith}
use lib.Dec.{eqb, ltb}
use lib.ListN.{length, take, drop, replicate, length-append, length-replicate, replicate-append-replicate}
use lib.Seq.{sets, length-sets, take_at, drop_at}
use borrow.Author.Tests.{lt-ltb, le-ltb, ltb-true, lt-leb, le-leb}
use Rattle.numbers.proofs.Bytes.{lent-sets, sets-splice}
use Rattle.slots.specs.declared.Slot.{Slot}
use Rattle.slots.specs.Slots.{slot_bytes}
use Rattle.records.specs.Journals.{record_for}
use Rattle.slots.proofs.Slots.{length-slot_bytes}
use Rattle.judge.specs.Judging.{version_of}
use Rattle.judge.proofs.Telling.{and-true}
use Rattle.journal.specs.declared.JournalLook.TheVariants.{Held}
use Rattle.journal.specs.Journals.{record_in, slot_used, holder, is_full, appended, looked}
use Rattle.journal.proofs.Journals.{good-tells, well-formed-tells, held_tells, looked-held}
use Rattle.std.specs.Prelude.{Ok, Err}
use Rattle.refusals.specs.declared.Refusal.{Refusal}
use Rattle.refusals.specs.declared.Refusal.TheVariants.{BadObject, NoRoom, JournalFull}
use Rattle.edit.specs.declared.EditAnswer.TheVariants.{Done}
use Rattle.edit.specs.declared.EditStart.TheVariants as starts
use Rattle.accept.specs.Slots.{slot_in, free_slot}
use Rattle.add.specs.Objects.{pair_limit, offered_good, block_for, is_object}
use Rattle.edit.specs.Edits.{saying, start_of}
use Rattle.add.specs.Adds.{new_length, in_free, in_block, added_map, repeat_add, fresh_add, added}
use Rattle.add.proofs.Objects.{offered-tells}

-- ---- a part that was lent to its end

pub lent-over : (vs xs ys : List ℕ) (a : ℕ) → a + length vs ≤ length xs → ys ≡ sets (take (length xs - a) (drop a xs)) 0 vs
    → take a xs ++ (ys ++ drop (length xs - a) (drop a xs)) ≡ sets xs a vs
lent-over vs xs ys a h e = lent-sets vs xs ys a (length xs - a) (omega arith) e

-- ---- with a free slot, and without

module _ (m : List ℕ) (used n : ℕ) (o : List ℕ) where
  pub length-free : free_slot m n < 256 * n → new_length m used n o ≡ used + length o
  unfolding new_length
  length-free l = rw (lt-ltb (free_slot m n) (256 * n) l)

  pub length-block : 256 * n ≤ free_slot m n → new_length m used n o ≡ used + length o + 6148
  unfolding new_length
  length-block l = rw (le-ltb (free_slot m n) (256 * n) l)

  pub added-free : free_slot m n < 256 * n → added_map m used n o ≡ in_free m used n o
  unfolding added_map
  added-free l = rw (lt-ltb (free_slot m n) (256 * n) l)

  pub added-block : 256 * n ≤ free_slot m n → added_map m used n o ≡ in_block m used n o
  unfolding added_map
  added-block l = rw (le-ltb (free_slot m n) (256 * n) l)

-- ---- a block of zeros with a slot stored in it

-- a run that is stored over the middle of a run that was stored first
over : (us vs ws zs xs : List ℕ) → length vs ≡ length zs → length (us ++ (vs ++ ws)) ≤ length xs
    → sets (sets xs 0 (us ++ (vs ++ ws))) (length us) zs ≡ sets xs 0 (us ++ (zs ++ ws))
over us vs ws zs xs e h =
    let lv : length (us ++ (vs ++ ws)) ≡ length us + (length vs + length ws) = simp length-append in
    let lz : length (us ++ (zs ++ ws)) ≡ length us + (length vs + length ws) = simp (length-append, e) in
    let d : List ℕ = drop (0 + length (us ++ (vs ++ ws))) xs in
    let a : sets xs 0 (us ++ (vs ++ ws)) ≡ us ++ (vs ++ (ws ++ d))
    = sets-splice (us ++ (vs ++ ws)) xs 0 (omega arith) ∙ simp append_assoc in
    let b : sets xs 0 (us ++ (zs ++ ws)) ≡ us ++ (zs ++ (ws ++ d))
    = sets-splice (us ++ (zs ++ ws)) xs 0 (omega arith) ∙ rw (lz, ← lv) (simp append_assoc) in
    let f : length us + length zs ≡ length (us ++ vs) = simp (length-append, e) in
    let g : drop (length us + length zs) (us ++ (vs ++ (ws ++ d))) ≡ ws ++ d
    = rw (← append_assoc us vs (ws ++ d)) (drop_at (us ++ vs) (ws ++ d) (length us + length zs) (sym f)) in
    let k : sets (us ++ (vs ++ (ws ++ d))) (length us) zs ≡ us ++ (zs ++ (ws ++ d))
    = sets-splice zs (us ++ (vs ++ (ws ++ d))) (length us) (simp length-append (omega arith)) ∙ rw (take_at us (vs ++ (ws ++ d)) (length us) refl, g) in
    ap (λ (l : List ℕ). sets l (length us) zs) a ∙ k ∙ sym b

zeros-split : (a b c : ℕ) → ◌≡◌ {A = List ℕ} (replicate (a + (b + c)) 0) (replicate a 0 ++ (replicate b 0 ++ replicate c 0))
zeros-split a b c =
    sym (ap (λ (l : List ℕ). replicate a 0 ++ l) (replicate-append-replicate {A = ℕ} b c 0) ∙ replicate-append-replicate {A = ℕ} a (b + c) 0)

-- the same for any number of zeros behind the slot
block-over : (xs : List ℕ) (t : Slot) (k : ℕ) → 4 + (24 + k) ≤ length xs
    → sets (sets xs 0 (replicate (4 + (24 + k)) 0)) 4 (slot_bytes t) ≡ sets xs 0 (replicate 4 0 ++ (slot_bytes t ++ replicate k 0))
block-over xs t k h =
    ap (λ (l : List ℕ). sets (sets xs 0 l) 4 (slot_bytes t)) (zeros-split 4 24 k)
    ∙ over (replicate 4 0) (replicate 24 0) (replicate k 0) (slot_bytes t) xs (sym (length-slot_bytes t))
    (simp (length-replicate {A = ℕ} k 0) (omega arith))

-- as the code makes it: xs is a part of a block's size, l what was left of it when it was cleared, and ys the slot's part of that
pub block-put : (xs l ys : List ℕ) (t : Slot) → length xs ≡ 6148 → l ≡ sets xs 0 (replicate (length xs) 0) → ys ≡ sets (take (length l - 4) (drop 4 l)) 0 (slot_bytes t)
    → take 4 l ++ (ys ++ drop (length l - 4) (drop 4 l)) ≡ sets xs 0 (block_for t)
unfolding block_for
block-put xs l ys t h e f =
    let long : length l ≡ length xs = ap length e ∙ length-sets xs 0 (replicate (length xs) 0) in
    lent-over (slot_bytes t) l ys 4 (omega (arith, length-slot_bytes t)) f
    ∙ ap (λ (x : List ℕ). sets x 4 (slot_bytes t)) (e ∙ ap (λ (k : ℕ). sets xs 0 (replicate k 0)) h)
    ∙ block-over xs t 6120 (omega arith)

-- ---- an offered object is not long

limit-most : (v : ℕ) → pair_limit v ≤ 32768
limit-most v = go (eqb v 8)
  where
    go : (b : Bool) → cond b 32768 8187 ≤ 32768
    go true = omega arith
    go false = omega arith

pub offered-most : (v : ℕ) (o : List ℕ) → offered_good v o ≡ true → length o ≤ 262176
offered-most v o e = let g = offered-tells v o e in omega (arith, g.exact, g.few, limit-most v)

-- ---- an add under a new number, by its tests in their order

module _ (m : List ℕ) (used : ℕ) (j : List ℕ) (e : ℕ) (o : List ℕ) (n : ℕ) where
  pub fresh-malformed : offered_good (version_of m) o ≡ false → fresh_add m used j e o n ≡ saying m j (Err BadObject)
  unfolding fresh_add
  fresh-malformed g = rw g

  module _ (good : offered_good (version_of m) o ≡ true) where
    pub fresh-long : 16777216 < new_length m used n o → fresh_add m used j e o n ≡ saying m j (Err NoRoom)
    unfolding fresh_add
    fresh-long l = rw (good, lt-leb (new_length m used n o) 16777216 l)

    module _ (limit : new_length m used n o ≤ 16777216) where
      pub fresh-tight : length m < new_length m used n o → fresh_add m used j e o n ≡ saying m j (Err NoRoom)
      unfolding fresh_add
      fresh-tight l = rw (good, le-leb (new_length m used n o) 16777216 limit, lt-leb (new_length m used n o) (length m) l)

      module _ (room : new_length m used n o ≤ length m) where
        pub fresh-full : is_full j ≡ true → fresh_add m used j e o n ≡ saying m j (Err JournalFull)
        unfolding fresh_add
        fresh-full f = rw (good, le-leb (new_length m used n o) 16777216 limit, le-leb (new_length m used n o) (length m) room, f)

        pub fresh-done : is_full j ≡ false
            → fresh_add m used j e o n
            ≡ record {
              answer = Ok (Done (free_slot m n) (new_length m used n o));
              map = added_map m used n o;
              journal = appended j (record_for e 1 (free_slot m n));
            }
        unfolding fresh_add
        fresh-done f = rw (good, le-leb (new_length m used n o) 16777216 limit, le-leb (new_length m used n o) (length m) room, f)

-- the slot of a record that holds a number is there
pub held-there : (jn m : List ℕ) (n e kind slot : ℕ) → looked jn m n e ≡ Ok (Held kind slot) → slot < 256 * n
unfolding slot_used
held-there jn m n e kind slot q =
    let l = looked-held jn m n e kind slot q in
    let g = good-tells jn m n (holder jn e) ((well-formed-tells jn m n l.0.well).good (holder jn e) (held_tells jn e l.1).0) in
    rw l.3 (ltb-true (record_in jn (holder jn e)).slot (256 * n) (and-true (ltb (record_in jn (holder jn e)).slot (256 * n)) _ g.used).0)

-- ---- the add, by how it starts

module _ (m : List ℕ) (used : ℕ) (j : List ℕ) (e : ℕ) (o : List ℕ) where
  pub added-refused : {r : Refusal} → start_of m used j e ≡ Err r → added m used j e o ≡ saying m j (Err r)
  unfolding added
  added-refused q = rw q

  pub added-held : (n kind slot : ℕ) → start_of m used j e ≡ Ok (starts.Held n kind slot) → added m used j e o ≡ repeat_add m used j o kind slot
  unfolding added
  added-held n kind slot q = rw q

  pub added_new : (n k f : ℕ) → start_of m used j e ≡ Ok (starts.New n k f) → added m used j e o ≡ fresh_add m used j e o n
  unfolding added
  added_new n k f q = rw q

-- under a number that is held nothing is changed
pub repeat-keeps : (m : List ℕ) (used : ℕ) (j o : List ℕ) (kind slot : ℕ) → (m ≡ (repeat_add m used j o kind slot).map) × (j ≡ (repeat_add m used j o kind slot).journal)
unfolding repeat_add
repeat-keeps m used j o kind slot = go (eqb kind 1 && is_object m used (slot_in m slot) o) refl
  where
    go : (b : Bool) → eqb kind 1 && is_object m used (slot_in m slot) o ≡ b → (m ≡ (repeat_add m used j o kind slot).map) × (j ≡ (repeat_add m used j o kind slot).journal)
    go true f = rw f (refl, refl)
    go false f = rw f (refl, refl)
