-- The loop that lists the bits of a word that are 1, lowest first. Each turn stores the number of the lowest at the next entry, and takes it off: what is
-- left, stored, gives the whole. Assumes nothing.
--     all i, Run l₀ first l i                     every number passes; of a word's numbers from `first` on i are stored
--     Words l₀ ws n l d i                         of n words, the bits of i that are 1 are stored in the first d entries
--     Listing l₀ before first word l x d        x is what is left of the word; its bits, stored from entry d on of l, give the list asked for
use Prim.Native.Nat.{ℕ, suc, ◌+◌, ◌-◌, ◌*◌, ◌≤◌, ◌<◌}
use mathlib.Core.Bool.{Bool, true}
use mathlib.Core.Path.{◌≡◌, refl, sym, ap, ◌∙◌}
use mathlib.Core.List.{List, [], ◌∷◌}
use native.Mathlib.Nat.{add-zero, zero-add}
use native.Mathlib.Numerals.{add-one}
use native.Mathlib.Omega.{arith}
use lib.ListN.{length, get_or, set, length-set, length-append}
use lib.Bits.{bit_and, and_le_l}
use lib.Count.{count_trailing_zeros}
use lib.Seq.{sets, length-sets}
use Rattle.numbers.proofs.Bytes.{sets-append}
use Rattle.bits.specs.Bits.{double, from, ones, ones_in, word_bits}
use Rattle.bits.proofs.Bits.{ones-more, ones-mono, from-none, from-yes, ones-zero, ones-lowest}

pub record Listing (l₀ : List ℕ) (before first word : ℕ) (l : List ℕ) (x d : ℕ) : Type 0 where
  pub kept : length l ≡ length l₀
  pub low : x < double word_bits 1
  pub counted : d + length (ones word_bits x first) ≡ before + length (ones word_bits word first)
  pub stored : sets l d (ones word_bits x first) ≡ sets l₀ before (ones word_bits word first)

pub list-start : {l : List ℕ} {before first word : ℕ} → word < double word_bits 1 → Listing l before first word l word before
list-start h = record { kept = refl; low = h; counted = refl; stored = refl }

module _ {l₀ : List ℕ} {before first word : ℕ} {l : List ℕ} {x d : ℕ} (k : Listing l₀ before first word l x d) where
  -- no bit is left
  pub list_done : x ≡ 0 → (d ≡ before + length (ones word_bits word first)) × (l ≡ sets l₀ before (ones word_bits word first))
  list_done e =
      let z : ones word_bits x first ≡ [] = rw e (ones-zero word_bits first) in
      (omega (arith, k.counted, ap length z), rw z at k.stored)

  module _ (h : x ≡ 0 → ⊥) where
    some : ones word_bits x first ≡ (first + count_trailing_zeros word_bits x) ∷ ones word_bits (bit_and x (x - 1)) first
    some = ones-lowest word_bits x first k.low h

    -- there is room for one
    pub list-room : d < before + length (ones word_bits word first)
    list-room = omega (arith, k.counted, ap length some)

    -- a turn: its number is stored, and its bit is taken off
    pub list-turn : Listing l₀ before first word (set l d (first + count_trailing_zeros word_bits x)) (bit_and x (x - 1)) (d + 1)
    list-turn =
        record {
          kept = simp length-set k.kept;
          low = omega (arith, and_le_l x (x - 1), k.low);
          counted = omega (arith, rw some at k.counted);
          stored = rw add-one (rw some at k.stored);
        }

-- ---- a word's numbers in a row

abbrev pub all : ℕ → Bool
all i = true

pub record Run (l₀ : List ℕ) (first : ℕ) (l : List ℕ) (i : ℕ) : Type 0 where
  pub to : i ≤ word_bits
  pub stored : sets l i (from all (first + i) (word_bits - i)) ≡ sets l₀ 0 (from all first word_bits)

pub run-start : {l : List ℕ} {first : ℕ} → Run l first l 0
run-start {first} = record { to = omega arith; stored = rw (add-zero first) }

module _ {l₀ : List ℕ} {first : ℕ} {l : List ℕ} {i : ℕ} (k : Run l₀ first l i) where
  pub run-turn : i < word_bits → Run l₀ first (set l i (first + i)) (i + 1)
  run-turn h =
      let e : word_bits - i ≡ suc (word_bits - (i + 1)) = omega arith in
      let a : first + i + 1 ≡ first + (i + 1) = omega arith in
      let b : suc i ≡ i + 1 = omega arith in
      record {
        to = omega arith;
        stored = ap (λ (j : ℕ). sets (set l i (first + i)) j (from all (first + (i + 1)) (word_bits - (i + 1)))) (sym b) ∙ (rw (e, from-yes all (first + i) (word_bits - (i + 1)) refl, a) at k.stored);
      }

  pub run-done : word_bits ≤ i → l ≡ sets l₀ 0 (from all first word_bits)
  run-done h = let e : word_bits - i ≡ 0 = omega arith in rw (e, from-none all (first + i)) at k.stored

-- ---- the words

pub record Words (l₀ ws : List ℕ) (n : ℕ) (l : List ℕ) (d i : ℕ) : Type 0 where
  pub to : i ≤ n
  pub counted : d ≡ length (ones_in word_bits ws i)
  pub stored : l ≡ sets l₀ 0 (ones_in word_bits ws i)

pub words-start : {l ws : List ℕ} {n : ℕ} → Words l ws n l 0 0
unfolding ones_in
words-start = record { to = omega arith; counted = refl; stored = refl }

module _ {l₀ ws : List ℕ} {n : ℕ} {l : List ℕ} {d i : ℕ} (k : Words l₀ ws n l d i) where
  pub words-kept : length l ≡ length l₀
  words-kept = ap length k.stored ∙ length-sets l₀ 0 (ones_in word_bits ws i)

  module _ (h : i < n) where
    more : length (ones_in word_bits ws (i + 1)) ≡ d + length (ones word_bits (get_or ws i 0) (word_bits * i))
    more = ap length (ones-more word_bits ws i) ∙ length-append (ones_in word_bits ws i) (ones word_bits (get_or ws i 0) (word_bits * i)) ∙ ap (λ (j : ℕ). j + length (ones word_bits (get_or ws i 0) (word_bits * i))) (sym k.counted)

    pub words-room : length (ones_in word_bits ws n) ≤ length l₀ → d + length (ones word_bits (get_or ws i 0) (word_bits * i)) ≤ length l
    words-room r = omega (arith, more, ones-mono word_bits ws (i + 1) n (omega arith), words-kept)

    pub words-turn : {l' : List ℕ} {d' : ℕ} → d' ≡ d + length (ones word_bits (get_or ws i 0) (word_bits * i)) → l' ≡ sets l d (ones word_bits (get_or ws i 0) (word_bits * i)) → Words l₀ ws n l' d' (i + 1)
    words-turn e f =
        let at : 0 + length (ones_in word_bits ws i) ≡ d = zero-add (length (ones_in word_bits ws i)) ∙ sym k.counted in
        record {
          to = omega arith;
          counted = e ∙ sym more;
          stored = f ∙ rw (k.stored, ones-more word_bits ws i, ← at) (sets-append (ones_in word_bits ws i) (ones word_bits (get_or ws i 0) (word_bits * i)) l₀ 0);
        }
