-- The look at the slots in one pass, a bit for each. Assumes nothing.
--     unwanted, wanted, unjudged                      by whether a slot is live: whether it is listed, and that it is not at fault
--     Looks live bits j                               of a word's slots j were looked at: their bits stand highest in the word
--     word_count, word-few                            how many of a word's slots are found
--     Rows b m w bad block ws count q                 of the words of a block q were looked at: no slot was at fault, their bits stand in the words, and
--                                                     those that are live were counted
--     Marking b m w used n ws at count k              the same of the n blocks: k were looked at, and the link to the next stands at `at`
-- b says which of the two layouts it is (`judge`, Rules).
use Prim.Native.Nat.{ℕ, suc, ◌+◌, ◌-◌, ◌*◌, ◌/◌, ◌≤◌, ◌<◌}
use mathlib.Core.Bool.{Bool, true, false}
use mathlib.Core.Path.{◌≡◌, refl, sym, ap, ◌∙◌}
use mathlib.Core.List.{List}
use native.Mathlib.Nat.{zero-add}
use native.Mathlib.Decide.{ℕ_discrete}
use native.Mathlib.Omega.{arith}
use lib.Count.{ones}
use lib.ListN.{length, set, take, get_or, get_or-append}
use lib.Seq.{get_or-set_same, get_or-set_other, get_or-append_right}
use mathlib.Core.Logic.{inl, inr}
use mathlib.Core.List.{◌++◌}
use Rattle.std.proofs.lemmas.List.{get_or-take, length-take-le}
use Rattle.numbers.proofs.Coordinates.{lt-or-ge}
use mir.Val.{bool_byte}
use Rattle.numbers.specs.Bytes.{u32_at}
use Rattle.numbers.specs.Below.{sel}
use Rattle.numbers.proofs.Below.{First, first-law, sel-length}
use Rattle.bits.specs.Bits.{bit, double, bits_from, ones_in, word_bits}
use Rattle.bits.proofs.Bits.{double-turn, bits-more, bits-word, bits-same, bits-moved, bits-count, sel-moved, ones-words, word-high, word-most}
use Rattle.windows.specs.declared.Window.{Window}
use Rattle.windows.specs.declared.Rectangle.{Rectangle}
use Rattle.windows.specs.Windows.{rectangle_at, meets_window}
use Rattle.records.specs.Sizes.{header_size, map_limit, most_blocks}
use Rattle.records.specs.Headers.{index_head, is_wide}
use Rattle.chain.specs.Cells.{cell_in}
use Rattle.chain.proofs.Chains.{Pass, walked-pass}
use Rattle.std.specs.Prelude.{Result, Ok, Err}
use Rattle.refusals.specs.declared.Refusal.{Refusal}
use Rattle.refusals.specs.declared.Refusal.TheVariants.{BadSlot}
use Rattle.refusals.specs.Refusals.{Judged, good, unless}
use Rattle.refusals.proofs.Passing.{unless_tells, unless_refuses}
use Rattle.accept.specs.Opens.{slot_fault_for, opened_of, after_opened, Open}
use Rattle.judge.specs.Rules.{Family, family_for, family_of, index_rule_of, touches_of}
use Rattle.judge.specs.Judging.{version_of, is_live, bad_slot}
use Rattle.slots.specs.declared.State.{State}
use Rattle.slots.specs.declared.State.TheVariants.{Free, Erased, Live}
use Rattle.slots.specs.Slots.{slot_of, state_of, same_state}
use Rattle.wide.specs.Slots.{wide_bad_slot}
use Rattle.accept.specs.Verdicts.{cells_judged, slots_judged, verdict, slots_judged_of}
use Rattle.accept.proofs.Looking.{Along, cells-good, cells-tell, cells-bad, cells-fault, along-start, along-inside, along-cell, along-on, along-bad, along-good}
use Rattle.judge.proofs.Rules.{sized, most-blocks}
use Rattle.accept.proofs.Opens.{verdict-opened}
use Rattle.accept.proofs.Firsts.{first-same, first-after}
use Rattle.look.specs.Found.{live_at, live_in_of, live_in, slots_for, found}
use Rattle.look.specs.Looks.{block_words, slot_from, live_from, live_cell, MarkedBy, Marked}

-- a test as a number, as the code has it
pub one_at_most : (hit : Bool) → bool_byte hit ≤ 1
one_at_most true = omega arith
one_at_most false = omega arith

byte-bit : (b : Bool) → bool_byte b ≡ bit b
byte-bit true = refl
byte-bit false = refl

-- of the slots of n blocks at most all pass
pub slots-low : (test : ℕ → Bool) (n : ℕ) → length (slots_for test n) ≤ 256 * n
unfolding slots_for
slots-low test n = sel-length test (256 * n)

-- ---- one slot

module _ (f : Family) (m : List ℕ) (w : Window) (p : ℕ) where
  pub unwanted : f.live m p ≡ false → live_at f m w p ≡ false
  unfolding live_at
  unwanted d = rw d

  pub wanted : {r : Rectangle} {hit : Bool} → f.live m p ≡ true → r ≡ rectangle_at m p → hit ≡ meets_window r w → live_at f m w p ≡ hit
  unfolding live_at
  wanted l e x = rw (l, x, e)

live-same : (k : State) → is_live k ≡ same_state Live k
live-same Free = refl
live-same Erased = refl
live-same Live = refl

-- one that is not live is not judged
pub unjudged : (b : Bool) (m : List ℕ) (used : ℕ) (t : List ℕ) (p : ℕ) → (family_for b).live m p ≡ false → slot_fault_for b m used t p ≡ false
unfolding bad_slot wide_bad_slot
unjudged true m used t p d = rw d
unjudged false m used t p d = rw (live-same (state_of (slot_of m p)), d)

-- ---- a word's slots

pub record Looks (live : ℕ → Bool) (bits j : ℕ) : Type 0 where
  pub made : bits ≡ double (word_bits - j) (bits_from live 0 j)

pub looks-start : (live : ℕ → Bool) → Looks live 0 0
unfolding bits_from double
looks-start live = record { made = refl }

module _ {live : ℕ → Bool} {bits j : ℕ} (k : Looks live bits j) where
  pub looks-low : j ≤ word_bits → bits < 18446744073709551616
  looks-low h =
      let e : word_bits - j + j ≡ word_bits = omega arith in
      rw k.made (rw (e, word-most) at (bits-word live 0 j (word_bits - j)))

  -- a turn: the word is halved, and the slot's bit put in as the highest
  pub looks_on : j < word_bits → (b : Bool) → live j ≡ b → Looks live (bits / 2 + bool_byte b * 9223372036854775808) (j + 1)
  looks_on h b e =
      let i = word_bits - (j + 1) in
      let n : word_bits - j ≡ suc i = omega arith in
      let o : i + j ≡ word_bits - 1 = omega arith in
      record { made = rw (bits-more live 0 j, zero-add j, e, k.made, n, byte-bit b) (rw (o, word-high) at (double-turn i j (bits_from live 0 j) b)) }

  pub looks-past : j < word_bits → live j ≡ false → Looks live (bits / 2) (j + 1)
  looks-past h e = let r = looks_on h false e in record { made = omega (arith, r.made) }

  pub looks-done : word_bits ≤ j → j ≤ word_bits → bits ≡ bits_from live 0 word_bits
  unfolding double
  looks-done h l = let e : j ≡ word_bits = omega arith in k.made ∙ ap (λ (i : ℕ). double (word_bits - i) (bits_from live 0 i)) e

-- how many of a word's slots are found
pub word_count : (live : ℕ → Bool) {x : ℕ} → x ≡ bits_from live 0 word_bits → ones x ≡ length (sel live word_bits)
word_count live e = ap ones e ∙ bits-count live word_bits

pub word-few : (live : ℕ → Bool) {x : ℕ} → x ≡ bits_from live 0 word_bits → ones x ≤ word_bits
word-few live e = omega (arith, word_count live e, sel-length live word_bits)

-- what an answer tells of the judge before it
pub seen_tells : {A : Type 0} (j : Judged) {x y : A} → unless j (Ok x) ≡ Ok y → (j ≡ good) × (y ≡ x)
seen_tells j {x} {y} e =
    let t = unless_tells j e in
    let q : ◌≡◌ {A = Result _ Refusal} (Ok x) (Ok y) = t.1 in
    let p : y ≡ x = cc in
    (t.0, p)

-- ---- the words of a block

-- where the slots of word q of a block stand, in the layout f
abbrev pub row_at : Family → ℕ → ℕ → ℕ
row_at f block q = block + 4 + word_bits * f.slot * q

row-slot : (b : Bool) (block q j : ℕ) → slot_from (family_for b).slot (row_at (family_for b) block q) j ≡ cell_in block (family_for b).slot (word_bits * q + j)
unfolding slot_from cell_in
row-slot true block q j = omega arith
row-slot false block q j = omega arith

pub row_on : (b : Bool) (block q : ℕ) → row_at (family_for b) block q + word_bits * (family_for b).slot ≡ row_at (family_for b) block (q + 1)
row_on true block q = omega arith
row_on false block q = omega arith

pub row_inside : (b : Bool) (block used q : ℕ) → block + (family_for b).block ≤ used → q < block_words
    → row_at (family_for b) block q + word_bits * (family_for b).slot ≤ used
row_inside true block used q l h = omega arith
row_inside false block used q l h = omega arith

-- a slot of a word lies in the map
pub slot-inside : (b : Bool) (from used j : ℕ) → from + word_bits * (family_for b).slot ≤ used → j < word_bits
    → from + (family_for b).slot * j + (family_for b).slot ≤ used
slot-inside true from used j l h = omega arith
slot-inside false from used j l h = omega arith

-- what the slots of a block are judged to be
abbrev pub block_judged : Family → (ℕ → Bool) → ℕ → Judged
block_judged f bad block = cells_judged BadSlot (λ j. bad (cell_in block f.slot j)) (cell_in block f.slot) 256

pub record Rows (b : Bool) (m : List ℕ) (w : Window) (bad : ℕ → Bool) (block : ℕ) (ws : List ℕ) (count q : ℕ) : Type 0 where
  pub upto : q ≤ block_words
  pub none : (j : ℕ) → j < word_bits * q → bad (cell_in block (family_for b).slot j) ≡ false
  pub counted : count ≡ length (sel (live_cell (family_for b) m w block) (word_bits * q))
  pub marked : MarkedBy (live_cell (family_for b) m w block) ws q

pub rows_start : {b : Bool} {m : List ℕ} {w : Window} {bad : ℕ → Bool} {block : ℕ} {ws : List ℕ} → Rows b m w bad block ws 0 0
unfolding sel
rows_start = record { upto = omega arith; none = λ j l. absurd (omega arith); counted = refl; marked = λ i l. absurd (omega arith) }

-- a word more
marked_more : (live : ℕ → Bool) (ws : List ℕ) (n : ℕ) {x : ℕ} → MarkedBy live ws n → n < length ws → x ≡ bits_from live (word_bits * n) word_bits
    → MarkedBy live (set ws n x) (n + 1)
marked_more live ws n {x} h l e i g =
    elim (ℕ_discrete i n) [
      | yes q ↦ rw q (get_or-set_same ws n x 0 l ∙ e)
      | no q ↦ get_or-set_other ws n i x 0 q ∙ h i (omega arith)
    ]

module _ {b : Bool} {m : List ℕ} {w : Window} {bad : ℕ → Bool} {block : ℕ} {ws : List ℕ} {count q : ℕ} (r : Rows b m w bad block ws count q) where
  module _ (h : q < block_words) {at : ℕ} (e : at ≡ row_at (family_for b) block q) where
    -- the word's slots are the block's
    stands : (j : ℕ) → slot_from (family_for b).slot at j ≡ cell_in block (family_for b).slot (word_bits * q + j)
    stands j = ap (λ (p : ℕ). slot_from (family_for b).slot p j) e ∙ row-slot b block q j

    ahead : {f : ℕ} → First (λ j. bad (slot_from (family_for b).slot at j)) word_bits f
        → First (λ j. bad (cell_in block (family_for b).slot j)) (word_bits * q + word_bits) (word_bits * q + f)
    ahead g = first-after {p = λ j. bad (cell_in block (family_for b).slot j)} r.none (first-same (λ j l. ap bad (sym (stands j))) g)

    -- the first at fault in the word is the first in the block
    pub rows-bad : {x : Refusal} → cells_judged BadSlot (λ j. bad (slot_from (family_for b).slot at j)) (slot_from (family_for b).slot at) word_bits ≡ Err x
        → block_judged (family_for b) bad block ≡ Err x
    rows-bad f =
        let t = cells-fault BadSlot (λ j. bad (slot_from (family_for b).slot at j)) (slot_from (family_for b).slot at) word_bits f in
        let g = first-law (λ j. bad (slot_from (family_for b).slot at j)) word_bits in
        let a = ahead g in
        let here : First (λ j. bad (cell_in block (family_for b).slot j)) 256 _ = record { within = omega (arith, t.1); before = λ i l. a.before i l; here = λ u. a.here (omega (arith, t.1)) } in
        rw (t.0, stands _) (cells-bad BadSlot (λ j. bad (cell_in block (family_for b).slot j)) (cell_in block (family_for b).slot) 256 here (omega (arith, t.1)))

    -- none of the word's is at fault
    pub rows_on : {x : ℕ} → cells_judged BadSlot (λ j. bad (slot_from (family_for b).slot at j)) (slot_from (family_for b).slot at) word_bits ≡ good
        → x ≡ bits_from (live_from (family_for b) m w at) 0 word_bits → q < length ws → Rows b m w bad block (set ws q x) (count + ones x) (q + 1)
    rows_on {x} none made room =
        let before = cells-tell BadSlot (λ j. bad (slot_from (family_for b).slot at j)) (slot_from (family_for b).slot at) word_bits none in
        let a = ahead {f = word_bits} (record { within = omega arith; before = before; here = λ g. absurd (omega arith) }) in
        let live : (j : ℕ) → j < word_bits → live_from (family_for b) m w at j ≡ live_cell (family_for b) m w block (word_bits * q + j) = λ j l. ap (live_at (family_for b) m w) (stands j) in
        let more = sel-moved (live_from (family_for b) m w at) (live_cell (family_for b) m w block) (word_bits * q) word_bits live in
        let u : word_bits * q + word_bits ≡ word_bits * (q + 1) = omega arith in
        record {
          upto = omega arith;
          none = λ j i. a.before j (omega arith);
          counted = ap (λ (i : ℕ). count + i) (word_count (live_from (family_for b) m w at) made)
              ∙ ap (λ (i : ℕ). i + length (sel (live_from (family_for b) m w at) word_bits)) r.counted ∙ more ∙ ap (λ (i : ℕ). length (sel (live_cell (family_for b) m w block) i)) u;
          marked = marked_more (live_cell (family_for b) m w block) ws q r.marked room
              (made ∙ bits-moved (live_from (family_for b) m w at) (live_cell (family_for b) m w block) (word_bits * q) word_bits live);
        }

  pub rows_few : count ≤ word_bits * q
  rows_few = omega (arith, r.counted, sel-length (live_cell (family_for b) m w block) (word_bits * q))

  pub rows-done : block_words ≤ q → (block_judged (family_for b) bad block ≡ good) × (count ≡ length (sel (live_cell (family_for b) m w block) 256)) × MarkedBy (live_cell (family_for b) m w block) ws block_words
  rows-done l =
      let e : word_bits * q ≡ 256 = omega (arith, r.upto) in (
        cells-good BadSlot (λ j. bad (cell_in block (family_for b).slot j)) (cell_in block (family_for b).slot) 256 (λ j i. r.none j (omega arith)),
        r.counted ∙ ap (λ (i : ℕ). length (sel (live_cell (family_for b) m w block) i)) e,
        λ i g. r.marked i (omega arith),
      )

-- ---- the blocks

-- whether the slot at a place is at fault, by the chain
abbrev pub at_fault : Family → List ℕ → ℕ → ℕ → ℕ → Bool
at_fault f m used n = f.slot_at_fault (touches_of f m n) m used

pub record Marking (b : Bool) (m : List ℕ) (w : Window) (used n : ℕ) (ws : List ℕ) (at count k : ℕ) : Type 0 where
  pub along : Along (index_rule_of (family_for b) m) m used (family_for b).slot n (at_fault (family_for b) m used n) at k
  pub counted : count ≡ length (sel (live_in_of (family_for b) m w) (256 * k))
  pub marked : MarkedBy (live_in_of (family_for b) m w) ws (block_words * k)

pub mark-start : {b : Bool} {m : List ℕ} {w : Window} {used n : ℕ} {ws : List ℕ} → Pass (index_rule_of (family_for b) m) m used n → header_size ≤ used
    → Marking b m w used n ws index_head 0 0
unfolding sel
mark-start h l = record { along = along-start h (omega arith); counted = refl; marked = λ i g. absurd (omega arith) }

-- the words of a block more, behind those of k blocks
marked_behind : (p q : ℕ → Bool) (ws vs zs : List ℕ) (k : ℕ) → MarkedBy q ws (block_words * k) → block_words * k ≤ length ws → length vs ≡ block_words
    → MarkedBy p vs block_words
    → ((j : ℕ) → j < 256 → p j ≡ q (256 * k + j)) → MarkedBy q (take (block_words * k) ws ++ (vs ++ zs)) (block_words * (k + 1))
marked_behind p q ws vs zs k old room four new same i l =
    let front : length (take (block_words * k) ws) ≡ block_words * k = length-take-le (block_words * k) ws room in
    elim (lt-or-ge i (block_words * k)) as (λ x. get_or (take (block_words * k) ws ++ (vs ++ zs)) i 0 ≡ bits_from q (word_bits * i) word_bits) [
      | inl g ↦ get_or-append (take (block_words * k) ws) (vs ++ zs) 0 i (omega (arith, front)) ∙ get_or-take (block_words * k) ws i 0 g ∙ old i g
      | inr g ↦
          let j : ℕ = i - block_words * k in
          let n : word_bits * (block_words * k + j) ≡ 256 * k + word_bits * j = omega arith in
          let is : block_words * k + j ≡ i = omega (arith, g) in
          let moved = bits-same p q (word_bits * j) (256 * k + word_bits * j) word_bits
          (λ u o. let a : 256 * k + (word_bits * j + u) ≡ 256 * k + word_bits * j + u = omega arith in rw a at (same (word_bits * j + u) (omega (arith, l, g)))) in
          get_or-append_right (take (block_words * k) ws) (vs ++ zs) i 0 (omega (arith, front, g))
          ∙ ap (λ (z : ℕ). get_or (vs ++ zs) (i - z) 0) front ∙ get_or-append vs zs 0 j (omega (arith, l, g, four))
          ∙ new j (omega (arith, l, g)) ∙ moved ∙ ap (λ (z : ℕ). bits_from q z word_bits) (sym n ∙ ap (λ (z : ℕ). word_bits * z) is)
    ]

module _ {b : Bool} {m : List ℕ} {w : Window} {used n : ℕ} {ws : List ℕ} {at count k : ℕ} (r : Marking b m w used n ws at count k) where
  module _ (l : k < n) {p : ℕ} (e : p ≡ u32_at m at) where
    pub mark-inside : p + (family_for b).block ≤ used
    mark-inside = along-inside r.along l e

    -- a slot of the block is at fault
    pub mark-bad : {x : Refusal} → block_judged (family_for b) (at_fault (family_for b) m used n) p ≡ Err x → slots_judged_of (family_for b) m used n ≡ Err x
    unfolding slots_judged_of
    mark-bad f = sym (along-bad r.along l e BadSlot f)

    -- none is: the block's words take the place of those that stood there
    pub mark_on : block_judged (family_for b) (at_fault (family_for b) m used n) p ≡ good → block_words * n ≤ length ws → (vs zs : List ℕ) {c : ℕ}
        → c ≡ length (sel (live_cell (family_for b) m w p) 256)
        → MarkedBy (live_cell (family_for b) m w p) vs block_words → length vs ≡ block_words → Marking b m w used n (take (block_words * k) ws ++ (vs ++ zs)) p (count + c) (k + 1)
    mark_on none room vs zs {c} f o four =
        let u : 256 * k + 256 ≡ 256 * (k + 1) = omega arith in
        let same : (j : ℕ) → j < 256 → live_cell (family_for b) m w p j ≡ live_in_of (family_for b) m w (256 * k + j) = λ j g. ap (live_at (family_for b) m w) (sym (along-cell r.along l e j g)) in
        let more = sel-moved (live_cell (family_for b) m w p) (live_in_of (family_for b) m w) (256 * k) 256 same in
        record {
          along = along-on r.along l e (omega (arith, (sized b).least)) BadSlot none;
          counted = omega (arith, r.counted, f, more) ∙ ap (λ (i : ℕ). length (sel (live_in_of (family_for b) m w) i)) u;
          marked = marked_behind (live_cell (family_for b) m w p) (live_in_of (family_for b) m w) ws vs zs k r.marked (omega (arith, room, l)) four o same;
        }

  pub marking-few : used ≤ map_limit → count ≤ 698368
  marking-few h = omega (arith, r.counted, sel-length (live_in_of (family_for b) m w) (256 * k), r.along.upto, most-blocks b r.along.pass h)

  pub mark-done : n ≤ k → (slots_judged_of (family_for b) m used n ≡ good) × (count ≡ length (slots_for (live_in_of (family_for b) m w) n)) × MarkedBy (live_in_of (family_for b) m w) ws (block_words * n)
  unfolding slots_judged_of slots_for
  mark-done h =
      let e : k ≡ n = omega (arith, r.along.upto) in
      (sym (along-good r.along BadSlot h), r.counted ∙ ap (λ (i : ℕ). length (sel (live_in_of (family_for b) m w) (256 * i))) e, λ i g. r.marked i (omega arith))

-- ---- the whole

-- the bits that are 1 are the slots found
pub marked-found : (m : List ℕ) (w : Window) (ws : List ℕ) (n : ℕ) → Marked m w ws (block_words * n) → ones_in word_bits ws (block_words * n) ≡ found m n w
unfolding slots_for
marked-found m w ws n h =
    let e : word_bits * (block_words * n) ≡ 256 * n = omega arith in
    ones-words word_bits (live_in m w) ws (block_words * n) h ∙ ap (sel (live_in m w)) e

-- a map that is opened has few blocks
pub open-few : {m : List ℕ} {used n : ℕ} {t : List ℕ} → Open m used n t → n ≤ most_blocks
open-few {m} {used} o = most-blocks (is_wide (version_of m)) (walked-pass (index_rule_of (family_of m) m) m used o.index) o.indexed.limit

-- and what is judged of its slots is the check's answer for it: a refusal, or accepted with as many found as are counted
module _ (m : List ℕ) (used n : ℕ) (w : Window) (o : opened_of m used ≡ Ok n) {r : Result ℕ Refusal} (told : r ≡ unless (slots_judged m used n) (Ok (length (found m n w)))) where
  pub open-refused : {e : Refusal} → r ≡ Err e → verdict m used ≡ Err e
  open-refused is =
      let bad = unless_refuses (slots_judged m used n) (length (found m n w)) (sym told ∙ is) in
      verdict-opened m used ∙ ap (after_opened m used) o ∙ ap (λ (j : Judged). unless j (Ok n)) bad

  pub open-accepted : {c : ℕ} → r ≡ Ok c → (verdict m used ≡ Ok n) × (c ≡ length (found m n w))
  open-accepted is =
      let t = seen_tells (slots_judged m used n) (sym told ∙ is) in
      (verdict-opened m used ∙ ap (after_opened m used) o ∙ ap (λ (j : Judged). unless j (Ok n)) t.0, t.1)
