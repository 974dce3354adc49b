-- Bytes behind the length decide nothing. Two buffers whose first `used` bytes are the same (`SameMap`) get one verdict, with its number and place, in both layouts;
-- where it is accepted, their blocks and slots stand at the same places, and in a map of 6 to 8 the first free slot is the same too. Assumes nothing.
use Prim.Native.Nat.{ℕ, zero, suc, ◌+◌, ◌*◌, ◌≤◌, ◌<◌}
use mathlib.Core.Bool.{Bool, true, false, cond}
use mathlib.Core.Path.{◌≡◌, refl, ap, ◌∙◌}
use mathlib.Core.List.{List}
use native.Mathlib.Omega.{arith}
use lib.Dec.{ltb}
use lib.ListN.{length}
use borrow.Author.Tests.{le-leb, ltb-true}
use Rattle.numbers.specs.Below.{first}
use Rattle.numbers.proofs.Below.{first-is, first-law}
use Rattle.records.specs.Headers.{index_head, symbol_head, is_wide}
use Rattle.slots.specs.declared.Slot.{Slot}
use Rattle.slots.specs.declared.State.TheVariants.{Free}
use Rattle.slots.specs.Slots.{state_of, same_state}
use Rattle.chain.specs.declared.LinkFault.{LinkFault}
use Rattle.std.specs.Prelude.{Result, Ok, Err}
use Rattle.chain.specs.Chains.{Rule, place, block, bad_link, stops, taken, walked}
use Rattle.chain.proofs.Chains.{taken_pass, walked-pass, walked-taken}
use Rattle.chain.proofs.Cells.{cell_lies}
use Rattle.chain.proofs.Frame.{Kept, less, places-kept, blocks-kept, cells-kept, meets-kept}
use Rattle.judge.specs.Rules.{Family, family_of, index_rule_of, symbol_rule_of, touches_of, slot_at_of, touches, slot_at, entry_at}
use Rattle.judge.specs.Judging.{version_of, length_good}
use Rattle.refusals.specs.declared.Refusal.{Refusal}
use Rattle.refusals.specs.declared.Refusal.TheVariants.{BadSymbol, BadSlot}
use Rattle.refusals.specs.Refusals.{good}
use Rattle.accept.specs.Slots.{slot_in, free_slot}
use Rattle.accept.specs.Verdicts.{cells_judged, header_judged, verdict, after_index_of, entries_judged_of, slots_judged_of, symbols_judged_of}
use Rattle.accept.proofs.Firsts.{first-same}
use Rattle.accept.proofs.Verdicts.{length-tells, header-tells}
use Rattle.accept.proofs.Accepting.{Holds, HoldsOf, verdict-tells}
use Rattle.frame.proofs.Same.{SameMap, Alike, number_same, version-alike, header_read, slot_read, alike}

-- ---- tests that answer alike below n have one first, and cells that stand alike are judged alike

pub first_alike : (p q : ℕ → Bool) (n : ℕ) → ((i : ℕ) → i < n → q i ≡ p i) → first q n ≡ first p n
first_alike p q n e = let h = first-same e (first-law p n) in first-is q n (first p n) h.within h.before h.here

pub cells-alike : (refusal : ℕ → Refusal) (bad bad' : ℕ → Bool) (place place' : ℕ → ℕ) (n : ℕ) → ((i : ℕ) → i < n → bad' i ≡ bad i)
    → ((i : ℕ) → i < n → place' i ≡ place i) → cells_judged refusal bad' place' n ≡ cells_judged refusal bad place n
unfolding cells_judged
cells-alike refusal bad bad' place place' n e at = rw (first_alike bad bad' n e) (go (ltb (first bad n) n) refl)
  where
    go : (b : Bool) → ltb (first bad n) n ≡ b
        → cond (ltb (first bad n) n) (Err (refusal (place' (first bad n)))) good ≡ cond (ltb (first bad n) n) (Err (refusal (place (first bad n)))) good
    go true f = rw (at (first bad n) (ltb-true (first bad n) n f))
    go false f = rw f

module _ {used : ℕ} {m m' : List ℕ} (s : SameMap used m m') where
  -- ---- a walk by one rule

  module _ (r : Rule) (head : r.head + 4 ≤ used) (least : 4 ≤ r.size) where
    -- every link up to the one at which the walk stops lies below the length
    link-low : (k : ℕ) → k ≤ taken r m used → place r.head m k + 4 ≤ used
    unfolding place
    link-low zero l = head
    link-low (suc k) l = unfold block in omega (arith, ((taken_pass r m used).lies k l).high)

    pub links-same : Kept r.head m m' (taken r m used + 1)
    links-same = record { link = λ k l. number_same s 4 (place r.head m k) (link-low k (omega arith)) }

    stops_same : (k : ℕ) → k ≤ taken r m used → stops r m' used k ≡ stops r m used k
    unfolding stops bad_link
    stops_same k l = rw (blocks-kept links-same k (omega arith), meets-kept (less links-same k (omega arith)) r.size)

    pub taken-same : taken r m' used ≡ taken r m used
    unfolding taken
    taken-same =
        let h = first-law (stops r m used) used in
        first-is (stops r m' used) used (first (stops r m used) used) h.within
        (λ k l. stops_same k (omega arith) ∙ h.before k l)
        (λ l. stops_same (first (stops r m used) used) (omega arith) ∙ h.here l)

    pub walked_same : walked r m' used ≡ walked r m used
    unfolding walked
    walked_same = rw (taken-same, blocks-kept links-same (taken r m used) (omega arith), places-kept links-same (taken r m used) (omega arith))

  -- ---- behind the header, in a layout whose tests are alike

  module _ (low : 48 ≤ used) {f : Family} (a : Alike used m m' f) where
    index-least : 4 ≤ f.block
    index-least = omega (arith, a.fits)

    index-rule : index_rule_of f m' ≡ index_rule_of f m
    index-rule = λ i. record { head = index_head; size = f.block; taboo = λ p. a.taboo p i }

    index-walk : walked (index_rule_of f m') m' used ≡ walked (index_rule_of f m) m used
    index-walk = ap (λ (r : Rule). walked r m' used) index-rule ∙ walked_same (index_rule_of f m) (omega arith) index-least

    module _ {n : ℕ} (e : walked (index_rule_of f m) m used ≡ Ok n) where
      index-links : Kept index_head m m' (n + 1)
      index-links = rw (walked-taken (index_rule_of f m) m used e) at (links-same (index_rule_of f m) (omega arith) index-least)

      index-touch : touches_of f m' n ≡ touches_of f m n
      index-touch = meets-kept (less index-links n (omega arith)) f.block

      slot-place : (i : ℕ) → i < 256 * n → slot_at_of f m' i ≡ slot_at_of f m i
      slot-place i l = cells-kept (less index-links n (omega arith)) f.slot i l

      slot-low : (i : ℕ) → i < 256 * n → slot_at_of f m i + f.slot ≤ used
      slot-low i l = (cell_lies (walked-pass (index_rule_of f m) m used e) f.slot a.fits i l).high

      slots-alike : slots_judged_of f m' used n ≡ slots_judged_of f m used n
      unfolding slots_judged_of
      slots-alike =
          cells-alike BadSlot (λ i. f.slot_at_fault (touches_of f m n) m used (slot_at_of f m i)) (λ i. f.slot_at_fault (touches_of f m' n) m' used (slot_at_of f m' i))
          (slot_at_of f m) (slot_at_of f m') (256 * n)
          (λ i l. rw (slot-place i l, index-touch) (a.slot (touches_of f m n) (slot_at_of f m i) (slot-low i l)))
          slot-place

      symbol-rule : symbol_rule_of f m' n ≡ symbol_rule_of f m n
      symbol-rule = rw index-touch

      symbol-links : Kept symbol_head m m' (taken (symbol_rule_of f m n) m used)
      symbol-links = less (links-same (symbol_rule_of f m n) (omega arith) (omega arith)) (taken (symbol_rule_of f m n) m used) (omega arith)

      entry-low : (i : ℕ) → i < 256 * taken (symbol_rule_of f m n) m used → entry_at m i + 4 ≤ used
      entry-low i l = (cell_lies (taken_pass (symbol_rule_of f m n) m used) 4 (omega arith) i l).high

      entries-alike : entries_judged_of f m' used n (taken (symbol_rule_of f m n) m used) ≡ entries_judged_of f m used n (taken (symbol_rule_of f m n) m used)
      unfolding entries_judged_of
      entries-alike =
          cells-alike BadSymbol (λ i. f.entry_at_fault (touches_of f m n) m used (entry_at m i)) (λ i. f.entry_at_fault (touches_of f m' n) m' used (entry_at m' i))
          (entry_at m) (entry_at m') (256 * taken (symbol_rule_of f m n) m used)
          (λ i l. rw (cells-kept symbol-links 4 i l, index-touch) (a.entry (touches_of f m n) (entry_at m i) (entry-low i l)))
          (cells-kept symbol-links 4)

      symbols-alike : symbols_judged_of f m' used n ≡ symbols_judged_of f m used n
      unfolding symbols_judged_of
      symbols-alike =
          rw (symbol-rule, taken-same (symbol_rule_of f m n) (omega arith) (omega arith), walked_same (symbol_rule_of f m n) (omega arith) (omega arith), entries-alike)

    after-alike : (w : Result ℕ LinkFault) → walked (index_rule_of f m) m used ≡ w → after_index_of f m' used w ≡ after_index_of f m used w
    unfolding after_index_of
    after-alike (Ok n) e = rw (symbols-alike e, slots-alike e)
    after-alike (Err x) e = refl

  -- ---- the verdict

  length-alike : length_good m' used ≡ length_good m used
  unfolding length_good
  length-alike = rw (le-leb used (length m') s.room', le-leb used (length m) s.room)

  pub verdict-same : verdict m' used ≡ verdict m used
  unfolding verdict header_judged
  verdict-same = go (length_good m used) refl
    where
      go : (b : Bool) → length_good m used ≡ b → verdict m' used ≡ verdict m used
      go true e =
          let low = (length-tells m used e).0 in
          let a = alike s low (is_wide (version_of m)) in
          rw (version-alike s low, length-alike, header_read s low, index-walk low a, after-alike low a (walked (index_rule_of (family_of m) m) m used) refl)
      go false e = rw (length-alike, e)

  -- ---- an accepted map, of either layout

  module _ {n : ℕ} (e : verdict m used ≡ Ok n) where
    accepted : HoldsOf (family_of m) m used n
    accepted = verdict-tells m used n e

    low_of : 48 ≤ used
    low_of = (header-tells m used accepted.header).0

    tests : Alike used m m' (family_of m)
    tests = alike s low_of (is_wide (version_of m))

    -- its slots stand at the same places, below the length
    pub slot-place-same : (i : ℕ) → i < 256 * n → slot_at_of (family_of m') m' i ≡ slot_at_of (family_of m) m i
    slot-place-same i l = rw (version-alike s low_of) (slot-place low_of tests accepted.index i l)

    pub slot-place-low : (i : ℕ) → i < 256 * n → slot_at_of (family_of m) m i + (family_of m).slot ≤ used
    slot-place-low i l = slot-low low_of tests accepted.index i l

    -- with their rectangles, the first 16 bytes
    pub slot-sides-low : (i : ℕ) → i < 256 * n → slot_at_of (family_of m) m i + 16 ≤ used
    slot-sides-low i l = omega (arith, slot-place-low i l, tests.sides)

    -- and the same are live
    pub live_same : (i : ℕ) → i < 256 * n → (family_of m').live m' (slot_at_of (family_of m') m' i) ≡ (family_of m).live m (slot_at_of (family_of m) m i)
    live_same i l = rw (slot-place-same i l, version-alike s low_of) (tests.live (slot_at_of (family_of m) m i) (slot-place-low i l))

  -- ---- and one of 6 to 8

  module _ {n : ℕ} (h : Holds m used n) where
    links : Kept index_head m m' (n + 1)
    links = index-links h.low (alike s h.low false) h.index

    pub block_same : (k : ℕ) → k ≤ n → block index_head m' k ≡ block index_head m k
    block_same k l = blocks-kept links k (omega arith)

    pub place_same : (k : ℕ) → k ≤ n → place index_head m' k ≡ place index_head m k
    place_same k l = places-kept links k (omega arith)

    pub slot-at-same : (i : ℕ) → i < 256 * n → slot_at m' i ≡ slot_at m i
    slot-at-same i l = cells-kept (less links n (omega arith)) 24 i l

    pub slot-in-same : (i : ℕ) → i < 256 * n → slot_in m' i ≡ slot_in m i
    unfolding slot_in
    slot-in-same i l = rw (slot-at-same i l) (slot_read s (slot_at m i) (slot-low h.low (alike s h.low false) h.index i l))

    pub touches-same : (p len : ℕ) → touches m' n p len ≡ touches m n p len
    touches-same p len = ap (λ (t : ℕ → ℕ → Bool). t p len) (meets-kept (less links n (omega arith)) 6148)

    pub free-same : free_slot m' n ≡ free_slot m n
    unfolding free_slot
    free-same =
        first_alike (λ i. same_state Free (state_of (slot_in m i))) (λ i. same_state Free (state_of (slot_in m' i))) (256 * n)
        (λ i l. ap (λ (t : Slot). same_state Free (state_of t)) (slot-in-same i l))
