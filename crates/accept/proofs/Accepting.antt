-- What an accepted map tells, and what shows one: `Holds` has a field for each of the verdict's tests. Assumes nothing.
use Prim.Native.Nat.{ℕ, ◌*◌, ◌≤◌, ◌<◌}
use mathlib.Core.Bool.{Bool, true, false, cond, ◌&&◌, ◌||◌}
use mathlib.Core.Path.{◌≡◌, refl, sym}
use mathlib.Core.List.{List}
use native.Mathlib.Omega.{arith}
use lib.Dec.{eqb, leb}
use lib.ListN.{length, get_or}
use borrow.Author.Tests.{le-leb, lt-leb, eqb-true, eq-eqb}
use Rattle.numbers.specs.Bytes.{u16_at}
use Rattle.numbers.proofs.Below.{never}
use Rattle.records.specs.Headers.{header_of, part_of, pair_good, is_wide, file_type_good, version_good, setup_at, info_at}
use Rattle.chain.specs.declared.LinkFault.{LinkFault}
use Rattle.chain.specs.Chains.{walked, taken}
use Rattle.chain.proofs.Chains.{walked-taken}
use Rattle.judge.specs.Rules.{Family, narrow, family_of, index_rule, symbol_rule, touches, slot_at, entry_at, index_rule_of, symbol_rule_of, touches_of, slot_at_of}
use Rattle.judge.specs.Judging.{version_of, length_good, part_good, bad_slot, bad_entry}
use Rattle.std.specs.Prelude.{Result, Ok, Err}
use Rattle.refusals.specs.declared.Refusal.{Refusal}
use Rattle.refusals.specs.declared.Refusal.TheVariants.{BadLength, BadMark, BadVersion, BadPart, BadSymbol, BadSlot}
use Rattle.refusals.specs.Refusals.{Judged, good}
use Rattle.refusals.proofs.Passing.{refused, unless_tells}
use Rattle.accept.proofs.Looking.{cells-good, cells-tell}
use Rattle.accept.proofs.Verdicts.{length-tells, after-tells}
use Rattle.accept.specs.Verdicts.{link_judged, parts_judged, fields_judged, header_judged, verdict, Editable, after_index_of, entries_judged_of, slots_judged_of, symbols_judged_of}

-- of a map of the layout f, by the header's answer
pub record HoldsOf (f : Family) (m : List ℕ) (used n : ℕ) : Type 0 where
  pub header : header_judged m used ≡ good
  pub index : walked (index_rule_of f m) m used ≡ Ok n
  pub symbols : ℕ
  pub symbol : walked (symbol_rule_of f m n) m used ≡ Ok symbols
  pub entry : (e : ℕ) → e < 256 * symbols → f.entry_at_fault (touches_of f m n) m used (entry_at m e) ≡ false
  pub slot : (s : ℕ) → s < 256 * n → f.slot_at_fault (touches_of f m n) m used (slot_at_of f m s) ≡ false

-- of a map of 6 to 8
pub record Holds (m : List ℕ) (used n : ℕ) : Type 0 where
  pub low : 48 ≤ used
  pub limit : used ≤ 16777216
  pub room : used ≤ length m
  pub mark : u16_at m 0 ≡ 3245
  pub pair : pair_good (u16_at m 4) (u16_at m 2) ≡ true
  pub setup : part_good used (part_of m setup_at) ≡ true
  pub info : part_good used (part_of m info_at) ≡ true
  pub index : walked (index_rule m) m used ≡ Ok n
  pub symbols : ℕ
  pub symbol : walked (symbol_rule m n) m used ≡ Ok symbols
  pub entry : (e : ℕ) → e < 256 * symbols → bad_entry (touches m n) m used (entry_at m e) ≡ false
  pub slot : (s : ℕ) → s < 256 * n → bad_slot (touches m n) m used (version_of m) (slot_at m s) ≡ false

-- ---- the steps of the verdict

cond-good : (b : Bool) (j : Judged) (r : Refusal) → cond b j (Err r) ≡ good → (b ≡ true) × (j ≡ good)
cond-good true j r e = (refl, e)
cond-good false j r e = absurd (refused e)

-- a walk to the end
link-good : (w : Result ℕ LinkFault) → link_judged w ≡ good → (k : ℕ) × (w ≡ Ok k)
link-good (Ok k) e = (k, refl)
link-good (Err x) e = absurd (refused e)

pub blocks-one : {n k : ℕ} → ◌≡◌ {A = Result ℕ LinkFault} (Ok n) (Ok k) → n ≡ k
blocks-one e = cc

-- ---- what an accepted map tells

fields-tell : (m : List ℕ) (used : ℕ) → header_judged m used ≡ good
    → (length_good m used ≡ true) × (eqb (u16_at m 0) 3245 ≡ true) × (version_good (header_of m) ≡ true)
    × (cond (is_wide (version_of m)) good (parts_judged (header_of m) used) ≡ good)
unfolding header_judged fields_judged header_of
fields-tell m used e =
    let a = cond-good (length_good m used) _ BadLength e in
    let b = cond-good (eqb (u16_at m 0) 3245) _ BadMark a.1 in
    let c = cond-good (version_good (header_of m)) _ BadVersion b.1 in
    (a.0, b.0, c.0, c.1)

-- a map of 6 to 8: its version pair, setup and info
pub narrow-tells : (m : List ℕ) (used : ℕ) → is_wide (version_of m) ≡ false → header_judged m used ≡ good
    → (pair_good (u16_at m 4) (u16_at m 2) ≡ true) × (part_good used (part_of m setup_at) ≡ true) × (part_good used (part_of m info_at) ≡ true)
unfolding parts_judged header_of version_good
narrow-tells m used w e =
    let f = fields-tell m used e in
    let d = cond-good (part_good used (part_of m setup_at)) _ (BadPart setup_at) (rw w at f.3) in
    let i = cond-good (part_good used (part_of m info_at)) good (BadPart info_at) d.1 in
    (rw w at f.2, d.0, i.0)

-- a map of 9 to 11: its file type
pub wide-tells : (m : List ℕ) (used : ℕ) → is_wide (version_of m) ≡ true → header_judged m used ≡ good → file_type_good (version_of m) (get_or m 2 0) ≡ true
unfolding header_of version_good
wide-tells m used w e = rw w at (fields-tell m used e).2

pub header-mark : (m : List ℕ) (used : ℕ) → header_judged m used ≡ good → u16_at m 0 ≡ 3245
header-mark m used e = eqb-true (u16_at m 0) 3245 (fields-tell m used e).1

-- an accepted map, of either layout
pub verdict-tells : (m : List ℕ) (used n : ℕ) → verdict m used ≡ Ok n → HoldsOf (family_of m) m used n
unfolding verdict symbols_judged_of entries_judged_of slots_judged_of
verdict-tells m used n e =
    let f : Family = family_of m in
    let a = unless_tells (header_judged m used) e in
    let r = after-tells f m used (walked (index_rule_of f m) m used) a.1 in
    let s = unless_tells (entries_judged_of f m used n (taken (symbol_rule_of f m n) m used)) r.1 in
    let k = link-good (walked (symbol_rule_of f m n) m used) s.1 in
    let t = walked-taken (symbol_rule_of f m n) m used k.1 in
    record {
      header = a.0;
      index = r.0;
      symbols = k.0;
      symbol = k.1;
      entry = cells-tell BadSymbol (λ e. f.entry_at_fault (touches_of f m n) m used (entry_at m e)) (entry_at m) (256 * k.0) (rw t at s.0);
      slot = cells-tell BadSlot (λ s. f.slot_at_fault (touches_of f m n) m used (slot_at_of f m s)) (slot_at_of f m) (256 * n) r.2;
    }

-- and one of 6 to 8
pub accepted-tells : (m : List ℕ) (used n : ℕ) → Editable m used n → Holds m used n
accepted-tells m used n (e, w) =
    let h = rw w at (verdict-tells m used n e) in
    let l = length-tells m used (fields-tell m used h.header).0 in
    let f = narrow-tells m used w h.header in
    record {
      low = l.0;
      limit = l.1;
      room = l.2;
      mark = header-mark m used h.header;
      pair = f.0;
      setup = f.1;
      info = f.2;
      index = h.index;
      symbols = h.symbols;
      symbol = h.symbol;
      entry = h.entry;
      slot = h.slot;
    }

-- ---- and back

pub verdict-is : {m : List ℕ} {used n : ℕ} → HoldsOf (family_of m) m used n → verdict m used ≡ Ok n
unfolding verdict after_index_of symbols_judged_of entries_judged_of slots_judged_of
verdict-is {m} {used} {n} h =
    let f : Family = family_of m in
    rw (
      h.header,
      h.index,
      h.symbol,
      walked-taken (symbol_rule_of f m n) m used h.symbol,
      cells-good BadSymbol (λ e. f.entry_at_fault (touches_of f m n) m used (entry_at m e)) (entry_at m) (256 * h.symbols) h.entry,
      cells-good BadSlot (λ s. f.slot_at_fault (touches_of f m n) m used (slot_at_of f m s)) (slot_at_of f m) (256 * n) h.slot,
    )

length-is : (m : List ℕ) (used : ℕ) → 48 ≤ used → used ≤ 16777216 → used ≤ length m → length_good m used ≡ true
unfolding length_good
length-is m used l h r = rw (le-leb 48 used l, le-leb used 16777216 h, le-leb used (length m) r)

module _ (m : List ℕ) {used : ℕ} (low : 48 ≤ used) (limit : used ≤ 16777216) (room : used ≤ length m) (mark : u16_at m 0 ≡ 3245) where
  pub narrow-header : is_wide (version_of m) ≡ false → pair_good (u16_at m 4) (u16_at m 2) ≡ true → part_good used (part_of m setup_at) ≡ true → part_good used (part_of m info_at) ≡ true → header_judged m used ≡ good
  unfolding header_judged fields_judged parts_judged header_of version_good
  narrow-header w p s i = rw (length-is m used low limit room, eq-eqb (u16_at m 0) 3245 mark, w, p, s, i)

  pub wide-header : is_wide (version_of m) ≡ true → file_type_good (version_of m) (get_or m 2 0) ≡ true → header_judged m used ≡ good
  unfolding header_judged fields_judged header_of version_good
  wide-header w t = rw (length-is m used low limit room, eq-eqb (u16_at m 0) 3245 mark, w, t)

-- a version pair of 6 to 8 is none of 9 to 11
pub pair-narrow : (v s : ℕ) → pair_good v s ≡ true → is_wide v ≡ false
unfolding pair_good is_wide
pair-narrow v s e = go (eqb v 6) refl (eqb v 7) refl (eqb v 8) refl e
  where
    low : v < 9 → leb 9 v && leb v 11 ≡ false
    low l = rw (lt-leb 9 v l)

    go : (a : Bool) → eqb v 6 ≡ a → (b : Bool) → eqb v 7 ≡ b → (c : Bool) → eqb v 8 ≡ c
        → cond a (eqb s 0) (cond b (eqb s 7) (cond c (eqb s 2 || eqb s 3) false)) ≡ true → leb 9 v && leb v 11 ≡ false
    go true p b q c r f = low (omega (arith, eqb-true v 6 p))
    go false p true q c r f = low (omega (arith, eqb-true v 7 q))
    go false p false q true r f = low (omega (arith, eqb-true v 8 r))
    go false p false q false r f = absurd (never (sym f))

pub holds-narrow : {m : List ℕ} {used n : ℕ} → Holds m used n → is_wide (version_of m) ≡ false
holds-narrow {m} h = pair-narrow (version_of m) (u16_at m 2) h.pair

pub accepted-is : {m : List ℕ} {used n : ℕ} → Holds m used n → verdict m used ≡ Ok n
accepted-is {m} {used} {n} h =
    let w = holds-narrow h in
    let o : HoldsOf narrow m used n = record {
      header = narrow-header m h.low h.limit h.room h.mark w h.pair h.setup h.info;
      index = h.index;
      symbols = h.symbols;
      symbol = h.symbol;
      entry = h.entry;
      slot = h.slot;
    } in
    verdict-is (rw w o)

pub editable-is : {m : List ℕ} {used n : ℕ} → Holds m used n → Editable m used n
editable-is h = (accepted-is h, holds-narrow h)
