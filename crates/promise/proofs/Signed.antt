-- Signed and unsigned are the same below 2,147,483,648, and what lies inside a map is below that, read either way. Assumes nothing.
use Prim.Native.Nat.{ℕ, zero, suc, ◌+◌, ◌≤◌, ◌<◌}
use mathlib.Core.Bool.{Bool, true, false}
use mathlib.Core.Path.{◌≡◌, refl, sym, ap, ◌∙◌}
use mathlib.Core.Logic.{◌⊎◌, inl, inr, ⊎_elim, ◌↔◌}
use mathlib.Core.List.{List}
use native.Mathlib.Nat.{not-suc-le-zero}
use native.Mathlib.Omega.{arith}
use lib.Dec.{leb}
use lib.IntN.{pos}
use lib.ListN.{length, get_or}
use lib.Signed.{le_z, mag}
use borrow.Author.Tests.{le-leb, leb-true}
use Rattle.numbers.specs.Bytes.{u16_at, u32_at}
use Rattle.numbers.specs.Coordinates.{signed, signed16, signed32}
use Rattle.numbers.proofs.Coordinates.{lt-or-ge, signed_low, signed_high}
use Rattle.numbers.proofs.Ranges.{within-true, within-is}
use Rattle.numbers.proofs.Below.{never}
use Rattle.records.specs.declared.Part.{Part}
use Rattle.records.specs.Sizes.{header_size, map_limit, symbol_record_size, entry_size}
use Rattle.records.specs.Headers.{part_of, setup_at, info_at, is_wide}
use Rattle.records.specs.Symbols.{size_good}
use Rattle.slots.specs.Slots.{slot_of}
use Rattle.wide.specs.Slots.{wide_slot_of}
use Rattle.chain.specs.Chains as chains
use Rattle.chain.specs.Chains.{Links, end, link}
use Rattle.judge.specs.Judging.{version_of}
use Rattle.judge.specs.Rules.{family_for}
use Rattle.accept.specs.Meets.{Inside, Present, Chain, HasBytes, conditions_for, MeetsOf, cell_of}
use Rattle.promise.specs.Signed.{InsideSigned, PresentSigned, EitherWay, PartEitherWay, ChainEitherWay, AcceptedEitherWay, SignedAsWritten}

-- ---- one number

-- a number that is not negative read signed is below the sign bit, and the same either way
below-sign : (h k n : ℕ) → le_z (pos k) (signed h n) ≡ true → n < h
below-sign h k n e = ⊎_elim (λ l. l) (λ l. absurd (never (sym (rw (signed_high h n l) at e)))) (lt-or-ge n h)

at_least : (h k n : ℕ) → le_z (pos k) (signed h n) ≡ true → signed h n ≡ pos n
at_least h k n e = signed_low h n (below-sign h k n e)

low-way : (n : ℕ) → n ≤ map_limit → EitherWay n
low-way n l = signed_low 2147483648 n (omega arith)

either-zero : (n : ℕ) → n ≡ 0 → EitherWay n
either-zero n e = low-way n (omega arith)

signed-zero : (n : ℕ) → n ≡ 0 → signed32 n ≡ pos 0
signed-zero n e = either-zero n e ∙ ap pos e

zero-signed : (n : ℕ) → signed32 n ≡ pos 0 → n ≡ 0
zero-signed n e =
    let s : signed32 n ≡ pos n = at_least _ 0 n (rw e refl) in
    ap mag (sym s ∙ e)

-- ---- a range

from_zero : (n : ℕ) → leb 0 n ≡ true
from_zero n = le-leb 0 n (omega arith)

inside-pos : (used p n : ℕ) → Inside used p n → InsideSigned used (pos p) (pos n)
inside-pos used p n i =
    record { low = le-leb header_size p i.low; size = rw from_zero; high = le-leb (p + n) used i.high }

pos-inside : (used p n : ℕ) → InsideSigned used (pos p) (pos n) → Inside used p n
pos-inside used p n i = record { low = leb-true header_size p i.low; high = leb-true (p + n) used i.high }

-- what is inside is the same number either way
inside-way : (used p n : ℕ) → used ≤ map_limit → Inside used p n → EitherWay p × EitherWay n
inside-way used p n l i =
    (low-way p (omega (arith, i.high)), low-way n (omega (arith, i.high)))

inside-signed : (used p n : ℕ) → used ≤ map_limit → Inside used p n ↔ InsideSigned used (signed32 p) (signed32 n)
inside-signed used p n l = (
  λ i.
      let w = inside-way used p n l i in
      rw (w.0, w.1) (inside-pos used p n i),
  λ i. pos-inside used p n (rw (at_least _ _ p i.low, at_least _ _ n i.size) at i),
)

inside-sized : (used p n : ℕ) → used ≤ map_limit → Inside used p n ↔ InsideSigned used (signed32 p) (pos n)
inside-sized used p n l = (
  λ i. rw (inside-way used p n l i).0 (inside-pos used p n i),
  λ i. pos-inside used p n (rw (at_least _ _ p i.low) at i),
)

inside-tested : (used p n : ℕ) → (chains.inside used n p ≡ true) ↔ Inside used p n
inside-tested used p n = (
  λ e.
      let w = within-true header_size used n p e in
      record { low = w.0; high = w.1 },
  λ i. within-is header_size used n p i.low i.high,
)

-- a number that is the same either way is not negative
way-positive : (n : ℕ) → EitherWay n → le_z (pos 0) (signed32 n) ≡ false → ⊥
way-positive n w e =
    let t : le_z (pos 0) (signed32 n) ≡ true = rw w (from_zero n) in
    never (sym t ∙ e)

never-inside : (used p n : ℕ) → used ≤ map_limit → (le_z (pos 0) (signed32 p) ≡ false) ⊎ (le_z (pos 0) (signed32 n) ≡ false) → Inside used p n → ⊥
never-inside used p n l b i =
    let w = inside-way used p n l i in
    ⊎_elim (way-positive p w.0) (way-positive n w.1) b

-- ---- setup and info

present-signed : (used : ℕ) (p : Part) → used ≤ map_limit → Present used p ↔ PresentSigned used (signed32 p.at) (signed32 p.size)
present-signed used p l = (
  λ h ne.
      let size : p.size ≡ 0 → ⊥ = λ z. ne (signed-zero p.size z) in
      let i : Inside used p.at p.size = h size in
      record {
        positive = rw (inside-way used p.at p.size l i).1 (le-leb 1 p.size (omega arith));
        inside = (inside-signed used p.at p.size l).0 i;
      },
  λ h ne. (inside-signed used p.at p.size l).1 (h (λ z. ne (zero-signed p.size z))).inside,
)

part-way : (used : ℕ) (p : Part) → used ≤ map_limit → Present used p → PartEitherWay p
part-way used p l h ne = inside-way used p.at p.size l (h ne)

-- ---- an accepted map

first_way : {m : List ℕ} {h : ℕ} {bs : List ℕ} → Links m h bs → ((k : ℕ) → k < length bs → EitherWay (get_or bs k 0)) → EitherWay (u32_at m h)
first_way {m} {h} (end e) f = either-zero (u32_at m h) e
first_way (link e ne ls) f = rw e (f 0 (omega arith))

links-way : {m : List ℕ} {h : ℕ} {bs : List ℕ} → Links m h bs → ((k : ℕ) → k < length bs → EitherWay (get_or bs k 0))
    → (k : ℕ) → k < length bs → EitherWay (u32_at m (get_or bs k 0))
links-way (end e) f k l = absurd (not-suc-le-zero l)
links-way (link e ne ls) f zero l = first_way ls (λ k r. f (suc k) (omega arith))
links-way (link e ne ls) f (suc k) l = links-way ls (λ i r. f (suc i) (omega arith)) k (omega arith)

chain-way : {m : List ℕ} {used h n : ℕ} {bs : List ℕ} → used ≤ map_limit → Chain m used h n bs → ChainEitherWay m h bs
chain-way {m} {used} {h} {n} {bs} l c =
    let f : (k : ℕ) → k < length bs → EitherWay (get_or bs k 0) = λ k r. (inside-way used (get_or bs k 0) n l (c.lies k r)).0 in
    record { first = first_way c.links f; blocks = f; links = links-way c.links f }

-- a number that is the same either way where it is not 0
either_way : (n : ℕ) → ((n ≡ 0 → ⊥) → EitherWay n) → EitherWay n
either_way n f = ⊎_elim (λ l. either-zero n (omega arith)) (λ l. f (λ z. omega arith)) (lt-or-ge n 1)

size-way : (n : ℕ) → size_good n ≡ true → signed16 n ≡ pos n
unfolding size_good
size-way n e = at_least _ symbol_record_size n e

-- a Len of 9 to 11 is at most the object's bytes
len-way : (used p len k bytes : ℕ) → used ≤ map_limit → Inside used p bytes → HasBytes len k bytes → EitherWay len
len-way used p len k bytes l i (inl (e, b)) = low-way len (omega (arith, i.high))
len-way used p len k bytes l i (inr (e, b)) = low-way len (omega (arith, i.high))

-- what the two layouts have of them
record LayoutWay (b : Bool) (m : List ℕ) (used : ℕ) (index : List ℕ) : Type 0 where
  parts : (conditions_for b).Header m used → b ≡ false → PartEitherWay (part_of m setup_at) × PartEitherWay (part_of m info_at)
  entry : (q : ℕ) → (conditions_for b).Record m used index q → EitherWay q
  size : (q : ℕ) → (conditions_for b).Record m used index q → b ≡ false → signed16 (u16_at m q) ≡ pos (u16_at m q)
  wide-size : (q : ℕ) → (conditions_for b).Record m used index q → b ≡ true → EitherWay (u32_at m q)
  position : (p : ℕ) → (conditions_for b).LiveSlot m used index p → EitherWay (u32_at m (p + 16))
  len : (p : ℕ) → (conditions_for b).LiveSlot m used index p → b ≡ true → EitherWay (u32_at m (p + 20))

layout-way : (b : Bool) (m : List ℕ) (used : ℕ) (index : List ℕ) → used ≤ map_limit → LayoutWay b m used index
unfolding slot_of wide_slot_of
layout-way true m used index l =
    record {
      parts = λ h e. absurd (never e);
      entry = λ q g. (inside-way used q 4 l g.start).0;
      size = λ q g e. absurd (never e);
      wide-size = λ q g e. (inside-way used q (u32_at m q) l g.lies).1;
      position = λ p g. (inside-way used (u32_at m (p + 16)) g.bytes l g.lies).0;
      len = λ p g e. len-way used (u32_at m (p + 16)) (u32_at m (p + 20)) _ g.bytes l g.lies g.len;
    }
layout-way false m used index l =
    record {
      parts = λ h e. (part-way used (part_of m setup_at) l h.setup, part-way used (part_of m info_at) l h.info);
      entry = λ q g. (inside-way used q 2 l g.start).0;
      size = λ q g e. size-way (u16_at m q) g.size;
      wide-size = λ q g e. absurd (never (sym e));
      position = λ p g. (inside-way used (u32_at m (p + 16)) _ l g.lies).0;
      len = λ p g e. absurd (never (sym e));
    }

accepted-way : (b : Bool) (m : List ℕ) (used n : ℕ) (h : MeetsOf (family_for b) (conditions_for b) m used n) → AcceptedEitherWay b h
accepted-way b m used n h =
    let w : LayoutWay b m used h.blocks = layout-way b m used h.blocks h.most in
    record {
      setup = λ e. (w.parts h.header e).0;
      info = λ e. (w.parts h.header e).1;
      index = chain-way h.most h.index;
      symbol = chain-way h.most h.symbol;
      entries = λ e l. either_way (u32_at m (cell_of h.symbols entry_size e)) (λ ne. w.entry _ (h.entries e l ne));
      sizes = λ z e l ne. w.size _ (h.entries e l ne) z;
      wide-sizes = λ z e l ne. w.wide-size _ (h.entries e l ne) z;
      slots = λ s l live. w.position _ (h.slots s l live);
      lens = λ z s l live. w.len _ (h.slots s l live) z;
    }

pub signed-as-written : SignedAsWritten
signed-as-written =
    record {
      inside = inside-signed;
      sized = inside-sized;
      tested = inside-tested;
      present = present-signed;
      zero = λ n. (signed-zero n, zero-signed n);
      negative = never-inside;
      accepted = λ m used n h. accepted-way (is_wide (version_of m)) m used n h;
    }
