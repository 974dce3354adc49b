-- A map that agrees in the bytes that the check reads meets the conditions as before. What both layouts share is proved once, for a layout whose conditions stay
-- (`Stays`); then that is shown of each of the two. Assumes nothing.
use Prim.Native.Nat.{ℕ, suc, ◌+◌, ◌-◌, ◌*◌, ◌/◌, ◌%◌, ◌≤◌, ◌<◌}
use mathlib.Core.Bool.{Bool, true, false}
use mathlib.Core.Path.{◌≡◌, sym, ap, ◌∙◌}
use mathlib.Core.List.{List}
use native.Mathlib.Nat.{mul-le-mul_left, mul-add, mul-one}
use native.Mathlib.Omega.{arith}
use lib.ListN.{length, get_or, drop}
use lib.Seq.{get_or-drop}
use Rattle.numbers.specs.Bytes.{le_at, u16_at, u32_at}
use Rattle.numbers.proofs.Bytes.{le_at-cong}
use Rattle.slots.specs.declared.Slot.{Slot}
use Rattle.records.specs.Sizes.{header_size, map_limit, wide_slot_size, symbol_block_size, entry_size}
use Rattle.slots.specs.Slots.{slot_of}
use Rattle.slots.specs.Objects.{object_of}
use Rattle.slots.proofs.Slots.{slot-cong}
use Rattle.wide.specs.declared.WideSlot.{WideSlot}
use Rattle.wide.specs.Slots.{wide_slot_of, wide_object_of}
use Rattle.records.specs.Headers.{index_head, is_wide}
use Rattle.chain.specs.Chains.{Links, end, link}
use Rattle.chain.specs.Cells.{cell_in}
use Rattle.judge.specs.Judging.{version_of}
use Rattle.judge.specs.Rules.{Family, family_for}
use Rattle.accept.specs.Meets.{Inside, Chain, cell_of, GoodRecord, GoodWideRecord, GoodLive, GoodWideLive, NarrowHeader, WideHeader, OffParts, Conditions, conditions_for, MeetsOf}
use Rattle.accept.proofs.Meets.{accepted-exactly}
use Rattle.promise.specs.Footprints.{Agree, size_bytes, head_bytes, Footprint, DependsOnly}

-- ---- numbers in bytes that agree

-- a part of a range that agrees
within : (m m' : List ℕ) (p n q k : ℕ) → Agree m m' p n → p ≤ q → q + k ≤ p + n → Agree m m' q k
within m m' p n q k a l g i r =
    let e : p + (q + i - p) ≡ q + i = omega arith in
    rw e at (a (q + i - p) (omega arith))

number_same : (m m' : List ℕ) (w p n q : ℕ) → Agree m m' p n → p ≤ q → q + w ≤ p + n → le_at w m' q ≡ le_at w m q
number_same m m' w p n q a l g = le_at-cong w m' m q q (within m m' p n q w a l g)

wide-slot-same : (m m' : List ℕ) (p : ℕ) → Agree m m' p wide_slot_size → wide_slot_of m' p ≡ wide_slot_of m p
unfolding wide_slot_of
wide-slot-same m m' p a =
    let f : (k : ℕ) → k + 4 ≤ 40 → u32_at m' (p + k) ≡ u32_at m (p + k) = λ k g. number_same m m' 4 p 40 (p + k) a (omega arith) (omega arith) in
    let z : u32_at m' p ≡ u32_at m p = number_same m m' 4 p 40 p a (omega arith) (omega arith) in
    λ i. record {
      left = z i;
      bottom = f 4 (omega arith) i;
      right = f 8 (omega arith) i;
      top = f 12 (omega arith) i;
      position = f 16 (omega arith) i;
      len = f 20 (omega arith) i;
      sym = f 24 (omega arith) i;
      status = a 30 (omega arith) i;
    }

module _ (m m' : List ℕ) (p n : ℕ) (a : Agree m m' p n) where
  -- in the object at p
  byte-in : (k : ℕ) → k < n → get_or (drop p m') k 0 ≡ get_or (drop p m) k 0
  byte-in k l = rw (get_or-drop p m' k 0, get_or-drop p m k 0) (a k l)

  number_in : (w k : ℕ) → k + w ≤ n → le_at w (drop p m') k ≡ le_at w (drop p m) k
  number_in w k l = le_at-cong w (drop p m') (drop p m) k k (λ i r. byte-in (k + i) (omega arith))

object-same : (m m' : List ℕ) (p : ℕ) → Agree m m' p 8 → object_of (drop p m') ≡ object_of (drop p m)
unfolding object_of
object-same m m' p a =
    let f : (w k : ℕ) → k + w ≤ 8 → le_at w (drop p m') k ≡ le_at w (drop p m) k = number_in m m' p 8 a in
    let b : get_or (drop p m') 2 0 ≡ get_or (drop p m) 2 0 = byte-in m m' p 8 a 2 (omega arith) in
    λ i. record { sym = f 2 0 (omega arith) i; kind = b i; items = f 2 4 (omega arith) i; texts = f 2 6 (omega arith) i }

wide-object-same : (m m' : List ℕ) (p : ℕ) → Agree m m' p 14 → wide_object_of (drop p m') ≡ wide_object_of (drop p m)
unfolding wide_object_of
wide-object-same m m' p a =
    let f : (w k : ℕ) → k + w ≤ 14 → le_at w (drop p m') k ≡ le_at w (drop p m) k = number_in m m' p 14 a in
    let b : get_or (drop p m') 4 0 ≡ get_or (drop p m) 4 0 = byte-in m m' p 14 a 4 (omega arith) in
    λ i. record { sym = f 4 0 (omega arith) i; kind = b i; items = f 4 8 (omega arith) i; texts = f 2 12 (omega arith) i }

-- ---- chains, and the cells in their blocks

links-same : {m m' : List ℕ} {h : ℕ} {bs : List ℕ} → Links m h bs → u32_at m' h ≡ u32_at m h
    → ((k : ℕ) → k < length bs → u32_at m' (get_or bs k 0) ≡ u32_at m (get_or bs k 0)) → Links m' h bs
links-same (end e) z f = end (z ∙ e)
links-same (link e ne ls) z f = link (z ∙ e) ne (links-same ls (f 0 (omega arith)) (λ k l. f (suc k) (omega arith)))

cell-agrees : (m m' : List ℕ) (w n : ℕ) → 4 + 256 * w ≤ n → (bs : List ℕ) → ((k : ℕ) → k < length bs → Agree m m' (get_or bs k 0) n)
    → (c : ℕ) → c < 256 * length bs → Agree m m' (cell_of bs w c) w
unfolding cell_in
cell-agrees m m' w n fits bs a c l =
    let p : ℕ = get_or bs (c / 256) 0 in
    let j : c % 256 < 256 = omega arith in
    within m m' p n (p + 4 + w * (c % 256)) w (a (c / 256) (omega arith)) (omega arith)
    (omega (arith, mul-le-mul_left w j, mul-add w (c % 256) 1, mul-one w))

-- ---- the conditions of a layout, by the bytes that they speak of: those of a record's Size, of a slot and of an object

record Stays (f : Family) (c : Conditions) (size head : ℕ) (m m' : List ℕ) (used used' : ℕ) : Type 0 where
  fits : 4 + 256 * f.slot ≤ f.block
  header : c.Header m used → c.Header m' used'
  others : (bs : List ℕ) → c.OffOthers m bs → c.OffOthers m' bs
  entry : (bs : List ℕ) (q : ℕ) → Agree m m' q size → c.Record m used bs q → c.Record m' used' bs q
  live : (p : ℕ) → Agree m m' p f.slot → f.live m' p ≡ f.live m p
  slot : (bs : List ℕ) (p : ℕ) → Agree m m' p f.slot → Agree m m' (u32_at m (p + 16)) head → c.LiveSlot m used bs p → c.LiveSlot m' used' bs p

module _ (m m' : List ℕ) (used used' : ℕ) (a : Agree m m' 0 header_size) (grown : used ≤ used') where
  head-same : (w q : ℕ) → q + w ≤ 48 → le_at w m' q ≡ le_at w m q
  head-same w q l = number_same m m' w 0 48 q a (omega arith) (omega arith)

  version-same : version_of m' ≡ version_of m
  version-same = head-same 2 4 (omega arith)

  wider : {p k : ℕ} → Inside used p k → Inside used' p k
  wider i = record { low = i.low; high = omega (arith, i.high) }

  chain_same : {head size : ℕ} {bs : List ℕ} → Chain m used head size bs → head + 4 ≤ 48 → 4 ≤ size
      → ((k : ℕ) → k < length bs → Agree m m' (get_or bs k 0) size) → Chain m' used' head size bs
  chain_same {head} {size} {bs} c l z b =
      record {
        links = links-same c.links (head-same 4 head l) (λ k j. number_same m m' 4 (get_or bs k 0) size (get_or bs k 0) (b k j) (omega arith) (omega arith));
        lies = λ k j. wider (c.lies k j);
        apart = c.apart;
      }

  -- ---- 6 to 8

  header-same : NarrowHeader m used → NarrowHeader m' used'
  header-same h =
      record {
        pair = rw (version-same, head-same 2 2 (omega arith)) h.pair;
        setup = rw (head-same 4 16 (omega arith), head-same 4 20 (omega arith)) (λ ne. wider (h.setup ne));
        info = rw (head-same 4 24 (omega arith), head-same 4 28 (omega arith)) (λ ne. wider (h.info ne));
      }

  parts_same : (bs : List ℕ) → OffParts m bs → OffParts m' bs
  parts_same bs o =
      record {
        setup = rw (head-same 4 16 (omega arith), head-same 4 20 (omega arith)) o.setup;
        info = rw (head-same 4 24 (omega arith), head-same 4 28 (omega arith)) o.info;
      }

  record_same : (bs : List ℕ) (q : ℕ) → Agree m m' q 2 → GoodRecord m used bs q → GoodRecord m' used' bs q
  record_same bs q b g =
      let e : u16_at m' q ≡ u16_at m q = number_same m m' 2 q 2 q b (omega arith) (omega arith) in
      record { start = wider g.start; size = rw e g.size; lies = rw e (wider g.lies); off = rw e g.off }

  live_same : (bs : List ℕ) (t : Slot) → Agree m m' t.position 8 → GoodLive m used bs t → GoodLive m' used' bs t
  live_same bs t b g =
      let e = object-same m m' t.position b in
      record {
        wide = g.wide;
        tall = g.tall;
        len = rw version-same g.len;
        lies = rw version-same (wider g.lies);
        off = rw version-same g.off;
        sym = rw e g.sym;
        kind = rw e g.kind;
        pairs = rw (e, version-same) g.pairs;
      }

  -- ---- 9 to 11

  wide-header-same : WideHeader m used → WideHeader m' used'
  wide-header-same h =
      record { version = rw version-same h.version; kind = rw (version-same, a 2 (omega arith)) h.kind }

  wide-record-same : (bs : List ℕ) (q : ℕ) → Agree m m' q 4 → GoodWideRecord m used bs q → GoodWideRecord m' used' bs q
  wide-record-same bs q b g =
      let e : u32_at m' q ≡ u32_at m q = number_same m m' 4 q 4 q b (omega arith) (omega arith) in
      record { start = wider g.start; size = rw e g.size; lies = rw e (wider g.lies); off = rw e g.off }

  wide-live-same : (bs : List ℕ) (t : WideSlot) → Agree m m' t.position 14 → GoodWideLive m used bs t → GoodWideLive m' used' bs t
  wide-live-same bs t b g =
      let e = wide-object-same m m' t.position b in
      record {
        wide = g.wide;
        tall = g.tall;
        bytes = g.bytes;
        len = rw e g.len;
        lies = wider g.lies;
        off = g.off;
        sym = rw e g.sym;
        kind = rw e g.kind;
      }

  stays : (b : Bool) → Stays (family_for b) (conditions_for b) (size_bytes b) (head_bytes b) m m' used used'
  unfolding slot_of wide_slot_of
  stays true =
      record {
        fits = omega arith;
        header = wide-header-same;
        others = λ bs o. tt;
        entry = wide-record-same;
        live = λ p s. rw (wide-slot-same m m' p s);
        slot = λ bs p s o g. rw (wide-slot-same m m' p s) (wide-live-same bs (wide_slot_of m p) o g);
      }
  stays false =
      record {
        fits = omega arith;
        header = header-same;
        others = parts_same;
        entry = record_same;
        live = λ p s. rw (slot-cong m' m p p s);
        slot = λ bs p s o g. rw (slot-cong m' m p p s) (live_same bs (slot_of m p) o g);
      }

-- ---- the map

module _ (b : Bool) {m m' : List ℕ} {used used' n : ℕ} (h : MeetsOf (family_for b) (conditions_for b) m used n) (f : Footprint b h m') (grown : used ≤ used') (limit : used' ≤ map_limit) (room : used' ≤ length m') where
  layout : Stays (family_for b) (conditions_for b) (size_bytes b) (head_bytes b) m m' used used'
  layout = stays m m' used used' f.header grown b

  entry-same : (e : ℕ) → e < 256 * length h.symbols → u32_at m' (cell_of h.symbols entry_size e) ≡ u32_at m (cell_of h.symbols entry_size e)
  entry-same e l =
      let p : ℕ = cell_of h.symbols entry_size e in
      number_same m m' 4 p 4 p (cell-agrees m m' 4 symbol_block_size (omega arith) h.symbols f.symbol e l) (omega arith) (omega arith)

  slot-agrees : (s : ℕ) → s < 256 * length h.blocks → Agree m m' (cell_of h.blocks (family_for b).slot s) (family_for b).slot
  slot-agrees s l = cell-agrees m m' (family_for b).slot (family_for b).block layout.fits h.blocks f.index s l

  index_same : Chain m' used' index_head (family_for b).block h.blocks
  index_same = chain_same m m' used used' f.header grown h.index (omega arith) (omega (arith, layout.fits)) f.index

  meets-same : MeetsOf (family_for b) (conditions_for b) m' used' n
  meets-same =
      record {
        least = omega (arith, h.least);
        most = limit;
        room = room;
        mark = head-same m m' used used' f.header grown 2 0 (omega arith) ∙ h.mark;
        header = layout.header h.header;
        blocks = h.blocks;
        count = h.count;
        index = index_same;
        off-others = layout.others h.blocks h.off-others;
        symbols = h.symbols;
        symbol = chain_same m m' used used' f.header grown h.symbol (omega arith) (omega arith) f.symbol;
        off-index = h.off-index;
        entries = λ e l. rw (entry-same e l) (λ ne. layout.entry h.blocks _ (f.sizes e l ne) (h.entries e l ne));
        slots = λ s l live.
            let a = slot-agrees s l in
            let was = sym (layout.live (cell_of h.blocks (family_for b).slot s) a) ∙ live in
            layout.slot h.blocks (cell_of h.blocks (family_for b).slot s) a (f.objects s l was) (h.slots s l was);
      }

pub depends-only : DependsOnly
depends-only m m' used used' n h f grown limit room =
    let b : Bool = is_wide (version_of m) in
    let same : is_wide (version_of m') ≡ b = ap is_wide (version-same m m' used used' f.header grown) in (
      (accepted-exactly m' used' n).0 (rw same (meets-same b h f grown limit room)),
      (index_same b h f grown limit room).links,
    )
