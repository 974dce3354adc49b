-- The check answers accepted exactly when the conditions for a map hold. What both layouts share is proved once, for a layout whose tests say what its
-- conditions say (`Faithful`); then that is shown of each of the two. Assumes nothing.
use Prim.Native.Nat.{ℕ, ◌+◌, ◌*◌, ◌≤◌, ◌<◌}
use mathlib.Core.Bool.{Bool, true, false, not, cond, ◌&&◌}
use mathlib.Core.Path.{◌≡◌, refl, sym}
use mathlib.Core.Logic.{inl, inr, ◌↔◌}
use mathlib.Core.List.{List}
use native.Mathlib.Omega.{arith}
use lib.Dec.{eqb}
use lib.ListN.{length, get_or, drop}
use lib.Signed.{le_z}
use borrow.Author.Tests.{eqb-true, eqb-false, eq-eqb, ne_eqb, not-true, not-false}
use Rattle.numbers.specs.Bytes.{u16_at, u32_at}
use Rattle.numbers.specs.Coordinates.{value_of}
use Rattle.numbers.specs.Ranges.{share}
use Rattle.numbers.proofs.Below.{never, or_left, or_snd}
use Rattle.records.specs.declared.Part.{Part}
use Rattle.records.specs.Sizes.{header_size, map_limit, index_block_size, wide_block_size, entry_size, symbol_block_size}
use Rattle.records.specs.Headers.{part_of, setup_at, info_at, index_head, symbol_head, is_wide}
use Rattle.records.specs.Symbols.{size_good}
use Rattle.slots.specs.declared.Slot.{Slot}
use Rattle.slots.specs.declared.State.{State}
use Rattle.slots.specs.declared.State.TheVariants.{Free, Erased, Live}
use Rattle.slots.specs.Slots.{slot_of, state_of, same_state, pairs_of, bytes_in}
use Rattle.slots.specs.Objects.{object_of, type_good}
use Rattle.wide.specs.declared.WideSlot.{WideSlot}
use Rattle.wide.specs.Slots.{wide_slot_of, wide_object_of, wide_type_good, wide_bytes, bytes_by, wide_header_fits, wide_fits, wide_slot_good, wide_bad_slot}
use Rattle.wide.specs.Symbols.{wide_size_good, wide_symbol_good, wide_bad_entry}
use Rattle.chain.specs.Chains.{block, meets_block, inside, Links}
use Rattle.chain.proofs.Cells.{ordered-cell}
use Rattle.chain.proofs.AsList.{links-block, links-walked}
use Rattle.judge.specs.Rules.{Family, narrow, wide, family_for, index_rule_of, symbol_rule_of, touches_of, slot_at_of, entry_at}
use Rattle.judge.specs.Judging.{version_of, header_fits, is_live, slot_good, bad_slot, symbol_good, bad_entry}
use Rattle.judge.proofs.Telling.{and-true, slot_is, slot-tells}
use Rattle.refusals.specs.Refusals.{good}
use Rattle.accept.specs.Verdicts.{header_judged}
use Rattle.accept.specs.Meets.{Inside, Off, GoodRecord, GoodWideRecord, GoodLive, HasBytes, GoodWideLive, Conditions, narrow_conditions, wide_conditions, conditions_for, MeetsOf, AcceptedExactly}
use Rattle.accept.proofs.Verdicts.{header-tells}
use Rattle.accept.proofs.Accepting.{HoldsOf, header-mark, narrow-tells, wide-tells, narrow-header, wide-header, verdict-tells, verdict-is}
use Rattle.accept.proofs.Listed.{inside_of, present-of, keeps-off, off_of, meets-of, chain-of, pass_of, walk-list}

-- ---- for a layout f whose tests say what the conditions c say

record Faithful (f : Family) (c : Conditions) (m : List ℕ) (used : ℕ) : Type 0 where
  some : 0 < f.block
  header : header_size ≤ used → used ≤ map_limit → used ≤ length m → u16_at m 0 ≡ 3245 → (header_judged m used ≡ good) ↔ c.Header m used
  others : (bs : List ℕ) → ((k : ℕ) → k < length bs → f.taboo m (get_or bs k 0) ≡ false) ↔ c.OffOthers m bs
  entry : {bs : List ℕ} → Links m index_head bs → (p : ℕ)
      → (f.entry_at_fault (touches_of f m (length bs)) m used p ≡ false) ↔ ((u32_at m p ≡ 0 → ⊥) → c.Record m used bs (u32_at m p))
  slot : {bs : List ℕ} → Links m index_head bs → (p : ℕ)
      → (f.slot_at_fault (touches_of f m (length bs)) m used p ≡ false) ↔ (f.live m p ≡ true → c.LiveSlot m used bs p)

module _ {f : Family} {c : Conditions} {m : List ℕ} {used : ℕ} (a : Faithful f c m used) where
  meets : (n : ℕ) → HoldsOf f m used n → MeetsOf f c m used n
  meets n h =
      let (bs, count, ls, pass) = walk-list (index_rule_of f m) m used n h.index in
      let (ss, some, links, way) = walk-list (symbol_rule_of f m n) m used h.symbols h.symbol in
      let (least, most, room) = header-tells m used h.header in
      let mark = header-mark m used h.header in
      record {
        least = least;
        most = most;
        room = room;
        mark = mark;
        header = (a.header least most room mark).0 h.header;
        blocks = bs;
        count = count;
        index = chain-of (index_rule_of f m) ls pass;
        off-others = (a.others bs).0 (λ k l. rw (links-block ls k l) (pass.lies k l).allowed);
        symbols = ss;
        symbol = chain-of (symbol_rule_of f m n) links way;
        off-index = λ k l. rw (links-block links k l) (off_of ls f.block (block symbol_head m k) symbol_block_size (rw count (way.lies k l).allowed));
        entries = λ e l.
            rw (sym (ordered-cell symbol_head entry_size m (length ss) ss (links-block links) e l))
            ((a.entry ls (entry_at m e)).0 (rw count (h.entry e (rw some at l))));
        slots = λ s l.
            rw (sym (ordered-cell index_head f.slot m (length bs) bs (links-block ls) s l))
            ((a.slot ls (slot_at_of f m s)).0 (rw count (h.slot s (rw count at l))));
      }

  holds : (n : ℕ) → MeetsOf f c m used n → HoldsOf f m used n
  holds n h =
      let bs : List ℕ = h.blocks in
      let ss : List ℕ = h.symbols in
      let ls : Links m index_head bs = h.index.links in
      let links : Links m symbol_head ss = h.symbol.links in
      let off : (k : ℕ) → k < length ss → (symbol_rule_of f m (length bs)).taboo (get_or ss k 0) ≡ false =
      λ k l. meets-of ls f.block (get_or ss k 0) symbol_block_size (h.off-index k l) in
      rw (sym h.count)
      (record {
        header = (a.header h.least h.most h.room h.mark).1 h.header;
        index = links-walked (index_rule_of f m) m used a.some ls (pass_of (index_rule_of f m) h.index ((a.others bs).1 h.off-others));
        symbols = length ss;
        symbol = links-walked (symbol_rule_of f m (length bs)) m used (omega arith) links (pass_of (symbol_rule_of f m (length bs)) h.symbol off);
        entry = λ e l.
            (a.entry ls (entry_at m e)).1
            (rw (ordered-cell symbol_head entry_size m (length ss) ss (links-block links) e l) (h.entries e l));
        slot = λ s l.
            (a.slot ls (slot_at_of f m s)).1
            (rw (ordered-cell index_head f.slot m (length bs) bs (links-block ls) s l) (h.slots s l));
      })

-- ---- a test that is made where something counts

judged : {C G : Type 0} (a b : Bool) → (C ↔ (a ≡ true)) → ((b ≡ true) ↔ G) → (a && not b ≡ false) ↔ (C → G)
judged a b c g = (λ e k. g.0 (told a (c.0 k) e), λ h. shown a (λ e. g.1 (h (c.1 e))))
  where
    told : (a : Bool) → a ≡ true → a && not b ≡ false → b ≡ true
    told true k e = not-false b e
    told false k e = absurd (never (sym k))

    shown : (a : Bool) → (a ≡ true → b ≡ true) → a && not b ≡ false
    shown true h = rw (h refl)
    shown false h = refl

-- an entry counts where it is not 0
entry-used : (x : ℕ) → (x ≡ 0 → ⊥) ↔ (not (eqb x 0) ≡ true)
entry-used x = (λ ne. rw (ne_eqb x 0 ne), λ e. eqb-false x 0 (not-true (eqb x 0) e))

-- a slot of 6 to 8 where it is live
slot-live : (k : State) → (same_state Live k ≡ true) ↔ (is_live k ≡ true)
slot-live Free = (λ e. e, λ e. e)
slot-live Erased = (λ e. e, λ e. e)
slot-live Live = (λ e. e, λ e. e)

-- ---- symbol records

module _ {m : List ℕ} {bs : List ℕ} (ls : Links m index_head bs) (used q : ℕ) where
  -- the first s bytes say the size n, which is good by g; a block has w bytes
  recorded : (w s n : ℕ) (g : Bool)
      → (inside used s q && (g && (inside used n q && not (meets_block index_head w m (length bs) q n))) ≡ true) ↔ (Inside used q s × (g ≡ true) × Inside used q n × Off bs w q n)
  recorded w s n g = (
    λ e.
        let a = and-true (inside used s q) _ e in
        let b = and-true g _ a.1 in
        let c = and-true (inside used n q) _ b.1 in
        ((inside_of used q s).0 a.0, b.0, (inside_of used q n).0 c.0, off_of ls w q n (not-true _ c.1)),
    λ (i, k, j, o). rw ((inside_of used q s).1 i, k, (inside_of used q n).1 j, meets-of ls w q n o),
  )

  record_of_lem : (symbol_good (touches_of narrow m (length bs)) m used q ≡ true) ↔ GoodRecord m used bs q
  unfolding symbol_good
  record_of_lem =
      let r = recorded index_block_size 2 (u16_at m q) (size_good (u16_at m q)) in (
        λ e. let t = r.0 e in record { start = t.0; size = t.1; lies = t.2; off = t.3 },
        λ g. r.1 (g.start, g.size, g.lies, g.off),
      )

  wide-record-of : (wide_symbol_good (touches_of wide m (length bs)) m used q ≡ true) ↔ GoodWideRecord m used bs q
  unfolding wide_symbol_good
  wide-record-of =
      let r = recorded wide_block_size 4 (u32_at m q) (wide_size_good (u32_at m q)) in (
        λ e. let t = r.0 e in record { start = t.0; size = t.1; lies = t.2; off = t.3 },
        λ g. r.1 (g.start, g.size, g.lies, g.off),
      )

-- ---- live slots

-- the two meanings of a Len in 9 to 11 exclude each other
bytes-tell : (len k : ℕ) → (wide_bytes len k ≡ 0 → ⊥) → HasBytes len k (wide_bytes len k)
unfolding wide_bytes
bytes-tell len k = go (eqb len (40 + 8 * k)) refl (eqb len k) refl
  where
    go : (a : Bool) → eqb len (40 + 8 * k) ≡ a → (b : Bool) → eqb len k ≡ b
        → (cond a len (cond b (32 + 8 * len) 0) ≡ 0 → ⊥) → HasBytes len k (cond a len (cond b (32 + 8 * len) 0))
    go true p b q ne = inr (eqb-true len (40 + 8 * k) p, refl)
    go false p true q ne = inl (eqb-true len k q, refl)
    go false p false q ne = absurd (ne refl)

bytes-are : (len k bytes : ℕ) → HasBytes len k bytes → (wide_bytes len k ≡ bytes) × (bytes ≡ 0 → ⊥)
unfolding wide_bytes
bytes-are len k bytes (inl (e, b)) =
    (rw (ne_eqb len (40 + 8 * k) (λ s. omega arith), eq-eqb len k e) (sym b), λ z. omega arith)
bytes-are len k bytes (inr (e, b)) = (rw (eq-eqb len (40 + 8 * k) e) (sym b), λ z. omega arith)

module _ {m : List ℕ} {bs : List ℕ} (ls : Links m index_head bs) (used : ℕ) where
  live_of : (t : Slot) → (slot_good (touches_of narrow m (length bs)) m used (version_of m) t ≡ true) ↔ GoodLive m used bs t
  unfolding header_fits
  live_of t =
      let o = object_of (drop t.position m) in
      let n = bytes_in (version_of m) t.len in (
        λ e.
            let g = slot-tells (touches_of narrow m (length bs)) m used (version_of m) t e in
            let a = and-true (eqb o.sym t.sym) _ g.fits in
            let b = and-true (type_good o.kind) _ a.1 in
            record {
              wide = g.wide;
              tall = g.high;
              len = g.len;
              lies = record { low = g.low; high = g.end };
              off = off_of ls index_block_size t.position n g.off;
              sym = eqb-true o.sym t.sym a.0;
              kind = b.0;
              pairs = eqb-true (o.items + o.texts) (pairs_of (version_of m) t.len) b.1;
            },
        λ g.
            slot_is
            (record {
              wide = g.wide;
              high = g.tall;
              len = g.len;
              low = g.lies.low;
              end = g.lies.high;
              off = meets-of ls index_block_size t.position n g.off;
              fits = rw (eq-eqb o.sym t.sym g.sym, g.kind, eq-eqb (o.items + o.texts) (pairs_of (version_of m) t.len) g.pairs);
            }),
      )

  wide-live-of : (t : WideSlot) → (wide_slot_good (touches_of wide m (length bs)) m used t ≡ true) ↔ GoodWideLive m used bs t
  unfolding wide_slot_good wide_fits wide_header_fits
  wide-live-of t =
      let o = wide_object_of (drop t.position m) in
      let n = bytes_by t o in (
        λ e.
            let a = and-true (le_z (value_of t.left) (value_of t.right)) _ e in
            let b = and-true (le_z (value_of t.bottom) (value_of t.top)) _ a.1 in
            let c = and-true (wide_header_fits o t) _ b.1 in
            let d = and-true (inside used n t.position) _ c.1 in
            let x = and-true (eqb o.sym t.sym) _ c.0 in
            let y = and-true (wide_type_good o.kind) _ x.1 in
            record {
              wide = a.0;
              tall = b.0;
              bytes = n;
              len = bytes-tell t.len (o.items + o.texts) (eqb-false n 0 (not-true _ y.1));
              lies = (inside_of used t.position n).0 d.0;
              off = off_of ls wide_block_size t.position n (not-true _ d.1);
              sym = eqb-true o.sym t.sym x.0;
              kind = y.0;
            },
        λ g.
            let b = bytes-are t.len (o.items + o.texts) g.bytes g.len in
            rw (
              g.wide,
              g.tall,
              eq-eqb o.sym t.sym g.sym,
              g.kind,
              b.0,
              ne_eqb g.bytes 0 b.1,
              (inside_of used t.position g.bytes).1 g.lies,
              meets-of ls wide_block_size t.position g.bytes g.off,
            ),
      )

-- ---- the two layouts

module _ (m : List ℕ) (used : ℕ) where
  narrow-faithful : is_wide (version_of m) ≡ false → Faithful narrow narrow_conditions m used
  unfolding bad_slot bad_entry
  narrow-faithful w =
      let p : Part = part_of m setup_at in
      let q : Part = part_of m info_at in
      record {
        some = omega arith;
        header = λ least most room mark. (
          λ e.
              let t = narrow-tells m used w e in
              record { pair = t.0; setup = (present-of used p).0 t.1; info = (present-of used q).0 t.2 },
          λ h. narrow-header m least most room mark w h.pair ((present-of used p).1 h.setup) ((present-of used q).1 h.info),
        );
        others = λ bs. (
          λ h.
              record {
                setup = λ k l. (keeps-off (get_or bs k 0) index_block_size p).0 (or_left (share p.at p.size (get_or bs k 0) index_block_size) _ (h k l));
                info = λ k l. (keeps-off (get_or bs k 0) index_block_size q).0 (or_snd (share p.at p.size (get_or bs k 0) index_block_size) _ (h k l));
              },
          λ o k l. rw ((keeps-off (get_or bs k 0) index_block_size p).1 (o.setup k l), (keeps-off (get_or bs k 0) index_block_size q).1 (o.info k l)),
        );
        entry = λ ls x. judged _ _ (entry-used (u32_at m x)) (record_of_lem ls used (u32_at m x));
        slot = λ ls x. judged _ _ (slot-live (state_of (slot_of m x))) (live_of ls used (slot_of m x));
      }

  wide-faithful : is_wide (version_of m) ≡ true → Faithful wide wide_conditions m used
  unfolding wide_bad_slot wide_bad_entry
  wide-faithful w =
      record {
        some = omega arith;
        header = λ least most room mark.
            (λ e. record { version = w; kind = wide-tells m used w e }, λ h. wide-header m least most room mark w h.kind);
        others = λ bs. (λ h. tt, λ o k l. refl);
        entry = λ ls x. judged _ _ (entry-used (u32_at m x)) (wide-record-of ls used (u32_at m x));
        slot = λ ls x. judged _ _ (λ e. e, λ e. e) (wide-live-of ls used (wide_slot_of m x));
      }

  faithful : (b : Bool) → is_wide (version_of m) ≡ b → Faithful (family_for b) (conditions_for b) m used
  faithful true w = wide-faithful w
  faithful false w = narrow-faithful w

pub accepted-exactly : AcceptedExactly
accepted-exactly m used n =
    let a = faithful m used (is_wide (version_of m)) refl in
    (λ h. verdict-is (holds a n h), λ e. meets a n (verdict-tells m used n e))
