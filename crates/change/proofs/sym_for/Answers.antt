-- `change::sym_for` meets its contract: a slot that does not exist has none, a live one may be removed, and an erased one is tested by the table, which is the
-- test of the whole map. Assumes nothing.
use mathlib.Core.Path.{◌≡◌, sym, ap, ◌∙◌}
use mathlib.Core.List.{List}
use Prim.Native.Nat.{ℕ}
use native.Mathlib.Omega.{arith}
use borrow.Author.Rules.{rules}
use Rattle.std.specs.Bool.{Decides}
use Rattle.slots.specs.declared.Slot.{Slot}
use Rattle.slots.specs.declared.Found.{Found}
use Rattle.slots.specs.declared.State.TheVariants.{Erased, Live}
use Rattle.slots.specs.Slots.{found_at, state_of}
use Rattle.records.specs.declared.EditKind.TheVariants.{Remove}
use Rattle.records.specs.Kinds.{code_of}
use Rattle.records.specs.Sizes.{index_block_size}
use Rattle.chain.specs.Tables.{ends_meet}
use Rattle.judge.specs.Rules.{slot_at}
use Rattle.accept.proofs.Accepting.{accepted-tells}
use Rattle.frame.proofs.Writes.{slot-lies}
use Rattle.accept.specs.Slots.{slot_in}
use Rattle.change.specs.NewSyms.{sym_to_reinstate}
use Rattle.edit.proofs.Edits.{few-blocks}
use Rattle.change.proofs.Changing.{kind-other, beyond-has, sym-neither, sym-remove, sym-reinstate-none, sym-reinstate, erased-len, reinstate-by}
use Rattle.change.proofs.sym_for.Goals as goal

-- the slot as it was read, at its place
read : (m : List ℕ) (s : ℕ) {p : ℕ} {f : Found} → p ≡ slot_at m s → f ≡ found_at m p → (state_of (slot_in m s) ≡ f.state) × (slot_in m s ≡ f.slot)
unfolding found_at slot_in
read m s q e = let g = rw q at e in (sym (ap (λ (f : Found). f.state) g), sym (ap (λ (f : Found). f.slot) g))

pub overflow_mul-n : goal.overflow_mul-n
overflow_mul-n c =
    let a = c.args in
    omega (arith, few-blocks (accepted-tells a.m.now a.used a.n c.requires.0))

pub returns-then-n-s : goal.returns-then-n-s
returns-then-n-s c =
    let a = c.args in
    let m = a.m.now in
    sym (sym-neither (code_of a.kind) m a.used a.n a.at (beyond-has Live m a.n a.at c.if-n-s.true) (beyond-has Erased m a.n a.at c.if-n-s.true))

pub read_slot-found-requires : goal.read_slot-found-requires
read_slot-found-requires c =
    let a = c.args in
    let h = accepted-tells a.m.now a.used a.n c.requires.0 in
    omega (arith, c.place_of.ensures a.m.now a.n c.requires.1.ordered c.if-n-s.false, (slot-lies h a.at c.if-n-s.false).high, h.room)

pub returns-then-eq : goal.returns-then-eq
returns-then-eq c =
    let a = c.args in
    let l = c.if-n-s.false in
    let r = read a.m.now a.at (c.place_of.ensures a.m.now a.n c.requires.1.ordered l) c.read_slot-found.ensures in
    let removes : c.args.kind ≡ Remove = search rules in
    let lives : Decides c.eq-then-eq.result (c.read_slot-found.result.state ≡ Live) = search rules in
    c.then_some.ensures ∙ sym-remove (code_of a.kind) a.m.now a.used a.n a.at (ap code_of removes) l r.0 lives

pub returns-then-ne : goal.returns-then-ne
returns-then-ne c =
    let a = c.args in
    let l = c.if-n-s.false in
    let r = read a.m.now a.at (c.place_of.ensures a.m.now a.n c.requires.1.ordered l) c.read_slot-found.ensures in
    let other : c.args.kind ≡ Remove → ⊥ = search rules in
    let unmarked : c.read_slot-found.result.state ≡ Erased → ⊥ = search rules in
    sym (sym-reinstate-none (code_of a.kind) a.m.now a.used a.n a.at (kind-other a.kind other) l (λ e. unmarked (sym r.0 ∙ e)))

pub new-requires : goal.new-requires
new-requires c =
    let h = accepted-tells c.args.m.now c.args.used c.args.n c.requires.0 in
    record { limit = h.limit; room = h.room; wide = c.requires.2; filled = c.requires.1.filled }

pub sym_to_reinstate-requires : goal.sym_to_reinstate-requires
sym_to_reinstate-requires c =
    let a = c.args in
    let h = accepted-tells a.m.now a.used a.n c.requires.0 in
    let r = read a.m.now a.at (c.place_of.ensures a.m.now a.n c.requires.1.ordered c.if-n-s.false) c.read_slot-found.ensures in
    let marked : c.read_slot-found.result.state ≡ Erased = search rules in (
      rw c.new.ensures.1 h.low,
      λ z. erased-len (slot_in a.m.now a.at) (r.0 ∙ marked) (ap (λ (t : Slot). t.len) r.1 ∙ z),
    )

pub returns : goal.returns
returns c =
    let a = c.args in
    let l = c.if-n-s.false in
    let r = read a.m.now a.at (c.place_of.ensures a.m.now a.n c.requires.1.ordered l) c.read_slot-found.ensures in
    let other : c.args.kind ≡ Remove → ⊥ = search rules in
    let marked : c.read_slot-found.result.state ≡ Erased = search rules in
    let e = c.new.ensures in
    c.sym_to_reinstate.ensures
    ∙ (λ i. sym_to_reinstate (ends_meet index_block_size (e.2 i)) (e.0 i) (e.1 i) c.read_slot-found.result.slot)
    ∙ ap (λ (t : Slot). sym_to_reinstate (ends_meet index_block_size a.index.now) a.m.now a.used t) (sym r.1)
    ∙ reinstate-by (accepted-tells a.m.now a.used a.n c.requires.0) (λ i. (c.type_inv.m i).fits) a.at l (r.0 ∙ marked) c.requires.1.table
    ∙ sym (sym-reinstate (code_of a.kind) a.m.now a.used a.n a.at (kind-other a.kind other))
