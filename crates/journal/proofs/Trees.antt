-- The laws of the trees of a journal jn's numbers: what link a number comes down to, that it tells whether one of the records has the number, and that a record
-- put there is in the trees. Assumes nothing.
use Prim.Native.Nat.{ℕ, zero, suc, ◌+◌, ◌-◌, ◌*◌, ◌/◌, ◌%◌, ◌≤◌, ◌<◌}
use mathlib.Core.Bool.{true, false}
use mathlib.Core.Path.{◌≡◌, refl, ◌∙◌}
use mathlib.Core.Logic.{⊎_elim}
use mathlib.Core.List.{List}
use native.Mathlib.Decide.{ℕ_discrete}
use native.Mathlib.Nat.{div-lt_iff_lt-mul, mod-lt, mul_comm, mul-lt-mul_of_pos_right}
use native.Mathlib.Omega.{arith}
use lib.Dec.{eqb}
use lib.ListN.{length, get_or, set, length-set}
use lib.Seq.{get_or-set_same, get_or-set_other}
use borrow.Author.Count.{below_none, below_more}
use borrow.Author.Tests.{eq-eqb, ne_eqb}
use Rattle.numbers.specs.Below.{any}
use Rattle.numbers.proofs.Below.{any_at, any_none}
use Rattle.numbers.proofs.Coordinates.{lt-or-ge}
use Rattle.records.specs.Sizes.{journal_record_size}
use Rattle.journal.specs.Journals.{record_in}
use Rattle.journal.specs.Trees.{bits_of, link_of, Down, Linked, Planted, Comes}

-- a number of 32 bits, spread over b trees
pub spread-below : (b e : ℕ) → 0 < b → e % 4294967296 * b < b * 4294967296
spread-below b e z = rw (mul_comm b 4294967296) (mul-lt-mul_of_pos_right (mod-lt e (omega arith)) z)

root_below : (b : ℕ) (l : List ℕ) (e : ℕ) → 0 < b → link_of b l e 0 < b
unfolding link_of bits_of
root_below b l e z = (div-lt_iff_lt-mul {k = 4294967296} {x = e * 2654435769 % 4294967296 * b} {y = b} (omega arith)).1 (spread-below b (e * 2654435769) z)

-- the next link is one of the two below the record
step-within : (b : ℕ) (l : List ℕ) (e d : ℕ) → link_of b l e (suc d) < b + 2 * (get_or l (link_of b l e d) 0 - 1) + 2
unfolding link_of bits_of
step-within b l e d = omega arith

-- a number comes down to a root, or to a link below one of the records that are there
pub down-within : {b : ℕ} {jn l : List ℕ} {i e at : ℕ} → 0 < b → Linked b jn l i → Down b l e at → at < b + 2 * i
down-within {b} {jn} {l} {i} {e} {at} z t w = rw w.stands (go w.steps w.links)
  where
    go : (d : ℕ) → ((c : ℕ) → c < d → 0 < get_or l (link_of b l e c) 0) → link_of b l e d < b + 2 * i
    go zero h = omega (arith, root_below b l e z)
    go (suc d) h = omega (arith, step-within b l e d, h d (omega arith), t.within (link_of b l e d))

-- so it comes down to one of the links
pub planted_within : {jn l : List ℕ} {e at : ℕ} → Planted jn l → Down (length l / 2) l e at → at < length l
planted_within p w = omega (arith, down-within (omega (arith, p.some)) p.trees.1 w, p.trees.1.room)

-- number e has come down to `at`, with so many bits left, past records of other numbers
pub record Going (b : ℕ) (jn l : List ℕ) (e bits at : ℕ) : Type 0 where
  pub down : Down b l e at
  pub left : bits ≡ bits_of b e down.steps
  pub others : (c : ℕ) → c < down.steps → (record_in jn (get_or l (link_of b l e c) 0 - 1)).number ≡ e → ⊥

pub going-first : (b : ℕ) (jn l : List ℕ) (e : ℕ) {bits : ℕ} → bits ≡ bits_of b e 0 → Going b jn l e bits (bits / 4294967296)
unfolding link_of
going-first b jn l e q = record { down = record { steps = 0; links = below_none _; stands = rw q }; left = q; others = below_none _ }

module _ {b : ℕ} {jn l : List ℕ} {e bits at : ℕ} (g : Going b jn l e bits at) where
  -- the record looked at has another number: a step down
  pub going_on : 0 < get_or l at 0 → ((record_in jn (get_or l at 0 - 1)).number ≡ e → ⊥)
      → Going b jn l e (bits % 4294967296 * 2) (b + 2 * (get_or l at 0 - 1) + bits % 4294967296 * 2 / 4294967296)
  unfolding link_of bits_of
  going_on v new =
      let d = g.down.steps in
      record {
        down = record { steps = suc d; links = λ c h. below_more _ d g.down.links (rw (← g.down.stands) v) c (omega arith); stands = rw (← g.down.stands, ← g.left) };
        left = rw (← g.left);
        others = λ c h. below_more _ d g.others (rw (← g.down.stands) new) c (omega arith);
      }

  pub going-none : get_or l at 0 ≡ 0 → Comes b jn l e at
  going-none z = record { down = g.down; others = g.others; own = λ v. let no_way : ⊥ = omega arith in absurd no_way }

  pub going-found : (record_in jn (get_or l at 0 - 1)).number ≡ e → Comes b jn l e at
  going-found q = record { down = g.down; others = g.others; own = λ v. q }

-- what a number comes to tells whether one of the records has it
module _ {b : ℕ} {jn l : List ℕ} {i e at : ℕ} (t : Linked b jn l i) (w : Comes b jn l e at) where
  pub comes-has : 0 < get_or l at 0 → any (λ (k : ℕ). eqb (record_in jn k).number e) i ≡ true
  comes-has v = any_at _ {i = get_or l at 0 - 1} i (omega (arith, t.within at)) (eq-eqb _ _ (w.own v))

  pub comes-none : get_or l at 0 ≡ 0 → any (λ (k : ℕ). eqb (record_in jn k).number e) i ≡ false
  comes-none z = any_none _ i (λ k h. ne_eqb _ _ (λ p. go k p (t.leads k h)))
    where
      go : (k : ℕ) → (record_in jn k).number ≡ e → ((p : ℕ) × Down b l (record_in jn k).number p × (get_or l p 0 ≡ k + 1)) → ⊥
      go k p f =
          let u : Down b l e f.0 = rw p at f.1 in
          let v : get_or l (link_of b l e u.steps) 0 ≡ k + 1 = rw (← u.stands) f.2 in
          let x : get_or l (link_of b l e w.down.steps) 0 ≡ 0 = rw (← w.down.stands) z in
          let same : k + 1 - 1 ≡ k = omega arith in
          ⊎_elim
          (λ s. w.others u.steps s (rw (v, same) p))
          (λ s.
          elim (ℕ_discrete w.down.steps u.steps) [
            | yes q ↦ omega (arith, v, rw q at x)
            | no q ↦ omega (arith, x, u.links w.down.steps (omega arith))
          ])
          (lt-or-ge u.steps w.down.steps)

-- a link that is 0 is set: who came down without it comes down as before
module _ (b : ℕ) (l : List ℕ) (at v : ℕ) (z : get_or l at 0 ≡ 0) where
  other : (p : ℕ) → 0 < get_or l p 0 → get_or (set l at v) p 0 ≡ get_or l p 0
  other p h = get_or-set_other l at p v 0 (λ q. omega (arith, z, rw q at h))

  link_stays : (e d : ℕ) → ((c : ℕ) → c < d → 0 < get_or l (link_of b l e c) 0) → link_of b (set l at v) e d ≡ link_of b l e d
  unfolding link_of
  link_stays e zero h = refl
  link_stays e (suc d) h = rw (link_stays e d (λ c k. h c (omega arith)), other _ (h d (omega arith)))

  down-stays : (e p : ℕ) → Down b l e p → Down b (set l at v) e p
  down-stays e p w =
      record {
        steps = w.steps;
        links = λ c k. rw (link_stays e c (λ a h. w.links a (omega arith)), other _ (w.links c k)) (w.links c k);
        stands = rw (link_stays e w.steps w.links) w.stands;
      }

-- record i is put at the link that its number comes to
pub linked-more : {b : ℕ} {jn l : List ℕ} {i at : ℕ} → 0 < b → Linked b jn l i → Comes b jn l (record_in jn i).number at → get_or l at 0 ≡ 0
    → journal_record_size * (i + 1) ≤ length jn → b + 2 * (i + 1) ≤ length l → Linked b jn (set l at (i + 1)) (i + 1)
linked-more {b} {jn} {l} {i} {at} y t w z inside room =
    let low = down-within y t w.down in
    let here : get_or (set l at (i + 1)) at 0 ≡ i + 1 = get_or-set_same l at (i + 1) 0 (omega (arith, low)) in
    record {
      inside = inside;
      room = simp length-set room;
      within = λ p.
          elim (ℕ_discrete p at) [
            | yes q ↦ rw (q, here) (omega arith)
            | no q ↦ rw (get_or-set_other l at p (i + 1) 0 q) (omega (arith, t.within p))
          ];
      rises = λ p h.
          elim (ℕ_discrete p at) [
            | yes q ↦ rw (q, here) (omega (arith, low))
            | no q ↦ rw (get_or-set_other l at p (i + 1) 0 q) (t.rises p (rw (get_or-set_other l at p (i + 1) 0 q) at h))
          ];
      leads =
          below_more _ i
          (λ k h. let f = t.leads k h in (f.0, down-stays b l at _ z _ _ f.1, other b l at _ z _ (omega (arith, f.2)) ∙ f.2))
          (at, down-stays b l at _ z _ _ w.down, here);
    }
