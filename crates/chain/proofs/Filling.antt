-- The laws of filling a table, an entry at a time: it makes a filled one of the table that a walk leaves, and it keeps the blocks. They go by the starts that a
-- table of ends tells. Assumes nothing.
use Prim.Native.Nat.{ℕ, zero, suc, ◌+◌, ◌-◌, ◌*◌, ◌/◌, ◌≤◌, ◌<◌}
use mathlib.Core.Bool.{Bool, true, false}
use mathlib.Core.Path.{◌≡◌, refl, sym, ap, ◌∙◌}
use mathlib.Core.List.{List, ◌++◌}
use mathlib.Core.Logic.{⊎_elim}
use borrow.Author.Tests.{ltb-true, ltb-false, eq-eqb, ne_eqb}
use native.Mathlib.Numerals.{add-one}
use native.Mathlib.Decide.{ℕ_discrete}
use native.Mathlib.Omega.{arith}
use lib.Dec.{ltb}
use Rattle.std.proofs.lemmas.List.{get_or-take, get_or-append_right, get_or-drop}
use lib.ListN.{get_or, get_or-append, length, set, take, drop}
use lib.Seq.{get_or-set_same, get_or-set_other}
use borrow.Author.Count.{below_more}
use Rattle.numbers.proofs.Below.{below-cases}
use Rattle.chain.specs.Chains.{Rule, block}
use Rattle.chain.specs.Tables.{Placed, Table, last_below, end_of, starts_of, Carried, LastStarts, Filled, EndsTable}
use Rattle.chain.proofs.Chains.{Pass}
use Rattle.chain.proofs.Pigeon.{div-lt, div_mono}
use Rattle.chain.proofs.Tables.{starts-at}

-- ---- the last entry below b

module _ (t : List ℕ) where
  suc-empty : (b : ℕ) → get_or t b 0 ≡ 0 → last_below t (suc b) ≡ last_below t b
  unfolding last_below
  suc-empty b e = rw (eq-eqb (get_or t b 0) 0 e)

  suc-full : (b : ℕ) → (get_or t b 0 ≡ 0 → ⊥) → last_below t (suc b) ≡ get_or t b 0
  unfolding last_below
  suc-full b e = rw (ne_eqb (get_or t b 0) 0 e)

  below-empty : (b : ℕ) → get_or t b 0 ≡ 0 → last_below t (b + 1) ≡ last_below t b
  below-empty b e = rw add-one (suc-empty b e)

  below-full : (b : ℕ) → (get_or t b 0 ≡ 0 → ⊥) → last_below t (b + 1) ≡ get_or t b 0
  below-full b e = rw add-one (suc-full b e)

  module _ {w : ℕ} (p : Placed w t) where
    -- it is a block that stands at its own page, below b
    below-home : (b : ℕ) → (last_below t b ≡ 0 → ⊥) → (last_below t b / w + 1 < b) × (get_or t (last_below t b / w + 1) 0 ≡ last_below t b)
    unfolding last_below
    below-home zero ne = absurd (ne refl)
    below-home (suc b) ne =
        elim (ℕ_discrete (get_or t b 0) 0) [
          | yes e ↦ let s = suc-empty b e in let i = below-home b (λ g. ne (s ∙ g)) in rw s (omega (arith, i.0), i.1)
          | no e ↦ let s = suc-full b e in let o = p.own b e in rw s (omega arith, ap (λ (x : ℕ). get_or t x 0) o)
        ]

    -- and no block below b is past it
    below_last : 0 < w → (b c : ℕ) → c < b → (get_or t c 0 ≡ 0 → ⊥) → get_or t c 0 ≤ last_below t b
    below_last z zero c l ne = absurd (omega arith)
    below_last z (suc b) c l ne =
        elim (ℕ_discrete (get_or t b 0) 0) [
          | yes e ↦ rw (suc-empty b e) (⊎_elim (λ (q : c ≡ b). absurd (ne (ap (λ (x : ℕ). get_or t x 0) q ∙ e))) (λ g. below_last z b c g ne) (below-cases l))
          | no e ↦ rw (suc-full b e) (⊎_elim (λ (q : c ≡ b). rw q (omega arith)) (λ g. let o = p.own b e in let i = p.own c ne in omega (arith, div-lt (get_or t c 0) (get_or t b 0) w z (omega arith))) (below-cases l))
        ]

-- ---- ends and starts

end_none : (n : ℕ) {p : ℕ} → p ≡ 0 → end_of n p ≡ 0
unfolding end_of
end_none n {p} e = rw (eq-eqb p 0 e)

end-some : (n : ℕ) {p : ℕ} → (p ≡ 0 → ⊥) → end_of n p ≡ p + n
unfolding end_of
end-some n {p} ne = rw (ne_eqb p 0 ne)

-- the start of the block that ends there
end-start : (n p : ℕ) → end_of n p - n ≡ p
end-start n p =
    elim (ℕ_discrete p 0) [
      | yes e ↦ omega (arith, end_none n e)
      | no e ↦ omega (arith, end-some n e)
    ]

-- what ends is past the bytes of a block
end-past : (n p : ℕ) → (end_of n p ≡ 0 → ⊥) → n < end_of n p
end-past n p ne =
    elim (ℕ_discrete p 0) [
      | yes e ↦ absurd (ne (end_none n e))
      | no e ↦ omega (arith, end-some n e)
    ]

-- ---- filling, an entry at a time

pub carried_none : (n : ℕ) (t : List ℕ) → Carried n 0 t t
carried_none n t = record { below = λ b l. absurd (omega arith); above = λ b l. refl }

pub last_none : (n : ℕ) (t : List ℕ) → 0 ≡ end_of n (last_below t 0)
unfolding last_below
last_none n t = sym (end_none n refl)

module _ {n b : ℕ} {t t' : List ℕ} (c : Carried n b t t') where
  -- the next entry has a block of its own, or it gets the last one
  pub last-full : (get_or t' b 0 ≡ 0 → ⊥) → get_or t' b 0 + n ≡ end_of n (last_below t (b + 1))
  last-full ne =
      let s = c.above b (omega arith) in
      let f = below-full t b (λ g. ne (s ∙ g)) in
      rw f (omega (arith, s, end-some n (λ g. ne (s ∙ g))))

  pub last_empty : get_or t' b 0 ≡ 0 → {last : ℕ} → last ≡ end_of n (last_below t b) → last ≡ end_of n (last_below t (b + 1))
  last_empty e l = l ∙ ap (end_of n) (sym (below-empty t b (sym (c.above b (omega arith)) ∙ e)))

  pub carried-more : b < length t' → {last : ℕ} → last ≡ end_of n (last_below t (b + 1)) → Carried n (b + 1) t (set t' b last)
  carried-more fits {last} l =
      record {
        below = below_more (λ (d : ℕ). get_or (set t' b last) d 0 ≡ end_of n (last_below t (d + 1))) b
            (λ d g. get_or-set_other t' b d last 0 (omega arith) ∙ c.below d g)
            (get_or-set_same t' b last 0 fits ∙ l);
        above = λ d g. get_or-set_other t' b d last 0 (omega arith) ∙ c.above d (omega arith);
      }

-- the front of a table alone is filled
last-below-front : (k : ℕ) (t : List ℕ) (b : ℕ) → b ≤ k → last_below (take k t) b ≡ last_below t b
unfolding last_below
last-below-front k t zero l = refl
last-below-front k t (suc b) l = rw (get_or-take k t b 0 (omega arith), last-below-front k t b (omega arith))

pub carried-front : {n k : ℕ} {t t' : List ℕ} → length t' ≡ k → Carried n k (take k t) t' → Carried n k t (t' ++ drop k t)
carried-front {n} {k} {t} {t'} e c =
    record {
      below = λ b l. get_or-append t' (drop k t) 0 b (omega arith) ∙ c.below b l ∙ ap (end_of n) (last-below-front k t (b + 1) (omega arith));
      above = λ b l. get_or-append_right t' (drop k t) k b 0 e l ∙ get_or-drop k t (b - k) 0 ∙ ap (λ (i : ℕ). get_or t i 0) (omega arith);
    }

-- ---- filling, where no block stands past the entries that are filled

module _ {n w k : ℕ} {t t' : List ℕ} (p : Placed w t) (c : Carried n k t t') (rest : (b : ℕ) → k ≤ b → get_or t b 0 ≡ 0) where
  s' : List ℕ
  s' = starts_of n t'

  below : (b : ℕ) → b < k → get_or s' b 0 ≡ last_below t (b + 1)
  unfolding s'
  below b l = omega (arith, starts-at n t' b, c.below b l, end-start n (last_below t (b + 1)))

  above : (b : ℕ) → k ≤ b → get_or s' b 0 ≡ get_or t b 0
  unfolding s'
  above b l = omega (arith, starts-at n t' b, c.above b l, rest b l)

  -- an entry that had a block has it
  stays : (b : ℕ) → (get_or t b 0 ≡ 0 → ⊥) → get_or s' b 0 ≡ get_or t b 0
  stays b ne = go (ltb b k) refl
    where
      go : (x : Bool) → ltb b k ≡ x → get_or s' b 0 ≡ get_or t b 0
      go true e = below b (ltb-true b k e) ∙ below-full t b ne
      go false e = above b (ltb-false b k e)

  -- every entry is one that had stood at its own page, not above it
  comes : (b : ℕ) → (get_or s' b 0 ≡ 0 → ⊥) → (get_or s' b 0 / w + 1 ≤ b) × (get_or t (get_or s' b 0 / w + 1) 0 ≡ get_or s' b 0)
  comes b ne = go (ltb b k) refl
    where
      go : (x : Bool) → ltb b k ≡ x → (get_or s' b 0 / w + 1 ≤ b) × (get_or t (get_or s' b 0 / w + 1) 0 ≡ get_or s' b 0)
      go true e =
          let s = below b (ltb-true b k e) in
          let i = below-home t p (b + 1) (λ g. ne (s ∙ g)) in
          rw s (omega (arith, i.0), i.1)
      go false e =
          let s = above b (ltb-false b k e) in
          let o = p.own b (λ g. ne (s ∙ g)) in
          rw s (omega arith, ap (λ (x : ℕ). get_or t x 0) o)

  last-starts : {end : ℕ} → 0 < w → ((b : ℕ) → b * w < end + w → b < k) → LastStarts w end s'
  last-starts z reach =
      record {
        home = λ b ne. let i = comes b ne in (i.0, stays (get_or s' b 0 / w + 1) (λ g. ne (sym i.1 ∙ g)) ∙ i.1);
        last = λ b d l ne h.
            let i = comes d ne in
            let s = below b (reach b l) in
            let g = below_last t p z (b + 1) (get_or s' d 0 / w + 1) (omega arith) (λ g. ne (sym i.1 ∙ g)) in
            omega (arith, s, g, i.1);
      }

  pub fill-filled : {end : ℕ} → 0 < w → ((b : ℕ) → b * w < end + w → b < k) → Filled n w end t'
  unfolding s'
  fill-filled z reach =
      record {
        past = λ b ne. go b ne (ltb b k) refl;
        starts = last-starts z reach;
      }
    where
      go : (b : ℕ) → (get_or t' b 0 ≡ 0 → ⊥) → (x : Bool) → ltb b k ≡ x → n < get_or t' b 0
      go b ne true e = let l = c.below b (ltb-true b k e) in rw l (end-past n (last_below t (b + 1)) (λ g. ne (l ∙ g)))
      go b ne false e = let l = ltb-false b k e in absurd (ne (c.above b l ∙ rest b l))

  pub fill-table : {h i : ℕ} {m : List ℕ} → Table h w m i t → EndsTable n h w m i t'
  unfolding s'
  fill-table v =
      record {
        table = record {
          real = v.real;
          sound = λ b ne. let i = comes b ne in let s = v.sound (get_or s' b 0 / w + 1) (λ g. ne (sym i.1 ∙ g)) in (s.0, s.1, sym i.1 ∙ s.2);
          whole = λ i l. let q = v.whole i l in stays (block _ _ i / w + 1) (λ g. v.real i l (sym q ∙ g)) ∙ q;
        };
      }

-- the blocks of a chain that passes start inside the map, so no entry behind the last page has one
module _ {r : Rule} {m : List ℕ} {used n w : ℕ} {t : List ℕ} (h : Pass r m used n) (y : 0 < r.size) (v : Table r.head w m n t) where
  inside-map : (b : ℕ) → (get_or t b 0 ≡ 0 → ⊥) → get_or t b 0 < used
  inside-map b ne = let s = v.sound b ne in let l = h.lies s.0 s.1 in omega (arith, s.2, l)

  pub entry-most : (b : ℕ) → get_or t b 0 ≤ used
  entry-most b =
      elim (ℕ_discrete (get_or t b 0) 0) [
        | yes e ↦ omega arith
        | no e ↦ omega (arith, inside-map b e)
      ]

  pub entry-none : Placed w t → 0 < w → (b : ℕ) → (used - 1) / w + 2 ≤ b → get_or t b 0 ≡ 0
  entry-none p z b l =
      elim (ℕ_discrete (get_or t b 0) 0) [
        | yes e ↦ e
        | no e ↦ absurd (omega (arith, p.own b e, div_mono {a = get_or t b 0} {b = used - 1} w z (omega (arith, inside-map b e))))
      ]
