-- The laws of the chain: what a good link tells, how many blocks there can be, that no two of them share a byte, and what the walk answers. Assumes nothing.
--     Passed r m used k    link k passes: its block is inside the map, keeps the kind's own rule, and shares no byte with an earlier block
--     Pass r m used n      the first n links pass
use Prim.Native.Nat.{ℕ, suc, ◌+◌, ◌-◌, ◌/◌, ◌≤◌, ◌<◌, min, max}
use mathlib.Core.Bool.{Bool, true, false, not, cond, ◌||◌}
use mathlib.Core.Path.{◌≡◌, refl, sym, ap, ◌∙◌}
use mathlib.Core.Logic.{◌⊎◌, inl, inr, ⊎_elim}
use mathlib.Core.List.{List}
use borrow.Author.Count.{below_none, below_more}
use borrow.Author.Tests.{lt-ltb, ltb-false, eq-eqb, ne_eqb, eqb-true, eqb-false, not-false}
use native.Mathlib.Nat.{div-le_self}
use native.Mathlib.Numerals.{add-one}
use native.Mathlib.Omega.{arith}
use lib.Dec.{eqb}
use Rattle.numbers.specs.Bytes.{u32_at}
use Rattle.numbers.specs.Ranges.{share}
use Rattle.numbers.proofs.Below.{any_at, any_false, First, first-is, first-law, or_left, or_right, or_snd}
use Rattle.numbers.proofs.Coordinates.{lt-or-ge}
use Rattle.numbers.proofs.Ranges.{share-comm, within-true, within-is}
use Rattle.records.specs.Sizes.{header_size}
use Rattle.std.specs.Prelude.{Result, Ok, Err}
use Rattle.chain.specs.declared.LinkFault.{LinkFault}
use Rattle.chain.specs.Chains.{Rule, place, block, meets_block, inside, bad_link, stops, taken, walked}
use Rattle.chain.proofs.Pigeon.{blocks-fit}

-- ---- links

pub place-suc : (h : ℕ) (m : List ℕ) (k : ℕ) → place h m (suc k) ≡ block h m k
unfolding place block
place-suc h m k = refl

pub place-more : (h : ℕ) (m : List ℕ) (k : ℕ) → place h m (k + 1) ≡ block h m k
place-more h m k = rw add-one (place-suc h m k)

pub block_at : (h : ℕ) (m : List ℕ) (k : ℕ) {at : ℕ} → at ≡ place h m k → u32_at m at ≡ block h m k
unfolding block
block_at h m k e = ap (u32_at m) e

pub block_more : (h : ℕ) (m : List ℕ) (k : ℕ) → block h m (k + 1) ≡ u32_at m (block h m k)
block_more h m k = sym (block_at h m (k + 1) (sym (place-more h m k)))

-- ---- ranges of one length

share-same : (a n : ℕ) → 0 < n → share a n a n ≡ true
unfolding share
share-same a n z = lt-ltb (max a a) (min (a + n) (a + n)) (omega arith)

-- two that share no byte lie one after the other
pub share-apart : (a b n : ℕ) → share a n b n ≡ false → (a + n ≤ b) ⊎ (b + n ≤ a)
unfolding share
share-apart a b n e =
    ⊎_elim
    (λ l. inr (omega (arith, ltb-false (max a b) (min (a + n) (b + n)) e)))
    inl
    (lt-or-ge b (a + n))

-- ---- what is known of a block that the walk takes

pub record Passed (r : Rule) (m : List ℕ) (used k : ℕ) : Type 0 where
  pub low : header_size ≤ block r.head m k
  pub high : block r.head m k + r.size ≤ used
  pub allowed : r.taboo (block r.head m k) ≡ false
  pub free : meets_block r.head r.size m k (block r.head m k) r.size ≡ false

pub record Pass (r : Rule) (m : List ℕ) (used n : ℕ) : Type 0 where
  pub lies : (k : ℕ) → k < n → Passed r m used k

pub pass-none : (r : Rule) (m : List ℕ) (used : ℕ) → Pass r m used 0
pass-none r m used = record { lies = below_none (Passed r m used) }

pub pass-more : {r : Rule} {m : List ℕ} {used n : ℕ} → Pass r m used n → Passed r m used n → Pass r m used (n + 1)
pass-more {r} {m} {used} {n} h w = record { lies = below_more (Passed r m used) n h.lies w }

module _ {r : Rule} {m : List ℕ} {used n : ℕ} (h : Pass r m used n) where
  free-before : (i j : ℕ) → i < j → j < n → share (block r.head m i) r.size (block r.head m j) r.size ≡ false
  unfolding meets_block
  free-before i j l k =
      any_false (λ i. share (block r.head m i) r.size (block r.head m j) r.size) j (h.lies j k).free i l

  -- two different blocks share no byte, and so lie one after the other
  pub disjoint : (i j : ℕ) → i < n → j < n → (i ≡ j → ⊥) → share (block r.head m i) r.size (block r.head m j) r.size ≡ false
  disjoint i j k l ne =
      ⊎_elim
      (λ g. free-before i j g l)
      (λ g. share-comm (block r.head m i) r.size (block r.head m j) r.size ∙ free-before j i (omega arith) k)
      (lt-or-ge i j)

  pub apart : (i j : ℕ) → i < n → j < n → (i ≡ j → ⊥) → (block r.head m i + r.size ≤ block r.head m j) ⊎ (block r.head m j + r.size ≤ block r.head m i)
  apart i j k l ne = share-apart (block r.head m i) (block r.head m j) r.size (disjoint i j k l ne)

  -- so many blocks there can be at most
  pub few : 0 < r.size → n ≤ (used - header_size) / r.size
  few z =
      blocks-fit (block r.head m) r.size header_size used n z
      (λ i l. let k = h.lies i l in (k.low, k.high)) free-before

-- ---- when the walk stops at link k, and when it goes on

module _ (r : Rule) (m : List ℕ) (used : ℕ) where
  pub good-link : (k : ℕ) → bad_link r m used k ≡ false → Passed r m used k
  unfolding bad_link
  good-link k e =
      let b : ℕ = block r.head m k in
      let out : Bool = not (inside used r.size b) in
      let o = or_left (out || r.taboo b) (meets_block r.head r.size m k b r.size) e in
      let i = within-true header_size used r.size b (not-false (inside used r.size b) (or_left out (r.taboo b) o)) in
      record { low = i.0; high = i.1; allowed = or_snd out (r.taboo b) o; free = or_snd (out || r.taboo b) (meets_block r.head r.size m k b r.size) e }

  pub link-good : (k : ℕ) → Passed r m used k → bad_link r m used k ≡ false
  unfolding bad_link
  link-good k w = rw (within-is header_size used r.size (block r.head m k) w.low w.high, w.allowed, w.free)

  pub goes_on : (k : ℕ) → Passed r m used k → stops r m used k ≡ false
  unfolding stops
  goes_on k w = rw (ne_eqb (block r.head m k) 0 (λ z. omega (arith, w.low)), link-good k w)

  pub passed : (k : ℕ) → stops r m used k ≡ false → Passed r m used k
  unfolding stops
  passed k e = good-link k (or_snd (eqb (block r.head m k) 0) (bad_link r m used k) e)

  pub stops-zero : (k : ℕ) → block r.head m k ≡ 0 → stops r m used k ≡ true
  unfolding stops
  stops-zero k e = rw (eq-eqb (block r.head m k) 0 e)

  pub stops-bad : (k : ℕ) → bad_link r m used k ≡ true → stops r m used k ≡ true
  unfolding stops
  stops-bad k e = rw e (or_right (eqb (block r.head m k) 0))

  -- a chain that leads back into itself is at fault where it does: the block shares its bytes with an earlier one
  pub leads-back : (i j : ℕ) → i < j → block r.head m j ≡ block r.head m i → 0 < r.size → bad_link r m used j ≡ true
  unfolding bad_link meets_block
  leads-back i j l e z =
      let b : ℕ = block r.head m j in
      rw (any_at (λ i. share (block r.head m i) r.size b r.size) j l (rw e (share-same (block r.head m i) r.size z)))
      (or_right (not (inside used r.size b) || r.taboo b))

  -- ---- where the walk stops

  law : First (stops r m used) used (taken r m used)
  unfolding taken
  law = first-law (stops r m used) used

  pub taken_pass : Pass r m used (taken r m used)
  taken_pass = record { lies = λ k h. passed k (law.before k h) }

  pub taken_is : {n : ℕ} → 0 < r.size → Pass r m used n → stops r m used n ≡ true → taken r m used ≡ n
  unfolding taken
  taken_is {n} z h e =
      first-is (stops r m used) used n (omega (arith, few h z, div-le_self (used - header_size) r.size)) (λ k l. goes_on k (h.lies k l)) (λ l. e)

  -- ---- what the walk answers

  pub walked-blocks : {n : ℕ} → taken r m used ≡ n → block r.head m n ≡ 0 → walked r m used ≡ Ok n
  unfolding walked
  walked-blocks {n} t e = rw (t, eq-eqb (block r.head m n) 0 e)

  pub walked-fault : {n : ℕ} → taken r m used ≡ n → (block r.head m n ≡ 0 → ⊥) → walked r m used ≡ Err (record { place = place r.head m n; taken = n })
  unfolding walked
  walked-fault {n} t ne = rw (t, ne_eqb (block r.head m n) 0 ne)

  -- the first n links pass, and the next one is 0: so n blocks are answered
  pub walked-is : {n : ℕ} → 0 < r.size → Pass r m used n → block r.head m n ≡ 0 → walked r m used ≡ Ok n
  walked-is {n} z h e = walked-blocks (taken_is z h (stops-zero n e)) e

  -- and back: what an answer tells, by whether the walk stops at a link of 0
  answer-case : (A : Result ℕ LinkFault → Type 0) → (block r.head m (taken r m used) ≡ 0 → A (Ok (taken r m used))) → ((block r.head m (taken r m used) ≡ 0 → ⊥) → A (Err (record { place = place r.head m (taken r m used); taken = taken r m used }))) → A (walked r m used)
  unfolding walked
  answer-case A f g = go (eqb (block r.head m (taken r m used)) 0) refl
    where
      go : (b : Bool) → eqb (block r.head m (taken r m used)) 0 ≡ b → A (cond b (Ok (taken r m used)) (Err (record { place = place r.head m (taken r m used); taken = taken r m used })))
      go true e = f (eqb-true (block r.head m (taken r m used)) 0 e)
      go false e = g (eqb-false (block r.head m (taken r m used)) 0 e)

  pub walked-tells : {n : ℕ} → walked r m used ≡ Ok n → (taken r m used ≡ n) × (block r.head m n ≡ 0)
  walked-tells {n} =
      answer-case (λ (w : Result ℕ LinkFault). w ≡ Ok n → (taken r m used ≡ n) × (block r.head m n ≡ 0))
      (λ z q. let t : taken r m used ≡ n = cc in (t, rw t at z))
      (λ z q. let o : ◌≡◌ {A = ℕ} 0 1 = cc in let no_way : ⊥ = omega arith in absurd no_way)

  pub walked-taken : {n : ℕ} → walked r m used ≡ Ok n → taken r m used ≡ n
  walked-taken e = (walked-tells e).0

  pub walked_end : {n : ℕ} → walked r m used ≡ Ok n → block r.head m n ≡ 0
  walked_end e = (walked-tells e).1

  pub walked-pass : {n : ℕ} → walked r m used ≡ Ok n → Pass r m used n
  walked-pass e = rw (walked-taken e) at taken_pass

  -- the link at fault, its place and the number of blocks before it
  pub fault-tells : {p k : ℕ} → walked r m used ≡ Err (record { place = p; taken = k }) → (taken r m used ≡ k) × (place r.head m k ≡ p) × (block r.head m k ≡ 0 → ⊥)
  fault-tells {p} {k} =
      answer-case (λ (w : Result ℕ LinkFault). w ≡ Err (record { place = p; taken = k }) → (taken r m used ≡ k) × (place r.head m k ≡ p) × (block r.head m k ≡ 0 → ⊥))
      (λ z q. let o : ◌≡◌ {A = ℕ} 0 1 = cc in let no_way : ⊥ = omega arith in absurd no_way)
      (λ z q. let e : ◌≡◌ {A = LinkFault} (record { place = place r.head m (taken r m used); taken = taken r m used }) (record { place = p; taken = k }) = cc in
      let t : taken r m used ≡ k = ap (λ (f : LinkFault). f.taken) e in
      (t, rw t at (ap (λ (f : LinkFault). f.place) e), rw t at z))
