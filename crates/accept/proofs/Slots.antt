-- The laws of the first free slot, what Len tells of it and the verdict that carries it. Assumes nothing.
use Prim.Native.Nat.{ℕ, ◌+◌, ◌*◌, ◌≤◌}
use mathlib.Core.Bool.{Bool, true, false, cond}
use mathlib.Core.Path.{◌≡◌, refl, sym, ap, ◌∙◌}
use mathlib.Core.List.{List}
use native.Mathlib.Omega.{arith}
use lib.Dec.{eqb}
use Rattle.numbers.specs.Bytes.{u16_at}
use Rattle.numbers.specs.Below.{first}
use Rattle.numbers.proofs.Below.{first-law, first-is}
use Rattle.slots.specs.declared.State.TheVariants.{Free}
use Rattle.slots.specs.Slots.{slot_of, state_of, same_state}
use Rattle.std.specs.Prelude.{Result, Ok, Err}
use Rattle.refusals.specs.declared.Refusal.{Refusal}
use Rattle.accept.specs.declared.ExaminedMap.{ExaminedMap}
use Rattle.accept.specs.declared.ExaminedMap.TheVariants.{Accepted, Wide}
use Rattle.judge.specs.Rules.{slot_at}
use Rattle.records.specs.Headers.{is_wide}
use Rattle.judge.specs.Judging.{version_of, no_len}
use Rattle.accept.specs.Slots.{slot_in, free_slot}
use Rattle.accept.proofs.Firsts.{first-same}
use Rattle.accept.specs.Opens.{blocks_of, with_free}

-- ---- a slot is free exactly where its Len is 0

pub free-len : (m : List ℕ) (s : ℕ) → same_state Free (state_of (slot_in m s)) ≡ no_len m (slot_at m s)
unfolding slot_in slot_of state_of
free-len m s = go (no_len m (slot_at m s)) refl (eqb (u16_at m (slot_at m s + 22)) 0) refl
  where
    go : (b : Bool) → no_len m (slot_at m s) ≡ b → (d : Bool) → eqb (u16_at m (slot_at m s + 22)) 0 ≡ d → same_state Free (state_of (slot_in m s)) ≡ no_len m (slot_at m s)
    go true e d f = rw e
    go false e true f = rw (e, f)
    go false e false f = rw (e, f)

pub free-most : (m : List ℕ) (n : ℕ) → free_slot m n ≤ 256 * n
unfolding free_slot
free-most m n = (first-law (λ i. same_state Free (state_of (slot_in m i))) (256 * n)).within

pub free-first : (m : List ℕ) (n : ℕ) → first (λ s. no_len m (slot_at m s)) (256 * n) ≡ free_slot m n
unfolding free_slot
free-first m n =
    let h = first-same {q = λ s. no_len m (slot_at m s)} (λ i l. sym (free-len m i)) (first-law (λ s. same_state Free (state_of (slot_in m s))) (256 * n)) in
    first-is (λ s. no_len m (slot_at m s)) (256 * n) (free_slot m n) h.within h.before h.here

-- ---- a verdict with the first free slot, and without it again

abbrev pub plain : Result ExaminedMap Refusal → Result ℕ Refusal
plain (Ok x) = Ok (blocks_of x)
plain (Err e) = Err e

pub plain-free : (m : List ℕ) (v : Result ℕ Refusal) → plain (with_free m v) ≡ v
plain-free m (Ok n) = go (is_wide (version_of m))
  where
    go : (b : Bool) → plain (Ok (cond b (Wide n) (Accepted n (free_slot m n)))) ≡ Ok n
    go true = refl
    go false = refl
plain-free m (Err e) = refl

pub verdict-of : (m : List ℕ) (v : Result ℕ Refusal) {e : Result ExaminedMap Refusal} → e ≡ with_free m v → plain e ≡ v
verdict-of m v f = ap plain f ∙ plain-free m v

-- what an answer tells of the verdict and of the layout
abbrev number : Result ExaminedMap Refusal → ℕ
number (Ok (Accepted n f)) = 0
number (Ok (Wide n)) = 1
number (Err e) = 2

pub accepted-free : (m : List ℕ) (v : Result ℕ Refusal) {e : Result ExaminedMap Refusal} {n f : ℕ} → e ≡ with_free m v → e ≡ Ok (Accepted n f) → (v ≡ Ok n) × (is_wide (version_of m) ≡ false) × (f ≡ free_slot m n)
accepted-free m v {n} {f} q r =
    let a = go v (is_wide (version_of m)) refl (sym q ∙ r) in
    (sym (verdict-of m v q) ∙ ap plain r, a.0, a.1)
  where
    go : (v : Result ℕ Refusal) (b : Bool) → is_wide (version_of m) ≡ b → with_free m v ≡ Ok (Accepted n f) → (is_wide (version_of m) ≡ false) × (f ≡ free_slot m n)
    go (Ok k) true w h = let z : ◌≡◌ {A = ℕ} 1 0 = ap number (rw w at h) in absurd (omega arith)
    go (Ok k) false w h =
        let i : ◌≡◌ {A = Result ExaminedMap Refusal} (Ok (Accepted k (free_slot m k))) (Ok (Accepted n f)) = rw w at h in
        let p : k ≡ n = cc in
        let g : f ≡ free_slot m k = cc in
        (w, rw p at g)
    go (Err e) b w h = let z : ◌≡◌ {A = ℕ} 2 0 = ap number h in absurd (omega arith)

pub accepted-wide : (m : List ℕ) (v : Result ℕ Refusal) {e : Result ExaminedMap Refusal} {n : ℕ} → e ≡ with_free m v → e ≡ Ok (Wide n) → (v ≡ Ok n) × (is_wide (version_of m) ≡ true)
accepted-wide m v {n} q r = (sym (verdict-of m v q) ∙ ap plain r, go v (is_wide (version_of m)) refl (sym q ∙ r))
  where
    go : (v : Result ℕ Refusal) (b : Bool) → is_wide (version_of m) ≡ b → with_free m v ≡ Ok (Wide n) → is_wide (version_of m) ≡ true
    go (Ok k) true w h = w
    go (Ok k) false w h = let z : ◌≡◌ {A = ℕ} 0 1 = ap number (rw w at h) in absurd (omega arith)
    go (Err e) b w h = let z : ◌≡◌ {A = ℕ} 2 1 = ap number h in absurd (omega arith)
