-- The laws of signed numbers and coordinates: the signed reading is the machine's, rounding down is what it should be, and keys are ordered as
-- values are. Assumes nothing.
use mathlib.Core.Path.{◌≡◌, refl, sym, ap, ◌∙◌}
use mathlib.Core.Logic.{◌⊎◌, inl, inr, ⊎_elim}
use mathlib.Core.Bool.{Bool, true, false, cond}
use Prim.Native.Nat.{ℕ, suc, ◌+◌, ◌-◌, ◌*◌, ◌/◌, ◌%◌, ◌^◌, ◌≤◌, ◌<◌}
use mathlib.Core.List.{[], ◌∷◌, map}
use native.Mathlib.Nat.{mod-lt, div-add-mod', suc-mul}
use native.Mathlib.Omega.{arith}
use lib.Dec.{ltb, leb}
use lib.IntN.{ℤ, pos, negsuc, ◌+ℤ◌, ◌*ℤ◌}
use lib.Signed.{le_z, mag, shr_z, mag_shr}
use mir.Syntax.{w32}
use mir.Val.{hbits, to_z, of_z, sel, SFits}
use mir.ValLaws.{sfits_le}
use mir.Facts.{to_z-of_z, sfits_to_z}
use borrow.Author.Rules.{sfits_of}
use borrow.Author.Tests.{lt-ltb, le-ltb, le-leb, lt-leb, leb-true, leb-false, ltb-true, ltb-false}
use Rattle.numbers.specs.Coordinates.{signed, signed32, floor_div, value_of, unmarked}

-- a number is below a bound, or it is not
pub lt-or-ge : (n m : ℕ) → (n < m) ⊎ (m ≤ n)
lt-or-ge n m = go (ltb n m) refl
  where
    go : (b : Bool) → ltb n m ≡ b → (n < m) ⊎ (m ≤ n)
    go true e = inl (ltb-true n m e)
    go false e = inr (ltb-false n m e)

-- ---- signed numbers, over the sign bit

pub signed_low : (h n : ℕ) → n < h → signed h n ≡ pos n
unfolding signed
signed_low h n l = rw (lt-ltb n h l)

pub signed_high : (h n : ℕ) → h ≤ n → signed h n ≡ negsuc (2 * h - 1 - n)
unfolding signed
signed_high h n l = rw (le-ltb n h l)

-- the signed reading is the machine's
cond-sel : (b : Bool) (x y : ℤ) → cond b x y ≡ sel b x y
cond-sel true x y = refl
cond-sel false x y = refl

pub signed-to_z : (n : ℕ) → signed32 n ≡ to_z w32 n
unfolding signed
signed-to_z n =
    let e : 4294967295 - n ≡ 4294967296 - suc n = omega arith in
    rw e (cond-sel (ltb n 2147483648) (pos n) (negsuc (4294967296 - suc n)))

-- a signed result, read back from its bits
pub read_back : {z y : ℤ} → mag z < 2 ^ hbits w32 → z ≡ y → to_z w32 (of_z w32 z) ≡ y
read_back f e = to_z-of_z {w = w32} (sfits_of {w = w32} f) ∙ e

pub machine_signed : (n : ℕ) → to_z w32 n ≡ signed32 n
machine_signed n = sym (signed-to_z n)

-- ---- rounding down: z is the quotient times m and a remainder that is not negative and below m

pub floor-char : (z : ℤ) (m : ℕ) → 0 < m → (r : ℕ) × (r < m) × (z ≡ floor_div z m *ℤ pos m +ℤ pos r)
floor-char (pos a) m h = (a % m, mod-lt a h, ap pos (sym (div-add-mod' a m)))
floor-char (negsuc a) m h =
    let l : a % m < m = mod-lt a h in
    let r : ℕ = m - 1 - a % m in
    let e : a / m * m + a % m ≡ a = div-add-mod' a m in
    let q : suc (a / m) * m ≡ suc (a + r) = rw suc-mul (omega arith) in
    let d : suc (a + r) - suc r ≡ a = omega arith in
    (r, omega arith, rw (q, lt-ltb r (suc (a + r)) (omega arith), d))

floor-shr : (z : ℤ) (m : ℕ) → shr_z z m ≡ floor_div z m
floor-shr (pos a) m = refl
floor-shr (negsuc a) m = refl

-- the signed number of 32 bits fits them, and so does the value
signed-fits : (n : ℕ) → n < 2 ^ 32 → SFits w32 (signed32 n)
signed-fits n h = rw (signed-to_z n) (sfits_to_z (record { fits = h }))

pub value-fits : (n : ℕ) → n < 2 ^ 32 → SFits w32 (value_of n)
unfolding value_of
value-fits n h = rw (← floor-shr (signed32 n) 256) (sfits_le (mag_shr (signed32 n) 256) (signed-fits n h))

-- the signed number, held by the machine and shifted by 8, is the value
pub shift-value : {z : ℤ} (n : ℕ) → n < 2 ^ 32 → mag z < 2 ^ hbits w32 → z ≡ signed32 n → to_z w32 (of_z w32 (shr_z (to_z w32 (of_z w32 z)) 256)) ≡ value_of n
unfolding value_of
shift-value n h f e = rw (read_back f e, floor-shr (signed32 n) 256) (to_z-of_z (value-fits n h))

-- ---- keys: the key of z is z + 2147483648, which is never negative, so that `omega` decides

abbrev pub key : ℤ → ℕ
key (pos n) = 2147483648 + n
key (negsuc n) = 2147483647 - n

leb-same : (a b c d : ℕ) → (a ≤ b → c ≤ d) → (b < a → d < c) → leb a b ≡ leb c d
leb-same a b c d f g = go (leb a b) refl
  where
    go : (t : Bool) → leb a b ≡ t → leb a b ≡ leb c d
    go true e = e ∙ sym (le-leb c d (f (leb-true a b e)))
    go false e = e ∙ sym (lt-leb c d (g (leb-false a b e)))

-- keys are ordered as the signed numbers are
pub le_z-key : (a b : ℤ) → SFits w32 a → SFits w32 b → le_z a b ≡ leb (key a) (key b)
le_z-key (pos a) (pos b) f g = leb-same a b (2147483648 + a) (2147483648 + b) (λ h. omega arith) (λ h. omega arith)
le_z-key (pos a) (negsuc b) f g = sym (lt-leb (2147483648 + a) (2147483647 - b) (omega arith))
le_z-key (negsuc a) (pos b) f g = sym (le-leb (2147483647 - a) (2147483648 + b) (omega arith))
le_z-key (negsuc a) (negsuc b) f g =
    leb-same b a (2147483647 - a) (2147483647 - b) (λ h. omega (arith, f.sfits, g.sfits)) (λ h. omega (arith, f.sfits, g.sfits))

-- the same for two raw coordinates
pub le_z-value : (a b : ℕ) → a < 2 ^ 32 → b < 2 ^ 32 → le_z (value_of a) (value_of b) ≡ leb (key (value_of a)) (key (value_of b))
le_z-value a b f g = le_z-key (value_of a) (value_of b) (value-fits a f) (value-fits b g)

-- the 32 bits of n with the sign bit flipped
abbrev pub sign_flipped : ℕ → ℕ
sign_flipped n = (n + 2147483648) % 4294967296

-- the key of a signed number is its bits with the sign bit flipped
flipped-key : (n : ℕ) → n < 2 ^ 32 → sign_flipped n ≡ key (signed32 n)
flipped-key n h =
    ⊎_elim
    (λ l. rw (signed_low 2147483648 n l) (omega arith))
    (λ l. rw (signed_high 2147483648 n l) (omega arith))
    (lt-or-ge n 2147483648)

pub le_z-flipped : (a b : ℕ) → a < 2 ^ 32 → b < 2 ^ 32 → le_z (signed32 a) (signed32 b) ≡ leb (sign_flipped a) (sign_flipped b)
le_z-flipped a b f g = rw (flipped-key a f, flipped-key b g) (le_z-key (signed32 a) (signed32 b) (signed-fits a f) (signed-fits b g))

-- rounding down drops the low bits of the key
key-floor : (z : ℤ) → SFits w32 z → 2139095040 + key z / 256 ≡ key (floor_div z 256)
key-floor (pos a) f = omega arith
key-floor (negsuc a) f = omega (arith, f.sfits)

pub key-value : (n : ℕ) → n < 2 ^ 32 → 2139095040 + sign_flipped n / 256 ≡ key (value_of n)
unfolding value_of
key-value n h = rw (flipped-key n h) (key-floor (signed32 n) (signed-fits n h))

-- ---- the marks do not count

pub unmarked-value : (n : ℕ) → value_of (unmarked n) ≡ value_of n
unfolding value_of unmarked
unmarked-value n =
    ⊎_elim
    (λ l.
    let e : n / 256 * 256 / 256 ≡ n / 256 = omega arith in
    rw (signed_low 2147483648 (n / 256 * 256) (omega arith), signed_low 2147483648 n l, e))
    (λ l.
    let e : (4294967295 - n / 256 * 256) / 256 ≡ (4294967295 - n) / 256 = omega arith in
    rw (signed_high 2147483648 (n / 256 * 256) (omega arith), signed_high 2147483648 n l, e))
    (lt-or-ge n 2147483648)

pub unmarked-twice : (n : ℕ) → unmarked (unmarked n) ≡ unmarked n
unfolding unmarked
unmarked-twice n = omega arith

-- x and y are ordered as a and b are by value, where they are as the flipped bits of a and b without the lowest 8
module _ (a b : ℕ) (f : a < 2 ^ 32) (g : b < 2 ^ 32) where
  by_value : (x y : ℕ) → (x ≤ y → sign_flipped a / 256 ≤ sign_flipped b / 256) → (y < x → sign_flipped b / 256 < sign_flipped a / 256)
      → leb x y ≡ le_z (value_of a) (value_of b)
  by_value x y h k =
      rw (le_z-value a b f g, ← key-value a f, ← key-value b g)
      (leb-same x y (2139095040 + sign_flipped a / 256) (2139095040 + sign_flipped b / 256) (λ l. omega (arith, h l)) (λ l. omega (arith, k l)))

  -- the same with the flipped bits, whose order without a sign is that of the values
  pub unmarked-flipped : leb (unmarked (sign_flipped a)) (sign_flipped b) ≡ le_z (value_of a) (value_of b)
  unfolding unmarked
  unmarked-flipped = by_value (sign_flipped a / 256 * 256) (sign_flipped b) (λ l. omega arith) (λ l. omega arith)

  -- the marks of the second may stay
  pub unmarked-order : le_z (signed32 (unmarked a)) (signed32 b) ≡ le_z (value_of a) (value_of b)
  unfolding unmarked
  unmarked-order =
      le_z-flipped (a / 256 * 256) b (omega arith) g ∙ by_value (sign_flipped (a / 256 * 256)) (sign_flipped b) (λ l. omega arith) (λ l. omega arith)

  -- without marks the order by value is the signed order
  pub bare-order : unmarked a ≡ a → unmarked b ≡ b → le_z (signed32 a) (signed32 b) ≡ le_z (value_of a) (value_of b)
  unfolding unmarked
  bare-order p q = le_z-flipped a b f g ∙ by_value (sign_flipped a) (sign_flipped b) (λ l. omega arith) (λ l. omega arith)

-- ---- document 01's table: the raw numbers as bits, and their values
pub table : map value_of (25602 ∷ 255 ∷ 4294967295 ∷ 4294967040 ∷ 4294967039 ∷ 2147483647 ∷ 2147483648 ∷ [])
    ≡ pos 100 ∷ pos 0 ∷ negsuc 0 ∷ negsuc 0 ∷ negsuc 1 ∷ pos 8388607 ∷ negsuc 8388607 ∷ []
unfolding value_of signed
table = refl
