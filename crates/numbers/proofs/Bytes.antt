-- The laws of `le_at` and `bytes_of`, over the number of bytes, and of `sets`, a run of stores.
-- Assumes nothing.
use mathlib.Core.Path.{◌≡◌, refl, ap, ◌∙◌}
use mathlib.Core.List.{List, [], ◌∷◌, ◌++◌, append_assoc}
use mathlib.Core.Logic.{◌⊎◌, inl, inr}
use Prim.Native.Nat.{ℕ, zero, suc, ◌+◌, ◌*◌, ◌/◌, ◌%◌, ◌^◌, ◌≤◌, ◌<◌}
use native.Mathlib.Nat.{add-zero, zero-add, add-suc, suc-add, add_assoc, pow-succ', not-suc-le-zero, mul_assoc}
use native.Mathlib.Decide.{ℕ_discrete}
use native.Mathlib.Omega.{arith}
use lib.Seq.{drop-drop, get_or-drop, get_or-take, get_or-append-add, sets, sets-eq, get_or-set_other, get_or-set_same, drop-set-add, take-set-lt, drop-set-lt, take-set-le}
use lib.ListN.{length, get_or, take, drop, set, length-set, take-append-drop, get_or-append}
use Rattle.std.specs.Int.{w16, w32, to_le_bytes}
use Rattle.numbers.specs.Bytes.{Bytes, le_at, bytes_of, Zeros}

-- ---- reading

-- a number of n bytes is below 256 ^ n
pub le_at-lt : (n : ℕ) (xs : List ℕ) (at : ℕ) → Bytes xs → le_at n xs at < 256 ^ n
unfolding le_at
le_at-lt zero xs at b = omega arith
le_at-lt (suc n) xs at b =
    let r : le_at n xs (at + 1) < 256 ^ n = le_at-lt n xs (at + 1) b in
    rw (pow-succ' 256 n) (omega (arith, b at))

-- the number depends only on the n bytes
pub le_at-cong : (n : ℕ) (xs ys : List ℕ) (a b : ℕ)
    → ((k : ℕ) → k < n → get_or xs (a + k) 0 ≡ get_or ys (b + k) 0) → le_at n xs a ≡ le_at n ys b
unfolding le_at
le_at-cong zero xs ys a b h = refl
le_at-cong (suc n) xs ys a b h =
    let e0 : get_or xs a 0 ≡ get_or ys b 0 = simp add-zero at (h 0 (omega arith)) in
    let e1 : le_at n xs (a + 1) ≡ le_at n ys (b + 1) =
    le_at-cong n xs ys (a + 1) (b + 1) (λ k hk. simp add_assoc (h (1 + k) (omega arith))) in
    cc

-- a number is 0 exactly where its bytes are
pub le_at-zero : (n : ℕ) (xs : List ℕ) (at : ℕ) → Zeros xs at (at + n) → le_at n xs at ≡ 0
unfolding le_at
le_at-zero zero xs at h = refl
le_at-zero (suc n) xs at h = rw (h at (omega arith) (omega arith), le_at-zero n xs (at + 1) (λ i l g. h i (omega arith) (omega arith)))

pub le_at-zeros : (n : ℕ) (xs : List ℕ) (at : ℕ) → le_at n xs at ≡ 0 → Zeros xs at (at + n)
unfolding le_at
le_at-zeros zero xs at e i l g = absurd (omega arith)
le_at-zeros (suc n) xs at e i l g =
    elim (ℕ_discrete i at) [
      | yes q ↦ rw q (omega (arith, e))
      | no q ↦ le_at-zeros n xs (at + 1) (omega (arith, e)) i (omega arith) (omega arith)
    ]

-- a part that starts at p
pub le_at-drop : (n : ℕ) (xs : List ℕ) (p at : ℕ) → le_at n (drop p xs) at ≡ le_at n xs (p + at)
le_at-drop n xs p at = le_at-cong n (drop p xs) xs at (p + at) (λ k hk. simp (get_or-drop, add_assoc))

-- a part that starts at p and has k bytes, as `&s[p..]` and `&s[p..p + k]` lend it
pub le_at-part : (n : ℕ) (xs : List ℕ) (p k at : ℕ) → at + n ≤ k → le_at n (take k (drop p xs)) at ≡ le_at n xs (p + at)
le_at-part n xs p k at h =
    le_at-cong n (take k (drop p xs)) xs at (p + at) (λ j hj. rw (get_or-take k (drop p xs) (at + j) 0 (omega arith), get_or-drop, add_assoc))

-- two fields side by side are one wider field
pub le_at-add : (m n : ℕ) (xs : List ℕ) (at : ℕ) → le_at (m + n) xs at ≡ le_at m xs at + 256 ^ m * le_at n xs (at + m)
unfolding le_at
le_at-add zero n xs at = simp (zero-add, add-zero) (omega arith)
le_at-add (suc m) n xs at =
    let e : le_at (m + n) xs (at + 1) ≡ le_at m xs (at + 1) + 256 ^ m * le_at n xs (at + 1 + m) = le_at-add m n xs (at + 1) in
    let q : at + suc m ≡ at + 1 + m = omega arith in
    rw (suc-add m n, q, pow-succ' 256 m, mul_assoc) (omega arith)

-- ---- a run of stores

pub get_or-sets-low : (vs l : List ℕ) (i j : ℕ) → j < i → get_or (sets l i vs) j 0 ≡ get_or l j 0
get_or-sets-low [] l i j h = refl
get_or-sets-low (a ∷ vs) l i j h =
    get_or-sets-low vs (set l i a) (suc i) j (omega arith) ∙ get_or-set_other l i j a 0 (λ e. omega arith)

pub get_or-sets-high : (vs l : List ℕ) (i j : ℕ) → i + length vs ≤ j → get_or (sets l i vs) j 0 ≡ get_or l j 0
get_or-sets-high [] l i j h = refl
get_or-sets-high (a ∷ vs) l i j h =
    get_or-sets-high vs (set l i a) (suc i) j (omega arith) ∙ get_or-set_other l i j a 0 (λ e. omega arith)

pub get_or-sets-in : (vs l : List ℕ) (i k : ℕ) → k < length vs → i + length vs ≤ length l → get_or (sets l i vs) (i + k) 0 ≡ get_or vs k 0
get_or-sets-in [] l i k h f = absurd (not-suc-le-zero h)
get_or-sets-in (a ∷ vs) l i zero h f =
    simp add-zero (get_or-sets-low vs (set l i a) (suc i) i (omega arith) ∙ get_or-set_same l i a 0 (omega arith))
get_or-sets-in (a ∷ vs) l i (suc k) h f =
    rw (add-suc i k, ← suc-add i k) (get_or-sets-in vs (set l i a) (suc i) k (omega arith) (simp length-set (omega arith)))

-- a field that no store meets is as it was
pub le_at-sets-low : (n : ℕ) (vs l : List ℕ) (i at : ℕ) → at + n ≤ i → le_at n (sets l i vs) at ≡ le_at n l at
le_at-sets-low n vs l i at h = le_at-cong n (sets l i vs) l at at (λ k hk. get_or-sets-low vs l i (at + k) (omega arith))

pub le_at-sets-high : (n : ℕ) (vs l : List ℕ) (i at : ℕ) → i + length vs ≤ at → le_at n (sets l i vs) at ≡ le_at n l at
le_at-sets-high n vs l i at h = le_at-cong n (sets l i vs) l at at (λ k hk. get_or-sets-high vs l i (at + k) (omega arith))

-- a field inside what was stored is that of the stored bytes
pub le_at-sets-in : (n : ℕ) (vs l : List ℕ) (i k : ℕ) → k + n ≤ length vs → i + length vs ≤ length l
    → le_at n (sets l i vs) (i + k) ≡ le_at n vs k
le_at-sets-in n vs l i k h f =
    le_at-cong n (sets l i vs) vs (i + k) k (λ j hj. rw add_assoc (get_or-sets-in vs l i (k + j) (omega arith) f))

-- ---- the bytes of a number

pub length-bytes_of : (n v : ℕ) → length (bytes_of n v) ≡ n
unfolding bytes_of
length-bytes_of zero v = refl
length-bytes_of (suc n) v = ap suc (length-bytes_of n (v / 256))

-- after a first element the rest is read one place on
le_at-tail : (n : ℕ) (x : ℕ) (xs : List ℕ) (at : ℕ) → le_at n (x ∷ xs) (at + 1) ≡ le_at n xs at
le_at-tail n x xs at = le_at-cong n (x ∷ xs) xs (at + 1) at
    (λ k hk. let e : at + 1 + k ≡ suc (at + k) = omega arith in rw e)

-- what is written is read back, at every width
pub le_at-bytes_of : (n v : ℕ) → v < 256 ^ n → le_at n (bytes_of n v) 0 ≡ v
unfolding le_at bytes_of
le_at-bytes_of zero v h = omega arith
le_at-bytes_of (suc n) v h =
    let h' : v / 256 < 256 ^ n = omega (arith, rw (pow-succ' 256 n) at h) in
    let e : le_at n (bytes_of n (v / 256)) 0 ≡ v / 256 = le_at-bytes_of n (v / 256) h' in
    let e' : le_at n ((v % 256) ∷ bytes_of n (v / 256)) (0 + 1) ≡ le_at n (bytes_of n (v / 256)) 0 = le_at-tail n (v % 256) (bytes_of n (v / 256)) 0 in
    omega arith

-- ---- a part of a `&mut` slice that was lent, a its start and k its length, once a run of stores has been made in it
pub part-sets : (vs xs : List ℕ) (a k j : ℕ) → j + length vs ≤ k
    → take a xs ++ (sets (take k (drop a xs)) j vs ++ drop k (drop a xs)) ≡ sets xs (a + j) vs
part-sets [] xs a k j h = rw (take-append-drop k (drop a xs), take-append-drop a xs)
part-sets (v ∷ vs) xs a k j h =
    let lt : j < k = omega arith in
    let le : a ≤ a + j = omega arith in
    let ih : take a (set xs (a + j) v) ++ (sets (take k (drop a (set xs (a + j) v))) (suc j) vs ++ drop k (drop a (set xs (a + j) v))) ≡ sets (set xs (a + j) v) (a + suc j) vs
    = part-sets vs (set xs (a + j) v) a k (suc j) (omega arith) in
    simp (drop-set-add, take-set-lt, drop-set-lt, take-set-le, add-suc) at ih

-- the same as a caller meets it: ys is what the callee left in the part, and vs went in at its start
pub lent-sets : (vs xs ys : List ℕ) (a k : ℕ) → length vs ≤ k → ys ≡ sets (take k (drop a xs)) 0 vs
    → take a xs ++ (ys ++ drop k (drop a xs)) ≡ sets xs a vs
lent-sets vs xs ys a k h e =
    let p : take a xs ++ (sets (take k (drop a xs)) 0 vs ++ drop k (drop a xs)) ≡ sets xs (a + 0) vs = part-sets vs xs a k 0 (omega arith) in
    rw e (rw add-zero at p)

-- ---- a field among other bytes: what stands before it and after it
pub le_at-field : (n v : ℕ) (p q : List ℕ) → v < 256 ^ n → le_at n (p ++ (bytes_of n v ++ q)) (length p) ≡ v
le_at-field n v p q h =
    let l : length (bytes_of n v) ≡ n = length-bytes_of n v in
    le_at-cong n (p ++ (bytes_of n v ++ q)) (bytes_of n v) (length p) 0
    (λ k hk. rw (get_or-append-add p (bytes_of n v ++ q) k 0, get_or-append (bytes_of n v) q 0 k (omega arith), zero-add))
    ∙ le_at-bytes_of n v h

-- ---- for a reader: a run of stores that fits is what comes before, the bytes, and what comes after
pub sets-splice : (vs xs : List ℕ) (at : ℕ) → at + length vs ≤ length xs → sets xs at vs ≡ take at xs ++ (vs ++ drop (at + length vs) xs)
sets-splice vs xs at h = sets-eq vs xs at h ∙ append_assoc (take at xs) vs (drop (at + length vs) xs)

-- the part from a on is written over, as `copy_from_slice` and `fill` do it: ys is what it holds then
pub sets-part : (xs ys vs : List ℕ) (a k : ℕ) → ys ≡ vs → k ≡ length vs → a + length vs ≤ length xs → take a xs ++ (ys ++ drop k (drop a xs)) ≡ sets xs a vs
sets-part xs ys vs a k e l h = rw (e, l, drop-drop (length vs) a xs, sets-splice vs xs a h)

-- the same of a part at the front
pub sets-front : (xs ys vs : List ℕ) (k : ℕ) → ys ≡ vs → k ≡ length vs → k ≤ length xs → ys ++ drop k xs ≡ sets xs 0 vs
sets-front xs ys vs k e l h = rw (e, l, sets-splice vs xs 0 (omega arith), zero-add)

-- the bytes of a number, as the machine's method gives them
pub bytes_of-two : (v : ℕ) → to_le_bytes w16 v ≡ bytes_of 2 v
unfolding bytes_of
bytes_of-two v = refl

pub bytes_of-four : (v : ℕ) → to_le_bytes w32 v ≡ bytes_of 4 v
unfolding bytes_of
bytes_of-four v =
    let two : v / 65536 ≡ v / 256 / 256 = omega arith in
    let three : v / 16777216 ≡ v / 256 / 256 / 256 = omega arith in
    rw (two, three)

-- two runs side by side are one, at any place
pub sets-append : (us vs xs : List ℕ) (at : ℕ) → sets (sets xs at us) (at + length us) vs ≡ sets xs at (us ++ vs)
sets-append [] vs xs at = rw add-zero
sets-append (u ∷ us) vs xs at = rw (add-suc at (length us), ← suc-add at (length us)) (sets-append us vs (set xs at u) (suc at))

-- a byte that no store meets, on either side
pub get_or-sets : (vs xs : List ℕ) (at j : ℕ) → at + length vs ≤ length xs → (j < at) ⊎ (at + length vs ≤ j) → get_or (sets xs at vs) j 0 ≡ get_or xs j 0
get_or-sets vs xs at j h (inl l) = get_or-sets-low vs xs at j l
get_or-sets vs xs at j h (inr l) = get_or-sets-high vs xs at j l

-- one store more, at the end of a run
pub sets-snoc : (us xs : List ℕ) (at i v : ℕ) → at + length us ≡ i → set (sets xs at us) i v ≡ sets xs at (us ++ (v ∷ []))
sets-snoc us xs at i v e = rw (← e) (sets-append us (v ∷ []) xs at)
