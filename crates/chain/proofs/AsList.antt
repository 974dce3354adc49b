-- The chain as a list: what a walk accepts is the list of the blocks along the links, there is one such list at most, and its elements are the blocks by
-- number. Assumes nothing.
use Prim.Native.Nat.{ℕ, zero, suc, ◌<◌}
use mathlib.Core.Path.{◌≡◌, refl, sym, ap, ◌∙◌}
use mathlib.Core.List.{List}
use native.Mathlib.Nat.{le_of_suc-le-suc, not-suc-le-zero}
use native.Mathlib.Omega.{arith}
use lib.ListN.{length, get_or}
use Rattle.numbers.specs.Bytes.{u32_at}
use Rattle.std.specs.Prelude.{Ok}
use Rattle.chain.specs.Chains.{Rule, place, block, walked, Links, end, link, blocks_of}
use Rattle.chain.proofs.Chains.{Pass, walked-is, walked-pass, walked_end}

-- behind its first link, a chain is the chain whose first link stands in the first block
place-behind : (h : ℕ) (m : List ℕ) (k : ℕ) → place h m (suc k) ≡ place (u32_at m h) m k
unfolding place
place-behind h m zero = refl
place-behind h m (suc k) = ap (u32_at m) (place-behind h m k)

block-behind : (h : ℕ) (m : List ℕ) (k : ℕ) → block h m (suc k) ≡ block (u32_at m h) m k
unfolding block
block-behind h m k = ap (u32_at m) (place-behind h m k)

block-zero : (h : ℕ) (m : List ℕ) → block h m 0 ≡ u32_at m h
unfolding block place
block-zero h m = refl

-- ---- from the blocks by number to the list

pub length-blocks_of : (h : ℕ) (m : List ℕ) (n : ℕ) → length (blocks_of h m n) ≡ n
unfolding blocks_of
length-blocks_of h m zero = refl
length-blocks_of h m (suc n) = ap suc (length-blocks_of (u32_at m h) m n)

pub get_or-blocks_of : (h : ℕ) (m : List ℕ) (n k : ℕ) → k < n → get_or (blocks_of h m n) k 0 ≡ block h m k
unfolding blocks_of
get_or-blocks_of h m zero k l = absurd (not-suc-le-zero l)
get_or-blocks_of h m (suc n) zero l = sym (block-zero h m)
get_or-blocks_of h m (suc n) (suc k) l = get_or-blocks_of (u32_at m h) m n k (le_of_suc-le-suc l) ∙ sym (block-behind h m k)

pub links-of : (h : ℕ) (m : List ℕ) (n : ℕ) → ((k : ℕ) → k < n → block h m k ≡ 0 → ⊥) → block h m n ≡ 0 → Links m h (blocks_of h m n)
unfolding blocks_of
links-of h m zero some none = end (sym (block-zero h m) ∙ none)
links-of h m (suc n) some none =
    link refl (λ z. some 0 (omega arith) (block-zero h m ∙ z))
    (links-of (u32_at m h) m n (λ k l z. some (suc k) (omega arith) (block-behind h m k ∙ z)) (sym (block-behind h m n) ∙ none))

pub walked-links : (r : Rule) (m : List ℕ) (used : ℕ) {n : ℕ} → walked r m used ≡ Ok n → Links m r.head (blocks_of r.head m n)
walked-links r m used {n} e =
    links-of r.head m n (λ k l z. omega (arith, ((walked-pass r m used e).lies k l).low)) (walked_end r m used e)

-- ---- and back

pub links-block : {m : List ℕ} {h : ℕ} {bs : List ℕ} → Links m h bs → (k : ℕ) → k < length bs → get_or bs k 0 ≡ block h m k
links-block (end e) k l = absurd (not-suc-le-zero l)
links-block {m} {h} (link e ne ls) zero l = sym (block-zero h m ∙ e)
links-block {m} {h} (link e ne ls) (suc k) l =
    links-block ls k (le_of_suc-le-suc l) ∙ ap (λ (x : ℕ). block x m k) (sym e) ∙ sym (block-behind h m k)

pub links_end : {m : List ℕ} {h : ℕ} {bs : List ℕ} → Links m h bs → block h m (length bs) ≡ 0
links_end {m} {h} (end e) = block-zero h m ∙ e
links_end {m} {h} (link {bs} e ne ls) = block-behind h m (length bs) ∙ ap (λ (x : ℕ). block x m (length bs)) e ∙ links_end ls

pub links-walked : (r : Rule) (m : List ℕ) (used : ℕ) {bs : List ℕ} → 0 < r.size → Links m r.head bs → Pass r m used (length bs) → walked r m used ≡ Ok (length bs)
links-walked r m used z ls h = walked-is r m used z h (links_end ls)

-- there is one list at most
pub links-one : {m : List ℕ} {h : ℕ} {cs bs : List ℕ} → Links m h cs → Links m h bs → cs ≡ bs
links-one (end e) (end f) = refl
links-one (end e) (link f ne ls) = absurd (ne (sym f ∙ e))
links-one (link e ne ls) (end f) = absurd (ne (sym e ∙ f))
links-one {m} (link {p} {bs = cs} e ne ls) (link {p = q} {bs} f ne' ls') =
    let s : q ≡ p = sym f ∙ e in
    let t : cs ≡ bs = links-one ls (rw s at ls') in
    cc
