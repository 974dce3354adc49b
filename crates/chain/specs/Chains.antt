-- Chains of blocks in a map. A map m is the list of a buffer's bytes, of which the first `used` count. A block begins with its link, 4 bytes, which says
-- where the next block starts; 0 ends the chain. Links are read unsigned: a negative one is then past every map's end.
--     Rule                  a kind of chain: where its first link stands, the bytes of a block, and whether a block that starts at a place is at fault for
--                           a reason of this kind's own
--     place h m k           where link k stands: link 0 at h, each later one at the start of the block that the link before it points to
--     block h m k           block k: where it starts, which is what link k says
--     meets_block h n m k p len    whether one of the first k blocks, of n bytes each, shares a byte with the len bytes from p on
--     inside used len p     whether the len bytes from p start behind the header and end inside the map
--     bad_link r m used k    whether link k is at fault: its block is not inside the map, or breaks the kind's own rule, or shares a byte with an earlier block
--     stops r m used k      whether a walk stops at link k: it is 0, or it is at fault
--     taken r m used        how many blocks a walk takes before it stops (it always stops before `used`: proved)
--     walked r m used       what a walk answers: the number of blocks where it stops at a link of 0; else the place of the link at fault, and how many are before it
-- The same chain as a list, for a reader; no contract cites it:
--     Links m at bs         the blocks along the links, from the one at `at` to a link of 0, are bs
--     blocks_of h m n        the first n blocks in their order
use Rattle.std.specs.Prelude.{ℕ, zero, suc, Bool, not, cond, ◌||◌, List, [], ◌∷◌, ◌≡◌, eqb, Result, Ok, Err}
use Rattle.numbers.specs.Bytes.{u32_at}
use Rattle.numbers.specs.Ranges.{share, within}
use Rattle.numbers.specs.Below.{any, first}
use Rattle.records.specs.Sizes.{header_size}
use Rattle.chain.specs.declared.LinkFault.{LinkFault}

pub record Rule : Type 0 where
  pub head : ℕ
  pub size : ℕ
  pub taboo : ℕ → Bool

unfoldable pub place : ℕ → List ℕ → ℕ → ℕ
place h m zero = h
place h m (suc k) = u32_at m (place h m k)

unfoldable pub block : ℕ → List ℕ → ℕ → ℕ
block h m k = u32_at m (place h m k)

unfoldable pub meets_block : ℕ → ℕ → List ℕ → ℕ → ℕ → ℕ → Bool
meets_block h n m k p len = any (λ i. share (block h m i) n p len) k

abbrev pub inside : ℕ → ℕ → ℕ → Bool
inside used len p = within header_size used len p

unfoldable pub bad_link : Rule → List ℕ → ℕ → ℕ → Bool
bad_link r m used k =
    not (inside used r.size (block r.head m k)) || r.taboo (block r.head m k)
    || meets_block r.head r.size m k (block r.head m k) r.size

unfoldable pub stops : Rule → List ℕ → ℕ → ℕ → Bool
stops r m used k = eqb (block r.head m k) 0 || bad_link r m used k

unfoldable pub taken : Rule → List ℕ → ℕ → ℕ
taken r m used = first (stops r m used) used

unfoldable pub walked : Rule → List ℕ → ℕ → Result ℕ LinkFault
walked r m used =
    cond (eqb (block r.head m (taken r m used)) 0)
    (Ok (taken r m used))
    (Err (record { place = place r.head m (taken r m used); taken = taken r m used }))

pub data Links (m : List ℕ) : ℕ → List ℕ → Type 0 where
  end : {at : ℕ} → u32_at m at ≡ 0 → Links m at []
  link : {at p : ℕ} {bs : List ℕ} → u32_at m at ≡ p → (p ≡ 0 → ⊥) → Links m p bs → Links m at (p ∷ bs)

unfoldable pub blocks_of : ℕ → List ℕ → ℕ → List ℕ
blocks_of h m zero = []
blocks_of h m (suc n) = u32_at m h ∷ blocks_of (u32_at m h) m n
