-- For inner contracts: a reader of the promises may skip this file.
-- The table of the blocks of a chain, by which a range is tested against all of them. The map is cut into pages of w bytes, w at most the bytes of a block.
-- Blocks that share no byte start at least a block apart, so in a page at most one starts. Entry b + 1 has the block that starts in page b, or 0; entry 0 is 0.
-- After the walk the table is filled, with ends in the place of starts: entry b is then the end of the last block that starts before page b, and a range of any
-- length is tested in one step.
--     Empty t                   no block yet
--     Placed w t                each entry is 0 or stands at its own page
--     Table h w m k t           the entries are exactly the first k blocks of the chain whose first link stands at h, each at its own page at least
--     last_below t b             the last entry below b that is not 0, or 0
--     end_of n p                 the end of the block of n bytes that starts at p, or 0 where p is 0
--     starts_of n t              the starts of the blocks of n bytes whose ends t has, 0 where t has 0
--     Carried n k t t'          t' is t with its first k entries filled
--     LastStarts w end t        every entry is a block that starts before its page, and the last such one where the page before starts before `end`
--     Filled n w end t          every entry is 0 or an end of a block of n bytes, and their starts are the last ones
--     EndsTable n h w m k t     t has the ends of exactly the first k blocks of that chain
--     entry_meets n t p len b    whether entry b, a block of n bytes, shares a byte with the len bytes from p on
--     table_meets n t p len      whether some entry does
--     ends_meet n t p len        the same, where t has the ends
--     keeps_off k other p        the test of a kind of chain in the code: whether a block at p shares a byte with its two parts of the map or a block of another table
--     kind_rule k other          that kind as a rule
--     good_block r t used p      whether p can be a block of the map, by the table of the blocks before it
--     Bounds k end other        what the test of a kind needs of a block that ends at `end`: numbers small enough, and another table that reaches as far
--     Ready k used other t      what a walk needs: the same for every block of the map, and a table of its own that reaches as far
--     Ordered h m n o           the first n entries of o are the first n blocks of the chain whose first link stands at h, in their order
use Rattle.std.specs.Prelude.{ℕ, zero, suc, ◌+◌, ◌-◌, ◌*◌, ◌/◌, ◌≤◌, ◌<◌, Bool, not, cond, ◌&&◌, ◌||◌, List, [], ◌∷◌, ◌≡◌, get_or, length, eqb}
use Rattle.numbers.specs.Ranges.{share}
use Rattle.numbers.specs.Below.{any}
use Rattle.records.specs.Sizes.{header_size, map_limit, link_size}
use Rattle.chain.specs.declared.Kind.{Kind}
use Rattle.chain.specs.Chains.{Rule, block, inside}

abbrev pub Empty : List ℕ → Type 0
Empty t = (b : ℕ) → get_or t b 0 ≡ 0

pub record Placed (w : ℕ) (t : List ℕ) : Type 0 where
  pub own : (b : ℕ) → (get_or t b 0 ≡ 0 → ⊥) → get_or t b 0 / w + 1 ≡ b

pub record Table (h w : ℕ) (m : List ℕ) (k : ℕ) (t : List ℕ) : Type 0 where
  pub real : (i : ℕ) → i < k → block h m i ≡ 0 → ⊥
  pub sound : (b : ℕ) → (get_or t b 0 ≡ 0 → ⊥) → (i : ℕ) × (i < k) × (get_or t b 0 ≡ block h m i)
  pub whole : (i : ℕ) → i < k → get_or t (block h m i / w + 1) 0 ≡ block h m i

unfoldable pub last_below : List ℕ → ℕ → ℕ
last_below t zero = 0
last_below t (suc b) = cond (eqb (get_or t b 0) 0) (last_below t b) (get_or t b 0)

unfoldable pub end_of : ℕ → ℕ → ℕ
end_of n p = cond (eqb p 0) 0 (p + n)

unfoldable pub starts_of : ℕ → List ℕ → List ℕ
starts_of n [] = []
starts_of n (e ∷ t) = (e - n) ∷ starts_of n t

pub record Carried (n k : ℕ) (t t' : List ℕ) : Type 0 where
  pub below : (b : ℕ) → b < k → get_or t' b 0 ≡ end_of n (last_below t (b + 1))
  pub above : (b : ℕ) → k ≤ b → get_or t' b 0 ≡ get_or t b 0

pub record LastStarts (w end : ℕ) (t : List ℕ) : Type 0 where
  pub home : (b : ℕ) → (get_or t b 0 ≡ 0 → ⊥) → (get_or t b 0 / w + 1 ≤ b) × (get_or t (get_or t b 0 / w + 1) 0 ≡ get_or t b 0)
  pub last : (b c : ℕ) → b * w < end + w → (get_or t c 0 ≡ 0 → ⊥) → get_or t c 0 / w + 1 ≤ b → get_or t c 0 ≤ get_or t b 0

pub record Filled (n w end : ℕ) (t : List ℕ) : Type 0 where
  pub past : (b : ℕ) → (get_or t b 0 ≡ 0 → ⊥) → n < get_or t b 0
  pub starts : LastStarts w end (starts_of n t)

pub record EndsTable (n h w : ℕ) (m : List ℕ) (k : ℕ) (t : List ℕ) : Type 0 where
  pub table : Table h w m k (starts_of n t)

unfoldable pub entry_meets : ℕ → List ℕ → ℕ → ℕ → ℕ → Bool
entry_meets n t p len b = not (eqb (get_or t b 0) 0) && share (get_or t b 0) n p len

unfoldable pub table_meets : ℕ → List ℕ → ℕ → ℕ → Bool
table_meets n t p len = any (entry_meets n t p len) (length t)

abbrev pub ends_meet : ℕ → List ℕ → ℕ → ℕ → Bool
ends_meet n t = table_meets n (starts_of n t)

unfoldable pub keeps_off : Kind → List ℕ → ℕ → Bool
keeps_off k other p =
    share k.first.at k.first.size p k.size || (share k.second.at k.second.size p k.size || ends_meet k.other_size other p k.size)

abbrev pub kind_rule : Kind → List ℕ → Rule
kind_rule k other = record { head = k.head; size = k.size; taboo = keeps_off k other }

unfoldable pub good_block : Rule → List ℕ → ℕ → ℕ → Bool
good_block r t used p = inside used r.size p && not (r.taboo p) && not (table_meets r.size t p r.size)

pub record Bounds (k : Kind) (end : ℕ) (other : List ℕ) : Type 0 where
  pub most : end ≤ map_limit
  pub block-least : link_size ≤ k.size
  pub block-most : k.size ≤ 65536
  pub other-least : 0 < k.other_size
  pub other-most : k.other_size ≤ 65536
  pub other-page : 0 < k.other_page
  pub other-wide : end + k.other_page ≤ length other * k.other_page
  pub other-filled : Filled k.other_size k.other_page end other

pub record Ready (k : Kind) (used : ℕ) (other t : List ℕ) : Type 0 where
  pub bounds : Bounds k used other
  pub least : header_size ≤ used
  pub head_in : k.head + link_size ≤ header_size
  pub page-least : 0 < k.page
  pub page-most : k.page ≤ k.size
  pub wide : used + k.page ≤ length t * k.page

abbrev pub Ordered : ℕ → List ℕ → ℕ → List ℕ → Type 0
Ordered h m n o = (k : ℕ) → k < n → get_or o k 0 ≡ block h m k
