-- What a search answers and what the lent list then holds, for a reader and for the code. Assumes nothing.
--     in_list            the list found has exactly the slots of the chain that are live and meet the window
--     ascending          its entries ascend, so each slot stands there once
--     live-is            which those are: the slot's state is live, and the four sides compare by value; touching counts
--     answer-refused, answer-window, answer-short, answer-found     the answer in each of its cases
--     found-tells        and back: what an answer that finds tells
--     blocks-walked      the blocks that it gives are the chain's
--     listed, kept, length-kept     the lent list afterwards: the list found in the first entries, what it held in the others, as many as before
--     list-found         the same as one equation
--     refusal-leaves, window-leaves      after a refusal, and after a window that is not good, all is as it was
--     view-answers, view-lists      a search through a view is the search
use Prim.Native.Nat.{ℕ, ◌*◌, ◌≤◌, ◌<◌}
use mathlib.Core.Bool.{Bool, true, false, cond, and-eq-true_iff}
use mathlib.Core.Path.{◌≡◌, refl, sym, ap, ◌∙◌}
use mathlib.Core.Logic.{◌↔◌}
use mathlib.Core.List.{List, ◌++◌}
use native.Mathlib.Nat.{zero-add}
use native.Mathlib.Omega.{arith}
use lib.Dec.{T, ltb}
use lib.IntN.{ℤ}
use lib.ListN.{length, get_or, drop}
use lib.Seq.{sets-eq}
use lib.Signed.{le_z, ◌≤ℤ◌}
use borrow.Author.Tests.{lt-ltb, le-ltb, ltb-false}
use Rattle.numbers.specs.Below.{sel}
use Rattle.numbers.specs.Coordinates.{value_of}
use Rattle.numbers.proofs.Below.{sel-less}
use Rattle.numbers.proofs.Bytes.{get_or-sets-high, get_or-sets-in}
use Rattle.windows.specs.declared.Window.{Window}
use Rattle.windows.specs.declared.Rectangle.{Rectangle}
use Rattle.windows.specs.Windows.{window_good, rectangle_at, meets_window}
use Rattle.chain.specs.Chains.{walked}
use Rattle.std.specs.Prelude.{Result, Ok, Err}
use Rattle.refusals.specs.declared.Refusal.{Refusal}
use Rattle.refusals.specs.declared.Refusal.TheVariants.{BadLength, BadWindow, ShortList}
use Rattle.refusals.specs.Refusals.{answer_number}
use Rattle.refusals.proofs.Passing.{refused}
use Rattle.judge.specs.Rules.{family_of, index_rule_of, slot_at_of}
use Rattle.judge.specs.Judging.{length_good}
use Rattle.accept.specs.Verdicts.{header_judged, verdict}
use Rattle.accept.proofs.Accepting.{verdict-tells}
use Rattle.look.specs.Found.{live_at, live_in, slots_for, found}
use Rattle.find.specs.declared.Listed.{Listed}
use Rattle.find.specs.Searches.{count_of, checked_length, answer_for, answer_of, list_for, list_after, Searched, In}
use Rattle.find.proofs.Selected.{sel-in, sel-ascends, sel-at}

-- ---- which slots are listed

pub in_list : (m : List ℕ) (n : ℕ) (w : Window) (s : ℕ) → In s (found m n w) ↔ ((s < 256 * n) × (live_in m w s ≡ true))
unfolding slots_for
in_list m n w s = (
  λ h. rw (← h.2) (sel-in (live_in m w) (256 * n) h.0 h.1),
  λ h. (length (sel (live_in m w) s), sel-less (live_in m w) s (256 * n) h.0 h.1, sel-at (live_in m w) s (256 * n) h.0 h.1),
)

pub ascending : (m : List ℕ) (n : ℕ) (w : Window) (i j : ℕ) → i < j → j < length (found m n w) → get_or (found m n w) i 0 < get_or (found m n w) j 0
unfolding slots_for
ascending m n w = sel-ascends (live_in m w) (256 * n)

-- slot s is live, and its rectangle and the window share a point
pub record Meets (m : List ℕ) (w : Window) (s : ℕ) : Type 0 where
  pub live : (family_of m).live m (slot_at_of (family_of m) m s) ≡ true
  pub left : value_of (rectangle_at m (slot_at_of (family_of m) m s)).left ≤ℤ w.right
  pub right : w.left ≤ℤ value_of (rectangle_at m (slot_at_of (family_of m) m s)).right
  pub bottom : value_of (rectangle_at m (slot_at_of (family_of m) m s)).bottom ≤ℤ w.top
  pub top : w.bottom ≤ℤ value_of (rectangle_at m (slot_at_of (family_of m) m s)).top

le_is : (a b : ℤ) → (le_z a b ≡ true) ↔ (a ≤ℤ b)
le_is a b = (λ e. record { le = rw e tt }, λ h. go (le_z a b) h.le)
  where
    go : (t : Bool) → T t → t ≡ true
    go true h = refl
    go false h = absurd h

pub live-is : (m : List ℕ) (w : Window) (s : ℕ) → (live_in m w s ≡ true) ↔ Meets m w s
unfolding live_at meets_window
live-is m w s = (
  λ e.
      let p = slot_at_of (family_of m) m s in
      let r : Rectangle = rectangle_at m p in
      let a = (and-eq-true_iff ((family_of m).live m p) (meets_window r w)).0 e in
      let b = (and-eq-true_iff (le_z (value_of r.left) w.right) _).0 a.1 in
      let c = (and-eq-true_iff (le_z w.left (value_of r.right)) _).0 b.1 in
      let d = (and-eq-true_iff (le_z (value_of r.bottom) w.top) _).0 c.1 in
      record {
        live = a.0;
        left = (le_is _ _).0 b.0;
        right = (le_is _ _).0 c.0;
        bottom = (le_is _ _).0 d.0;
        top = (le_is _ _).0 d.1;
      },
  λ h. rw (h.live, (le_is _ _).1 h.left, (le_is _ _).1 h.right, (le_is _ _).1 h.bottom, (le_is _ _).1 h.top),
)

-- ---- what is answered

-- what is found: so many slots, in so many blocks
abbrev pub listing : ℕ → ℕ → Listed
listing c b = record { count = c; blocks = b }

module _ (m : List ℕ) (used : ℕ) (w : Window) (room : ℕ) where
  pub answer-refused : {x : Refusal} → verdict m used ≡ Err x → answer_of m used w room ≡ Err x
  unfolding answer_of answer_for
  answer-refused e = rw e

  module _ {n : ℕ} (e : verdict m used ≡ Ok n) where
    pub answer-window : window_good w ≡ false → answer_of m used w room ≡ Err BadWindow
    unfolding answer_of answer_for
    answer-window g = rw (e, g)

    module _ {c : ℕ} (g : window_good w ≡ true) (f : c ≡ length (found m n w)) where
      pub answer-short : room < c → answer_of m used w room ≡ Err (ShortList c)
      unfolding answer_of answer_for
      answer-short h = rw (e, g, ← f, lt-ltb room c h)

      pub answer-found : c ≤ room → answer_of m used w room ≡ Ok (listing c n)
      unfolding answer_of answer_for
      answer-found h = rw (e, g, ← f, le-ltb room c h)

-- and back: what an answer that finds tells
pub record Finds (m : List ℕ) (used : ℕ) (w : Window) (room c b : ℕ) : Type 0 where
  pub accepted : verdict m used ≡ Ok b
  pub window : window_good w ≡ true
  pub counted : c ≡ length (found m b w)
  pub fits : c ≤ room

cases-found : (g t : Bool) (k n : ℕ) {f : Listed} → cond g (cond t (Err (ShortList k)) (Ok (listing k n))) (Err BadWindow) ≡ Ok f → (g ≡ true) × (t ≡ false) × (k ≡ f.count) × (n ≡ f.blocks)
cases-found true false k n {f} e =
    let q : listing k n ≡ f = cc in
    (refl, refl, ap (λ (l : Listed). l.count) q, ap (λ (l : Listed). l.blocks) q)
cases-found true true k n e = absurd (refused e)
cases-found false t k n e = absurd (refused e)

pub found-tells : (m : List ℕ) (used : ℕ) (w : Window) (room : ℕ) {f : Listed} → answer_of m used w room ≡ Ok f → Finds m used w room f.count f.blocks
unfolding answer_of answer_for
found-tells m used w room {f} h = go (verdict m used) refl h
  where
    go : (v : Result ℕ Refusal) → verdict m used ≡ v → answer_for v (λ n. found m n w) (window_good w) room ≡ Ok f → Finds m used w room f.count f.blocks
    go (Err x) e g = absurd (refused g)
    go (Ok n) e g =
        let k = cases-found (window_good w) (ltb room (length (found m n w))) (length (found m n w)) n g in
        rw (← k.2, ← k.3) (record { accepted = e; window = k.0; counted = refl; fits = ltb-false room (length (found m n w)) k.1 })

pub blocks-walked : (m : List ℕ) (used : ℕ) (w : Window) (room : ℕ) {f : Listed} → answer_of m used w room ≡ Ok f → walked (index_rule_of (family_of m) m) m used ≡ Ok f.blocks
blocks-walked m used w room {f} e = (verdict-tells m used f.blocks (found-tells m used w room e).accepted).index

-- ---- what the lent list holds afterwards

module _ (m : List ℕ) (used : ℕ) (w : Window) (l : List ℕ) where
  by_answer : {a : Result Listed Refusal} → answer_of m used w (length l) ≡ a → list_after m used w l ≡ list_for a (λ n. found m n w) l
  unfolding list_after
  by_answer e = rw e

  -- the answer and the list, as the code leaves them
  pub answers : {a : Result Listed Refusal} → answer_of m used w (length l) ≡ a → Searched m used w l a (list_for a (λ n. found m n w) l)
  answers e = (sym e, sym (by_answer e))

  pub listed : {f : Listed} → answer_of m used w (length l) ≡ Ok f → (i : ℕ) → i < f.count → get_or (list_after m used w l) i 0 ≡ get_or (found m f.blocks w) i 0
  listed {f} e i h =
      let t = found-tells m used w (length l) e in
      rw (by_answer e) (rw zero-add at (get_or-sets-in (found m f.blocks w) l 0 i (omega (arith, t.counted)) (omega (arith, t.counted, t.fits))))

  pub list-found : {f : Listed} → answer_of m used w (length l) ≡ Ok f → list_after m used w l ≡ found m f.blocks w ++ drop f.count l
  list-found {f} e =
      let t = found-tells m used w (length l) e in
      rw t.counted (by_answer e ∙ (rw zero-add at (sets-eq (found m f.blocks w) l 0 (omega (arith, t.counted, t.fits)))))

  pub kept : (i : ℕ) → count_of (answer_of m used w (length l)) ≤ i → get_or (list_after m used w l) i 0 ≡ get_or l i 0
  kept i = go (answer_of m used w (length l)) refl
    where
      go : (a : Result Listed Refusal) → answer_of m used w (length l) ≡ a → count_of a ≤ i → get_or (list_after m used w l) i 0 ≡ get_or l i 0
      go (Ok f) e h = rw (by_answer e) (get_or-sets-high (found m f.blocks w) l 0 i (omega (arith, (found-tells m used w (length l) e).counted)))
      go (Err x) e h = rw (by_answer e)

  -- a window that is not good
  pub window-leaves : window_good w ≡ false → list_after m used w l ≡ l
  window-leaves g = go (verdict m used) refl
    where
      go : (v : Result ℕ Refusal) → verdict m used ≡ v → list_after m used w l ≡ l
      go (Err x) e = by_answer (answer-refused m used w (length l) e)
      go (Ok n) e = by_answer (answer-window m used w (length l) e g)

  pub refusal-leaves : (answer_number (answer_of m used w (length l)) ≡ 0 → ⊥) → list_after m used w l ≡ l
  refusal-leaves = go (answer_of m used w (length l)) refl
    where
      go : (a : Result Listed Refusal) → answer_of m used w (length l) ≡ a → (answer_number a ≡ 0 → ⊥) → list_after m used w l ≡ l
      go (Ok f) e h = absurd (h refl)
      go (Err x) e h = by_answer e

-- ---- a search through a view, whose length is checked first, is the search

length-bad : (m : List ℕ) (used : ℕ) → length_good m used ≡ false → verdict m used ≡ Err BadLength
unfolding verdict header_judged
length-bad m used e = rw e

view-verdict : (m : List ℕ) (used : ℕ) → verdict m (checked_length m used) ≡ verdict m used
unfolding checked_length
view-verdict m used = go (length_good m used) refl
  where
    go : (b : Bool) → length_good m used ≡ b → verdict m (cond (length_good m used) used 0) ≡ verdict m used
    go true e = rw e
    go false e = rw (e, length-bad m used e) (length-bad m 0 (unfold length_good in refl))

pub view-answers : (m : List ℕ) (used : ℕ) (w : Window) (room : ℕ) → answer_of m (checked_length m used) w room ≡ answer_of m used w room
unfolding answer_of
view-answers m used w room = rw (view-verdict m used)

pub view-lists : (m : List ℕ) (used : ℕ) (w : Window) (l : List ℕ) → list_after m (checked_length m used) w l ≡ list_after m used w l
unfolding list_after
view-lists m used w l = rw (view-answers m used w (length l))
