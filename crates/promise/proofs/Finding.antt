-- What a search says of an accepted map: it lists the live slots that meet the window, in a good state an added one among them. Assumes nothing.
use Prim.Native.Nat.{ℕ, ◌*◌, ◌<◌}
use mathlib.Core.Bool.{Bool, true, false, and-eq-true_iff}
use mathlib.Core.Path.{◌≡◌, refl, sym, ap₂}
use mathlib.Core.Logic.{◌↔◌, ⊎_elim}
use mathlib.Core.List.{List}
use lib.ListN.{length, drop}
use lib.Seq.{take-append_seam}
use borrow.Author.Tests.{lt-ltb}
use Rattle.std.specs.Prelude.{Result, Ok}
use Rattle.refusals.specs.declared.Refusal.{Refusal}
use Rattle.numbers.proofs.Coordinates.{lt-or-ge}
use Rattle.windows.specs.declared.Window.{Window}
use Rattle.slots.specs.declared.State.TheVariants.{Live}
use Rattle.slots.specs.Slots.{slot_of}
use Rattle.windows.specs.Windows.{rectangle_at, sides_of, meets_window}
use Rattle.records.specs.Headers.{is_wide}
use Rattle.judge.specs.Rules.{family_of, slot_at_of}
use Rattle.judge.specs.Judging.{version_of}
use Rattle.accept.specs.Verdicts.{verdict}
use Rattle.look.specs.Found.{live_at, found}
use Rattle.find.specs.declared.Listed.{Listed}
use Rattle.find.specs.Searches.{answer_of, list_for, list_after, In}
use Rattle.find.proofs.Searches.{in_list, ascending, answer-window, answer-short, answer-found, answers, list-found}
use Rattle.accept.specs.Slots.{slot_in}
use Rattle.change.specs.Slots.{has_state}
use Rattle.change.proofs.Syms.{has-tells}
use Rattle.promise.specs.Runs.{State, Call, add, searched, step, is_live_in, content_of}
use Rattle.promise.specs.Promises.{ByOne, SearchSays, Wanted, SearchFinds, WideWanted, WideSearchFinds, AddedIsFound}
use Rattle.promise.proofs.Keeping.{step-good}
use Rattle.promise.proofs.ByEdit.{edit-by-edit}

-- ---- which slots are found

-- in a map of either layout
found_in : (m : List ℕ) (n : ℕ) (w : Window) (s : ℕ) → In s (found m n w)
    ↔ ((s < 256 * n) × ((family_of m).live m (slot_at_of (family_of m) m s) ≡ true) × (meets_window (rectangle_at m (slot_at_of (family_of m) m s)) w ≡ true))
unfolding live_at
found_in m n w s =
    let live : Bool = (family_of m).live m (slot_at_of (family_of m) m s) in
    let meets : Bool = meets_window (rectangle_at m (slot_at_of (family_of m) m s)) w in (
      λ h. let a = (in_list m n w s).0 h in let b = (and-eq-true_iff live meets).0 a.1 in (a.0, b.0, b.1),
      λ h. (in_list m n w s).1 (h.0, (and-eq-true_iff live meets).1 (h.1, h.2)),
    )

-- in one of 6 to 8
found-is : (m : List ℕ) (n : ℕ) (w : Window) → is_wide (version_of m) ≡ false → (s : ℕ)
    → In s (found m n w) ↔ ((has_state Live m n s ≡ true) × (meets_window (sides_of (slot_in m s)) w ≡ true))
unfolding slot_in has_state slot_of
found-is m n w e s = (
  λ h. let a = (found_in m n w s).0 h in (rw (lt-ltb s (256 * n) a.0) (rw e at a.1), rw e at a.2),
  λ h. let a = has-tells Live m n s h.0 in (found_in m n w s).1 (a.0, rw e a.1, rw e h.1),
)

-- and in one of 9 to 11
wide-found-is : (m : List ℕ) (n : ℕ) (w : Window) → is_wide (version_of m) ≡ true → (s : ℕ) → In s (found m n w) ↔ WideWanted m n w s
wide-found-is m n w e s = (
  λ h. let a = (found_in m n w s).0 h in record { exists = a.0; live = rw e at a.1; meets = rw e at a.2 },
  λ h. (found_in m n w s).1 (h.exists, rw e h.live, rw e h.meets),
)

-- ---- what a search says

-- by its answer
says : (m : List ℕ) (used : ℕ) (w : Window) (l : List ℕ) {a : Result Listed Refusal} → answer_of m used w (length l) ≡ a → searched (answer_of m used w (length l)) (list_after m used w l) ≡ searched a (list_for a (λ n. found m n w) l)
says m used w l e = ap₂ searched e (sym (answers m used w l e).1)

-- of an accepted map, where those wanted are found
says-found : (st : State) (w : Window) (l : List ℕ) {n : ℕ} (wanted : ℕ → Type 0) → verdict st.map st.used ≡ Ok n
    → ((s : ℕ) → In s (found st.map n w) ↔ wanted s) → SearchSays wanted st w l
says-found st w l {n} wanted e exactly =
    let m = st.map in
    let used = st.used in
    record {
      slots = found m n w;
      exactly = exactly;
      ascending = ascending m n w;
      finds = λ good room. let a = answer-found m used w (length l) e good refl room in rw e (ap₂ searched a (list-found m used w l a));
      short = λ good room. says m used w l (answer-short m used w (length l) e good refl room);
      refused = λ bad. says m used w l (answer-window m used w (length l) e bad);
    }

pub search-finds : SearchFinds
unfolding is_live_in content_of
search-finds st w l g = says-found st w l (Wanted st w) g.accepted (rw g.accepted (found-is st.map g.blocks w g.narrow))

pub wide-search-finds : WideSearchFinds
wide-search-finds st w l n e b = says-found st w l (WideWanted st.map n w) e (wide-found-is st.map n w b)

pub added-is-found : AddedIsFound
added-is-found st e o w l g a i good meets =
    let c : Call = add e o in
    let d : ByOne st c = edit-by-edit st c g a i in
    let own = d.own in
    let r : SearchSays (Wanted (step st c) w) (step st c) w l = search-finds (step st c) w l (step-good g c a) in
    let here : In d.slot r.slots = (r.exactly d.slot).1 (own.1, rw own.2 meets) in
    rw d.answered
    (⊎_elim
    (λ short. rw (r.short good short) short)
    (λ room. rw (r.finds good room, take-append_seam r.slots (drop (length r.slots) l)) here)
    (lt-or-ge (length l) (length r.slots)))
