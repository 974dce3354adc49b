-- What the three edits have in common: the tables of an accepted map, how an edit starts, and an outcome by its parts. Assumes nothing.
use Prim.Native.Nat.{ℕ, ◌+◌, ◌*◌, ◌≤◌, ◌<◌}
use mathlib.Core.Bool.{Bool, true, false, cond}
use mathlib.Core.Path.{◌≡◌, refl, sym, ap, ◌∙◌}
use mathlib.Core.List.{List}
use native.Mathlib.Omega.{arith}
use lib.ListN.{length, take}
use Rattle.std.proofs.lemmas.List.{get_or-take, length-take-le}
use Rattle.records.specs.Sizes.{header_size, index_block_size, index_page, map_limit, most_blocks}
use Rattle.records.specs.Headers.{index_head, is_wide}
use Rattle.chain.specs.Chains.{block}
use Rattle.chain.specs.Tables.{Filled, EndsTable, Ordered}
use Rattle.chain.proofs.Chains.{few}
use Rattle.std.specs.Prelude.{Result, Ok, Err}
use Rattle.refusals.specs.declared.Refusal.{Refusal}
use Rattle.refusals.specs.declared.Refusal.TheVariants.{WideMap}
use Rattle.refusals.proofs.Passing.{refused}
use Rattle.judge.specs.Judging.{version_of}
use Rattle.accept.specs.Verdicts.{verdict, Editable}
use Rattle.accept.proofs.Accepting.{Holds, accepted-tells}
use Rattle.accept.proofs.Slots.{accepted-free}
use Rattle.judge.proofs.Rules.{most-blocks}
use Rattle.frame.proofs.Writes.{pass_of, slot-lies}
use Rattle.journal.specs.declared.JournalLook.{JournalLook}
use Rattle.journal.specs.declared.JournalLook.TheVariants.{Held, New}
use Rattle.journal.specs.Journals.{in_use, looked}
use Rattle.journal.specs.Passes.{Reach}
use Rattle.journal.proofs.Journals.{looked-new}
use Rattle.edit.specs.declared.EditAnswer.{EditAnswer}
use Rattle.edit.specs.declared.EditStart.{EditStart}
use Rattle.edit.specs.declared.EditStart.TheVariants as starts
use Rattle.accept.specs.declared.ExaminedMap.{ExaminedMap}
use Rattle.accept.specs.declared.ExaminedMap.TheVariants as examined
use Rattle.accept.specs.Slots.{free_slot}
use Rattle.accept.specs.Opens.{with_free}
use Rattle.edit.specs.Edits.{Outcome, saying, after_look, after_check, start_of}
use Rattle.edit.specs.Lent.{Known}

-- ---- the tables of an accepted map

module _ {m : List ℕ} {used n : ℕ} (h : Holds m used n) where
  -- an accepted map has at most as many index blocks as the tables of an edit have room for
  pub few-blocks : n ≤ most_blocks
  few-blocks = most-blocks false (pass_of h) h.limit

  -- a table with room for them has an entry for each
  pub blocks-fit : (o : List ℕ) → used < header_size + index_block_size * (length o + 1) → n ≤ length o
  blocks-fit o r = omega (arith, few (pass_of h) (omega arith))

  -- what the blocks' order asks
  pub order-ready : (o : List ℕ) → n ≤ length o → (16 ≤ length m) × ((k : ℕ) → k < n → block 12 m k + 4 ≤ length m) × (n ≤ length o)
  order-ready o l =
      (omega (arith, h.low, h.room), λ k g. omega (arith, ((pass_of h).lies k g).high, h.room), l)

  -- what a look into the journal asks
  pub reach : (o : List ℕ) → n ≤ length o → Ordered index_head m n o → Reach m (take n o)
  reach o l e =
      let long = length-take-le n o l in
      record {
        few = omega (arith, few-blocks, long);
        ordered = λ k g. get_or-take n o k 0 (omega (arith, long)) ∙ e k (omega (arith, long));
        inside = λ s g. omega (arith, (slot-lies h s (omega (arith, long))).high, h.room);
      }

-- what the examination tells of a map that an edit takes, with an order o that is lent
pub record Taken (m : List ℕ) (used : ℕ) (o : List ℕ) (n f : ℕ) : Type 0 where
  pub accepted : Editable m used n
  pub free : f ≡ free_slot m n
  pub holds : Holds m used n
  pub room : n ≤ length o

pub taken : (m : List ℕ) (used : ℕ) (o : List ℕ) {v : Result ExaminedMap Refusal} {x : ExaminedMap} {n f : ℕ}
    → (v ≡ with_free m (verdict m used)) × (used ≤ map_limit → used < header_size + index_block_size * (length o + 1)) → v ≡ Ok x → x ≡ examined.Accepted n f
    → Taken m used o n f
taken m used o {n = n} (e, r) g i =
    let t = accepted-free m (verdict m used) e (g ∙ ap Ok i) in
    let h = accepted-tells m used n (t.0, t.1) in
    record { accepted = (t.0, t.1); free = t.2; holds = h; room = blocks-fit h o (r h.limit) }

-- a verdict has one number of blocks
accepted-one : {v : Result ℕ Refusal} {b n : ℕ} → v ≡ Ok b → v ≡ Ok n → b ≡ n
accepted-one p q = cc

pub ordered-by : (m : List ℕ) (used : ℕ) (order : List ℕ) {b : ℕ} → Editable m used b → Ordered index_head m b order → (n : ℕ) → Editable m used n → Ordered index_head m n order
ordered-by m used order p o n q = rw (accepted-one p.0 q.0) at o

-- what the examination and the start leave in the tables
pub known_by : (m : List ℕ) (used n : ℕ) (index order : List ℕ) {x : Result ExaminedMap Refusal} → x ≡ with_free m (verdict m used)
    → ((k f : ℕ) → x ≡ Ok (examined.Accepted k f) → Filled index_block_size index_page used index × EndsTable index_block_size index_head index_page m k index)
    → Ordered index_head m n order → Editable m used n → Known m used n index order
known_by m used n index order e t o (q, w) =
    let k = t n (free_slot m n) (e ∙ rw (q, w)) in
    record { filled = k.0; table = k.1; ordered = o }

-- ---- the start

module _ (m : List ℕ) (used : ℕ) (jn : List ℕ) (e : ℕ) where
  pub start-refused : {r : Refusal} → verdict m used ≡ Err r → start_of m used jn e ≡ Err r
  unfolding start_of
  start-refused q = rw q

  pub start-wide : {n : ℕ} → verdict m used ≡ Ok n → is_wide (version_of m) ≡ true → start_of m used jn e ≡ Err WideMap
  unfolding start_of
  start-wide q w = rw (q, w)

  pub start-look : {n : ℕ} {l : Result JournalLook Refusal} → Editable m used n → looked jn m n e ≡ l → start_of m used jn e ≡ after_look m n l
  unfolding start_of
  start-look (q, w) f = rw (q, w, f)

-- and back
module _ (m : List ℕ) (used : ℕ) (j : List ℕ) (e : ℕ) where
  no_start : {A : Type 0} → ◌≡◌ {A = ℕ} 0 1 → A
  no_start z = let no_way : ⊥ = omega arith in absurd no_way

  look-held : (k n kind slot : ℕ) (l : Result JournalLook Refusal) → after_look m k l ≡ Ok (starts.Held n kind slot) → (k ≡ n) × (l ≡ Ok (Held kind slot))
  look-held k n kind slot (Err r) q = absurd (refused q)
  look-held k n kind slot (Ok (Held x y)) q = ((cc), (cc))
  look-held k n kind slot (Ok (New x)) q = no_start (cc)

  look-new : (k n r f : ℕ) (l : Result JournalLook Refusal) → after_look m k l ≡ Ok (starts.New n r f) → (k ≡ n) × (l ≡ Ok (New r)) × (f ≡ free_slot m k)
  look-new k n r f (Err x) q = absurd (refused q)
  look-new k n r f (Ok (Held x y)) q = no_start (cc)
  look-new k n r f (Ok (New x)) q = ((cc), (cc), (cc))

  -- a start is on a map of 6 to 8
  not_wide : (b : Bool) {x : Result EditStart Refusal} {y : EditStart} → cond b (Err WideMap) x ≡ Ok y → (b ≡ false) × (x ≡ Ok y)
  not_wide true q = absurd (refused q)
  not_wide false q = (refl, q)

  pub start-held : (n kind slot : ℕ) → start_of m used j e ≡ Ok (starts.Held n kind slot) → Editable m used n × (looked j m n e ≡ Ok (Held kind slot))
  unfolding start_of
  start-held n kind slot q = go (verdict m used) refl q
    where
      go : (v : Result ℕ Refusal) → verdict m used ≡ v → after_check m j e v ≡ Ok (starts.Held n kind slot) → Editable m used n × (looked j m n e ≡ Ok (Held kind slot))
      go (Err r) f g = absurd (refused g)
      go (Ok k) f g =
          let w = not_wide (is_wide (version_of m)) g in
          let r = look-held k n kind slot (looked j m k e) w.1 in
          rw (← r.0) ((f, w.0), r.1)

  pub start-new : (n r f : ℕ) → start_of m used j e ≡ Ok (starts.New n r f) → Editable m used n × (looked j m n e ≡ Ok (New r)) × (f ≡ free_slot m n)
  unfolding start_of
  start-new n r f q = go (verdict m used) refl q
    where
      go : (v : Result ℕ Refusal) → verdict m used ≡ v → after_check m j e v ≡ Ok (starts.New n r f) → Editable m used n × (looked j m n e ≡ Ok (New r)) × (f ≡ free_slot m n)
      go (Err x) h g = absurd (refused g)
      go (Ok k) h g =
          let w = not_wide (is_wide (version_of m)) g in
          let x = look-new k n r f (looked j m k e) w.1 in
          rw (← x.0) ((h, w.0), x.1, x.2)

-- what the start of an edit tells, with an order o that is lent and the table that the examination left

pub held-tells : (m : List ℕ) (used : ℕ) (j : List ℕ) (e : ℕ) {s : Result EditStart Refusal} {x : EditStart} {n kind slot : ℕ} → s ≡ start_of m used j e → s ≡ Ok x
    → x ≡ starts.Held n kind slot → (start_of m used j e ≡ Ok (starts.Held n kind slot)) × Editable m used n × (looked j m n e ≡ Ok (Held kind slot))
held-tells m used j e {n = n} {kind = kind} {slot = slot} q f i =
    let b = sym q ∙ f ∙ ap Ok i in
    let t = start-held m used j e n kind slot b in
    (b, t.0, t.1)

pub record Fresh (m : List ℕ) (used : ℕ) (j : List ℕ) (e : ℕ) (o : List ℕ) (n r f : ℕ) : Type 0 where
  pub start : start_of m used j e ≡ Ok (starts.New n r f)
  pub accepted : Editable m used n
  pub holds : Holds m used n
  pub records : r ≡ in_use j
  pub free : f ≡ free_slot m n
  pub room : n ≤ length o

pub new-tells : (m : List ℕ) (used : ℕ) (j : List ℕ) (e : ℕ) (o : List ℕ) {s : Result EditStart Refusal} {x : EditStart} {n r f : ℕ} → s ≡ start_of m used j e → s ≡ Ok x
    → x ≡ starts.New n r f → (used ≤ map_limit → used < header_size + index_block_size * (length o + 1)) → Fresh m used j e o n r f
new-tells m used j e o {n = n} {r = r} {f = f} q g i w =
    let b = sym q ∙ g ∙ ap Ok i in
    let t = start-new m used j e n r f b in
    let h = accepted-tells m used n t.0 in
    record { start = b; accepted = t.0; holds = h; records = (looked-new j m n e r t.1).2; free = t.2; room = blocks-fit h o (w h.limit) }

-- ---- the outcome

-- its three parts
pub parts : {a b : Outcome} → a ≡ b → (b.answer ≡ a.answer) × (b.map ≡ a.map) × (b.journal ≡ a.journal)
parts e = (sym (ap (λ (o : Outcome). o.answer) e), sym (ap (λ (o : Outcome). o.map) e), sym (ap (λ (o : Outcome). o.journal) e))

-- of one that changes nothing, where r is its answer
pub said : {m jn : List ℕ} {r a : Result EditAnswer Refusal} {w : Outcome} → r ≡ a → w ≡ saying m jn a → (r ≡ w.answer) × (m ≡ w.map) × (jn ≡ w.journal)
said q e = let p = parts e in (q ∙ p.0, p.1, p.2)
