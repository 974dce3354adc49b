-- Opening a map is the check up to 6: the check's answer is that of the opening, then 7. Assumes nothing.
use Prim.Native.Nat.{ℕ}
use mathlib.Core.Path.{◌≡◌, refl, ap, subst, ◌∙◌}
use mathlib.Core.List.{List}
use Rattle.chain.specs.declared.LinkFault.{LinkFault}
use Rattle.chain.specs.Chains.{walked}
use Rattle.judge.specs.Rules.{family_of, index_rule_of}
use Rattle.std.specs.Prelude.{Result, Ok, Err}
use Rattle.refusals.specs.declared.Refusal.{Refusal}
use Rattle.refusals.specs.Refusals.{Judged, unless}
use Rattle.accept.specs.Opens.{opened_after, opened_of, after_opened, Open, Opens}
use Rattle.accept.specs.Verdicts.{header_judged, symbols_judged, slots_judged, after_index, verdict, after_index_of}
use Rattle.refusals.proofs.Passing.{refused, unless_tells}

module _ (m : List ℕ) (used : ℕ) where
  or-after : (j : Judged) (o : Result ℕ Refusal) → unless j (after_opened m used o) ≡ after_opened m used (unless j o)
  or-after (Ok u) o = refl
  or-after (Err e) o = refl

  pub after-opened : (w : Result ℕ LinkFault) → after_index m used w ≡ after_opened m used (opened_after m used w)
  unfolding after_index_of opened_after
  after-opened (Ok n) = or-after (symbols_judged m used n) (Ok n)
  after-opened (Err x) = refl

  pub verdict-opened : verdict m used ≡ after_opened m used (opened_of m used)
  unfolding verdict opened_of
  verdict-opened =
      let w = walked (index_rule_of (family_of m) m) m used in
      ap (unless (header_judged m used)) (after-opened w) ∙ or-after (header_judged m used) (opened_after m used w)

  -- a map that is accepted is open, with its index blocks
  pub accepted-open : (t : List ℕ) (o : Result ℕ Refusal) {n : ℕ} → Opens m used t o → after_opened m used o ≡ Ok n → Open m used n t
  accepted-open t (Ok k) {n} h e =
      let g = (unless_tells (slots_judged m used k) e).1 in
      let q : k ≡ n = cc in
      subst (λ (i : ℕ). Open m used i t) q h
  accepted-open t (Err r) h e = absurd (refused e)
