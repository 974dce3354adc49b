-- `accept::open_symbols` meets its contract: filling keeps the blocks, and the symbols are judged by the table. Assumes nothing.
use native.Mathlib.Omega.{arith}
use Prim.Native.Nat.{ℕ, ◌+◌, ◌-◌, ◌*◌, ◌/◌, ◌≤◌}
use mathlib.Core.Bool.{Bool}
use mathlib.Core.List.{List}
use mathlib.Core.Path.{◌≡◌, subst, ◌∙◌}
use lib.ListN.{length, get_or}
use Rattle.std.specs.Prelude.{Ok}
use Rattle.records.specs.Sizes.{header_size, map_limit, index_page}
use Rattle.records.specs.Headers.{index_head}
use Rattle.chain.specs.Chains.{walked}
use Rattle.chain.specs.Tables.{Carried, Placed, Table}
use Rattle.chain.proofs.Chains.{Pass, walked-pass}
use Rattle.chain.proofs.Filling.{fill-filled, fill-table, entry-most, entry-none}
use Rattle.judge.specs.Rules.{Family, family_for, index_rule_of}
use Rattle.judge.proofs.Rules.{Sized, sized, pages-fit, pages-count, pages-below}
use Rattle.accept.specs.Opens.{OpenOf}
use Rattle.accept.specs.Verdicts.{symbols_judged_of}
use Rattle.accept.proofs.open_symbols.Goals as goal

-- a table of good index blocks that is filled opens the map
opens-filled : (b : Bool) {m : List ℕ} {used n : ℕ} {t t' : List ℕ} → header_size ≤ used → used ≤ map_limit → used ≤ length m → used + index_page ≤ length t' * index_page
    → walked (index_rule_of (family_for b) m) m used ≡ Ok n → Placed (family_for b).page t → Table index_head (family_for b).page m n t
    → Carried (family_for b).block ((used - 1) / (family_for b).page + 2) t t' → OpenOf (family_for b) m used n t'
opens-filled b {m} {used} {n} {t} {t'} low limit room fits walk placed table carried =
    let f : Family = family_for b in
    let s : Sized f = sized b in
    let pass : Pass (index_rule_of f m) m used n = walked-pass (index_rule_of f m) m used walk in
    let none : (i : ℕ) → (used - 1) / f.page + 2 ≤ i → get_or t i 0 ≡ 0 = entry-none pass (omega (arith, s.least)) table placed (omega (arith, s.page-least)) in
    record {
      low = low;
      indexed = record {
        limit = limit;
        room = room;
        wide = pages-fit b used _ fits;
        filled = fill-filled placed carried none (omega (arith, s.page-least)) (λ i. pages-below b used i (omega (arith, low)));
      };
      index = walk;
      table = fill-table placed carried none table;
    }

pub fill-requires : goal.fill-requires
fill-requires g c =
    let m = c.args.m.now in
    let f : Family = family_for g.L.Layout.wide in
    let s : Sized f = sized g.L.Layout.wide in
    let page : c.PAGE.result ≡ f.page = c.PAGE.ensures ∙ g.met.L.Layout.page_is in
    let size : c.BLOCK.result ≡ f.block = c.BLOCK.ensures ∙ g.met.L.Layout.block_is in
    let pass : Pass (index_rule_of f m) m c.args.used c.args.n = walked-pass (index_rule_of f m) m c.args.used c.requires.4 in (
      rw page (pages-count g.L.Layout.wide c.args.used _ (omega (arith, c.requires.0)) c.requires.3),
      λ b. omega (arith, c.requires.1, size, s.most, entry-most pass (omega (arith, s.least)) c.requires.6 b),
    )

pub new-requires : goal.new-requires
new-requires g c =
    let page = c.PAGE.ensures ∙ g.met.L.Layout.page_is in
    let size = c.BLOCK.ensures ∙ g.met.L.Layout.block_is in
    opens-filled g.L.Layout.wide c.requires.0 c.requires.1 c.requires.2 (omega (arith, c.requires.3, c.fill.auto.t)) c.requires.4 c.requires.5 c.requires.6
    (rw (← size, ← page) c.fill.ensures)

pub returns : goal.returns
returns g c =
    let e = c.new.ensures in
    let told : c.judge_symbols.result ≡ symbols_judged_of (family_for g.L.Layout.wide) c.args.m.now c.args.used c.args.n =
    c.judge_symbols.ensures ∙ (λ i. symbols_judged_of (family_for g.L.Layout.wide) (e.0 i) (e.1 i) (e.3 i))
    in
    let page = c.PAGE.ensures ∙ g.met.L.Layout.page_is in
    let size = c.BLOCK.ensures ∙ g.met.L.Layout.block_is in
    let opened : OpenOf (family_for g.L.Layout.wide) c.args.m.now c.args.used c.args.n c.fill.new.t = opens-filled g.L.Layout.wide c.requires.0 c.requires.1 c.requires.2 (omega (arith, c.requires.3, c.fill.auto.t)) c.requires.4 c.requires.5 c.requires.6
    (rw (← size, ← page) c.fill.ensures) in (
      rw (← told, c.in_ok-judge_symbols.was),
      λ k q. let e : c.args.n ≡ k = cc in subst (λ (i : ℕ). OpenOf (family_for g.L.Layout.wide) c.args.m.now c.args.used i c.fill.new.t) e opened,
    )
