-- `accept::examine` meets its contract: the map is opened, then its slots are judged; where it is accepted it is open, so the table has its blocks. Assumes
-- nothing.
use mathlib.Core.Path.{◌≡◌, sym, ap, subst, ◌∙◌}
use Rattle.std.specs.Prelude.{Ok, Err}
use Rattle.refusals.proofs.Passing.{passed_on, refused}
use Rattle.accept.specs.Opens.{after_opened, opened_of, Open, Opens, with_free}
use Rattle.accept.proofs.Slots.{accepted-free}
use Rattle.accept.proofs.Opens.{verdict-opened, accepted-open}
use Rattle.accept.proofs.examine.Goals as goal

pub returns-in_err-n : goal.returns-in_err-n
returns-in_err-n c =
    let m = c.args.m.now in
    let used = c.args.used in
    let is = passed_on c.from_residual.result c.from_residual.ensures.1 in
    let opened : opened_of m used ≡ Err c.in_err-n.field-0.0 = sym c.open_map.ensures.0 ∙ c.in_err-n.was in
    (is ∙ sym (ap (with_free m) (verdict-opened m used ∙ ap (after_opened m used) opened)), λ n f q. absurd (refused (sym is ∙ q)))

pub returns : goal.returns
returns c =
    let m = c.args.m.now in
    let used = c.args.used in
    let t = c.open_map.new.index in
    let opened : opened_of m used ≡ Ok c.in_ok-n.n = sym c.open_map.ensures.0 ∙ c.in_ok-n.was in
    let is_open : Open m used c.in_ok-n.n t = subst (Opens m used t) c.in_ok-n.was c.open_map.ensures.1 in (
      c.examine_slots.ensures ∙ sym (ap (with_free m) (verdict-opened m used ∙ ap (after_opened m used) opened)),
      λ n f e.
          let v = accepted-free m (after_opened m used (Ok c.in_ok-n.n)) c.examine_slots.ensures e in
          let g = rw v.1 at (accepted-open m used t (Ok c.in_ok-n.n) is_open v.0) in
          (g.indexed.filled, g.table),
    )
