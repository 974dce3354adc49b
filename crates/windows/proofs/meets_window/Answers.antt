-- `windows::meets_window` meets its contract: each of the four tests is one of the definition's. Assumes nothing.
use borrow.Author.Rules.{rules, sfits_of}
use Rattle.windows.proofs.Windows.{WindowFits, value-at-most, value-at-least, four}
use Rattle.windows.proofs.meets_window.Goals as goal

pub returns : goal.returns
returns c =
    let fits : WindowFits c.args.w = search rules in
    let r = c.args.r in
    rw (c.from.ensures, c.from-2.ensures, c.from-3.ensures, c.from-4.ensures, c.from-5.ensures, c.from-6.ensures, c.from-7.ensures, c.from-8.ensures)
    (four r c.args.w
    (value-at-most r.left (sfits_of c.signed32_of.type_inv) c.signed32_of.ensures fits.right)
    (value-at-least r.right (sfits_of c.signed32_of-2.type_inv) c.signed32_of-2.ensures fits.left)
    (value-at-most r.bottom (sfits_of c.signed32_of-3.type_inv) c.signed32_of-3.ensures fits.top)
    (value-at-least r.top (sfits_of c.signed32_of-4.type_inv) c.signed32_of-4.ensures fits.bottom))
