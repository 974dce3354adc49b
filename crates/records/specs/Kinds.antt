-- The kinds of edits, and the numbers that stand for them in a journal.
--     code_of k        the number of a kind: 1 (add), 2 (remove) or 3 (reinstate)
--     Decodes n r      r is the kind whose number is n, or the error that holds n, which no kind has
use Rattle.std.specs.Prelude.{ℕ, ◌≡◌, false, Result, MatchResult}
use Rattle.records.specs.Journals.{kind_good}
use Rattle.records.specs.declared.EditKind.{EditKind}
use Rattle.records.specs.declared.EditKind.TheVariants.{Add, Remove, Reinstate}
use Rattle.records.specs.declared.UnknownKind.{UnknownKind}

abbrev pub code_of : EditKind → ℕ
code_of Add = 1
code_of Remove = 2
code_of Reinstate = 3

abbrev pub Decodes : ℕ → Result EditKind UnknownKind → Type 0
Decodes n r = MatchResult r (λ kind. code_of kind ≡ n) (λ e. (e.0 ≡ n) × (kind_good n ≡ false))
