-- The lent words after a verdict.
use Rattle.std.specs.Prelude.{ℕ, List, Result, Ok, Err}
use Rattle.model.specs.declared.Sizes.{Sizes}
use Rattle.model.specs.declared.Verdict.{Verdict}
use Rattle.model.specs.Rows.{program}
use Rattle.model.specs.Tables.{tables}
use Rattle.model.specs.Listing.{system_words, written}

-- after no refusal the system's, and those behind it as they came; else all as they came
unfoldable pub words_after : Result Unit Verdict → List ℕ → Sizes → List ℕ → List ℕ
words_after (Ok tt) ws s lent = written (system_words (program ws s) (tables ws s)) lent
words_after (Err v) ws s lent = lent
