-- What the letters that a branch reads are derived from.
use Rattle.std.specs.Prelude.{ℕ, ◌≤◌, ◌≡◌, List}
use Rattle.bits.specs.Bits.{Row}
use Rattle.model.specs.declared.Sizes.{Sizes}
use Rattle.model.specs.Limits.{max_depth}
use Rattle.model.specs.Rows.{program}
use Rattle.model.specs.Tables.{tables}
use Rattle.layout.specs.Tables.{Ends}
use Rattle.matching.specs.Patterns.{Pattern}
use Rattle.system_letters.specs.Letters.{letter_width_of, LetterSets}
use Rattle.rules.specs.Derived.{LetterTables}
use Rattle.pattern_heads.specs.Fitting.{MatchTables}

-- the names and heads that patterns match, and the letters by digit and by mail entry, in sets of so many words
pub record LeavingTables (ws : List ℕ) (s : Sizes) (w : ℕ) (fitting names letters : List ℕ) (words : ℕ) :
    Type 0 where
  pub match_tables : MatchTables ws s w fitting names
  pub letter_sets_of : LetterSets (program ws s) (tables ws s) letters
  pub wide : words ≡ letter_width_of (program ws s) (tables ws s)

-- the names and heads that patterns match, the ends of patterns, and the letters
pub record PatternTables (ws : List ℕ) (s : Sizes) (afters : List ℕ) (w : ℕ)
    (fitting names letter_at letters : List ℕ) : Type 0 where
  pub match_tables : MatchTables ws s w fitting names
  pub ends : Ends (program ws s) afters
  pub letter_tables : LetterTables ws s letter_at letters

-- Row c is a value's or the class of the program, a pattern stands at row q, and both sets have room for all letters.
pub record ReadRoom (ws : List ℕ) (s : Sizes) (c q : ℕ) (part found : List ℕ) : Type 0 where
  pub class : c ≤ s.rows
  pub pattern : Pattern (program ws s) max_depth q
  pub part_row : Row part (letter_width_of (program ws s) (tables ws s)) 0
  pub found_row : Row found (letter_width_of (program ws s) (tables ws s)) 0
