-- Letters that are kept for the states that branches lead to.
use Rattle.std.specs.Prelude.{ℕ, ◌+◌, ◌≤◌, ◌<◌, ◌≡◌, List, length, get_or}
use Rattle.model.specs.declared.Sizes.{Sizes}
use Rattle.model.specs.Words.{left}
use Rattle.model.specs.Rows.{Program, program}
use Rattle.model.specs.Tables.{Tables, tables}
use Rattle.rules.specs.Derived.{owner_at, Reads, LetterTables}
use Rattle.pattern_letters.specs.Tables.{PatternTables}

-- there is room for a set of letters for each state, and behind all sets for a word for each
pub record OwnersRoom (p : Program) (t : Tables) (letters : List ℕ) : Type 0 where
  pub room : owner_at p t t.states.size ≤ length letters

-- the letters kept for state x are those of class c that the branch reads whose pattern stands at row q
pub record KeptFor (p : Program) (t : Tables) (letters : List ℕ) (c q x : ℕ) : Type 0 where
  pub low : x < t.states.size
  pub class : left t.states x ≡ c
  pub owner : get_or letters (owner_at p t x) 0 ≡ q + 1

-- The letters, and those of them that are kept for states.
pub record KeptTables (ws : List ℕ) (s : Sizes) (letter_at letters : List ℕ) : Type 0 where
  pub letter_tables : LetterTables ws s letter_at letters
  pub reads : Reads (program ws s) (tables ws s) letters

-- The letters that a branch reads are read from these tables: those that are kept for states, or what they are derived
-- from.
pub record ReadTables (ws : List ℕ) (s : Sizes) (afters : List ℕ) (w : ℕ)
    (fitting names letter_at letters : List ℕ) : Type 0 where
  pub pattern_tables : PatternTables ws s afters w fitting names letter_at letters
  pub reads : Reads (program ws s) (tables ws s) letters
