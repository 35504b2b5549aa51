-- Of the rules that read or put a letter only those whose letter is asked for.
use Rattle.std.specs.Prelude.{ℕ, ◌+◌, ◌≤◌, ◌<◌, ◌≡◌, Bool, true, false, not, ◌||◌, List, [], ◌∷◌, length, Option, Some, None}
use Rattle.bits.specs.Bits.{member, Row}
use Rattle.model.specs.Words.{right}
use Rattle.model.specs.Rows.{Program, tag, kind}
use Rattle.model.specs.Tables.{Tables, state_at}
use Rattle.model.specs.Counters.{letter_count_of}
use Rattle.model.specs.Rules.{Effect, quiet, reads, puts, starts, Rule, state_rules_of}
use Rattle.system_letters.specs.Letters.{letter_width_of}
use Rattle.rules.specs.Listed.{listed_rules}

-- the letter that the effect reads or puts passes, or it has none
unfoldable pub letter_passes : (ℕ → Bool) → Effect → Bool
letter_passes f quiet = true
letter_passes f (reads x) = f x
letter_passes f (puts x) = f x
letter_passes f (starts x) = true

-- the rules that have no letter, or one that passes
unfoldable pub only_passing : (ℕ → Bool) → List Rule → List Rule
only_passing f [] = []
only_passing f (ρ ∷ ρs) =
    elim (letter_passes f ρ.effect) [ true ↦ ρ ∷ only_passing f ρs | false ↦ only_passing f ρs ]

-- the counters of the letters that pass are those that set 0 has; of all letters where not only these are asked for
pub record AskedLetters (p : Program) (t : Tables) (narrow : Bool) (within : List ℕ) (f : ℕ → Bool) : Type 0 where
  pub has :
      (y : ℕ) → y < letter_count_of p t →
      (not narrow || member within (letter_width_of p t) 0 y) ≡ f (t.states.size + y)

-- letter y is asked for: it is one of the set, or all letters are
unfoldable pub is_asked : ℕ → Option (List ℕ) → ℕ → Bool
is_asked w None y = true
is_asked w (Some set) y = member set w 0 y

-- the counters of the letters that pass are those of the letters asked for
pub record AskedOf (p : Program) (t : Tables) (within : Option (List ℕ)) (f : ℕ → Bool) : Type 0 where
  pub has :
      (y : ℕ) → y < letter_count_of p t →
      is_asked (letter_width_of p t) within y ≡ f (t.states.size + y)

-- where only letters of a set are asked for, that has so many words
pub record AskedRow (within : Option (List ℕ)) (w : ℕ) : Type 0 where
  pub row : (set : List ℕ) → within ≡ Some set → Row set w 0

-- the two lists hold the n rules of state i that have no letter, or one that passes
pub record RulesWithin (p : Program) (t : Tables) (f : ℕ → Bool) (i : ℕ) (tos others : List ℕ) (n : ℕ) : Type 0 where
  pub tos_room : n ≤ length tos
  pub others_room : n ≤ length others
  pub rules :
      listed_rules (kind (tag p (right t.states i))) i tos others n ≡
      only_passing f (state_rules_of p t i (state_at t i))
