-- For a constructor pattern the names with a value that it may match, for a held name those with such a class.
use Rattle.std.specs.Prelude.{ℕ, ◌*◌, ◌≤◌, ◌<◌, ◌≡◌, Bool, true, false, ◌&&◌, List, eqb, ltb}
use Rattle.model.specs.Index.{implies}
use Rattle.model.specs.Rows.{Program, size, tag, num, arity}
use Rattle.model.specs.Heads.{is_class_of}
use Rattle.model.specs.Tables.{Tables, some_of}
use Rattle.model.specs.Closed.{may_match}
use Rattle.bits.specs.Bits.{member, Row}
use Rattle.values.specs.Values.{width, Empty, Room}
use Rattle.matching.specs.Patterns.{Pattern}

-- row q is a constructor pattern with arguments, or a held name: not every value of its head may match it
unfoldable pub does_ask_names : Program → ℕ → Bool
does_ask_names p q = elim (eqb (tag p q) 31) [ true ↦ ltb 0 (arity p (num p q)) | false ↦ eqb (tag p q) 33 ]

-- by set q of `may`, the pattern at row q may match v, which is a class where a held name stands there
unfoldable pub does_value_fit : Program → List ℕ → ℕ → ℕ → Bool
does_value_fit p may q v = member may (width (size p)) q v && implies (eqb (tag p q) 33) (is_class_of p v)

-- an empty set of so many names for each of so many rows
pub record Unfitted (names rows : ℕ) (fitting : List ℕ) : Type 0 where
  pub empty : Empty (width names) fitting
  pub room : Room (width names) rows fitting

-- before row x, set q has the names of which a value fits; from it on nothing is in the sets
pub record FittingBefore (p : Program) (t : Tables) (may fitting : List ℕ) (x : ℕ) : Type 0 where
  pub told : (q n : ℕ) → q < x → does_ask_names p q ≡ true → n < 64 * width p.names →
      member fitting (width p.names) q n ≡ some_of t.flow n (does_value_fit p may q)
  pub to_come : (q n : ℕ) → x ≤ q → n < 64 * width p.names → member fitting (width p.names) q n ≡ false

-- Set q has the names with a value that the constructor pattern at row q may match, where it has arguments; where a
-- held name stands there, those with a class that it may match.
pub record FittingSets (p : Program) (t : Tables) (fitting : List ℕ) : Type 0 where
  pub row : (q : ℕ) → q < size p → Row fitting (width p.names) q
  pub made : (d q n : ℕ) → q < size p → tag p q ≡ 31 → 0 < arity p (num p q) → Pattern p d q → n < p.names →
      member fitting (width p.names) q n ≡ some_of t.flow n (may_match p t d q)
  pub held : (d q n : ℕ) → q < size p → tag p q ≡ 33 → Pattern p d q → n < p.names →
      member fitting (width p.names) q n ≡ some_of t.flow n (λ v. may_match p t d q v && is_class_of p v)
