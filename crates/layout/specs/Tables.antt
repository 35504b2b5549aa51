-- What the table of ends holds.
use Rattle.std.specs.Prelude.{ℕ, zero, suc, ◌+◌, ◌-◌, ◌≤◌, ◌≡◌, List, [], ◌∷◌, length, get_or}
use Rattle.model.specs.Rows.{Program, size, step, tag, kind, expression, pattern, lead}
use Rattle.model.specs.Reader.{past, read}
use Rattle.program.specs.Rows.{from}

-- the table of ends, filled for the rows from i on: the row after the expression at a row, and after the pattern at a
-- row, where they are read
pub record AfterFrom (p : Program) (i : ℕ) (table : List ℕ) : Type 0 where
  pub expressions : (r q : ℕ) → i ≤ r → from p (expression ∷ []) r ≡ past q → get_or table r 0 ≡ q
  pub patterns : (d r q : ℕ) → i ≤ r → from p (pattern d ∷ []) r ≡ past q → get_or table r 0 ≡ q

-- filled for all rows: where expressions and patterns end
pub record Ends (p : Program) (afters : List ℕ) : Type 0 where
  pub room : size p ≤ length afters
  pub after_expression :
      (r e : ℕ) → read (step p) p.rows (size p - r) (expression ∷ []) r ≡ past e → get_or afters r 0 ≡ e
  pub after_pattern :
      (q d e : ℕ) → read (step p) p.rows (size p - q) (pattern d ∷ []) q ≡ past e → get_or afters q 0 ≡ e

-- x is the row after the expression or pattern at row r, where one is read
pub record EndsAt (p : Program) (r x : ℕ) : Type 0 where
  pub expressions : (q : ℕ) → from p (expression ∷ []) r ≡ past q → x ≡ q
  pub patterns : (d q : ℕ) → from p (pattern d ∷ []) r ≡ past q → x ≡ q

-- x is the rest of the expression at row r, where what stands before it is read
pub record RestAt (p : Program) (r x : ℕ) : Type 0 where
  pub rests : (q : ℕ) → from p (lead (kind (tag p r))) (r + 1) ≡ past q → x ≡ q

-- n steps by a table from row q
unfoldable pub hop : List ℕ → ℕ → ℕ → ℕ
hop table zero q = q
hop table (suc n) q = hop table n (get_or table q 0)
