-- Where the rows of branches stand.
use Rattle.std.specs.Prelude.{ℕ, zero, suc, ◌-◌, ◌≡◌}
use Rattle.model.specs.Reader.{past, read}
use Rattle.model.specs.Rows.{Program, size, branch, branch_items, step, past_items}

-- the pattern row of branch j, of those that stand from row q
unfoldable pub branch_row : Program → ℕ → ℕ → ℕ
branch_row p q zero = q
branch_row p q (suc j) = branch_row p (past_items p branch q) j

-- n branches stand from row q
pub record Run (p : Program) (q n : ℕ) : Type 0 where
  pub end : ℕ
  pub reads : read (step p) p.rows (size p - q) (branch_items n) q ≡ past end
