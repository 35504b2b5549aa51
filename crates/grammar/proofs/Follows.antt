-- What follows a row that fits, by the tag and the number that the code has read: behind the head of an expression, and
-- behind the row that counts the branches of a case.
use Prim.Native.Nat.{ℕ, ◌+◌, ◌≤◌, ◌<◌}
use native.Mathlib.Omega.{arith}
use mathlib.Core.Path.{◌≡◌, refl, ◌∙◌}
use mathlib.Core.Bool.{true}
use mathlib.Core.List.{List, [], ◌∷◌, ◌++◌}
use borrow.Author.Tests.{lt-ltb}
use Rattle.model.specs.declared.Sizes.{Sizes}
use Rattle.model.specs.Rows.{Item, program, tag, num, kind, expression, branches, lead, branch_items, is_branch_count_of}
use Rattle.program.specs.Rows.{from}
use Rattle.program.proofs.Items.{bound_says, case_says, receive_says, branches_25}
use Rattle.program.proofs.Reading.{takes_row, yes_fits}

module _ (ws : List ℕ) (s : Sizes) (r t n : ℕ) (tag_is : t ≡ tag (program ws s) r) (num_is : n ≡ num (program ws s) r) where
  -- the item at row r is read on by these
  abbrev Follows : Item → List Item → Type 0
  Follows item more = (r < s.rows) × (from (program ws s) (item ∷ []) r ≡ from (program ws s) more (r + 1))

  pub lead_follows : 2 ≤ t → t ≤ 7 → n < s.names → Follows expression (lead (kind (tag (program ws s) r)) ++ expression ∷ [])
  lead_follows a b h = takes_row ws s expression _ r (tag (program ws s) r) n refl num_is (bound_says ws s (tag (program ws s) r) n (omega arith) (omega arith) ∙ yes_fits _ (lt-ltb _ _ h))

  pub case_follows : t ≡ 8 → n < s.names → Follows expression (branches ∷ [])
  case_follows e h = takes_row ws s expression _ r t n tag_is num_is (case_says ws s t n e ∙ yes_fits _ (lt-ltb _ _ h))

  pub receive_follows : t ≡ 9 → is_branch_count_of n ≡ true → Follows expression (branch_items n)
  receive_follows e h = takes_row ws s expression _ r t n tag_is num_is (receive_says ws s t n e ∙ yes_fits _ h)

  pub branches_follow : t ≡ 25 → is_branch_count_of n ≡ true → Follows branches (branch_items n)
  branches_follow e h = takes_row ws s branches _ r t n tag_is num_is (branches_25 ws s t n e ∙ yes_fits _ h)
