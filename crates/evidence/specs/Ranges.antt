-- "Flow holds (name, value), mail (class, value)", states (class, expression head, return): what an entry of each list
-- may hold, and that a list ascends; refusal 7 of one list.
use Rattle.std.specs.Prelude.{ℕ, ◌-◌, Bool, not, ◌&&◌, ◌||◌, List, get_or, eqb}
use Rattle.model.specs.Index.{first}
use Rattle.model.specs.Keys.{below}
use Rattle.model.specs.Words.{Columns, left, right}
use Rattle.model.specs.Verdict.{Check}
use Rattle.model.specs.Rows.{Program, tag, is_head_of, is_name}
use Rattle.model.specs.Heads.{is_class_of}
use Rattle.model.specs.Tables.{is_value_of, is_return_of, list_check}
use Rattle.lists.specs.Lists.{key_at}
use Rattle.evidence.specs.declared.entries.Table.{Table}
use Rattle.evidence.specs.declared.entries.Table.TheVariants.{Flow, Mail, States}

-- the first number of an entry, and what stands behind it; only a state has a third number
unfoldable pub legal_left : Program → Table → ℕ → Bool
legal_left p Flow a = is_name p a
legal_left p Mail a = is_class_of p a
legal_left p States a = is_class_of p a

unfoldable pub legal_rest : Program → Table → ℕ → ℕ → Bool
legal_rest p Flow b d = is_value_of p b
legal_rest p Mail b d = is_value_of p b
legal_rest p States b d = is_head_of (tag p b) && is_return_of p d

unfoldable pub legal : Program → Table → ℕ → ℕ → ℕ → Bool
legal p t a b d = legal_left p t a && legal_rest p t b d

-- entry i of a list with these third numbers is in its range
abbrev pub in_range : Program → Table → Columns → List ℕ → ℕ → Bool
in_range p t c ts i = legal p t (left c i) (right c i) (get_or ts i 0)

-- entry i is above the one before
unfoldable pub ascends : Columns → List ℕ → ℕ → Bool
ascends c ts i = eqb i 0 || below (key_at c ts (i - 1)) (key_at c ts i)

-- entry i is in its range and above the one before
unfoldable pub in_place : Program → Table → Columns → List ℕ → ℕ → Bool
in_place p t c ts i = in_range p t c ts i && ascends c ts i

-- the first entry from i on that is not; the list's size where there is none
unfoldable pub misplaced : Program → Table → Columns → List ℕ → ℕ → ℕ
misplaced p t c ts i = first i c.size (λ k. not (in_place p t c ts k))

-- refusal 7 of a list whose first column stands at word `at`
unfoldable pub checked : Program → Table → Columns → List ℕ → ℕ → Check
checked p t c ts at = list_check at c.size (in_range p t c ts) (key_at c ts)
