-- What stands at a head, taken from the rows once: the run, the closed tables and the rules all go by it.
use Rattle.std.specs.Prelude.{ℕ, zero, suc, ◌+◌, Bool, ◌&&◌, ◌||◌, List, [], ◌∷◌, take, drop, eqb}
use Rattle.model.specs.Limits.{max_depth}
use Rattle.model.specs.Rows.{Program, size, tag, num, kind, header, expression, pattern, branch, arity}
use Rattle.model.specs.Rows.{declarations, past_items}
use Rattle.model.specs.Tags.{tag_function, tag_spawn, tag_global}
use Rattle.model.specs.Rows.{give, build, function, call, send, spawn, self, case, receive, other}
use Rattle.model.specs.Scopes.{rest}

-- n numbers from row r on: names read or bound there
unfoldable pub nums : Program → ℕ → ℕ → List ℕ
nums p r n = take n (drop r p.rows.rights)

-- "(4, name bound): call. Then (21, function name), (22, count), that many (21, name read), the rest"
pub record Call : Type 0 where
  pub name : ℕ
  pub callee : ℕ
  pub count : ℕ
  pub arguments : List ℕ
  pub rest : ℕ

unfoldable pub call_at : Program → ℕ → Call
call_at p r =
    record {
      name = num p r;
      callee = num p (r + 1);
      count = num p (r + 2);
      arguments = nums p (r + 3) (num p (r + 2));
      rest = rest p r;
    }

-- the pattern rows of n branches that stand from row r
unfoldable pub branch_rows : Program → ℕ → ℕ → List ℕ
branch_rows p zero r = []
branch_rows p (suc n) r = r ∷ branch_rows p n (past_items p branch r)

-- names, then the row of the rest; for a case and a receive the pattern rows of the branches
pub data Head : Type 0 where
  gives : (name : ℕ) → Head
  builds : (name made : ℕ) (arguments : List ℕ) (rest : ℕ) → Head
  makes : (name rest : ℕ) → Head  -- the function of this row
  calls : Call → Head
  sends : (name target message rest : ℕ) → Head
  spawns : (name function rest : ℕ) → Head
  selfs : (name rest : ℕ) → Head
  cases : (name : ℕ) (branches : List ℕ) → Head
  receives : (branches : List ℕ) → Head
  no_head : Head

unfoldable pub head_at : Program → ℕ → Head
head_at p r =
    elim (kind (tag p r)) [
      | give ↦ gives (num p r)
      | build ↦ builds (num p r) (num p (r + 1)) (nums p (r + 2) (arity p (num p (r + 1)))) (rest p r)
      | function ↦ makes (num p r) (rest p r)
      | call ↦ calls (call_at p r)
      | send ↦ sends (num p r) (num p (r + 1)) (num p (r + 2)) (rest p r)
      | spawn ↦ spawns (num p r) (num p (r + 1)) (rest p r)
      | self ↦ selfs (num p r) (rest p r)
      | case ↦ cases (num p r) (branch_rows p (num p (r + 1)) (r + 2))
      | receive ↦ receives (branch_rows p (num p r) (r + 1))
      | other ↦ no_head
    ]

-- the expression of the branch whose pattern stands at row q
unfoldable pub branch_body_of : Program → ℕ → ℕ
branch_body_of p q = past_items p (pattern max_depth ∷ []) q

-- a function is a row with tag 3 or 11
unfoldable pub is_function : Program → ℕ → Bool
is_function p f = eqb (tag p f) tag_function || eqb (tag p f) tag_global

-- of the function at row f: its parameters' names and its body's expression
unfoldable pub parameters : Program → ℕ → List ℕ
parameters p f = nums p (f + 2) (num p (f + 1))

unfoldable pub body : Program → ℕ → ℕ
body p f = past_items p (header ∷ []) (f + 1)

-- f is a function that can be called with n arguments
unfoldable pub takes : Program → ℕ → ℕ → Bool
takes p f n = is_function p f && eqb (num p (f + 1)) n

-- "the start expression"
unfoldable pub start : Program → ℕ
start p = past_items p (declarations p) 0

-- "A class is a spawn row, or R for the starting process"
unfoldable pub is_class_of : Program → ℕ → Bool
is_class_of p c = eqb (tag p c) tag_spawn || eqb c (size p)
