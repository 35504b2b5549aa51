-- Document 01, "Program rows (tag, number)": the grammar of a program; refusal 3 (row).
use Rattle.std.specs.Prelude.{ℕ, zero, suc, ◌+◌, ◌-◌, Bool, true, false, ◌&&◌, ◌||◌, List, [], ◌∷◌, ◌++◌, get_or, replicate, leb, ltb, eqb}
use Rattle.std.proofs.Math.Option.{Option, none, map}
use Rattle.model.specs.declared.Sizes.{Sizes}
use Rattle.model.specs.declared.Verdict.TheVariants.{Row}
use Rattle.model.specs.Limits.{max_arity, max_branches, max_depth}
use Rattle.model.specs.Tags.{tag_constructor, tag_global, tag_made, tag_operand, tag_count, tag_parameter}
use Rattle.model.specs.Tags.{tag_branches, tag_pattern_name, tag_pattern_constructor, tag_pattern_any}
use Rattle.model.specs.Tags.{tag_pattern_held}
use Rattle.model.specs.Words.{Columns, left, right, columns}
use Rattle.model.specs.Verdict.{Check}
use Rattle.model.specs.Reader.{Grammar, fits, read, after, first_wrong_of}

-- "Program: R rows, V names, C constructors, G functions; R tags, R numbers"
pub record Program : Type 0 where
  pub names : ℕ
  pub constructors : ℕ
  pub functions : ℕ
  pub rows : Columns

unfoldable pub program : List ℕ → Sizes → Program
program ws s =
    record {
      names = s.names;
      constructors = s.constructors;
      functions = s.functions;
      rows = columns ws s.rows 4
          (4 + s.rows);
    }

-- R
abbrev pub size : Program → ℕ
size p = p.rows.size

unfoldable pub tag : Program → ℕ → ℕ
tag p r = left p.rows r

unfoldable pub num : Program → ℕ → ℕ
num p r = right p.rows r

-- "Expressions, by their head": what a tag from 1 to 9 begins
pub data Kind : Type 0 where
  give build function call send spawn self case receive other : Kind

unfoldable pub kind : ℕ → Kind
kind t = get_or (other ∷ give ∷ build ∷ function ∷ call ∷ send ∷ spawn ∷ self ∷ case ∷ receive ∷ []) t other

-- a head is a row with a tag from 1 to 9
unfoldable pub is_head_of : ℕ → Bool
is_head_of t = leb 1 t && leb t 9

-- what can stand in a program: each item takes its first row and says what follows it
pub data Item : Type 0 where
  constructor : Item  -- (10, arity)
  global : Item  -- (11, name bound), then a body form
  header : Item  -- (22, parameter count), a row (23, name bound) each
  parameter : Item  -- (23, name bound)
  expression : Item
  made : Item  -- (20, constructor), its arity of rows (21, name read)
  operand : Item  -- (21, name read)
  arguments : Item  -- (22, count), that many (21, name read)
  branches : Item  -- (25, branch count), branches
  pattern : ℕ → Item  -- a pattern that may be so many levels deep

-- "a body form: (22, parameter count), a row (23, name bound) each, and an expression"
abbrev pub body_form_of : List Item
body_form_of = header ∷ expression ∷ []

-- "A branch is a pattern and an expression"
abbrev pub branch : List Item
branch = pattern max_depth ∷ expression ∷ []

unfoldable pub branch_items : ℕ → List Item
branch_items zero = []
branch_items (suc n) = branch ++ branch_items n

-- what stands between a head and its rest
unfoldable pub lead : Kind → List Item
lead give = []
lead build = made ∷ []
lead function = body_form_of
lead call = operand ∷ arguments ∷ []
lead send = operand ∷ operand ∷ []
lead spawn = operand ∷ []
lead self = []
lead case = []
lead receive = []
lead other = []

-- "its arity": constructor k stands in row k
unfoldable pub arity : Program → ℕ → ℕ
arity p k = num p k

unfoldable pub is_name : Program → ℕ → Bool
is_name p n = ltb n p.names

unfoldable pub is_branch_count_of : ℕ → Bool
is_branch_count_of n = leb 1 n && leb n max_branches

-- "Expressions, by their head": what follows the head's row
unfoldable pub expression_step : Program → ℕ → ℕ → Option (List Item)
expression_step p t n =
    elim (kind t) [
      | give ↦ fits (is_name p n) []
      | build ↦ fits (is_name p n) (lead build ++ expression ∷ [])
      | function ↦ fits (is_name p n) (lead function ++ expression ∷ [])
      | call ↦ fits (is_name p n) (lead call ++ expression ∷ [])
      | send ↦ fits (is_name p n) (lead send ++ expression ∷ [])
      | spawn ↦ fits (is_name p n) (lead spawn ++ expression ∷ [])
      | self ↦ fits (is_name p n) (lead self ++ expression ∷ [])
      | case ↦ fits (is_name p n) (branches ∷ [])
      | receive ↦ fits (is_branch_count_of n) (branch_items n)
      | other ↦ none
    ]

-- "Patterns: (30, name bound); (31, constructor), then its arity of patterns; (32, 0) any value"; document 02, (iii):
-- "pattern (33, name read)"; d levels deep at the most
unfoldable pub pattern_step : Program → ℕ → ℕ → ℕ → Option (List Item)
pattern_step p d t n =
    elim (eqb t tag_pattern_constructor) [
      | true ↦ fits (leb 1 d && ltb n p.constructors) (replicate (arity p n) (pattern (d - 1)))
      | false ↦
          fits
          (leb 1 d &&
          (eqb t tag_pattern_name && is_name p n ||
          (eqb t tag_pattern_any && eqb n 0 || eqb t tag_pattern_held && is_name p n)))
          []
    ]

unfoldable pub step : Program → Grammar Item
step p constructor t n = fits (eqb t tag_constructor && leb n max_arity) []
step p global t n = fits (eqb t tag_global && is_name p n) body_form_of
step p header t n = fits (eqb t tag_count && leb n max_arity) (replicate n parameter)
step p parameter t n = fits (eqb t tag_parameter && is_name p n) []
step p expression t n = expression_step p t n
step p made t n = fits (eqb t tag_made && ltb n p.constructors) (replicate (arity p n) operand)
step p operand t n = fits (eqb t tag_operand && is_name p n) []
step p arguments t n = fits (eqb t tag_count && leb n max_arity) (replicate n operand)
step p branches t n = fits (eqb t tag_branches && is_branch_count_of n) (branch_items n)
step p (pattern d) t n = pattern_step p d t n

-- "First C rows (10, arity). Then G functions: (11, name bound), then a body form."
unfoldable pub declarations : Program → List Item
declarations p = replicate p.constructors constructor ++ replicate p.functions global

-- "Then the start expression, which ends at the last row"
unfoldable pub whole : Program → List Item
whole p = declarations p ++ expression ∷ []

-- the row after these items, which stand from row r
unfoldable pub past_items : Program → List Item → ℕ → ℕ
past_items p items r = after (step p) p.rows items r

-- 3: "tag, number, depth or row count wrong: 4 + first such row, or 4 + R if rows end early"
unfoldable pub row_check_of : Program → Check
row_check_of p = map (λ r. Row (4 + r)) (first_wrong_of (step p) p.rows (whole p))
