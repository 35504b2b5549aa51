-- Which values a pattern begins with, and which heads of a name fit a subpattern.
use Rattle.std.specs.Prelude.{ℕ, ◌-◌, ◌≡◌, Bool, true, false, ◌&&◌, List, eqb}
use Rattle.model.specs.declared.Sizes.{Sizes}
use Rattle.model.specs.Limits.{max_depth}
use Rattle.model.specs.Rows.{Program, program, tag}
use Rattle.model.specs.Letters.{row_head_of}
use Rattle.model.specs.Tables.{Tables, tables, some_of}
use Rattle.model.specs.Closed.{is_same_constructor, may_match, may_take}
use Rattle.lists.specs.Ready.{Ready}
use Rattle.values.specs.Values.{width}
use Rattle.matching_names.specs.Names.{FittingSets}
use Rattle.system_letters.specs.Letters.{NameHeads}

-- may the pattern at row q match v? Of a constructor's only the constructor is asked.
unfoldable pub begins : Program → Tables → ℕ → ℕ → Bool
begins p t q v = elim (eqb (tag p q) 31) [ true ↦ is_same_constructor p q v | false ↦ may_take p t q v ]

-- the value w has the head h, and the subpattern at row q may match it
unfoldable pub does_value_fit : Program → Tables → ℕ → ℕ → ℕ → Bool
does_value_fit p t q h w = eqb (row_head_of p w) h && may_match p t (max_depth - 1) q w

-- some value of the name n does
unfoldable pub does_head_fit : Program → Tables → ℕ → ℕ → ℕ → Bool
does_head_fit p t n q h = some_of t.flow n (does_value_fit p t q h)

-- some value of the name n has the head h
unfoldable pub has_head : Program → Tables → ℕ → ℕ → Bool
has_head p t n h = some_of t.flow n (λ w. eqb (row_head_of p w) h)

-- the names with values that patterns may match, and the heads of names
pub record MatchTables (ws : List ℕ) (s : Sizes) (w : ℕ) (fitting names : List ℕ) : Type 0 where
  pub ready : Ready ws s
  pub name_width : w ≡ width s.names
  pub fitting_sets_of : FittingSets (program ws s) (tables ws s) fitting
  pub name_heads : NameHeads (program ws s) (tables ws s) names
