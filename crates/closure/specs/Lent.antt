-- What refusal 8 is lent: tables with room, and those of sets with nothing in them.
use Rattle.std.specs.Prelude.{ℕ, ◌+◌, ◌≤◌, ◌<◌, ◌≡◌, List, length, get_or, Result, Ok}
use Rattle.model.specs.declared.Sizes.{Sizes}
use Rattle.model.specs.declared.Verdict.{Verdict}
use Rattle.model.specs.Rows.{program}
use Rattle.model.specs.Tables.{tables}
use Rattle.model.specs.Closed.{open_check}
use Rattle.model.specs.Verify.{outcome}
use Rattle.lists.specs.Lists.{Starts}
use Rattle.lists.specs.Ready.{Ready}
use Rattle.layout.specs.Tables.{Ends}
use Rattle.positions.specs.Branches.{BranchBits}
use Rattle.values.specs.Values.{width, Empty, Room}
use Rattle.matching_sets.specs.Sets.{Unfilled}
use Rattle.matching_names.specs.Names.{Unfitted, FittingSets}

-- a word for each constructor, and for each row
pub record Indexed (s : Sizes) (firsts nexts : List ℕ) : Type 0 where
  pub constructors : s.constructors ≤ length firsts
  pub rows : s.rows ≤ length nexts

-- an empty set of values for each name, for each name and the class of the start, and two for each row
pub record Cleared (s : Sizes) (flow mail may held : List ℕ) : Type 0 where
  pub flow_empty : Empty (width s.rows) flow
  pub flow_room : Room (width s.rows) s.names flow
  pub mail_empty : Empty (width s.rows) mail
  pub mail_room : Room (width s.rows) (s.names + 1) mail
  pub patterns : Unfilled s may held

-- a word for each row, all of them 0
pub record Unsettled (s : Sizes) (codes : List ℕ) : Type 0 where
  pub room : s.rows ≤ length codes
  pub none : (r : ℕ) → get_or codes r 0 ≡ 0

-- the tables that refusal 8 alone needs
pub record OpenScratch (s : Sizes) (flow mail firsts nexts may held codes : List ℕ) : Type 0 where
  pub indexed : Indexed s firsts nexts
  pub cleared : Cleared s flow mail may held
  pub unsettled : Unsettled s codes

-- what refusal 8 asks of the message and of the tables that later checks read, where it makes its own; room is that for
-- branches
pub record Openable (ws : List ℕ) (s : Sizes) (afters starts fitting : List ℕ) (room : ℕ) : Type 0 where
  pub ready : Ready ws s
  pub layout : Ends (program ws s) afters
  pub unfitted : Unfitted s.names s.rows fitting
  pub names : s.names < length starts
  pub states : s.states ≤ room

-- what it answers, and that after none these tables are filled
pub record Opened (ws : List ℕ) (s : Sizes) (starts fitting branches : List ℕ) (r : Result Unit Verdict) : Type 0 where
  pub says : r ≡ outcome (open_check s (program ws s) (tables ws s))
  pub begins : r ≡ Ok tt → Starts (tables ws s).flow s.names starts
  pub fits : r ≡ Ok tt → FittingSets (program ws s) (tables ws s) fitting
  pub bits : r ≡ Ok tt → BranchBits (program ws s) (tables ws s) branches
