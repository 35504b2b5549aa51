-- What the checks are lent: tables with room for a message of these sizes, some of them with nothing in them.
use Rattle.std.specs.Prelude.{ℕ, ◌+◌, ◌*◌, ◌≤◌, ◌<◌, ◌≡◌, List, length, drop}
use Rattle.std.proofs.Math.Option.{none}
use Rattle.rooms.specs.Rooms.{rule_words}
use Rattle.model.specs.declared.Sizes.{Sizes}
use Rattle.model.specs.Rows.{program}
use Rattle.model.specs.Tables.{tables}
use Rattle.model.specs.Limits.{max_rows, max_branches, max_counters}
use Rattle.model.specs.Closed.{open_check}
use Rattle.model.specs.Counters.{letter_count_of, counter_count}
use Rattle.model.specs.Ceilings.{ceilings_of, ceiling_entries}
use Rattle.lists.specs.Lists.{Starts}
use Rattle.lists.specs.Ready.{Ready}
use Rattle.layout.specs.Tables.{Ends}
use Rattle.positions.specs.Branches.{BranchBits}
use Rattle.matching_names.specs.Names.{FittingSets}
use Rattle.system_letters.specs.Letters.{NameHeads, ClassLetters}
use Rattle.letter_codes.specs.Codes.{Coded}
use Rattle.rule_tables.specs.Joined.{flow_from, branches_from, letter_from}
use Rattle.ceilings_form.specs.Parts as ceilings
use Rattle.ceilings_form.specs.Limits.{InForm, StartsTable}
use Rattle.ceilings.specs.Table.{LimitsTable}
use Rattle.bads_rows.specs.Items.{BadsInForm}
use Rattle.weights_form.specs.Form.{WeightsInForm}
use Rattle.stages.specs.Order.{form_check}

-- three sets of ceilings for each of n counters, three for each state, and two for each counter
pub record MaskRoom (n : ℕ) (holders group near : List ℕ) : Type 0 where
  pub held : n * 12 ≤ length holders
  pub states : n * 12 ≤ length group
  pub beside : n * 8 ≤ length near

-- n are all counters of a message, and no more than the limit
pub record Counted (ws : List ℕ) (s : Sizes) (n : ℕ) : Type 0 where
  pub counters : n ≡ counter_count (program ws s) (tables ws s)
  pub few : n ≤ max_counters

-- the start has one of them: the tables are closed, and the table of ends tells where it stands
pub record Startable (ws : List ℕ) (s : Sizes) (afters : List ℕ) (n : ℕ) : Type 0 where
  pub ready : Ready ws s
  pub ends : Ends (program ws s) afters
  pub closed : open_check s (program ws s) (tables ws s) ≡ none
  pub counted : Counted ws s n

-- n counters, and the bounds and bads of a message in form
pub record Formed (ws : List ℕ) (s : Sizes) (n : ℕ) : Type 0 where
  pub counted : n ≡ counter_count (program ws s) (tables ws s)
  pub in_form : form_check ws s n ≡ none
  pub bads : BadsInForm ws s

-- the same where the bounds are lines of weights
pub record Lined (ws : List ℕ) (s : Sizes) (n : ℕ) : Type 0 where
  pub some : 1 ≤ s.lines
  pub counted : n ≡ counter_count (program ws s) (tables ws s)
  pub in_form : WeightsInForm ws s n
  pub bads : BadsInForm ws s

-- the same where they are ceilings
pub record Numbered (ws : List ℕ) (s : Sizes) (n : ℕ) : Type 0 where
  pub counted : n ≡ counter_count (program ws s) (tables ws s)
  pub in_form : InForm ws s n
  pub bads : BadsInForm ws s

-- n counters, and the ceilings of a message in form, with their limits and where each begins
pub record Limited (ws : List ℕ) (s : Sizes) (n : ℕ) (limits ceiling-at : List ℕ) : Type 0 where
  pub counted : n ≡ counter_count (program ws s) (tables ws s)
  pub in_form : InForm ws s n
  pub limits_table : LimitsTable (ceilings_of ws s n) limits
  pub starts_table : StartsTable n (ceiling_entries ws s) s.ceilings ceiling-at

-- the bads of a message that passes 1 to 8, and the tables that refusal 8 leaves, with room for the letters behind
pub record ClosedTables (ws : List ℕ) (s : Sizes) (narrow fitting : List ℕ) : Type 0 where
  pub ready : Ready ws s
  pub whole : ceilings.Whole ws s
  pub bads : BadsInForm ws s
  pub closed : open_check s (program ws s) (tables ws s) ≡ none
  pub room : length narrow ≡ rule_words
  pub ends : Ends (program ws s) narrow
  pub flow_starts : Starts (tables ws s).flow s.names (drop flow_from narrow)
  pub fitting_sets_of : FittingSets (program ws s) (tables ws s) fitting
  pub branch_bits : BranchBits (program ws s) (tables ws s) (drop branches_from narrow)

-- n counters after 10 or 16, and the letters as numbers
pub record Lettered (ws : List ℕ) (s : Sizes) (narrow fitting names codes : List ℕ) (n : ℕ) : Type 0 where
  pub closed_tables : ClosedTables ws s narrow fitting
  pub name_heads : NameHeads (program ws s) (tables ws s) names
  pub class_letters : ClassLetters (program ws s) (tables ws s) (drop letter_from narrow)
  pub coded : Coded (program ws s) (tables ws s) codes
  pub formed : Formed ws s n
  pub few : n ≤ max_counters

-- the rules of any state fit behind `spare` of so many words
pub record RulesFit (ws : List ℕ) (s : Sizes) (spare room : ℕ) : Type 0 where
  pub values : spare + s.rows < room
  pub letters : spare + max_branches * letter_count_of (program ws s) (tables ws s) ≤ room
  pub counters : spare + max_counters ≤ room

-- cleared lists of so many words have room for the rules of any state of a message of n counters
pub record ListsFit (n list : ℕ) : Type 0 where
  pub values : max_rows < list
  pub letters : max_branches * n ≤ list
  pub counters : max_counters ≤ list
  pub most : list ≤ 65536

-- tables of these lengths have room for the limits of n counters, a sum for each, and sets of ceilings as in MaskRoom
pub record LimitsFit (s : Sizes) (n cells counts triples pairs : ℕ) : Type 0 where
  pub limited : n * s.ceilings ≤ cells
  pub summed : n < counts
  pub held : n * 12 ≤ triples
  pub beside : n * 8 ≤ pairs
  pub most : cells + counts + triples + pairs ≤ 1048576

-- tables of these lengths have room for the weights of n counters on each line, and a count for each
pub record WeightsFit (s : Sizes) (n cells counts : ℕ) : Type 0 where
  pub weighed : n * s.lines ≤ cells
  pub counted : n ≤ counts
  pub most : cells + counts ≤ 1048576
