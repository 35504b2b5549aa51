-- What a head asks whatever the state, as one number.
use Rattle.std.specs.Prelude.{ℕ, ◌+◌, ◌≤◌, ◌≡◌, ◌⊎◌, List}
use Rattle.model.specs.declared.Sizes.{Sizes}
use Rattle.model.specs.Rows.{Program, program, tag, num}
use Rattle.model.specs.Heads.{branch_rows}
use Rattle.model.specs.Tables.{Tables, tables, has}
use Rattle.layout.specs.Tables.{Ends}
use Rattle.lists.specs.Lists.{Starts}
use Rattle.lists.specs.Ready.{Ready}
use Rattle.values.specs.Values.{FlowSets, MailSets}
use Rattle.matching.specs.Patterns.{Matches}
use Rattle.branches.specs.Taken.{lacks, BitsTold}
use Rattle.asks.specs.Asks.{there_code, Asked}

-- what heads and states are told by: the checks before refusal 8 found nothing, and its tables are filled
pub record ClosureReady (ws : List ℕ) (s : Sizes) (afters starts flow mail may held : List ℕ) : Type 0 where
  pub ready : Ready ws s
  pub layout : Ends (program ws s) afters
  pub begins : Starts (tables ws s).flow s.names starts
  pub names : FlowSets (program ws s) (tables ws s) flow
  pub classes : MailSets (program ws s) (tables ws s) mail
  pub patterns : Matches (program ws s) (tables ws s) may held 0

-- of a build and a function whether their name holds the row; of a call, a send and a spawn what they ask together; of
-- a case the bits of its branches
pub record Settled (p : Program) (t : Tables) (r k : ℕ) : Type 0 where
  pub most : k ≤ lacks
  pub named : (tag p r ≡ 2) ⊎ (tag p r ≡ 3) → k ≡ there_code (has t.flow (num p r) r)
  pub asked : 4 ≤ tag p r → tag p r ≤ 6 → Asked p t r k
  pub taken : tag p r ≡ 8 → BitsTold p t t.flow (num p r) (branch_rows p (num p (r + 1)) (r + 2)) k
