-- What the counters and rules ask of a message: the checks before refusal 8 found nothing. (That the tables are closed
-- is not asked, nor that no function is mailed.)
use Rattle.std.specs.Prelude.{ℕ, ◌≤◌, ◌≡◌, List, length}
use Rattle.std.proofs.Math.Option.{none}
use Rattle.model.specs.Limits.{present}
use Rattle.model.specs.declared.Sizes.{Sizes}
use Rattle.model.specs.Message.{end_of}
use Rattle.model.specs.Rows.{program}
use Rattle.model.specs.Tables.{tables, entry_check_of}
use Rattle.model.specs.Verify.{program_check}
use Rattle.model.specs.Demands.{WithinLimits}
use Rattle.program.specs.Rows.{Whole}

pub record Ready (ws : List ℕ) (s : Sizes) : Type 0 where
  pub whole : Whole ws s
  pub held : end_of s ≤ length ws
  pub limits : WithinLimits present s
  pub well_formed : program_check (program ws s) ≡ none
  pub in_form : entry_check_of s (program ws s) (tables ws s) ≡ none
