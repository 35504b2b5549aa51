-- What the checks of bads and tables ask: the words of a message whose parts are whole, with sizes within their limits.
use Rattle.std.specs.Prelude.{ℕ, ◌≤◌, List, length}
use Rattle.model.specs.Limits.{present}
use Rattle.model.specs.declared.Sizes.{Sizes}
use Rattle.model.specs.Message.{end_of}
use Rattle.model.specs.Demands.{WithinLimits}
use Rattle.program.specs.Rows.{Whole}

pub record PartsWhole (ws : List ℕ) (s : Sizes) : Type 0 where
  pub program : Whole ws s
  pub limits : WithinLimits present s
  pub held : end_of s ≤ length ws
