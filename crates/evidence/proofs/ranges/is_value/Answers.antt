use mathlib.Core.Logic.{inl, inr}
use borrow.Author.Rules.{rules}
use Rattle.model.specs.Words.{columns}
use Rattle.model.specs.Rows.{program}
use Rattle.evidence.proofs.Tags.{value_low, value_high, value_start}
use native.Mathlib.Omega.{arith}
use Rattle.evidence.proofs.ranges.is_value.Goals as goal
use Rattle.evidence.proofs.ranges.is_value.Goals.{in_default-via-then-this-lt2, in_default-via-else-this-lt2+else-this-lt4}

pub returns-in_default : goal.returns-in_default
unfolding program columns
returns-in_default c =
    value_start _ _ _ c.tag.ensures
    (elim c.in_default.branch [
      | in_default-via-then-this-lt2 w ↦ inl (omega arith)
      | in_default-via-else-this-lt2+else-this-lt4 w ↦ inr (omega arith)
    ])
    (omega arith)

pub returns-in-2 : goal.returns-in-2
returns-in-2 c = value_high _ _ _ c.tag.ensures c.in-2.is

pub returns-in-2-2 : goal.returns-in-2-2
returns-in-2-2 c = value_low _ _ _ c.tag.ensures (search rules) (search rules)
