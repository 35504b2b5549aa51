use mathlib.Core.Path.{refl}
use borrow.Author.Rules.{rules}
use Rattle.bits.proofs.Rows.{filled_start, filled_next, filled_to}
use Rattle.rule_tables.proofs.copy_words.Goals as goal

pub loop-j-init : goal.loop-j-init
loop-j-init c = filled_start _ _ _

pub loop-j-preserved : goal.loop-j-preserved
loop-j-preserved c = filled_next _ _ _ _ _ _ c.loop-j.invariant (search rules) refl

pub returns : goal.returns
returns c = filled_to _ _ _ _ _ _ c.loop-j.invariant (search rules)
