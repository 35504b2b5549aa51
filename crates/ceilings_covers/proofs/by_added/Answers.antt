use native.Mathlib.Omega.{arith}
use mathlib.Core.Path.{sym, ◌∙◌}
use Rattle.model.proofs.Logic.{true_false}
use Rattle.ceilings_covers.proofs.Covering.{added_is, raised_kept, raised_and}
use borrow.Author.Rules.{rules}
use Rattle.ceilings_covers.proofs.by_added.Goals as goal

pub returns-then-n-y : goal.returns-then-n-y
returns-then-n-y c = record { candidates_2 = c.requires.candidates; raised = raised_kept _ _ _ _ _ _ _ (λ h a b. omega (arith, h, c.if-n-y.true)) }

pub returns-then-y-step : goal.returns-then-y-step
returns-then-y-step c = record { candidates_2 = c.requires.candidates; raised = raised_kept _ _ _ _ _ _ _ (λ h a b. a c.if-y-step.true) }

pub returns-then-takes_other : goal.returns-then-takes_other
returns-then-takes_other c = record { candidates_2 = c.requires.candidates; raised = raised_kept _ _ _ _ _ _ _ (λ h a b. true_false (sym c.takes_other.ensures ∙ c.if-takes_other.true) b) }

pub returns : goal.returns
returns c = record {
  candidates_2 = added_is _ _ _ _ _ c.requires.step_apart _ _ _ _ (search rules) c.requires.beside.held_by.few c.if-y-step.false (sym c.takes_other.ensures ∙ c.if-takes_other.false) c.requires.y_value c.one_more_at.ensures c.and.ensures c.requires.candidates;
  raised = raised_and _ _ _ _ _ _ _ _ _ c.one_more_at.ensures c.and.ensures;
}
