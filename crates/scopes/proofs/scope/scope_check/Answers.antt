use native.Mathlib.Omega.{arith}
use mathlib.Core.Path.{sym, ◌∙◌}
use Rattle.model.specs.Words.{columns}
use Rattle.model.specs.Rows.{program}
use Rattle.scopes.proofs.Found.{at_found, none_found}
use Rattle.scopes.proofs.Scoping.{scope_out, scopes_pass}
use Rattle.scopes.proofs.scope.scope_check.Goals as goal

pub overflow_add-result : goal.overflow_add-result
overflow_add-result c = omega (arith, (at_found _ _ _ (sym c.first_out.ensures ∙ c.in-Some.is)).1)

pub returns-in-Some : goal.returns-in-Some
unfolding program columns
returns-in-Some c = let w = at_found _ _ _ (sym c.first_out.ensures ∙ c.in-Some.is) in scope_out _ _ w.1 w.0

pub returns-in-None : goal.returns-in-None
unfolding program columns
returns-in-None c = scopes_pass _ (none_found _ _ (sym c.first_out.ensures ∙ c.in-None.is))
