use native.Mathlib.Omega.{arith}
use mathlib.Core.Path.{sym, ◌∙◌}
use Rattle.model.specs.Words.{columns}
use Rattle.model.specs.Rows.{program}
use Rattle.scopes.proofs.Binding.{name_again, name_missing, names_pass}
use Rattle.scopes.proofs.Found.{at_found, none_found}
use Rattle.scopes.proofs.names.name_check.Goals as goal

pub overflow_add-result : goal.overflow_add-result
overflow_add-result c = omega (arith, (at_found _ _ _ (sym c.first_again.ensures ∙ c.in-Some.is)).1)

pub returns-in-Some-clause-value : goal.returns-in-Some-clause-value
unfolding program columns
returns-in-Some-clause-value c = let w = at_found _ _ _ (sym c.first_again.ensures ∙ c.in-Some.is) in name_again _ _ w.1 w.0

pub returns-in-None-clause-value : goal.returns-in-None-clause-value
unfolding program columns
returns-in-None-clause-value c =
    names_pass _ (none_found _ _ (sym c.first_again.ensures ∙ c.in-None.is)) (sym c.all_bound.ensures ∙ c.if-all_bound.true)

pub returns-in-None-2-clause-value : goal.returns-in-None-2-clause-value
unfolding program columns
returns-in-None-2-clause-value c =
    name_missing _ (none_found _ _ (sym c.first_again.ensures ∙ c.in-None.is)) (sym c.all_bound.ensures ∙ c.if-all_bound.false)
