-- Behind ceilings there is no fifth part.
use mathlib.Core.Path.{sym, ◌∙◌}
use borrow.Author.Rules.{rules}
use borrow.Author.Tests.{eq-eqb, ne_eqb}
use Rattle.model.specs.Message.{fifth_size_of}
use Rattle.model.proofs.Logic.{chosen_true, chosen_false}
use Rattle.sizes.proofs.fifth_size.Goals as goal

pub returns-then-ceilings-entries-eq0 : goal.returns-then-ceilings-entries-eq0
unfolding fifth_size_of
returns-then-ceilings-entries-eq0 c = record { value = c.size_at.ensures.value ∙ sym (chosen_true _ _ _ (eq-eqb _ _ c.if-ceilings-entries-eq0.true)); upper_bound = c.size_at.ensures.upper_bound }

pub returns-else-ceilings-entries-eq0 : goal.returns-else-ceilings-entries-eq0
unfolding fifth_size_of
returns-else-ceilings-entries-eq0 c = record { value = sym (chosen_false _ _ _ (ne_eqb _ _ c.if-ceilings-entries-eq0.false)); upper_bound = search rules }
