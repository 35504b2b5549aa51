use mathlib.Core.Path.{◌∙◌}
use borrow.Author.Rules.{rules}
use Rattle.model.specs.Message.{tables_offset}
use Rattle.lists.specs.Lists.{state_span}
use Rattle.lists.proofs.states.Goals as goal

pub overflow_add-thirds : goal.overflow_add-thirds
unfolding tables_offset
overflow_add-thirds c = search rules

pub overflow_add-thirds-4 : goal.overflow_add-thirds-4
unfolding tables_offset
overflow_add-thirds-4 c = search rules

pub returns : goal.returns
unfolding state_span
returns c = c.entries.ensures ∙ rw c.tables_at.ensures
