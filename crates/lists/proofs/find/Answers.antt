use native.Mathlib.Omega.{arith}
use mathlib.Core.Path.{sym, ◌∙◌}
use borrow.Author.Rules.{rules}
use Rattle.model.specs.Words.{columns}
use Rattle.lists.specs.Lists.{listed}
use Rattle.lists.proofs.Rising.{entry_found, entry_missed}
use Rattle.lists.proofs.find.Goals as goal

pub returns-then-i-l : goal.returns-then-i-l
unfolding listed columns
returns-then-i-l c = entry_missed _ _ _ _ _ c.requires.ascending _ c.place-i.ensures (λ l. absurd (omega arith))

pub returns-then-is_entry : goal.returns-then-is_entry
unfolding listed columns
returns-then-is_entry c = entry_found _ _ _ _ _ c.requires.ascending _ (search rules) (sym c.is_entry.ensures ∙ c.if-is_entry.true)

pub returns-else-is_entry : goal.returns-else-is_entry
unfolding listed columns
returns-else-is_entry c = entry_missed _ _ _ _ _ c.requires.ascending _ c.place-i.ensures (λ l. sym c.is_entry.ensures ∙ c.if-is_entry.false)
