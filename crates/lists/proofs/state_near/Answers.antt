use mathlib.Core.Path.{sym, ◌∙◌}
use borrow.Author.Rules.{rules}
use Rattle.lists.proofs.Facts.{states_usable, state_found, state_guessed}
use Rattle.lists.proofs.state_near.Goals as goal

pub find-requires : goal.find-requires
find-requires c =
    let z = states_usable c.requires _ c.states-list.ensures in record { held = z.0; ascending = z.1 }

pub returns-then-guess-s : goal.returns-then-guess-s
returns-then-guess-s c = state_found _ _ _ _ _ _ _ c.states-list.ensures c.find.ensures

pub is_entry-requires : goal.is_entry-requires
is_entry-requires c = (states_usable c.requires _ c.states-list.ensures).0

pub returns-then-is_entry : goal.returns-then-is_entry
returns-then-is_entry c = state_guessed c.requires _ _ _ _ _ c.states-list.ensures (search rules) (sym c.is_entry.ensures ∙ c.if-is_entry.true)

pub find-requires-else-is_entry : goal.find-requires-else-is_entry
find-requires-else-is_entry c =
    let z = states_usable c.requires _ c.states-list.ensures in record { held = z.0; ascending = z.1 }

pub returns-else-is_entry : goal.returns-else-is_entry
returns-else-is_entry c = state_found _ _ _ _ _ _ _ c.states-list.ensures c.find-else-is_entry.ensures
