use native.Mathlib.Omega.{arith}
use borrow.Author.Rules.{rules}
use Rattle.rule_tables.proofs.Joining.{long, lent_tables}
use Rattle.rule_tables.proofs.rules_of.Goals as goal

pub slice_bounds-flow_at-start : goal.slice_bounds-flow_at-start
slice_bounds-flow_at-start c = let l = long _ _ _ _ _ _ c.requires.joined_tables in search rules

pub slice_bounds-flow_at-count : goal.slice_bounds-flow_at-count
slice_bounds-flow_at-count c = omega (arith, long _ _ _ _ _ _ c.requires.joined_tables)

pub slice_bounds-branches-start : goal.slice_bounds-branches-start
slice_bounds-branches-start c = let l = long _ _ _ _ _ _ c.requires.joined_tables in search rules

pub slice_bounds-branches-count : goal.slice_bounds-branches-count
slice_bounds-branches-count c = omega (arith, long _ _ _ _ _ _ c.requires.joined_tables)

pub slice_bounds-letter_at-start : goal.slice_bounds-letter_at-start
slice_bounds-letter_at-start c = let l = long _ _ _ _ _ _ c.requires.joined_tables in search rules

pub slice_bounds-letter_at-count : goal.slice_bounds-letter_at-count
slice_bounds-letter_at-count c = omega (arith, long _ _ _ _ _ _ c.requires.joined_tables)

pub state_rules-requires : goal.state_rules-requires
state_rules-requires c = record { rule_tables = lent_tables _ _ _ _ _ _ c.requires.joined_tables _ c.name_width-w.ensures; i_lt_states = c.requires.i_lt_states; rule_room = (c.requires.rule_room) }
