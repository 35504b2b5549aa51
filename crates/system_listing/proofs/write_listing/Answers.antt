use native.Mathlib.Omega.{arith}
use mathlib.Core.Path.{refl}
use borrow.Author.Rules.{rules}
use Rattle.model.specs.Words.{columns}
use Rattle.model.specs.Tables.{tables, entries}
use Rattle.rule_tables.proofs.Joining.{long, lent_letters}
use Rattle.system_totals.proofs.Lined.{words_told}
use Rattle.system_listing.proofs.Whole.{system_written, rules_room}
use Rattle.system_listing.proofs.write_listing.Goals as goal

pub slice_bounds-letter_count-count : goal.slice_bounds-letter_count-count
slice_bounds-letter_count-count c = omega (arith, long _ _ _ _ _ _ c.requires.joined_tables)

pub slice_bounds-letter_count-start : goal.slice_bounds-letter_count-start
slice_bounds-letter_count-start c = let l = long _ _ _ _ _ _ c.requires.joined_tables in search rules

pub letter_count-count-requires : goal.letter_count-count-requires
letter_count-count-requires c = record { ready = c.requires.joined_tables.ready; class_letters = lent_letters _ _ _ _ _ _ c.requires.joined_tables }

pub write_sizes-requires : goal.write_sizes-requires
write_sizes-requires c = record {
  in_bounds = omega (arith, words_told _ _ _ c.requires.n_value, c.requires.s_in_bounds);
  states_bound = (omega (arith, c.requires.joined_tables.ready.limits.states), omega (arith, c.letter_count-count.ensures.1));
  rules_bound = c.requires.rules_bound;
}

pub write_rules-requires : goal.write_rules-requires
write_rules-requires c = record { joined_tables = c.requires.joined_tables; rule_room = c.requires.rule_room; room = rules_room _ _ c.args.out.now _ _ c.requires.s_in_bounds c.requires.n_value c.write_sizes.auto.out }

pub returns : goal.returns
unfolding tables entries columns
returns c = system_written _ _ _ _ _ c.requires.s_in_bounds c.requires.n_value _ _ _ _ refl c.letter_count-count.ensures.0 c.write_sizes.ensures c.write_rules.ensures
