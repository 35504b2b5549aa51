use mathlib.Core.Path.{sym, ◌∙◌}
use Rattle.model.specs.Words.{columns}
use Rattle.model.specs.Rows.{program}
use Rattle.matching.proofs.Subpatterns.{pattern_within}
use Rattle.lettered_rules.proofs.Letters.{set_room}
use Rattle.branch_letters.proofs.Keeping.{kept_tables}
use borrow.Author.Rules.{rules}
use Rattle.kept_letters.proofs.keep_branch.Goals as goal

pub returns-then-x-s : goal.returns-then-x-s
returns-then-x-s c = record { letter_sets = c.requires.read_tables.pattern_tables.letter_tables.letter_sets_of; reads = c.requires.read_tables.reads }

pub state_class-requires : goal.state_class-requires
state_class-requires c = c.requires.read_tables.pattern_tables.match_tables.ready

pub returns-then-state_class-c : goal.returns-then-state_class-c
returns-then-state_class-c c = record { letter_sets = c.requires.read_tables.pattern_tables.letter_tables.letter_sets_of; reads = c.requires.read_tables.reads }

pub branch_letters-requires : goal.branch_letters-requires
branch_letters-requires c = record {
  read_tables = c.requires.read_tables;
  read_room = record {
    class = c.requires.c_le_rows.0;
    pattern = c.requires.c_le_rows.1;
    part_row = set_room c.requires.read_tables.pattern_tables.letter_tables.ready _ c.requires.read_tables.pattern_tables.letter_tables.few (search rules);
    found_row = set_room c.requires.read_tables.pattern_tables.letter_tables.ready _ c.requires.read_tables.pattern_tables.letter_tables.few (search rules);
  };
}

pub keep_letters-requires : goal.keep_letters-requires
unfolding program columns
keep_letters-requires c = record {
  kept_tables = kept_tables c.requires.read_tables;
  x_lt_states = (search rules, sym c.state_class.ensures ∙ c.if-state_class-c.false, pattern_within c.requires.c_le_rows.1);
  found = c.branch_letters.ensures;
}

pub returns : goal.returns
returns c = record { letter_sets = c.keep_letters.ensures.letter_sets; reads = c.keep_letters.ensures.reads }
