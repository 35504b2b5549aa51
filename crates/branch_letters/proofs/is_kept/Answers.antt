use mathlib.Core.Path.{refl}
use Rattle.model.proofs.Logic.{true_false}
use Rattle.branch_letters.proofs.Keeping.{kept_for}
use Rattle.model.specs.Words.{columns}
use Rattle.model.specs.Tables.{tables, entries}
use borrow.Author.Rules.{rules}
use Rattle.branch_letters.proofs.is_kept.Goals as goal

pub returns-then-x-s : goal.returns-then-x-s
returns-then-x-s c = λ z. true_false z refl

pub returns-then-state_class-c : goal.returns-then-state_class-c
returns-then-state_class-c c = λ z. true_false z refl

pub owner_at-at-requires : goal.owner_at-at-requires
unfolding tables entries columns
owner_at-at-requires c = record {
  ready = c.requires.kept_tables.letter_tables.ready;
  owners_room = record { room = c.requires.kept_tables.reads.room };
  words_value = c.letter_width-words.ensures;
  x_lt_states = search rules;
}

pub returns : goal.returns
returns c = λ z. kept_for _ _ _ _ _ _ _ _ _ _ (search rules) c.state_class.ensures c.if-state_class-c.false c.owner_at-at.ensures.0 refl (search rules) z
