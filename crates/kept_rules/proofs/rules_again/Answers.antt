use native.Mathlib.Omega.{arith}
use Rattle.model.proofs.Logic.{true_false}
use Rattle.kept_rules.proofs.Keeping.{rules_found, rules_front}
use Rattle.kept_rules.proofs.rules_again.Goals as goal

pub word-requires : goal.word-requires
word-requires c = omega (arith, (c.requires.kept_rules c.if-kept.true).room, c.requires.i_lt_states)

pub word-requires-then-kept : goal.word-requires-then-kept
word-requires-then-kept c = omega (arith, (c.requires.kept_rules c.if-kept.true).room, c.requires.i_lt_states)

pub returns-then-kept : goal.returns-then-kept
returns-then-kept c = record {
  by_index = λ f o. rules_found _ _ f _ _ _ _ _ _ _ _ (c.requires.kept_rules c.if-kept.true) c.requires.i_lt_states c.word.ensures.0 c.word-then-kept.ensures.0;
  kept_rules_2 = c.requires.kept_rules;
}

pub rules_within_of-end-requires : goal.rules_within_of-end-requires
rules_within_of-end-requires c = record { joined_tables = c.requires.joined_tables; i_lt_states = c.requires.i_lt_states; row = c.requires.row; rule_room = c.requires.rule_room }

pub returns : goal.returns
returns c = record {
  by_index = λ f o. rules_front _ _ f _ _ _ _ (c.rules_within_of-end.ensures f (o c.if-kept.false));
  kept_rules_2 = λ h. true_false h c.if-kept.false;
}
