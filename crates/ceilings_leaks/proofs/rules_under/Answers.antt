use mathlib.Core.Path.{ap}
use mathlib.Core.Bool.{not}
use borrow.Author.Rules.{rules}
use Rattle.state_rules.proofs.Letters.{set_room}
use Rattle.ceilings_letters.proofs.Holding.{letters_ready}
use Rattle.ceilings_leaks.proofs.rules_under.Goals as goal

pub asked_letters-requires : goal.asked_letters-requires
asked_letters-requires c = record {
  ready = (c.requires.joined_tables.ready, c.requires.joined_tables.ends);
  under = c.requires.under;
  letters_room = letters_ready c.args.ws.now _ _ _ _ _ _ c.requires.under.counted c.requires.joined_tables.few c.requires.under.width c.requires.under.beside.ceiling c.requires.under.beside.held_by.table (set_room c.requires.joined_tables.ready _ c.requires.joined_tables.few (search rules));
}

pub rules_again-requires : goal.rules_again-requires
rules_again-requires c = record {
  joined_tables = c.requires.joined_tables;
  kept_rules = c.requires.rule_room.1;
  i_lt_states = c.requires.under.state;
  row = set_room c.requires.joined_tables.ready _ c.requires.joined_tables.few (search rules);
  rule_room = c.requires.rule_room.0;
}

pub returns : goal.returns
returns c =
    let w = c.asked_letters.ensures in
    record {
      rules_seen = record { passes = w.passes; asked = c.rules_again.ensures.by_index w.passes (λ none. w.letters (ap not none)); harmless = w.harmless };
      kept_rules = c.rules_again.ensures.kept_rules_2;
    }
