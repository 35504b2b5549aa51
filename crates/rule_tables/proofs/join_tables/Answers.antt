use Rattle.rule_tables.proofs.Joining.{joined}
use Rattle.rule_tables.proofs.join_tables.Goals as goal

pub returns : goal.returns
returns c = joined _ _ _ _ _ _ c.requires.within_limits c.copy_words.ensures c.copy_words-2.ensures
