use Rattle.model.specs.Rows.{program}
use Rattle.model.specs.Tables.{tables}
use Rattle.weights_least.proofs.Filling.{none_of_all}
use Rattle.weights_least.proofs.Items.{least_found}
use borrow.Author.Rules.{rules}
use Rattle.weights_least.proofs.least_weight.Goals as goal

pub put_items-singles-requires : goal.put_items-singles-requires
put_items-singles-requires c = record { weighable = c.requires.weighable; k_lt_lines = (search rules, search rules, search rules); all_counted = c.requires.all_counted }

pub put_items-requires : goal.put_items-requires
put_items-requires c = record { weighable = c.requires.weighable; k_lt_lines = (search rules, search rules, search rules); all_counted = c.requires.all_counted }

pub returns : goal.returns
returns c = let a = c.args in least_found (program a.ws.now a.s) (tables a.ws.now a.s) _ _ _ _ _ _ _ (none_of_all a.n _ _ c.requires.n_value c.clear.ensures) c.put_items-singles.ensures.counts_after c.put_items.ensures.counts_after c.put_items-singles.ensures.grown c.put_items.ensures.grown
