use Rattle.weights_form.proofs.Lines.{part_of, part_in, form_of}
use Rattle.weights.proofs.Filled.{weights_table, begins_table}
use Rattle.weights.proofs.fill_weights.Goals as goal

pub weights_part-requires : goal.weights_part-requires
weights_part-requires c = c.requires.whole.0.limits

pub fill_bounds-requires-clause-part_held : goal.fill_bounds-requires-clause-part_held
fill_bounds-requires-clause-part_held c =
    rw (c.weights_part.ensures, part_of) (part_in _ _ c.requires.whole.0 c.requires.whole.1, form_of _ _ _ c.requires.whole.2)

pub returns-clause-weights_table : goal.returns-clause-weights_table
returns-clause-weights_table c =
    weights_table _ _ _ c.requires.whole.2 _ (rw (c.weights_part.ensures, part_of) at c.fill_bounds.ensures.bounds_table)

pub returns-clause-begins_table : goal.returns-clause-begins_table
returns-clause-begins_table c =
    begins_table _ _ _ c.requires.whole.2 _ (rw (c.weights_part.ensures, part_of) at c.fill_bounds.ensures.starts_table)
