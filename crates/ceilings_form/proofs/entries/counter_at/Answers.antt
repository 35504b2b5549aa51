use Rattle.ceilings_form.proofs.Ceilings.{part_of, part_in}
use Rattle.ceilings_form.proofs.entries.counter_at.Goals as goal

pub entry_counter-requires : goal.entry_counter-requires
entry_counter-requires c = rw c.ceilings_part.ensures (part_in _ _ c.requires)

pub returns : goal.returns
returns c = rw (c.ceilings_part.ensures, part_of) at c.entry_counter.ensures
