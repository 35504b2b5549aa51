use borrow.Author.Rules.{rules}
use Rattle.model.specs.Words.{right, columns}
use Rattle.ceilings_form.specs.Parts.{part_entries}
use Rattle.ceilings_form.proofs.entries.entry_number.Goals as goal

pub returns : goal.returns
unfolding part_entries right columns
returns c = search rules
