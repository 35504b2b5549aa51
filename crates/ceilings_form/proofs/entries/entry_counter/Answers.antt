use borrow.Author.Rules.{rules}
use Rattle.model.specs.Words.{left, columns}
use Rattle.ceilings_form.specs.Parts.{part_entries}
use Rattle.ceilings_form.proofs.entries.entry_counter.Goals as goal

pub returns : goal.returns
unfolding part_entries left columns
returns c = search rules
