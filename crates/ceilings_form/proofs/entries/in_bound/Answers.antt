use borrow.Author.Rules.{rules}
use Rattle.ceilings_form.proofs.Reading.{in_bound_most, in_bound_number, in_bound_counter, in_bound_least}
use Rattle.ceilings_form.proofs.entries.in_bound.Goals as goal

pub returns-then-number-ge1 : goal.returns-then-number-ge1
returns-then-number-ge1 c = in_bound_most _ _ _ _ _ (search rules) (search rules) (search rules)

pub returns-else-number-ge1 : goal.returns-else-number-ge1
returns-else-number-ge1 c = in_bound_number _ _ _ _ _ (search rules) (search rules) (search rules)

pub returns-else-x-n : goal.returns-else-x-n
returns-else-x-n c = in_bound_counter _ _ _ _ _ (search rules) (search rules)

pub returns-else-least-x : goal.returns-else-least-x
returns-else-least-x c = in_bound_least _ _ _ _ _ (search rules)
