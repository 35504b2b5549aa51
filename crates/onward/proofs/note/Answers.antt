use Rattle.onward.proofs.Guesses.{guessed_none, guessed_one}
use borrow.Author.Rules.{rules}
use Rattle.onward.proofs.note.Goals as goal

pub returns-then-r-last : goal.returns-then-r-last
returns-then-r-last c = guessed_none _ _

pub returns-then-r-at : goal.returns-then-r-at
returns-then-r-at c = guessed_one _ _ _ (search rules)

pub returns-else-r-at : goal.returns-else-r-at
returns-else-r-at c = guessed_none _ _
