use borrow.Author.Rules.{rules}
use Rattle.onward.proofs.Guesses.{guessed_none, guessed_then}
use Rattle.onward.proofs.guess_class.Goals as goal

pub returns-then-state_class-c : goal.returns-then-state_class-c
returns-then-state_class-c c = guessed_none _ _

pub loop-j-init : goal.loop-j-init
loop-j-init c = guessed_none _ _

pub returns-then-state_class-c-2 : goal.returns-then-state_class-c-2
returns-then-state_class-c-2 c = c.loop-j.invariant

pub loop-j-preserved : goal.loop-j-preserved
loop-j-preserved c = guessed_then _ _ _ _ _ c.loop-j.invariant c.note.ensures (search rules)

pub returns : goal.returns
returns c = c.loop-j.invariant
