use native.Mathlib.Omega.{arith}
use mathlib.Core.Path.{sym, ap}
use lib.ListN.{get_or}
use Rattle.masks.specs.Masks.{words}
use Rattle.masks.proofs.Masks.{word_is}
use borrow.Author.Rules.{rules}
use Rattle.masks.proofs.word.Goals as goal

pub returns-in-0 : goal.returns-in-0
unfolding words
returns-in-0 c = sym (ap (λ i. get_or (words c.args.x) i 0) c.in-0.is)

pub returns-in-1 : goal.returns-in-1
unfolding words
returns-in-1 c = sym (ap (λ i. get_or (words c.args.x) i 0) c.in-1.is)

pub returns-in-2 : goal.returns-in-2
unfolding words
returns-in-2 c = sym (ap (λ i. get_or (words c.args.x) i 0) c.in-2.is)

pub returns-in_default : goal.returns-in_default
returns-in_default c = word_is _ _ (search rules) (omega arith) (omega arith) (omega arith)
