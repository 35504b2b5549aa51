use native.Mathlib.Omega.{arith}
use lib.ListN.{length-set}
use Rattle.masks.proofs.Masks.{stored}
use borrow.Author.Rules.{rules}
use Rattle.masks.proofs.store.Goals as goal

pub bounds-t-j : goal.bounds-t-j
bounds-t-j c = simp length-set (omega arith)

pub bounds-t-k : goal.bounds-t-k
bounds-t-k c = simp length-set (omega arith)

pub bounds-t-l : goal.bounds-t-l
bounds-t-l c = simp length-set (omega arith)

pub returns : goal.returns
returns c = stored _ _ _ (search rules)
