use native.Mathlib.Omega.{arith}
use Rattle.branch_letters.proofs.Keeping.{owner_number, owners_room}
use borrow.Author.Rules.{rules}
use Rattle.branch_letters.proofs.owner_at.Goals as goal

pub overflow_mul-result : goal.overflow_mul-result
overflow_mul-result c = record { fits = let z = owners_room _ _ _ _ _ c.requires.owners_room c.read_set-sets.ensures c.requires.words_value in omega arith }

pub overflow_add-result : goal.overflow_add-result
overflow_add-result c = record { fits = let z = owners_room _ _ _ _ _ c.requires.owners_room c.read_set-sets.ensures c.requires.words_value in omega arith }

pub returns : goal.returns
returns c = (owner_number _ _ _ _ _ _ c.read_set-sets.ensures c.requires.words_value (search rules), let z = owners_room _ _ _ _ _ c.requires.owners_room c.read_set-sets.ensures c.requires.words_value in omega (arith, c.requires.x_lt_states))
