use native.Mathlib.Omega.{arith}
use mathlib.Core.Path.{refl}
use Rattle.checks.proofs.Laying.{words_told, words_most}
use Rattle.checks.proofs.system.letter_words.Goals as goal

pub set_count-sets-requires : goal.set_count-sets-requires
set_count-sets-requires c = c.requires.ready.limits

pub letter_width-words-requires : goal.letter_width-words-requires
letter_width-words-requires c = record { ready = c.requires.ready; class_letters = c.requires.class_letters }

pub overflow_mul-result : goal.overflow_mul-result
overflow_mul-result c = record { fits = let z = words_told _ _ _ _ _ c.set_count-sets.ensures c.letter_width-words.ensures refl in let y = words_most _ _ c.requires.ready c.requires.s_bound in omega arith }

pub overflow_add-result : goal.overflow_add-result
overflow_add-result c = record { fits = let z = words_told _ _ _ _ _ c.set_count-sets.ensures c.letter_width-words.ensures refl in let y = words_most _ _ c.requires.ready c.requires.s_bound in omega arith }

pub returns : goal.returns
returns c = words_told _ _ _ _ _ c.set_count-sets.ensures c.letter_width-words.ensures refl
