use native.Mathlib.Omega.{arith}
use mathlib.Core.Path.{refl}
use borrow.Author.Rules.{rules}
use Rattle.letter_sets.proofs.Putting.{upto_start}
use Rattle.letter_sets.proofs.Filling.{digit_rows, digits_turn, digits_filled}
use Rattle.letter_sets.proofs.fill_digits.Goals as goal

pub letter_count-n-requires : goal.letter_count-n-requires
letter_count-n-requires c = record { ready = c.requires.letters_listed.ready; class_letters = c.requires.letters_listed.class_letters }

pub letter_width-w-requires : goal.letter_width-w-requires
letter_width-w-requires c = record { ready = c.requires.letters_listed.ready; class_letters = c.requires.letters_listed.class_letters }

pub loop-y-init : goal.loop-y-init
loop-y-init c = upto_start _ _ _ _

pub bounds-codes-y : goal.bounds-codes-y
bounds-codes-y c = omega (arith, c.requires.letters_listed.coded.room)

pub put_digits-requires : goal.put_digits-requires
put_digits-requires c = digit_rows c.requires.letters_listed.ready _ _ _ _ _ _ _ _ c.letter_width-w.ensures refl c.loop-y-test.true c.letter_count-n.ensures.0 c.requires.letters_listed.coded refl c.requires.letter_room c.loop-y.invariant.long

pub loop-y-preserved : goal.loop-y-preserved
loop-y-preserved c = digits_turn _ _ _ _ c.args.codes.now _ _ _ c.loop-y.invariant refl c.put_digits.ensures

pub shape_of-letters : goal.shape_of-letters
shape_of-letters c = c.loop-y.invariant.long

pub returns : goal.returns
returns c = digits_filled c.requires.letters_listed.ready _ _ _ _ _ _ _ c.letter_width-w.ensures refl c.loop-y.invariant (search rules) c.letter_count-n.ensures.0
