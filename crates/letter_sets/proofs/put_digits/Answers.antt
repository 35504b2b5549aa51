use native.Mathlib.Omega.{arith}
use borrow.Author.Rules.{rules}
use Rattle.letter_sets.proofs.Putting.{upto_start}
use Rattle.letter_sets.proofs.Told.{set_most, digit_most, digit_row, digit_put, digits_over}
use Rattle.letter_sets.proofs.put_digits.Goals as goal

pub loop-i-init : goal.loop-i-init
loop-i-init c = upto_start _ _ _ _

pub overflow_mul-set : goal.overflow_mul-set
overflow_mul-set c = record { fits = omega (arith, set_most c.loop-i.i c.args.heads (search rules) c.requires.few) }

pub overflow_add-set : goal.overflow_add-set
overflow_add-set c = record { fits = omega (arith, set_most c.loop-i.i c.args.heads (search rules) c.requires.few, digit_most _ _ _ c.digit.ensures) }

pub put-requires : goal.put-requires
put-requires c =
    let z = digit_row c.args.heads c.args.w c.args.code c.args.y _ _ _ _ c.requires c.loop-i.invariant.long (search rules) c.digit.ensures in record { v_bound = z.0; row = z.1 }

pub loop-i-preserved : goal.loop-i-preserved
loop-i-preserved c = digit_put c.args.heads c.args.w c.args.code c.args.y _ _ _ _ _ c.loop-i.invariant c.digit.ensures c.put.ensures

pub shape_of-letters : goal.shape_of-letters
shape_of-letters c = c.loop-i.invariant.long

pub returns : goal.returns
returns c = digits_over c.args.heads c.args.w c.args.code c.args.y _ _ _ c.loop-i.invariant (search rules)
