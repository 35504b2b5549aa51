use mathlib.Core.Path.{refl}
use Rattle.system_items.proofs.Letters.{digit_high, set_small, digit_room, digit_told}
use borrow.Author.Rules.{rules}
use Rattle.system_items.proofs.is_digit.Goals as goal

pub returns-then-h-heads : goal.returns-then-h-heads
returns-then-h-heads c = digit_high c.requires.sets_filled.ready c.requires.sets_filled _ _ _ _ _ c.requires.i_lt_digits c.bad_number-h.ensures.0 refl c.if-h-heads.true

pub overflow_mul-set : goal.overflow_mul-set
overflow_mul-set c = let h = set_small c.requires.sets_filled.ready c.requires.sets_filled _ _ _ _ _ c.requires.i_lt_digits c.bad_number-h.ensures.0 refl in search rules

pub overflow_add-set : goal.overflow_add-set
overflow_add-set c = let h = set_small c.requires.sets_filled.ready c.requires.sets_filled _ _ _ _ _ c.requires.i_lt_digits c.bad_number-h.ensures.0 refl in search rules

pub holds-requires : goal.holds-requires
holds-requires c =
    let z = digit_room c.requires.sets_filled.ready c.requires.sets_filled _ _ _ _ _ c.requires.i_lt_digits c.bad_number-h.ensures.0 refl c.if-h-heads.false in record { v_bound = z.0; row = z.1 }

pub returns : goal.returns
returns c = digit_told c.requires.sets_filled.ready c.requires.sets_filled _ _ _ _ _ c.requires.i_lt_digits c.bad_number-h.ensures.0 refl c.if-h-heads.false _ c.holds.ensures
