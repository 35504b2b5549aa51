use Prim.Native.Nat.{◌+◌, ◌-◌}
use native.Mathlib.Omega.{arith}
use mathlib.Core.Path.{◌≡◌, refl, ◌∙◌, ap}
use mathlib.Core.Bool.{not}
use Rattle.ceilings_letters.specs.Letters.{is_held_of, more_in}
use Rattle.ceilings_letters.proofs.Holding.{held_none, held_skip, held_put, held_all}
use Rattle.ceilings_letters.proofs.Sending.{more_there}
use Rattle.ceilings_letters.proofs.open_letters.Goals as goal

pub clear-requires : goal.clear-requires
clear-requires c = c.requires.letters_room.row

pub loop-x-init : goal.loop-x-init
loop-x-init c =
    let a = c.args in
    (held_none _ _ (λ z. not (more_in a.limits.now a.s.ceilings a.s.states a.k a.mask z)) _ _ c.clear.ensures, refl, omega arith)

pub overflow_sub-y : goal.overflow_sub-y
overflow_sub-y c = c.loop-x.invariant.2

pub holds-is_held-requires : goal.holds-is_held-requires
holds-is_held-requires c = record { v_bound = omega (arith, c.loop-x-test.true, c.requires.letters_room.bits, c.loop-x.invariant.2); row = c.requires.row }

pub one_more_by-raised-requires : goal.one_more_by-raised-requires
one_more_by-raised-requires c =
    let a = c.args in
    let there : a.s.states + (c.loop-x.x - a.s.states) ≡ c.loop-x.x = omega (arith, c.loop-x.invariant.2) in
    record {
      one_more = c.requires.one_more;
      x_lt_n = (c.loop-x-test.true, c.requires.letters_room.few);
      is_held_value = c.holds-is_held.ensures ∙ (c.requires.held_set _ (omega (arith, c.loop-x-test.true, there)) ∙ ap (is_held_of a.limits.now a.s.ceilings a.k) there);
    }

pub overflow_step-x : goal.overflow_step-x
overflow_step-x c = record { fits = omega (arith, c.loop-x-test.true, c.requires.letters_room.few) }

pub loop-x-smaller-then-not-is_none : goal.loop-x-smaller-then-not-is_none
loop-x-smaller-then-not-is_none c = omega (arith, c.loop-x-test.true)

pub loop-x-preserved-then-not-is_none : goal.loop-x-preserved-then-not-is_none
loop-x-preserved-then-not-is_none c =
    let a = c.args in
    (held_skip _ _ (λ z. not (more_in a.limits.now a.s.ceilings a.s.states a.k a.mask z)) _ _ (more_there _ _ _ _ _ _ _ _ _ c.loop-x.invariant.2 c.one_more_by-raised.ensures c.and.ensures c.is_none.ensures ∙ c.if-not-is_none.true) c.loop-x.invariant.0, c.loop-x.invariant.1, omega (arith, c.loop-x.invariant.2))

pub put-requires : goal.put-requires
put-requires c = record {
  v_bound = omega (arith, c.loop-x-test.true, c.requires.letters_room.bits, c.loop-x.invariant.2);
  row = record { room = omega (arith, c.requires.letters_room.row.room, c.loop-x.invariant.1, c.clear.ensures.long) };
}

pub overflow_step-x-in-loop-x : goal.overflow_step-x-in-loop-x
overflow_step-x-in-loop-x c = record { fits = omega (arith, c.loop-x-test.true, c.requires.letters_room.few) }

pub loop-x-smaller : goal.loop-x-smaller
loop-x-smaller c = omega (arith, c.loop-x-test.true)

pub loop-x-preserved : goal.loop-x-preserved
loop-x-preserved c =
    let a = c.args in
    (held_put _ _ (λ z. not (more_in a.limits.now a.s.ceilings a.s.states a.k a.mask z)) _ _ _ c.loop-x.invariant.2 (more_there _ _ _ _ _ _ _ _ _ c.loop-x.invariant.2 c.one_more_by-raised.ensures c.and.ensures c.is_none.ensures ∙ c.if-not-is_none.false) c.put.ensures c.loop-x.invariant.0, c.put.ensures.long ∙ c.loop-x.invariant.1, omega (arith, c.loop-x.invariant.2))

pub shape_of-uncovered : goal.shape_of-uncovered
shape_of-uncovered c = c.loop-x.invariant.1 ∙ c.clear.ensures.long

pub returns : goal.returns
returns c =
    let a = c.args in
    held_all _ _ (λ z. not (more_in a.limits.now a.s.ceilings a.s.states a.k a.mask z)) _ _ _ c.loop-x-test.false c.requires.letters_room.bits c.loop-x.invariant.0
