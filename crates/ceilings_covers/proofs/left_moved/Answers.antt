use native.Mathlib.Omega.{arith}
use mathlib.Core.Logic.{inl, inr}
use Rattle.ceilings_covers.proofs.Covering.{moved_none, moved_both}
use Rattle.ceilings_covers.proofs.left_moved.Goals as goal

pub returns-then-to-i : goal.returns-then-to-i
returns-then-to-i c = moved_none _ _ _ _ _ _ _ _ (inl c.if-to-i.true) c.none.ensures

pub returns-then-to-states : goal.returns-then-to-states
returns-then-to-states c = moved_none _ _ _ _ _ _ _ _ (inr c.if-to-states.true) c.none-then-to-states.ensures

pub one_more_at-raised-requires : goal.one_more_at-raised-requires
one_more_at-raised-requires c = record { beside = c.requires.beside; y_lt_n = omega (arith, c.if-to-states.false, c.requires.states_le_n) }

pub returns : goal.returns
returns c = moved_both _ _ _ _ _ _ _ _ _ c.if-to-i.false (omega (arith, c.if-to-states.false)) c.one_more_at-raised.ensures c.and.ensures
