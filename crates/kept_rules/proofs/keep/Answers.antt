use borrow.Author.Tests.{not-false}
use mathlib.Core.Path.{refl}
use native.Mathlib.Omega.{arith}
use Rattle.model.proofs.Logic.{true_false}
use Rattle.kept_rules.proofs.keep.Goals as goal

pub returns-then-not-k : goal.returns-then-not-k
returns-then-not-k c = record { used_le_spare_2 = omega arith; all_value = λ h. true_false h refl }

pub returns-then-end-spare : goal.returns-then-end-spare
returns-then-end-spare c = record { used_le_spare_2 = omega arith; all_value = λ h. true_false h refl }

pub overflow_add-next : goal.overflow_add-next
overflow_add-next c = record { fits = omega (arith, c.requires.i_bound.0) }

pub offset_bounds-first_at-next : goal.offset_bounds-first_at-next
offset_bounds-first_at-next c = record { fits = omega (arith, c.requires.i_bound.0) }

pub bounds-first_at-next : goal.bounds-first_at-next
bounds-first_at-next c = c.requires.i_in_bounds (not-false _ c.if-not-k.false)

pub returns : goal.returns
returns c = record { used_le_spare_2 = omega (arith, c.if-end-spare.false); all_value = λ h. (not-false _ c.if-not-k.false, refl, refl) }
