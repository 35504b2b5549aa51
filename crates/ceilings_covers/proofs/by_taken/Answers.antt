use native.Mathlib.Omega.{arith}
use mathlib.Core.Path.{refl}
use Rattle.ceilings_covers.proofs.Covering.{reading_is}
use Rattle.ceilings_covers.proofs.by_taken.Goals as goal

pub returns-then-step-ne1 : goal.returns-then-step-ne1
returns-then-step-ne1 c = record { quiet = λ quiet. refl; reads = λ e. absurd (c.if-step-ne1.true e) }

pub overflow_mul-from : goal.overflow_mul-from
overflow_mul-from c = record { fits = omega (arith, (c.requires c.if-step-ne1.false).0.room, c.well_formed.1.0) }

pub overflow_mul-other : goal.overflow_mul-other
overflow_mul-other c = record { fits = omega (arith, (c.requires c.if-step-ne1.false).1.room, c.well_formed.1.0) }

pub load-by_one-requires : goal.load-by_one-requires
load-by_one-requires c = (c.requires c.if-step-ne1.false).1

pub load-requires : goal.load-requires
load-requires c = (c.requires c.if-step-ne1.false).0

pub returns : goal.returns
returns c =
    record {
      quiet = λ quiet. absurd (quiet c.if-step-ne1.false);
      reads = λ e j h. reading_is _ _ _ _ _ _ _ _ _ _ _ j (c.load-by_one.ensures j h) (c.load.ensures j h) (c.without-once.ensures j) (c.and.ensures j) (c.without-twice.ensures j) _ (c.or.ensures j) (c.or-2.ensures j);
    }
