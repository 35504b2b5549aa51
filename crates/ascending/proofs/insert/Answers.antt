use native.Mathlib.Omega.{arith}
use mathlib.Core.Path.{refl}
use Rattle.ascending.proofs.Numbers.{strictly, placed_there, placed_new, shifted_copy}
use Rattle.ascending.proofs.insert.Goals as goal
use Rattle.ascending.proofs.insert.Goals.{else-at-n-via-then-at-n+else-codes-at, else-at-n-via-else-at-n}

pub returns-then-codes-at : goal.returns-then-codes-at
returns-then-codes-at c = record { added = placed_there c.requires.rising c.place-at.ensures c.if-at-n.true refl c.if-codes-at.true; upper_bound = omega arith }

pub offset_bounds-codes-at-2 : goal.offset_bounds-codes-at-2
offset_bounds-codes-at-2 c = record { fits = omega (arith, c.place-at.ensures.upto, c.requires.from_le_n.1) }

pub bounds-codes-at-2 : goal.bounds-codes-at-2
bounds-codes-at-2 c = omega (arith, c.place-at.ensures.upto, c.requires.from_le_n.2, c.copy_within.ensures.len)

pub returns : goal.returns
returns c =
    let moved = shifted_copy c.copy_within.ensures.len c.place-at.ensures.upto c.copy_within.ensures.by_index.0 c.copy_within.ensures.by_index.1 in record {
      added = placed_new c.requires.rising c.place-at.ensures (λ l. elim c.else-at-n.branch [ else-at-n-via-then-at-n+else-codes-at a ↦ strictly (c.place-at.ensures.more _ (omega arith) l) a.if-codes-at.false | else-at-n-via-else-at-n a ↦ absurd (omega arith) ]) moved c.requires.from_le_n.2;
      upper_bound = omega arith;
    }
