use Rattle.stages.proofs.Laying.{few_counters}
use Rattle.ceilings_sized.proofs.Laying.{all_cells}
use native.Mathlib.Omega.{arith}
use Rattle.ceilings_sized.proofs.+ceilings_verdict.Goals as goal

pub limits_over-requires : goal.limits_over-requires
limits_over-requires t c =
    let few = few_counters _ _ _ c.requires.numbered.counted c.requires.joined_tables.few in
    record {
      joined_tables = c.requires.joined_tables;
      numbered = c.requires.numbered;
      limits_fit = record { limited = all_cells _ _ few c.requires.joined_tables.ready.limits; summed = omega arith; held = omega arith; beside = omega arith; most = omega arith };
      lists_fit = record { values = omega arith; letters = omega arith; counters = omega arith; most = omega arith };
    }

pub overflow_mul-cells : goal.overflow_mul-cells
overflow_mul-cells t c = record { fits = let z = all_cells _ _ (few_counters _ _ _ c.requires.numbered.counted c.requires.joined_tables.few) c.requires.joined_tables.ready.limits in omega arith }
