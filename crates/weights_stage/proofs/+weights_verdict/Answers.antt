use native.Mathlib.Omega.{arith}
use Rattle.model.specs.Limits.{max_counters}
use Rattle.stages.proofs.Laying.{few_counters}
use Rattle.weights_stage.proofs.Laying.{line_cells}
use Rattle.weights_stage.proofs.+weights_verdict.Goals as goal

pub weights_over-requires : goal.weights_over-requires
weights_over-requires t c =
    let few = few_counters _ _ _ c.requires.lined.counted c.requires.joined_tables.few in
    record {
      joined_tables = c.requires.joined_tables;
      lined = c.requires.lined;
      weights_fit = record { weighed = line_cells _ _ max_counters 16384 few (omega arith) c.requires.joined_tables.ready.limits; counted = omega arith; most = omega arith };
      lists_fit = record { values = omega arith; letters = omega arith; counters = omega arith; most = omega arith };
    }

pub weights_over-requires-then-n-most : goal.weights_over-requires-then-n-most
weights_over-requires-then-n-most t c =
    record {
      joined_tables = c.requires.joined_tables;
      lined = c.requires.lined;
      weights_fit = record { weighed = line_cells _ _ 96 2048 (omega arith) (omega arith) c.requires.joined_tables.ready.limits; counted = omega arith; most = omega arith };
      lists_fit = record { values = omega arith; letters = omega arith; counters = omega arith; most = omega arith };
    }
