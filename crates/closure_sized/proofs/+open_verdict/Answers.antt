use Rattle.model.specs.Limits.{max_rows, max_names}
use native.Mathlib.Omega.{arith}
use Rattle.values.specs.Values.{width}
use Rattle.closure_sized.proofs.Opening.{sets_most}
use Rattle.closure_sized.proofs.+open_verdict.Goals as goal

pub overflow_mul-most : goal.overflow_mul-most
overflow_mul-most t c = record { fits = omega arith }

pub open_verdict-requires : goal.open_verdict-requires
open_verdict-requires t c = (omega arith, (omega arith, c.requires.openable))

pub open_over-requires-clause-names_fit : goal.open_over-requires-clause-names_fit
unfolding width
open_over-requires-clause-names_fit t c = let l = c.requires.openable.ready.limits in omega (arith, (sets_most c.args.s max_rows max_names l.rows.1 l.names.1).0)

pub open_over-requires-clause-rows_fit : goal.open_over-requires-clause-rows_fit
unfolding width
open_over-requires-clause-rows_fit t c = let l = c.requires.openable.ready.limits in let z = sets_most c.args.s max_rows max_names l.rows.1 l.names.1 in (omega (arith, z.1), omega arith)

pub open_over-requires-then-most-le64-clause-names_fit : goal.open_over-requires-then-most-le64-clause-names_fit
unfolding width
open_over-requires-then-most-le64-clause-names_fit t c = omega (arith, (sets_most c.args.s 64 64 (omega arith) (omega arith)).0)

pub open_over-requires-then-most-le64-clause-rows_fit : goal.open_over-requires-then-most-le64-clause-rows_fit
unfolding width
open_over-requires-then-most-le64-clause-rows_fit t c = let z = sets_most c.args.s 64 64 (omega arith) (omega arith) in (omega (arith, z.1), omega arith)

pub open_over-requires-then-most-le256-clause-names_fit : goal.open_over-requires-then-most-le256-clause-names_fit
unfolding width
open_over-requires-then-most-le256-clause-names_fit t c = omega (arith, (sets_most c.args.s 256 256 (omega arith) (omega arith)).0)

pub open_over-requires-then-most-le256-clause-rows_fit : goal.open_over-requires-then-most-le256-clause-rows_fit
unfolding width
open_over-requires-then-most-le256-clause-rows_fit t c = let z = sets_most c.args.s 256 256 (omega arith) (omega arith) in (omega (arith, z.1), omega arith)
