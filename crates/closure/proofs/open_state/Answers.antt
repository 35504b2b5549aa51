use native.Mathlib.Omega.{arith}
use Rattle.model.specs.Message.{tables_offset}
use Rattle.closure.specs.Told.{open_state}
use mathlib.Core.Path.{ap}
use Prim.Native.Nat.{◌+◌}
use Rattle.model.specs.declared.Verdict.TheVariants.{Open}
use Rattle.closure.proofs.open_state.Goals as goal

pub overflow_add-place : goal.overflow_add-place
unfolding tables_offset
overflow_add-place c = let l = c.requires.within_limits in omega (arith, c.tables_at.ensures, l.rows, l.badrows)

pub overflow_add-place-2 : goal.overflow_add-place-2
unfolding tables_offset
overflow_add-place-2 c = let l = c.requires.within_limits in omega (arith, c.tables_at.ensures, l.rows, l.badrows, l.flows)

pub overflow_add-place-3 : goal.overflow_add-place-3
unfolding tables_offset
overflow_add-place-3 c = let l = c.requires.within_limits in omega (arith, c.tables_at.ensures, l.rows, l.badrows, l.flows, l.mails)

pub overflow_add-place-4 : goal.overflow_add-place-4
unfolding tables_offset
overflow_add-place-4 c = let l = c.requires.within_limits in omega (arith, c.tables_at.ensures, l.rows, l.badrows, l.flows, l.mails, l.states, c.requires.i_lt_states)

pub returns : goal.returns
unfolding open_state
returns c = ap (λ b. Open (b + 3 + c.args.s.flows + c.args.s.mails + c.args.i)) c.tables_at.ensures
