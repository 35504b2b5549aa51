use borrow.Author.Rules.{rules}
use native.Mathlib.Omega.{arith}
use Rattle.model.specs.Message.{tables_offset}
use Rattle.letter_codes.proofs.Capped.{capped_most, states_told, counters_safe, counters_many}
use Rattle.letter_codes.proofs.counter_check.Goals as goal

pub overflow_add-s : goal.overflow_add-s
overflow_add-s c = record { fits = omega (arith, capped_most _ _ _ c.requires.n_value, c.requires.ready.limits.states) }

pub overflow_add-result : goal.overflow_add-result
unfolding tables_offset
overflow_add-result c = search rules

pub returns-then-s-n-le-MAX_COUNTERS : goal.returns-then-s-n-le-MAX_COUNTERS
returns-then-s-n-le-MAX_COUNTERS c = counters_safe _ _ _ _ (states_told _ _) c.requires.n_value (omega (arith, c.if-s-n-le-MAX_COUNTERS.true))

pub returns-else-s-n-le-MAX_COUNTERS : goal.returns-else-s-n-le-MAX_COUNTERS
returns-else-s-n-le-MAX_COUNTERS c = counters_many _ _ _ _ (states_told _ _) c.requires.n_value _ (omega (arith, c.if-s-n-le-MAX_COUNTERS.false)) c.tables_at.ensures
