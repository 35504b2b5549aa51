use mathlib.Core.Path.{refl}
use native.Mathlib.Omega.{arith}
use Rattle.model.specs.Words.{columns}
use Rattle.model.specs.Tables.{tables, entries}
use Rattle.closure.proofs.Answers.{err_not_ok, told_first, state_lacks, none_lacks}
use Rattle.closure.proofs.Opens.{opens_begin, opens_here, opens_next, opens_over}
use borrow.Author.Rules.{rules}
use Rattle.closure.proofs.states_check.Goals as goal

pub loop-i-init : goal.loop-i-init
loop-i-init c = (opens_begin _, ((refl, refl), (c.requires.states_in_bounds.1, refl)))

pub settled_bits-bits-requires : goal.settled_bits-bits-requires
settled_bits-bits-requires c = record { closure_ready = c.requires.closure_ready; codes = (c.loop-i.invariant.1.1.0, search rules) }

pub returns-then-bits-eq-LACKS : goal.returns-then-bits-eq-LACKS
unfolding tables entries columns
returns-then-bits-eq-LACKS c =
    let here = opens_here c.loop-i.invariant.0 (search rules) _ c.settled_bits-bits.ensures.stated c.if-bits-eq-LACKS.true in
    record {
      says = state_lacks _ _ _ _ here (search rules) _ c.open_state.ensures;
      told = err_not_ok _;
      told_before = told_first here c.loop-i.invariant.0.told;
    }

pub overflow_cast-branches : goal.overflow_cast-branches
overflow_cast-branches c = omega (arith, c.settled_bits-bits.ensures.stated.most, c.if-bits-eq-LACKS.false)

pub offset_bounds-branches-i : goal.offset_bounds-branches-i
offset_bounds-branches-i c = omega (arith, c.requires.closure_ready.ready.limits.states)

pub bounds-branches-i : goal.bounds-branches-i
bounds-branches-i c = omega (arith, c.loop-i.invariant.1.0.1, c.requires.states_in_bounds.0)

pub loop-i-preserved : goal.loop-i-preserved
unfolding tables entries columns
loop-i-preserved c = (opens_next c.loop-i.invariant.0 (search rules) _ c.settled_bits-bits.ensures.stated c.if-bits-eq-LACKS.false (omega (arith, c.loop-i.invariant.1.0.1, c.requires.states_in_bounds.0)), ((search rules, search rules), (c.settled_bits-bits.ensures.codes_2, search rules)))

pub returns : goal.returns
unfolding tables entries columns
returns c = let z = opens_over c.loop-i.invariant.0 (search rules) in record { says = none_lacks _ _ _ _ z.0 refl; told = λ _. z.1; told_before = told_first z.0 z.1 }
