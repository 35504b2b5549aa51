use mathlib.Core.Path.{◌≡◌, sym, ◌∙◌}
use Rattle.std.proofs.Common.{Ok, Err}
use native.Mathlib.Omega.{arith}
use Rattle.model.specs.Words.{columns}
use Rattle.model.specs.Tables.{tables, entries}
use Rattle.matching_sets.proofs.Filling.{same_room}
use Rattle.matching_names.proofs.Naming.{fitting_sets_of}
use Rattle.closure.proofs.Answers.{err_not_ok, opening_missing, opening_there, none-settled, bits_told}
use borrow.Author.Rules.{rules}
use Rattle.closure.proofs.open_check.Goals as goal

pub returns-then-not-opening_closed : goal.returns-then-not-opening_closed
returns-then-not-opening_closed c = record {
  says = opening_missing _ _ _ c.opening_closed.ensures _ c.tables_at.ensures c.if-not-opening_closed.true;
  begins = err_not_ok _;
  fits = err_not_ok _;
  bits = err_not_ok _;
}

pub fill_tables-requires : goal.fill_tables-requires
fill_tables-requires c = record {
  layout_ready = (record { ready = c.requires.openable.ready; layout = c.requires.openable.layout }, c.requires.openable.names);
  indexed = (c.requires.open_scratch.indexed, c.requires.open_scratch.cleared);
}

pub states_check-requires : goal.states_check-requires
states_check-requires c = record { closure_ready = c.fill_tables.ensures; states_in_bounds = (c.requires.openable.states, none-settled _ _ _ c.requires.open_scratch.unsettled) }

pub returns-in_err-states_check : goal.returns-in_err-states_check
returns-in_err-states_check c =
    let a : c.states_check.result ≡ Err c.in_err-states_check.field-0.0 = search rules in
    let b : c.from_residual.result ≡ Err c.in_err-states_check.field-0.0 = search rules in
    rw b (record {
      says = opening_there _ _ _ c.opening_closed.ensures _ c.if-not-opening_closed.false (sym a ∙ c.states_check.ensures.says);
      begins = err_not_ok _;
      fits = err_not_ok _;
      bits = err_not_ok _;
    })

pub fill_fitting-requires : goal.fill_fitting-requires
fill_fitting-requires c = record {
  ready = c.requires.openable.ready;
  room = same_room _ _ c.fill_tables.auto.may c.requires.open_scratch.cleared.patterns.may_room;
  unfitted = c.requires.openable.unfitted;
}

pub returns : goal.returns
unfolding tables entries columns
returns c =
    let h = c.requires.openable in
    let f = c.fill_tables.ensures in
    let a : c.states_check.result ≡ Ok tt = search rules in
    record {
      says = opening_there _ _ _ c.opening_closed.ensures _ c.if-not-opening_closed.false (sym a ∙ c.states_check.ensures.says);
      begins = λ _. f.begins;
      fits = λ _. fitting_sets_of h.ready _ h.unfitted.room c.fill_fitting.auto.fitting f.patterns c.fill_fitting.ensures;
      bits = λ _. bits_told _ (omega (arith, h.states)) (c.states_check.ensures.told a);
    }
