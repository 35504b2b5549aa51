use mathlib.Core.Bool.{not}
use mathlib.Core.Path.{ap}
use mathlib.Core.Path.{refl, sym}
use mathlib.Core.Bool.{true, false}
use native.Mathlib.Omega.{arith}
use borrow.Author.Tests.{lt-ltb, le-ltb}
use Rattle.model.specs.Words.{columns}
use Rattle.model.specs.Rows.{program}
use Rattle.model.specs.Tables.{tables, entries}
use Rattle.values.proofs.Gathered.{width_above}
use Rattle.asks.proofs.Rows.{row_below, spawn_below, takes_function}
use Rattle.asks.proofs.Asking.{held, spawn_none, spawn_lacks, spawn_told, there_yes, there_no}
use Rattle.asks.proofs.spawn_asks.Goals as goal

pub takes-requires : goal.takes-requires
takes-requires c = c.requires.flow_ready.ready.whole

pub returns-then-not-takes : goal.returns-then-not-takes
returns-then-not-takes c = spawn_none _ _ _ _ _ c.takes.ensures (ap not c.if-not-takes.true)

pub num-name-requires : goal.num-name-requires
num-name-requires c = c.requires.flow_ready.ready.whole

pub holds-requires : goal.holds-requires
unfolding program columns
holds-requires c = record {
  v_bound = rw c.width-w.ensures (width_above _ _ (omega (arith, (row_below c.requires.flow_ready.ready c.args.r (omega (arith, c.requires.r_value))).0)));
  row = rw c.width-w.ensures (c.requires.flow_ready.names.of_name _ (spawn_below c.requires.flow_ready.ready _ _ c.requires.r_value c.num-name.ensures)).row;
}

pub returns-then-not-holds : goal.returns-then-not-holds
returns-then-not-holds c = spawn_lacks _ _ _ _ _ c.takes.ensures (ap not c.if-not-takes.false) _ c.num-name.ensures _ (held _ _ c.requires.flow_ready.names _ _ _ _ c.width-w.ensures (spawn_below c.requires.flow_ready.ready _ _ c.requires.r_value c.num-name.ensures) (row_below c.requires.flow_ready.ready c.args.r (omega (arith, c.requires.r_value))).0 c.holds.ensures) (ap not c.if-not-holds.true)

pub body-first-requires : goal.body-first-requires
body-first-requires c = record { ready = c.requires.flow_ready.ready; f_value = takes_function _ _ _ _ c.takes.ensures (ap not c.if-not-takes.false) }

pub returns-then-state_index-s : goal.returns-then-state_index-s
unfolding program tables entries columns
returns-then-state_index-s c = spawn_told _ _ _ _ _ c.takes.ensures (ap not c.if-not-takes.false) _ c.num-name.ensures _ (held _ _ c.requires.flow_ready.names _ _ _ _ c.width-w.ensures (spawn_below c.requires.flow_ready.ready _ _ c.requires.r_value c.num-name.ensures) (row_below c.requires.flow_ready.ready c.args.r (omega (arith, c.requires.r_value))).0 c.holds.ensures) (ap not c.if-not-holds.false) _ _ _ c.body-first.ensures refl c.state_index.ensures _ _ (sym (lt-ltb _ _ c.if-state_index-s.true)) (there_yes true refl)

pub returns-else-state_index-s : goal.returns-else-state_index-s
unfolding program tables entries columns
returns-else-state_index-s c = spawn_told _ _ _ _ _ c.takes.ensures (ap not c.if-not-takes.false) _ c.num-name.ensures _ (held _ _ c.requires.flow_ready.names _ _ _ _ c.width-w.ensures (spawn_below c.requires.flow_ready.ready _ _ c.requires.r_value c.num-name.ensures) (row_below c.requires.flow_ready.ready c.args.r (omega (arith, c.requires.r_value))).0 c.holds.ensures) (ap not c.if-not-holds.false) _ _ _ c.body-first.ensures refl c.state_index.ensures _ _ (sym (le-ltb _ _ c.if-state_index-s.false)) (there_no false refl)
