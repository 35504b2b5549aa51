use Prim.Native.Nat.{◌-◌}
use mathlib.Core.Path.{refl, ◌∙◌}
use borrow.Author.Rules.{rules}
use Rattle.model.specs.Rows.{program}
use Rattle.values.proofs.Gathered.{room_row}
use Rattle.matching_names.proofs.Naming.{fitting_none, fitting_skip, fitting_next, fitting_upto}
use Rattle.matching_names.proofs.fill_fitting.Goals as goal

pub loop-q-init : goal.loop-q-init
unfolding program
loop-q-init c = (fitting_none _ c.requires.unfitted.empty, refl, search rules)

pub loop-q-preserved-then-not-asks_names : goal.loop-q-preserved-then-not-asks_names
loop-q-preserved-then-not-asks_names c = (fitting_skip c.loop-q.invariant.0 c.asks_names.ensures c.if-not-asks_names.true, c.loop-q.invariant.1, search rules)

pub fill_names-requires : goal.fill_names-requires
fill_names-requires c = record {
  ready = c.requires.ready;
  row = (room_row _ _ _ _ _ _ refl c.requires.room refl (search rules), room_row _ _ _ _ _ _ refl c.requires.unfitted.room c.loop-q.invariant.1 (search rules));
}

pub loop-q-preserved : goal.loop-q-preserved
unfolding program
loop-q-preserved c = (fitting_next c.loop-q.invariant.0 c.fill_names.ensures, c.fill_names.ensures.long ∙ c.loop-q.invariant.1, search rules)

pub returns : goal.returns
returns c = fitting_upto c.loop-q.invariant.0 (search rules)
