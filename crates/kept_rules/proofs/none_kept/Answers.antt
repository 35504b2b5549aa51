use native.Mathlib.Omega.{arith}
use lib.ListN.{length-set}
use lib.Seq.{get_or-set_same}
use mathlib.Core.Path.{refl}
use Rattle.model.proofs.Logic.{true_false}
use Rattle.kept_rules.proofs.none_kept.Goals as goal

pub returns-then-states-first_at : goal.returns-then-states-first_at
returns-then-states-first_at c = record { used_value = refl; states_in_bounds = λ h. true_false h refl }

pub returns : goal.returns
returns c = record {
  used_value = refl;
  states_in_bounds = λ h. (omega (arith, c.if-states-first_at.false, length-set c.args.first_at.now 0 0), get_or-set_same c.args.first_at.now 0 0 0 (omega (arith, c.if-states-first_at.false)));
}
