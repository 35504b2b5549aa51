use mathlib.Core.Path.{ap}
use Rattle.std.specs.Prelude.{option_copied}
use Rattle.class_rules.proofs.Asking.{wide_class, narrow_class}
use Rattle.class_rules.proofs.asks_class.Goals as goal

pub returns-in-None : goal.returns-in-None
returns-in-None c = wide_class _ _ _ _ (ap option_copied c.in-None.is)

pub has_letter-requires : goal.has_letter-requires
has_letter-requires c = record { d_in_bounds = c.requires.d_in_bounds; d_bound = c.requires.d_bound; row = c.requires.row.row _ (ap option_copied c.in-Some.is) }

pub returns-in-Some : goal.returns-in-Some
returns-in-Some c = narrow_class _ _ _ _ _ _ (ap option_copied c.in-Some.is) c.has_letter.ensures
