use mathlib.Core.Path.{ap}
use Rattle.std.specs.Prelude.{option_copied}
use Rattle.class_rules.proofs.Asking.{wide_kept, narrow_kept}
use Rattle.class_rules.proofs.keep_within.Goals as goal

pub returns-in-None : goal.returns-in-None
returns-in-None c = λ y l. wide_kept _ _ c.args.found.now y (ap option_copied c.in-None.is)

pub returns-in-Some : goal.returns-in-Some
returns-in-Some c = λ y l. narrow_kept _ _ _ c.args.found.now y _ _ _ (ap option_copied c.in-Some.is) (c.copy_into.ensures.here y l) (c.take_from.ensures.here y l) (c.take_from-in-Some.ensures.here y l)
