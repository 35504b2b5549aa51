-- The cases of specs/Cases.antt, by computation.
use mathlib.Core.Path.{◌≡◌, refl}
use mathlib.Core.List.{map}
use Rattle.steps.specs.Steps.{raised}
use Rattle.steps.specs.Cases.{raised_cases}

pub raised_cases_hold : map (λ k. raised k.0) raised_cases ≡ map (λ k. k.1) raised_cases
unfolding raised raised_cases
raised_cases_hold = refl
