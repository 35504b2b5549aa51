-- The cases of specs/NameCases.antt, by computation.
use mathlib.Core.Path.{◌≡◌, refl}
use mathlib.Core.List.{map}
use Rattle.cases.proofs.Opens.{model_opens}
use Rattle.model.specs.NamesHeld.{names_held}
use Rattle.cases.specs.Shown.{station}
use Rattle.cases.specs.NameCases.{obtained_case, name_cases, bound_later, kept_cases, name_cases_opens}

pub name_cases_hold : map obtained_case name_cases ≡ name_cases
unfolding model_opens station name_cases_opens
name_cases_hold = refl

pub kept_cases_hold : map (λ k. names_held bound_later k.0) kept_cases ≡ map (λ k. k.1) kept_cases
unfolding model_opens station name_cases_opens
kept_cases_hold = refl
