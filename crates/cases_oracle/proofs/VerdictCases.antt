-- The cases of specs/VerdictCases.antt, by computation: one theorem for the verdicts, one for whole answers.
use mathlib.Core.Path.{◌≡◌, refl}
use mathlib.Core.List.{map}
use Rattle.cases.proofs.Opens.{model_opens}
use Rattle.cases.specs.Cases.{obtained}
use Rattle.cases_oracle.specs.VerdictCases.{changed, at, told, verdict_cases, listing_cases, verdict_cases_opens}

pub verdict_cases_hold : map told verdict_cases ≡ map (λ k. k.expected) verdict_cases
unfolding model_opens changed at told verdict_cases_opens
verdict_cases_hold = refl

pub listing_cases_hold : map obtained listing_cases ≡ map (λ k. k.expected) listing_cases
unfolding model_opens verdict_cases_opens
listing_cases_hold = refl
