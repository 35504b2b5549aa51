-- The runs of specs/RunCases.antt, by computation: each comes to what is expected; and their programs are well formed.
use mathlib.Core.Path.{◌≡◌, refl}
use mathlib.Core.Option.{none}
use mathlib.Core.List.{map}
use Rattle.cases.proofs.Opens.{model_opens}
use Rattle.model.specs.Verify.{program_check}
use Rattle.cases.specs.Shown.{digits, numeral, spaced, followed, by_name, value_text, kept, argument_texts, process_text, station, after, come_to}
use Rattle.cases_oracle.specs.RunCases.{run_stations, run_cases, run_cases_opens}

pub run_cases_hold : map come_to run_cases ≡ map (λ k. k.expected) run_cases
unfolding model_opens digits numeral spaced followed by_name value_text kept argument_texts process_text station after come_to run_cases_opens
run_cases_hold = refl

-- their programs pass the checks 3 to 5
pub run_stations_well_formed : map program_check run_stations ≡ map (λ p. none) run_stations
unfolding model_opens station run_cases_opens
run_stations_well_formed = refl
