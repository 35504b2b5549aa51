-- The cases of specs/CounterCases.antt, by computation.
use mathlib.Core.Path.{◌≡◌, refl}
use mathlib.Core.List.{map}
use Rattle.cases.proofs.Opens.{model_opens}
use Rattle.cases_oracle.specs.VerdictCases.{at}
use Rattle.cases_oracle.specs.CounterCases.{told_formerly, crowd, crowd_classes, crowd_heads, crowd_states, crowd_with, counter_cases}
use Rattle.cases_oracle.specs.CounterCases.{counted_by_present, present_counters, present_counters_told}

pub counter_cases_hold : map told_formerly counter_cases ≡ map (λ k. k.expected) counter_cases
unfolding model_opens at told_formerly crowd crowd_classes crowd_heads crowd_states crowd_with counter_cases
counter_cases_hold = refl

pub present_counters_hold : map counted_by_present present_counters ≡ present_counters_told
unfolding model_opens counted_by_present present_counters present_counters_told
present_counters_hold = refl
