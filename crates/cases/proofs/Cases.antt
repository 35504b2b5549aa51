-- The cases of specs/Cases.antt, LongerCases.antt, HeldCases.antt, MailedCases.antt, ReturnCases.antt,
-- LetterCases.antt and WeightCases.antt, by computation: one theorem a table.
use mathlib.Core.Path.{◌≡◌, refl}
use mathlib.Core.List.{map}
use Rattle.cases.proofs.Opens.{model_opens}
use Rattle.model.specs.Message.{max_words}
use Rattle.cases.specs.Cases.{obtained, proved_cases, own_cases}
use Rattle.cases.specs.LongerCases.{obtained_each, expected_each, limit_cases}
use Rattle.cases.specs.HeldCases.{reached, held_cases, held_runs}
use Rattle.cases.specs.MailedCases.{mailed_cases, mailed_runs}
use Rattle.cases.specs.ReturnCases.{return_cases}
use Rattle.cases.specs.LetterCases.{letter_cases, crowd_told, crowds, crowds_told, letter_runs}
use Rattle.cases.specs.WeightCases.{weight_cases, least_told, least_cases, sums_told, sums_cases}

pub proved_cases_hold : map obtained proved_cases ≡ map (λ k. k.expected) proved_cases
unfolding model_opens
proved_cases_hold = refl

pub own_cases_hold : map obtained own_cases ≡ map (λ k. k.expected) own_cases
unfolding model_opens
own_cases_hold = refl

pub limit_cases_hold : obtained_each limit_cases ≡ expected_each limit_cases
unfolding model_opens
limit_cases_hold = refl

pub held_cases_hold : map obtained held_cases ≡ map (λ k. k.expected) held_cases
unfolding model_opens
held_cases_hold = refl

pub held_runs_hold : map reached held_runs ≡ map (λ k. k.expected) held_runs
unfolding model_opens
held_runs_hold = refl

pub mailed_cases_hold : obtained_each mailed_cases ≡ expected_each mailed_cases
unfolding model_opens
mailed_cases_hold = refl

pub mailed_runs_hold : map reached mailed_runs ≡ map (λ k. k.expected) mailed_runs
unfolding model_opens
mailed_runs_hold = refl

pub return_cases_hold : map obtained return_cases ≡ map (λ k. k.expected) return_cases
unfolding model_opens
return_cases_hold = refl

pub letter_cases_hold : map obtained letter_cases ≡ map (λ k. k.expected) letter_cases
unfolding model_opens
letter_cases_hold = refl

pub crowds_hold : map crowd_told crowds ≡ crowds_told
unfolding model_opens
crowds_hold = refl

pub letter_runs_hold : map reached letter_runs ≡ map (λ k. k.expected) letter_runs
unfolding model_opens
letter_runs_hold = refl

pub weight_cases_hold : map obtained weight_cases ≡ map (λ k. k.expected) weight_cases
unfolding model_opens
weight_cases_hold = refl

pub least_weights_hold : map least_told least_cases ≡ map (λ k. k.least) least_cases
unfolding model_opens
least_weights_hold = refl

pub weighed_sums_hold : map sums_told sums_cases ≡ map (λ k. (k.sums, k.changes)) sums_cases
unfolding model_opens
weighed_sums_hold = refl

-- Document 02, (vi): "The longest message, 32,269 words"
pub longest_message : max_words ≡ 32269
longest_message = refl
