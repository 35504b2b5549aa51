-- Document 02, (vi): cases at the limits, each with the limits of the gate that is asked. Station A has R 10, S 5 and
-- 6 counters.
use Rattle.std.specs.Prelude.{ℕ, List, [], ◌∷◌, map}
use Rattle.model.specs.Limits.{Limits, former, present}
use Rattle.cases.specs.Cases.{Case, obtained_within, refused, safe, to_bytes, with_word, a_program, a_words}
use Rattle.cases.specs.Cases.{a_listing}

pub record LimitCase : Type 0 where
  pub most : Limits
  pub case : Case

abbrev pub within : Limits → Case → LimitCase
within most k = record { most = most; case = k }

abbrev pub limits : ℕ → ℕ → ℕ → Limits
limits rows states counters = record { rows = rows; states = states; counters = counters }

unfoldable pub obtained_each : List LimitCase → List (List ℕ)
obtained_each = map (λ k. obtained_within k.most k.case)

unfoldable pub expected_each : List LimitCase → List (List ℕ)
expected_each = map (λ k. k.case.expected)

-- Word 0 of A is R and word 36 is S; where either is greater than its array, the part is not whole: its first
-- word, 0 or 34.
unfoldable pub limit_cases : List LimitCase
limit_cases =
    -- "The case R 1,025 becomes R 1,537": with the rest of A, R 1,025 is 2 at 0 no more, but too few rows follow
    within former (refused 30 (with_word 0 1024) 1 0) ∷
    within former (refused 30 (with_word 0 1025) 2 0) ∷
    within present (refused 30 (with_word 0 1025) 1 0) ∷
    within present (refused 30 (with_word 0 1536) 1 0) ∷
    within present (refused 30 (with_word 0 1537) 2 0) ∷
    -- S
    within former (refused 30 (with_word 36 512) 1 34) ∷
    within former (refused 30 (with_word 36 513) 2 36) ∷
    within present (refused 30 (with_word 36 513) 1 34) ∷
    within present (refused 30 (with_word 36 1024) 1 34) ∷
    within present (refused 30 (with_word 36 1025) 2 36) ∷
    -- A itself at the least limits that let it through, and one past each of them: 9 is at size S
    within (limits 10 5 6) (safe 6 a_program (to_bytes a_words) a_listing) ∷
    within (limits 9 5 6) (refused 30 (to_bytes a_words) 2 0) ∷
    within (limits 10 4 6) (refused 30 (to_bytes a_words) 2 36) ∷
    within (limits 10 5 5) (refused 30 (to_bytes a_words) 9 36) ∷
    []
