-- Refusal 9, over 512 counters, at the limit and one past it, on whole messages, by the gate of the former limits:
-- messages at the present ones are past what computes. They are long, so their parts are made by functions.
-- oracle/tests/cases.rs makes the same messages and holds the other implementation to the same answers. By the present
-- limits the check alone is computed, at 1,024 counters and one past them.
use Rattle.std.specs.Prelude.{ℕ, ◌+◌, ◌*◌, List, [], ◌∷◌, ◌++◌, map, drop}
use Rattle.model.specs.declared.Sizes.{Sizes}
use Rattle.model.specs.Limits.{former, present}
use Rattle.model.specs.Index.{gather, from_all}
use Rattle.model.specs.Verdict.{number, place}
use Rattle.model.specs.Rows.{Program}
use Rattle.model.specs.Tables.{Tables}
use Rattle.model.specs.Counters.{counter_check_of}
use Rattle.model.specs.Verify.{verdict_within, answer}
use Rattle.cases.specs.Cases.{Pairs, program_words, bad_words, table_words, ceiling_words, to_bytes, returning}
use Rattle.cases_oracle.specs.VerdictCases.{VerdictCase, at}

-- number and place by the former limits
unfoldable pub told_formerly : VerdictCase → List ℕ
told_formerly k = let v = verdict_within former k.bytes 100 in number v ∷ place v ∷ []

-- receive { x -> 15 times p = spawn x; case x of { 15 times c0 -> x } }: 65 rows
unfoldable pub crowd : Pairs
crowd =
    ((10, 0) ∷ (9, 1) ∷ (30, 0) ∷ []) ++
    gather 1 16 (λ n. (6, n) ∷ (21, 0) ∷ []) ++
    ((8, 0) ∷ (25, 15) ∷ []) ++
    gather 0 15 (λ i. (31, 0) ∷ (1, 0) ∷ [])

-- 16 classes: the spawn rows and R
unfoldable pub crowd_classes : List ℕ
crowd_classes = gather 0 15 (λ i. (3 + 2 * i) ∷ []) ++ (65 ∷ [])

-- 32 heads: the receive, the spawns and the case, the branches of the case
unfoldable pub crowd_heads : List ℕ
crowd_heads = (1 ∷ []) ++ gather 0 16 (λ i. (3 + 2 * i) ∷ []) ++ gather 0 15 (λ i. (36 + 2 * i) ∷ [])

-- every class at every head: 512 states
unfoldable pub crowd_states : Pairs
crowd_states = from_all crowd_classes (λ c. map (λ r. (c, r)) crowd_heads)

-- With these states. The starting class may be sent its own address, and x may be that: one letter counter. An
-- address is no function and no c0, so the spawns and the case want nothing. There are no ceilings: what passes 9 is
-- refused by 11.
unfoldable pub crowd_with : Pairs → List ℕ
crowd_with states =
    to_bytes
    (program_words 16 1 0 crowd ++ bad_words 1 ((40, 65) ∷ (41, 1) ∷ (43, 2) ∷ (44, 0) ∷ []) ++
    table_words ((0, 65) ∷ []) ((65, 65) ∷ []) (returning 65 states) ++ ceiling_words 0 [])

unfoldable pub counter_cases : List VerdictCase
counter_cases =
    -- 512 states and a letter: 513 counters. The tables begin at word 144, behind 134 of the program and 10 of the
    -- bads, and size S is their third.
    at 9 146 (crowd_with crowd_states) ∷
    -- 511 states, without the first, and a letter: 512 counters. Size K is behind 3 sizes, two columns of 513 words and
    -- one of 511.
    at 11 1684 (crowd_with (drop 1 crowd_states)) ∷
    []

-- Refusal 9 of a program of one row with so many states and mail entries: it asks only how many states there are. The
-- mail is the start's own address, one letter. Size S is word 18.
unfoldable pub counted_by_present : ℕ × ℕ → List ℕ
counted_by_present k =
    let s : Sizes = record {
      rows = 1;
      names = 1;
      constructors = 0;
      functions = 0;
      bads = 1;
      badrows = 4;
      flows = 0;
      mails = k.1;
      states = k.0;
      ceilings = 0;
      entries = 0;
      lines = 0;
      weights = 0;
    } in
    let p : Program = record {
      names = 1;
      constructors = 0;
      functions = 0;
      rows = record { size = 1; lefts = 1 ∷ []; rights = 0 ∷ [] };
    } in
    let t : Tables = record {
      flow = record { size = 0; lefts = []; rights = [] };
      mail = record { size = k.1; lefts = 1 ∷ []; rights = 1 ∷ [] };
      states = record { size = k.0; lefts = []; rights = [] };
      returns = [];
    } in
    let v = answer (counter_check_of present s p t) in number v ∷ place v ∷ []

-- states and mail entries
unfoldable pub present_counters : List (ℕ × ℕ)
present_counters = (1024, 0) ∷ (1023, 1) ∷ (1024, 1) ∷ (1025, 0) ∷ []

unfoldable pub present_counters_told : List (List ℕ)
present_counters_told = (0 ∷ 0 ∷ []) ∷ (0 ∷ 0 ∷ []) ∷ (9 ∷ 18 ∷ []) ∷ (9 ∷ 18 ∷ []) ∷ []
