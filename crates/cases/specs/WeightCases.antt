-- Document 02, (v): cases of weights, worked out by hand from the papers.
use Rattle.std.specs.Prelude.{ℕ, List, [], ◌∷◌, ◌++◌, map, length, take, get_or, set, replicate, ℤ, pos, negsuc}
use Rattle.cases.specs.Cases.{Pairs, bad_words, table_words, ceiling_words, weight_words, to_bytes}
use Rattle.cases.specs.Cases.{Case, refused, safe}
use Rattle.cases.specs.Cases.{a_program, a_bads, a_tables, a_listing, two_callers, two_callers_listing}
use Rattle.cases.specs.Cases.{endless, endless_listing, brood, brood_listing, returning}
use Rattle.model.specs.Bads.{items}
use Rattle.model.specs.Rules.{Rule, rules}
use Rattle.model.specs.Markings.{Marking, fire, initial}
use Rattle.model.specs.Weights.{Line, weighed, change, least_weight_of}
use Rattle.model.specs.Verify.{Message, message}
use Rattle.cases.specs.ReturnCases.{callers_flow, callers_states}
use Rattle.cases.specs.LetterCases.{pair_of, pair_tables, either, pair_listing}

-- no ceilings, and in their place these lines of weights
unfoldable pub without_ceilings : ℕ → Pairs → List ℕ
without_ceilings lines entries = ceiling_words 0 [] ++ weight_words lines entries

-- Station A with these words behind its tables: size K is word 60, size W word 62, the first entry word 64.
unfoldable pub a_behind : List ℕ → List ℕ
a_behind ws = to_bytes (a_program ++ a_bads ++ a_tables ++ ws)

unfoldable pub a_weighed : ℕ → Pairs → List ℕ
a_weighed lines entries = a_behind (without_ceilings lines entries)

-- The states have counters 0 to 4, the letter 5: rules from 0 to 1, 1 to 2, 2 to 3 with 5 put, 3 to 4 with 5 read. The
-- line keeps its sum up to the send, which puts what it takes; the start weighs 1.
unfoldable pub a_line : Pairs
a_line = (0, 1) ∷ (1, 1) ∷ (2, 1) ∷ (5, 1) ∷ (6, 0) ∷ []

-- a line of the states alone
unfoldable pub a_states : Pairs
a_states = (0, 1) ∷ (1, 1) ∷ (2, 1) ∷ (3, 1) ∷ (4, 1) ∷ (6, 0) ∷ []

-- other bads of A, so many: the first tag is word 26
unfoldable pub a_bad : ℕ → Pairs → ℕ → Pairs → List ℕ
a_bad bads rows lines entries =
    to_bytes (a_program ++ bad_words bads rows ++ a_tables ++ without_ceilings lines entries)

-- so many messages; so many processes at row 9, counter 4
unfoldable pub messages : ℕ → Pairs
messages n = (40, 10) ∷ (42, 0) ∷ (43, n) ∷ []

unfoldable pub ended : ℕ → Pairs
ended n = (40, 10) ∷ (41, 9) ∷ (43, n) ∷ []

unfoldable pub end : Pairs
end = (44, 0) ∷ []

-- One function, two callers: counters 0 and 1 are row 4 by the two calls, 2 to 5 rows 5, 7, 11 and 15; rules from 2 to
-- 3, 3 to 0, 0 to 4, 4 to 1, 1 to 5. A bad on so many processes at row 4, its first tag is word 38.
unfoldable pub callers_weighed : ℕ → Pairs → List ℕ
callers_weighed n entries =
    to_bytes
    (two_callers ++ bad_words 1 ((40, 16) ∷ (41, 4) ∷ (43, n) ∷ (44, 0) ∷ []) ++
    table_words callers_flow [] callers_states ++ without_ceilings 1 entries)

-- The pair of a and a, where a may be a gauge or a pump (specs/LetterCases.antt): states 0 to 6, counters 7 to 10 for
-- (gauge, gauge), (gauge, pump), (pump, gauge), (pump, pump). State 4 puts any of these, state 5 reads any. A line has
-- the weight `start` for states 0 to 4 and the given ones for the letters. The bad's first tag is word 42.
unfoldable pub pairs_weighed : Pairs → ℕ → Pairs → List ℕ
pairs_weighed bad start letters =
    to_bytes
    (pair_of 1 1 ((32, 0) ∷ []) ++ bad_words 1 (bad ++ end) ++ pair_tables 17 either [] ++
    without_ceilings 1
    (((0, start) ∷ (1, start) ∷ (2, start) ∷ (3, start) ∷ (4, start) ∷ []) ++ letters ++ ((11, 0) ∷ [])))

unfoldable pub pairs_safe : Pairs → ℕ → Pairs → Case
pairs_safe bad start letters =
    safe 2 (pair_of 1 1 ((32, 0) ∷ [])) (pairs_weighed bad start letters)
    (pair_listing 4 (7 ∷ 8 ∷ 9 ∷ 10 ∷ []) (7 ∷ 8 ∷ 9 ∷ 10 ∷ []))

-- so many pairs; so many of the gauges, of gauge and pump
unfoldable pub any_pairs : ℕ → Pairs
any_pairs n = (40, 18) ∷ (42, 2) ∷ (43, n) ∷ []

unfoldable pub two_gauges : ℕ → Pairs
two_gauges n = (40, 18) ∷ (42, 2) ∷ (45, 0) ∷ (45, 0) ∷ (43, n) ∷ []

unfoldable pub gauge_and_pump : ℕ → Pairs
gauge_and_pump n = (40, 18) ∷ (42, 2) ∷ (45, 0) ∷ (45, 1) ∷ (43, n) ∷ []

unfoldable pub each_one : Pairs
each_one = (7, 1) ∷ (8, 1) ∷ (9, 1) ∷ (10, 1) ∷ []

unfoldable pub weight_cases : List Case
weight_cases =
    -- one line for station A: two messages weigh 2, the start 1
    safe 6 a_program (a_weighed 1 a_line) a_listing ∷
    -- without bytes behind the two sizes 0 there is no fifth part: 11 as before
    refused 30 (a_behind (0 ∷ 0 ∷ [])) 11 60 ∷
    -- one of the two sizes is not 0 and bytes are left: 1 at the word past the ceilings
    refused 30 (a_behind ((0 ∷ 1 ∷ 6 ∷ 0 ∷ []) ++ (1 ∷ 1 ∷ 6 ∷ 0 ∷ []))) 1 64 ∷
    refused 30 (a_behind ((1 ∷ 0 ∷ []) ++ (1 ∷ 1 ∷ 6 ∷ 0 ∷ []))) 1 62 ∷
    -- an odd byte, a word, a word of the arrays missing, its second byte missing: the fifth part is not whole
    refused 30 (a_behind (0 ∷ 0 ∷ []) ++ (1 ∷ [])) 1 62 ∷
    refused 30 (a_behind (0 ∷ 0 ∷ 1 ∷ [])) 1 62 ∷
    refused 30 (take 146 (a_weighed 1 a_line)) 1 62 ∷
    refused 30 (take 147 (a_weighed 1 a_line)) 1 62 ∷
    -- a byte more: the word past the weights
    refused 30 (a_weighed 1 a_line ++ (0 ∷ [])) 1 74 ∷
    -- W 1 to 16, E to 8,192; the first such size, before the arrays are looked at
    refused 30 (a_weighed 0 a_line) 2 62 ∷
    refused 30 (a_behind (0 ∷ 0 ∷ 0 ∷ 0 ∷ [])) 2 62 ∷
    refused 30 (a_weighed 17 a_line) 2 62 ∷
    refused 30 (a_behind (0 ∷ 0 ∷ 16 ∷ 8193 ∷ [])) 2 63 ∷
    refused 30 (a_behind (0 ∷ 0 ∷ 16 ∷ 8192 ∷ [])) 1 62 ∷
    -- 16 lines, all but the first of their closing entries alone
    safe 0 a_program (a_weighed 16 (a_line ++ replicate 15 (6, 0))) a_listing ∷
    -- 4 and 8 before 16: row 4 binds the name 1 again; the state behind the receive is missing, which state 3 lacks
    refused 30 (to_bytes (set (a_program ++ a_bads ++ a_tables ++ without_ceilings 1 []) 18 1)) 4 8 ∷
    refused 30
    (to_bytes
    (a_program ++ a_bads ++
    table_words ((0, 10) ∷ (1, 2) ∷ (2, 2) ∷ []) ((10, 2) ∷ [])
    (returning 10 ((10, 1) ∷ (10, 2) ∷ (10, 4) ∷ (10, 7) ∷ [])) ++ without_ceilings 1 [])) 8 44 ∷
    -- E 0: entries end early, the word past the counter numbers
    refused 30 (a_weighed 1 []) 16 64 ∷
    -- numbers that do not rise: lower, and equal
    refused 30 (a_weighed 1 ((1, 1) ∷ (0, 1) ∷ (6, 0) ∷ [])) 16 65 ∷
    refused 30 (a_weighed 1 ((1, 1) ∷ (1, 1) ∷ (6, 0) ∷ [])) 16 65 ∷
    -- weights 1 to 1,000: 0, 1,001, 1,000
    refused 30 (a_weighed 1 ((0, 0) ∷ (6, 0) ∷ [])) 16 64 ∷
    refused 30 (a_weighed 1 ((0, 1000) ∷ (1, 1000) ∷ (2, 1000) ∷ (5, 1001) ∷ (6, 0) ∷ [])) 16 67 ∷
    safe 0 a_program (a_weighed 1 ((0, 1000) ∷ (1, 1000) ∷ (2, 1000) ∷ (5, 1000) ∷ (6, 0) ∷ [])) a_listing ∷
    -- no such counter; a line closed with a weight, and one past 1,000
    refused 30 (a_weighed 1 ((7, 1) ∷ (6, 0) ∷ [])) 16 64 ∷
    refused 30 (a_weighed 1 ((0, 1) ∷ (6, 1) ∷ [])) 16 65 ∷
    refused 30 (a_weighed 1 ((0, 1) ∷ (6, 1001) ∷ [])) 16 65 ∷
    -- not W lines: an entry behind the last, entries ending early
    refused 30 (a_weighed 1 (a_line ++ ((0, 1) ∷ []))) 16 69 ∷
    refused 30 (a_weighed 2 a_line) 16 69 ∷
    refused 30 (a_weighed 1 ((0, 1) ∷ (1, 1) ∷ [])) 16 66 ∷
    -- a line is raised by the send alone; by the quiet rule from 0 to 1; what the receive takes is not made up for
    refused 30 (a_weighed 1 ((5, 1) ∷ (6, 0) ∷ [])) 17 64 ∷
    refused 30 (a_weighed 1 ((1, 1) ∷ (2, 1) ∷ (5, 1) ∷ (6, 0) ∷ [])) 17 64 ∷
    refused 30 (a_weighed 1 ((0, 1) ∷ (1, 1) ∷ (2, 1) ∷ (4, 2) ∷ (5, 1) ∷ (6, 0) ∷ [])) 17 64 ∷
    -- what the receive takes from both counters makes up for what it puts
    safe 0 a_program
    (a_bad 1 (messages 3 ++ end) 1 ((0, 2) ∷ (1, 2) ∷ (2, 2) ∷ (3, 1) ∷ (4, 2) ∷ (5, 1) ∷ (6, 0) ∷ []))
    a_listing ∷
    -- a rise of one line only, though the other settles the bad: the second, and the first
    refused 30 (a_weighed 2 (a_line ++ ((5, 1) ∷ (6, 0) ∷ []))) 17 69 ∷
    refused 30 (a_weighed 2 (((5, 1) ∷ (6, 0) ∷ []) ++ a_line)) 17 64 ∷
    -- by line and then by rule: the quiet rule from 0 to 1 raises the second line, the send behind it the first
    refused 30 (a_weighed 2 ((5, 1) ∷ (6, 0) ∷ (1, 1) ∷ (6, 0) ∷ [])) 17 64 ∷
    -- 16 before 17, 17 before 18
    refused 30 (a_weighed 2 ((5, 1) ∷ (6, 0) ∷ (0, 0) ∷ (6, 0) ∷ [])) 16 66 ∷
    refused 30 (a_bad 1 (messages 1 ++ end) 2 (a_line ++ ((5, 1) ∷ (6, 0) ∷ []))) 17 69 ∷
    -- equal to the start; a line of its closing entry alone weighs nothing, the start too
    refused 30 (a_bad 1 (messages 1 ++ end) 1 a_line) 18 26 ∷
    refused 30 (a_weighed 1 ((6, 0) ∷ [])) 18 26 ∷
    -- and hinders nothing where another line settles the bad
    safe 0 a_program (a_weighed 2 (((6, 0) ∷ []) ++ a_line)) a_listing ∷
    safe 0 a_program (a_weighed 2 (a_line ++ ((6, 0) ∷ []))) a_listing ∷
    -- the same item twice: the greater minimum, in either order
    refused 30 (a_bad 1 (messages 1 ++ messages 1 ++ end) 1 a_line) 18 26 ∷
    safe 0 a_program (a_bad 1 (messages 1 ++ messages 2 ++ end) 1 a_line) a_listing ∷
    safe 0 a_program (a_bad 1 (messages 2 ++ messages 1 ++ end) 1 a_line) a_listing ∷
    -- two items weigh together in one line, where it has both; a line for each of the items is not enough
    safe 0 a_program
    (a_bad 1 (messages 1 ++ ended 1 ++ end) 1 ((0, 1) ∷ (1, 1) ∷ (2, 1) ∷ (4, 1) ∷ (5, 1) ∷ (6, 0) ∷ []))
    a_listing ∷
    refused 30 (a_bad 1 (messages 1 ++ ended 1 ++ end) 2 (a_line ++ a_states)) 18 26 ∷
    -- two bads, each settled by a line of its own; the second by none, and the first by none
    safe 0 a_program (a_bad 2 (messages 2 ++ end ++ ended 2 ++ end) 2 (a_line ++ a_states)) a_listing ∷
    refused 30 (a_bad 2 (messages 2 ++ end ++ ended 2 ++ end) 1 a_line) 18 30 ∷
    refused 30 (a_bad 2 (messages 2 ++ end ++ ended 2 ++ end) 1 a_states) 18 26 ∷
    -- an item without a counter, letter C or C + 1, settles its bad, though it weighs nothing; beside another item too
    safe 0 a_program (a_bad 1 ((40, 10) ∷ (42, 1) ∷ (43, 1) ∷ (44, 0) ∷ []) 1 ((6, 0) ∷ [])) a_listing ∷
    safe 0 a_program (a_bad 1 ((40, 10) ∷ (42, 2) ∷ (43, 1) ∷ (44, 0) ∷ []) 1 ((6, 0) ∷ [])) a_listing ∷
    safe 0 a_program
    (a_bad 1 (messages 1 ++ ((40, 10) ∷ (42, 1) ∷ (43, 1) ∷ (44, 0) ∷ [])) 1 a_line) a_listing ∷
    -- the greatest minimum
    safe 0 a_program (a_bad 1 (messages 65535 ++ end) 1 a_line) a_listing ∷
    -- 14 behind them, and not before
    refused 23 (a_weighed 1 a_line) 14 24 ∷
    refused 23 (a_weighed 1 ((6, 0) ∷ [])) 18 26 ∷
    -- a rule that takes and puts the same counter: from = to, and new state = from
    safe 0 endless
    (to_bytes
    (endless ++ bad_words 1 ((40, 10) ∷ (41, 2) ∷ (43, 2) ∷ (44, 0) ∷ []) ++
    table_words ((0, 0) ∷ []) [] ((10, 2, 2) ∷ (10, 2, 6) ∷ (10, 6, 10) ∷ []) ++
    without_ceilings 1 ((0, 1) ∷ (1, 1) ∷ (2, 1) ∷ (3, 0) ∷ []))) endless_listing ∷
    safe 0 brood
    (to_bytes
    (brood ++ bad_words 1 ((40, 2) ∷ (41, 2) ∷ (43, 2) ∷ (44, 0) ∷ []) ++
    table_words ((0, 0) ∷ (1, 2) ∷ (2, 5) ∷ []) []
    (returning 8 ((2, 2) ∷ (2, 4) ∷ (5, 2) ∷ (5, 4) ∷ (8, 5) ∷ (8, 7) ∷ [])) ++
    without_ceilings 1 ((0, 1) ∷ (2, 1) ∷ (4, 1) ∷ (6, 0) ∷ []))) brood_listing ∷
    -- the same where what it puts besides has a weight: the first entry is word 61
    refused 30
    (to_bytes
    (brood ++ bad_words 1 ((40, 2) ∷ (41, 2) ∷ (43, 2) ∷ (44, 0) ∷ []) ++
    table_words ((0, 0) ∷ (1, 2) ∷ (2, 5) ∷ []) []
    (returning 8 ((2, 2) ∷ (2, 4) ∷ (5, 2) ∷ (5, 4) ∷ (8, 5) ∷ (8, 7) ∷ [])) ++
    without_ceilings 1 ((0, 1) ∷ (1, 1) ∷ (2, 1) ∷ (4, 1) ∷ (6, 0) ∷ []))) 17 61 ∷
    -- a head over its third numbers: two processes at row 4 by either call weigh 2, and one 1
    safe 0 two_callers
    (callers_weighed 2 ((0, 1) ∷ (1, 1) ∷ (2, 1) ∷ (3, 1) ∷ (4, 1) ∷ (6, 0) ∷ [])) two_callers_listing ∷
    refused 30 (callers_weighed 1 ((0, 1) ∷ (1, 1) ∷ (2, 1) ∷ (3, 1) ∷ (4, 1) ∷ (6, 0) ∷ [])) 18 38 ∷
    -- an absent counter empties the group: both processes may stand at counter 1
    refused 30 (callers_weighed 2 ((0, 1) ∷ (2, 1) ∷ (3, 1) ∷ (6, 0) ∷ [])) 18 38 ∷
    refused 30 (callers_weighed 65535 ((0, 1) ∷ (2, 1) ∷ (3, 1) ∷ (6, 0) ∷ [])) 18 38 ∷
    -- its lightest counter, which is the second: 3 at 2 are 6 and not 9, and not above 6; and above 5
    refused 30 (callers_weighed 3 ((0, 3) ∷ (1, 2) ∷ (2, 6) ∷ (3, 3) ∷ (4, 2) ∷ (6, 0) ∷ [])) 18 38 ∷
    safe 0 two_callers
    (callers_weighed 3 ((0, 3) ∷ (1, 2) ∷ (2, 5) ∷ (3, 3) ∷ (4, 2) ∷ (6, 0) ∷ [])) two_callers_listing ∷
    -- a sum and one of it: 3, not 4, nor 2, in either order
    refused 30 (pairs_weighed (any_pairs 3 ++ gauge_and_pump 1) 3 each_one) 18 42 ∷
    refused 30 (pairs_weighed (gauge_and_pump 1 ++ any_pairs 3) 3 each_one) 18 42 ∷
    pairs_safe (any_pairs 3 ++ gauge_and_pump 1) 2 each_one ∷
    pairs_safe (gauge_and_pump 1 ++ any_pairs 3) 2 each_one ∷
    -- two of it, which ask for more than the sum does
    refused 30 (pairs_weighed (any_pairs 1 ++ gauge_and_pump 1 ++ two_gauges 1) 2 each_one) 18 42 ∷
    pairs_safe (any_pairs 1 ++ gauge_and_pump 1 ++ two_gauges 1) 1 each_one ∷
    -- what the sum still lacks stands at its lightest letter: 5 and twice 2
    refused 30 (pairs_weighed (any_pairs 3 ++ two_gauges 1) 9 ((7, 5) ∷ (8, 2) ∷ (9, 5) ∷ (10, 3) ∷ [])) 18 42 ∷
    pairs_safe (any_pairs 3 ++ two_gauges 1) 8 ((7, 5) ∷ (8, 2) ∷ (9, 5) ∷ (10, 3) ∷ []) ∷
    -- a letter that is absent empties the sum: only the gauges weigh
    refused 30 (pairs_weighed (any_pairs 9 ++ two_gauges 1) 5 ((7, 5) ∷ (8, 5) ∷ (9, 5) ∷ [])) 18 42 ∷
    pairs_safe (any_pairs 9 ++ two_gauges 2) 5 ((7, 5) ∷ (8, 5) ∷ (9, 5) ∷ []) ∷
    -- the sum twice, with one of it between
    refused 30 (pairs_weighed (any_pairs 2 ++ two_gauges 1 ++ any_pairs 3) 3 each_one) 18 42 ∷
    pairs_safe (any_pairs 2 ++ two_gauges 1 ++ any_pairs 3) 2 each_one ∷
    []

-- The weight of a bad itself, in a line that gives the four letters these weights and the states none.
pub record LeastCase : Type 0 where
  pub weights : List ℕ
  pub bad : Pairs
  pub least : ℕ

abbrev pub weighs : List ℕ → Pairs → ℕ → LeastCase
weighs weights bad least = record { weights = weights; bad = bad; least = least }

unfoldable pub least_told : LeastCase → ℕ
least_told k =
    let m : Message = message (pairs_weighed k.bad 1 each_one) in
    least_weight_of m.program m.tables (λ x. get_or (replicate 7 0 ++ k.weights) x 0) (items m.program m.bads 0)

unfoldable pub least_cases : List LeastCase
least_cases =
    -- one item: its minimum at the lightest letter
    weighs (1 ∷ 1 ∷ 1 ∷ 1 ∷ []) (any_pairs 3) 3 ∷
    weighs (4 ∷ 3 ∷ 2 ∷ 5 ∷ []) (any_pairs 3) 6 ∷
    weighs (4 ∷ 3 ∷ 2 ∷ 5 ∷ []) (two_gauges 3) 12 ∷
    weighs (4 ∷ 3 ∷ 0 ∷ 5 ∷ []) (any_pairs 3) 0 ∷
    -- the same item twice
    weighs (4 ∷ 3 ∷ 2 ∷ 5 ∷ []) (two_gauges 3 ++ two_gauges 5) 20 ∷
    weighs (4 ∷ 3 ∷ 2 ∷ 5 ∷ []) (two_gauges 5 ++ two_gauges 3) 20 ∷
    weighs (4 ∷ 3 ∷ 2 ∷ 5 ∷ []) (any_pairs 3 ++ any_pairs 5 ++ any_pairs 4) 10 ∷
    -- a sum and one of it: 3, not 4
    weighs (1 ∷ 1 ∷ 1 ∷ 1 ∷ []) (any_pairs 3 ++ gauge_and_pump 1) 3 ∷
    weighs (1 ∷ 1 ∷ 1 ∷ 1 ∷ []) (gauge_and_pump 1 ++ any_pairs 3) 3 ∷
    -- what single letters ask for counts for the sum, also past it
    weighs (4 ∷ 3 ∷ 2 ∷ 5 ∷ []) (any_pairs 3 ++ two_gauges 1 ++ gauge_and_pump 1) 9 ∷
    weighs (4 ∷ 3 ∷ 2 ∷ 5 ∷ []) (any_pairs 3 ++ two_gauges 2 ++ gauge_and_pump 2) 14 ∷
    -- an absent counter that empties a group, but not what is asked of the gauges
    weighs (4 ∷ 3 ∷ 2 ∷ 0 ∷ []) (any_pairs 65535 ++ two_gauges 2) 8 ∷
    -- past 32 bits
    weighs (100000 ∷ 100000 ∷ 100000 ∷ 100000 ∷ []) (any_pairs 65535) 6553500000 ∷
    []

-- Station A has one run of its counters, its rules one after the other. The weighed sums of a line at the start and
-- after each of them, and the change that each makes: pos n is n, negsuc n is - (n + 1).
pub record SumsCase : Type 0 where
  pub entries : Pairs
  pub sums : List ℕ
  pub changes : List ℤ

abbrev pub line_of : Pairs → List ℕ → List ℤ → SumsCase
line_of entries sums changes = record { entries = entries; sums = sums; changes = changes }

unfoldable pub sums_along : ℕ → Line → List Rule → Marking → List ℕ
sums_along counters w [] m = weighed counters w m ∷ []
sums_along counters w (ρ ∷ ρs) m = weighed counters w m ∷ sums_along counters w ρs (fire ρ m)

unfoldable pub sums_told : SumsCase → List ℕ × List ℤ
sums_told k =
    let m : Message = message (a_weighed 1 k.entries) in
    let w : Line = m.lines.weight 0 in
    let ρs : List Rule = rules m.program m.tables in
    (sums_along m.lines.counters w ρs (initial m.program m.tables), map (change w) ρs)

unfoldable pub sums_cases : List SumsCase
sums_cases =
    line_of a_line (1 ∷ 1 ∷ 1 ∷ 1 ∷ 0 ∷ []) (pos 0 ∷ pos 0 ∷ pos 0 ∷ negsuc 0 ∷ []) ∷
    line_of a_states (1 ∷ 1 ∷ 1 ∷ 1 ∷ 1 ∷ []) (pos 0 ∷ pos 0 ∷ pos 0 ∷ pos 0 ∷ []) ∷
    -- the send raises it, the receive takes what was put
    line_of ((5, 1) ∷ (6, 0) ∷ []) (0 ∷ 0 ∷ 0 ∷ 1 ∷ 0 ∷ []) (pos 0 ∷ pos 0 ∷ pos 1 ∷ negsuc 0 ∷ []) ∷
    -- both counters that a rule puts to, both that it takes from
    line_of ((2, 1000) ∷ (3, 1000) ∷ (5, 999) ∷ (6, 0) ∷ []) (0 ∷ 0 ∷ 1000 ∷ 1999 ∷ 0 ∷ [])
    (pos 0 ∷ pos 1000 ∷ pos 999 ∷ negsuc 1998 ∷ []) ∷
    -- a line of its closing entry alone
    line_of ((6, 0) ∷ []) (0 ∷ 0 ∷ 0 ∷ 0 ∷ 0 ∷ []) (pos 0 ∷ pos 0 ∷ pos 0 ∷ pos 0 ∷ []) ∷
    []
