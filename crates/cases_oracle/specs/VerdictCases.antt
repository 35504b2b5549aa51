-- Cases for every limit and for what Cases.antt leaves bare. What is expected is what the other implementation gives,
-- which was written from the papers alone: `oracle verdict-cases oracle/tests/cases/verdicts.txt` writes this file.
-- proofs/VerdictCases.antt proves by computation that the definitions give the same: number and place, and in the
-- second table the part handed on and every lent word.
--
-- Above a message stands the text of its station (docs/STATIONS.md), where it was assembled from one. `changed ws
-- ((8, 12) ∷ [])` is the message ws with the word 12 at place 8.
use Rattle.std.specs.Prelude.{ℕ, List, [], ◌∷◌, ◌++◌, set}
use Rattle.model.specs.Verdict.{number, place}
use Rattle.model.specs.Verify.{verdict}
use Rattle.cases.specs.Cases.{Case, Pairs, program_words, bad_words, table_words, ceiling_words, weight_words}
use Rattle.cases.specs.Cases.{to_bytes, safe}

-- the words with others in their places
unfoldable pub changed : List ℕ → Pairs → List ℕ
changed ws [] = ws
changed ws (x ∷ xs) = changed (set ws x.0 x.1) xs

-- a message, and the number and place of its verdict
pub record VerdictCase : Type 0 where
  pub bytes : List ℕ
  pub expected : List ℕ

unfoldable pub at : ℕ → ℕ → List ℕ → VerdictCase
at n position bytes = record { bytes = bytes; expected = n ∷ position ∷ [] }

-- as many words are lent as any of these messages needs
unfoldable pub told : VerdictCase → List ℕ
told k = let v = verdict k.bytes 100 in number v ∷ place v ∷ []

-- A program of one row; the sizes of the bads begin at word 6.
unfoldable pub bads_sizes_program : List ℕ
bads_sizes_program =
    program_words 1 0 0
    ((1, 0) ∷ [])

unfoldable pub bads_sizes_words : List ℕ
bads_sizes_words =
    bads_sizes_program

-- The tables begin at word 16.
unfoldable pub tables_sizes_program : List ℕ
tables_sizes_program =
    program_words 1 0 0
    ((1, 0) ∷ [])

unfoldable pub tables_sizes_words : List ℕ
tables_sizes_words =
    tables_sizes_program ++
    bad_words 1
    ((40, 1) ∷ (41, 0) ∷ (43, 1) ∷ (44, 0) ∷ [])

-- The ceilings begin at word 19.
unfoldable pub ceilings_sizes_program : List ℕ
ceilings_sizes_program =
    program_words 1 0 0
    ((1, 0) ∷ [])

unfoldable pub ceilings_sizes_words : List ℕ
ceilings_sizes_words =
    ceilings_sizes_program ++
    bad_words 1
    ((40, 1) ∷ (41, 0) ∷ (43, 1) ∷ (44, 0) ∷ []) ++
    table_words
    []
    []
    []

-- Station A of document 01. Its words: sizes 0 to 3, tags 4 to 13, numbers 14 to 23; bads 24 and 25, tags 26 to 29,
-- numbers 30 to 33; tables 34 to 36, first columns 37 to 45, second columns 46 to 54; ceilings 55 and 56, counter
-- numbers 57 to 67, limits 68 to 78.
unfoldable pub station_a_program : List ℕ
station_a_program =
    program_words 3 1 0
    ((10, 0) ∷ (7, 0) ∷ (2, 1) ∷ (20, 0) ∷ (5, 2) ∷ (21, 0) ∷ (21, 1) ∷ (9, 1) ∷ (31, 0) ∷ (1, 0) ∷ [])

unfoldable pub station_a_words : List ℕ
station_a_words =
    station_a_program ++
    bad_words 1
    ((40, 10) ∷ (42, 0) ∷ (43, 2) ∷ (44, 0) ∷ []) ++
    table_words
    ((0, 10) ∷ (1, 2) ∷ (2, 2) ∷ [])
    ((10, 2) ∷ [])
    ((10, 1, 10) ∷ (10, 2, 10) ∷ (10, 4, 10) ∷ (10, 7, 10) ∷ (10, 9, 10) ∷ []) ++
    ceiling_words 5
    ((0, 1) ∷ (6, 0) ∷ (1, 1) ∷ (6, 0) ∷ (2, 1) ∷ (6, 0) ∷ (3, 1) ∷ (5, 1) ∷ (6, 0) ∷ (4, 1) ∷ (6, 0) ∷ [])

-- Station A with two bads, the second of two items: a message that waits, and a process at the receive.
unfoldable pub two_bads_program : List ℕ
two_bads_program =
    program_words 3 1 0
    ((10, 0) ∷ (7, 0) ∷ (2, 1) ∷ (20, 0) ∷ (5, 2) ∷ (21, 0) ∷ (21, 1) ∷ (9, 1) ∷ (31, 0) ∷ (1, 0) ∷ [])

unfoldable pub two_bads_words : List ℕ
two_bads_words =
    two_bads_program ++
    bad_words 2
    ((40, 10) ∷ (42, 0) ∷ (43, 2) ∷ (44, 0) ∷ (40, 10) ∷ (42, 0) ∷ (43, 1) ∷ (40, 10) ∷ (41, 4) ∷ (43, 1) ∷ (44, 0) ∷
    []) ++
    table_words
    ((0, 10) ∷ (1, 2) ∷ (2, 2) ∷ [])
    ((10, 2) ∷ [])
    ((10, 1, 10) ∷ (10, 2, 10) ∷ (10, 4, 10) ∷ (10, 7, 10) ∷ (10, 9, 10) ∷ []) ++
    ceiling_words 5
    ((0, 1) ∷ (6, 0) ∷ (1, 1) ∷ (6, 0) ∷ (2, 1) ∷ (6, 0) ∷ (3, 1) ∷ (5, 1) ∷ (6, 0) ∷ (4, 1) ∷ (6, 0) ∷ [])

unfoldable pub two_bads_listing : List ℕ
two_bads_listing =
    (5 ∷ 1 ∷ 4 ∷ 10 ∷ []) ++
    (50 ∷ 51 ∷ 50 ∷ 51 ∷ 50 ∷ 51 ∷ 53 ∷ 50 ∷ 51 ∷ 52 ∷ []) ++
    (0 ∷ 1 ∷ 1 ∷ 2 ∷ 2 ∷ 3 ∷ 5 ∷ 3 ∷ 4 ∷ 5 ∷ [])

-- Station A with one ceiling that leaves every counter unbounded, and a bad that no function waits: limits are words
-- 64 to 70.
unfoldable pub unbounded_program : List ℕ
unbounded_program =
    program_words 3 1 0
    ((10, 0) ∷ (7, 0) ∷ (2, 1) ∷ (20, 0) ∷ (5, 2) ∷ (21, 0) ∷ (21, 1) ∷ (9, 1) ∷ (31, 0) ∷ (1, 0) ∷ [])

unfoldable pub unbounded_words : List ℕ
unbounded_words =
    unbounded_program ++
    bad_words 1
    ((40, 10) ∷ (42, 1) ∷ (43, 1) ∷ (44, 0) ∷ []) ++
    table_words
    ((0, 10) ∷ (1, 2) ∷ (2, 2) ∷ [])
    ((10, 2) ∷ [])
    ((10, 1, 10) ∷ (10, 2, 10) ∷ (10, 4, 10) ∷ (10, 7, 10) ∷ (10, 9, 10) ∷ []) ++
    ceiling_words 1
    ((0, 65535) ∷ (1, 65535) ∷ (2, 65535) ∷ (3, 65535) ∷ (4, 65535) ∷ (5, 65535) ∷ (6, 0) ∷ [])

-- Station A with a ceiling of any number of processes at the start, and one of 65,534 there and anything elsewhere.
unfoldable pub one_taken_program : List ℕ
one_taken_program =
    program_words 3 1 0
    ((10, 0) ∷ (7, 0) ∷ (2, 1) ∷ (20, 0) ∷ (5, 2) ∷ (21, 0) ∷ (21, 1) ∷ (9, 1) ∷ (31, 0) ∷ (1, 0) ∷ [])

unfoldable pub one_taken_words : List ℕ
one_taken_words =
    one_taken_program ++
    bad_words 1
    ((40, 10) ∷ (42, 1) ∷ (43, 1) ∷ (44, 0) ∷ []) ++
    table_words
    ((0, 10) ∷ (1, 2) ∷ (2, 2) ∷ [])
    ((10, 2) ∷ [])
    ((10, 1, 10) ∷ (10, 2, 10) ∷ (10, 4, 10) ∷ (10, 7, 10) ∷ (10, 9, 10) ∷ []) ++
    ceiling_words 2
    ((0, 65535) ∷ (6, 0) ∷ (0, 65534) ∷ (1, 65535) ∷ (2, 65535) ∷ (3, 65535) ∷ (4, 65535) ∷ (5, 65535) ∷ (6, 0) ∷ [])

-- A constructor of arity 8, built once.
unfoldable pub arity_of_eight_program : List ℕ
arity_of_eight_program =
    program_words 2 1 0
    ((10, 8) ∷ (7, 0) ∷ (2, 1) ∷ (20, 0) ∷ (21, 0) ∷ (21, 0) ∷ (21, 0) ∷ (21, 0) ∷ (21, 0) ∷ (21, 0) ∷ (21, 0) ∷
    (21, 0) ∷ (1, 1) ∷ [])

unfoldable pub arity_of_eight_words : List ℕ
arity_of_eight_words =
    arity_of_eight_program ++
    bad_words 1
    ((40, 13) ∷ (41, 1) ∷ (43, 1) ∷ (44, 0) ∷ []) ++
    table_words
    []
    []
    [] ++
    ceiling_words 0
    []

-- A function of 8 parameters.
unfoldable pub eight_parameters_program : List ℕ
eight_parameters_program =
    program_words 9 0 1
    ((11, 0) ∷ (22, 8) ∷ (23, 1) ∷ (23, 2) ∷ (23, 3) ∷ (23, 4) ∷ (23, 5) ∷ (23, 6) ∷ (23, 7) ∷ (23, 8) ∷ (1, 8) ∷
    (1, 0) ∷ [])

unfoldable pub eight_parameters_words : List ℕ
eight_parameters_words =
    eight_parameters_program ++
    bad_words 1
    ((40, 12) ∷ (41, 11) ∷ (43, 1) ∷ (44, 0) ∷ []) ++
    table_words
    []
    []
    ((12, 11, 12) ∷ []) ++
    ceiling_words 0
    []

-- A call with 8 arguments of a function without parameters.
unfoldable pub eight_arguments_program : List ℕ
eight_arguments_program =
    program_words 3 0 1
    ((11, 0) ∷ (22, 0) ∷ (1, 0) ∷ (7, 1) ∷ (4, 2) ∷ (21, 0) ∷ (22, 8) ∷ (21, 1) ∷ (21, 1) ∷ (21, 1) ∷ (21, 1) ∷
    (21, 1) ∷ (21, 1) ∷ (21, 1) ∷ (21, 1) ∷ (1, 2) ∷ [])

unfoldable pub eight_arguments_words : List ℕ
eight_arguments_words =
    eight_arguments_program ++
    bad_words 1
    ((40, 16) ∷ (41, 3) ∷ (43, 2) ∷ (44, 0) ∷ []) ++
    table_words
    ((0, 0) ∷ (1, 16) ∷ [])
    []
    ((16, 3, 16) ∷ (16, 4, 16) ∷ []) ++
    ceiling_words 2
    ((0, 1) ∷ (2, 0) ∷ (1, 1) ∷ (2, 0) ∷ [])

unfoldable pub eight_arguments_listing : List ℕ
eight_arguments_listing =
    (2 ∷ 0 ∷ 1 ∷ 2 ∷ []) ++
    (50 ∷ 51 ∷ []) ++
    (0 ∷ 1 ∷ [])

-- A case and a receive of 16 branches each.
unfoldable pub sixteen_branches_program : List ℕ
sixteen_branches_program =
    program_words 1 0 0
    ((7, 0) ∷ (8, 0) ∷ (25, 16) ∷ (32, 0) ∷ (9, 16) ∷ (32, 0) ∷ (1, 0) ∷ (32, 0) ∷ (1, 0) ∷ (32, 0) ∷ (1, 0) ∷
    (32, 0) ∷ (1, 0) ∷ (32, 0) ∷ (1, 0) ∷ (32, 0) ∷ (1, 0) ∷ (32, 0) ∷ (1, 0) ∷ (32, 0) ∷ (1, 0) ∷ (32, 0) ∷ (1, 0) ∷
    (32, 0) ∷ (1, 0) ∷ (32, 0) ∷ (1, 0) ∷ (32, 0) ∷ (1, 0) ∷ (32, 0) ∷ (1, 0) ∷ (32, 0) ∷ (1, 0) ∷ (32, 0) ∷ (1, 0) ∷
    (32, 0) ∷ (1, 0) ∷ (32, 0) ∷ (1, 0) ∷ (32, 0) ∷ (1, 0) ∷ (32, 0) ∷ (1, 0) ∷ (32, 0) ∷ (1, 0) ∷ (32, 0) ∷ (1, 0) ∷
    (32, 0) ∷ (1, 0) ∷ (32, 0) ∷ (1, 0) ∷ (32, 0) ∷ (1, 0) ∷ (32, 0) ∷ (1, 0) ∷ (32, 0) ∷ (1, 0) ∷ (32, 0) ∷ (1, 0) ∷
    (32, 0) ∷ (1, 0) ∷ (32, 0) ∷ (1, 0) ∷ (32, 0) ∷ (1, 0) ∷ (32, 0) ∷ (1, 0) ∷ [])

unfoldable pub sixteen_branches_words : List ℕ
sixteen_branches_words =
    sixteen_branches_program ++
    bad_words 1
    ((40, 67) ∷ (41, 1) ∷ (43, 1) ∷ (44, 0) ∷ []) ++
    table_words
    []
    []
    [] ++
    ceiling_words 0
    []

-- A pattern of depth 4, whose innermost part is a name.
unfoldable pub depth_four_program : List ℕ
depth_four_program =
    program_words 2 2 0
    ((10, 1) ∷ (10, 0) ∷ (7, 0) ∷ (8, 0) ∷ (25, 1) ∷ (31, 0) ∷ (31, 0) ∷ (31, 0) ∷ (30, 1) ∷ (1, 1) ∷ [])

unfoldable pub depth_four_words : List ℕ
depth_four_words =
    depth_four_program ++
    bad_words 1
    ((40, 10) ∷ (41, 2) ∷ (43, 1) ∷ (44, 0) ∷ []) ++
    table_words
    []
    []
    [] ++
    ceiling_words 0
    []

-- A pattern of depth 5.
unfoldable pub depth_five_program : List ℕ
depth_five_program =
    program_words 2 2 0
    ((10, 1) ∷ (10, 0) ∷ (7, 0) ∷ (8, 0) ∷ (25, 1) ∷ (31, 0) ∷ (31, 0) ∷ (31, 0) ∷ (31, 0) ∷ (30, 1) ∷ (1, 1) ∷ [])

unfoldable pub depth_five_words : List ℕ
depth_five_words =
    depth_five_program ++
    bad_words 1
    ((40, 11) ∷ (41, 2) ∷ (43, 1) ∷ (44, 0) ∷ []) ++
    table_words
    []
    []
    [] ++
    ceiling_words 0
    []

-- Where names hold. f(a) = (g = fun(b) -> b; a); x = self; case x of { y -> y; _ -> x }.
unfoldable pub scopes_program : List ℕ
scopes_program =
    program_words 6 0 1
    ((11, 0) ∷ (22, 1) ∷ (23, 1) ∷ (3, 2) ∷ (22, 1) ∷ (23, 3) ∷ (1, 3) ∷ (1, 1) ∷ (7, 4) ∷ (8, 4) ∷ (25, 2) ∷
    (30, 5) ∷ (1, 5) ∷ (32, 0) ∷ (1, 4) ∷ [])

unfoldable pub scopes_words : List ℕ
scopes_words =
    scopes_program ++
    bad_words 1
    ((40, 15) ∷ (41, 8) ∷ (43, 2) ∷ (44, 0) ∷ []) ++
    table_words
    ((0, 0) ∷ (4, 15) ∷ (5, 15) ∷ [])
    []
    ((15, 8, 15) ∷ (15, 9, 15) ∷ (15, 12, 15) ∷ (15, 14, 15) ∷ []) ++
    ceiling_words 4
    ((0, 1) ∷ (4, 0) ∷ (1, 1) ∷ (4, 0) ∷ (2, 1) ∷ (4, 0) ∷ (3, 1) ∷ (4, 0) ∷ [])

unfoldable pub scopes_listing : List ℕ
scopes_listing =
    (4 ∷ 0 ∷ 3 ∷ 6 ∷ []) ++
    (50 ∷ 51 ∷ 50 ∷ 51 ∷ 50 ∷ 51 ∷ []) ++
    (0 ∷ 1 ∷ 1 ∷ 2 ∷ 1 ∷ 3 ∷ [])

-- Values of every kind: boxes with functions of tags 11 and 3, and the address of a spawned process.
--     constructors a/0, box/1.
--     function f() -> f.
--     start ->
--         Me = self(),
--         P = spawn(f),
--         G = fun() -> a end,
--         Me ! box(f),
--         Me ! P,
--         Me ! box(G).
--     bad none: start holds a >= 1.
unfoldable pub values_program : List ℕ
values_program =
    program_words 10 2 1
    ((10, 0) ∷ (10, 1) ∷ (11, 0) ∷ (22, 0) ∷ (1, 0) ∷ (7, 1) ∷ (6, 2) ∷ (21, 0) ∷ (3, 3) ∷ (22, 0) ∷ (2, 4) ∷
    (20, 0) ∷ (1, 4) ∷ (2, 5) ∷ (20, 1) ∷ (21, 0) ∷ (5, 6) ∷ (21, 1) ∷ (21, 5) ∷ (5, 7) ∷ (21, 1) ∷ (21, 2) ∷ (2, 8) ∷
    (20, 1) ∷ (21, 3) ∷ (5, 9) ∷ (21, 1) ∷ (21, 8) ∷ (1, 9) ∷ [])

unfoldable pub values_words : List ℕ
values_words =
    values_program ++
    bad_words 1
    ((40, 29) ∷ (42, 0) ∷ (43, 1) ∷ (44, 0) ∷ []) ++
    table_words
    ((0, 2) ∷ (1, 29) ∷ (2, 6) ∷ (3, 8) ∷ (5, 13) ∷ (6, 13) ∷ (7, 6) ∷ (8, 22) ∷ (9, 22) ∷ [])
    ((29, 6) ∷ (29, 13) ∷ (29, 22) ∷ [])
    ((6, 4, 29) ∷ (29, 5, 29) ∷ (29, 6, 29) ∷ (29, 8, 29) ∷ (29, 13, 29) ∷ (29, 16, 29) ∷ (29, 19, 29) ∷
    (29, 22, 29) ∷ (29, 25, 29) ∷ (29, 28, 29) ∷ []) ++
    ceiling_words 1
    ((0, 65535) ∷ (1, 65535) ∷ (2, 65535) ∷ (3, 65535) ∷ (4, 65535) ∷ (5, 65535) ∷ (6, 65535) ∷ (7, 65535) ∷
    (8, 65535) ∷ (9, 65535) ∷ (10, 65535) ∷ (11, 65535) ∷ (12, 0) ∷ [])

unfoldable pub values_listing : List ℕ
values_listing =
    (10 ∷ 2 ∷ 8 ∷ 20 ∷ []) ++
    (50 ∷ 51 ∷ 50 ∷ 51 ∷ 54 ∷ 50 ∷ 51 ∷ 50 ∷ 51 ∷ 50 ∷ 51 ∷ 53 ∷ 50 ∷ 51 ∷ 53 ∷ 50 ∷ 51 ∷ 50 ∷ 51 ∷ 53 ∷ []) ++
    (1 ∷ 2 ∷ 2 ∷ 3 ∷ 0 ∷ 3 ∷ 4 ∷ 4 ∷ 5 ∷ 5 ∷ 6 ∷ 10 ∷ 6 ∷ 7 ∷ 11 ∷ 7 ∷ 8 ∷ 8 ∷ 9 ∷ 10 ∷ [])

-- A function in a box and an address as messages: letters 2 and C + 1.
--     constructors a/0, b/0, box/1.
--     start ->
--         Me = self(),
--         Me ! box(fun() -> Me end),
--         receive box(F) -> Me ! Me end.
--     bad none: start holds a >= 1.
unfoldable pub letters_program : List ℕ
letters_program =
    program_words 6 3 0
    ((10, 0) ∷ (10, 0) ∷ (10, 1) ∷ (7, 0) ∷ (3, 1) ∷ (22, 0) ∷ (1, 0) ∷ (2, 2) ∷ (20, 2) ∷ (21, 1) ∷ (5, 3) ∷
    (21, 0) ∷ (21, 2) ∷ (9, 1) ∷ (31, 2) ∷ (30, 4) ∷ (5, 5) ∷ (21, 0) ∷ (21, 0) ∷ (1, 5) ∷ [])

unfoldable pub letters_words : List ℕ
letters_words =
    letters_program ++
    bad_words 1
    ((40, 20) ∷ (42, 0) ∷ (43, 1) ∷ (44, 0) ∷ []) ++
    table_words
    ((0, 20) ∷ (1, 4) ∷ (2, 7) ∷ (3, 7) ∷ (4, 4) ∷ (5, 20) ∷ [])
    ((20, 7) ∷ (20, 20) ∷ [])
    ((20, 3, 20) ∷ (20, 4, 20) ∷ (20, 7, 20) ∷ (20, 10, 20) ∷ (20, 13, 20) ∷ (20, 16, 20) ∷ (20, 19, 20) ∷ []) ++
    ceiling_words 1
    ((0, 65535) ∷ (1, 65535) ∷ (2, 65535) ∷ (3, 65535) ∷ (4, 65535) ∷ (5, 65535) ∷ (6, 65535) ∷ (7, 65535) ∷
    (8, 65535) ∷ (9, 0) ∷ [])

unfoldable pub letters_listing : List ℕ
letters_listing =
    (7 ∷ 2 ∷ 6 ∷ 15 ∷ []) ++
    (50 ∷ 51 ∷ 50 ∷ 51 ∷ 50 ∷ 51 ∷ 50 ∷ 51 ∷ 53 ∷ 50 ∷ 51 ∷ 52 ∷ 50 ∷ 51 ∷ 53 ∷ []) ++
    (0 ∷ 1 ∷ 1 ∷ 2 ∷ 2 ∷ 3 ∷ 3 ∷ 4 ∷ 7 ∷ 4 ∷ 5 ∷ 7 ∷ 5 ∷ 6 ∷ 8 ∷ [])

-- A function in a box as message, which is never read; a bad of one letter.
--     constructors box/1.
--     start ->
--         Me = self(),
--         Me ! box(fun() -> Me end),
--         Me.
--     bad address: start holds address >= 1.
unfoldable pub function_letter_program : List ℕ
function_letter_program =
    program_words 4 1 0
    ((10, 1) ∷ (7, 0) ∷ (3, 1) ∷ (22, 0) ∷ (1, 0) ∷ (2, 2) ∷ (20, 0) ∷ (21, 1) ∷ (5, 3) ∷ (21, 0) ∷ (21, 2) ∷ (1, 0) ∷
    [])

unfoldable pub function_letter_words : List ℕ
function_letter_words =
    function_letter_program ++
    bad_words 1
    ((40, 12) ∷ (42, 2) ∷ (43, 1) ∷ (44, 0) ∷ []) ++
    table_words
    ((0, 12) ∷ (1, 2) ∷ (2, 5) ∷ (3, 5) ∷ [])
    ((12, 5) ∷ [])
    ((12, 1, 12) ∷ (12, 2, 12) ∷ (12, 5, 12) ∷ (12, 8, 12) ∷ (12, 11, 12) ∷ []) ++
    ceiling_words 1
    ((0, 65535) ∷ (1, 65535) ∷ (2, 65535) ∷ (3, 65535) ∷ (4, 65535) ∷ (5, 65535) ∷ (6, 0) ∷ [])

unfoldable pub function_letter_listing : List ℕ
function_letter_listing =
    (5 ∷ 1 ∷ 4 ∷ 9 ∷ []) ++
    (50 ∷ 51 ∷ 50 ∷ 51 ∷ 50 ∷ 51 ∷ 50 ∷ 51 ∷ 53 ∷ []) ++
    (0 ∷ 1 ∷ 1 ∷ 2 ∷ 2 ∷ 3 ∷ 3 ∷ 4 ∷ 5 ∷ [])

-- An address as message.
--     constructors a/0.
--     start ->
--         Me = self(),
--         Me ! Me,
--         Me.
--     bad function: start holds function >= 1.
unfoldable pub address_letter_program : List ℕ
address_letter_program =
    program_words 2 1 0
    ((10, 0) ∷ (7, 0) ∷ (5, 1) ∷ (21, 0) ∷ (21, 0) ∷ (1, 0) ∷ [])

unfoldable pub address_letter_words : List ℕ
address_letter_words =
    address_letter_program ++
    bad_words 1
    ((40, 6) ∷ (42, 1) ∷ (43, 1) ∷ (44, 0) ∷ []) ++
    table_words
    ((0, 6) ∷ (1, 6) ∷ [])
    ((6, 6) ∷ [])
    ((6, 1, 6) ∷ (6, 2, 6) ∷ (6, 5, 6) ∷ []) ++
    ceiling_words 1
    ((0, 65535) ∷ (1, 65535) ∷ (2, 65535) ∷ (3, 65535) ∷ (4, 0) ∷ [])

unfoldable pub address_letter_listing : List ℕ
address_letter_listing =
    (3 ∷ 1 ∷ 2 ∷ 5 ∷ []) ++
    (50 ∷ 51 ∷ 50 ∷ 51 ∷ 53 ∷ []) ++
    (0 ∷ 1 ∷ 1 ∷ 2 ∷ 3 ∷ [])

-- A call with a wrong count has no rule; beside it one with the right count.
--     constructors a/0.
--     function one(X) -> X.
--     function none() -> one.
--     function apply(F) -> F().
--     start ->
--         apply(none),
--         apply(one).
--     bad none: start holds a >= 1.
unfoldable pub wrong_counts_program : List ℕ
wrong_counts_program =
    program_words 8 1 3
    ((10, 0) ∷ (11, 0) ∷ (22, 1) ∷ (23, 1) ∷ (1, 1) ∷ (11, 2) ∷ (22, 0) ∷ (1, 0) ∷ (11, 3) ∷ (22, 1) ∷ (23, 4) ∷
    (4, 5) ∷ (21, 4) ∷ (22, 0) ∷ (1, 5) ∷ (4, 6) ∷ (21, 3) ∷ (22, 1) ∷ (21, 2) ∷ (4, 7) ∷ (21, 3) ∷ (22, 1) ∷
    (21, 0) ∷ (1, 7) ∷ [])

unfoldable pub wrong_counts_words : List ℕ
wrong_counts_words =
    wrong_counts_program ++
    bad_words 1
    ((40, 24) ∷ (42, 0) ∷ (43, 1) ∷ (44, 0) ∷ []) ++
    table_words
    ((0, 1) ∷ (2, 5) ∷ (3, 8) ∷ (4, 1) ∷ (4, 5) ∷ (5, 1) ∷ (6, 1) ∷ (7, 1) ∷ [])
    []
    ((24, 7, 11) ∷ (24, 11, 15) ∷ (24, 11, 19) ∷ (24, 14, 15) ∷ (24, 14, 19) ∷ (24, 15, 24) ∷ (24, 19, 24) ∷
    (24, 23, 24) ∷ []) ++
    ceiling_words 1
    ((0, 65535) ∷ (1, 65535) ∷ (2, 65535) ∷ (3, 65535) ∷ (4, 65535) ∷ (5, 65535) ∷ (6, 65535) ∷ (7, 65535) ∷ (8, 0) ∷
    [])

unfoldable pub wrong_counts_listing : List ℕ
wrong_counts_listing =
    (8 ∷ 0 ∷ 8 ∷ 16 ∷ []) ++
    (50 ∷ 51 ∷ 50 ∷ 51 ∷ 50 ∷ 51 ∷ 50 ∷ 51 ∷ 50 ∷ 51 ∷ 50 ∷ 51 ∷ 50 ∷ 51 ∷ 50 ∷ 51 ∷ []) ++
    (0 ∷ 3 ∷ 0 ∷ 4 ∷ 1 ∷ 0 ∷ 2 ∷ 0 ∷ 3 ∷ 6 ∷ 4 ∷ 7 ∷ 5 ∷ 1 ∷ 6 ∷ 2 ∷ [])

-- A call that may go to two functions, each of which gives back to it.
--     constructors a/0, b/0.
--     function f() -> a.
--     function g() -> b.
--     function apply(F) -> X = F(), X.
--     start ->
--         apply(f),
--         apply(g).
--     bad none: start holds a >= 1.
unfoldable pub two_callees_program : List ℕ
two_callees_program =
    program_words 9 2 3
    ((10, 0) ∷ (10, 0) ∷ (11, 0) ∷ (22, 0) ∷ (2, 1) ∷ (20, 0) ∷ (1, 1) ∷ (11, 2) ∷ (22, 0) ∷ (2, 3) ∷ (20, 1) ∷
    (1, 3) ∷ (11, 4) ∷ (22, 1) ∷ (23, 5) ∷ (4, 6) ∷ (21, 5) ∷ (22, 0) ∷ (1, 6) ∷ (4, 7) ∷ (21, 4) ∷ (22, 1) ∷
    (21, 0) ∷ (4, 8) ∷ (21, 4) ∷ (22, 1) ∷ (21, 2) ∷ (1, 8) ∷ [])

unfoldable pub two_callees_words : List ℕ
two_callees_words =
    two_callees_program ++
    bad_words 1
    ((40, 28) ∷ (42, 0) ∷ (43, 1) ∷ (44, 0) ∷ []) ++
    table_words
    ((0, 2) ∷ (1, 4) ∷ (2, 7) ∷ (3, 9) ∷ (4, 12) ∷ (5, 2) ∷ (5, 7) ∷ (6, 4) ∷ (6, 9) ∷ (7, 4) ∷ (7, 9) ∷ (8, 4) ∷
    (8, 9) ∷ [])
    []
    ((28, 4, 15) ∷ (28, 6, 15) ∷ (28, 9, 15) ∷ (28, 11, 15) ∷ (28, 15, 19) ∷ (28, 15, 23) ∷ (28, 18, 19) ∷
    (28, 18, 23) ∷ (28, 19, 28) ∷ (28, 23, 28) ∷ (28, 27, 28) ∷ []) ++
    ceiling_words 1
    ((0, 65535) ∷ (1, 65535) ∷ (2, 65535) ∷ (3, 65535) ∷ (4, 65535) ∷ (5, 65535) ∷ (6, 65535) ∷ (7, 65535) ∷
    (8, 65535) ∷ (9, 65535) ∷ (10, 65535) ∷ (11, 0) ∷ [])

unfoldable pub two_callees_listing : List ℕ
two_callees_listing =
    (11 ∷ 0 ∷ 14 ∷ 28 ∷ []) ++
    (50 ∷ 51 ∷ 50 ∷ 51 ∷ 50 ∷ 51 ∷ 50 ∷ 51 ∷ 50 ∷ 51 ∷ 50 ∷ 51 ∷ 50 ∷ 51 ∷ 50 ∷ 51 ∷ 50 ∷ 51 ∷ 50 ∷ 51 ∷ 50 ∷ 51 ∷
    50 ∷ 51 ∷ 50 ∷ 51 ∷ 50 ∷ 51 ∷ []) ++
    (0 ∷ 1 ∷ 1 ∷ 6 ∷ 1 ∷ 7 ∷ 2 ∷ 3 ∷ 3 ∷ 6 ∷ 3 ∷ 7 ∷ 4 ∷ 0 ∷ 4 ∷ 2 ∷ 5 ∷ 0 ∷ 5 ∷ 2 ∷ 6 ∷ 9 ∷ 7 ∷ 10 ∷ 8 ∷ 4 ∷ 9 ∷ 5 ∷
    [])

-- A spawn that may start two functions.
--     constructors a/0.
--     function f() -> a.
--     function g() -> f.
--     function new(F) -> P = spawn(F), P.
--     start ->
--         new(f),
--         new(g).
--     bad none: start holds a >= 1.
unfoldable pub two_spawned_program : List ℕ
two_spawned_program =
    program_words 8 1 3
    ((10, 0) ∷ (11, 0) ∷ (22, 0) ∷ (2, 1) ∷ (20, 0) ∷ (1, 1) ∷ (11, 2) ∷ (22, 0) ∷ (1, 0) ∷ (11, 3) ∷ (22, 1) ∷
    (23, 4) ∷ (6, 5) ∷ (21, 4) ∷ (1, 5) ∷ (4, 6) ∷ (21, 3) ∷ (22, 1) ∷ (21, 0) ∷ (4, 7) ∷ (21, 3) ∷ (22, 1) ∷
    (21, 2) ∷ (1, 7) ∷ [])

unfoldable pub two_spawned_words : List ℕ
two_spawned_words =
    two_spawned_program ++
    bad_words 1
    ((40, 24) ∷ (42, 0) ∷ (43, 1) ∷ (44, 0) ∷ []) ++
    table_words
    ((0, 1) ∷ (1, 3) ∷ (2, 6) ∷ (3, 9) ∷ (4, 1) ∷ (4, 6) ∷ (5, 12) ∷ (6, 12) ∷ (7, 12) ∷ [])
    []
    ((12, 3, 24) ∷ (12, 5, 24) ∷ (12, 8, 24) ∷ (24, 12, 15) ∷ (24, 12, 19) ∷ (24, 14, 15) ∷ (24, 14, 19) ∷
    (24, 15, 24) ∷ (24, 19, 24) ∷ (24, 23, 24) ∷ []) ++
    ceiling_words 1
    ((0, 65535) ∷ (1, 65535) ∷ (2, 65535) ∷ (3, 65535) ∷ (4, 65535) ∷ (5, 65535) ∷ (6, 65535) ∷ (7, 65535) ∷
    (8, 65535) ∷ (9, 65535) ∷ (10, 0) ∷ [])

unfoldable pub two_spawned_listing : List ℕ
two_spawned_listing =
    (10 ∷ 0 ∷ 9 ∷ 22 ∷ []) ++
    (50 ∷ 51 ∷ 50 ∷ 51 ∷ 54 ∷ 50 ∷ 51 ∷ 54 ∷ 50 ∷ 51 ∷ 54 ∷ 50 ∷ 51 ∷ 54 ∷ 50 ∷ 51 ∷ 50 ∷ 51 ∷ 50 ∷ 51 ∷ 50 ∷ 51 ∷ [])
    ++
    (0 ∷ 1 ∷ 3 ∷ 5 ∷ 0 ∷ 3 ∷ 5 ∷ 2 ∷ 4 ∷ 6 ∷ 0 ∷ 4 ∷ 6 ∷ 2 ∷ 5 ∷ 8 ∷ 6 ∷ 9 ∷ 7 ∷ 3 ∷ 8 ∷ 4 ∷ [])

-- f() = f; P = spawn(f); P. The spawn's name is word 13.
unfoldable pub spawned_name_program : List ℕ
spawned_name_program =
    program_words 2 0 1
    ((11, 0) ∷ (22, 0) ∷ (1, 0) ∷ (6, 1) ∷ (21, 0) ∷ (1, 1) ∷ [])

unfoldable pub spawned_name_words : List ℕ
spawned_name_words =
    spawned_name_program ++
    bad_words 1
    ((40, 6) ∷ (41, 3) ∷ (43, 2) ∷ (44, 0) ∷ []) ++
    table_words
    ((0, 0) ∷ (1, 3) ∷ [])
    []
    ((3, 2, 6) ∷ (6, 3, 6) ∷ (6, 5, 6) ∷ []) ++
    ceiling_words 2
    ((1, 1) ∷ (3, 0) ∷ (0, 1) ∷ (2, 1) ∷ (3, 0) ∷ [])

unfoldable pub spawned_name_listing : List ℕ
spawned_name_listing =
    (3 ∷ 0 ∷ 1 ∷ 3 ∷ []) ++
    (50 ∷ 51 ∷ 54 ∷ []) ++
    (1 ∷ 2 ∷ 0 ∷ [])

-- A case of which two branches may match one value, and a third may not.
--     constructors a/0, b/0.
--     start ->
--         A = a,
--         case A of
--             a -> A;
--             b -> A;
--             X -> X
--         end.
--     bad none: start holds a >= 1.
unfoldable pub two_branches_program : List ℕ
two_branches_program =
    program_words 2 2 0
    ((10, 0) ∷ (10, 0) ∷ (2, 0) ∷ (20, 0) ∷ (8, 0) ∷ (25, 3) ∷ (31, 0) ∷ (1, 0) ∷ (31, 1) ∷ (1, 0) ∷ (30, 1) ∷
    (1, 1) ∷ [])

unfoldable pub two_branches_words : List ℕ
two_branches_words =
    two_branches_program ++
    bad_words 1
    ((40, 12) ∷ (42, 0) ∷ (43, 1) ∷ (44, 0) ∷ []) ++
    table_words
    ((0, 2) ∷ (1, 2) ∷ [])
    []
    ((12, 2, 12) ∷ (12, 4, 12) ∷ (12, 7, 12) ∷ (12, 11, 12) ∷ []) ++
    ceiling_words 1
    ((0, 65535) ∷ (1, 65535) ∷ (2, 65535) ∷ (3, 65535) ∷ (4, 0) ∷ [])

unfoldable pub two_branches_listing : List ℕ
two_branches_listing =
    (4 ∷ 0 ∷ 3 ∷ 6 ∷ []) ++
    (50 ∷ 51 ∷ 50 ∷ 51 ∷ 50 ∷ 51 ∷ []) ++
    (0 ∷ 1 ∷ 1 ∷ 2 ∷ 1 ∷ 3 ∷ [])

-- A send of what may be two letters.
--     constructors a/0, b/0.
--     function send(To, X) -> To ! X.
--     start ->
--         Me = self(),
--         B = b,
--         A = a,
--         send(Me, B),
--         send(Me, A),
--         receive b -> Me; X -> X end.
--     bad none: start holds function >= 1.
unfoldable pub two_letters_program : List ℕ
two_letters_program =
    program_words 10 2 1
    ((10, 0) ∷ (10, 0) ∷ (11, 0) ∷ (22, 2) ∷ (23, 1) ∷ (23, 2) ∷ (5, 3) ∷ (21, 1) ∷ (21, 2) ∷ (1, 3) ∷ (7, 4) ∷
    (2, 5) ∷ (20, 1) ∷ (2, 6) ∷ (20, 0) ∷ (4, 7) ∷ (21, 0) ∷ (22, 2) ∷ (21, 4) ∷ (21, 5) ∷ (4, 8) ∷ (21, 0) ∷
    (22, 2) ∷ (21, 4) ∷ (21, 6) ∷ (9, 2) ∷ (31, 1) ∷ (1, 4) ∷ (30, 9) ∷ (1, 9) ∷ [])

unfoldable pub two_letters_words : List ℕ
two_letters_words =
    two_letters_program ++
    bad_words 1
    ((40, 30) ∷ (42, 2) ∷ (43, 1) ∷ (44, 0) ∷ []) ++
    table_words
    ((0, 2) ∷ (1, 30) ∷ (2, 11) ∷ (2, 13) ∷ (3, 11) ∷ (3, 13) ∷ (4, 30) ∷ (5, 11) ∷ (6, 13) ∷ (7, 11) ∷ (7, 13) ∷
    (8, 11) ∷ (8, 13) ∷ (9, 11) ∷ (9, 13) ∷ [])
    ((30, 11) ∷ (30, 13) ∷ [])
    ((30, 6, 15) ∷ (30, 6, 20) ∷ (30, 9, 15) ∷ (30, 9, 20) ∷ (30, 10, 30) ∷ (30, 11, 30) ∷ (30, 13, 30) ∷
    (30, 15, 30) ∷ (30, 20, 30) ∷ (30, 25, 30) ∷ (30, 27, 30) ∷ (30, 29, 30) ∷ []) ++
    ceiling_words 1
    ((0, 65535) ∷ (1, 65535) ∷ (2, 65535) ∷ (3, 65535) ∷ (4, 65535) ∷ (5, 65535) ∷ (6, 65535) ∷ (7, 65535) ∷
    (8, 65535) ∷ (9, 65535) ∷ (10, 65535) ∷ (11, 65535) ∷ (12, 65535) ∷ (13, 65535) ∷ (14, 0) ∷ [])

unfoldable pub two_letters_listing : List ℕ
two_letters_listing =
    (12 ∷ 2 ∷ 14 ∷ 35 ∷ []) ++
    (50 ∷ 51 ∷ 53 ∷ 50 ∷ 51 ∷ 53 ∷ 50 ∷ 51 ∷ 53 ∷ 50 ∷ 51 ∷ 53 ∷ 50 ∷ 51 ∷ 50 ∷ 51 ∷ 50 ∷ 51 ∷ 50 ∷ 51 ∷ 50 ∷ 51 ∷
    50 ∷ 51 ∷ 50 ∷ 51 ∷ 50 ∷ 51 ∷ 52 ∷ 50 ∷ 51 ∷ 52 ∷ 50 ∷ 51 ∷ 52 ∷ []) ++
    (0 ∷ 2 ∷ 12 ∷ 0 ∷ 2 ∷ 13 ∷ 1 ∷ 3 ∷ 12 ∷ 1 ∷ 3 ∷ 13 ∷ 2 ∷ 8 ∷ 3 ∷ 9 ∷ 4 ∷ 5 ∷ 5 ∷ 6 ∷ 6 ∷ 7 ∷ 7 ∷ 0 ∷ 8 ∷ 1 ∷ 9 ∷
    10 ∷ 13 ∷ 9 ∷ 11 ∷ 12 ∷ 9 ∷ 11 ∷ 13 ∷ [])

-- A send that may go to two classes with two letters.
--     constructors a/0, b/0.
--     function idle() -> receive X -> X end.
--     function send(To, Y) -> To ! Y.
--     start ->
--         Me = self(),
--         P = spawn(idle),
--         B = b,
--         A = a,
--         send(P, B),
--         send(Me, A).
--     bad none: start holds function >= 1.
unfoldable pub classes_then_letters_program : List ℕ
classes_then_letters_program =
    program_words 12 2 2
    ((10, 0) ∷ (10, 0) ∷ (11, 0) ∷ (22, 0) ∷ (9, 1) ∷ (30, 1) ∷ (1, 1) ∷ (11, 2) ∷ (22, 2) ∷ (23, 3) ∷ (23, 4) ∷
    (5, 5) ∷ (21, 3) ∷ (21, 4) ∷ (1, 5) ∷ (7, 6) ∷ (6, 7) ∷ (21, 0) ∷ (2, 8) ∷ (20, 1) ∷ (2, 9) ∷ (20, 0) ∷ (4, 10) ∷
    (21, 2) ∷ (22, 2) ∷ (21, 7) ∷ (21, 8) ∷ (4, 11) ∷ (21, 2) ∷ (22, 2) ∷ (21, 6) ∷ (21, 9) ∷ (1, 11) ∷ [])

unfoldable pub classes_then_letters_words : List ℕ
classes_then_letters_words =
    classes_then_letters_program ++
    bad_words 1
    ((40, 33) ∷ (42, 2) ∷ (43, 1) ∷ (44, 0) ∷ []) ++
    table_words
    ((0, 2) ∷ (1, 18) ∷ (1, 20) ∷ (2, 7) ∷ (3, 16) ∷ (3, 33) ∷ (4, 18) ∷ (4, 20) ∷ (5, 18) ∷ (5, 20) ∷ (6, 33) ∷
    (7, 16) ∷ (8, 18) ∷ (9, 20) ∷ (10, 18) ∷ (10, 20) ∷ (11, 18) ∷ (11, 20) ∷ [])
    ((16, 18) ∷ (16, 20) ∷ (33, 18) ∷ (33, 20) ∷ [])
    ((16, 4, 33) ∷ (16, 6, 33) ∷ (33, 11, 22) ∷ (33, 11, 27) ∷ (33, 14, 22) ∷ (33, 14, 27) ∷ (33, 15, 33) ∷
    (33, 16, 33) ∷ (33, 18, 33) ∷ (33, 20, 33) ∷ (33, 22, 33) ∷ (33, 27, 33) ∷ (33, 32, 33) ∷ []) ++
    ceiling_words 1
    ((0, 65535) ∷ (1, 65535) ∷ (2, 65535) ∷ (3, 65535) ∷ (4, 65535) ∷ (5, 65535) ∷ (6, 65535) ∷ (7, 65535) ∷
    (8, 65535) ∷ (9, 65535) ∷ (10, 65535) ∷ (11, 65535) ∷ (12, 65535) ∷ (13, 65535) ∷ (14, 65535) ∷ (15, 65535) ∷
    (16, 65535) ∷ (17, 0) ∷ [])

unfoldable pub classes_then_letters_listing : List ℕ
classes_then_letters_listing =
    (13 ∷ 4 ∷ 18 ∷ 47 ∷ []) ++
    (50 ∷ 51 ∷ 52 ∷ 50 ∷ 51 ∷ 52 ∷ 50 ∷ 51 ∷ 53 ∷ 50 ∷ 51 ∷ 53 ∷ 50 ∷ 51 ∷ 53 ∷ 50 ∷ 51 ∷ 53 ∷ 50 ∷ 51 ∷ 53 ∷ 50 ∷
    51 ∷ 53 ∷ 50 ∷ 51 ∷ 53 ∷ 50 ∷ 51 ∷ 53 ∷ 50 ∷ 51 ∷ 50 ∷ 51 ∷ 50 ∷ 51 ∷ 50 ∷ 51 ∷ 54 ∷ 50 ∷ 51 ∷ 50 ∷ 51 ∷ 50 ∷ 51 ∷
    50 ∷ 51 ∷ []) ++
    (0 ∷ 1 ∷ 13 ∷ 0 ∷ 1 ∷ 14 ∷ 2 ∷ 4 ∷ 13 ∷ 2 ∷ 4 ∷ 14 ∷ 2 ∷ 4 ∷ 15 ∷ 2 ∷ 4 ∷ 16 ∷ 3 ∷ 5 ∷ 13 ∷ 3 ∷ 5 ∷ 14 ∷ 3 ∷ 5 ∷
    15 ∷ 3 ∷ 5 ∷ 16 ∷ 4 ∷ 11 ∷ 5 ∷ 12 ∷ 6 ∷ 7 ∷ 7 ∷ 8 ∷ 0 ∷ 8 ∷ 9 ∷ 9 ∷ 10 ∷ 10 ∷ 2 ∷ 11 ∷ 3 ∷ [])

-- A send of what may be two values of one letter.
--     constructors a/0, b/0.
--     function send(To, X) -> To ! X.
--     start ->
--         Me = self(),
--         A = a,
--         B = a,
--         send(Me, A),
--         send(Me, B),
--         receive X -> X end.
--     bad none: start holds b >= 1.
unfoldable pub one_letter_program : List ℕ
one_letter_program =
    program_words 10 2 1
    ((10, 0) ∷ (10, 0) ∷ (11, 0) ∷ (22, 2) ∷ (23, 1) ∷ (23, 2) ∷ (5, 3) ∷ (21, 1) ∷ (21, 2) ∷ (1, 3) ∷ (7, 4) ∷
    (2, 5) ∷ (20, 0) ∷ (2, 6) ∷ (20, 0) ∷ (4, 7) ∷ (21, 0) ∷ (22, 2) ∷ (21, 4) ∷ (21, 5) ∷ (4, 8) ∷ (21, 0) ∷
    (22, 2) ∷ (21, 4) ∷ (21, 6) ∷ (9, 1) ∷ (30, 9) ∷ (1, 9) ∷ [])

unfoldable pub one_letter_words : List ℕ
one_letter_words =
    one_letter_program ++
    bad_words 1
    ((40, 28) ∷ (42, 1) ∷ (43, 1) ∷ (44, 0) ∷ []) ++
    table_words
    ((0, 2) ∷ (1, 28) ∷ (2, 11) ∷ (2, 13) ∷ (3, 11) ∷ (3, 13) ∷ (4, 28) ∷ (5, 11) ∷ (6, 13) ∷ (7, 11) ∷ (7, 13) ∷
    (8, 11) ∷ (8, 13) ∷ (9, 11) ∷ (9, 13) ∷ [])
    ((28, 11) ∷ (28, 13) ∷ [])
    ((28, 6, 15) ∷ (28, 6, 20) ∷ (28, 9, 15) ∷ (28, 9, 20) ∷ (28, 10, 28) ∷ (28, 11, 28) ∷ (28, 13, 28) ∷
    (28, 15, 28) ∷ (28, 20, 28) ∷ (28, 25, 28) ∷ (28, 27, 28) ∷ []) ++
    ceiling_words 1
    ((0, 65535) ∷ (1, 65535) ∷ (2, 65535) ∷ (3, 65535) ∷ (4, 65535) ∷ (5, 65535) ∷ (6, 65535) ∷ (7, 65535) ∷
    (8, 65535) ∷ (9, 65535) ∷ (10, 65535) ∷ (11, 65535) ∷ (12, 0) ∷ [])

unfoldable pub one_letter_listing : List ℕ
one_letter_listing =
    (11 ∷ 1 ∷ 10 ∷ 23 ∷ []) ++
    (50 ∷ 51 ∷ 53 ∷ 50 ∷ 51 ∷ 53 ∷ 50 ∷ 51 ∷ 50 ∷ 51 ∷ 50 ∷ 51 ∷ 50 ∷ 51 ∷ 50 ∷ 51 ∷ 50 ∷ 51 ∷ 50 ∷ 51 ∷ 50 ∷ 51 ∷
    52 ∷ []) ++
    (0 ∷ 2 ∷ 11 ∷ 1 ∷ 3 ∷ 11 ∷ 2 ∷ 8 ∷ 3 ∷ 9 ∷ 4 ∷ 5 ∷ 5 ∷ 6 ∷ 6 ∷ 7 ∷ 7 ∷ 0 ∷ 8 ∷ 1 ∷ 9 ∷ 10 ∷ 11 ∷ [])

-- Letter counters by class first: the spawned process is sent a b, the starting one, whose class is higher, an a.
--     constructors a/0, b/0.
--     function child() -> receive X -> X end.
--     start ->
--         Me = self(),
--         P = spawn(child),
--         P ! b,
--         Me ! a.
--     bad none: start holds b >= 1.
unfoldable pub class_before_letter_program : List ℕ
class_before_letter_program =
    program_words 8 2 1
    ((10, 0) ∷ (10, 0) ∷ (11, 0) ∷ (22, 0) ∷ (9, 1) ∷ (30, 1) ∷ (1, 1) ∷ (7, 2) ∷ (6, 3) ∷ (21, 0) ∷ (2, 4) ∷
    (20, 1) ∷ (5, 5) ∷ (21, 3) ∷ (21, 4) ∷ (2, 6) ∷ (20, 0) ∷ (5, 7) ∷ (21, 2) ∷ (21, 6) ∷ (1, 7) ∷ [])

unfoldable pub class_before_letter_words : List ℕ
class_before_letter_words =
    class_before_letter_program ++
    bad_words 1
    ((40, 21) ∷ (42, 1) ∷ (43, 1) ∷ (44, 0) ∷ []) ++
    table_words
    ((0, 2) ∷ (1, 10) ∷ (2, 21) ∷ (3, 8) ∷ (4, 10) ∷ (5, 10) ∷ (6, 15) ∷ (7, 15) ∷ [])
    ((8, 10) ∷ (21, 15) ∷ [])
    ((8, 4, 21) ∷ (8, 6, 21) ∷ (21, 7, 21) ∷ (21, 8, 21) ∷ (21, 10, 21) ∷ (21, 12, 21) ∷ (21, 15, 21) ∷ (21, 17, 21) ∷
    (21, 20, 21) ∷ []) ++
    ceiling_words 1
    ((0, 65535) ∷ (1, 65535) ∷ (2, 65535) ∷ (3, 65535) ∷ (4, 65535) ∷ (5, 65535) ∷ (6, 65535) ∷ (7, 65535) ∷
    (8, 65535) ∷ (9, 65535) ∷ (10, 65535) ∷ (11, 0) ∷ [])

unfoldable pub class_before_letter_listing : List ℕ
class_before_letter_listing =
    (9 ∷ 2 ∷ 7 ∷ 18 ∷ []) ++
    (50 ∷ 51 ∷ 52 ∷ 50 ∷ 51 ∷ 50 ∷ 51 ∷ 54 ∷ 50 ∷ 51 ∷ 50 ∷ 51 ∷ 53 ∷ 50 ∷ 51 ∷ 50 ∷ 51 ∷ 53 ∷ []) ++
    (0 ∷ 1 ∷ 9 ∷ 2 ∷ 3 ∷ 3 ∷ 4 ∷ 0 ∷ 4 ∷ 5 ∷ 5 ∷ 6 ∷ 9 ∷ 6 ∷ 7 ∷ 7 ∷ 8 ∷ 10 ∷ [])

-- Tag 11 names that are read in rows before their own.
--     constructors a/0.
--     function first() -> second().
--     function second() -> third.
--     function third() -> a.
--     start ->
--         F = first(),
--         F().
--     bad none: start holds a >= 1.
unfoldable pub read_before_program : List ℕ
read_before_program =
    program_words 7 1 3
    ((10, 0) ∷ (11, 0) ∷ (22, 0) ∷ (4, 1) ∷ (21, 2) ∷ (22, 0) ∷ (1, 1) ∷ (11, 2) ∷ (22, 0) ∷ (1, 3) ∷ (11, 3) ∷
    (22, 0) ∷ (2, 4) ∷ (20, 0) ∷ (1, 4) ∷ (4, 5) ∷ (21, 0) ∷ (22, 0) ∷ (4, 6) ∷ (21, 5) ∷ (22, 0) ∷ (1, 6) ∷ [])

unfoldable pub read_before_words : List ℕ
read_before_words =
    read_before_program ++
    bad_words 1
    ((40, 22) ∷ (42, 0) ∷ (43, 1) ∷ (44, 0) ∷ []) ++
    table_words
    ((0, 1) ∷ (1, 10) ∷ (2, 7) ∷ (3, 10) ∷ (4, 12) ∷ (5, 10) ∷ (6, 12) ∷ [])
    []
    ((22, 3, 15) ∷ (22, 6, 15) ∷ (22, 9, 3) ∷ (22, 12, 18) ∷ (22, 14, 18) ∷ (22, 15, 22) ∷ (22, 18, 22) ∷
    (22, 21, 22) ∷ []) ++
    ceiling_words 1
    ((0, 65535) ∷ (1, 65535) ∷ (2, 65535) ∷ (3, 65535) ∷ (4, 65535) ∷ (5, 65535) ∷ (6, 65535) ∷ (7, 65535) ∷ (8, 0) ∷
    [])

unfoldable pub read_before_listing : List ℕ
read_before_listing =
    (8 ∷ 0 ∷ 7 ∷ 14 ∷ []) ++
    (50 ∷ 51 ∷ 50 ∷ 51 ∷ 50 ∷ 51 ∷ 50 ∷ 51 ∷ 50 ∷ 51 ∷ 50 ∷ 51 ∷ 50 ∷ 51 ∷ []) ++
    (0 ∷ 2 ∷ 1 ∷ 6 ∷ 2 ∷ 1 ∷ 3 ∷ 4 ∷ 4 ∷ 7 ∷ 5 ∷ 0 ∷ 6 ∷ 3 ∷ [])

-- A receive of a constructor with two arguments, after self (name 0); the branch's pattern stands in rows 3 to 5.
unfoldable pub held_scope_program : List ℕ
held_scope_program =
    program_words 2 1 0
    ((10, 2) ∷ (7, 0) ∷ (9, 1) ∷ (31, 0) ∷ (30, 1) ∷ (33, 0) ∷ (1, 0) ∷ [])

unfoldable pub held_scope_words : List ℕ
held_scope_words =
    held_scope_program ++
    bad_words 1
    ((40, 7) ∷ (42, 0) ∷ (43, 1) ∷ (44, 0) ∷ []) ++
    table_words
    []
    []
    [] ++
    ceiling_words 0
    []

-- A held name at the fourth level of a pattern.
unfoldable pub held_depth_program : List ℕ
held_depth_program =
    program_words 1 1 0
    ((10, 1) ∷ (7, 0) ∷ (9, 1) ∷ (31, 0) ∷ (31, 0) ∷ (31, 0) ∷ (33, 0) ∷ (1, 0) ∷ [])

unfoldable pub held_depth_words : List ℕ
held_depth_words =
    held_depth_program ++
    bad_words 1
    ((40, 8) ∷ (42, 0) ∷ (43, 1) ∷ (44, 0) ∷ []) ++
    table_words
    []
    []
    [] ++
    ceiling_words 0
    []

-- A held name at the fifth level.
unfoldable pub held_too_deep_program : List ℕ
held_too_deep_program =
    program_words 1 1 0
    ((10, 1) ∷ (7, 0) ∷ (9, 1) ∷ (31, 0) ∷ (31, 0) ∷ (31, 0) ∷ (31, 0) ∷ (33, 0) ∷ (1, 0) ∷ [])

unfoldable pub held_too_deep_words : List ℕ
held_too_deep_words =
    held_too_deep_program ++
    bad_words 1
    ((40, 9) ∷ (42, 0) ∷ (43, 1) ∷ (44, 0) ∷ []) ++
    table_words
    []
    []
    [] ++
    ceiling_words 0
    []

-- May match goes by the same class, or by build rows of one constructor.
--     constructors a/0, b/0, from/2.
--     function idle() -> receive X -> X end.
--     start ->
--         Me = self(),
--         P = spawn(idle),
--         Q = spawn(idle),
--         A = a,
--         case P of
--             ^Q -> A;
--             ^A -> A;
--             ^idle -> A;
--             ^P -> case a of ^A -> P; _ -> Q end
--         end.
--     bad none: start holds b >= 1.
unfoldable pub held_classes_program : List ℕ
held_classes_program =
    program_words 7 3 1
    ((10, 0) ∷ (10, 0) ∷ (10, 2) ∷ (11, 0) ∷ (22, 0) ∷ (9, 1) ∷ (30, 1) ∷ (1, 1) ∷ (7, 2) ∷ (6, 3) ∷ (21, 0) ∷
    (6, 4) ∷ (21, 0) ∷ (2, 5) ∷ (20, 0) ∷ (8, 3) ∷ (25, 4) ∷ (33, 4) ∷ (1, 5) ∷ (33, 5) ∷ (1, 5) ∷ (33, 0) ∷ (1, 5) ∷
    (33, 3) ∷ (2, 6) ∷ (20, 0) ∷ (8, 6) ∷ (25, 2) ∷ (33, 5) ∷ (1, 3) ∷ (32, 0) ∷ (1, 4) ∷ [])

unfoldable pub held_classes_words : List ℕ
held_classes_words =
    held_classes_program ++
    bad_words 1
    ((40, 32) ∷ (42, 1) ∷ (43, 1) ∷ (44, 0) ∷ []) ++
    table_words
    ((0, 3) ∷ (2, 32) ∷ (3, 9) ∷ (4, 11) ∷ (5, 13) ∷ (6, 24) ∷ [])
    []
    ((9, 5, 32) ∷ (11, 5, 32) ∷ (32, 8, 32) ∷ (32, 9, 32) ∷ (32, 11, 32) ∷ (32, 13, 32) ∷ (32, 15, 32) ∷
    (32, 24, 32) ∷ (32, 26, 32) ∷ (32, 29, 32) ∷ (32, 31, 32) ∷ []) ++
    ceiling_words 1
    ((0, 65535) ∷ (1, 65535) ∷ (2, 65535) ∷ (3, 65535) ∷ (4, 65535) ∷ (5, 65535) ∷ (6, 65535) ∷ (7, 65535) ∷
    (8, 65535) ∷ (9, 65535) ∷ (10, 65535) ∷ (11, 0) ∷ [])

unfoldable pub held_classes_listing : List ℕ
held_classes_listing =
    (11 ∷ 0 ∷ 8 ∷ 18 ∷ []) ++
    (50 ∷ 51 ∷ 50 ∷ 51 ∷ 54 ∷ 50 ∷ 51 ∷ 54 ∷ 50 ∷ 51 ∷ 50 ∷ 51 ∷ 50 ∷ 51 ∷ 50 ∷ 51 ∷ 50 ∷ 51 ∷ []) ++
    (2 ∷ 3 ∷ 3 ∷ 4 ∷ 0 ∷ 4 ∷ 5 ∷ 1 ∷ 5 ∷ 6 ∷ 6 ∷ 7 ∷ 7 ∷ 8 ∷ 8 ∷ 9 ∷ 8 ∷ 10 ∷ [])

-- Arguments are not compared: by rows alone two boxes may be equal.
--     constructors a/0, b/0, box/1, none/0.
--     function send(To, X) -> To ! X.
--     start ->
--         Me = self(),
--         A = a,
--         B = b,
--         C = box(A),
--         D = box(B),
--         send(Me, C),
--         send(Me, A),
--         receive ^D -> Me; box(^B) -> Me; ^B -> Me; X -> X end.
--     bad none: start holds none >= 1.
unfoldable pub held_arguments_program : List ℕ
held_arguments_program =
    program_words 12 4 1
    ((10, 0) ∷ (10, 0) ∷ (10, 1) ∷ (10, 0) ∷ (11, 0) ∷ (22, 2) ∷ (23, 1) ∷ (23, 2) ∷ (5, 3) ∷ (21, 1) ∷ (21, 2) ∷
    (1, 3) ∷ (7, 4) ∷ (2, 5) ∷ (20, 0) ∷ (2, 6) ∷ (20, 1) ∷ (2, 7) ∷ (20, 2) ∷ (21, 5) ∷ (2, 8) ∷ (20, 2) ∷ (21, 6) ∷
    (4, 9) ∷ (21, 0) ∷ (22, 2) ∷ (21, 4) ∷ (21, 7) ∷ (4, 10) ∷ (21, 0) ∷ (22, 2) ∷ (21, 4) ∷ (21, 5) ∷ (9, 4) ∷
    (33, 8) ∷ (1, 4) ∷ (31, 2) ∷ (33, 6) ∷ (1, 4) ∷ (33, 6) ∷ (1, 4) ∷ (30, 11) ∷ (1, 11) ∷ [])

unfoldable pub held_arguments_words : List ℕ
held_arguments_words =
    held_arguments_program ++
    bad_words 1
    ((40, 43) ∷ (42, 3) ∷ (43, 1) ∷ (44, 0) ∷ []) ++
    table_words
    ((0, 4) ∷ (1, 43) ∷ (2, 13) ∷ (2, 17) ∷ (3, 13) ∷ (3, 17) ∷ (4, 43) ∷ (5, 13) ∷ (6, 15) ∷ (7, 17) ∷ (8, 20) ∷
    (9, 13) ∷ (9, 17) ∷ (10, 13) ∷ (10, 17) ∷ (11, 13) ∷ (11, 17) ∷ [])
    ((43, 13) ∷ (43, 17) ∷ [])
    ((43, 8, 23) ∷ (43, 8, 28) ∷ (43, 11, 23) ∷ (43, 11, 28) ∷ (43, 12, 43) ∷ (43, 13, 43) ∷ (43, 15, 43) ∷
    (43, 17, 43) ∷ (43, 20, 43) ∷ (43, 23, 43) ∷ (43, 28, 43) ∷ (43, 33, 43) ∷ (43, 35, 43) ∷ (43, 42, 43) ∷ []) ++
    ceiling_words 1
    ((0, 65535) ∷ (1, 65535) ∷ (2, 65535) ∷ (3, 65535) ∷ (4, 65535) ∷ (5, 65535) ∷ (6, 65535) ∷ (7, 65535) ∷
    (8, 65535) ∷ (9, 65535) ∷ (10, 65535) ∷ (11, 65535) ∷ (12, 65535) ∷ (13, 65535) ∷ (14, 65535) ∷ (15, 65535) ∷
    (16, 0) ∷ [])

unfoldable pub held_arguments_listing : List ℕ
held_arguments_listing =
    (14 ∷ 2 ∷ 16 ∷ 39 ∷ []) ++
    (50 ∷ 51 ∷ 53 ∷ 50 ∷ 51 ∷ 53 ∷ 50 ∷ 51 ∷ 53 ∷ 50 ∷ 51 ∷ 53 ∷ 50 ∷ 51 ∷ 50 ∷ 51 ∷ 50 ∷ 51 ∷ 50 ∷ 51 ∷ 50 ∷ 51 ∷
    50 ∷ 51 ∷ 50 ∷ 51 ∷ 50 ∷ 51 ∷ 50 ∷ 51 ∷ 50 ∷ 51 ∷ 52 ∷ 50 ∷ 51 ∷ 52 ∷ 50 ∷ 51 ∷ 52 ∷ []) ++
    (0 ∷ 2 ∷ 14 ∷ 0 ∷ 2 ∷ 15 ∷ 1 ∷ 3 ∷ 14 ∷ 1 ∷ 3 ∷ 15 ∷ 2 ∷ 10 ∷ 3 ∷ 11 ∷ 4 ∷ 5 ∷ 5 ∷ 6 ∷ 6 ∷ 7 ∷ 7 ∷ 8 ∷ 8 ∷ 9 ∷ 9 ∷
    0 ∷ 10 ∷ 1 ∷ 11 ∷ 12 ∷ 15 ∷ 11 ∷ 13 ∷ 14 ∷ 11 ∷ 13 ∷ 15 ∷ [])

-- A held name with two values, in the order of their rows an a and a b.
--     constructors a/0, b/0, none/0.
--     function pick(A) -> B = b, case B of ^A -> A; _ -> B end.
--     start ->
--         U = a,
--         V = b,
--         pick(U),
--         pick(V).
--     bad none: start holds none >= 1.
unfoldable pub held_two_values_program : List ℕ
held_two_values_program =
    program_words 7 3 1
    ((10, 0) ∷ (10, 0) ∷ (10, 0) ∷ (11, 0) ∷ (22, 1) ∷ (23, 1) ∷ (2, 2) ∷ (20, 1) ∷ (8, 2) ∷ (25, 2) ∷ (33, 1) ∷
    (1, 1) ∷ (32, 0) ∷ (1, 2) ∷ (2, 3) ∷ (20, 0) ∷ (2, 4) ∷ (20, 1) ∷ (4, 5) ∷ (21, 0) ∷ (22, 1) ∷ (21, 3) ∷ (4, 6) ∷
    (21, 0) ∷ (22, 1) ∷ (21, 4) ∷ (1, 6) ∷ [])

unfoldable pub held_two_values_words : List ℕ
held_two_values_words =
    held_two_values_program ++
    bad_words 1
    ((40, 27) ∷ (42, 2) ∷ (43, 1) ∷ (44, 0) ∷ []) ++
    table_words
    ((0, 3) ∷ (1, 14) ∷ (1, 16) ∷ (2, 6) ∷ (3, 14) ∷ (4, 16) ∷ (5, 6) ∷ (5, 14) ∷ (5, 16) ∷ (6, 6) ∷ (6, 14) ∷
    (6, 16) ∷ [])
    []
    ((27, 6, 18) ∷ (27, 6, 22) ∷ (27, 8, 18) ∷ (27, 8, 22) ∷ (27, 11, 18) ∷ (27, 11, 22) ∷ (27, 13, 18) ∷
    (27, 13, 22) ∷ (27, 14, 27) ∷ (27, 16, 27) ∷ (27, 18, 27) ∷ (27, 22, 27) ∷ (27, 26, 27) ∷ []) ++
    ceiling_words 1
    ((0, 65535) ∷ (1, 65535) ∷ (2, 65535) ∷ (3, 65535) ∷ (4, 65535) ∷ (5, 65535) ∷ (6, 65535) ∷ (7, 65535) ∷
    (8, 65535) ∷ (9, 65535) ∷ (10, 65535) ∷ (11, 65535) ∷ (12, 65535) ∷ (13, 0) ∷ [])

unfoldable pub held_two_values_listing : List ℕ
held_two_values_listing =
    (13 ∷ 0 ∷ 14 ∷ 28 ∷ []) ++
    (50 ∷ 51 ∷ 50 ∷ 51 ∷ 50 ∷ 51 ∷ 50 ∷ 51 ∷ 50 ∷ 51 ∷ 50 ∷ 51 ∷ 50 ∷ 51 ∷ 50 ∷ 51 ∷ 50 ∷ 51 ∷ 50 ∷ 51 ∷ 50 ∷ 51 ∷
    50 ∷ 51 ∷ 50 ∷ 51 ∷ 50 ∷ 51 ∷ []) ++
    (0 ∷ 2 ∷ 1 ∷ 3 ∷ 2 ∷ 4 ∷ 2 ∷ 6 ∷ 3 ∷ 5 ∷ 3 ∷ 7 ∷ 4 ∷ 11 ∷ 5 ∷ 12 ∷ 6 ∷ 11 ∷ 7 ∷ 12 ∷ 8 ∷ 9 ∷ 9 ∷ 10 ∷ 10 ∷ 0 ∷
    11 ∷ 1 ∷ [])

-- A held name as the whole pattern of a receive, and an address in the mailbox.
--     constructors none/0.
--     start ->
--         Me = self(),
--         P = spawn(fun() -> Q = self(), Q end),
--         Me ! P,
--         receive ^Me -> Me; ^P -> P end.
--     bad none: start holds none >= 1.
unfoldable pub held_in_mail_program : List ℕ
held_in_mail_program =
    program_words 5 1 0
    ((10, 0) ∷ (7, 0) ∷ (3, 1) ∷ (22, 0) ∷ (7, 2) ∷ (1, 2) ∷ (6, 3) ∷ (21, 1) ∷ (5, 4) ∷ (21, 0) ∷ (21, 3) ∷ (9, 2) ∷
    (33, 0) ∷ (1, 0) ∷ (33, 3) ∷ (1, 3) ∷ [])

unfoldable pub held_in_mail_words : List ℕ
held_in_mail_words =
    held_in_mail_program ++
    bad_words 1
    ((40, 16) ∷ (42, 0) ∷ (43, 1) ∷ (44, 0) ∷ []) ++
    table_words
    ((0, 16) ∷ (1, 2) ∷ (2, 6) ∷ (3, 6) ∷ (4, 6) ∷ [])
    ((16, 6) ∷ [])
    ((6, 4, 16) ∷ (6, 5, 16) ∷ (16, 1, 16) ∷ (16, 2, 16) ∷ (16, 6, 16) ∷ (16, 8, 16) ∷ (16, 11, 16) ∷ (16, 15, 16) ∷
    []) ++
    ceiling_words 1
    ((0, 65535) ∷ (1, 65535) ∷ (2, 65535) ∷ (3, 65535) ∷ (4, 65535) ∷ (5, 65535) ∷ (6, 65535) ∷ (7, 65535) ∷
    (8, 65535) ∷ (9, 0) ∷ [])

unfoldable pub held_in_mail_listing : List ℕ
held_in_mail_listing =
    (8 ∷ 1 ∷ 6 ∷ 15 ∷ []) ++
    (50 ∷ 51 ∷ 50 ∷ 51 ∷ 50 ∷ 51 ∷ 50 ∷ 51 ∷ 54 ∷ 50 ∷ 51 ∷ 53 ∷ 50 ∷ 51 ∷ 52 ∷ []) ++
    (0 ∷ 1 ∷ 2 ∷ 3 ∷ 3 ∷ 4 ∷ 4 ∷ 5 ∷ 0 ∷ 5 ∷ 6 ∷ 8 ∷ 6 ∷ 7 ∷ 8 ∷ [])

-- A function of tag 3 is sent.
--     constructors a/0.
--     start ->
--         Me = self(),
--         Me ! fun() -> Me end,
--         Me.
--     bad none: start holds a >= 1.
unfoldable pub mailed_function_program : List ℕ
mailed_function_program =
    program_words 3 1 0
    ((10, 0) ∷ (7, 0) ∷ (3, 1) ∷ (22, 0) ∷ (1, 0) ∷ (5, 2) ∷ (21, 0) ∷ (21, 1) ∷ (1, 0) ∷ [])

unfoldable pub mailed_function_words : List ℕ
mailed_function_words =
    mailed_function_program ++
    bad_words 1
    ((40, 9) ∷ (42, 0) ∷ (43, 1) ∷ (44, 0) ∷ []) ++
    table_words
    ((0, 9) ∷ (1, 2) ∷ (2, 2) ∷ [])
    ((9, 2) ∷ [])
    ((9, 1, 9) ∷ (9, 2, 9) ∷ (9, 5, 9) ∷ (9, 8, 9) ∷ []) ++
    ceiling_words 0
    []

-- A function of tag 11 is sent.
--     constructors a/0.
--     function f() -> f.
--     start ->
--         Me = self(),
--         Me ! f,
--         Me.
--     bad function: start holds function >= 1.
unfoldable pub mailed_front_program : List ℕ
mailed_front_program =
    program_words 3 1 1
    ((10, 0) ∷ (11, 0) ∷ (22, 0) ∷ (1, 0) ∷ (7, 1) ∷ (5, 2) ∷ (21, 1) ∷ (21, 0) ∷ (1, 1) ∷ [])

unfoldable pub mailed_front_words : List ℕ
mailed_front_words =
    mailed_front_program ++
    bad_words 1
    ((40, 9) ∷ (42, 1) ∷ (43, 1) ∷ (44, 0) ∷ []) ++
    table_words
    ((0, 1) ∷ (1, 9) ∷ (2, 1) ∷ [])
    ((9, 1) ∷ [])
    ((9, 4, 9) ∷ (9, 5, 9) ∷ (9, 8, 9) ∷ []) ++
    ceiling_words 0
    []

-- A function inside a constructor is sent, taken out and called.
--     constructors box/1.
--     function f() -> f.
--     start ->
--         Me = self(),
--         Me ! box(f),
--         receive box(F) -> F() end.
--     bad function: start holds function >= 1.
unfoldable pub mailed_inside_program : List ℕ
mailed_inside_program =
    program_words 6 1 1
    ((10, 1) ∷ (11, 0) ∷ (22, 0) ∷ (1, 0) ∷ (7, 1) ∷ (2, 2) ∷ (20, 0) ∷ (21, 0) ∷ (5, 3) ∷ (21, 1) ∷ (21, 2) ∷
    (9, 1) ∷ (31, 0) ∷ (30, 4) ∷ (4, 5) ∷ (21, 4) ∷ (22, 0) ∷ (1, 5) ∷ [])

unfoldable pub mailed_inside_words : List ℕ
mailed_inside_words =
    mailed_inside_program ++
    bad_words 1
    ((40, 18) ∷ (42, 1) ∷ (43, 1) ∷ (44, 0) ∷ []) ++
    table_words
    ((0, 1) ∷ (1, 18) ∷ (2, 5) ∷ (3, 5) ∷ (4, 1) ∷ (5, 1) ∷ [])
    ((18, 5) ∷ [])
    ((18, 3, 14) ∷ (18, 4, 18) ∷ (18, 5, 18) ∷ (18, 8, 18) ∷ (18, 11, 18) ∷ (18, 14, 18) ∷ (18, 17, 18) ∷ []) ++
    ceiling_words 1
    ((0, 65535) ∷ (1, 65535) ∷ (2, 65535) ∷ (3, 65535) ∷ (4, 65535) ∷ (5, 65535) ∷ (6, 65535) ∷ (7, 65535) ∷ (8, 0) ∷
    [])

unfoldable pub mailed_inside_listing : List ℕ
mailed_inside_listing =
    (7 ∷ 1 ∷ 6 ∷ 14 ∷ []) ++
    (50 ∷ 51 ∷ 50 ∷ 51 ∷ 50 ∷ 51 ∷ 50 ∷ 51 ∷ 53 ∷ 50 ∷ 51 ∷ 52 ∷ 50 ∷ 51 ∷ []) ++
    (0 ∷ 6 ∷ 1 ∷ 2 ∷ 2 ∷ 3 ∷ 3 ∷ 4 ∷ 7 ∷ 4 ∷ 5 ∷ 7 ∷ 5 ∷ 0 ∷ [])

-- A built value is sent, and then a function.
--     constructors a/0.
--     start ->
--         Me = self(),
--         Me ! a,
--         Me ! fun() -> Me end,
--         Me.
--     bad none: start holds a >= 2.
unfoldable pub mailed_second_program : List ℕ
mailed_second_program =
    program_words 5 1 0
    ((10, 0) ∷ (7, 0) ∷ (2, 1) ∷ (20, 0) ∷ (5, 2) ∷ (21, 0) ∷ (21, 1) ∷ (3, 3) ∷ (22, 0) ∷ (1, 0) ∷ (5, 4) ∷ (21, 0) ∷
    (21, 3) ∷ (1, 0) ∷ [])

unfoldable pub mailed_second_words : List ℕ
mailed_second_words =
    mailed_second_program ++
    bad_words 1
    ((40, 14) ∷ (42, 0) ∷ (43, 2) ∷ (44, 0) ∷ []) ++
    table_words
    ((0, 14) ∷ (1, 2) ∷ (2, 2) ∷ (3, 7) ∷ (4, 7) ∷ [])
    ((14, 2) ∷ (14, 7) ∷ [])
    ((14, 1, 14) ∷ (14, 2, 14) ∷ (14, 4, 14) ∷ (14, 7, 14) ∷ (14, 10, 14) ∷ (14, 13, 14) ∷ []) ++
    ceiling_words 0
    []

-- Two processes are sent a function each; the start's has the lower row, the other one's class is lower.
--     constructors a/0.
--     function f() -> f.
--     start ->
--         Me = self(),
--         P = spawn(f),
--         P ! fun() -> Me end,
--         Me ! f.
--     bad none: start holds a >= 1.
unfoldable pub mailed_twice_program : List ℕ
mailed_twice_program =
    program_words 6 1 1
    ((10, 0) ∷ (11, 0) ∷ (22, 0) ∷ (1, 0) ∷ (7, 1) ∷ (6, 2) ∷ (21, 0) ∷ (3, 3) ∷ (22, 0) ∷ (1, 1) ∷ (5, 4) ∷ (21, 2) ∷
    (21, 3) ∷ (5, 5) ∷ (21, 1) ∷ (21, 0) ∷ (1, 5) ∷ [])

unfoldable pub mailed_twice_words : List ℕ
mailed_twice_words =
    mailed_twice_program ++
    bad_words 1
    ((40, 17) ∷ (42, 0) ∷ (43, 1) ∷ (44, 0) ∷ []) ++
    table_words
    ((0, 1) ∷ (1, 17) ∷ (2, 5) ∷ (3, 7) ∷ (4, 7) ∷ (5, 1) ∷ [])
    ((5, 7) ∷ (17, 1) ∷ [])
    ((5, 3, 17) ∷ (17, 4, 17) ∷ (17, 5, 17) ∷ (17, 7, 17) ∷ (17, 10, 17) ∷ (17, 13, 17) ∷ (17, 16, 17) ∷ []) ++
    ceiling_words 0
    []

-- f() = f; x = self; x. A mail entry that no send wants: (R, 0), the function f. Its class is word 29, its value word
-- 34; the flow's second columns are words 32 and 33, the ceiling's counter numbers words 41 to 43.
unfoldable pub mailed_extra_program : List ℕ
mailed_extra_program =
    program_words 2 0 1
    ((11, 0) ∷ (22, 0) ∷ (1, 0) ∷ (7, 1) ∷ (1, 1) ∷ [])

unfoldable pub mailed_extra_words : List ℕ
mailed_extra_words =
    mailed_extra_program ++
    bad_words 1
    ((40, 5) ∷ (42, 0) ∷ (43, 1) ∷ (44, 0) ∷ []) ++
    table_words
    ((0, 0) ∷ (1, 5) ∷ [])
    ((5, 0) ∷ [])
    ((5, 3, 5) ∷ (5, 4, 5) ∷ []) ++
    ceiling_words 1
    ((0, 65535) ∷ (1, 65535) ∷ (2, 0) ∷ [])

-- The same without the mail entry. The bad's letter is 0, and C is 0.
unfoldable pub mailed_no_letter_program : List ℕ
mailed_no_letter_program =
    program_words 2 0 1
    ((11, 0) ∷ (22, 0) ∷ (1, 0) ∷ (7, 1) ∷ (1, 1) ∷ [])

unfoldable pub mailed_no_letter_words : List ℕ
mailed_no_letter_words =
    mailed_no_letter_program ++
    bad_words 1
    ((40, 5) ∷ (42, 0) ∷ (43, 1) ∷ (44, 0) ∷ []) ++
    table_words
    ((0, 0) ∷ (1, 5) ∷ [])
    []
    ((5, 3, 5) ∷ (5, 4, 5) ∷ []) ++
    ceiling_words 1
    ((0, 65535) ∷ (1, 65535) ∷ (2, 0) ∷ [])

unfoldable pub mailed_no_letter_listing : List ℕ
mailed_no_letter_listing =
    (2 ∷ 0 ∷ 1 ∷ 2 ∷ []) ++
    (50 ∷ 51 ∷ []) ++
    (0 ∷ 1 ∷ [])

-- Two callers of one routine. By class and place alone the second call comes back behind the first one as well, and
-- gives its order again and again; by the return each call comes back to its own place.
--     constructors on/0.
--     function order(To) -> To ! on.
--     start ->
--         Me = self(),
--         order(Me),
--         order(Me).
--     bad three: start holds on >= 3.
unfoldable pub returns_orders_program : List ℕ
returns_orders_program =
    program_words 7 1 1
    ((10, 0) ∷ (11, 0) ∷ (22, 1) ∷ (23, 1) ∷ (2, 2) ∷ (20, 0) ∷ (5, 3) ∷ (21, 1) ∷ (21, 2) ∷ (1, 3) ∷ (7, 4) ∷
    (4, 5) ∷ (21, 0) ∷ (22, 1) ∷ (21, 4) ∷ (4, 6) ∷ (21, 0) ∷ (22, 1) ∷ (21, 4) ∷ (1, 6) ∷ [])

unfoldable pub returns_orders_words : List ℕ
returns_orders_words =
    returns_orders_program ++
    bad_words 1
    ((40, 20) ∷ (42, 0) ∷ (43, 3) ∷ (44, 0) ∷ []) ++
    table_words
    ((0, 1) ∷ (1, 20) ∷ (2, 4) ∷ (3, 4) ∷ (4, 20) ∷ (5, 4) ∷ (6, 4) ∷ [])
    ((20, 4) ∷ [])
    ((20, 4, 11) ∷ (20, 4, 15) ∷ (20, 6, 11) ∷ (20, 6, 15) ∷ (20, 9, 11) ∷ (20, 9, 15) ∷ (20, 10, 20) ∷ (20, 11, 20) ∷
    (20, 15, 20) ∷ (20, 19, 20) ∷ []) ++
    ceiling_words 10
    ((6, 1) ∷ (11, 0) ∷ (7, 1) ∷ (11, 0) ∷ (0, 1) ∷ (11, 0) ∷ (2, 1) ∷ (11, 0) ∷ (4, 1) ∷ (10, 1) ∷ (11, 0) ∷ (8, 1) ∷
    (10, 1) ∷ (11, 0) ∷ (1, 1) ∷ (10, 1) ∷ (11, 0) ∷ (3, 1) ∷ (10, 1) ∷ (11, 0) ∷ (5, 1) ∷ (10, 2) ∷ (11, 0) ∷
    (9, 1) ∷ (10, 2) ∷ (11, 0) ∷ [])

unfoldable pub returns_orders_listing : List ℕ
returns_orders_listing =
    (10 ∷ 1 ∷ 9 ∷ 20 ∷ []) ++
    (50 ∷ 51 ∷ 50 ∷ 51 ∷ 50 ∷ 51 ∷ 53 ∷ 50 ∷ 51 ∷ 53 ∷ 50 ∷ 51 ∷ 50 ∷ 51 ∷ 50 ∷ 51 ∷ 50 ∷ 51 ∷ 50 ∷ 51 ∷ []) ++
    (0 ∷ 2 ∷ 1 ∷ 3 ∷ 2 ∷ 4 ∷ 10 ∷ 3 ∷ 5 ∷ 10 ∷ 4 ∷ 8 ∷ 5 ∷ 9 ∷ 6 ∷ 7 ∷ 7 ∷ 0 ∷ 8 ∷ 1 ∷ [])

-- One routine with two callers: each gets back its own.
--     constructors a/0, b/0, never/0.
--     function same(X) -> X.
--     start ->
--         A = same(a),
--         B = same(b),
--         case A of a -> B; b -> A end.
--     bad none: start holds never >= 1.
unfoldable pub returns_two_callers_program : List ℕ
returns_two_callers_program =
    program_words 6 3 1
    ((10, 0) ∷ (10, 0) ∷ (10, 0) ∷ (11, 0) ∷ (22, 1) ∷ (23, 1) ∷ (1, 1) ∷ (2, 2) ∷ (20, 0) ∷ (4, 3) ∷ (21, 0) ∷
    (22, 1) ∷ (21, 2) ∷ (2, 4) ∷ (20, 1) ∷ (4, 5) ∷ (21, 0) ∷ (22, 1) ∷ (21, 4) ∷ (8, 3) ∷ (25, 2) ∷ (31, 0) ∷
    (1, 5) ∷ (31, 1) ∷ (1, 3) ∷ [])

unfoldable pub returns_two_callers_words : List ℕ
returns_two_callers_words =
    returns_two_callers_program ++
    bad_words 1
    ((40, 25) ∷ (42, 2) ∷ (43, 1) ∷ (44, 0) ∷ []) ++
    table_words
    ((0, 3) ∷ (1, 7) ∷ (1, 13) ∷ (2, 7) ∷ (3, 7) ∷ (3, 13) ∷ (4, 13) ∷ (5, 7) ∷ (5, 13) ∷ [])
    []
    ((25, 6, 9) ∷ (25, 6, 15) ∷ (25, 7, 25) ∷ (25, 9, 25) ∷ (25, 13, 25) ∷ (25, 15, 25) ∷ (25, 19, 25) ∷
    (25, 22, 25) ∷ (25, 24, 25) ∷ []) ++
    ceiling_words 1
    ((0, 65535) ∷ (1, 65535) ∷ (2, 65535) ∷ (3, 65535) ∷ (4, 65535) ∷ (5, 65535) ∷ (6, 65535) ∷ (7, 65535) ∷
    (8, 65535) ∷ (9, 0) ∷ [])

unfoldable pub returns_two_callers_listing : List ℕ
returns_two_callers_listing =
    (9 ∷ 0 ∷ 8 ∷ 16 ∷ []) ++
    (50 ∷ 51 ∷ 50 ∷ 51 ∷ 50 ∷ 51 ∷ 50 ∷ 51 ∷ 50 ∷ 51 ∷ 50 ∷ 51 ∷ 50 ∷ 51 ∷ 50 ∷ 51 ∷ []) ++
    (0 ∷ 4 ∷ 1 ∷ 6 ∷ 2 ∷ 3 ∷ 3 ∷ 0 ∷ 4 ∷ 5 ∷ 5 ∷ 1 ∷ 6 ∷ 7 ∷ 6 ∷ 8 ∷ [])

-- A routine that calls another, from two places: its give back leads to two states, by what each returns to.
--     constructors a/0.
--     function inner(X) -> X.
--     function outer(Y) -> inner(Y).
--     start ->
--         A = outer(a),
--         outer(A).
--     bad none: start holds a >= 1.
unfoldable pub returns_by_order_program : List ℕ
returns_by_order_program =
    program_words 8 1 2
    ((10, 0) ∷ (11, 0) ∷ (22, 1) ∷ (23, 1) ∷ (1, 1) ∷ (11, 2) ∷ (22, 1) ∷ (23, 3) ∷ (4, 4) ∷ (21, 0) ∷ (22, 1) ∷
    (21, 3) ∷ (1, 4) ∷ (2, 5) ∷ (20, 0) ∷ (4, 6) ∷ (21, 2) ∷ (22, 1) ∷ (21, 5) ∷ (4, 7) ∷ (21, 2) ∷ (22, 1) ∷
    (21, 6) ∷ (1, 7) ∷ [])

unfoldable pub returns_by_order_words : List ℕ
returns_by_order_words =
    returns_by_order_program ++
    bad_words 1
    ((40, 24) ∷ (42, 0) ∷ (43, 1) ∷ (44, 0) ∷ []) ++
    table_words
    ((0, 1) ∷ (1, 13) ∷ (2, 5) ∷ (3, 13) ∷ (4, 13) ∷ (5, 13) ∷ (6, 13) ∷ (7, 13) ∷ [])
    []
    ((24, 4, 8) ∷ (24, 8, 15) ∷ (24, 8, 19) ∷ (24, 12, 15) ∷ (24, 12, 19) ∷ (24, 13, 24) ∷ (24, 15, 24) ∷
    (24, 19, 24) ∷ (24, 23, 24) ∷ []) ++
    ceiling_words 1
    ((0, 65535) ∷ (1, 65535) ∷ (2, 65535) ∷ (3, 65535) ∷ (4, 65535) ∷ (5, 65535) ∷ (6, 65535) ∷ (7, 65535) ∷
    (8, 65535) ∷ (9, 0) ∷ [])

unfoldable pub returns_by_order_listing : List ℕ
returns_by_order_listing =
    (9 ∷ 0 ∷ 9 ∷ 18 ∷ []) ++
    (50 ∷ 51 ∷ 50 ∷ 51 ∷ 50 ∷ 51 ∷ 50 ∷ 51 ∷ 50 ∷ 51 ∷ 50 ∷ 51 ∷ 50 ∷ 51 ∷ 50 ∷ 51 ∷ 50 ∷ 51 ∷ []) ++
    (0 ∷ 3 ∷ 0 ∷ 4 ∷ 1 ∷ 0 ∷ 2 ∷ 0 ∷ 3 ∷ 7 ∷ 4 ∷ 8 ∷ 5 ∷ 6 ∷ 6 ∷ 1 ∷ 7 ∷ 2 ∷ [])

-- f(x) = x; y = self; z = f(y); z. The call is row 5; the body, row 3, gives back to it. Third array: words 53 to 56.
unfoldable pub returns_third_program : List ℕ
returns_third_program =
    program_words 4 0 1
    ((11, 0) ∷ (22, 1) ∷ (23, 1) ∷ (1, 1) ∷ (7, 2) ∷ (4, 3) ∷ (21, 0) ∷ (22, 1) ∷ (21, 2) ∷ (1, 3) ∷ [])

unfoldable pub returns_third_words : List ℕ
returns_third_words =
    returns_third_program ++
    bad_words 1
    ((40, 10) ∷ (41, 3) ∷ (43, 2) ∷ (44, 0) ∷ []) ++
    table_words
    ((0, 0) ∷ (1, 10) ∷ (2, 10) ∷ (3, 10) ∷ [])
    []
    ((10, 3, 5) ∷ (10, 4, 10) ∷ (10, 5, 10) ∷ (10, 9, 10) ∷ []) ++
    ceiling_words 4
    ((1, 1) ∷ (4, 0) ∷ (2, 1) ∷ (4, 0) ∷ (0, 1) ∷ (4, 0) ∷ (3, 1) ∷ (4, 0) ∷ [])

unfoldable pub returns_third_listing : List ℕ
returns_third_listing =
    (4 ∷ 0 ∷ 3 ∷ 6 ∷ []) ++
    (50 ∷ 51 ∷ 50 ∷ 51 ∷ 50 ∷ 51 ∷ []) ++
    (0 ∷ 3 ∷ 1 ∷ 2 ∷ 2 ∷ 0 ∷ [])

-- The same, and the give back of the start expression with the call's row too: an extra entry, which leads back
-- behind
-- the call. The third array is words 55 to 59, the flow's second columns are words 46 to 49.
unfoldable pub returns_extra_program : List ℕ
returns_extra_program =
    program_words 4 0 1
    ((11, 0) ∷ (22, 1) ∷ (23, 1) ∷ (1, 1) ∷ (7, 2) ∷ (4, 3) ∷ (21, 0) ∷ (22, 1) ∷ (21, 2) ∷ (1, 3) ∷ [])

unfoldable pub returns_extra_words : List ℕ
returns_extra_words =
    returns_extra_program ++
    bad_words 1
    ((40, 10) ∷ (41, 9) ∷ (43, 2) ∷ (44, 0) ∷ []) ++
    table_words
    ((0, 0) ∷ (1, 10) ∷ (2, 10) ∷ (3, 10) ∷ [])
    []
    ((10, 3, 5) ∷ (10, 4, 10) ∷ (10, 5, 10) ∷ (10, 9, 5) ∷ (10, 9, 10) ∷ []) ++
    ceiling_words 5
    ((1, 1) ∷ (5, 0) ∷ (2, 1) ∷ (5, 0) ∷ (0, 1) ∷ (5, 0) ∷ (4, 1) ∷ (5, 0) ∷ (3, 1) ∷ (5, 0) ∷ [])

unfoldable pub returns_extra_listing : List ℕ
returns_extra_listing =
    (5 ∷ 0 ∷ 4 ∷ 8 ∷ []) ++
    (50 ∷ 51 ∷ 50 ∷ 51 ∷ 50 ∷ 51 ∷ 50 ∷ 51 ∷ []) ++
    (0 ∷ 4 ∷ 1 ∷ 2 ∷ 2 ∷ 0 ∷ 3 ∷ 4 ∷ [])

-- Two calls of one function, the second behind the first: z = f(y), w = f(z), w. The start's give back has the first
-- call's row too, and so z shall hold what w holds, which is the function too, an extra value.
unfoldable pub returns_extra_open_program : List ℕ
returns_extra_open_program =
    program_words 5 0 1
    ((11, 0) ∷ (22, 1) ∷ (23, 1) ∷ (1, 1) ∷ (7, 2) ∷ (4, 3) ∷ (21, 0) ∷ (22, 1) ∷ (21, 2) ∷ (4, 4) ∷ (21, 0) ∷
    (22, 1) ∷ (21, 3) ∷ (1, 4) ∷ [])

unfoldable pub returns_extra_open_words : List ℕ
returns_extra_open_words =
    returns_extra_open_program ++
    bad_words 1
    ((40, 14) ∷ (41, 13) ∷ (43, 2) ∷ (44, 0) ∷ []) ++
    table_words
    ((0, 0) ∷ (1, 14) ∷ (2, 14) ∷ (3, 14) ∷ (4, 0) ∷ (4, 14) ∷ [])
    []
    ((14, 3, 5) ∷ (14, 3, 9) ∷ (14, 4, 14) ∷ (14, 5, 14) ∷ (14, 9, 14) ∷ (14, 13, 5) ∷ (14, 13, 14) ∷ []) ++
    ceiling_words 1
    ((0, 1) ∷ (1, 1) ∷ (2, 1) ∷ (3, 1) ∷ (4, 1) ∷ (5, 1) ∷ (6, 1) ∷ (7, 0) ∷ [])

-- The first with a state of the body that has R, where it wants nothing: two counters of one place. The third
-- array is
-- words 55 to 59, the last ceiling's limits are words 74 to 76.
unfoldable pub returns_summed_program : List ℕ
returns_summed_program =
    program_words 4 0 1
    ((11, 0) ∷ (22, 1) ∷ (23, 1) ∷ (1, 1) ∷ (7, 2) ∷ (4, 3) ∷ (21, 0) ∷ (22, 1) ∷ (21, 2) ∷ (1, 3) ∷ [])

unfoldable pub returns_summed_words : List ℕ
returns_summed_words =
    returns_summed_program ++
    bad_words 1
    ((40, 10) ∷ (41, 3) ∷ (43, 65535) ∷ (44, 0) ∷ []) ++
    table_words
    ((0, 0) ∷ (1, 10) ∷ (2, 10) ∷ (3, 10) ∷ [])
    []
    ((10, 3, 5) ∷ (10, 3, 10) ∷ (10, 4, 10) ∷ (10, 5, 10) ∷ (10, 9, 10) ∷ []) ++
    ceiling_words 3
    ((2, 1) ∷ (5, 0) ∷ (3, 1) ∷ (5, 0) ∷ (0, 40000) ∷ (1, 20000) ∷ (4, 65535) ∷ (5, 0) ∷ [])

unfoldable pub returns_summed_listing : List ℕ
returns_summed_listing =
    (5 ∷ 0 ∷ 3 ∷ 6 ∷ []) ++
    (50 ∷ 51 ∷ 50 ∷ 51 ∷ 50 ∷ 51 ∷ []) ++
    (0 ∷ 4 ∷ 2 ∷ 3 ∷ 3 ∷ 0 ∷ [])

-- f() = f, which nothing calls; x = self; x. The bad asks at the body, where no state is.
unfoldable pub returns_no_counter_program : List ℕ
returns_no_counter_program =
    program_words 2 0 1
    ((11, 0) ∷ (22, 0) ∷ (1, 0) ∷ (7, 1) ∷ (1, 1) ∷ [])

unfoldable pub returns_no_counter_words : List ℕ
returns_no_counter_words =
    returns_no_counter_program ++
    bad_words 1
    ((40, 5) ∷ (41, 2) ∷ (43, 1) ∷ (44, 0) ∷ []) ++
    table_words
    ((0, 0) ∷ (1, 5) ∷ [])
    []
    ((5, 3, 5) ∷ (5, 4, 5) ∷ []) ++
    ceiling_words 1
    ((0, 65535) ∷ (1, 65535) ∷ (2, 0) ∷ [])

unfoldable pub returns_no_counter_listing : List ℕ
returns_no_counter_listing =
    (2 ∷ 0 ∷ 1 ∷ 2 ∷ []) ++
    (50 ∷ 51 ∷ []) ++
    (0 ∷ 1 ∷ [])

-- The same with a state there, which nothing leads to.
unfoldable pub returns_a_counter_program : List ℕ
returns_a_counter_program =
    program_words 2 0 1
    ((11, 0) ∷ (22, 0) ∷ (1, 0) ∷ (7, 1) ∷ (1, 1) ∷ [])

unfoldable pub returns_a_counter_words : List ℕ
returns_a_counter_words =
    returns_a_counter_program ++
    bad_words 1
    ((40, 5) ∷ (41, 2) ∷ (43, 1) ∷ (44, 0) ∷ []) ++
    table_words
    ((0, 0) ∷ (1, 5) ∷ [])
    []
    ((5, 2, 5) ∷ (5, 3, 5) ∷ (5, 4, 5) ∷ []) ++
    ceiling_words 1
    ((1, 65535) ∷ (2, 65535) ∷ (3, 0) ∷ [])

unfoldable pub returns_a_counter_listing : List ℕ
returns_a_counter_listing =
    (3 ∷ 0 ∷ 1 ∷ 2 ∷ []) ++
    (50 ∷ 51 ∷ []) ++
    (1 ∷ 2 ∷ [])

-- Station A without its tables and ceilings, 34 words.
unfoldable pub returns_lengths_program : List ℕ
returns_lengths_program =
    program_words 3 1 0
    ((10, 0) ∷ (7, 0) ∷ (2, 1) ∷ (20, 0) ∷ (5, 2) ∷ (21, 0) ∷ (21, 1) ∷ (9, 1) ∷ (31, 0) ∷ (1, 0) ∷ [])

unfoldable pub returns_lengths_words : List ℕ
returns_lengths_words =
    returns_lengths_program ++
    bad_words 1
    ((40, 10) ∷ (42, 0) ∷ (43, 2) ∷ (44, 0) ∷ [])

-- Station A, 84 words: five more than without the third array.
unfoldable pub returns_a_program : List ℕ
returns_a_program =
    program_words 3 1 0
    ((10, 0) ∷ (7, 0) ∷ (2, 1) ∷ (20, 0) ∷ (5, 2) ∷ (21, 0) ∷ (21, 1) ∷ (9, 1) ∷ (31, 0) ∷ (1, 0) ∷ [])

unfoldable pub returns_a_words : List ℕ
returns_a_words =
    returns_a_program ++
    bad_words 1
    ((40, 10) ∷ (42, 0) ∷ (43, 2) ∷ (44, 0) ∷ []) ++
    table_words
    ((0, 10) ∷ (1, 2) ∷ (2, 2) ∷ [])
    ((10, 2) ∷ [])
    ((10, 1, 10) ∷ (10, 2, 10) ∷ (10, 4, 10) ∷ (10, 7, 10) ∷ (10, 9, 10) ∷ []) ++
    ceiling_words 5
    ((0, 1) ∷ (6, 0) ∷ (1, 1) ∷ (6, 0) ∷ (2, 1) ∷ (6, 0) ∷ (3, 1) ∷ (5, 1) ∷ (6, 0) ∷ (4, 1) ∷ (6, 0) ∷ [])

unfoldable pub returns_a_listing : List ℕ
returns_a_listing =
    (5 ∷ 1 ∷ 4 ∷ 10 ∷ []) ++
    (50 ∷ 51 ∷ 50 ∷ 51 ∷ 50 ∷ 51 ∷ 53 ∷ 50 ∷ 51 ∷ 52 ∷ []) ++
    (0 ∷ 1 ∷ 1 ∷ 2 ∷ 2 ∷ 3 ∷ 5 ∷ 3 ∷ 4 ∷ 5 ∷ [])

-- Station A without its first ceiling.
unfoldable pub returns_a_first_gone_program : List ℕ
returns_a_first_gone_program =
    program_words 3 1 0
    ((10, 0) ∷ (7, 0) ∷ (2, 1) ∷ (20, 0) ∷ (5, 2) ∷ (21, 0) ∷ (21, 1) ∷ (9, 1) ∷ (31, 0) ∷ (1, 0) ∷ [])

unfoldable pub returns_a_first_gone_words : List ℕ
returns_a_first_gone_words =
    returns_a_first_gone_program ++
    bad_words 1
    ((40, 10) ∷ (42, 0) ∷ (43, 2) ∷ (44, 0) ∷ []) ++
    table_words
    ((0, 10) ∷ (1, 2) ∷ (2, 2) ∷ [])
    ((10, 2) ∷ [])
    ((10, 1, 10) ∷ (10, 2, 10) ∷ (10, 4, 10) ∷ (10, 7, 10) ∷ (10, 9, 10) ∷ []) ++
    ceiling_words 4
    ((1, 1) ∷ (6, 0) ∷ (2, 1) ∷ (6, 0) ∷ (3, 1) ∷ (5, 1) ∷ (6, 0) ∷ (4, 1) ∷ (6, 0) ∷ [])

-- Station A without its last ceiling.
unfoldable pub returns_a_last_gone_program : List ℕ
returns_a_last_gone_program =
    program_words 3 1 0
    ((10, 0) ∷ (7, 0) ∷ (2, 1) ∷ (20, 0) ∷ (5, 2) ∷ (21, 0) ∷ (21, 1) ∷ (9, 1) ∷ (31, 0) ∷ (1, 0) ∷ [])

unfoldable pub returns_a_last_gone_words : List ℕ
returns_a_last_gone_words =
    returns_a_last_gone_program ++
    bad_words 1
    ((40, 10) ∷ (42, 0) ∷ (43, 2) ∷ (44, 0) ∷ []) ++
    table_words
    ((0, 10) ∷ (1, 2) ∷ (2, 2) ∷ [])
    ((10, 2) ∷ [])
    ((10, 1, 10) ∷ (10, 2, 10) ∷ (10, 4, 10) ∷ (10, 7, 10) ∷ (10, 9, 10) ∷ []) ++
    ceiling_words 4
    ((0, 1) ∷ (6, 0) ∷ (1, 1) ∷ (6, 0) ∷ (2, 1) ∷ (6, 0) ∷ (3, 1) ∷ (5, 1) ∷ (6, 0) ∷ [])

-- Station A with one ceiling, counters 0 to 4 unbounded, counter 5 at 65,534, and minimum 65,535.
unfoldable pub returns_a_65534_program : List ℕ
returns_a_65534_program =
    program_words 3 1 0
    ((10, 0) ∷ (7, 0) ∷ (2, 1) ∷ (20, 0) ∷ (5, 2) ∷ (21, 0) ∷ (21, 1) ∷ (9, 1) ∷ (31, 0) ∷ (1, 0) ∷ [])

unfoldable pub returns_a_65534_words : List ℕ
returns_a_65534_words =
    returns_a_65534_program ++
    bad_words 1
    ((40, 10) ∷ (42, 0) ∷ (43, 65535) ∷ (44, 0) ∷ []) ++
    table_words
    ((0, 10) ∷ (1, 2) ∷ (2, 2) ∷ [])
    ((10, 2) ∷ [])
    ((10, 1, 10) ∷ (10, 2, 10) ∷ (10, 4, 10) ∷ (10, 7, 10) ∷ (10, 9, 10) ∷ []) ++
    ceiling_words 1
    ((0, 65535) ∷ (1, 65535) ∷ (2, 65535) ∷ (3, 65535) ∷ (4, 65535) ∷ (5, 65534) ∷ (6, 0) ∷ [])

-- A bad with the heads of a letter: its tags are words 28 to 33, its numbers 34 to 39. x = self; b = pair(x, x); x
-- ! b; x.
unfoldable pub letter_heads_program : List ℕ
letter_heads_program =
    program_words 3 2 0
    ((10, 2) ∷ (10, 0) ∷ (7, 0) ∷ (2, 1) ∷ (20, 0) ∷ (21, 0) ∷ (21, 0) ∷ (5, 2) ∷ (21, 0) ∷ (21, 1) ∷ (1, 0) ∷ [])

unfoldable pub letter_heads_words : List ℕ
letter_heads_words =
    letter_heads_program ++
    bad_words 1
    ((40, 11) ∷ (42, 0) ∷ (45, 3) ∷ (45, 3) ∷ (43, 2) ∷ (44, 0) ∷ []) ++
    table_words
    ((0, 11) ∷ (1, 3) ∷ (2, 3) ∷ [])
    ((11, 3) ∷ [])
    ((11, 2, 11) ∷ (11, 3, 11) ∷ (11, 7, 11) ∷ (11, 10, 11) ∷ []) ++
    ceiling_words 4
    ((0, 1) ∷ (5, 0) ∷ (1, 1) ∷ (5, 0) ∷ (2, 1) ∷ (5, 0) ∷ (3, 1) ∷ (4, 1) ∷ (5, 0) ∷ [])

unfoldable pub letter_heads_listing : List ℕ
letter_heads_listing =
    (4 ∷ 1 ∷ 3 ∷ 7 ∷ []) ++
    (50 ∷ 51 ∷ 50 ∷ 51 ∷ 50 ∷ 51 ∷ 53 ∷ []) ++
    (0 ∷ 1 ∷ 1 ∷ 2 ∷ 2 ∷ 3 ∷ 4 ∷ [])

-- Two letters of one constructor, box(a) and box(address), counters 6 and 7; a bad without heads asks for 65,535
-- of both together. x = self; a; box(x); box(a); receive.
unfoldable pub heads_summed_program : List ℕ
heads_summed_program =
    program_words 4 2 0
    ((10, 1) ∷ (10, 0) ∷ (7, 0) ∷ (2, 1) ∷ (20, 1) ∷ (2, 2) ∷ (20, 0) ∷ (21, 0) ∷ (2, 3) ∷ (20, 0) ∷ (21, 1) ∷
    (9, 1) ∷ (32, 0) ∷ (1, 0) ∷ [])

unfoldable pub heads_summed_words : List ℕ
heads_summed_words =
    heads_summed_program ++
    bad_words 1
    ((40, 14) ∷ (42, 0) ∷ (43, 65535) ∷ (44, 0) ∷ []) ++
    table_words
    ((0, 14) ∷ (1, 3) ∷ (2, 5) ∷ (3, 8) ∷ [])
    ((14, 5) ∷ (14, 8) ∷ [])
    ((14, 2, 14) ∷ (14, 3, 14) ∷ (14, 5, 14) ∷ (14, 8, 14) ∷ (14, 11, 14) ∷ (14, 13, 14) ∷ []) ++
    ceiling_words 1
    ((0, 65535) ∷ (1, 65535) ∷ (2, 65535) ∷ (3, 65535) ∷ (4, 65535) ∷ (5, 65535) ∷ (6, 40000) ∷ (7, 25534) ∷ (8, 0) ∷
    [])

unfoldable pub heads_summed_listing : List ℕ
heads_summed_listing =
    (6 ∷ 2 ∷ 6 ∷ 14 ∷ []) ++
    (50 ∷ 51 ∷ 50 ∷ 51 ∷ 50 ∷ 51 ∷ 50 ∷ 51 ∷ 50 ∷ 51 ∷ 52 ∷ 50 ∷ 51 ∷ 52 ∷ []) ++
    (0 ∷ 1 ∷ 1 ∷ 2 ∷ 2 ∷ 3 ∷ 3 ∷ 4 ∷ 4 ∷ 5 ∷ 6 ∷ 4 ∷ 5 ∷ 7 ∷ [])

-- The same name twice, which holds an address and a pair: each argument by its name alone. x = self; b = pair(x,
-- x); receive.
unfoldable pub independent_heads_program : List ℕ
independent_heads_program =
    program_words 2 1 0
    ((10, 2) ∷ (7, 0) ∷ (2, 1) ∷ (20, 0) ∷ (21, 0) ∷ (21, 0) ∷ (9, 1) ∷ (32, 0) ∷ (1, 0) ∷ [])

unfoldable pub independent_heads_words : List ℕ
independent_heads_words =
    independent_heads_program ++
    bad_words 1
    ((40, 9) ∷ (42, 1) ∷ (43, 1) ∷ (44, 0) ∷ []) ++
    table_words
    ((0, 2) ∷ (0, 9) ∷ (1, 2) ∷ [])
    ((9, 2) ∷ [])
    ((9, 1, 9) ∷ (9, 2, 9) ∷ (9, 6, 9) ∷ (9, 8, 9) ∷ []) ++
    ceiling_words 1
    ((0, 65535) ∷ (1, 65535) ∷ (2, 65535) ∷ (3, 65535) ∷ (4, 65535) ∷ (5, 65535) ∷ (6, 65535) ∷ (7, 65535) ∷ (8, 0) ∷
    [])

unfoldable pub independent_heads_listing : List ℕ
independent_heads_listing =
    (4 ∷ 4 ∷ 6 ∷ 16 ∷ []) ++
    (50 ∷ 51 ∷ 50 ∷ 51 ∷ 50 ∷ 51 ∷ 52 ∷ 50 ∷ 51 ∷ 52 ∷ 50 ∷ 51 ∷ 52 ∷ 50 ∷ 51 ∷ 52 ∷ []) ++
    (0 ∷ 1 ∷ 1 ∷ 2 ∷ 2 ∷ 3 ∷ 4 ∷ 2 ∷ 3 ∷ 5 ∷ 2 ∷ 3 ∷ 6 ∷ 2 ∷ 3 ∷ 7 ∷ [])

-- An argument name without a value allows no letter. f(x) = (y = self; b = box(x); y ! b; b) has states and is
-- never called; s = self; s.
unfoldable pub no_letter_program : List ℕ
no_letter_program =
    program_words 6 1 1
    ((10, 1) ∷ (11, 0) ∷ (22, 1) ∷ (23, 1) ∷ (7, 2) ∷ (2, 3) ∷ (20, 0) ∷ (21, 1) ∷ (5, 4) ∷ (21, 2) ∷ (21, 3) ∷
    (1, 3) ∷ (7, 5) ∷ (1, 5) ∷ [])

unfoldable pub no_letter_words : List ℕ
no_letter_words =
    no_letter_program ++
    bad_words 1
    ((40, 14) ∷ (42, 0) ∷ (43, 1) ∷ (44, 0) ∷ []) ++
    table_words
    ((0, 1) ∷ (2, 14) ∷ (3, 5) ∷ (4, 5) ∷ (5, 14) ∷ [])
    ((14, 5) ∷ [])
    ((14, 4, 14) ∷ (14, 5, 14) ∷ (14, 8, 14) ∷ (14, 11, 14) ∷ (14, 12, 14) ∷ (14, 13, 14) ∷ []) ++
    ceiling_words 1
    ((0, 65535) ∷ (1, 65535) ∷ (2, 65535) ∷ (3, 65535) ∷ (4, 65535) ∷ (5, 65535) ∷ (6, 0) ∷ [])

unfoldable pub no_letter_listing : List ℕ
no_letter_listing =
    (6 ∷ 0 ∷ 3 ∷ 6 ∷ []) ++
    (50 ∷ 51 ∷ 50 ∷ 51 ∷ 50 ∷ 51 ∷ []) ++
    (0 ∷ 1 ∷ 1 ∷ 2 ∷ 4 ∷ 5 ∷ [])

-- Mail pair(gauge, me) and pair(pump, pump): a branch reads by one row, and its arguments are never mixed with
-- those of the other.
unfoldable pub read_by_row_program : List ℕ
read_by_row_program =
    program_words 5 3 0
    ((10, 2) ∷ (10, 0) ∷ (10, 0) ∷ (7, 0) ∷ (2, 1) ∷ (20, 1) ∷ (2, 2) ∷ (20, 2) ∷ (2, 3) ∷ (20, 0) ∷ (21, 1) ∷
    (21, 0) ∷ (2, 4) ∷ (20, 0) ∷ (21, 2) ∷ (21, 2) ∷ (9, 2) ∷ (31, 0) ∷ (31, 1) ∷ (31, 2) ∷ (1, 0) ∷ (31, 0) ∷
    (32, 0) ∷ (31, 2) ∷ (1, 0) ∷ [])

unfoldable pub read_by_row_words : List ℕ
read_by_row_words =
    read_by_row_program ++
    bad_words 1
    ((40, 25) ∷ (42, 3) ∷ (43, 1) ∷ (44, 0) ∷ []) ++
    table_words
    ((0, 25) ∷ (1, 4) ∷ (2, 6) ∷ (3, 8) ∷ (4, 12) ∷ [])
    ((25, 8) ∷ (25, 12) ∷ [])
    ((25, 3, 25) ∷ (25, 4, 25) ∷ (25, 6, 25) ∷ (25, 8, 25) ∷ (25, 12, 25) ∷ (25, 16, 25) ∷ (25, 24, 25) ∷ []) ++
    ceiling_words 1
    ((0, 65535) ∷ (1, 65535) ∷ (2, 65535) ∷ (3, 65535) ∷ (4, 65535) ∷ (5, 65535) ∷ (6, 65535) ∷ (7, 65535) ∷
    (8, 65535) ∷ (9, 0) ∷ [])

unfoldable pub read_by_row_listing : List ℕ
read_by_row_listing =
    (7 ∷ 2 ∷ 6 ∷ 13 ∷ []) ++
    (50 ∷ 51 ∷ 50 ∷ 51 ∷ 50 ∷ 51 ∷ 50 ∷ 51 ∷ 50 ∷ 51 ∷ 50 ∷ 51 ∷ 52 ∷ []) ++
    (0 ∷ 1 ∷ 1 ∷ 2 ∷ 2 ∷ 3 ∷ 3 ∷ 4 ∷ 4 ∷ 5 ∷ 5 ∷ 6 ∷ 8 ∷ [])

-- A held name below a constructor selects heads; as the whole pattern it reads every letter of the rows that it
-- may match. x = self, which holds a too; a; b = box(x); receive box(^a); ^b; ^a.
unfoldable pub held_heads_program : List ℕ
held_heads_program =
    program_words 3 2 0
    ((10, 1) ∷ (10, 0) ∷ (7, 0) ∷ (2, 1) ∷ (20, 1) ∷ (2, 2) ∷ (20, 0) ∷ (21, 0) ∷ (9, 3) ∷ (31, 0) ∷ (33, 1) ∷
    (1, 0) ∷ (33, 2) ∷ (1, 0) ∷ (33, 1) ∷ (1, 0) ∷ [])

unfoldable pub held_heads_words : List ℕ
held_heads_words =
    held_heads_program ++
    bad_words 1
    ((40, 16) ∷ (42, 2) ∷ (43, 1) ∷ (44, 0) ∷ []) ++
    table_words
    ((0, 3) ∷ (0, 16) ∷ (1, 3) ∷ (2, 5) ∷ [])
    ((16, 5) ∷ [])
    ((16, 2, 16) ∷ (16, 3, 16) ∷ (16, 5, 16) ∷ (16, 8, 16) ∷ (16, 11, 16) ∷ (16, 13, 16) ∷ []) ++
    ceiling_words 1
    ((0, 65535) ∷ (1, 65535) ∷ (2, 65535) ∷ (3, 65535) ∷ (4, 65535) ∷ (5, 65535) ∷ (6, 65535) ∷ (7, 65535) ∷ (8, 0) ∷
    [])

unfoldable pub held_heads_listing : List ℕ
held_heads_listing =
    (6 ∷ 2 ∷ 6 ∷ 15 ∷ []) ++
    (50 ∷ 51 ∷ 50 ∷ 51 ∷ 50 ∷ 51 ∷ 50 ∷ 51 ∷ 52 ∷ 50 ∷ 51 ∷ 52 ∷ 50 ∷ 51 ∷ 52 ∷ []) ++
    (0 ∷ 1 ∷ 1 ∷ 2 ∷ 2 ∷ 3 ∷ 3 ∷ 4 ∷ 6 ∷ 3 ∷ 5 ∷ 6 ∷ 3 ∷ 5 ∷ 7 ∷ [])

-- Five arguments of four heads: 1,024 letters beside four states. f() = f; x = self, which holds all; a; b = m(x,
-- x, x, x, x); x.
unfoldable pub letter_limit_program : List ℕ
letter_limit_program =
    program_words 4 2 1
    ((10, 5) ∷ (10, 0) ∷ (11, 0) ∷ (22, 0) ∷ (1, 0) ∷ (7, 1) ∷ (2, 2) ∷ (20, 1) ∷ (2, 3) ∷ (20, 0) ∷ (21, 1) ∷
    (21, 1) ∷ (21, 1) ∷ (21, 1) ∷ (21, 1) ∷ (1, 1) ∷ [])

unfoldable pub letter_limit_words : List ℕ
letter_limit_words =
    letter_limit_program ++
    bad_words 1
    ((40, 16) ∷ (42, 0) ∷ (43, 1) ∷ (44, 0) ∷ []) ++
    table_words
    ((0, 2) ∷ (1, 2) ∷ (1, 6) ∷ (1, 8) ∷ (1, 16) ∷ (2, 6) ∷ (3, 8) ∷ [])
    ((16, 8) ∷ [])
    ((16, 5, 16) ∷ (16, 6, 16) ∷ (16, 8, 16) ∷ (16, 15, 16) ∷ []) ++
    ceiling_words 0
    []

-- Eight arguments of four heads: 65,536 letters, which is 0 in 16 bits.
unfoldable pub letter_product_program : List ℕ
letter_product_program =
    program_words 4 2 1
    ((10, 8) ∷ (10, 0) ∷ (11, 0) ∷ (22, 0) ∷ (1, 0) ∷ (7, 1) ∷ (2, 2) ∷ (20, 1) ∷ (2, 3) ∷ (20, 0) ∷ (21, 1) ∷
    (21, 1) ∷ (21, 1) ∷ (21, 1) ∷ (21, 1) ∷ (21, 1) ∷ (21, 1) ∷ (21, 1) ∷ (1, 1) ∷ [])

unfoldable pub letter_product_words : List ℕ
letter_product_words =
    letter_product_program ++
    bad_words 1
    ((40, 19) ∷ (42, 0) ∷ (43, 1) ∷ (44, 0) ∷ []) ++
    table_words
    ((0, 2) ∷ (1, 2) ∷ (1, 6) ∷ (1, 8) ∷ (1, 19) ∷ (2, 6) ∷ (3, 8) ∷ [])
    ((19, 8) ∷ [])
    ((19, 5, 19) ∷ (19, 6, 19) ∷ (19, 8, 19) ∷ (19, 18, 19) ∷ []) ++
    ceiling_words 0
    []

-- Seven arguments of four heads and an eighth without a value, in a function that is never called: no letter. The
-- branch is wanted, and has no rule.
unfoldable pub letter_empty_program : List ℕ
letter_empty_program =
    program_words 6 2 1
    ((10, 8) ∷ (10, 0) ∷ (11, 0) ∷ (22, 1) ∷ (23, 1) ∷ (7, 2) ∷ (2, 3) ∷ (20, 1) ∷ (2, 4) ∷ (20, 0) ∷ (21, 2) ∷
    (21, 2) ∷ (21, 2) ∷ (21, 2) ∷ (21, 2) ∷ (21, 2) ∷ (21, 2) ∷ (21, 1) ∷ (1, 2) ∷ (7, 5) ∷ (9, 1) ∷ (32, 0) ∷
    (1, 5) ∷ [])

unfoldable pub letter_empty_words : List ℕ
letter_empty_words =
    letter_empty_program ++
    bad_words 1
    ((40, 23) ∷ (42, 0) ∷ (43, 1) ∷ (44, 0) ∷ []) ++
    table_words
    ((0, 2) ∷ (2, 2) ∷ (2, 6) ∷ (2, 8) ∷ (2, 23) ∷ (5, 23) ∷ [])
    ((23, 8) ∷ [])
    ((23, 19, 23) ∷ (23, 20, 23) ∷ (23, 22, 23) ∷ []) ++
    ceiling_words 1
    ((0, 65535) ∷ (1, 65535) ∷ (2, 65535) ∷ (3, 0) ∷ [])

unfoldable pub letter_empty_listing : List ℕ
letter_empty_listing =
    (3 ∷ 0 ∷ 1 ∷ 2 ∷ []) ++
    (50 ∷ 51 ∷ []) ++
    (0 ∷ 1 ∷ [])

-- Station A without ceilings: K and E are 0, words 60 and 61. What follows is a fifth part.
unfoldable pub weights_sizes_program : List ℕ
weights_sizes_program =
    program_words 3 1 0
    ((10, 0) ∷ (7, 0) ∷ (2, 1) ∷ (20, 0) ∷ (5, 2) ∷ (21, 0) ∷ (21, 1) ∷ (9, 1) ∷ (31, 0) ∷ (1, 0) ∷ [])

unfoldable pub weights_sizes_words : List ℕ
weights_sizes_words =
    weights_sizes_program ++
    bad_words 1
    ((40, 10) ∷ (42, 0) ∷ (43, 2) ∷ (44, 0) ∷ []) ++
    table_words
    ((0, 10) ∷ (1, 2) ∷ (2, 2) ∷ [])
    ((10, 2) ∷ [])
    ((10, 1, 10) ∷ (10, 2, 10) ∷ (10, 4, 10) ∷ (10, 7, 10) ∷ (10, 9, 10) ∷ []) ++
    ceiling_words 0
    []

-- Station A with weights in place of its ceilings: what leads to the ping and the ping itself weigh 1. W is word 62,
-- the counter numbers are words 64 to 68, the weights 69 to 73.
unfoldable pub weighed_program : List ℕ
weighed_program =
    program_words 3 1 0
    ((10, 0) ∷ (7, 0) ∷ (2, 1) ∷ (20, 0) ∷ (5, 2) ∷ (21, 0) ∷ (21, 1) ∷ (9, 1) ∷ (31, 0) ∷ (1, 0) ∷ [])

unfoldable pub weighed_words : List ℕ
weighed_words =
    weighed_program ++
    bad_words 1
    ((40, 10) ∷ (42, 0) ∷ (43, 2) ∷ (44, 0) ∷ []) ++
    table_words
    ((0, 10) ∷ (1, 2) ∷ (2, 2) ∷ [])
    ((10, 2) ∷ [])
    ((10, 1, 10) ∷ (10, 2, 10) ∷ (10, 4, 10) ∷ (10, 7, 10) ∷ (10, 9, 10) ∷ []) ++
    ceiling_words 0
    [] ++
    weight_words 1
    ((0, 1) ∷ (1, 1) ∷ (2, 1) ∷ (5, 1) ∷ (6, 0) ∷ [])

unfoldable pub weighed_listing : List ℕ
weighed_listing =
    (5 ∷ 1 ∷ 4 ∷ 10 ∷ []) ++
    (50 ∷ 51 ∷ 50 ∷ 51 ∷ 50 ∷ 51 ∷ 53 ∷ 50 ∷ 51 ∷ 52 ∷ []) ++
    (0 ∷ 1 ∷ 1 ∷ 2 ∷ 2 ∷ 3 ∷ 5 ∷ 3 ∷ 4 ∷ 5 ∷ [])

-- Station A whose only line weighs nothing, with two bads: the first has an item without a counter, beside one that has
-- one.
unfoldable pub weighed_nothing_program : List ℕ
weighed_nothing_program =
    program_words 3 1 0
    ((10, 0) ∷ (7, 0) ∷ (2, 1) ∷ (20, 0) ∷ (5, 2) ∷ (21, 0) ∷ (21, 1) ∷ (9, 1) ∷ (31, 0) ∷ (1, 0) ∷ [])

unfoldable pub weighed_nothing_words : List ℕ
weighed_nothing_words =
    weighed_nothing_program ++
    bad_words 2
    ((40, 10) ∷ (42, 0) ∷ (43, 1) ∷ (40, 10) ∷ (42, 2) ∷ (43, 1) ∷ (44, 0) ∷ (40, 10) ∷ (42, 2) ∷ (43, 1) ∷ (44, 0) ∷
    []) ++
    table_words
    ((0, 10) ∷ (1, 2) ∷ (2, 2) ∷ [])
    ((10, 2) ∷ [])
    ((10, 1, 10) ∷ (10, 2, 10) ∷ (10, 4, 10) ∷ (10, 7, 10) ∷ (10, 9, 10) ∷ []) ++
    ceiling_words 0
    [] ++
    weight_words 1
    ((6, 0) ∷ [])

unfoldable pub weighed_nothing_listing : List ℕ
weighed_nothing_listing =
    (5 ∷ 1 ∷ 4 ∷ 10 ∷ []) ++
    (50 ∷ 51 ∷ 50 ∷ 51 ∷ 50 ∷ 51 ∷ 53 ∷ 50 ∷ 51 ∷ 52 ∷ []) ++
    (0 ∷ 1 ∷ 1 ∷ 2 ∷ 2 ∷ 3 ∷ 5 ∷ 3 ∷ 4 ∷ 5 ∷ [])

-- Station A with the same item twice, two pings and three: they are weighed once, at the greatest minimum. What leads
-- to the ping weighs 2. The minimums are words 35 and 38, the weights 75 to 79.
unfoldable pub weighed_twice_program : List ℕ
weighed_twice_program =
    program_words 3 1 0
    ((10, 0) ∷ (7, 0) ∷ (2, 1) ∷ (20, 0) ∷ (5, 2) ∷ (21, 0) ∷ (21, 1) ∷ (9, 1) ∷ (31, 0) ∷ (1, 0) ∷ [])

unfoldable pub weighed_twice_words : List ℕ
weighed_twice_words =
    weighed_twice_program ++
    bad_words 1
    ((40, 10) ∷ (42, 0) ∷ (43, 2) ∷ (40, 10) ∷ (42, 0) ∷ (43, 3) ∷ (44, 0) ∷ []) ++
    table_words
    ((0, 10) ∷ (1, 2) ∷ (2, 2) ∷ [])
    ((10, 2) ∷ [])
    ((10, 1, 10) ∷ (10, 2, 10) ∷ (10, 4, 10) ∷ (10, 7, 10) ∷ (10, 9, 10) ∷ []) ++
    ceiling_words 0
    [] ++
    weight_words 1
    ((0, 2) ∷ (1, 2) ∷ (2, 2) ∷ (5, 1) ∷ (6, 0) ∷ [])

unfoldable pub weighed_twice_listing : List ℕ
weighed_twice_listing =
    (5 ∷ 1 ∷ 4 ∷ 10 ∷ []) ++
    (50 ∷ 51 ∷ 50 ∷ 51 ∷ 50 ∷ 51 ∷ 53 ∷ 50 ∷ 51 ∷ 52 ∷ []) ++
    (0 ∷ 1 ∷ 1 ∷ 2 ∷ 2 ∷ 3 ∷ 5 ∷ 3 ∷ 4 ∷ 5 ∷ [])

-- Station A with two lines; the first settles the bad.
unfoldable pub weighed_lines_program : List ℕ
weighed_lines_program =
    program_words 3 1 0
    ((10, 0) ∷ (7, 0) ∷ (2, 1) ∷ (20, 0) ∷ (5, 2) ∷ (21, 0) ∷ (21, 1) ∷ (9, 1) ∷ (31, 0) ∷ (1, 0) ∷ [])

unfoldable pub weighed_lines_words : List ℕ
weighed_lines_words =
    weighed_lines_program ++
    bad_words 1
    ((40, 10) ∷ (42, 0) ∷ (43, 2) ∷ (44, 0) ∷ []) ++
    table_words
    ((0, 10) ∷ (1, 2) ∷ (2, 2) ∷ [])
    ((10, 2) ∷ [])
    ((10, 1, 10) ∷ (10, 2, 10) ∷ (10, 4, 10) ∷ (10, 7, 10) ∷ (10, 9, 10) ∷ []) ++
    ceiling_words 0
    [] ++
    weight_words 2
    ((0, 1) ∷ (1, 1) ∷ (2, 1) ∷ (5, 1) ∷ (6, 0) ∷ (0, 1) ∷ (6, 0) ∷ [])

unfoldable pub weighed_lines_listing : List ℕ
weighed_lines_listing =
    (5 ∷ 1 ∷ 4 ∷ 10 ∷ []) ++
    (50 ∷ 51 ∷ 50 ∷ 51 ∷ 50 ∷ 51 ∷ 53 ∷ 50 ∷ 51 ∷ 52 ∷ []) ++
    (0 ∷ 1 ∷ 1 ∷ 2 ∷ 2 ∷ 3 ∷ 5 ∷ 3 ∷ 4 ∷ 5 ∷ [])

-- Two lines that settle a bad only together: a ping and the receive. In the first the receive weighs nothing, in the
-- second the ping.
unfoldable pub weighed_lines_apart_program : List ℕ
weighed_lines_apart_program =
    program_words 3 1 0
    ((10, 0) ∷ (7, 0) ∷ (2, 1) ∷ (20, 0) ∷ (5, 2) ∷ (21, 0) ∷ (21, 1) ∷ (9, 1) ∷ (31, 0) ∷ (1, 0) ∷ [])

unfoldable pub weighed_lines_apart_words : List ℕ
weighed_lines_apart_words =
    weighed_lines_apart_program ++
    bad_words 1
    ((40, 10) ∷ (42, 0) ∷ (43, 1) ∷ (40, 10) ∷ (41, 7) ∷ (43, 1) ∷ (44, 0) ∷ []) ++
    table_words
    ((0, 10) ∷ (1, 2) ∷ (2, 2) ∷ [])
    ((10, 2) ∷ [])
    ((10, 1, 10) ∷ (10, 2, 10) ∷ (10, 4, 10) ∷ (10, 7, 10) ∷ (10, 9, 10) ∷ []) ++
    ceiling_words 0
    [] ++
    weight_words 2
    ((0, 1) ∷ (1, 1) ∷ (2, 1) ∷ (5, 1) ∷ (6, 0) ∷ (0, 1) ∷ (1, 1) ∷ (2, 1) ∷ (3, 1) ∷ (4, 1) ∷ (6, 0) ∷ [])

-- f() calls itself without end: a rule takes from the very counter that it puts to. f() = f(); f().
unfoldable pub weighed_itself_program : List ℕ
weighed_itself_program =
    program_words 3 0 1
    ((11, 0) ∷ (22, 0) ∷ (4, 1) ∷ (21, 0) ∷ (22, 0) ∷ (1, 1) ∷ (4, 2) ∷ (21, 0) ∷ (22, 0) ∷ (1, 2) ∷ [])

unfoldable pub weighed_itself_words : List ℕ
weighed_itself_words =
    weighed_itself_program ++
    bad_words 1
    ((40, 10) ∷ (41, 2) ∷ (43, 2) ∷ (44, 0) ∷ []) ++
    table_words
    ((0, 0) ∷ [])
    []
    ((10, 2, 2) ∷ (10, 2, 6) ∷ (10, 6, 10) ∷ []) ++
    ceiling_words 0
    [] ++
    weight_words 1
    ((0, 1) ∷ (1, 1) ∷ (2, 1) ∷ (3, 0) ∷ [])

unfoldable pub weighed_itself_listing : List ℕ
weighed_itself_listing =
    (3 ∷ 0 ∷ 3 ∷ 6 ∷ []) ++
    (50 ∷ 51 ∷ 50 ∷ 51 ∷ 50 ∷ 51 ∷ []) ++
    (0 ∷ 0 ∷ 1 ∷ 0 ∷ 2 ∷ 1 ∷ [])

-- f() spawns itself: the new process is where the old one was. f() = spawn(f); spawn(f).
unfoldable pub weighed_spawn_program : List ℕ
weighed_spawn_program =
    program_words 3 0 1
    ((11, 0) ∷ (22, 0) ∷ (6, 1) ∷ (21, 0) ∷ (1, 1) ∷ (6, 2) ∷ (21, 0) ∷ (1, 2) ∷ [])

unfoldable pub weighed_spawn_words : List ℕ
weighed_spawn_words =
    weighed_spawn_program ++
    bad_words 1
    ((40, 8) ∷ (41, 5) ∷ (43, 2) ∷ (44, 0) ∷ []) ++
    table_words
    ((0, 0) ∷ (1, 2) ∷ (2, 5) ∷ [])
    []
    ((2, 2, 8) ∷ (2, 4, 8) ∷ (5, 2, 8) ∷ (5, 4, 8) ∷ (8, 5, 8) ∷ (8, 7, 8) ∷ []) ++
    ceiling_words 0
    [] ++
    weight_words 1
    ((0, 3) ∷ (2, 3) ∷ (4, 3) ∷ (6, 0) ∷ [])

unfoldable pub weighed_spawn_listing : List ℕ
weighed_spawn_listing =
    (6 ∷ 0 ∷ 3 ∷ 9 ∷ []) ++
    (50 ∷ 51 ∷ 54 ∷ 50 ∷ 51 ∷ 54 ∷ 50 ∷ 51 ∷ 54 ∷ []) ++
    (0 ∷ 1 ∷ 0 ∷ 2 ∷ 3 ∷ 0 ∷ 4 ∷ 5 ∷ 2 ∷ [])

-- A place with two third numbers is weighed at the lighter of its counters. f(x) = x; y = self; z = f(y); z, with an
-- extra state of the body. The weights are words 69 to 73.
unfoldable pub weighed_returns_program : List ℕ
weighed_returns_program =
    program_words 4 0 1
    ((11, 0) ∷ (22, 1) ∷ (23, 1) ∷ (1, 1) ∷ (7, 2) ∷ (4, 3) ∷ (21, 0) ∷ (22, 1) ∷ (21, 2) ∷ (1, 3) ∷ [])

unfoldable pub weighed_returns_words : List ℕ
weighed_returns_words =
    weighed_returns_program ++
    bad_words 1
    ((40, 10) ∷ (41, 3) ∷ (43, 2) ∷ (44, 0) ∷ []) ++
    table_words
    ((0, 0) ∷ (1, 10) ∷ (2, 10) ∷ (3, 10) ∷ [])
    []
    ((10, 3, 5) ∷ (10, 3, 10) ∷ (10, 4, 10) ∷ (10, 5, 10) ∷ (10, 9, 10) ∷ []) ++
    ceiling_words 0
    [] ++
    weight_words 1
    ((0, 1) ∷ (1, 1) ∷ (2, 1) ∷ (3, 1) ∷ (5, 0) ∷ [])

unfoldable pub weighed_returns_listing : List ℕ
weighed_returns_listing =
    (5 ∷ 0 ∷ 3 ∷ 6 ∷ []) ++
    (50 ∷ 51 ∷ 50 ∷ 51 ∷ 50 ∷ 51 ∷ []) ++
    (0 ∷ 4 ∷ 2 ∷ 3 ∷ 3 ∷ 0 ∷ [])

-- The same, but the extra counter is absent: it weighs 0, and so does the place, whatever the minimum.
unfoldable pub weighed_absent_program : List ℕ
weighed_absent_program =
    program_words 4 0 1
    ((11, 0) ∷ (22, 1) ∷ (23, 1) ∷ (1, 1) ∷ (7, 2) ∷ (4, 3) ∷ (21, 0) ∷ (22, 1) ∷ (21, 2) ∷ (1, 3) ∷ [])

unfoldable pub weighed_absent_words : List ℕ
weighed_absent_words =
    weighed_absent_program ++
    bad_words 1
    ((40, 10) ∷ (41, 3) ∷ (43, 65535) ∷ (44, 0) ∷ []) ++
    table_words
    ((0, 0) ∷ (1, 10) ∷ (2, 10) ∷ (3, 10) ∷ [])
    []
    ((10, 3, 5) ∷ (10, 3, 10) ∷ (10, 4, 10) ∷ (10, 5, 10) ∷ (10, 9, 10) ∷ []) ++
    ceiling_words 0
    [] ++
    weight_words 1
    ((0, 1) ∷ (2, 1) ∷ (3, 1) ∷ (5, 0) ∷ [])

-- Boxes, of which one has an a: a sum and one of it are weighed together. Counters 7 and 8 are box(a) and box(b).
unfoldable pub weighed_boxes_program : List ℕ
weighed_boxes_program =
    program_words 6 3 0
    ((10, 0) ∷ (10, 0) ∷ (10, 1) ∷ (7, 0) ∷ (2, 1) ∷ (20, 0) ∷ (2, 2) ∷ (20, 2) ∷ (21, 1) ∷ (5, 3) ∷ (21, 0) ∷
    (21, 2) ∷ (2, 4) ∷ (20, 1) ∷ (2, 5) ∷ (20, 2) ∷ (21, 4) ∷ (1, 0) ∷ [])

unfoldable pub weighed_boxes_words : List ℕ
weighed_boxes_words =
    weighed_boxes_program ++
    bad_words 1
    ((40, 18) ∷ (42, 2) ∷ (43, 3) ∷ (40, 18) ∷ (42, 2) ∷ (45, 0) ∷ (43, 1) ∷ (44, 0) ∷ []) ++
    table_words
    ((0, 18) ∷ (1, 4) ∷ (2, 6) ∷ (3, 6) ∷ (4, 12) ∷ (5, 14) ∷ [])
    ((18, 6) ∷ (18, 14) ∷ [])
    ((18, 3, 18) ∷ (18, 4, 18) ∷ (18, 6, 18) ∷ (18, 9, 18) ∷ (18, 12, 18) ∷ (18, 14, 18) ∷ (18, 17, 18) ∷ []) ++
    ceiling_words 0
    [] ++
    weight_words 1
    ((0, 2) ∷ (1, 2) ∷ (2, 2) ∷ (3, 2) ∷ (7, 1) ∷ (8, 1) ∷ (9, 0) ∷ [])

unfoldable pub weighed_boxes_listing : List ℕ
weighed_boxes_listing =
    (7 ∷ 2 ∷ 6 ∷ 13 ∷ []) ++
    (50 ∷ 51 ∷ 50 ∷ 51 ∷ 50 ∷ 51 ∷ 50 ∷ 51 ∷ 53 ∷ 50 ∷ 51 ∷ 50 ∷ 51 ∷ []) ++
    (0 ∷ 1 ∷ 1 ∷ 2 ∷ 2 ∷ 3 ∷ 3 ∷ 4 ∷ 7 ∷ 4 ∷ 5 ∷ 5 ∷ 6 ∷ [])

-- The same without a weight for box(b): two of the three weigh nothing.
unfoldable pub weighed_empty_program : List ℕ
weighed_empty_program =
    program_words 6 3 0
    ((10, 0) ∷ (10, 0) ∷ (10, 1) ∷ (7, 0) ∷ (2, 1) ∷ (20, 0) ∷ (2, 2) ∷ (20, 2) ∷ (21, 1) ∷ (5, 3) ∷ (21, 0) ∷
    (21, 2) ∷ (2, 4) ∷ (20, 1) ∷ (2, 5) ∷ (20, 2) ∷ (21, 4) ∷ (1, 0) ∷ [])

unfoldable pub weighed_empty_words : List ℕ
weighed_empty_words =
    weighed_empty_program ++
    bad_words 1
    ((40, 18) ∷ (42, 2) ∷ (43, 3) ∷ (40, 18) ∷ (42, 2) ∷ (45, 0) ∷ (43, 1) ∷ (44, 0) ∷ []) ++
    table_words
    ((0, 18) ∷ (1, 4) ∷ (2, 6) ∷ (3, 6) ∷ (4, 12) ∷ (5, 14) ∷ [])
    ((18, 6) ∷ (18, 14) ∷ [])
    ((18, 3, 18) ∷ (18, 4, 18) ∷ (18, 6, 18) ∷ (18, 9, 18) ∷ (18, 12, 18) ∷ (18, 14, 18) ∷ (18, 17, 18) ∷ []) ++
    ceiling_words 0
    [] ++
    weight_words 1
    ((0, 1) ∷ (1, 1) ∷ (2, 1) ∷ (3, 1) ∷ (7, 1) ∷ (9, 0) ∷ [])

unfoldable pub verdict_cases : List VerdictCase
verdict_cases =
    -- R 0: too few rows.
    at 2 0 (to_bytes (0 ∷ 1 ∷ 0 ∷ 0 ∷ [])) ∷
    -- R 1, its least: the sizes are within limits, and the rows are missing.
    at 1 0 (to_bytes (1 ∷ 1 ∷ 0 ∷ 0 ∷ [])) ∷
    -- R 1,025, over the former most: within limits now, and the rows are missing.
    at 1 0 (to_bytes (1025 ∷ 1 ∷ 0 ∷ 0 ∷ [])) ∷
    -- R 1,536, its most.
    at 1 0 (to_bytes (1536 ∷ 1 ∷ 0 ∷ 0 ∷ [])) ∷
    -- R 1,537.
    at 2 0 (to_bytes (1537 ∷ 1 ∷ 0 ∷ 0 ∷ [])) ∷
    -- V 0: too few names.
    at 2 1 (to_bytes (1 ∷ 0 ∷ 0 ∷ 0 ∷ [])) ∷
    -- V 512, its most.
    at 1 0 (to_bytes (1 ∷ 512 ∷ 0 ∷ 0 ∷ [])) ∷
    -- V 513.
    at 2 1 (to_bytes (1 ∷ 513 ∷ 0 ∷ 0 ∷ [])) ∷
    -- C 64, its most.
    at 1 0 (to_bytes (1 ∷ 1 ∷ 64 ∷ 0 ∷ [])) ∷
    -- C 65.
    at 2 2 (to_bytes (1 ∷ 1 ∷ 65 ∷ 0 ∷ [])) ∷
    -- G 64, its most.
    at 1 0 (to_bytes (1 ∷ 1 ∷ 0 ∷ 64 ∷ [])) ∷
    -- G 65.
    at 2 3 (to_bytes (1 ∷ 1 ∷ 0 ∷ 65 ∷ [])) ∷
    -- All four at their most.
    at 1 0 (to_bytes (1536 ∷ 512 ∷ 64 ∷ 64 ∷ [])) ∷
    -- Three sizes outside their limits: the first is told.
    at 2 1 (to_bytes (1 ∷ 0 ∷ 65 ∷ 65 ∷ [])) ∷
    -- A size outside its limits, but the sizes are not whole.
    at 1 0 (to_bytes (1 ∷ 1 ∷ 65 ∷ [])) ∷
    -- Nothing behind the program: the bads are not whole.
    at 1 6 (to_bytes (bads_sizes_words ++ [])) ∷
    -- One size alone: the sizes are not whole, whatever it says.
    at 1 6 (to_bytes (bads_sizes_words ++ (0 ∷ []))) ∷
    -- B 0: too few bads.
    at 2 6 (to_bytes (bads_sizes_words ++ (0 ∷ 4 ∷ []))) ∷
    -- B 1 and four rows, their least: the rows are missing.
    at 1 6 (to_bytes (bads_sizes_words ++ (1 ∷ 4 ∷ []))) ∷
    -- B 16, its most.
    at 1 6 (to_bytes (bads_sizes_words ++ (16 ∷ 4 ∷ []))) ∷
    -- B 17.
    at 2 6 (to_bytes (bads_sizes_words ++ (17 ∷ 4 ∷ []))) ∷
    -- Three rows of bads: too few.
    at 2 7 (to_bytes (bads_sizes_words ++ (1 ∷ 3 ∷ []))) ∷
    -- 256 rows of bads, the most.
    at 1 6 (to_bytes (bads_sizes_words ++ (1 ∷ 256 ∷ []))) ∷
    -- 257 rows of bads.
    at 2 7 (to_bytes (bads_sizes_words ++ (1 ∷ 257 ∷ []))) ∷
    -- Both outside their limits: the first is told.
    at 2 6 (to_bytes (bads_sizes_words ++ (17 ∷ 257 ∷ []))) ∷
    -- Two sizes alone: not whole.
    at 1 16 (to_bytes (tables_sizes_words ++ (0 ∷ 0 ∷ []))) ∷
    -- F 4,096, its most.
    at 1 16 (to_bytes (tables_sizes_words ++ (4096 ∷ 0 ∷ 0 ∷ []))) ∷
    -- F 4,097.
    at 2 16 (to_bytes (tables_sizes_words ++ (4097 ∷ 0 ∷ 0 ∷ []))) ∷
    -- M 512, its most.
    at 1 16 (to_bytes (tables_sizes_words ++ (0 ∷ 512 ∷ 0 ∷ []))) ∷
    -- M 513.
    at 2 17 (to_bytes (tables_sizes_words ++ (0 ∷ 513 ∷ 0 ∷ []))) ∷
    -- S 513, over the former most: within limits now, and the lists are missing.
    at 1 16 (to_bytes (tables_sizes_words ++ (0 ∷ 0 ∷ 513 ∷ []))) ∷
    -- S 1,024, its most.
    at 1 16 (to_bytes (tables_sizes_words ++ (0 ∷ 0 ∷ 1024 ∷ []))) ∷
    -- S 1,025.
    at 2 18 (to_bytes (tables_sizes_words ++ (0 ∷ 0 ∷ 1025 ∷ []))) ∷
    -- All three at their most.
    at 1 16 (to_bytes (tables_sizes_words ++ (4096 ∷ 512 ∷ 1024 ∷ []))) ∷
    -- Two outside their limits: the first is told.
    at 2 17 (to_bytes (tables_sizes_words ++ (4096 ∷ 513 ∷ 1025 ∷ []))) ∷
    -- One size alone: not whole.
    at 1 19 (to_bytes (ceilings_sizes_words ++ (0 ∷ []))) ∷
    -- K 256, its most.
    at 1 19 (to_bytes (ceilings_sizes_words ++ (256 ∷ 1 ∷ []))) ∷
    -- K 257.
    at 2 19 (to_bytes (ceilings_sizes_words ++ (257 ∷ 1 ∷ []))) ∷
    -- 8,192 entries, the most.
    at 1 19 (to_bytes (ceilings_sizes_words ++ (0 ∷ 8192 ∷ []))) ∷
    -- 8,193 entries.
    at 2 20 (to_bytes (ceilings_sizes_words ++ (0 ∷ 8193 ∷ []))) ∷
    -- No ceilings, no entries: all parts are whole. Name 0 is never bound.
    at 4 1 (to_bytes (ceilings_sizes_words ++ (0 ∷ 0 ∷ []))) ∷
    -- A word more: bytes remain.
    at 1 21 (to_bytes (ceilings_sizes_words ++ (0 ∷ 0 ∷ 0 ∷ []))) ∷
    -- 3, a tag: the first row is to have tag 10.
    at 3 4 (to_bytes (changed station_a_words ((4, 11) ∷ []))) ∷
    -- 3: a build binds a name from V up.
    at 3 6 (to_bytes (changed station_a_words ((16, 3) ∷ []))) ∷
    -- 3: a send does.
    at 3 8 (to_bytes (changed station_a_words ((18, 3) ∷ []))) ∷
    -- 3: no expression begins with tag 12.
    at 3 8 (to_bytes (changed station_a_words ((8, 12) ∷ []))) ∷
    -- 3: with C 0 the first row is to begin the start expression.
    at 3 4 (to_bytes (changed station_a_words ((2, 0) ∷ []))) ∷
    -- 3: with C 2 the second row is to be a constructor's.
    at 3 5 (to_bytes (changed station_a_words ((2, 2) ∷ []))) ∷
    -- 3: with G 1 the second row is to be a function's.
    at 3 5 (to_bytes (changed station_a_words ((3, 1) ∷ []))) ∷
    -- 3, a number: there are names 0 to 2.
    at 3 5 (to_bytes (changed station_a_words ((15, 3) ∷ []))) ∷
    -- 3: there is constructor 0 alone.
    at 3 7 (to_bytes (changed station_a_words ((17, 1) ∷ []))) ∷
    -- 3: the target of a send has tag 21.
    at 3 9 (to_bytes (changed station_a_words ((9, 22) ∷ []))) ∷
    -- 3: a name read is below V.
    at 3 9 (to_bytes (changed station_a_words ((19, 3) ∷ []))) ∷
    -- 3: the any-pattern has number 0.
    at 3 12 (to_bytes (changed station_a_words ((12, 32) ∷ (22, 1) ∷ []))) ∷
    -- 3: a pattern's name is below V.
    at 3 12 (to_bytes (changed station_a_words ((12, 30) ∷ (22, 3) ∷ []))) ∷
    -- 3: a pattern's constructor is below C.
    at 3 12 (to_bytes (changed station_a_words ((22, 1) ∷ []))) ∷
    -- 3: the rows end early, at 4 + R.
    at 3 14 (to_bytes (changed station_a_words ((13, 7) ∷ []))) ∷
    -- 3: a row behind the end of the start expression.
    at 3 12 (to_bytes (changed station_a_words ((11, 1) ∷ (21, 0) ∷ []))) ∷
    -- 3: the first wrong row, not the first wrong word.
    at 3 5 (to_bytes (changed station_a_words ((8, 12) ∷ (15, 3) ∷ []))) ∷
    -- 4: name 3 is never bound.
    at 4 1 (to_bytes (changed station_a_words ((1, 4) ∷ []))) ∷
    -- 4: bound again comes before never bound.
    at 4 8 (to_bytes (changed station_a_words ((1, 4) ∷ (18, 1) ∷ []))) ∷
    -- 4 comes before 5.
    at 4 8 (to_bytes (changed station_a_words ((18, 1) ∷ (19, 2) ∷ []))) ∷
    -- 5: the first row that reads a name outside its scope; row 6 reads the send's own name.
    at 5 10 (to_bytes (changed station_a_words ((19, 1) ∷ (20, 2) ∷ []))) ∷
    -- 5: a send's name holds in its rest, not in its own rows.
    at 5 10 (to_bytes (changed station_a_words ((20, 2) ∷ []))) ∷
    -- 6, form: a bad begins with tag 40.
    at 6 26 (to_bytes (changed station_a_words ((26, 41) ∷ []))) ∷
    -- 6, class: row 9 is no spawn, nor is it R.
    at 6 26 (to_bytes (changed station_a_words ((30, 9) ∷ []))) ∷
    -- 6: a row past R is no class.
    at 6 26 (to_bytes (changed station_a_words ((30, 11) ∷ []))) ∷
    -- 6, form: a head or a letter is to follow the class.
    at 6 27 (to_bytes (changed station_a_words ((27, 43) ∷ []))) ∷
    -- 6 does not say: letter 1 is C, a function. The bad is not met.
    at 0 0 (to_bytes (changed station_a_words ((31, 1) ∷ []))) ∷
    -- 6 does not say: letter 2 is C + 1, an address. The bad is not met.
    at 0 0 (to_bytes (changed station_a_words ((31, 2) ∷ []))) ∷
    -- 6, letter: there are letters 0 to C + 1.
    at 6 27 (to_bytes (changed station_a_words ((31, 3) ∷ []))) ∷
    -- 6 does not say: row 9 is a head.
    at 0 0 (to_bytes (changed station_a_words ((27, 41) ∷ (31, 9) ∷ []))) ∷
    -- 6, head: row 8 is a pattern.
    at 6 27 (to_bytes (changed station_a_words ((27, 41) ∷ (31, 8) ∷ []))) ∷
    -- 6: there is no row R.
    at 6 27 (to_bytes (changed station_a_words ((27, 41) ∷ (31, 10) ∷ []))) ∷
    -- 6, form: a minimum is to follow.
    at 6 28 (to_bytes (changed station_a_words ((28, 44) ∷ []))) ∷
    -- 6: a minimum is from 1.
    at 6 28 (to_bytes (changed station_a_words ((32, 0) ∷ []))) ∷
    -- 6 does not say: the highest minimum.
    at 0 0 (to_bytes (changed station_a_words ((32, 65535) ∷ []))) ∷
    -- 6, form: another item or the end is to follow.
    at 6 29 (to_bytes (changed station_a_words ((29, 43) ∷ []))) ∷
    -- 6: the end has number 0.
    at 6 29 (to_bytes (changed station_a_words ((33, 1) ∷ []))) ∷
    -- 6: a bad without an item.
    at 6 26 (to_bytes (changed station_a_words ((26, 44) ∷ (30, 0) ∷ []))) ∷
    -- 6: not B bads, one is missing: the word past the tags.
    at 6 30 (to_bytes (changed station_a_words ((24, 2) ∷ []))) ∷
    -- 6: the rows end early, in an item.
    at 6 30 (to_bytes (changed station_a_words ((29, 40) ∷ (33, 10) ∷ []))) ∷
    -- 6 comes before 7.
    at 6 26 (to_bytes (changed station_a_words ((26, 41) ∷ (37, 3) ∷ []))) ∷
    -- 7: there are names 0 to 2.
    at 7 39 (to_bytes (changed station_a_words ((39, 3) ∷ []))) ∷
    -- 7: row 1 is no value.
    at 7 37 (to_bytes (changed station_a_words ((46, 1) ∷ []))) ∷
    -- 7: a row past R is no value.
    at 7 37 (to_bytes (changed station_a_words ((46, 11) ∷ []))) ∷
    -- 7: a constructor's row is no value.
    at 7 38 (to_bytes (changed station_a_words ((47, 0) ∷ []))) ∷
    -- 7: (0, 2) behind (0, 10): not above in the second column.
    at 7 38 (to_bytes (changed station_a_words ((38, 0) ∷ []))) ∷
    -- 7: the same entry twice.
    at 7 38 (to_bytes (changed station_a_words ((38, 0) ∷ (47, 10) ∷ []))) ∷
    -- 7: (1, 10) before (1, 2): the entry that is not above is told.
    at 7 38 (to_bytes (changed station_a_words ((37, 1) ∷ []))) ∷
    -- 7: (2, 10) before (1, 2): not above in the first column.
    at 7 38 (to_bytes (changed station_a_words ((37, 2) ∷ []))) ∷
    -- 7, mail: row 9 is no class.
    at 7 40 (to_bytes (changed station_a_words ((40, 9) ∷ []))) ∷
    -- 7, mail: 0 is a name and not a class.
    at 7 40 (to_bytes (changed station_a_words ((40, 0) ∷ (49, 10) ∷ []))) ∷
    -- 7, mail: row 3 is no value.
    at 7 40 (to_bytes (changed station_a_words ((49, 3) ∷ []))) ∷
    -- 7, states: row 9 is no class.
    at 7 41 (to_bytes (changed station_a_words ((41, 9) ∷ []))) ∷
    -- 7, states: row 0 is no head.
    at 7 41 (to_bytes (changed station_a_words ((50, 0) ∷ []))) ∷
    -- 7, states: there is no row R.
    at 7 41 (to_bytes (changed station_a_words ((50, 10) ∷ []))) ∷
    -- 7, states: the same state twice.
    at 7 42 (to_bytes (changed station_a_words ((51, 1) ∷ []))) ∷
    -- 7, states: below the one before.
    at 7 45 (to_bytes (changed station_a_words ((54, 4) ∷ []))) ∷
    -- 7: the lists in their order.
    at 7 40 (to_bytes (changed station_a_words ((40, 9) ∷ (41, 9) ∷ []))) ∷
    -- 7: the first in its list.
    at 7 37 (to_bytes (changed station_a_words ((46, 1) ∷ (47, 0) ∷ []))) ∷
    -- 7: the first over all lists.
    at 7 39 (to_bytes (changed station_a_words ((39, 3) ∷ (40, 9) ∷ []))) ∷
    -- 7 comes before 8.
    at 7 42 (to_bytes (changed station_a_words ((50, 7) ∷ (51, 7) ∷ (52, 9) ∷ []))) ∷
    -- 7: a pattern's row is no head.
    at 7 45 (to_bytes (changed station_a_words ((54, 8) ∷ []))) ∷
    -- 7, the third array: row 4 is no call.
    at 7 41 (to_bytes (changed station_a_words ((55, 4) ∷ []))) ∷
    -- 7, the third array: a row past R.
    at 7 45 (to_bytes (changed station_a_words ((59, 11) ∷ []))) ∷
    -- 7: one place for all three columns.
    at 7 41 (to_bytes (changed station_a_words ((50, 0) ∷ (55, 4) ∷ []))) ∷
    -- 8: x does not hold its class, so state 0 lacks it.
    at 8 41 (to_bytes (changed station_a_words ((37, 1) ∷ (46, 2) ∷ (38, 2) ∷ (47, 2) ∷ (39, 2) ∷ (48, 10) ∷ []))) ∷
    -- 10: a limit is at least 1.
    at 10 62 (to_bytes (changed station_a_words ((73, 0) ∷ []))) ∷
    -- 10: the closing entry has limit 0.
    at 10 63 (to_bytes (changed station_a_words ((74, 1) ∷ []))) ∷
    -- 10: there are counters 0 to 5, and 6 closes.
    at 10 62 (to_bytes (changed station_a_words ((62, 7) ∷ []))) ∷
    -- 10: a counter number again.
    at 10 69 (to_bytes (changed station_a_words ((69, 3) ∷ []))) ∷
    -- 10: a counter number that falls.
    at 10 69 (to_bytes (changed station_a_words ((69, 2) ∷ []))) ∷
    -- 10: not K ceilings, one is missing: the word past the counter numbers.
    at 10 73 (to_bytes (changed station_a_words ((60, 6) ∷ []))) ∷
    -- 10: an entry behind K ceilings.
    at 10 71 (to_bytes (changed station_a_words ((60, 4) ∷ []))) ∷
    -- 10: the entries end early, in a ceiling.
    at 10 73 (to_bytes (changed station_a_words ((72, 5) ∷ (83, 1) ∷ []))) ∷
    -- 10 comes before 12.
    at 10 62 (to_bytes (changed station_a_words ((73, 0) ∷ (32, 1) ∷ []))) ∷
    -- 11: the first ceiling holds another state: the start is under none.
    at 11 60 (to_bytes (changed station_a_words ((62, 1) ∷ []))) ∷
    -- 11 comes before 12.
    at 11 60 (to_bytes (changed station_a_words ((62, 1) ∷ (32, 1) ∷ []))) ∷
    -- 12 comes before 13: the ceiling with the message allows the bad.
    at 12 26 (to_bytes (changed station_a_words ((32, 1) ∷ (80, 65535) ∷ []))) ∷
    -- 13: an unbounded start, of which one leads to two at the second state.
    at 13 62 (to_bytes (changed station_a_words ((73, 65535) ∷ []))) ∷
    -- 13: two processes at the receive, and each goes on alone.
    at 13 68 (to_bytes (changed station_a_words ((79, 2) ∷ []))) ∷
    -- 12: an unbounded letter allows every minimum.
    at 12 26 (to_bytes (changed station_a_words ((80, 65535) ∷ []))) ∷
    -- A message and a process at the receive: both items are met, and the bad's first tag is told.
    at 12 30 (to_bytes (changed two_bads_words ((45, 7) ∷ []))) ∷
    -- Of its two items one is not met: two processes at the receive.
    at 0 0 (to_bytes (changed two_bads_words ((45, 7) ∷ (46, 2) ∷ []))) ∷
    -- A process at row 2 never meets a message.
    at 0 0 (to_bytes (changed two_bads_words ((45, 2) ∷ []))) ∷
    -- The first bad is met: it is told, not the second.
    at 12 26 (to_bytes (changed two_bads_words ((39, 1) ∷ []))) ∷
    -- Both are met: the first is told.
    at 12 26 (to_bytes (changed two_bads_words ((39, 1) ∷ (45, 7) ∷ []))) ∷
    -- 6: a row behind B bads.
    at 6 30 (to_bytes (changed two_bads_words ((24, 1) ∷ []))) ∷
    -- 6: the rows end before B bads.
    at 6 37 (to_bytes (changed two_bads_words ((24, 3) ∷ []))) ∷
    -- 6: a bad of no item behind a whole one.
    at 6 30 (to_bytes (changed two_bads_words ((30, 44) ∷ (41, 0) ∷ []))) ∷
    -- 6: an item is to have its minimum.
    at 6 32 (to_bytes (changed two_bads_words ((32, 44) ∷ (43, 0) ∷ []))) ∷
    -- 6: the bad ends, and a row behind B bads is a head's.
    at 6 34 (to_bytes (changed two_bads_words ((33, 44) ∷ (44, 0) ∷ []))) ∷
    -- 6: a second item's class is looked at too.
    at 6 33 (to_bytes (changed two_bads_words ((44, 9) ∷ []))) ∷
    -- 6: a second item's head is looked at too.
    at 6 34 (to_bytes (changed two_bads_words ((45, 3) ∷ []))) ∷
    -- 6: a second item's minimum is from 1.
    at 6 35 (to_bytes (changed two_bads_words ((46, 0) ∷ []))) ∷
    -- 65,535 means unbounded: nothing leads out.
    at 0 0 (to_bytes (changed unbounded_words ((32, 65535) ∷ []))) ∷
    -- 65,534 is a limit: one more message leads out of it.
    at 13 62 (to_bytes (changed unbounded_words ((74, 65534) ∷ []))) ∷
    -- A limit on a state that nothing leads to.
    at 0 0 (to_bytes (changed unbounded_words ((69, 65534) ∷ []))) ∷
    -- An unbounded letter meets the highest minimum.
    at 12 26 (to_bytes (changed unbounded_words ((31, 0) ∷ (32, 65535) ∷ []))) ∷
    -- Its limit is one below the minimum: the bad is not met, and 13 tells the leak.
    at 13 62 (to_bytes (changed unbounded_words ((31, 0) ∷ (32, 65535) ∷ (74, 65534) ∷ []))) ∷
    -- Its limit is the minimum.
    at 12 26 (to_bytes (changed unbounded_words ((31, 0) ∷ (32, 65534) ∷ (74, 65534) ∷ []))) ∷
    -- When one has gone on, any number is still at the start, and so more than 65,534: 13 at the first ceiling.
    at 13 62 (to_bytes one_taken_words) ∷
    -- With a second ceiling that is unbounded there too nothing leads out.
    at 0 0 (to_bytes (changed one_taken_words ((73, 65535) ∷ []))) ∷
    -- Arity 8, the most: the rows are a program, and the first state is missing: 8 at size F.
    at 8 40 (to_bytes arity_of_eight_words) ∷
    -- Arity 9: 3 at the constructor's row.
    at 3 4 (to_bytes (changed arity_of_eight_words ((17, 9) ∷ []))) ∷
    -- Arity 7: the eighth argument is a row too many, and no expression.
    at 3 15 (to_bytes (changed arity_of_eight_words ((17, 7) ∷ []))) ∷
    -- 8 parameters, the most: the function's own row is missing in the flow: 8 at size F.
    at 8 38 (to_bytes eight_parameters_words) ∷
    -- 9 parameters: 3 at their count.
    at 3 5 (to_bytes (changed eight_parameters_words ((17, 9) ∷ []))) ∷
    -- 9 arguments: 3 at their count.
    at 3 10 (to_bytes (changed eight_arguments_words ((26, 9) ∷ []))) ∷
    -- 3: a call binds a name from V up.
    at 3 8 (to_bytes (changed eight_arguments_words ((24, 3) ∷ []))) ∷
    -- 16 branches of either, the most.
    at 8 148 (to_bytes sixteen_branches_words) ∷
    -- 17 branches of a case: 3 at their count.
    at 3 6 (to_bytes (changed sixteen_branches_words ((73, 17) ∷ []))) ∷
    -- 17 branches of a receive: 3 at the receive.
    at 3 8 (to_bytes (changed sixteen_branches_words ((75, 17) ∷ []))) ∷
    -- A case without branches: 3 at their count.
    at 3 6 (to_bytes (changed sixteen_branches_words ((73, 0) ∷ []))) ∷
    -- A receive without branches: 3 at the receive.
    at 3 8 (to_bytes (changed sixteen_branches_words ((75, 0) ∷ []))) ∷
    -- One branch, the least: the row behind it is too many.
    at 3 41 (to_bytes (changed sixteen_branches_words ((73, 1) ∷ []))) ∷
    -- Depth 4, the most, by a name.
    at 8 34 (to_bytes depth_four_words) ∷
    -- Depth 4 by the any-pattern: then name 1 is never bound.
    at 4 1 (to_bytes (changed depth_four_words ((12, 32) ∷ (22, 0) ∷ []))) ∷
    -- Depth 4 by a constructor without arguments: then name 1 is never bound.
    at 4 1 (to_bytes (changed depth_four_words ((12, 31) ∷ (22, 1) ∷ []))) ∷
    -- Depth 5 would follow: 3 at the row where it begins.
    at 3 13 (to_bytes (changed depth_four_words ((12, 31) ∷ (22, 0) ∷ []))) ∷
    -- Depth 5 by a name: 3 at its row.
    at 3 13 (to_bytes depth_five_words) ∷
    -- Depth 5 by the any-pattern.
    at 3 13 (to_bytes (changed depth_five_words ((13, 32) ∷ (24, 0) ∷ []))) ∷
    -- Depth 5 by a constructor without arguments.
    at 3 13 (to_bytes (changed depth_five_words ((13, 31) ∷ (24, 1) ∷ []))) ∷
    -- A parameter of the outer function holds in the inner one too.
    at 0 0 (to_bytes (changed scopes_words ((25, 1) ∷ []))) ∷
    -- 5: a function's name does not hold in its own body.
    at 5 10 (to_bytes (changed scopes_words ((25, 2) ∷ []))) ∷
    -- 5: a parameter does not hold behind its body.
    at 5 11 (to_bytes (changed scopes_words ((26, 3) ∷ []))) ∷
    -- A function's name holds in its rest.
    at 0 0 (to_bytes (changed scopes_words ((26, 2) ∷ []))) ∷
    -- A tag 11 name holds in its own body.
    at 0 0 (to_bytes (changed scopes_words ((26, 0) ∷ []))) ∷
    -- 5: a pattern's name does not hold in the next branch.
    at 5 18 (to_bytes (changed scopes_words ((33, 5) ∷ []))) ∷
    -- 5: nor in the case's own row.
    at 5 13 (to_bytes (changed scopes_words ((28, 5) ∷ []))) ∷
    -- 5: a parameter does not hold in the start expression.
    at 5 18 (to_bytes (changed scopes_words ((33, 1) ∷ []))) ∷
    -- A tag 11 name holds in the start expression; but then the name of the first branch is to hold its row, which 8
    -- tells.
    at 8 51 (to_bytes (changed scopes_words ((28, 0) ∷ []))) ∷
    -- 4: a parameter binds a tag 11 name again.
    at 4 9 (to_bytes (changed scopes_words ((24, 0) ∷ []))) ∷
    -- 3: a tag 11 row binds a name from V up.
    at 3 4 (to_bytes (changed scopes_words ((19, 6) ∷ []))) ∷
    -- 3: a parameter does.
    at 3 6 (to_bytes (changed scopes_words ((21, 6) ∷ []))) ∷
    -- 3: a function row does.
    at 3 7 (to_bytes (changed scopes_words ((22, 6) ∷ []))) ∷
    -- 3: a case reads one.
    at 3 13 (to_bytes (changed scopes_words ((28, 6) ∷ []))) ∷
    -- 3: giving back reads one.
    at 3 18 (to_bytes (changed scopes_words ((33, 6) ∷ []))) ∷
    -- 3: a spawn binds a name from V up.
    at 3 7 (to_bytes (changed spawned_name_words ((13, 2) ∷ []))) ∷
    -- A held name that is in scope at the receive: what is refused is the tables.
    at 8 28 (to_bytes held_scope_words) ∷
    -- A name of the same pattern, bound before it.
    at 5 9 (to_bytes (changed held_scope_words ((16, 1) ∷ []))) ∷
    -- The held name before the one that binds it, in the same pattern.
    at 5 8 (to_bytes (changed held_scope_words ((8, 33) ∷ (9, 30) ∷ (15, 1) ∷ (16, 1) ∷ []))) ∷
    -- No such name: the row is wrong.
    at 3 9 (to_bytes (changed held_scope_words ((16, 2) ∷ []))) ∷
    -- Two held names: name 1 is never bound.
    at 4 1 (to_bytes (changed held_scope_words ((8, 33) ∷ (15, 0) ∷ []))) ∷
    -- In the place of the constructor a held name is a whole pattern: what follows is no expression.
    at 3 8 (to_bytes (changed held_scope_words ((7, 33) ∷ (14, 0) ∷ []))) ∷
    -- Depth 4: what is refused is the tables.
    at 8 30 (to_bytes held_depth_words) ∷
    -- Depth 5: the row is wrong.
    at 3 11 (to_bytes held_too_deep_words) ∷
    -- 22 at the function's mail entry, though no ceiling holds the start and no bad speaks of functions.
    at 22 38 (to_bytes mailed_function_words) ∷
    -- 22 at its mail entry; (42, C) in the bad is in form.
    at 22 38 (to_bytes mailed_front_words) ∷
    -- The first mail entry is the a: 22 at the second.
    at 22 51 (to_bytes mailed_second_words) ∷
    -- Two mail entries are functions: 22 at the first of them in the list, which goes by class.
    at 22 57 (to_bytes mailed_twice_words) ∷
    -- No run puts the function there: 22 all the same, as every entry of the list counts.
    at 22 29 (to_bytes mailed_extra_words) ∷
    -- 22 comes before 10.
    at 22 29 (to_bytes (changed mailed_extra_words ((41, 2) ∷ []))) ∷
    -- 8 comes before 22: the name of self does not hold the own address.
    at 8 30 (to_bytes (changed mailed_extra_words ((33, 0) ∷ []))) ∷
    -- 7 comes before 22: row 1 is no value.
    at 7 29 (to_bytes (changed mailed_extra_words ((34, 1) ∷ []))) ∷
    -- An address in its place has a counter, the third: 10, as the ceiling is not closed by it.
    at 10 43 (to_bytes (changed mailed_extra_words ((34, 5) ∷ []))) ∷
    -- 6: there are letters C and C + 1 alone.
    at 6 17 (to_bytes (changed mailed_no_letter_words ((21, 2) ∷ []))) ∷
    -- The body with R: the call lacks its state.
    at 8 43 (to_bytes (changed returns_third_words ((53, 10) ∷ []))) ∷
    -- 7: row 4 is no call.
    at 7 41 (to_bytes (changed returns_third_words ((53, 4) ∷ []))) ∷
    -- 7: a function's row is no call.
    at 7 41 (to_bytes (changed returns_third_words ((53, 0) ∷ []))) ∷
    -- 7: a row of the call is not the call.
    at 7 41 (to_bytes (changed returns_third_words ((53, 6) ∷ []))) ∷
    -- 7: a row past R.
    at 7 41 (to_bytes (changed returns_third_words ((53, 11) ∷ []))) ∷
    -- 7: the give back itself is no call.
    at 7 44 (to_bytes (changed returns_third_words ((56, 9) ∷ []))) ∷
    -- The start with the call's row: an opening entry is missing.
    at 8 34 (to_bytes (changed returns_third_words ((54, 5) ∷ []))) ∷
    -- What comes behind the call with the call's row: the give back, which is the first state, lacks it.
    at 8 41 (to_bytes (changed returns_third_words ((56, 5) ∷ []))) ∷
    -- The call itself with its own row: the give back wants what comes behind it with that row.
    at 8 41 (to_bytes (changed returns_third_words ((55, 5) ∷ []))) ∷
    -- 7: the third numbers of one class and head are the same.
    at 7 45 (to_bytes (changed returns_extra_words ((58, 10) ∷ []))) ∷
    -- 7: they fall.
    at 7 45 (to_bytes (changed returns_extra_words ((58, 10) ∷ (59, 5) ∷ []))) ∷
    -- The call with its own row alone: self lacks the call with R.
    at 8 42 (to_bytes (changed returns_extra_words ((57, 5) ∷ []))) ∷
    -- 12: one process there is enough, with R or with the call's row.
    at 12 26 (to_bytes (changed returns_extra_words ((32, 1) ∷ []))) ∷
    -- 8 at the sixth state, which gives back: z does not hold the function.
    at 8 56 (to_bytes returns_extra_open_words) ∷
    -- 40,000 and 40,000 do.
    at 12 26 (to_bytes (changed returns_summed_words ((75, 40000) ∷ []))) ∷
    -- 40,000 and 25,535 do, just so.
    at 12 26 (to_bytes (changed returns_summed_words ((75, 25535) ∷ []))) ∷
    -- 40,000 and 25,534 do not.
    at 0 0 (to_bytes (changed returns_summed_words ((75, 25534) ∷ []))) ∷
    -- 65,534 and 1 do, though neither is unbounded.
    at 12 26 (to_bytes (changed returns_summed_words ((74, 65534) ∷ (75, 1) ∷ []))) ∷
    -- An unbounded one does.
    at 12 26 (to_bytes (changed returns_summed_words ((75, 65535) ∷ []))) ∷
    -- The other one does.
    at 12 26 (to_bytes (changed returns_summed_words ((74, 65535) ∷ (75, 1) ∷ []))) ∷
    -- 40,000 and 20,000 meet 40,001, though neither does alone.
    at 12 26 (to_bytes (changed returns_summed_words ((32, 40001) ∷ []))) ∷
    -- 7: the third numbers of one class and head fall.
    at 7 42 (to_bytes (changed returns_summed_words ((55, 10) ∷ (56, 5) ∷ []))) ∷
    -- 7: they are the same.
    at 7 42 (to_bytes (changed returns_summed_words ((56, 5) ∷ []))) ∷
    -- 12: at the give back of the start there is one.
    at 12 16 (to_bytes (changed returns_no_counter_words ((21, 4) ∷ []))) ∷
    -- 12: a ceiling that names it allows the bad.
    at 12 16 (to_bytes (changed returns_a_counter_words ((42, 0) ∷ (43, 1) ∷ []))) ∷
    -- 1 at the tables: two columns are there, the third array is not.
    at 1 34 (to_bytes (returns_lengths_words ++ (3 ∷ 1 ∷ 5 ∷ 0 ∷ 1 ∷ 2 ∷ 10 ∷ 10 ∷ 10 ∷ 10 ∷ 10 ∷ 10 ∷ 10 ∷ 2 ∷ 2 ∷
    2 ∷ 1 ∷ 2 ∷ 4 ∷ 7 ∷ 9 ∷ []))) ∷
    -- 1 at the tables: the third array lacks a word.
    at 1 34 (to_bytes (returns_lengths_words ++ (3 ∷ 1 ∷ 5 ∷ 0 ∷ 1 ∷ 2 ∷ 10 ∷ 10 ∷ 10 ∷ 10 ∷ 10 ∷ 10 ∷ 10 ∷ 2 ∷ 2 ∷
    2 ∷ 1 ∷ 2 ∷ 4 ∷ 7 ∷ 9 ∷ 10 ∷ 10 ∷ 10 ∷ 10 ∷ []))) ∷
    -- 1 at the ceilings: the tables are whole.
    at 1 60 (to_bytes (returns_lengths_words ++ (3 ∷ 1 ∷ 5 ∷ 0 ∷ 1 ∷ 2 ∷ 10 ∷ 10 ∷ 10 ∷ 10 ∷ 10 ∷ 10 ∷ 10 ∷ 2 ∷ 2 ∷
    2 ∷ 1 ∷ 2 ∷ 4 ∷ 7 ∷ 9 ∷ 10 ∷ 10 ∷ 10 ∷ 10 ∷ 10 ∷ []))) ∷
    -- A word more: 1 at 84.
    at 1 84 (to_bytes (returns_a_words ++ (0 ∷ []))) ∷
    -- 11 at 60.
    at 11 60 (to_bytes returns_a_first_gone_words) ∷
    -- 13 at 68.
    at 13 68 (to_bytes returns_a_last_gone_words) ∷
    -- 13 at 62.
    at 13 62 (to_bytes returns_a_65534_words) ∷
    -- One such pair meets the bad.
    at 12 28 (to_bytes (changed letter_heads_words ((38, 1) ∷ []))) ∷
    -- A pair whose first head is a function has no counter: the bad is not met.
    at 0 0 (to_bytes (changed letter_heads_words ((36, 2) ∷ (38, 1) ∷ []))) ∷
    -- 6: heads go from 0 to C + 1.
    at 6 31 (to_bytes (changed letter_heads_words ((37, 4) ∷ []))) ∷
    -- 6: a minimum where the second head is to stand.
    at 6 31 (to_bytes (changed letter_heads_words ((31, 43) ∷ (37, 1) ∷ []))) ∷
    -- 6: no heads, and one behind the minimum.
    at 6 31 (to_bytes (changed letter_heads_words ((30, 43) ∷ (36, 1) ∷ []))) ∷
    -- 6: a third head of two arguments.
    at 6 32 (to_bytes (changed letter_heads_words ((32, 45) ∷ (38, 0) ∷ []))) ∷
    -- 6: none behind a constructor without arguments.
    at 6 30 (to_bytes (changed letter_heads_words ((35, 1) ∷ []))) ∷
    -- 6: none behind C, a function.
    at 6 30 (to_bytes (changed letter_heads_words ((35, 2) ∷ []))) ∷
    -- 6: none behind C + 1, an address.
    at 6 30 (to_bytes (changed letter_heads_words ((35, 3) ∷ []))) ∷
    -- 6: none behind a place.
    at 6 30 (to_bytes (changed letter_heads_words ((29, 41) ∷ (35, 10) ∷ []))) ∷
    -- 40,000 and 25,535 do.
    at 12 34 (to_bytes (changed heads_summed_words ((93, 25535) ∷ []))) ∷
    -- 40,000 and 40,000 do.
    at 12 34 (to_bytes (changed heads_summed_words ((93, 40000) ∷ []))) ∷
    -- An unbounded one does.
    at 12 34 (to_bytes (changed heads_summed_words ((93, 65535) ∷ []))) ∷
    -- The send wants its mail all the same.
    at 8 53 (to_bytes (changed no_letter_words ((62, 14) ∷ []))) ∷
    -- And its name to hold the message.
    at 8 53 (to_bytes (changed no_letter_words ((60, 14) ∷ []))) ∷
    -- 9: over 1,024 counters.
    at 9 48 (to_bytes letter_limit_words) ∷
    -- 9: it is refused without a list of them.
    at 9 54 (to_bytes letter_product_words) ∷
    -- 11: no byte is left, so there are no weights and no ceiling.
    at 11 60 (to_bytes weights_sizes_words) ∷
    -- 1: one odd byte is left; the fifth part is not whole.
    at 1 62 (to_bytes weights_sizes_words ++ (0 ∷ [])) ∷
    -- 1: one size alone.
    at 1 62 (to_bytes (weights_sizes_words ++ (1 ∷ []))) ∷
    -- 2: W is at least 1.
    at 2 62 (to_bytes (weights_sizes_words ++ (0 ∷ 0 ∷ []))) ∷
    -- 16: E may be 0, but then the line is not there.
    at 16 64 (to_bytes (weights_sizes_words ++ (1 ∷ 0 ∷ []))) ∷
    -- 16: W 16, its most, but the lines are not there.
    at 16 64 (to_bytes (weights_sizes_words ++ (16 ∷ 0 ∷ []))) ∷
    -- 2: W 17.
    at 2 62 (to_bytes (weights_sizes_words ++ (17 ∷ 0 ∷ []))) ∷
    -- 1: E 8,192, its most, but the columns are missing.
    at 1 62 (to_bytes (weights_sizes_words ++ (1 ∷ 8192 ∷ []))) ∷
    -- 2: E 8,193.
    at 2 63 (to_bytes (weights_sizes_words ++ (1 ∷ 8193 ∷ []))) ∷
    -- 2: both sizes are wrong, the first is told.
    at 2 62 (to_bytes (weights_sizes_words ++ (0 ∷ 8193 ∷ []))) ∷
    -- 18: one line that weighs nothing.
    at 18 26 (to_bytes (weights_sizes_words ++ (1 ∷ 1 ∷ 6 ∷ 0 ∷ []))) ∷
    -- 1: the second column is missing.
    at 1 62 (to_bytes (weights_sizes_words ++ (1 ∷ 1 ∷ 6 ∷ []))) ∷
    -- 1: one odd byte behind the weights.
    at 1 74 (to_bytes weighed_words ++ (7 ∷ [])) ∷
    -- 1: a word behind the weights.
    at 1 74 (to_bytes (weighed_words ++ (0 ∷ []))) ∷
    -- 2: W 0.
    at 2 62 (to_bytes (changed weighed_words ((62, 0) ∷ []))) ∷
    -- 2: E 8,193.
    at 2 63 (to_bytes (changed weighed_words ((63, 8193) ∷ []))) ∷
    -- 1: the columns are not whole.
    at 1 62 (to_bytes (changed weighed_words ((63, 6) ∷ []))) ∷
    -- 1: one entry less, and two words are left.
    at 1 72 (to_bytes (changed weighed_words ((63, 4) ∷ []))) ∷
    -- 1: K is 0 and E is 1, so no fifth part follows, and bytes are left behind the one entry.
    at 1 64 (to_bytes (changed weighed_words ((61, 1) ∷ []))) ∷
    -- 1: K is 1 and E is 0, so no fifth part follows, and bytes are left behind the ceilings.
    at 1 62 (to_bytes (changed weighed_words ((60, 1) ∷ []))) ∷
    -- 16: there are counters 0 to 5, and 6 closes.
    at 16 64 (to_bytes (changed weighed_words ((64, 7) ∷ []))) ∷
    -- 16: no counter at all.
    at 16 64 (to_bytes (changed weighed_words ((64, 65535) ∷ []))) ∷
    -- 16: a weight is at least 1.
    at 16 64 (to_bytes (changed weighed_words ((69, 0) ∷ []))) ∷
    -- 16: a weight is at most 1,000.
    at 16 64 (to_bytes (changed weighed_words ((69, 1001) ∷ []))) ∷
    -- 16: numbers that do not rise: one comes again.
    at 16 65 (to_bytes (changed weighed_words ((65, 0) ∷ []))) ∷
    -- 16: numbers that do not rise: one falls.
    at 16 66 (to_bytes (changed weighed_words ((66, 0) ∷ []))) ∷
    -- 16: the closing entry has the count of all counters.
    at 16 68 (to_bytes (changed weighed_words ((68, 5) ∷ []))) ∷
    -- 16: the closing entry has weight 0.
    at 16 68 (to_bytes (changed weighed_words ((73, 1) ∷ []))) ∷
    -- 16: one line is missing: the word past the counter numbers.
    at 16 69 (to_bytes (changed weighed_words ((62, 2) ∷ []))) ∷
    -- 16: an entry behind W lines.
    at 16 67 (to_bytes (changed weighed_words ((66, 6) ∷ (71, 0) ∷ []))) ∷
    -- 16: the line is closed at once, and entries follow.
    at 16 65 (to_bytes (changed weighed_words ((64, 6) ∷ (69, 0) ∷ []))) ∷
    -- 17: the first rule takes 1 and puts 2.
    at 17 64 (to_bytes (changed weighed_words ((70, 2) ∷ []))) ∷
    -- 17: the send takes 1 and puts a ping of 2.
    at 17 64 (to_bytes (changed weighed_words ((72, 2) ∷ []))) ∷
    -- 18: the receive weighs 1 in place of the ping, which weighs nothing then.
    at 18 26 (to_bytes (changed weighed_words ((67, 3) ∷ (72, 1) ∷ []))) ∷
    -- 17: a rise comes before a light bad.
    at 17 64 (to_bytes (changed weighed_words ((72, 2) ∷ (32, 1) ∷ []))) ∷
    -- 18: equal to the start: one ping weighs 1, the start 1.
    at 18 26 (to_bytes (changed weighed_words ((32, 1) ∷ []))) ∷
    -- 18: equal to the start: two pings weigh 2, the start 2.
    at 18 26 (to_bytes (changed weighed_words ((69, 2) ∷ []))) ∷
    -- 18: a rule may take more than it puts, but then the start is heavy.
    at 18 26 (to_bytes (changed weighed_words ((69, 1000) ∷ []))) ∷
    -- Three pings weigh 3, the start 2.
    at 0 0 (to_bytes (changed weighed_words ((69, 2) ∷ (32, 3) ∷ []))) ∷
    -- An item without a counter settles its bad: letter C never has one.
    at 0 0 (to_bytes (changed weighed_words ((31, 1) ∷ (32, 1) ∷ []))) ∷
    -- An item without a counter settles its bad: no address is mailed.
    at 0 0 (to_bytes (changed weighed_words ((31, 2) ∷ (32, 1) ∷ []))) ∷
    -- 18: a place that weighs nothing, whatever its minimum.
    at 18 26 (to_bytes (changed weighed_words ((27, 41) ∷ (31, 9) ∷ (32, 65535) ∷ []))) ∷
    -- A place that weighs 1, with the highest minimum.
    at 0 0 (to_bytes (changed weighed_words ((27, 41) ∷ (31, 4) ∷ (32, 65535) ∷ []))) ∷
    -- 18: the start itself is the bad.
    at 18 26 (to_bytes (changed weighed_words ((27, 41) ∷ (31, 1) ∷ (32, 1) ∷ []))) ∷
    -- 18: the second bad has none now; its first tag is told.
    at 18 33 (to_bytes (changed weighed_nothing_words ((45, 0) ∷ []))) ∷
    -- 18: the first bad has none now.
    at 18 26 (to_bytes (changed weighed_nothing_words ((41, 0) ∷ []))) ∷
    -- 18: neither has one: the first is told.
    at 18 26 (to_bytes (changed weighed_nothing_words ((45, 0) ∷ (41, 0) ∷ []))) ∷
    -- 18: the start weighs 3; added up the items would weigh 5.
    at 18 26 (to_bytes (changed weighed_twice_words ((75, 3) ∷ []))) ∷
    -- The first minimum is the greatest now: four pings weigh 4, the start 3.
    at 0 0 (to_bytes (changed weighed_twice_words ((75, 3) ∷ (35, 4) ∷ []))) ∷
    -- 18: two pings weigh 2, the start 2.
    at 18 26 (to_bytes (changed weighed_twice_words ((38, 2) ∷ []))) ∷
    -- 17: the second line rises, though no bad needs it; its first entry is told.
    at 17 69 (to_bytes (changed weighed_lines_words ((69, 3) ∷ []))) ∷
    -- 17: the first line rises, not the second.
    at 17 64 (to_bytes (changed weighed_lines_words ((72, 2) ∷ []))) ∷
    -- 17: both rise: the first is told.
    at 17 64 (to_bytes (changed weighed_lines_words ((69, 3) ∷ (72, 2) ∷ []))) ∷
    -- 18: two pings weigh 2 in the first line and the start too; in the second they weigh nothing.
    at 18 26 (to_bytes (changed weighed_lines_words ((71, 2) ∷ []))) ∷
    -- 16: the first entry behind W lines.
    at 16 69 (to_bytes (changed weighed_lines_words ((62, 1) ∷ []))) ∷
    -- 16: a third line is missing.
    at 16 71 (to_bytes (changed weighed_lines_words ((62, 3) ∷ []))) ∷
    -- 18: each line weighs the bad 1 and the start 1; some one line must weigh it above.
    at 18 26 (to_bytes weighed_lines_apart_words) ∷
    -- 17: the call in f still changes nothing, but the first call takes 1 and puts 1,000.
    at 17 52 (to_bytes (changed weighed_itself_words ((56, 1000) ∷ []))) ∷
    -- All weigh 1,000.
    at 0 0 (to_bytes (changed weighed_itself_words ((56, 1000) ∷ (57, 1000) ∷ (58, 1000) ∷ []))) ∷
    -- 17: it puts 3 and 3 where it takes 3.
    at 17 61 (to_bytes (changed weighed_spawn_words ((62, 1) ∷ []))) ∷
    -- One weighs 3: the other is the lighter one, and two of it weigh 2.
    at 0 0 (to_bytes (changed weighed_returns_words ((70, 3) ∷ []))) ∷
    -- 18: one of the lighter weighs no more than the start.
    at 18 26 (to_bytes (changed weighed_returns_words ((70, 3) ∷ (32, 1) ∷ []))) ∷
    -- 18: an absent counter empties the place.
    at 18 26 (to_bytes weighed_absent_words) ∷
    -- 18: and so does the other one, where that is absent.
    at 18 26 (to_bytes (changed weighed_absent_words ((64, 1) ∷ []))) ∷
    -- 18: three boxes weigh 3, not 4, and the start 3.
    at 18 42 (to_bytes (changed weighed_boxes_words ((109, 3) ∷ []))) ∷
    -- 18: one box in all and one with an a: that one is both.
    at 18 42 (to_bytes (changed weighed_boxes_words ((52, 1) ∷ []))) ∷
    -- Five with an a are more than the three boxes asked for: they weigh 5.
    at 0 0 (to_bytes (changed weighed_boxes_words ((56, 5) ∷ []))) ∷
    -- The one with an a weighs 2, the other two 1 each: 4 in all.
    at 0 0 (to_bytes (changed weighed_boxes_words ((113, 2) ∷ []))) ∷
    -- The start weighs 3.
    at 0 0 (to_bytes (changed weighed_boxes_words ((113, 2) ∷ (109, 3) ∷ []))) ∷
    -- The one with an a weighs 1, two more of it 2: 3 in all, as it is the lighter one.
    at 0 0 (to_bytes (changed weighed_boxes_words ((114, 2) ∷ []))) ∷
    -- 18: 3 in all, and the start 3.
    at 18 42 (to_bytes (changed weighed_boxes_words ((114, 2) ∷ (109, 3) ∷ []))) ∷
    -- 18: the one with an a weighs 1, the others nothing; the start weighs 1.
    at 18 42 (to_bytes weighed_empty_words) ∷
    -- Two with an a weigh 2, one more weighs nothing.
    at 0 0 (to_bytes (changed weighed_empty_words ((56, 2) ∷ []))) ∷
    []

unfoldable pub listing_cases : List Case
listing_cases =
    -- The second bad asks for a message and a process at the send: each can be, but not both under one ceiling.
    safe 2 two_bads_program (to_bytes two_bads_words) two_bads_listing ∷
    -- 8 arguments, the most; and a call with a wrong count has no rule.
    safe 2 eight_arguments_program (to_bytes eight_arguments_words) eight_arguments_listing ∷
    -- As it is; f is never called.
    safe 2 scopes_program (to_bytes scopes_words) scopes_listing ∷
    -- The two boxes share a letter and a counter, whatever function they hold; the address has its own.
    safe 2 values_program (to_bytes values_words) values_listing ∷
    -- Boxes and addresses have counters of their own, in that order; letter C, between them, has none.
    safe 2 letters_program (to_bytes letters_words) letters_listing ∷
    -- No address is ever sent.
    safe 2 function_letter_program (to_bytes function_letter_words) function_letter_listing ∷
    -- No function is ever sent.
    safe 2 address_letter_program (to_bytes address_letter_words) address_letter_listing ∷
    -- The callee may be two functions, of which one can't be called with that count: one rule.
    safe 2 wrong_counts_program (to_bytes wrong_counts_words) wrong_counts_listing ∷
    -- One rule for each function, in the order of their rows.
    safe 2 two_callees_program (to_bytes two_callees_words) two_callees_listing ∷
    -- One rule for each function, each with its own new state.
    safe 2 two_spawned_program (to_bytes two_spawned_words) two_spawned_listing ∷
    -- As it is: one process spawned.
    safe 2 spawned_name_program (to_bytes spawned_name_words) spawned_name_listing ∷
    -- A rule for the first and the third branch.
    safe 2 two_branches_program (to_bytes two_branches_words) two_branches_listing ∷
    -- One rule for each letter, ascending by letter and not by the values' rows; the receive reads one by its first
    -- branch, both by its second.
    safe 2 two_letters_program (to_bytes two_letters_words) two_letters_listing ∷
    -- Four rules of the one send, by class and then by letter.
    safe 2 classes_then_letters_program (to_bytes classes_then_letters_words) classes_then_letters_listing ∷
    -- The two values share one counter and one rule.
    safe 2 one_letter_program (to_bytes one_letter_words) one_letter_listing ∷
    -- Counter (child, b) before counter (start, a): by letter first it would be the other way round.
    safe 2 class_before_letter_program (to_bytes class_before_letter_words) class_before_letter_listing ∷
    -- The first function calls the second, which gives back the third.
    safe 2 read_before_program (to_bytes read_before_words) read_before_listing ∷
    -- A rule for the last branch alone, as P and Q are spawned at two rows; then one for each of the two branches.
    safe 2 held_classes_program (to_bytes held_classes_words) held_classes_listing ∷
    -- The first branch may take the box whatever it holds, the second none, as what the box holds is no b, the third
    -- none.
    safe 2 held_arguments_program (to_bytes held_arguments_words) held_arguments_listing ∷
    -- The first branch may take the b, because of the second value alone.
    safe 2 held_two_values_program (to_bytes held_two_values_words) held_two_values_listing ∷
    -- The address is of P's class: the first branch reads no letter, the second that of addresses.
    safe 2 held_in_mail_program (to_bytes held_in_mail_words) held_in_mail_listing ∷
    -- The mail value is the box: safe. The bad asks for letter C, which has no counter, and so is never met.
    safe 2 mailed_inside_program (to_bytes mailed_inside_words) mailed_inside_listing ∷
    -- (42, C) is in form and has no counter: the bad is never met, under whatever ceiling.
    safe 2 mailed_no_letter_program (to_bytes mailed_no_letter_words) mailed_no_letter_listing ∷
    -- Two orders at the most. Without the third column this was 12.
    safe 2 returns_orders_program (to_bytes returns_orders_words) returns_orders_listing ∷
    -- The body stands twice, and each give back has one rule; the values are mixed all the same, as names have no
    -- return.
    safe 2 returns_two_callers_program (to_bytes returns_two_callers_words) returns_two_callers_listing ∷
    -- The give back of the inner one has two rules, by the third number of the call's states.
    safe 2 returns_by_order_program (to_bytes returns_by_order_words) returns_by_order_listing ∷
    -- The body has the call's row, the others R.
    safe 2 returns_third_program (to_bytes returns_third_words) returns_third_listing ∷
    -- A give back goes by its third number wherever it stands: the fourth state has a rule to the fifth, and nothing
    -- leads to it.
    safe 2 returns_extra_program (to_bytes returns_extra_words) returns_extra_listing ∷
    -- 40,000 and 20,000 do not meet 65,535.
    safe 2 returns_summed_program (to_bytes returns_summed_words) returns_summed_listing ∷
    -- No triple has this class and head: the item has no counter and the bad is never met, under whatever ceiling.
    safe 2 returns_no_counter_program (to_bytes returns_no_counter_words) returns_no_counter_listing ∷
    -- It has a counter, whose limit is 0 where a ceiling does not name it.
    safe 2 returns_a_counter_program (to_bytes returns_a_counter_words) returns_a_counter_listing ∷
    -- The listing of station A stays.
    safe 2 returns_a_program (to_bytes returns_a_words) returns_a_listing ∷
    -- A pair of two addresses, of which there is one.
    safe 2 letter_heads_program (to_bytes letter_heads_words) letter_heads_listing ∷
    -- 40,000 and 25,534 do not come to 65,535; the branch reads either.
    safe 2 heads_summed_program (to_bytes heads_summed_words) heads_summed_listing ∷
    -- Four letters, in the order of their heads from the left.
    safe 2 independent_heads_program (to_bytes independent_heads_words) independent_heads_listing ∷
    -- The send has no rule and the letter no counter, so the bad is not met.
    safe 2 no_letter_program (to_bytes no_letter_words) no_letter_listing ∷
    -- pair(gauge, pump) reads nothing; pair(_, pump) reads the second alone.
    safe 2 read_by_row_program (to_bytes read_by_row_words) read_by_row_listing ∷
    -- The first branch reads box(a), the second both letters, the third none.
    safe 2 held_heads_program (to_bytes held_heads_words) held_heads_listing ∷
    -- Three counters and one rule.
    safe 2 letter_empty_program (to_bytes letter_empty_words) letter_empty_listing ∷
    -- Two pings weigh 2, the start 1.
    safe 2 weighed_program (to_bytes weighed_words) weighed_listing ∷
    -- Both bads have an item without a counter.
    safe 2 weighed_nothing_program (to_bytes weighed_nothing_words) weighed_nothing_listing ∷
    -- Three pings weigh 3, the start 2.
    safe 2 weighed_twice_program (to_bytes weighed_twice_words) weighed_twice_listing ∷
    -- A second line that no bad needs.
    safe 2 weighed_lines_program (to_bytes weighed_lines_words) weighed_lines_listing ∷
    -- The call in f takes 1 and puts 1 in the same counter; two processes there weigh 2, the start 1.
    safe 2 weighed_itself_program (to_bytes weighed_itself_words) weighed_itself_listing ∷
    -- The spawn in f takes 3 and puts 3 and 0.
    safe 2 weighed_spawn_program (to_bytes weighed_spawn_words) weighed_spawn_listing ∷
    -- Each of the two counters weighs 1: two processes weigh 2, the start 1.
    safe 2 weighed_returns_program (to_bytes weighed_returns_words) weighed_returns_listing ∷
    -- Three boxes of 1 each weigh 3, the start 2.
    safe 2 weighed_boxes_program (to_bytes weighed_boxes_words) weighed_boxes_listing ∷
    []

-- the definitions above opened at once, for the theorems that compute the table
unfoldable pub verdict_cases_opens : Unit {0}
unfolding bads_sizes_program bads_sizes_words tables_sizes_program tables_sizes_words ceilings_sizes_program
    ceilings_sizes_words station_a_program station_a_words two_bads_program two_bads_words two_bads_listing
    unbounded_program unbounded_words one_taken_program one_taken_words arity_of_eight_program arity_of_eight_words
    eight_parameters_program eight_parameters_words eight_arguments_program eight_arguments_words
    eight_arguments_listing sixteen_branches_program sixteen_branches_words depth_four_program depth_four_words
    depth_five_program depth_five_words scopes_program scopes_words scopes_listing values_program values_words
    values_listing letters_program letters_words letters_listing function_letter_program function_letter_words
    function_letter_listing address_letter_program address_letter_words address_letter_listing wrong_counts_program
    wrong_counts_words wrong_counts_listing two_callees_program two_callees_words two_callees_listing
    two_spawned_program two_spawned_words two_spawned_listing spawned_name_program spawned_name_words
    spawned_name_listing two_branches_program two_branches_words two_branches_listing two_letters_program
    two_letters_words two_letters_listing classes_then_letters_program classes_then_letters_words
    classes_then_letters_listing one_letter_program one_letter_words one_letter_listing class_before_letter_program
    class_before_letter_words class_before_letter_listing read_before_program read_before_words read_before_listing
    held_scope_program held_scope_words held_depth_program held_depth_words held_too_deep_program held_too_deep_words
    held_classes_program held_classes_words held_classes_listing held_arguments_program held_arguments_words
    held_arguments_listing held_two_values_program held_two_values_words held_two_values_listing held_in_mail_program
    held_in_mail_words held_in_mail_listing mailed_function_program mailed_function_words mailed_front_program
    mailed_front_words mailed_inside_program mailed_inside_words mailed_inside_listing mailed_second_program
    mailed_second_words mailed_twice_program mailed_twice_words mailed_extra_program mailed_extra_words
    mailed_no_letter_program mailed_no_letter_words mailed_no_letter_listing returns_orders_program
    returns_orders_words returns_orders_listing returns_two_callers_program returns_two_callers_words
    returns_two_callers_listing returns_by_order_program returns_by_order_words returns_by_order_listing
    returns_third_program returns_third_words returns_third_listing returns_extra_program returns_extra_words
    returns_extra_listing returns_extra_open_program returns_extra_open_words returns_summed_program
    returns_summed_words returns_summed_listing returns_no_counter_program returns_no_counter_words
    returns_no_counter_listing returns_a_counter_program returns_a_counter_words returns_a_counter_listing
    returns_lengths_program returns_lengths_words returns_a_program returns_a_words returns_a_listing
    returns_a_first_gone_program returns_a_first_gone_words returns_a_last_gone_program returns_a_last_gone_words
    returns_a_65534_program returns_a_65534_words letter_heads_program letter_heads_words letter_heads_listing
    heads_summed_program heads_summed_words heads_summed_listing independent_heads_program independent_heads_words
    independent_heads_listing no_letter_program no_letter_words no_letter_listing read_by_row_program
    read_by_row_words read_by_row_listing held_heads_program held_heads_words held_heads_listing letter_limit_program
    letter_limit_words letter_product_program letter_product_words letter_empty_program letter_empty_words
    letter_empty_listing weights_sizes_program weights_sizes_words weighed_program weighed_words weighed_listing
    weighed_nothing_program weighed_nothing_words weighed_nothing_listing weighed_twice_program weighed_twice_words
    weighed_twice_listing weighed_lines_program weighed_lines_words weighed_lines_listing weighed_lines_apart_program
    weighed_lines_apart_words weighed_itself_program weighed_itself_words weighed_itself_listing weighed_spawn_program
    weighed_spawn_words weighed_spawn_listing weighed_returns_program weighed_returns_words weighed_returns_listing
    weighed_absent_program weighed_absent_words weighed_boxes_program weighed_boxes_words weighed_boxes_listing
    weighed_empty_program weighed_empty_words verdict_cases listing_cases
verdict_cases_opens = tt
