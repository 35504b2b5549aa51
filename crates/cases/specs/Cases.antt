-- Document 01, "Station A" and the cases that it lists under "Proved", and cases of our own that tell wrong verifiers
-- apart. proofs/Cases.antt proves by computation that the definitions give what stands here: number, place, part
-- handed on and every lent word.
use Rattle.std.specs.Prelude.{ℕ, ◌+◌, ◌/◌, ◌%◌, List, [], ◌∷◌, ◌++◌, map, length, take, set, replicate}
use Rattle.model.specs.Limits.{Limits, present}
use Rattle.model.specs.Index.{from_all}
use Rattle.model.specs.Verdict.{number, place}
use Rattle.model.specs.Verify.{verdict_within, lent_after_within, part_handed_within}

-- The parts of a message, from their rows or entries

abbrev pub Pairs : Type 0
Pairs = List (ℕ × ℕ)

abbrev pub Triples : Type 0
Triples = List (ℕ × ℕ × ℕ)

unfoldable pub arrays : Pairs → List ℕ
arrays ps = map (λ x. x.0) ps ++ map (λ x. x.1) ps

unfoldable pub program_words : ℕ → ℕ → ℕ → Pairs → List ℕ
program_words names constructors functions rows = length rows ∷ names ∷ constructors ∷ functions ∷ arrays rows

unfoldable pub bad_words : ℕ → Pairs → List ℕ
bad_words bads rows = bads ∷ length rows ∷ arrays rows

-- document 02, (iv): the states' third numbers stand behind both columns of all three lists
unfoldable pub table_words : Pairs → Pairs → Triples → List ℕ
table_words flow mail states =
    length flow ∷ length mail ∷ length states ∷
    (arrays (flow ++ mail ++ map (λ x. (x.0, x.1)) states) ++ map (λ x. x.2) states)

-- states that all return to b, by class and head
unfoldable pub returning : ℕ → Pairs → Triples
returning b = map (λ x. (x.0, x.1, b))

unfoldable pub ceiling_words : ℕ → Pairs → List ℕ
ceiling_words ceilings entries = ceilings ∷ length entries ∷ arrays entries

-- lines of weights, behind ceilings of which there are none
unfoldable pub weight_words : ℕ → Pairs → List ℕ
weight_words lines entries = lines ∷ length entries ∷ arrays entries

-- little-endian
unfoldable pub to_bytes : List ℕ → List ℕ
to_bytes ws = from_all ws (λ w. w % 256 ∷ w / 256 ∷ [])

-- What a verifier is handed, and what it is to answer

pub record Case : Type 0 where
  pub bytes : List ℕ
  pub lent : List ℕ
  pub expected : List ℕ

-- number, place, the part handed on and the lent words afterwards, as one list
unfoldable pub outcome : ℕ → ℕ → List ℕ → List ℕ → List ℕ
outcome n at part after = (n ∷ at ∷ length part ∷ part) ++ after

unfoldable pub obtained_within : Limits → Case → List ℕ
obtained_within most k =
    let v = verdict_within most k.bytes (length k.lent) in
    outcome (number v) (place v) (part_handed_within most k.bytes (length k.lent))
    (lent_after_within most k.bytes k.lent)

abbrev pub obtained : Case → List ℕ
obtained = obtained_within present

-- n lent words, each 9
unfoldable pub lend : ℕ → List ℕ
lend n = replicate n 9

-- refused with this number and place: an empty part, and the lent words as they came
unfoldable pub refused : ℕ → List ℕ → ℕ → ℕ → Case
refused lent bytes n at = record { bytes = bytes; lent = lend lent; expected = outcome n at [] (lend lent) }

-- safe: the bytes of the program part, the listing, and `beyond` words that stay
unfoldable pub safe : ℕ → List ℕ → List ℕ → List ℕ → Case
safe beyond program bytes listing =
    record {
      bytes = bytes;
      lent = lend (length listing + beyond);
      expected = outcome 0 0 (to_bytes program) (listing ++ lend beyond);
    }

-- Station A

-- "Sizes 10 3 1 0; rows 0 to 9": an address x, a message m, sent to oneself and received
unfoldable pub a_program : List ℕ
a_program = program_words 3 1 0
    ((10, 0) ∷ (7, 0) ∷ (2, 1) ∷ (20, 0) ∷ (5, 2) ∷ (21, 0) ∷ (21, 1) ∷ (9, 1) ∷ (31, 0) ∷ (1, 0) ∷ [])

-- "Bads 1 4"
unfoldable pub a_bads : List ℕ
a_bads = bad_words 1 ((40, 10) ∷ (42, 0) ∷ (43, 2) ∷ (44, 0) ∷ [])

-- "Tables 3 1 5"; document 02, (iv): "its message becomes five words longer". No call is pushed at any time.
unfoldable pub a_tables : List ℕ
a_tables = table_words ((0, 10) ∷ (1, 2) ∷ (2, 2) ∷ []) ((10, 2) ∷ [])
    (returning 10 ((10, 1) ∷ (10, 2) ∷ (10, 4) ∷ (10, 7) ∷ (10, 9) ∷ []))

-- "Ceilings 5 11"
unfoldable pub a_ceilings : List ℕ
a_ceilings = ceiling_words 5
    ((0, 1) ∷ (6, 0) ∷ (1, 1) ∷ (6, 0) ∷ (2, 1) ∷ (6, 0) ∷ (3, 1) ∷ (5, 1) ∷ (6, 0) ∷ (4, 1) ∷ (6, 0) ∷ [])

unfoldable pub a_words : List ℕ
a_words = a_program ++ a_bads ++ a_tables ++ a_ceilings

-- station A with another word, with other tables, with other ceilings
unfoldable pub with_word : ℕ → ℕ → List ℕ
with_word i w = to_bytes (set a_words i w)

unfoldable pub with_tables : List ℕ → List ℕ
with_tables tables = to_bytes (a_program ++ a_bads ++ tables ++ a_ceilings)

unfoldable pub with_ceilings : List ℕ → List ℕ
with_ceilings ceilings = to_bytes (a_program ++ a_bads ++ a_tables ++ ceilings)

-- "`5 1 4 10`, `50 0`, `51 1`, `50 1`, `51 2`, `50 2`, `51 3`, `53 5`, `50 3`, `51 4`, `52 5`"
unfoldable pub a_listing : List ℕ
a_listing =
    5 ∷ 1 ∷ 4 ∷ 10 ∷
    50 ∷ 51 ∷ 50 ∷ 51 ∷ 50 ∷ 51 ∷ 53 ∷ 50 ∷ 51 ∷ 52 ∷
    0 ∷ 1 ∷ 1 ∷ 2 ∷ 2 ∷ 3 ∷ 5 ∷ 3 ∷ 4 ∷ 5 ∷ []

-- "Proved": the twelve cases, in the paper's order; document 02, (iv): "places from its ceilings on move by five"
unfoldable pub proved_cases : List Case
proved_cases =
    -- no bytes: 1 at 0
    refused 30 [] 1 0 ∷
    -- A: 0 at 0
    safe 6 a_program (to_bytes a_words) a_listing ∷
    -- R 1,025: 2 at 0, which document 02, (vi), makes R 1,537
    refused 30 (with_word 0 1537) 2 0 ∷
    -- a byte more: 1 at 79, now 84
    refused 30 (to_bytes a_words ++ (0 ∷ [])) 1 84 ∷
    -- row 4 (5,1): 4 at 8 (the number of row r is word 14 + r)
    refused 30 (with_word 18 1) 4 8 ∷
    -- row 5 (21,2): 5 at 9
    refused 30 (with_word 19 2) 5 9 ∷
    -- minimum 1: 12 at 26 (the minimum is word 32)
    refused 30 (with_word 32 1) 12 26 ∷
    -- no mail entry, M 0: 8 at 42
    refused 30
    (with_tables
    (table_words ((0, 10) ∷ (1, 2) ∷ (2, 2) ∷ []) []
    (returning 10 ((10, 1) ∷ (10, 2) ∷ (10, 4) ∷ (10, 7) ∷ (10, 9) ∷ [])))) 8 42 ∷
    -- first ceiling gone: 11 at 55, now 60
    refused 30
    (with_ceilings
    (ceiling_words 4 ((1, 1) ∷ (6, 0) ∷ (2, 1) ∷ (6, 0) ∷ (3, 1) ∷ (5, 1) ∷ (6, 0) ∷ (4, 1) ∷ (6, 0) ∷ []))) 11 60 ∷
    -- last gone: 13 at 63, now 68
    refused 30
    (with_ceilings
    (ceiling_words 4 ((0, 1) ∷ (6, 0) ∷ (1, 1) ∷ (6, 0) ∷ (2, 1) ∷ (6, 0) ∷ (3, 1) ∷ (5, 1) ∷ (6, 0) ∷ []))) 13 68 ∷
    -- one ceiling, counters 0 to 4 unbounded, counter 5 at 65,534, minimum 65,535: 13 at 57,
    -- now 62
    refused 30
    (to_bytes
    (set (a_program ++ a_bads ++ a_tables ++ ceiling_words 1
    ((0, 65535) ∷ (1, 65535) ∷ (2, 65535) ∷ (3, 65535) ∷ (4, 65535) ∷ (5, 65534) ∷ (6, 0) ∷ [])) 32 65535))
    13 62 ∷
    -- lent 23 words: 14 at 24
    refused 23 (to_bytes a_words) 14 24 ∷
    []

-- Cases of our own. Each expected answer is worked out by hand from document 01, in the comment.

-- Two branches and two receives. x = self; m = c0; send x m; receive { y -> receive { c0 -> y }; _ -> x }. A message
-- of letter 0 can go into the second receive by the first branch, or be passed over into the second branch; at the
-- second receive it can be read too.
unfoldable pub two_receives : List ℕ
two_receives = program_words 4 1 0
    ((10, 0) ∷ (7, 0) ∷ (2, 1) ∷ (20, 0) ∷ (5, 2) ∷ (21, 0) ∷ (21, 1) ∷ (9, 2) ∷ (30, 3) ∷ (9, 1) ∷ (31, 0) ∷ (1, 3) ∷
    (32, 0) ∷ (1, 0) ∷ [])

unfoldable pub two_receives_bads : List ℕ
two_receives_bads = bad_words 1 ((40, 14) ∷ (42, 0) ∷ (43, 2) ∷ (44, 0) ∷ [])

-- flow: x holds class 14, m and what the send yields and y hold row 2; mail (14, 2); the states given
unfoldable pub two_receives_with : Pairs → List ℕ
two_receives_with heads =
    to_bytes
    (two_receives ++ two_receives_bads ++
    table_words ((0, 14) ∷ (1, 2) ∷ (2, 2) ∷ (3, 2) ∷ []) ((14, 2) ∷ []) (returning 14 heads) ++
    ceiling_words 6
    ((0, 1) ∷ (8, 0) ∷ (1, 1) ∷ (8, 0) ∷ (2, 1) ∷ (8, 0) ∷ (3, 1) ∷ (7, 1) ∷ (8, 0) ∷ (4, 1) ∷ (8, 0) ∷ (6, 1) ∷
    (8, 0) ∷ []))

-- seven states, counter 7 for (14, 0). State 3, at row 7, has a rule for each branch: to state 4 (row 9) and to state
-- 6 (row 13), each reading 7; state 4, at row 9, has a rule to state 5 (row 11), reading 7 too
unfoldable pub two_receives_listing : List ℕ
two_receives_listing =
    7 ∷ 1 ∷ 6 ∷ 16 ∷
    50 ∷ 51 ∷ 50 ∷ 51 ∷ 50 ∷ 51 ∷ 53 ∷ 50 ∷ 51 ∷ 52 ∷ 50 ∷ 51 ∷ 52 ∷ 50 ∷ 51 ∷ 52 ∷
    0 ∷ 1 ∷ 1 ∷ 2 ∷ 2 ∷ 3 ∷ 7 ∷ 3 ∷ 4 ∷ 7 ∷ 3 ∷ 6 ∷ 7 ∷ 4 ∷ 5 ∷ 7 ∷ []

-- One function, two callers. f(a) = a; b = c0; r = f(b); s = f(r); s. Giving back from row 4 leads behind the call
-- that is pushed.
unfoldable pub two_callers : List ℕ
two_callers = program_words 5 1 1
    ((10, 0) ∷ (11, 0) ∷ (22, 1) ∷ (23, 1) ∷ (1, 1) ∷ (2, 2) ∷ (20, 0) ∷ (4, 3) ∷ (21, 0) ∷ (22, 1) ∷ (21, 2) ∷
    (4, 4) ∷ (21, 0) ∷ (22, 1) ∷ (21, 3) ∷ (1, 4) ∷ [])

-- f holds row 1, the others row 5 (the build). One process: a ceiling for each state. The bad: two processes at the
-- build.
unfoldable pub two_callers_evidence : List ℕ
two_callers_evidence =
    bad_words 1 ((40, 16) ∷ (41, 5) ∷ (43, 2) ∷ (44, 0) ∷ []) ++
    table_words ((0, 1) ∷ (1, 5) ∷ (2, 5) ∷ (3, 5) ∷ (4, 5) ∷ []) []
    ((16, 4, 7) ∷ (16, 4, 11) ∷ (16, 5, 16) ∷ (16, 7, 16) ∷ (16, 11, 16) ∷ (16, 15, 16) ∷ []) ++
    ceiling_words 6
    ((0, 1) ∷ (6, 0) ∷ (1, 1) ∷ (6, 0) ∷ (2, 1) ∷ (6, 0) ∷ (3, 1) ∷ (6, 0) ∷ (4, 1) ∷ (6, 0) ∷ (5, 1) ∷ (6, 0) ∷ [])

-- states 0 and 1, at row 4, each have a rule to the rest of their call: states 4 (row 11) and 5 (row 15)
unfoldable pub two_callers_listing : List ℕ
two_callers_listing =
    6 ∷ 0 ∷ 5 ∷ 10 ∷
    50 ∷ 51 ∷ 50 ∷ 51 ∷ 50 ∷ 51 ∷ 50 ∷ 51 ∷ 50 ∷ 51 ∷
    0 ∷ 4 ∷ 1 ∷ 5 ∷ 2 ∷ 3 ∷ 3 ∷ 0 ∷ 4 ∷ 1 ∷ []

-- A name two levels deep. a = c0; b = c1(a); d = c1(b); case d of { c1(c1(x)) -> x }
unfoldable pub nested : List ℕ
nested = program_words 4 2 0
    ((10, 0) ∷ (10, 1) ∷ (2, 0) ∷ (20, 0) ∷ (2, 1) ∷ (20, 1) ∷ (21, 0) ∷ (2, 2) ∷ (20, 1) ∷ (21, 1) ∷ (8, 2) ∷
    (25, 1) ∷ (31, 1) ∷ (31, 1) ∷ (30, 3) ∷ (1, 3) ∷ [])

-- the given flow; no mail; one process
unfoldable pub nested_with : Pairs → List ℕ
nested_with flow =
    to_bytes
    (nested ++ bad_words 1 ((40, 16) ∷ (41, 2) ∷ (43, 2) ∷ (44, 0) ∷ []) ++
    table_words flow [] (returning 16 ((16, 2) ∷ (16, 4) ∷ (16, 7) ∷ (16, 10) ∷ (16, 15) ∷ [])) ++
    ceiling_words 5 ((0, 1) ∷ (5, 0) ∷ (1, 1) ∷ (5, 0) ∷ (2, 1) ∷ (5, 0) ∷ (3, 1) ∷ (5, 0) ∷ (4, 1) ∷ (5, 0) ∷ []))

unfoldable pub nested_listing : List ℕ
nested_listing =
    5 ∷ 0 ∷ 4 ∷ 8 ∷
    50 ∷ 51 ∷ 50 ∷ 51 ∷ 50 ∷ 51 ∷ 50 ∷ 51 ∷
    0 ∷ 1 ∷ 1 ∷ 2 ∷ 2 ∷ 3 ∷ 3 ∷ 4 ∷ []

-- A target of two classes. w() = receive { y -> y }; g(t) = (m = c0; r = send t m; r); p = spawn w; a = g(p); q =
-- self; b = g(q); b. The parameter t may be class 15 (the spawn row) or class 27 (the start).
unfoldable pub two_classes : List ℕ
two_classes = program_words 10 1 2
    ((10, 0) ∷ (11, 0) ∷ (22, 0) ∷ (9, 1) ∷ (30, 1) ∷ (1, 1) ∷ (11, 2) ∷ (22, 1) ∷ (23, 3) ∷ (2, 4) ∷ (20, 0) ∷
    (5, 5) ∷ (21, 3) ∷ (21, 4) ∷ (1, 5) ∷ (6, 6) ∷ (21, 0) ∷ (4, 7) ∷ (21, 2) ∷ (22, 1) ∷ (21, 6) ∷ (7, 8) ∷ (4, 9) ∷
    (21, 2) ∷ (22, 1) ∷ (21, 8) ∷ (1, 9) ∷ [])

-- The given mail. The body of g, rows 9, 11 and 14, once for each of the calls of rows 17 and 22: states 0 (15,3), 1
-- (15,5), 2 and 3 (27,9), 4 and 5 (27,11), 6 and 7 (27,14), 8 (27,15), 9 (27,17), 10 (27,21), 11 (27,22), 12 (27,26);
-- letter counters 13 for (15, 0) and 14 for (27, 0). Nothing leads to state 8, so one ceiling keeps it at 1 and all
-- else unbounded. The bad: two processes at row 15.
unfoldable pub two_classes_with : Pairs → List ℕ
two_classes_with mail =
    to_bytes
    (two_classes ++ bad_words 1 ((40, 27) ∷ (41, 15) ∷ (43, 2) ∷ (44, 0) ∷ []) ++
    table_words
    ((0, 1) ∷ (1, 9) ∷ (2, 6) ∷ (3, 15) ∷ (3, 27) ∷ (4, 9) ∷ (5, 9) ∷ (6, 15) ∷ (7, 9) ∷ (8, 27) ∷ (9, 9) ∷
    []) mail
    ((15, 3, 27) ∷ (15, 5, 27) ∷ (27, 9, 17) ∷ (27, 9, 22) ∷ (27, 11, 17) ∷ (27, 11, 22) ∷ (27, 14, 17) ∷
    (27, 14, 22) ∷ (27, 15, 27) ∷ (27, 17, 27) ∷ (27, 21, 27) ∷ (27, 22, 27) ∷ (27, 26, 27) ∷ []) ++
    ceiling_words 1
    ((0, 65535) ∷ (1, 65535) ∷ (2, 65535) ∷ (3, 65535) ∷ (4, 65535) ∷ (5, 65535) ∷ (6, 65535) ∷ (7, 65535) ∷ (8, 1) ∷
    (9, 65535) ∷ (10, 65535) ∷ (11, 65535) ∷ (12, 65535) ∷ (13, 65535) ∷ (14, 65535) ∷ (15, 0) ∷ []))

-- states 4 and 5, the send, put into either class's mailboxes; states 6 and 7 give back behind their call; state 8
-- starts a process in state 0
unfoldable pub two_classes_listing : List ℕ
two_classes_listing =
    13 ∷ 2 ∷ 13 ∷ 32 ∷
    50 ∷ 51 ∷ 52 ∷ 50 ∷ 51 ∷ 50 ∷ 51 ∷ 50 ∷ 51 ∷ 53 ∷ 50 ∷ 51 ∷ 53 ∷ 50 ∷ 51 ∷ 53 ∷ 50 ∷ 51 ∷ 53 ∷ 50 ∷ 51 ∷ 50 ∷ 51 ∷
    50 ∷ 51 ∷ 54 ∷ 50 ∷ 51 ∷ 50 ∷ 51 ∷ 50 ∷ 51 ∷
    0 ∷ 1 ∷ 13 ∷ 2 ∷ 4 ∷ 3 ∷ 5 ∷ 4 ∷ 6 ∷ 13 ∷ 4 ∷ 6 ∷ 14 ∷ 5 ∷ 7 ∷ 13 ∷ 5 ∷ 7 ∷ 14 ∷ 6 ∷ 10 ∷ 7 ∷ 12 ∷
    8 ∷ 9 ∷ 0 ∷ 9 ∷ 2 ∷ 10 ∷ 11 ∷ 11 ∷ 3 ∷ []

-- A constructor pattern over an argument name without values. g(n) = (b = c1(n); b), never called; a = c0; case a of {
-- c1(_) -> a; c0 -> g }. The tables say too much: a may be the row 5, c1(n). But n holds nothing, so the first branch
-- matches nothing, and state (18, 15) is not wanted.
unfoldable pub no_argument : List ℕ
no_argument = program_words 4 2 1
    ((10, 0) ∷ (10, 1) ∷ (11, 0) ∷ (22, 1) ∷ (23, 1) ∷ (2, 2) ∷ (20, 1) ∷ (21, 1) ∷ (1, 2) ∷ (2, 3) ∷ (20, 0) ∷
    (8, 3) ∷ (25, 2) ∷ (31, 1) ∷ (32, 0) ∷ (1, 3) ∷ (31, 0) ∷ (1, 0) ∷ [])

-- the bad, a process at row 15, has no counter and is never met
unfoldable pub no_argument_evidence : List ℕ
no_argument_evidence =
    bad_words 1 ((40, 18) ∷ (41, 15) ∷ (43, 1) ∷ (44, 0) ∷ []) ++
    table_words ((0, 2) ∷ (3, 5) ∷ (3, 9) ∷ []) [] (returning 18 ((18, 9) ∷ (18, 11) ∷ (18, 17) ∷ [])) ++
    ceiling_words 3 ((0, 1) ∷ (3, 0) ∷ (1, 1) ∷ (3, 0) ∷ (2, 1) ∷ (3, 0) ∷ [])

unfoldable pub no_argument_listing : List ℕ
no_argument_listing =
    3 ∷ 0 ∷ 2 ∷ 4 ∷
    50 ∷ 51 ∷ 50 ∷ 51 ∷
    0 ∷ 1 ∷ 1 ∷ 2 ∷ []

-- A rule whose from is its to. f() = (r = f(); r); s = f(); s. The body of f is the call itself.
unfoldable pub endless : List ℕ
endless = program_words 3 0 1
    ((11, 0) ∷ (22, 0) ∷ (4, 1) ∷ (21, 0) ∷ (22, 0) ∷ (1, 1) ∷ (4, 2) ∷ (21, 0) ∷ (22, 0) ∷ (1, 2) ∷ [])

-- one process: in the body of f it returns to the call of row 6 at first, then to that of row 2; the rule from 0 to 0
-- takes one and then adds one
unfoldable pub endless_evidence : List ℕ
endless_evidence =
    bad_words 1 ((40, 10) ∷ (41, 2) ∷ (43, 2) ∷ (44, 0) ∷ []) ++
    table_words ((0, 0) ∷ []) [] ((10, 2, 2) ∷ (10, 2, 6) ∷ (10, 6, 10) ∷ []) ++
    ceiling_words 3 ((0, 1) ∷ (3, 0) ∷ (1, 1) ∷ (3, 0) ∷ (2, 1) ∷ (3, 0) ∷ [])

unfoldable pub endless_listing : List ℕ
endless_listing =
    3 ∷ 0 ∷ 3 ∷ 6 ∷
    50 ∷ 51 ∷ 50 ∷ 51 ∷ 50 ∷ 51 ∷
    0 ∷ 0 ∷ 1 ∷ 0 ∷ 2 ∷ 1 ∷ []

-- A rule whose new state is its from. f() = (p = spawn f; p); q = spawn f; q. The body of f is the spawn at row 2: a
-- process of class 2 starts one of class 2 at the same place.
unfoldable pub brood : List ℕ
brood = program_words 3 0 1 ((11, 0) ∷ (22, 0) ∷ (6, 1) ∷ (21, 0) ∷ (1, 1) ∷ (6, 2) ∷ (21, 0) ∷ (1, 2) ∷ [])

-- One process at row 2 of class 2 at any time, any number of ended ones: state 0 loses one and gains one. The bad, two
-- at (2, 2), is not met.
unfoldable pub brood_evidence : List ℕ
brood_evidence =
    bad_words 1 ((40, 2) ∷ (41, 2) ∷ (43, 2) ∷ (44, 0) ∷ []) ++
    table_words ((0, 0) ∷ (1, 2) ∷ (2, 5) ∷ []) []
    (returning 8 ((2, 2) ∷ (2, 4) ∷ (5, 2) ∷ (5, 4) ∷ (8, 5) ∷ (8, 7) ∷ [])) ++
    ceiling_words 3 ((4, 1) ∷ (6, 0) ∷ (2, 1) ∷ (5, 1) ∷ (6, 0) ∷ (0, 1) ∷ (1, 65535) ∷ (3, 1) ∷ (5, 1) ∷ (6, 0) ∷ [])

unfoldable pub brood_listing : List ℕ
brood_listing =
    6 ∷ 0 ∷ 3 ∷ 9 ∷
    50 ∷ 51 ∷ 54 ∷ 50 ∷ 51 ∷ 54 ∷ 50 ∷ 51 ∷ 54 ∷
    0 ∷ 1 ∷ 0 ∷ 2 ∷ 3 ∷ 0 ∷ 4 ∷ 5 ∷ 2 ∷ []

-- A receive that passes a message over. x = self; a = c0; b = c1; send x a; send x b; receive { c1 -> receive { y -> y
-- } }. The first receive takes the second message.
unfoldable pub selective : List ℕ
selective = program_words 6 2 0
    ((10, 0) ∷ (10, 0) ∷ (7, 0) ∷ (2, 1) ∷ (20, 0) ∷ (2, 2) ∷ (20, 1) ∷ (5, 3) ∷ (21, 0) ∷ (21, 1) ∷ (5, 4) ∷
    (21, 0) ∷ (21, 2) ∷ (9, 1) ∷ (31, 1) ∷ (9, 1) ∷ (30, 5) ∷ (1, 5) ∷ [])

-- Eight states; letter counters 8 for (18, 0) and 9 for (18, 1). The first receive, state 5, reads 9 alone; the
-- second, state 6, either.
unfoldable pub selective_evidence : List ℕ
selective_evidence =
    bad_words 1 ((40, 18) ∷ (42, 0) ∷ (43, 2) ∷ (44, 0) ∷ []) ++
    table_words ((0, 18) ∷ (1, 3) ∷ (2, 5) ∷ (3, 3) ∷ (4, 5) ∷ (5, 3) ∷ (5, 5) ∷ []) ((18, 3) ∷ (18, 5) ∷ [])
    (returning 18 ((18, 2) ∷ (18, 3) ∷ (18, 5) ∷ (18, 7) ∷ (18, 10) ∷ (18, 13) ∷ (18, 15) ∷ (18, 17) ∷ [])) ++
    ceiling_words 8
    ((0, 1) ∷ (10, 0) ∷ (1, 1) ∷ (10, 0) ∷ (2, 1) ∷ (10, 0) ∷ (3, 1) ∷ (10, 0) ∷ (4, 1) ∷ (8, 1) ∷ (10, 0) ∷
    (5, 1) ∷ (8, 1) ∷ (9, 1) ∷ (10, 0) ∷ (6, 1) ∷ (8, 1) ∷ (10, 0) ∷ (7, 1) ∷ (10, 0) ∷ [])

unfoldable pub selective_listing : List ℕ
selective_listing =
    8 ∷ 2 ∷ 8 ∷ 21 ∷
    50 ∷ 51 ∷ 50 ∷ 51 ∷ 50 ∷ 51 ∷ 50 ∷ 51 ∷ 53 ∷ 50 ∷ 51 ∷ 53 ∷ 50 ∷ 51 ∷ 52 ∷ 50 ∷ 51 ∷ 52 ∷ 50 ∷ 51 ∷ 52 ∷
    0 ∷ 1 ∷ 1 ∷ 2 ∷ 2 ∷ 3 ∷ 3 ∷ 4 ∷ 8 ∷ 4 ∷ 5 ∷ 9 ∷ 5 ∷ 6 ∷ 9 ∷ 6 ∷ 7 ∷ 8 ∷ 6 ∷ 7 ∷ 9 ∷ []

unfoldable pub own_cases : List Case
own_cases =
    -- every branch, every receive state: see the listing
    safe 2 two_receives
    (two_receives_with
    ((14, 1) ∷ (14, 2) ∷ (14, 4) ∷ (14, 7) ∷ (14, 9) ∷ (14, 11) ∷ (14, 13) ∷ [])) two_receives_listing ∷
    -- without the state of the second branch, row 13, state 3 lacks it: the first columns begin at word 45, four of
    -- flow and one of mail, 45 + 5 + 3
    refused 40 (two_receives_with ((14, 1) ∷ (14, 2) ∷ (14, 4) ∷ (14, 7) ∷ (14, 9) ∷ (14, 11) ∷ [])) 8 53 ∷
    -- without the state behind the second receive, row 11, state 4 lacks it
    refused 40 (two_receives_with ((14, 1) ∷ (14, 2) ∷ (14, 4) ∷ (14, 7) ∷ (14, 9) ∷ (14, 13) ∷ [])) 8 54 ∷
    -- give back to each caller
    safe 0 two_callers (to_bytes (two_callers ++ two_callers_evidence)) two_callers_listing ∷
    -- x, two levels deep, holds row 2
    safe 1 nested (nested_with ((0, 2) ∷ (1, 4) ∷ (2, 7) ∷ (3, 2) ∷ [])) nested_listing ∷
    -- x left empty: state 3, the case, lacks it: the first columns begin at word 49, three of flow, 49 + 3 + 3
    refused 40 (nested_with ((0, 2) ∷ (1, 4) ∷ (2, 7) ∷ [])) 8 55 ∷
    -- x holding what is one level deep only, row 4
    refused 40 (nested_with ((0, 2) ∷ (1, 4) ∷ (2, 7) ∷ (3, 4) ∷ [])) 8 56 ∷
    -- a send to both classes
    safe 3 two_classes (two_classes_with ((15, 9) ∷ (27, 9) ∷ [])) two_classes_listing ∷
    -- without the second class's mail state 4, the send, lacks it: the first columns begin at word 71, eleven of flow,
    -- one of mail, 71 + 12 + 4
    refused 60 (two_classes_with ((15, 9) ∷ [])) 8 87 ∷
    -- an argument name without values
    safe 0 no_argument (to_bytes (no_argument ++ no_argument_evidence)) no_argument_listing ∷
    -- from = to
    safe 0 endless (to_bytes (endless ++ endless_evidence)) endless_listing ∷
    -- new state = from
    safe 0 brood (to_bytes (brood ++ brood_evidence)) brood_listing ∷
    -- a message passed over
    safe 0 selective (to_bytes (selective ++ selective_evidence)) selective_listing ∷
    -- K = 0: the start lies under no ceiling; with entries: the first is one too many
    refused 30 (with_ceilings (ceiling_words 0 [])) 11 60 ∷
    refused 30 (with_ceilings (ceiling_words 0 ((6, 0) ∷ []))) 10 62 ∷
    -- a ceiling of its closing entry alone is in form and covers nothing that is needed
    safe 0 a_program
    (with_ceilings
    (ceiling_words 6
    ((6, 0) ∷ (0, 1) ∷ (6, 0) ∷ (1, 1) ∷ (6, 0) ∷ (2, 1) ∷ (6, 0) ∷ (3, 1) ∷ (5, 1) ∷ (6, 0) ∷ (4, 1) ∷ (6, 0) ∷
    []))) a_listing ∷
    -- the last word of each part with its second byte missing: the parts end at words 24, 34, 60 and 84
    refused 30 (take 47 (to_bytes a_words)) 1 0 ∷
    refused 30 (take 67 (to_bytes a_words)) 1 24 ∷
    refused 30 (take 119 (to_bytes a_words)) 1 34 ∷
    refused 30 (take 167 (to_bytes a_words)) 1 60 ∷
    -- the last of the sizes with its second byte missing
    refused 30 (take 7 (to_bytes a_words)) 1 0 ∷
    []
