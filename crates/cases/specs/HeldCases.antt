-- Document 02, (iii): cases of a held name in a pattern, worked out by hand from the papers: verdicts, and where
-- runs get to.
use Rattle.std.specs.Prelude.{ℕ, ◌*◌, List, [], ◌∷◌, ◌++◌, length, replicate}
use Rattle.model.specs.Index.{gather, from_all}
use Rattle.model.specs.Message.{sizes}
use Rattle.model.specs.Rows.{Program, program}
use Rattle.model.specs.Values.{Process}
use Rattle.model.specs.Letters.{value_letter}
use Rattle.model.specs.Run.{run}
use Rattle.cases.specs.Cases.{Pairs, Triples, program_words, bad_words, table_words, ceiling_words, to_bytes}
use Rattle.cases.specs.Cases.{Case, returning, refused, safe, a_listing}

-- A run, and its processes then: of each its class, its place, and the letters in its mailbox, each with its heads,
-- with their count before them
pub record Arrival : Type 0 where
  pub program : List ℕ
  pub numbers : List ℕ
  pub expected : List ℕ

unfoldable pub process_words : Program → Process → List ℕ
process_words p q = q.class ∷ q.location ∷ length q.mailbox ∷ from_all q.mailbox (value_letter p)

unfoldable pub reached : Arrival → List ℕ
reached k =
    let p : Program = program k.program (sizes k.program) in from_all (run p k.numbers) (process_words p)

-- process 0 makes so many steps, and these are the processes then
abbrev pub steps : List ℕ → ℕ → List ℕ → Arrival
steps program n expected = record { program = program; numbers = replicate n 0; expected = expected }

-- A bad on a letter that has no counter, and one ceiling without limits: the verdict hangs on the tables alone.
unfoldable pub free_ceilings : ℕ → List ℕ
free_ceilings counters = ceiling_words 1 (gather 0 counters (λ i. (i, 65535) ∷ []) ++ ((counters, 0) ∷ []))

unfoldable pub held_message : List ℕ → ℕ → ℕ → List ℕ → ℕ → List ℕ
held_message program class letter tables counters =
    to_bytes
    (program ++ bad_words 1 ((40, class) ∷ (42, letter) ∷ (43, 1) ∷ (44, 0) ∷ []) ++ tables ++ free_ceilings counters)

-- rules without a letter or a new state, by from and to
unfoldable pub quiet_listing : ℕ → Pairs → List ℕ
quiet_listing states rules =
    (states ∷ 0 ∷ length rules ∷ 2 * length rules ∷ from_all rules (λ r. 50 ∷ 51 ∷ [])) ++
    from_all rules (λ r. r.0 ∷ r.1 ∷ [])

-- Bads of four rows (0, 0): a program that passes 3 to 5 gets 6 at the bads' first tag, word 4 + 2 R + 2.
unfoldable pub bare_message : List ℕ → List ℕ
bare_message program =
    to_bytes (program ++ bad_words 1 (replicate 4 (0, 0)) ++ table_words [] [] [] ++ ceiling_words 0 [])

-- x = self; m = c0(x, x); send x m; receive { c0(y, P) -> receive { c0(y', Q) -> y; R -> x } }, where P, Q and R
-- are given. Rows 12, 16 and 18.
unfoldable pub patterns : ℕ × ℕ → ℕ × ℕ → ℕ × ℕ → List ℕ
patterns a b c =
    program_words 5 1 0
    ((10, 2) ∷ (7, 0) ∷
    (2, 1) ∷ (20, 0) ∷ (21, 0) ∷ (21, 0) ∷
    (5, 2) ∷ (21, 0) ∷ (21, 1) ∷
    (9, 1) ∷ (31, 0) ∷ (30, 3) ∷ a ∷
    (9, 2) ∷ (31, 0) ∷ (30, 4) ∷ b ∷ (1, 3) ∷ c ∷ (1, 0) ∷ [])

-- x = self; m = c0(x); send x m; receive { c0(P) -> x }, where P is given. Row 10. But for the argument this is
-- station A.
unfoldable pub sent_names : ℕ → ℕ × ℕ → List ℕ
sent_names names a =
    program_words names 1 0
    ((10, 1) ∷ (7, 0) ∷
    (2, 1) ∷ (20, 0) ∷ (21, 0) ∷
    (5, 2) ∷ (21, 0) ∷ (21, 1) ∷
    (9, 1) ∷ (31, 0) ∷ a ∷ (1, 0) ∷ [])

unfoldable pub sent : ℕ × ℕ → List ℕ
sent a = sent_names 3 a

unfoldable pub sent_tables : List ℕ
sent_tables =
    table_words ((0, 12) ∷ (1, 2) ∷ (2, 2) ∷ []) ((12, 2) ∷ [])
    (returning 12 ((12, 1) ∷ (12, 2) ∷ (12, 5) ∷ (12, 8) ∷ (12, 11) ∷ []))

-- x = self; a = c0(x); b = c0(a); d = c0(b); case d of { the patterns given -> x }
unfoldable pub deep : Pairs → List ℕ
deep rows =
    program_words 4 1 0
    (((10, 1) ∷ (7, 0) ∷
    (2, 1) ∷ (20, 0) ∷ (21, 0) ∷
    (2, 2) ∷ (20, 0) ∷ (21, 1) ∷
    (2, 3) ∷ (20, 0) ∷ (21, 2) ∷
    (8, 3) ∷ (25, 1) ∷ []) ++ rows ++ ((1, 0) ∷ []))

-- c0(c0(c0(P))), four levels deep: row 16, then x is given back in row 17
unfoldable pub four_deep : ℕ × ℕ → List ℕ
four_deep a = deep ((31, 0) ∷ (31, 0) ∷ (31, 0) ∷ a ∷ [])

unfoldable pub deep_tables : List ℕ
deep_tables =
    table_words ((0, 18) ∷ (1, 2) ∷ (2, 5) ∷ (3, 8) ∷ []) []
    (returning 18 ((18, 1) ∷ (18, 2) ∷ (18, 5) ∷ (18, 8) ∷ (18, 11) ∷ (18, 17) ∷ []))

-- f() = self; case f of { =f -> f; _ -> f }: branches in rows 7 and 9
unfoldable pub global : List ℕ
global =
    program_words 2 0 1
    ((11, 0) ∷ (22, 0) ∷ (7, 1) ∷ (1, 1) ∷
    (8, 0) ∷ (25, 2) ∷ (33, 0) ∷ (1, 0) ∷ (32, 0) ∷ (1, 0) ∷ [])

-- u = fun () -> self; a = c0(u); case a of { =a -> a; _ -> u }: branches in rows 11 and 13
unfoldable pub function_inside : List ℕ
function_inside =
    program_words 3 1 0
    ((10, 1) ∷ (3, 0) ∷ (22, 0) ∷ (7, 1) ∷ (1, 1) ∷
    (2, 2) ∷ (20, 0) ∷ (21, 0) ∷
    (8, 2) ∷ (25, 2) ∷ (33, 2) ∷ (1, 2) ∷ (32, 0) ∷ (1, 0) ∷ [])

unfoldable pub function_tables : List ℕ
function_tables = table_words ((0, 1) ∷ (2, 5) ∷ []) []
    (returning 14 ((14, 1) ∷ (14, 5) ∷ (14, 8) ∷ (14, 11) ∷ (14, 13) ∷ []))

-- work() = receive { _ -> work }; make() = s = spawn work; s. Then a = make(); b = make(); case a of { =N -> a; _
-- -> b }, where the name N is given: two processes of class 7. Branches in rows 19 and 21.
unfoldable pub one_class : ℕ → List ℕ
one_class n =
    program_words 5 0 2
    ((11, 0) ∷ (22, 0) ∷ (9, 1) ∷ (32, 0) ∷ (1, 0) ∷
    (11, 1) ∷ (22, 0) ∷ (6, 2) ∷ (21, 0) ∷ (1, 2) ∷
    (4, 3) ∷ (21, 1) ∷ (22, 0) ∷
    (4, 4) ∷ (21, 1) ∷ (22, 0) ∷
    (8, 3) ∷ (25, 2) ∷ (33, n) ∷ (1, 3) ∷ (32, 0) ∷ (1, 4) ∷ [])

unfoldable pub one_class_tables : Pairs → List ℕ
one_class_tables branches =
    table_words ((0, 0) ∷ (1, 5) ∷ (2, 7) ∷ (3, 7) ∷ (4, 7) ∷ []) []
    (((7, 2, 22) ∷ (22, 7, 10) ∷ (22, 7, 13) ∷ (22, 9, 10) ∷ (22, 9, 13) ∷ []) ++
    returning 22 (((22, 10) ∷ (22, 13) ∷ (22, 16) ∷ []) ++ branches))

-- the spawn, states 1 and 2, starts state 0; make gives back behind its call; either branch may be taken
unfoldable pub one_class_listing : List ℕ
one_class_listing =
    10 ∷ 0 ∷ 8 ∷ 18 ∷
    50 ∷ 51 ∷ 54 ∷ 50 ∷ 51 ∷ 54 ∷ 50 ∷ 51 ∷ 50 ∷ 51 ∷ 50 ∷ 51 ∷ 50 ∷ 51 ∷ 50 ∷ 51 ∷ 50 ∷ 51 ∷
    1 ∷ 3 ∷ 0 ∷ 2 ∷ 4 ∷ 0 ∷ 3 ∷ 6 ∷ 4 ∷ 7 ∷ 5 ∷ 1 ∷ 6 ∷ 2 ∷ 7 ∷ 8 ∷ 7 ∷ 9 ∷ []

-- u = c1; w = c2; a = c0(u); b = c0(w); d = c0(u); case a of { =b -> a; _ -> case a of { =d -> a; _ -> b } }:
-- branches in rows 19, 21, 24, 26
unfoldable pub other_arguments : List ℕ
other_arguments =
    program_words 5 3 0
    ((10, 1) ∷ (10, 0) ∷ (10, 0) ∷
    (2, 0) ∷ (20, 1) ∷
    (2, 1) ∷ (20, 2) ∷
    (2, 2) ∷ (20, 0) ∷ (21, 0) ∷
    (2, 3) ∷ (20, 0) ∷ (21, 1) ∷
    (2, 4) ∷ (20, 0) ∷ (21, 0) ∷
    (8, 2) ∷ (25, 2) ∷ (33, 3) ∷ (1, 2) ∷ (32, 0) ∷
    (8, 2) ∷ (25, 2) ∷ (33, 4) ∷ (1, 2) ∷ (32, 0) ∷ (1, 3) ∷ [])

unfoldable pub other_arguments_tables : List ℕ
other_arguments_tables =
    table_words ((0, 3) ∷ (1, 5) ∷ (2, 7) ∷ (3, 10) ∷ (4, 13) ∷ []) []
    (returning 27
    ((27, 3) ∷ (27, 5) ∷ (27, 7) ∷ (27, 10) ∷ (27, 13) ∷ (27, 16) ∷ (27, 19) ∷ (27, 21) ∷ (27, 24) ∷ (27, 26) ∷ []))

-- x = self; u = c0; w = c1; send x u; send x w; receive { =w -> x }
unfoldable pub passed_over : List ℕ
passed_over =
    program_words 5 2 0
    ((10, 0) ∷ (10, 0) ∷ (7, 0) ∷
    (2, 1) ∷ (20, 0) ∷
    (2, 2) ∷ (20, 1) ∷
    (5, 3) ∷ (21, 0) ∷ (21, 1) ∷
    (5, 4) ∷ (21, 0) ∷ (21, 2) ∷
    (9, 1) ∷ (33, 2) ∷ (1, 0) ∷ [])

unfoldable pub passed_over_tables : List ℕ
passed_over_tables =
    table_words ((0, 16) ∷ (1, 3) ∷ (2, 5) ∷ (3, 3) ∷ (4, 5) ∷ []) ((16, 3) ∷ (16, 5) ∷ [])
    (returning 16 ((16, 2) ∷ (16, 3) ∷ (16, 5) ∷ (16, 7) ∷ (16, 10) ∷ (16, 13) ∷ (16, 15) ∷ []))

-- letter counters 7 for c0 and 8 for c1; the receive reads 8 alone
unfoldable pub passed_over_listing : List ℕ
passed_over_listing =
    7 ∷ 2 ∷ 6 ∷ 15 ∷
    50 ∷ 51 ∷ 50 ∷ 51 ∷ 50 ∷ 51 ∷ 50 ∷ 51 ∷ 53 ∷ 50 ∷ 51 ∷ 53 ∷ 50 ∷ 51 ∷ 52 ∷
    0 ∷ 1 ∷ 1 ∷ 2 ∷ 2 ∷ 3 ∷ 3 ∷ 4 ∷ 7 ∷ 4 ∷ 5 ∷ 8 ∷ 5 ∷ 6 ∷ 8 ∷ []

-- f() = receive { _ -> f }; x = self; y = spawn f; send x y; receive { =N -> x }, where the name N is given: an address
-- in the mail of the start's class 14, of class 6. Branch in row 13.
unfoldable pub address_sent : ℕ → List ℕ
address_sent n =
    program_words 4 0 1
    ((11, 0) ∷ (22, 0) ∷ (9, 1) ∷ (32, 0) ∷ (1, 0) ∷
    (7, 1) ∷
    (6, 2) ∷ (21, 0) ∷
    (5, 3) ∷ (21, 1) ∷ (21, 2) ∷
    (9, 1) ∷ (33, n) ∷ (1, 1) ∷ [])

unfoldable pub address_tables : List ℕ
address_tables =
    table_words ((0, 0) ∷ (1, 14) ∷ (2, 6) ∷ (3, 6) ∷ []) ((14, 6) ∷ [])
    (returning 14 ((6, 2) ∷ (14, 5) ∷ (14, 6) ∷ (14, 8) ∷ (14, 11) ∷ (14, 13) ∷ []))

-- the message is sent, and no rule reads it
unfoldable pub address_unread : List ℕ
address_unread =
    6 ∷ 1 ∷ 3 ∷ 8 ∷ 50 ∷ 51 ∷ 50 ∷ 51 ∷ 54 ∷ 50 ∷ 51 ∷ 53 ∷ 1 ∷ 2 ∷ 2 ∷ 3 ∷ 0 ∷ 3 ∷ 4 ∷ 6 ∷ []

-- pick(a) = w = c1; case w of { =a -> a; _ -> w }; then u = c0; v = c1; d = pick(u); e = pick(v); d: the values of a
-- are rows 13, a c0, and 15, a c1. Branches in rows 10 and 12.
unfoldable pub two_values : List ℕ
two_values =
    program_words 7 2 1
    ((10, 0) ∷ (10, 0) ∷
    (11, 0) ∷ (22, 1) ∷ (23, 1) ∷
    (2, 2) ∷ (20, 1) ∷
    (8, 2) ∷ (25, 2) ∷ (33, 1) ∷ (1, 1) ∷ (32, 0) ∷ (1, 2) ∷
    (2, 3) ∷ (20, 0) ∷
    (2, 4) ∷ (20, 1) ∷
    (4, 5) ∷ (21, 0) ∷ (22, 1) ∷ (21, 3) ∷
    (4, 6) ∷ (21, 0) ∷ (22, 1) ∷ (21, 4) ∷
    (1, 5) ∷ [])

unfoldable pub two_values_tables : Triples → List ℕ
two_values_tables branches =
    table_words
    ((0, 2) ∷ (1, 13) ∷ (1, 15) ∷ (2, 5) ∷ (3, 13) ∷ (4, 15) ∷ (5, 5) ∷ (5, 13) ∷ (5, 15) ∷ (6, 5) ∷ (6, 13) ∷
    (6, 15) ∷ []) []
    (((26, 5, 17) ∷ (26, 5, 21) ∷ (26, 7, 17) ∷ (26, 7, 21) ∷ []) ++ branches ++
    returning 26 ((26, 13) ∷ (26, 15) ∷ (26, 17) ∷ (26, 21) ∷ (26, 25) ∷ []))

-- f(a) = m = c0(a); m, which nobody calls; x = self; y = c0(x); case y of { =x -> x }: branch in row 15
unfoldable pub valueless_argument : List ℕ
valueless_argument =
    program_words 5 1 1
    ((10, 1) ∷
    (11, 0) ∷ (22, 1) ∷ (23, 1) ∷
    (2, 2) ∷ (20, 0) ∷ (21, 1) ∷ (1, 2) ∷
    (7, 3) ∷
    (2, 4) ∷ (20, 0) ∷ (21, 3) ∷
    (8, 4) ∷ (25, 1) ∷ (33, 3) ∷ (1, 3) ∷ [])

-- the values of x are given, among them that of its own class
unfoldable pub valueless_argument_tables : Pairs → List ℕ
valueless_argument_tables xs =
    table_words (((0, 1) ∷ []) ++ xs ++ ((4, 9) ∷ [])) []
    (returning 16 ((16, 8) ∷ (16, 9) ∷ (16, 12) ∷ (16, 15) ∷ []))

-- x = self; a = c0(x); b = c0(a); d = c0(b); send x d; receive { c0(c0(c0(P))) -> x }, where P is given: four levels
-- deep in a receive. Row 18, then x is given back in row 19.
unfoldable pub deep_receive : ℕ × ℕ → List ℕ
deep_receive a =
    program_words 5 1 0
    ((10, 1) ∷ (7, 0) ∷
    (2, 1) ∷ (20, 0) ∷ (21, 0) ∷
    (2, 2) ∷ (20, 0) ∷ (21, 1) ∷
    (2, 3) ∷ (20, 0) ∷ (21, 2) ∷
    (5, 4) ∷ (21, 0) ∷ (21, 3) ∷
    (9, 1) ∷ (31, 0) ∷ (31, 0) ∷ (31, 0) ∷ a ∷ (1, 0) ∷ [])

unfoldable pub deep_receive_tables : List ℕ
deep_receive_tables =
    table_words ((0, 20) ∷ (1, 2) ∷ (2, 5) ∷ (3, 8) ∷ (4, 8) ∷ []) ((20, 8) ∷ [])
    (returning 20 ((20, 1) ∷ (20, 2) ∷ (20, 5) ∷ (20, 8) ∷ (20, 11) ∷ (20, 14) ∷ (20, 19) ∷ []))

-- x = self; f = fun () -> x; s = send x f; receive { =f -> x }: a function in the mailbox (which 22 refuses), rows 8
-- to 10
unfoldable pub function_sent : List ℕ
function_sent =
    program_words 3 0 0
    ((7, 0) ∷
    (3, 1) ∷ (22, 0) ∷ (1, 0) ∷
    (5, 2) ∷ (21, 0) ∷ (21, 1) ∷
    (9, 1) ∷ (33, 1) ∷ (1, 0) ∷ [])

unfoldable pub held_cases : List Case
held_cases =
    -- R 20, so 6 is at word 46. Names in scope at the receive: x at both; y, of the branch, at the second
    refused 9 (bare_message (patterns (33, 0) (33, 3) (33, 3))) 6 46 ∷
    -- a name of the same pattern, bound before it: 4 + row 12; and at the second receive 4 + row 16
    refused 9 (bare_message (patterns (33, 3) (32, 0) (32, 0))) 5 16 ∷
    refused 9 (bare_message (patterns (32, 0) (33, 4) (32, 0))) 5 20 ∷
    -- a name of another branch: 4 + row 18; a name bound behind the receive: 4 + row 12
    refused 9 (bare_message (patterns (32, 0) (32, 0) (33, 4))) 5 22 ∷
    refused 9 (bare_message (patterns (33, 4) (32, 0) (32, 0))) 5 16 ∷
    -- a number from V up: 4 + row 12
    refused 9 (bare_message (patterns (33, 5) (32, 0) (32, 0))) 3 16 ∷
    -- it binds nothing: name 3 is bound nowhere
    refused 9 (bare_message (sent_names 4 (33, 3))) 4 1 ∷
    -- under a constructor, in a receive: x may be x, and as in station A the message is read
    safe 3 (sent (33, 0)) (held_message (sent (33, 0)) 12 1 sent_tables 6) a_listing ∷
    -- x, a process, is never m, a built value: no rule reads the message, and the state behind is an extra entry
    safe 3 (sent (33, 1)) (held_message (sent (33, 1)) 12 1 sent_tables 6)
    (5 ∷ 1 ∷ 3 ∷ 7 ∷ 50 ∷ 51 ∷ 50 ∷ 51 ∷ 50 ∷ 51 ∷ 53 ∷ 0 ∷ 1 ∷ 1 ∷ 2 ∷ 2 ∷ 3 ∷ 5 ∷ []) ∷
    -- four levels deep, in a case; five are one too many: 4 + row 17
    safe 3 (four_deep (33, 0)) (held_message (four_deep (33, 0)) 18 0 deep_tables 6)
    (quiet_listing 6 ((0, 1) ∷ (1, 2) ∷ (2, 3) ∷ (3, 4) ∷ (4, 5) ∷ [])) ∷
    safe 3 (four_deep (33, 1)) (held_message (four_deep (33, 1)) 18 0 deep_tables 6)
    (quiet_listing 6 ((0, 1) ∷ (1, 2) ∷ (2, 3) ∷ (3, 4) ∷ [])) ∷
    refused 9 (bare_message (deep ((31, 0) ∷ (31, 0) ∷ (31, 0) ∷ (31, 0) ∷ (33, 0) ∷ []))) 3 21 ∷
    -- four levels deep in a receive: letter counter 7 is read where x may be x, and not where x may not be a c0
    safe 3 (deep_receive (33, 0)) (held_message (deep_receive (33, 0)) 20 1 deep_receive_tables 8)
    (7 ∷ 1 ∷ 6 ∷ 14 ∷
    50 ∷ 51 ∷ 50 ∷ 51 ∷ 50 ∷ 51 ∷ 50 ∷ 51 ∷ 50 ∷ 51 ∷ 53 ∷ 50 ∷ 51 ∷ 52 ∷
    0 ∷ 1 ∷ 1 ∷ 2 ∷ 2 ∷ 3 ∷ 3 ∷ 4 ∷ 4 ∷ 5 ∷ 7 ∷ 5 ∷ 6 ∷ 7 ∷ []) ∷
    safe 3 (deep_receive (33, 1)) (held_message (deep_receive (33, 1)) 20 1 deep_receive_tables 8)
    (7 ∷ 1 ∷ 5 ∷ 11 ∷
    50 ∷ 51 ∷ 50 ∷ 51 ∷ 50 ∷ 51 ∷ 50 ∷ 51 ∷ 50 ∷ 51 ∷ 53 ∷
    0 ∷ 1 ∷ 1 ∷ 2 ∷ 2 ∷ 3 ∷ 3 ∷ 4 ∷ 4 ∷ 5 ∷ 7 ∷ []) ∷
    -- a tag 11 name: row 0 is a function, and may match nothing; so the first branch is not wanted
    safe 3 global (held_message global 10 0 (table_words ((0, 0) ∷ []) [] (returning 10 ((10, 4) ∷ (10, 9) ∷ []))) 2)
    (quiet_listing 2 ((0, 1) ∷ [])) ∷
    -- a built value with a function inside: by rows alone it may match itself
    safe 3 function_inside (held_message function_inside 14 0 function_tables 5)
    (quiet_listing 5 ((0, 1) ∷ (1, 2) ∷ (2, 3) ∷ (2, 4) ∷ [])) ∷
    -- two processes of one class may be one; without the state of that branch state 7 lacks it: the first
    -- columns begin at word 61, five of flow
    safe 3 (one_class 4) (held_message (one_class 4) 22 0 (one_class_tables ((22, 19) ∷ (22, 21) ∷ [])) 10)
    one_class_listing ∷
    refused 9 (held_message (one_class 4) 22 0 (one_class_tables ((22, 21) ∷ [])) 9) 8 73 ∷
    -- build rows of one constructor, whatever their arguments
    safe 3 other_arguments (held_message other_arguments 27 0 other_arguments_tables 10)
    (quiet_listing 10 ((0, 1) ∷ (1, 2) ∷ (2, 3) ∷ (3, 4) ∷ (4, 5) ∷ (5, 6) ∷ (5, 7) ∷ (7, 8) ∷ (7, 9) ∷ [])) ∷
    -- a receive by a held name alone
    safe 3 passed_over (held_message passed_over 16 2 passed_over_tables 9) passed_over_listing ∷
    -- an address in the mail: a held name of its class reads it, one of another class does not, nor does a function
    safe 3 (address_sent 2) (held_message (address_sent 2) 14 0 address_tables 7)
    (6 ∷ 1 ∷ 4 ∷ 11 ∷ 50 ∷ 51 ∷ 50 ∷ 51 ∷ 54 ∷ 50 ∷ 51 ∷ 53 ∷ 50 ∷ 51 ∷ 52 ∷
    1 ∷ 2 ∷ 2 ∷ 3 ∷ 0 ∷ 3 ∷ 4 ∷ 6 ∷ 4 ∷ 5 ∷ 6 ∷ []) ∷
    safe 3 (address_sent 1) (held_message (address_sent 1) 14 0 address_tables 7) address_unread ∷
    safe 3 (address_sent 0) (held_message (address_sent 0) 14 0 address_tables 7) address_unread ∷
    -- two values, of which the second alone may match; without its branch state 2 lacks it: the first columns begin at
    -- word 69, twelve of flow
    safe 3 two_values
    (held_message two_values 26 0
    (two_values_tables ((26, 10, 17) ∷ (26, 10, 21) ∷ (26, 12, 17) ∷ (26, 12, 21) ∷ [])) 13)
    (quiet_listing 13
    ((0, 2) ∷ (1, 3) ∷ (2, 4) ∷ (2, 6) ∷ (3, 5) ∷ (3, 7) ∷ (4, 11) ∷ (5, 12) ∷ (6, 11) ∷ (7, 12) ∷ (8, 9) ∷ (9, 10) ∷
    (10, 0) ∷ (11, 1) ∷ [])) ∷
    refused 9 (held_message two_values 26 0 (two_values_tables ((26, 12, 17) ∷ (26, 12, 21) ∷ [])) 11) 8 83 ∷
    -- the values of x with row 4 among them, by an extra entry: a c0 as y is, whose argument has no value; and without
    safe 3 valueless_argument
    (held_message valueless_argument 16 0 (valueless_argument_tables ((3, 4) ∷ (3, 16) ∷ [])) 4)
    (quiet_listing 4 ((0, 1) ∷ (1, 2) ∷ (2, 3) ∷ [])) ∷
    safe 3 valueless_argument (held_message valueless_argument 16 0 (valueless_argument_tables ((3, 16) ∷ [])) 4)
    (quiet_listing 4 ((0, 1) ∷ (1, 2) ∷ [])) ∷
    []

unfoldable pub held_runs : List Arrival
held_runs =
    -- the own address is the one held
    steps (sent (33, 0)) 4 (12 ∷ 11 ∷ 0 ∷ []) ∷
    -- and no built value: the message stays, and the process waits
    steps (sent (33, 1)) 4 (12 ∷ 8 ∷ 1 ∷ 0 ∷ 2 ∷ []) ∷
    steps (four_deep (33, 0)) 5 (18 ∷ 17 ∷ 0 ∷ []) ∷
    steps (four_deep (33, 1)) 5 (18 ∷ 11 ∷ 0 ∷ []) ∷
    steps (deep_receive (33, 0)) 6 (20 ∷ 19 ∷ 0 ∷ []) ∷
    steps (deep_receive (33, 1)) 6 (20 ∷ 14 ∷ 1 ∷ 0 ∷ 0 ∷ []) ∷
    -- a function is not equal to itself, nor is what holds one; one in the mailbox, of letter C, stays there
    steps function_sent 4 (10 ∷ 7 ∷ 1 ∷ 0 ∷ []) ∷
    steps global 1 (10 ∷ 9 ∷ 0 ∷ []) ∷
    steps function_inside 3 (14 ∷ 13 ∷ 0 ∷ []) ∷
    -- two processes of one class are two; one is itself
    steps (one_class 4) 7 (22 ∷ 21 ∷ 0 ∷ 7 ∷ 2 ∷ 0 ∷ 7 ∷ 2 ∷ 0 ∷ []) ∷
    steps (one_class 3) 7 (22 ∷ 19 ∷ 0 ∷ 7 ∷ 2 ∷ 0 ∷ 7 ∷ 2 ∷ 0 ∷ []) ∷
    -- c0(c1) is not c0(c2), and is a c0(c1) built at another row
    steps other_arguments 6 (27 ∷ 21 ∷ 0 ∷ []) ∷
    steps other_arguments 7 (27 ∷ 24 ∷ 0 ∷ []) ∷
    -- the earlier message is no match, is passed over and stays
    steps passed_over 6 (16 ∷ 15 ∷ 1 ∷ 0 ∷ []) ∷
    -- the address of the other process is that one's, and not the own
    steps (address_sent 2) 4 (14 ∷ 13 ∷ 0 ∷ 6 ∷ 2 ∷ 0 ∷ []) ∷
    steps (address_sent 1) 4 (14 ∷ 11 ∷ 1 ∷ 1 ∷ 6 ∷ 2 ∷ 0 ∷ []) ∷
    -- the first call holds a c0, the second a c1
    steps two_values 5 (26 ∷ 12 ∷ 0 ∷ []) ∷
    steps two_values 9 (26 ∷ 10 ∷ 0 ∷ []) ∷
    []
