-- Document 01, "How a station runs", as cases: small stations, and what each run has come to after a list of process
-- numbers. What is expected is what the other implementation's machine gives, which was written from the papers
-- alone: `oracle run-cases oracle/tests/cases/runs.txt` writes this file. proofs/RunCases.antt proves by computation
-- that the model's runs come to the same.
--
-- Above each station stands its text (docs/STATIONS.md has the form; a run knows nothing of bads). `(0, 5) ∷ (1, 2) ∷
-- []` feeds the number 0 five times and then 1 twice. Then there is a text for each process, as Shown.antt says:
-- class@place, the calls pushed, the mailbox.
use Rattle.std.specs.Prelude.{List, [], ◌∷◌}
use Rattle.model.specs.Rows.{Program}
use Rattle.cases.specs.Shown.{station, RunCase, after}

-- A message to oneself, received.
--     constructors a/0.
--     start ->
--         Me = self(),
--         Me ! a,
--         receive a -> Me end.
unfoldable pub one_message : Program
one_message =
    station 3 1 0
    ((10, 0) ∷ (7, 0) ∷ (2, 1) ∷ (20, 0) ∷ (5, 2) ∷ (21, 0) ∷ (21, 1) ∷ (9, 1) ∷ (31, 0) ∷ (1, 0) ∷ [])

-- Four messages in one mailbox.
--     constructors a/0, b/0, c/0.
--     start ->
--         Me = self(),
--         Me ! a,
--         Me ! b,
--         Me ! c,
--         Me ! a,
--         receive X -> receive Y -> Me ! Y end end.
unfoldable pub three_letters : Program
three_letters =
    station 12 3 0
    ((10, 0) ∷ (10, 0) ∷ (10, 0) ∷ (7, 0) ∷ (2, 1) ∷ (20, 0) ∷ (5, 2) ∷ (21, 0) ∷ (21, 1) ∷ (2, 3) ∷ (20, 1) ∷
    (5, 4) ∷ (21, 0) ∷ (21, 3) ∷ (2, 5) ∷ (20, 2) ∷ (5, 6) ∷ (21, 0) ∷ (21, 5) ∷ (2, 7) ∷ (20, 0) ∷ (5, 8) ∷ (21, 0) ∷
    (21, 7) ∷ (9, 1) ∷ (30, 9) ∷ (9, 1) ∷ (30, 10) ∷ (5, 11) ∷ (21, 0) ∷ (21, 10) ∷ (1, 11) ∷ [])

-- A receive passes over three messages, two of them alike.
--     constructors a/0, b/1, c/0.
--     start ->
--         Me = self(),
--         A = a,
--         Me ! A,
--         Me ! b(A),
--         Me ! A,
--         Me ! c,
--         receive c -> receive a -> receive b(_) -> Me end end end.
unfoldable pub passed_over : Program
passed_over =
    station 8 3 0
    ((10, 0) ∷ (10, 1) ∷ (10, 0) ∷ (7, 0) ∷ (2, 1) ∷ (20, 0) ∷ (5, 2) ∷ (21, 0) ∷ (21, 1) ∷ (2, 3) ∷ (20, 1) ∷
    (21, 1) ∷ (5, 4) ∷ (21, 0) ∷ (21, 3) ∷ (5, 5) ∷ (21, 0) ∷ (21, 1) ∷ (2, 6) ∷ (20, 2) ∷ (5, 7) ∷ (21, 0) ∷
    (21, 6) ∷ (9, 1) ∷ (31, 2) ∷ (9, 1) ∷ (31, 0) ∷ (9, 1) ∷ (31, 1) ∷ (32, 0) ∷ (1, 0) ∷ [])

-- The earliest message that any branch matches, also where an earlier branch matches a later message.
--     constructors a/0, b/0.
--     start ->
--         Me = self(),
--         Me ! a,
--         Me ! b,
--         receive b -> Me; a -> Me ! a end.
unfoldable pub any_branch : Program
any_branch =
    station 7 2 0
    ((10, 0) ∷ (10, 0) ∷ (7, 0) ∷ (2, 1) ∷ (20, 0) ∷ (5, 2) ∷ (21, 0) ∷ (21, 1) ∷ (2, 3) ∷ (20, 1) ∷ (5, 4) ∷
    (21, 0) ∷ (21, 3) ∷ (9, 2) ∷ (31, 1) ∷ (1, 0) ∷ (31, 0) ∷ (2, 5) ∷ (20, 0) ∷ (5, 6) ∷ (21, 0) ∷ (21, 5) ∷ (1, 6) ∷
    [])

-- Two branches match one message.
--     constructors a/0, box/1.
--     start ->
--         Me = self(),
--         Me ! box(a),
--         receive box(_) -> Me ! a; X -> Me ! X end.
unfoldable pub both_branches : Program
both_branches =
    station 8 2 0
    ((10, 0) ∷ (10, 1) ∷ (7, 0) ∷ (2, 1) ∷ (20, 0) ∷ (2, 2) ∷ (20, 1) ∷ (21, 1) ∷ (5, 3) ∷ (21, 0) ∷ (21, 2) ∷
    (9, 2) ∷ (31, 1) ∷ (32, 0) ∷ (2, 4) ∷ (20, 0) ∷ (5, 5) ∷ (21, 0) ∷ (21, 4) ∷ (1, 5) ∷ (30, 6) ∷ (5, 7) ∷ (21, 0) ∷
    (21, 6) ∷ (1, 7) ∷ [])

-- Two branches of a case match, behind one that does not.
--     constructors a/0, b/0, box/1.
--     start ->
--         Me = self(),
--         case box(a) of
--             box(b) -> b;
--             box(X) -> Me ! X;
--             _ -> a
--         end.
unfoldable pub case_branches : Program
case_branches =
    station 7 3 0
    ((10, 0) ∷ (10, 0) ∷ (10, 1) ∷ (7, 0) ∷ (2, 1) ∷ (20, 0) ∷ (2, 2) ∷ (20, 2) ∷ (21, 1) ∷ (8, 2) ∷ (25, 3) ∷
    (31, 2) ∷ (31, 1) ∷ (2, 3) ∷ (20, 1) ∷ (1, 3) ∷ (31, 2) ∷ (30, 4) ∷ (5, 5) ∷ (21, 0) ∷ (21, 4) ∷ (1, 5) ∷
    (32, 0) ∷ (2, 6) ∷ (20, 0) ∷ (1, 6) ∷ [])

-- A pattern that matches in its first part alone leaves nothing behind.
--     constructors a/0, b/0, pair/2.
--     start ->
--         Me = self(),
--         P = pair(a, b),
--         case P of
--             pair(X, a) -> X;
--             pair(_, Y) -> Me ! fun() -> Y end
--         end.
unfoldable pub half_match : Program
half_match =
    station 8 3 0
    ((10, 0) ∷ (10, 0) ∷ (10, 2) ∷ (7, 0) ∷ (2, 1) ∷ (20, 0) ∷ (2, 2) ∷ (20, 1) ∷ (2, 3) ∷ (20, 2) ∷ (21, 1) ∷
    (21, 2) ∷ (8, 3) ∷ (25, 2) ∷ (31, 2) ∷ (30, 4) ∷ (31, 0) ∷ (1, 4) ∷ (31, 2) ∷ (32, 0) ∷ (30, 5) ∷ (3, 6) ∷
    (22, 0) ∷ (1, 5) ∷ (5, 7) ∷ (21, 0) ∷ (21, 6) ∷ (1, 7) ∷ [])

-- Names at three depths of one pattern.
--     constructors a/0, b/0, box/1, pair/2.
--     start ->
--         Me = self(),
--         A = a,
--         B = b,
--         case pair(box(box(A)), pair(B, A)) of
--             pair(box(box(X)), pair(Y, Z)) ->
--                 Me ! pair(Z, pair(Y, X))
--         end.
unfoldable pub deep_pattern : Program
deep_pattern =
    station 13 4 0
    ((10, 0) ∷ (10, 0) ∷ (10, 1) ∷ (10, 2) ∷ (7, 0) ∷ (2, 1) ∷ (20, 0) ∷ (2, 2) ∷ (20, 1) ∷ (2, 3) ∷ (20, 2) ∷
    (21, 1) ∷ (2, 4) ∷ (20, 2) ∷ (21, 3) ∷ (2, 5) ∷ (20, 3) ∷ (21, 2) ∷ (21, 1) ∷ (2, 6) ∷ (20, 3) ∷ (21, 4) ∷
    (21, 5) ∷ (8, 6) ∷ (25, 1) ∷ (31, 3) ∷ (31, 2) ∷ (31, 2) ∷ (30, 7) ∷ (31, 3) ∷ (30, 8) ∷ (30, 9) ∷ (2, 10) ∷
    (20, 3) ∷ (21, 8) ∷ (21, 7) ∷ (2, 11) ∷ (20, 3) ∷ (21, 9) ∷ (21, 10) ∷ (5, 12) ∷ (21, 0) ∷ (21, 11) ∷ (1, 12) ∷
    [])

-- A pattern's name binds afresh: it is not compared with a name outside.
--     constructors a/0, b/0.
--     start ->
--         Me = self(),
--         X = a,
--         case b of X -> Me ! X end.
unfoldable pub fresh_names : Program
fresh_names =
    station 5 2 0
    ((10, 0) ∷ (10, 0) ∷ (7, 0) ∷ (2, 1) ∷ (20, 0) ∷ (2, 2) ∷ (20, 1) ∷ (8, 2) ∷ (25, 1) ∷ (30, 3) ∷ (5, 4) ∷
    (21, 0) ∷ (21, 3) ∷ (1, 4) ∷ [])

-- A send yields the message.
--     constructors a/0.
--     start ->
--         Me = self(),
--         X = Me ! a,
--         Me ! X.
unfoldable pub yields_message : Program
yields_message =
    station 4 1 0
    ((10, 0) ∷ (7, 0) ∷ (2, 1) ∷ (20, 0) ∷ (5, 2) ∷ (21, 0) ∷ (21, 1) ∷ (5, 3) ∷ (21, 0) ∷ (21, 2) ∷ (1, 3) ∷ [])

-- A function value keeps its bindings.
--     constructors a/0, b/0.
--     start ->
--         Me = self(),
--         A = a,
--         F = fun(X) -> A end,
--         B = b,
--         Me ! F,
--         F(B).
unfoldable pub kept_bindings : Program
kept_bindings =
    station 7 2 0
    ((10, 0) ∷ (10, 0) ∷ (7, 0) ∷ (2, 1) ∷ (20, 0) ∷ (3, 2) ∷ (22, 1) ∷ (23, 3) ∷ (1, 1) ∷ (2, 4) ∷ (20, 1) ∷ (5, 5) ∷
    (21, 0) ∷ (21, 2) ∷ (4, 6) ∷ (21, 2) ∷ (22, 1) ∷ (21, 4) ∷ (1, 6) ∷ [])

-- A function of the front is a value without bindings, in every process and wherever it is read.
--     constructors a/0.
--     function first() -> second().
--     function second() -> first.
--     start ->
--         Me = self(),
--         Me ! second,
--         Me ! first(),
--         first.
unfoldable pub global_function : Program
global_function =
    station 7 1 2
    ((10, 0) ∷ (11, 0) ∷ (22, 0) ∷ (4, 1) ∷ (21, 2) ∷ (22, 0) ∷ (1, 1) ∷ (11, 2) ∷ (22, 0) ∷ (1, 0) ∷ (7, 3) ∷
    (5, 4) ∷ (21, 3) ∷ (21, 2) ∷ (4, 5) ∷ (21, 0) ∷ (22, 0) ∷ (5, 6) ∷ (21, 3) ∷ (21, 5) ∷ (1, 0) ∷ [])

-- A function that keeps a function that keeps a value.
--     constructors a/0, b/0.
--     function keep(X) -> fun() -> X end.
--     start ->
--         Me = self(),
--         F = keep(a),
--         G = fun() -> H = F(), H end,
--         Me ! G,
--         Me ! keep(G),
--         G().
unfoldable pub closure_over_closure : Program
closure_over_closure =
    station 12 2 1
    ((10, 0) ∷ (10, 0) ∷ (11, 0) ∷ (22, 1) ∷ (23, 1) ∷ (3, 2) ∷ (22, 0) ∷ (1, 1) ∷ (1, 2) ∷ (7, 3) ∷ (2, 4) ∷
    (20, 0) ∷ (4, 5) ∷ (21, 0) ∷ (22, 1) ∷ (21, 4) ∷ (3, 6) ∷ (22, 0) ∷ (4, 7) ∷ (21, 5) ∷ (22, 0) ∷ (1, 7) ∷ (5, 8) ∷
    (21, 3) ∷ (21, 6) ∷ (4, 9) ∷ (21, 0) ∷ (22, 1) ∷ (21, 6) ∷ (5, 10) ∷ (21, 3) ∷ (21, 9) ∷ (4, 11) ∷ (21, 6) ∷
    (22, 0) ∷ (1, 11) ∷ [])

-- A body is entered with the function's bindings and the arguments, and with nothing else.
--     constructors a/0, b/0.
--     function show(To, X) -> To ! fun() -> X end.
--     start ->
--         Me = self(),
--         A = a,
--         B = b,
--         show(Me, B).
unfoldable pub callees_bindings : Program
callees_bindings =
    station 9 2 1
    ((10, 0) ∷ (10, 0) ∷ (11, 0) ∷ (22, 2) ∷ (23, 1) ∷ (23, 2) ∷ (3, 3) ∷ (22, 0) ∷ (1, 2) ∷ (5, 4) ∷ (21, 1) ∷
    (21, 3) ∷ (1, 4) ∷ (7, 5) ∷ (2, 6) ∷ (20, 0) ∷ (2, 7) ∷ (20, 1) ∷ (4, 8) ∷ (21, 0) ∷ (22, 2) ∷ (21, 5) ∷ (21, 7) ∷
    (1, 8) ∷ [])

-- Giving back goes on with the caller's bindings.
--     constructors a/0, b/0.
--     function inner(X) -> Y = a, X.
--     start ->
--         Me = self(),
--         B = b,
--         C = inner(B),
--         Me ! fun() -> C end.
unfoldable pub callers_bindings : Program
callers_bindings =
    station 8 2 1
    ((10, 0) ∷ (10, 0) ∷ (11, 0) ∷ (22, 1) ∷ (23, 1) ∷ (2, 2) ∷ (20, 0) ∷ (1, 1) ∷ (7, 3) ∷ (2, 4) ∷ (20, 1) ∷
    (4, 5) ∷ (21, 0) ∷ (22, 1) ∷ (21, 4) ∷ (3, 6) ∷ (22, 0) ∷ (1, 5) ∷ (5, 7) ∷ (21, 3) ∷ (21, 6) ∷ (1, 7) ∷ [])

-- Three arguments, given to three parameters in order.
--     constructors a/0, b/0, c/0, triple/3.
--     function turn(X, Y, Z) -> triple(Z, X, Y).
--     start ->
--         Me = self(),
--         A = a, B = b, C = c,
--         Me ! triple(A, B, C),
--         Me ! turn(A, B, C).
unfoldable pub arguments_in_order : Program
arguments_in_order =
    station 13 4 1
    ((10, 0) ∷ (10, 0) ∷ (10, 0) ∷ (10, 3) ∷ (11, 0) ∷ (22, 3) ∷ (23, 1) ∷ (23, 2) ∷ (23, 3) ∷ (2, 4) ∷ (20, 3) ∷
    (21, 3) ∷ (21, 1) ∷ (21, 2) ∷ (1, 4) ∷ (7, 5) ∷ (2, 6) ∷ (20, 0) ∷ (2, 7) ∷ (20, 1) ∷ (2, 8) ∷ (20, 2) ∷ (2, 9) ∷
    (20, 3) ∷ (21, 6) ∷ (21, 7) ∷ (21, 8) ∷ (5, 10) ∷ (21, 5) ∷ (21, 9) ∷ (4, 11) ∷ (21, 0) ∷ (22, 3) ∷ (21, 6) ∷
    (21, 7) ∷ (21, 8) ∷ (5, 12) ∷ (21, 5) ∷ (21, 11) ∷ (1, 12) ∷ [])

-- Three calls, one in another, and back.
--     constructors a/0.
--     function outer(X) -> Y = middle(X), Y.
--     function middle(X) -> Y = inner(X), Y.
--     function inner(X) -> X.
--     start ->
--         A = a,
--         B = outer(A),
--         B.
unfoldable pub pushed_calls : Program
pushed_calls =
    station 10 1 3
    ((10, 0) ∷ (11, 0) ∷ (22, 1) ∷ (23, 1) ∷ (4, 2) ∷ (21, 3) ∷ (22, 1) ∷ (21, 1) ∷ (1, 2) ∷ (11, 3) ∷ (22, 1) ∷
    (23, 4) ∷ (4, 5) ∷ (21, 6) ∷ (22, 1) ∷ (21, 4) ∷ (1, 5) ∷ (11, 6) ∷ (22, 1) ∷ (23, 7) ∷ (1, 7) ∷ (2, 8) ∷
    (20, 0) ∷ (4, 9) ∷ (21, 0) ∷ (22, 1) ∷ (21, 8) ∷ (1, 9) ∷ [])

-- A routine that calls itself, and afterwards reads what its own call was given.
--     constructors z/0, s/1.
--     function down(To, N) ->
--         case N of
--             z -> N;
--             s(M) -> down(To, M), To ! N
--         end.
--     start ->
--         Me = self(),
--         Z = z,
--         Two = s(s(Z)),
--         down(Me, Two).
unfoldable pub calls_itself : Program
calls_itself =
    station 11 2 1
    ((10, 0) ∷ (10, 1) ∷ (11, 0) ∷ (22, 2) ∷ (23, 1) ∷ (23, 2) ∷ (8, 2) ∷ (25, 2) ∷ (31, 0) ∷ (1, 2) ∷ (31, 1) ∷
    (30, 3) ∷ (4, 4) ∷ (21, 0) ∷ (22, 2) ∷ (21, 1) ∷ (21, 3) ∷ (5, 5) ∷ (21, 1) ∷ (21, 2) ∷ (1, 5) ∷ (7, 6) ∷ (2, 7) ∷
    (20, 0) ∷ (2, 8) ∷ (20, 1) ∷ (21, 7) ∷ (2, 9) ∷ (20, 1) ∷ (21, 8) ∷ (4, 10) ∷ (21, 0) ∷ (22, 2) ∷ (21, 6) ∷
    (21, 9) ∷ (1, 10) ∷ [])

-- A call that only calls itself pushes without end.
--     function f() -> f().
--     start -> f().
unfoldable pub endless : Program
endless =
    station 3 0 1
    ((11, 0) ∷ (22, 0) ∷ (4, 1) ∷ (21, 0) ∷ (22, 0) ∷ (1, 1) ∷ (4, 2) ∷ (21, 0) ∷ (22, 0) ∷ (1, 2) ∷ [])

-- A receive in a called function reads the process's own mailbox and keeps what is pushed.
--     constructors a/0, b/0.
--     function next() -> receive X -> X end.
--     start ->
--         Me = self(),
--         Me ! b,
--         Me ! a,
--         A = next(),
--         B = next(),
--         Me ! B,
--         Me ! A.
unfoldable pub receives_inside : Program
receives_inside =
    station 11 2 1
    ((10, 0) ∷ (10, 0) ∷ (11, 0) ∷ (22, 0) ∷ (9, 1) ∷ (30, 1) ∷ (1, 1) ∷ (7, 2) ∷ (2, 3) ∷ (20, 1) ∷ (5, 4) ∷
    (21, 2) ∷ (21, 3) ∷ (2, 5) ∷ (20, 0) ∷ (5, 6) ∷ (21, 2) ∷ (21, 5) ∷ (4, 7) ∷ (21, 0) ∷ (22, 0) ∷ (4, 8) ∷
    (21, 0) ∷ (22, 0) ∷ (5, 9) ∷ (21, 2) ∷ (21, 8) ∷ (5, 10) ∷ (21, 2) ∷ (21, 7) ∷ (1, 10) ∷ [])

-- A spawned process has its function's bindings.
--     constructors a/0, b/0.
--     start ->
--         Me = self(),
--         A = a,
--         P = spawn(fun() -> Me ! A end),
--         Me ! P.
unfoldable pub spawned : Program
spawned =
    station 6 2 0
    ((10, 0) ∷ (10, 0) ∷ (7, 0) ∷ (2, 1) ∷ (20, 0) ∷ (3, 2) ∷ (22, 0) ∷ (5, 3) ∷ (21, 0) ∷ (21, 1) ∷ (1, 3) ∷ (6, 4) ∷
    (21, 2) ∷ (5, 5) ∷ (21, 0) ∷ (21, 4) ∷ (1, 5) ∷ [])

-- Two processes of one spawn row.
--     constructors a/0, b/0.
--     function new(To, X) -> spawn(fun() -> To ! X end).
--     start ->
--         Me = self(),
--         P = new(Me, a),
--         Q = new(Me, b),
--         P ! Q.
unfoldable pub two_of_one_row : Program
two_of_one_row =
    station 12 2 1
    ((10, 0) ∷ (10, 0) ∷ (11, 0) ∷ (22, 2) ∷ (23, 1) ∷ (23, 2) ∷ (3, 3) ∷ (22, 0) ∷ (5, 4) ∷ (21, 1) ∷ (21, 2) ∷
    (1, 4) ∷ (6, 5) ∷ (21, 3) ∷ (1, 5) ∷ (7, 6) ∷ (2, 7) ∷ (20, 0) ∷ (4, 8) ∷ (21, 0) ∷ (22, 2) ∷ (21, 6) ∷ (21, 7) ∷
    (2, 9) ∷ (20, 1) ∷ (4, 10) ∷ (21, 0) ∷ (22, 2) ∷ (21, 6) ∷ (21, 9) ∷ (5, 11) ∷ (21, 8) ∷ (21, 10) ∷ (1, 11) ∷ [])

-- Processes are numbered as they are spawned, by whichever process.
--     constructors a/0.
--     function child() -> P = spawn(leaf), P ! a.
--     function leaf() -> receive X -> X end.
--     start ->
--         P = spawn(child),
--         Q = spawn(leaf),
--         Q ! P.
unfoldable pub numbers_as_spawned : Program
numbers_as_spawned =
    station 9 1 2
    ((10, 0) ∷ (11, 0) ∷ (22, 0) ∷ (6, 1) ∷ (21, 4) ∷ (2, 2) ∷ (20, 0) ∷ (5, 3) ∷ (21, 1) ∷ (21, 2) ∷ (1, 3) ∷
    (11, 4) ∷ (22, 0) ∷ (9, 1) ∷ (30, 5) ∷ (1, 5) ∷ (6, 6) ∷ (21, 0) ∷ (6, 7) ∷ (21, 4) ∷ (5, 8) ∷ (21, 7) ∷ (21, 6) ∷
    (1, 8) ∷ [])

-- Self is the own address, also in a spawned process and inside a call.
--     constructors a/0.
--     function me() -> self().
--     start ->
--         Me = self(),
--         P = spawn(fun() -> Me ! me() end),
--         P ! Me.
unfoldable pub own_address : Program
own_address =
    station 8 1 1
    ((10, 0) ∷ (11, 0) ∷ (22, 0) ∷ (7, 1) ∷ (1, 1) ∷ (7, 2) ∷ (3, 3) ∷ (22, 0) ∷ (4, 4) ∷ (21, 0) ∷ (22, 0) ∷ (5, 5) ∷
    (21, 2) ∷ (21, 4) ∷ (1, 5) ∷ (6, 6) ∷ (21, 3) ∷ (5, 7) ∷ (21, 6) ∷ (21, 2) ∷ (1, 7) ∷ [])

-- A function is sent to another process, called there, and spawned there.
--     constructors a/0, b/0.
--     function runner() -> receive F -> F(), spawn(F) end.
--     start ->
--         Me = self(),
--         A = a,
--         P = spawn(runner),
--         P ! fun() -> Me ! A end.
unfoldable pub function_sent : Program
function_sent =
    station 10 2 1
    ((10, 0) ∷ (10, 0) ∷ (11, 0) ∷ (22, 0) ∷ (9, 1) ∷ (30, 1) ∷ (4, 2) ∷ (21, 1) ∷ (22, 0) ∷ (6, 3) ∷ (21, 1) ∷
    (1, 3) ∷ (7, 4) ∷ (2, 5) ∷ (20, 0) ∷ (6, 6) ∷ (21, 0) ∷ (3, 7) ∷ (22, 0) ∷ (5, 8) ∷ (21, 4) ∷ (21, 5) ∷ (1, 8) ∷
    (5, 9) ∷ (21, 6) ∷ (21, 7) ∷ (1, 9) ∷ [])

-- An address is sent, received and used as a target.
--     constructors a/0, box/1.
--     function forward() -> receive box(To) -> To ! a end.
--     start ->
--         P = spawn(forward),
--         Me = self(),
--         P ! box(Me),
--         receive X -> X end.
unfoldable pub sent_on : Program
sent_on =
    station 9 2 1
    ((10, 0) ∷ (10, 1) ∷ (11, 0) ∷ (22, 0) ∷ (9, 1) ∷ (31, 1) ∷ (30, 1) ∷ (2, 2) ∷ (20, 0) ∷ (5, 3) ∷ (21, 1) ∷
    (21, 2) ∷ (1, 3) ∷ (6, 4) ∷ (21, 0) ∷ (7, 5) ∷ (2, 6) ∷ (20, 1) ∷ (21, 5) ∷ (5, 7) ∷ (21, 4) ∷ (21, 6) ∷ (9, 1) ∷
    (30, 8) ∷ (1, 8) ∷ [])

-- A receive that matches nothing waits, and goes on when a message comes that it matches.
--     constructors a/0, b/0.
--     function wait() -> receive a -> receive b -> b end end.
--     start ->
--         P = spawn(wait),
--         P ! b,
--         P ! a,
--         P ! b.
unfoldable pub waits : Program
waits =
    station 9 2 1
    ((10, 0) ∷ (10, 0) ∷ (11, 0) ∷ (22, 0) ∷ (9, 1) ∷ (31, 0) ∷ (9, 1) ∷ (31, 1) ∷ (2, 1) ∷ (20, 1) ∷ (1, 1) ∷
    (6, 2) ∷ (21, 0) ∷ (2, 3) ∷ (20, 1) ∷ (5, 4) ∷ (21, 2) ∷ (21, 3) ∷ (2, 5) ∷ (20, 0) ∷ (5, 6) ∷ (21, 2) ∷ (21, 5) ∷
    (2, 7) ∷ (20, 1) ∷ (5, 8) ∷ (21, 2) ∷ (21, 7) ∷ (1, 8) ∷ [])

-- A send to what is no process stops that process alone.
--     constructors a/0, b/0.
--     function other() -> a ! b.
--     start ->
--         P = spawn(other),
--         P ! a,
--         F = fun() -> F2 = a, F2 end,
--         F ! a.
unfoldable pub no_target : Program
no_target =
    station 11 2 1
    ((10, 0) ∷ (10, 0) ∷ (11, 0) ∷ (22, 0) ∷ (2, 1) ∷ (20, 0) ∷ (2, 2) ∷ (20, 1) ∷ (5, 3) ∷ (21, 1) ∷ (21, 2) ∷
    (1, 3) ∷ (6, 4) ∷ (21, 0) ∷ (2, 5) ∷ (20, 0) ∷ (5, 6) ∷ (21, 4) ∷ (21, 5) ∷ (3, 7) ∷ (22, 0) ∷ (2, 8) ∷ (20, 0) ∷
    (1, 8) ∷ (2, 9) ∷ (20, 0) ∷ (5, 10) ∷ (21, 7) ∷ (21, 9) ∷ (1, 10) ∷ [])

-- A value that can't be called with that count stops the process.
--     constructors a/0.
--     function one(X) -> X.
--     start ->
--         P = spawn(fun() -> one() end),
--         Q = spawn(fun() -> A = a, one(A, A) end),
--         S = spawn(fun() -> A = a, A() end),
--         T = spawn(fun() -> Me = self(), Me(Me) end),
--         one(T).
unfoldable pub wrong_count : Program
wrong_count =
    station 18 1 1
    ((10, 0) ∷ (11, 0) ∷ (22, 1) ∷ (23, 1) ∷ (1, 1) ∷ (3, 2) ∷ (22, 0) ∷ (4, 3) ∷ (21, 0) ∷ (22, 0) ∷ (1, 3) ∷
    (6, 4) ∷ (21, 2) ∷ (3, 5) ∷ (22, 0) ∷ (2, 6) ∷ (20, 0) ∷ (4, 7) ∷ (21, 0) ∷ (22, 2) ∷ (21, 6) ∷ (21, 6) ∷ (1, 7) ∷
    (6, 8) ∷ (21, 5) ∷ (3, 9) ∷ (22, 0) ∷ (2, 10) ∷ (20, 0) ∷ (4, 11) ∷ (21, 10) ∷ (22, 0) ∷ (1, 11) ∷ (6, 12) ∷
    (21, 9) ∷ (3, 13) ∷ (22, 0) ∷ (7, 14) ∷ (4, 15) ∷ (21, 14) ∷ (22, 1) ∷ (21, 14) ∷ (1, 15) ∷ (6, 16) ∷ (21, 13) ∷
    (4, 17) ∷ (21, 0) ∷ (22, 1) ∷ (21, 16) ∷ (1, 17) ∷ [])

-- A spawn of anything but a function without parameters stops the process.
--     constructors a/0.
--     function one(X) -> X.
--     start ->
--         P = spawn(fun() -> spawn(one) end),
--         Q = spawn(fun() -> A = a, spawn(A) end),
--         S = spawn(fun() -> Me = self(), spawn(Me) end),
--         S.
unfoldable pub no_spawn : Program
no_spawn =
    station 13 1 1
    ((10, 0) ∷ (11, 0) ∷ (22, 1) ∷ (23, 1) ∷ (1, 1) ∷ (3, 2) ∷ (22, 0) ∷ (6, 3) ∷ (21, 0) ∷ (1, 3) ∷ (6, 4) ∷
    (21, 2) ∷ (3, 5) ∷ (22, 0) ∷ (2, 6) ∷ (20, 0) ∷ (6, 7) ∷ (21, 6) ∷ (1, 7) ∷ (6, 8) ∷ (21, 5) ∷ (3, 9) ∷ (22, 0) ∷
    (7, 10) ∷ (6, 11) ∷ (21, 10) ∷ (1, 11) ∷ (6, 12) ∷ (21, 9) ∷ (1, 12) ∷ [])

-- A case without a match stops the process, with what was pushed.
--     constructors a/0, b/0, box/1.
--     function pick(X) -> case X of b -> X; box(b) -> X end.
--     start ->
--         A = a,
--         P = spawn(fun() -> case A of b -> A end end),
--         pick(box(A)).
unfoldable pub no_match : Program
no_match =
    station 7 3 1
    ((10, 0) ∷ (10, 0) ∷ (10, 1) ∷ (11, 0) ∷ (22, 1) ∷ (23, 1) ∷ (8, 1) ∷ (25, 2) ∷ (31, 1) ∷ (1, 1) ∷ (31, 2) ∷
    (31, 1) ∷ (1, 1) ∷ (2, 2) ∷ (20, 0) ∷ (3, 3) ∷ (22, 0) ∷ (8, 2) ∷ (25, 1) ∷ (31, 1) ∷ (1, 2) ∷ (6, 4) ∷ (21, 3) ∷
    (2, 5) ∷ (20, 2) ∷ (21, 2) ∷ (4, 6) ∷ (21, 0) ∷ (22, 1) ∷ (21, 5) ∷ (1, 6) ∷ [])

-- A constructor pattern matches neither a function nor an address; a name and the any-pattern match both.
--     constructors a/0.
--     start ->
--         Me = self(),
--         F = fun() -> a end,
--         Me ! F,
--         Me ! Me,
--         Me ! a,
--         receive a -> receive _ -> receive X -> Me ! X end end end.
unfoldable pub other_values : Program
other_values =
    station 9 1 0
    ((10, 0) ∷ (7, 0) ∷ (3, 1) ∷ (22, 0) ∷ (2, 2) ∷ (20, 0) ∷ (1, 2) ∷ (5, 3) ∷ (21, 0) ∷ (21, 1) ∷ (5, 4) ∷ (21, 0) ∷
    (21, 0) ∷ (2, 5) ∷ (20, 0) ∷ (5, 6) ∷ (21, 0) ∷ (21, 5) ∷ (9, 1) ∷ (31, 0) ∷ (9, 1) ∷ (32, 0) ∷ (9, 1) ∷ (30, 7) ∷
    (5, 8) ∷ (21, 0) ∷ (21, 7) ∷ (1, 8) ∷ [])

-- Bindings go with a case, a receive and a send.
--     constructors a/0, box/1.
--     start ->
--         Me = self(),
--         Me ! box(a),
--         receive
--             box(X) ->
--                 case box(X) of
--                     box(Y) -> Me ! fun() -> Y end
--                 end
--         end.
unfoldable pub arguments_kept : Program
arguments_kept =
    station 9 2 0
    ((10, 0) ∷ (10, 1) ∷ (7, 0) ∷ (2, 1) ∷ (20, 0) ∷ (2, 2) ∷ (20, 1) ∷ (21, 1) ∷ (5, 3) ∷ (21, 0) ∷ (21, 2) ∷
    (9, 1) ∷ (31, 1) ∷ (30, 4) ∷ (2, 5) ∷ (20, 1) ∷ (21, 4) ∷ (8, 5) ∷ (25, 1) ∷ (31, 1) ∷ (30, 6) ∷ (3, 7) ∷
    (22, 0) ∷ (1, 6) ∷ (5, 8) ∷ (21, 0) ∷ (21, 7) ∷ (1, 8) ∷ [])

-- A held name in a pattern: the same process, or the same constructor with equal arguments.
--     constructors a/0, b/0, from/2.
--     start ->
--         Me = self(),
--         P = spawn(fun() -> a end),
--         Q = spawn(fun() -> a end),
--         Me ! from(Q, a),
--         Me ! from(P, b),
--         receive from(^P, X) -> receive from(^Q, ^X) -> Me; from(_, Y) -> case a of ^Y -> Y; _ -> P end end end.
unfoldable pub held_names : Program
held_names =
    station 16 3 0
    ((10, 0) ∷ (10, 0) ∷ (10, 2) ∷ (7, 0) ∷ (3, 1) ∷ (22, 0) ∷ (2, 2) ∷ (20, 0) ∷ (1, 2) ∷ (6, 3) ∷ (21, 1) ∷ (3, 4) ∷
    (22, 0) ∷ (2, 5) ∷ (20, 0) ∷ (1, 5) ∷ (6, 6) ∷ (21, 4) ∷ (2, 7) ∷ (20, 0) ∷ (2, 8) ∷ (20, 2) ∷ (21, 6) ∷ (21, 7) ∷
    (5, 9) ∷ (21, 0) ∷ (21, 8) ∷ (2, 10) ∷ (20, 1) ∷ (2, 11) ∷ (20, 2) ∷ (21, 3) ∷ (21, 10) ∷ (5, 12) ∷ (21, 0) ∷
    (21, 11) ∷ (9, 1) ∷ (31, 2) ∷ (33, 3) ∷ (30, 13) ∷ (9, 2) ∷ (31, 2) ∷ (33, 6) ∷ (33, 13) ∷ (1, 0) ∷ (31, 2) ∷
    (32, 0) ∷ (30, 14) ∷ (2, 15) ∷ (20, 0) ∷ (8, 15) ∷ (25, 2) ∷ (33, 14) ∷ (1, 14) ∷ (32, 0) ∷ (1, 3) ∷ [])

-- A function is equal to nothing, not even to itself, and neither is what holds one.
--     constructors box/1.
--     function idle() -> idle.
--     start ->
--         F = fun() -> idle end,
--         B = box(F),
--         case B of
--             ^B -> B;
--             box(^F) -> F;
--             box(^idle) -> F;
--             X -> self()
--         end.
unfoldable pub held_functions : Program
held_functions =
    station 5 1 1
    ((10, 1) ∷ (11, 0) ∷ (22, 0) ∷ (1, 0) ∷ (3, 1) ∷ (22, 0) ∷ (1, 0) ∷ (2, 2) ∷ (20, 0) ∷ (21, 1) ∷ (8, 2) ∷
    (25, 4) ∷ (33, 2) ∷ (1, 2) ∷ (31, 0) ∷ (33, 1) ∷ (1, 1) ∷ (31, 0) ∷ (33, 0) ∷ (1, 1) ∷ (30, 3) ∷ (7, 4) ∷ (1, 4) ∷
    [])

-- One routine with two callers, which spawns: a process will return to the call pushed last, and a new one to none.
--     constructors a/0.
--     function work() -> work.
--     function routine(X) ->
--         P = spawn(work),
--         same(P).
--     function same(X) -> X.
--     start ->
--         A = a,
--         routine(A),
--         routine(A).
unfoldable pub two_callers : Program
two_callers =
    station 10 1 3
    ((10, 0) ∷ (11, 0) ∷ (22, 0) ∷ (1, 0) ∷ (11, 1) ∷ (22, 1) ∷ (23, 2) ∷ (6, 3) ∷ (21, 0) ∷ (4, 4) ∷ (21, 5) ∷
    (22, 1) ∷ (21, 3) ∷ (1, 4) ∷ (11, 5) ∷ (22, 1) ∷ (23, 6) ∷ (1, 6) ∷ (2, 7) ∷ (20, 0) ∷ (4, 8) ∷ (21, 1) ∷
    (22, 1) ∷ (21, 7) ∷ (4, 9) ∷ (21, 1) ∷ (22, 1) ∷ (21, 7) ∷ (1, 9) ∷ [])

-- Messages of one constructor that differ by the heads of their arguments, or below these.
--     constructors gauge/0, pump/0, level/1.
--     start ->
--         Me = self(),
--         Me ! level(gauge),
--         Me ! level(level(pump)),
--         Me ! level(pump),
--         receive level(pump) -> receive level(gauge) -> Me end end.
unfoldable pub two_levels : Program
two_levels =
    station 11 3 0
    ((10, 0) ∷ (10, 0) ∷ (10, 1) ∷ (7, 0) ∷ (2, 1) ∷ (20, 0) ∷ (2, 2) ∷ (20, 2) ∷ (21, 1) ∷ (5, 3) ∷ (21, 0) ∷
    (21, 2) ∷ (2, 4) ∷ (20, 1) ∷ (2, 5) ∷ (20, 2) ∷ (21, 4) ∷ (2, 6) ∷ (20, 2) ∷ (21, 5) ∷ (5, 7) ∷ (21, 0) ∷
    (21, 6) ∷ (2, 8) ∷ (20, 1) ∷ (2, 9) ∷ (20, 2) ∷ (21, 8) ∷ (5, 10) ∷ (21, 0) ∷ (21, 9) ∷ (9, 1) ∷ (31, 2) ∷
    (31, 1) ∷ (9, 1) ∷ (31, 2) ∷ (31, 0) ∷ (1, 0) ∷ [])

unfoldable pub run_stations : List Program
run_stations =
    (one_message ∷ three_letters ∷ passed_over ∷ any_branch ∷ both_branches ∷ case_branches ∷ half_match ∷
    deep_pattern ∷ fresh_names ∷ yields_message ∷ kept_bindings ∷ global_function ∷ closure_over_closure ∷
    callees_bindings ∷ callers_bindings ∷ arguments_in_order ∷ pushed_calls ∷ calls_itself ∷ endless ∷
    receives_inside ∷ spawned ∷ two_of_one_row ∷ numbers_as_spawned ∷ own_address ∷ function_sent ∷ sent_on ∷ waits ∷
    no_target ∷ wrong_count ∷ no_spawn ∷ no_match ∷ other_values ∷ arguments_kept ∷ held_names ∷ held_functions ∷
    two_callers ∷ two_levels ∷ [])

unfoldable pub run_cases : List RunCase
run_cases =
    -- No number yet: the starting process alone, its class R, at the start expression, nothing pushed and its mailbox
    -- empty.
    after one_message []
    ("10@1" ∷ []) ∷
    -- Self and build each bind their name and go on to the rest.
    after one_message ((0, 2) ∷ [])
    ("10@4" ∷ []) ∷
    -- Send goes on to the rest, and the message lies in the own mailbox.
    after one_message ((0, 3) ∷ [])
    ("10@7 : c0@2" ∷ []) ∷
    -- The receive takes the message out.
    after one_message ((0, 4) ∷ [])
    ("10@9" ∷ []) ∷
    -- Giving back with nothing pushed ends the process, and further numbers change nothing.
    after one_message ((0, 7) ∷ [])
    ("10@9" ∷ []) ∷
    -- Numbers without a process yet change nothing.
    after one_message ((1, 3) ∷ (0, 1) ∷ (5, 1) ∷ [])
    ("10@2" ∷ []) ∷
    -- Two messages, the later one last: a message put first would stand before it.
    after three_letters ((0, 5) ∷ [])
    ("32@14 : c0@4 c1@9" ∷ []) ∷
    -- A third message: a mailbox that holds two would make no step here.
    after three_letters ((0, 7) ∷ [])
    ("32@19 : c0@4 c1@9 c2@14" ∷ []) ∷
    -- A fourth message, of the letter of the first.
    after three_letters ((0, 9) ∷ [])
    ("32@24 : c0@4 c1@9 c2@14 c0@19" ∷ []) ∷
    -- A name takes the earliest message, not the latest.
    after three_letters ((0, 10) ∷ [])
    ("32@26 : c1@9 c2@14 c0@19" ∷ []) ∷
    -- The second receive takes the next one, which is then sent anew and stands last.
    after three_letters ((0, 12) ∷ [])
    ("32@31 : c2@14 c0@19 c1@9" ∷ []) ∷
    -- Four messages wait, with one value twice.
    after passed_over ((0, 8) ∷ [])
    ("31@23 : c0@4 c1@9(c0@4) c0@4 c2@18" ∷ []) ∷
    -- The last is taken, and the three passed over stay in their order.
    after passed_over ((0, 9) ∷ [])
    ("31@25 : c0@4 c1@9(c0@4) c0@4" ∷ []) ∷
    -- Of the two that match, the earliest is taken: the latest match would leave the b first.
    after passed_over ((0, 10) ∷ [])
    ("31@27 : c1@9(c0@4) c0@4" ∷ []) ∷
    -- A message that was passed over is taken later.
    after passed_over ((0, 11) ∷ [])
    ("31@30 : c0@4" ∷ []) ∷
    -- The last message stays when the process has ended.
    after passed_over ((0, 13) ∷ [])
    ("31@30 : c0@4" ∷ []) ∷
    -- Both wait.
    after any_branch ((0, 5) ∷ [])
    ("23@13 : c0@3 c1@8" ∷ []) ∷
    -- The first message is taken, by the second branch: going by branches would take the b.
    after any_branch ((0, 6) ∷ [])
    ("23@17 : c1@8" ∷ []) ∷
    -- That branch goes on.
    after any_branch ((0, 8) ∷ [])
    ("23@22 : c1@8 c0@17" ∷ []) ∷
    -- The message is a box with its argument.
    after both_branches ((0, 4) ∷ [])
    ("25@11 : c1@5(c0@3)" ∷ []) ∷
    -- The first branch is taken: the last one that matches would stand at another place.
    after both_branches ((0, 5) ∷ [])
    ("25@14" ∷ []) ∷
    -- And its expression is run.
    after both_branches ((0, 7) ∷ [])
    ("25@19 : c0@14" ∷ []) ∷
    -- The first branch does not match, the second and the third do: the second is taken.
    after case_branches ((0, 4) ∷ [])
    ("26@18" ∷ []) ∷
    -- Its name holds the argument.
    after case_branches ((0, 5) ∷ [])
    ("26@21 : c0@4" ∷ []) ∷
    -- The function in the second branch keeps Y and what was bound before, and no X.
    after half_match ((0, 7) ∷ [])
    ("28@27 : f@21{0=#0 1=c0@4 2=c1@6 3=c2@8(c0@4 c1@6) 5=c1@6}" ∷ []) ∷
    -- The pattern matches down to its third level.
    after deep_pattern ((0, 8) ∷ [])
    ("44@32" ∷ []) ∷
    -- Z and Y and X hold what stands at their spots, and are sent in another order.
    after deep_pattern ((0, 11) ∷ [])
    ("44@43 : c3@36(c0@5 c3@32(c1@7 c0@5))" ∷ []) ∷
    -- The pattern X matches a b although the X outside holds an a.
    after fresh_names ((0, 4) ∷ [])
    ("14@10" ∷ []) ∷
    -- In the branch X is the b.
    after fresh_names ((0, 5) ∷ [])
    ("14@13 : c1@5" ∷ []) ∷
    -- What the first send yields is sent again: one value, twice in the mailbox.
    after yields_message ((0, 4) ∷ [])
    ("11@10 : c0@2 c0@2" ∷ []) ∷
    -- The function keeps what was bound before it, and neither its own name nor the later B: one that keeps nothing
    -- shows an empty pair of braces.
    after kept_bindings ((0, 5) ∷ [])
    ("19@14 : f@5{0=#0 1=c0@3}" ∷ []) ∷
    -- The call is pushed, and the body is entered.
    after kept_bindings ((0, 6) ∷ [])
    ("19@8 ^14 : f@5{0=#0 1=c0@3}" ∷ []) ∷
    -- The body reads the A that the function kept, and gives it back to the call's rest.
    after kept_bindings ((0, 7) ∷ [])
    ("19@18 : f@5{0=#0 1=c0@3}" ∷ []) ∷
    -- There the process ends.
    after kept_bindings ((0, 9) ∷ [])
    ("19@18 : f@5{0=#0 1=c0@3}" ∷ []) ∷
    -- It is sent as its own row, with nothing kept.
    after global_function ((0, 2) ∷ [])
    ("21@14 : f@7{}" ∷ []) ∷
    -- A body may call a function that stands after it.
    after global_function ((0, 4) ∷ [])
    ("21@9 ^3 ^14 : f@7{}" ∷ []) ∷
    -- Giving back goes to the latest pushed call.
    after global_function ((0, 5) ∷ [])
    ("21@6 ^14 : f@7{}" ∷ []) ∷
    -- And then to the one before.
    after global_function ((0, 6) ∷ [])
    ("21@17 : f@7{}" ∷ []) ∷
    -- What came back is the function of row 1.
    after global_function ((0, 7) ∷ [])
    ("21@20 : f@7{} f@1{}" ∷ []) ∷
    -- Back from keep, where a function was made.
    after closure_over_closure ((0, 5) ∷ [])
    ("36@16" ∷ []) ∷
    -- In the mailbox is G, which keeps F, which keeps the a.
    after closure_over_closure ((0, 7) ∷ [])
    ("36@25 : f@16{3=#0 4=c0@10 5=f@5{1=c0@10}}" ∷ []) ∷
    -- Then a function that keeps G, with all that G keeps.
    after closure_over_closure ((0, 11) ∷ [])
    ("36@32 : f@16{3=#0 4=c0@10 5=f@5{1=c0@10}} f@5{1=f@16{3=#0 4=c0@10 5=f@5{1=c0@10}}}" ∷ []) ∷
    -- A call of G: its body stands at the call of F.
    after closure_over_closure ((0, 12) ∷ [])
    ("36@18 ^32 : f@16{3=#0 4=c0@10 5=f@5{1=c0@10}} f@5{1=f@16{3=#0 4=c0@10 5=f@5{1=c0@10}}}" ∷ []) ∷
    -- The body of F, two calls pushed.
    after closure_over_closure ((0, 13) ∷ [])
    ("36@7 ^18 ^32 : f@16{3=#0 4=c0@10 5=f@5{1=c0@10}} f@5{1=f@16{3=#0 4=c0@10 5=f@5{1=c0@10}}}" ∷ []) ∷
    -- F gives the a back to the body of G, which still knows its own bindings.
    after closure_over_closure ((0, 14) ∷ [])
    ("36@21 ^32 : f@16{3=#0 4=c0@10 5=f@5{1=c0@10}} f@5{1=f@16{3=#0 4=c0@10 5=f@5{1=c0@10}}}" ∷ []) ∷
    -- The call is pushed.
    after callees_bindings ((0, 4) ∷ [])
    ("24@6 ^18" ∷ []) ∷
    -- The function made in the body keeps the two parameters: with the caller's bindings it would keep A and B too.
    after callees_bindings ((0, 6) ∷ [])
    ("24@12 ^18 : f@6{1=#0 2=c1@16}" ∷ []) ∷
    -- In the callee Y is bound.
    after callers_bindings ((0, 4) ∷ [])
    ("22@7 ^11" ∷ []) ∷
    -- The call's name is bound, at the call's rest.
    after callers_bindings ((0, 5) ∷ [])
    ("22@15" ∷ []) ∷
    -- The function made there keeps Me, B and C: with the callee's bindings it would keep X and Y, and Me would be
    -- unknown.
    after callers_bindings ((0, 7) ∷ [])
    ("22@21 : f@15{3=#0 4=c1@9 5=c1@9}" ∷ []) ∷
    -- A built value has its arguments in order.
    after arguments_in_order ((0, 6) ∷ [])
    ("40@30 : c3@22(c0@16 c1@18 c2@20)" ∷ []) ∷
    -- The parameters hold the arguments in order.
    after arguments_in_order ((0, 10) ∷ [])
    ("40@39 : c3@22(c0@16 c1@18 c2@20) c3@9(c2@20 c0@16 c1@18)" ∷ []) ∷
    -- One call pushed.
    after pushed_calls ((0, 2) ∷ [])
    ("28@4 ^23" ∷ []) ∷
    -- Two, the latest first.
    after pushed_calls ((0, 3) ∷ [])
    ("28@12 ^4 ^23" ∷ []) ∷
    -- Three.
    after pushed_calls ((0, 4) ∷ [])
    ("28@20 ^12 ^4 ^23" ∷ []) ∷
    -- The latest is popped.
    after pushed_calls ((0, 5) ∷ [])
    ("28@16 ^4 ^23" ∷ []) ∷
    -- Then the one before.
    after pushed_calls ((0, 6) ∷ [])
    ("28@8 ^23" ∷ []) ∷
    -- Then the first.
    after pushed_calls ((0, 7) ∷ [])
    ("28@27" ∷ []) ∷
    -- And the process has ended.
    after pushed_calls ((0, 9) ∷ [])
    ("28@27" ∷ []) ∷
    -- The first call.
    after calls_itself ((0, 5) ∷ [])
    ("36@6 ^30" ∷ []) ∷
    -- It calls itself.
    after calls_itself ((0, 7) ∷ [])
    ("36@6 ^12 ^30" ∷ []) ∷
    -- And once more: the same call row is pushed twice.
    after calls_itself ((0, 9) ∷ [])
    ("36@6 ^12 ^12 ^30" ∷ []) ∷
    -- At the bottom, the z branch.
    after calls_itself ((0, 10) ∷ [])
    ("36@9 ^12 ^12 ^30" ∷ []) ∷
    -- The innermost sends its own N, which is one.
    after calls_itself ((0, 12) ∷ [])
    ("36@20 ^12 ^30 : c1@24(c0@22)" ∷ []) ∷
    -- The outer one sends its own N, which is two.
    after calls_itself ((0, 14) ∷ [])
    ("36@20 ^30 : c1@24(c0@22) c1@27(c1@24(c0@22))" ∷ []) ∷
    -- Four calls pushed, three of them of one row.
    after endless ((0, 4) ∷ [])
    ("10@2 ^2 ^2 ^2 ^6" ∷ []) ∷
    -- In the function, two messages wait.
    after receives_inside ((0, 6) ∷ [])
    ("31@4 ^18 : c1@8 c0@13" ∷ []) ∷
    -- The earliest is taken, with the call still pushed.
    after receives_inside ((0, 7) ∷ [])
    ("31@6 ^18 : c0@13" ∷ []) ∷
    -- Both were given back under their own names, and are sent in the other order.
    after receives_inside ((0, 13) ∷ [])
    ("31@30 : c0@13 c1@8" ∷ []) ∷
    -- The new process: its class is the spawn row, at the function's body, nothing pushed and its mailbox empty.
    after spawned ((0, 4) ∷ [])
    ("17@13" ∷ "11@7" ∷ []) ∷
    -- Spawn yields its address, number 1.
    after spawned ((0, 5) ∷ [])
    ("17@16 : #1" ∷ "11@7" ∷ []) ∷
    -- It knows Me and A: without its function's bindings it would stop here.
    after spawned ((0, 4) ∷ (1, 1) ∷ [])
    ("17@13 : c0@3" ∷ "11@10" ∷ []) ∷
    -- The number 1 counts once there is a process 1; the order of messages is that of the sends.
    after spawned ((0, 3) ∷ (1, 1) ∷ (0, 1) ∷ (1, 1) ∷ (0, 1) ∷ (0, 1) ∷ [])
    ("17@16 : c0@3 #1" ∷ "11@10" ∷ []) ∷
    -- A spawned process ends as well, and its place stays.
    after spawned ((0, 4) ∷ (1, 3) ∷ [])
    ("17@13 : c0@3" ∷ "11@10" ∷ []) ∷
    -- The first process; its class is the spawn's row and not the function's.
    after two_of_one_row ((0, 5) ∷ [])
    ("34@14 ^18" ∷ "12@8" ∷ []) ∷
    -- The second process has the same class and place.
    after two_of_one_row ((0, 10) ∷ [])
    ("34@14 ^25" ∷ "12@8" ∷ "12@8" ∷ []) ∷
    -- Each has its own bindings: the second sends a b, then the first an a.
    after two_of_one_row ((0, 12) ∷ (2, 1) ∷ (1, 1) ∷ [])
    ("34@33 : c1@23 c0@16" ∷ "12@11 : #2" ∷ "12@11" ∷ []) ∷
    -- The two addresses are 1 and 2: the address of the second lies in the mailbox of the first.
    after two_of_one_row ((0, 12) ∷ [])
    ("34@33" ∷ "12@8 : #2" ∷ "12@8" ∷ []) ∷
    -- Process 0 spawns twice, then process 1: the leaf of process 1 is process 3.
    after numbers_as_spawned ((0, 2) ∷ (1, 1) ∷ [])
    ("24@20" ∷ "16@5" ∷ "18@13" ∷ "3@13" ∷ []) ∷
    -- Process 1 spawns before process 0 does: its leaf is process 2.
    after numbers_as_spawned ((0, 1) ∷ (1, 1) ∷ (0, 1) ∷ [])
    ("24@20" ∷ "16@5" ∷ "3@13" ∷ "18@13" ∷ []) ∷
    -- Each send goes to its own process.
    after numbers_as_spawned ((0, 1) ∷ (1, 1) ∷ (0, 1) ∷ (1, 2) ∷ (0, 1) ∷ [])
    ("24@23" ∷ "16@10" ∷ "3@13 : c0@5" ∷ "18@13 : #1" ∷ []) ∷
    -- Each leaf takes what it was sent: one an a, one an address.
    after numbers_as_spawned ((0, 1) ∷ (1, 1) ∷ (0, 1) ∷ (1, 2) ∷ (0, 1) ∷ (2, 2) ∷ (3, 2) ∷ [])
    ("24@23" ∷ "16@10" ∷ "3@15" ∷ "18@15" ∷ []) ∷
    -- Process 1 sends its own address, which is 1.
    after own_address ((0, 3) ∷ (1, 4) ∷ [])
    ("21@17 : #1" ∷ "15@14" ∷ []) ∷
    -- Process 0 sends its own, which is 0.
    after own_address ((0, 4) ∷ (1, 4) ∷ [])
    ("21@20 : #1" ∷ "15@14 : #0" ∷ []) ∷
    -- The message is a function, which keeps Me and A and P.
    after function_sent ((0, 5) ∷ [])
    ("27@26" ∷ "15@4 : f@17{4=#0 5=c0@13 6=#1}" ∷ []) ∷
    -- The receiver calls it: the body's place is in the sender's text, the call's row in the receiver's.
    after function_sent ((0, 5) ∷ (1, 2) ∷ [])
    ("27@26" ∷ "15@19 ^6" ∷ []) ∷
    -- The send goes to the sender of the function, and the call gives back.
    after function_sent ((0, 5) ∷ (1, 4) ∷ [])
    ("27@26 : c0@13" ∷ "15@9" ∷ []) ∷
    -- The receiver spawns it: the new process has the bindings that travelled.
    after function_sent ((0, 5) ∷ (1, 5) ∷ (2, 1) ∷ [])
    ("27@26 : c0@13 c0@13" ∷ "15@11" ∷ "9@22" ∷ []) ∷
    -- The box holds the address of process 0.
    after sent_on ((0, 4) ∷ [])
    ("25@22" ∷ "13@4 : c1@16(#0)" ∷ []) ∷
    -- The receiver sends to the address that it took out of the box.
    after sent_on ((0, 4) ∷ (1, 3) ∷ [])
    ("25@22 : c0@7" ∷ "13@12" ∷ []) ∷
    -- And process 0 receives it.
    after sent_on ((0, 4) ∷ (1, 3) ∷ (0, 1) ∷ [])
    ("25@24" ∷ "13@12" ∷ []) ∷
    -- With an empty mailbox the receive waits.
    after waits ((0, 1) ∷ (1, 2) ∷ [])
    ("29@13" ∷ "11@4" ∷ []) ∷
    -- With a b alone it waits too, and the b stays.
    after waits ((0, 3) ∷ (1, 2) ∷ [])
    ("29@18" ∷ "11@4 : c1@13" ∷ []) ∷
    -- When the a has come it is taken, and the b stays.
    after waits ((0, 5) ∷ (1, 1) ∷ [])
    ("29@23" ∷ "11@6 : c1@13" ∷ []) ∷
    -- Then the b is taken.
    after waits ((0, 5) ∷ (1, 2) ∷ [])
    ("29@23" ∷ "11@8" ∷ []) ∷
    -- A message to a process that waits no more stays in its mailbox.
    after waits ((0, 7) ∷ (1, 4) ∷ [])
    ("29@28" ∷ "11@10 : c1@23" ∷ []) ∷
    -- The target is a built value: process 1 stops at its send and nothing is delivered.
    after no_target ((0, 1) ∷ (1, 5) ∷ [])
    ("30@14" ∷ "12@8" ∷ []) ∷
    -- The others go on, and a stopped process is still sent messages.
    after no_target ((0, 1) ∷ (1, 5) ∷ (0, 2) ∷ [])
    ("30@19" ∷ "12@8 : c0@14" ∷ []) ∷
    -- The target is a function: the process stops at the send.
    after no_target ((0, 6) ∷ [])
    ("30@26" ∷ "12@4 : c0@14" ∷ []) ∷
    -- Fewer arguments than parameters: it stops at the call, with nothing pushed.
    after wrong_count ((0, 8) ∷ (1, 2) ∷ [])
    ("50@45" ∷ "11@7" ∷ "23@15" ∷ "33@27" ∷ "43@37" ∷ []) ∷
    -- More arguments than parameters.
    after wrong_count ((0, 8) ∷ (2, 3) ∷ [])
    ("50@45" ∷ "11@7" ∷ "23@17" ∷ "33@27" ∷ "43@37" ∷ []) ∷
    -- A built value.
    after wrong_count ((0, 8) ∷ (3, 3) ∷ [])
    ("50@45" ∷ "11@7" ∷ "23@15" ∷ "33@29" ∷ "43@37" ∷ []) ∷
    -- An address.
    after wrong_count ((0, 8) ∷ (4, 3) ∷ [])
    ("50@45" ∷ "11@7" ∷ "23@15" ∷ "33@27" ∷ "43@38" ∷ []) ∷
    -- With the right count the call is made.
    after wrong_count ((0, 9) ∷ (4, 3) ∷ [])
    ("50@4 ^45" ∷ "11@7" ∷ "23@15" ∷ "33@27" ∷ "43@38" ∷ []) ∷
    -- A function with a parameter: there is no new process.
    after no_spawn ((0, 6) ∷ (1, 2) ∷ [])
    ("30@29" ∷ "10@7" ∷ "19@14" ∷ "27@23" ∷ []) ∷
    -- A built value.
    after no_spawn ((0, 6) ∷ (2, 3) ∷ [])
    ("30@29" ∷ "10@7" ∷ "19@16" ∷ "27@23" ∷ []) ∷
    -- An address.
    after no_spawn ((0, 6) ∷ (3, 3) ∷ [])
    ("30@29" ∷ "10@7" ∷ "19@14" ∷ "27@24" ∷ []) ∷
    -- Process 1 stops at its case.
    after no_match ((0, 3) ∷ (1, 2) ∷ [])
    ("31@23" ∷ "21@17" ∷ []) ∷
    -- The box does not hold what the second pattern asks for: it stops in the function, with the call pushed.
    after no_match ((0, 8) ∷ [])
    ("31@6 ^26" ∷ "21@17" ∷ []) ∷
    -- A function, an address and an a wait.
    after other_values ((0, 6) ∷ [])
    ("28@18 : f@2{0=#0} #0 c0@13" ∷ []) ∷
    -- The first receive passes over the function and the address.
    after other_values ((0, 7) ∷ [])
    ("28@20 : f@2{0=#0} #0" ∷ []) ∷
    -- The any-pattern takes the function.
    after other_values ((0, 8) ∷ [])
    ("28@22 : #0" ∷ []) ∷
    -- The name takes the address, which is sent again.
    after other_values ((0, 10) ∷ [])
    ("28@27 : #0" ∷ []) ∷
    -- The receive binds X to what the box held.
    after arguments_kept ((0, 5) ∷ [])
    ("28@14" ∷ []) ∷
    -- The function keeps all that the path to it bound: the address, the values built and sent, X and Y.
    after arguments_kept ((0, 9) ∷ [])
    ("28@27 : f@21{0=#0 1=c0@3 2=c1@5(c0@3) 3=c1@5(c0@3) 4=c0@3 5=c1@14(c0@3) 6=c0@3}" ∷ []) ∷
    -- Two messages wait, the first from Q.
    after held_names ((0, 11) ∷ [])
    ("56@36 : c2@20(#2 c0@18) c2@29(#1 c1@27)" ∷ "9@6" ∷ "16@13" ∷ []) ∷
    -- The first is from another process than P and is passed over; the second is taken, and X holds its b.
    after held_names ((0, 12) ∷ [])
    ("56@40 : c2@20(#2 c0@18)" ∷ "9@6" ∷ "16@13" ∷ []) ∷
    -- The other one holds an a where X holds a b: the second branch takes it.
    after held_names ((0, 13) ∷ [])
    ("56@48" ∷ "9@6" ∷ "16@13" ∷ []) ∷
    -- An a is equal to another that was built at another row.
    after held_names ((0, 15) ∷ [])
    ("56@53" ∷ "9@6" ∷ "16@13" ∷ []) ∷
    -- The last branch is taken: neither the box is equal to itself, nor the function in it, nor to one of the front.
    after held_functions ((0, 3) ∷ [])
    ("23@21" ∷ []) ∷
    -- The first call of the routine is pushed.
    after two_callers ((0, 2) ∷ [])
    ("29@7 ^20" ∷ []) ∷
    -- The new process has nothing pushed, though the call stands behind its spawner.
    after two_callers ((0, 3) ∷ [])
    ("29@9 ^20" ∷ "7@3" ∷ []) ∷
    -- The routine calls another: that call is pushed last.
    after two_callers ((0, 4) ∷ [])
    ("29@17 ^9 ^20" ∷ "7@3" ∷ []) ∷
    -- Giving back leads to the routine, with the first call pushed again.
    after two_callers ((0, 5) ∷ [])
    ("29@13 ^20" ∷ "7@3" ∷ []) ∷
    -- And behind the first call, with nothing pushed.
    after two_callers ((0, 6) ∷ [])
    ("29@24" ∷ "7@3" ∷ []) ∷
    -- The same place as after two steps, with the second call pushed.
    after two_callers ((0, 7) ∷ [])
    ("29@7 ^24" ∷ "7@3" ∷ []) ∷
    -- Behind the second call.
    after two_callers ((0, 11) ∷ [])
    ("29@28" ∷ "7@3" ∷ "7@3" ∷ []) ∷
    -- Giving back with nothing pushed ends the spawned processes, as it ends the start.
    after two_callers ((0, 11) ∷ (1, 1) ∷ (2, 1) ∷ (0, 1) ∷ [])
    ("29@28" ∷ "7@3" ∷ "7@3" ∷ []) ∷
    -- Three levels, which are three letters.
    after two_levels ((0, 11) ∷ [])
    ("38@31 : c2@6(c0@4) c2@17(c2@14(c1@12)) c2@25(c1@23)" ∷ []) ∷
    -- The last is taken, and the two of other letters are passed over.
    after two_levels ((0, 12) ∷ [])
    ("38@34 : c2@6(c0@4) c2@17(c2@14(c1@12))" ∷ []) ∷
    -- Then the first; what lies below the second is not looked at.
    after two_levels ((0, 13) ∷ [])
    ("38@37 : c2@17(c2@14(c1@12))" ∷ []) ∷
    []

-- the definitions above opened at once, for the theorems that compute the table
unfoldable pub run_cases_opens : Unit {0}
unfolding one_message three_letters passed_over any_branch both_branches case_branches half_match deep_pattern
    fresh_names yields_message kept_bindings global_function closure_over_closure callees_bindings callers_bindings
    arguments_in_order pushed_calls calls_itself endless receives_inside spawned two_of_one_row numbers_as_spawned
    own_address function_sent sent_on waits no_target wrong_count no_spawn no_match other_values arguments_kept
    held_names held_functions two_callers two_levels run_stations run_cases
run_cases_opens = tt
