-- Document 02, (iv): cases of states that know their return, worked out by hand from the papers.
use Rattle.std.specs.Prelude.{ℕ, List, [], ◌∷◌, ◌++◌}
use Rattle.cases.specs.Cases.{Pairs, Triples, program_words, bad_words, table_words, returning, ceiling_words}
use Rattle.cases.specs.Cases.{to_bytes, Case, refused, safe, with_word, two_callers, two_callers_listing}
use Rattle.cases.specs.HeldCases.{free_ceilings, quiet_listing}

-- Two callers of one routine that document 01's tables mix up. f(a) = a; x = self; m = c0; r = f(m); t = send x r; s =
-- f(t); s. Without the third number the second call may give back behind the first, which sends again and again; with
-- it one message is sent.
unfoldable pub sent_once : List ℕ
sent_once = program_words 7 1 1
    ((10, 0) ∷ (11, 0) ∷ (22, 1) ∷ (23, 1) ∷ (1, 1) ∷
    (7, 2) ∷ (2, 3) ∷ (20, 0) ∷ (4, 4) ∷ (21, 0) ∷ (22, 1) ∷ (21, 3) ∷
    (5, 5) ∷ (21, 2) ∷ (21, 4) ∷ (4, 6) ∷ (21, 0) ∷ (22, 1) ∷ (21, 5) ∷ (1, 6) ∷ [])

-- Eight states, one letter counter, 8. A ceiling for each state, with the message from state 6 on. The bad: two
-- messages.
unfoldable pub sent_once_evidence : List ℕ
sent_once_evidence =
    bad_words 1 ((40, 20) ∷ (42, 0) ∷ (43, 2) ∷ (44, 0) ∷ []) ++
    table_words ((0, 1) ∷ (1, 6) ∷ (2, 20) ∷ (3, 6) ∷ (4, 6) ∷ (5, 6) ∷ (6, 6) ∷ []) ((20, 6) ∷ [])
    (((20, 4, 8) ∷ (20, 4, 15) ∷ []) ++
    returning 20 ((20, 5) ∷ (20, 6) ∷ (20, 8) ∷ (20, 12) ∷ (20, 15) ∷ (20, 19) ∷ [])) ++
    ceiling_words 8
    ((2, 1) ∷ (9, 0) ∷ (3, 1) ∷ (9, 0) ∷ (4, 1) ∷ (9, 0) ∷ (0, 1) ∷ (9, 0) ∷ (5, 1) ∷ (9, 0) ∷ (6, 1) ∷ (8, 1) ∷
    (9, 0) ∷ (1, 1) ∷ (8, 1) ∷ (9, 0) ∷ (7, 1) ∷ (8, 1) ∷ (9, 0) ∷ [])

-- state 0 goes on behind the first call, at the send; state 1 behind the second
unfoldable pub sent_once_listing : List ℕ
sent_once_listing =
    8 ∷ 1 ∷ 7 ∷ 15 ∷
    50 ∷ 51 ∷ 50 ∷ 51 ∷ 50 ∷ 51 ∷ 50 ∷ 51 ∷ 50 ∷ 51 ∷ 50 ∷ 51 ∷ 53 ∷ 50 ∷ 51 ∷
    0 ∷ 5 ∷ 1 ∷ 7 ∷ 2 ∷ 3 ∷ 3 ∷ 4 ∷ 4 ∷ 0 ∷ 5 ∷ 6 ∷ 8 ∷ 6 ∷ 1 ∷ []

-- The two callers of Cases.antt, with the given flow, states, bad on (16, 4) and ceilings. Their message: the bads
-- begin at word 36, the tables at 46, the first columns at 49.
unfoldable pub two_callers_with : ℕ → Pairs → Triples → List ℕ → List ℕ
two_callers_with minimum flow states ceilings =
    to_bytes
    (two_callers ++ bad_words 1 ((40, 16) ∷ (41, 4) ∷ (43, minimum) ∷ (44, 0) ∷ []) ++
    table_words flow [] states ++ ceilings)

-- f holds row 1, the others row 5
unfoldable pub callers_flow : Pairs
callers_flow = (0, 1) ∷ (1, 5) ∷ (2, 5) ∷ (3, 5) ∷ (4, 5) ∷ []

unfoldable pub callers_states : Triples
callers_states =
    (16, 4, 7) ∷ (16, 4, 11) ∷ (16, 5, 16) ∷ (16, 7, 16) ∷ (16, 11, 16) ∷ (16, 15, 16) ∷ []

-- one process, in one of the six states
unfoldable pub callers_ceilings : List ℕ
callers_ceilings = ceiling_words 6
    ((0, 1) ∷ (6, 0) ∷ (1, 1) ∷ (6, 0) ∷ (2, 1) ∷ (6, 0) ∷ (3, 1) ∷ (6, 0) ∷ (4, 1) ∷ (6, 0) ∷ (5, 1) ∷ (6, 0) ∷ [])

-- one ceiling: these limits for the two states at row 4, none for the others
unfoldable pub two_limits : ℕ → ℕ → List ℕ
two_limits a b = ceiling_words 1
    ((0, a) ∷ (1, b) ∷ (2, 65535) ∷ (3, 65535) ∷ (4, 65535) ∷ (5, 65535) ∷ (6, 0) ∷ [])

unfoldable pub limited_callers : ℕ → ℕ → ℕ → List ℕ
limited_callers minimum a b = two_callers_with minimum callers_flow callers_states (two_limits a b)

-- A call that itself returns to two. f(a) = a; g(h) = (r = f(h); r); b = c0; u = g(b); w = g(u); w. The call of f
-- stands in row 8, those of g in rows 15 and 19.
unfoldable pub two_deep : List ℕ
two_deep = program_words 8 1 2
    ((10, 0) ∷ (11, 0) ∷ (22, 1) ∷ (23, 1) ∷ (1, 1) ∷
    (11, 2) ∷ (22, 1) ∷ (23, 3) ∷ (4, 4) ∷ (21, 0) ∷ (22, 1) ∷ (21, 3) ∷ (1, 4) ∷
    (2, 5) ∷ (20, 0) ∷ (4, 6) ∷ (21, 2) ∷ (22, 1) ∷ (21, 5) ∷ (4, 7) ∷ (21, 2) ∷ (22, 1) ∷ (21, 6) ∷ (1, 7) ∷ [])

-- f and g hold rows 1 and 5, the others row 13 (the build). One ceiling without limits; the bad has no counter.
unfoldable pub two_deep_with : Triples → ℕ → List ℕ
two_deep_with states counters =
    to_bytes
    (two_deep ++ bad_words 1 ((40, 24) ∷ (42, 0) ∷ (43, 1) ∷ (44, 0) ∷ []) ++
    table_words ((0, 1) ∷ (1, 13) ∷ (2, 5) ∷ (3, 13) ∷ (4, 13) ∷ (5, 13) ∷ (6, 13) ∷ (7, 13) ∷ []) [] states ++
    free_ceilings counters)

unfoldable pub two_deep_ends : Triples
two_deep_ends = returning 24 ((24, 13) ∷ (24, 15) ∷ (24, 19) ∷ (24, 23) ∷ [])

-- Every other kind of head in a called body keeps the third number. f() = (x = self; u = fun () -> x; m = c0; s = send
-- x m; receive { y -> case y of { c0 -> y } }); r = f(); r. The call stands in row 18.
unfoldable pub all_kinds : List ℕ
all_kinds = program_words 7 1 1
    ((10, 0) ∷ (11, 0) ∷ (22, 0) ∷
    (7, 1) ∷ (3, 2) ∷ (22, 0) ∷ (1, 1) ∷ (2, 3) ∷ (20, 0) ∷ (5, 4) ∷ (21, 1) ∷ (21, 3) ∷
    (9, 1) ∷ (30, 5) ∷ (8, 5) ∷ (25, 1) ∷ (31, 0) ∷ (1, 5) ∷
    (4, 6) ∷ (21, 0) ∷ (22, 0) ∷ (1, 6) ∷ [])

-- nine states, letter counter 9; one ceiling without limits; the bad, a function sent, has no counter
unfoldable pub all_kinds_evidence : List ℕ
all_kinds_evidence =
    bad_words 1 ((40, 22) ∷ (42, 1) ∷ (43, 1) ∷ (44, 0) ∷ []) ++
    table_words ((0, 1) ∷ (1, 22) ∷ (2, 4) ∷ (3, 7) ∷ (4, 7) ∷ (5, 7) ∷ (6, 7) ∷ []) ((22, 7) ∷ [])
    (returning 18 ((22, 3) ∷ (22, 4) ∷ (22, 7) ∷ (22, 9) ∷ (22, 12) ∷ (22, 14) ∷ (22, 17) ∷ []) ++
    returning 22 ((22, 18) ∷ (22, 21) ∷ [])) ++
    free_ceilings 10

unfoldable pub all_kinds_listing : List ℕ
all_kinds_listing =
    9 ∷ 1 ∷ 8 ∷ 18 ∷
    50 ∷ 51 ∷ 50 ∷ 51 ∷ 50 ∷ 51 ∷ 50 ∷ 51 ∷ 53 ∷ 50 ∷ 51 ∷ 52 ∷ 50 ∷ 51 ∷ 50 ∷ 51 ∷ 50 ∷ 51 ∷
    0 ∷ 1 ∷ 1 ∷ 2 ∷ 2 ∷ 3 ∷ 3 ∷ 4 ∷ 9 ∷ 4 ∷ 5 ∷ 9 ∷ 5 ∷ 6 ∷ 6 ∷ 8 ∷ 7 ∷ 0 ∷ []

-- Two classes at one call. f() = self; g() = (r = f(); r); p = spawn g; q = g(); q. The call of f stands in row 6,
-- that of g in row 12, the spawn in row 10. A give back of a class leads to a state of that class alone; the spawned
-- process has nothing pushed, though g is called with row 12 elsewhere.
unfoldable pub own_class : List ℕ
own_class = program_words 6 0 2
    ((11, 0) ∷ (22, 0) ∷ (7, 1) ∷ (1, 1) ∷
    (11, 2) ∷ (22, 0) ∷ (4, 3) ∷ (21, 0) ∷ (22, 0) ∷ (1, 3) ∷
    (6, 4) ∷ (21, 2) ∷ (4, 5) ∷ (21, 2) ∷ (22, 0) ∷ (1, 5) ∷ [])

-- four states of class 10, seven of class 16; no mail
unfoldable pub own_class_evidence : List ℕ
own_class_evidence =
    bad_words 1 ((40, 16) ∷ (42, 0) ∷ (43, 1) ∷ (44, 0) ∷ []) ++
    table_words
    ((0, 0) ∷ (1, 10) ∷ (1, 16) ∷ (2, 4) ∷ (3, 10) ∷ (3, 16) ∷ (4, 10) ∷ (5, 10) ∷ (5, 16) ∷ []) []
    ((10, 2, 6) ∷ (10, 3, 6) ∷ (10, 6, 16) ∷ (10, 9, 16) ∷ (16, 2, 6) ∷ (16, 3, 6) ∷ (16, 6, 12) ∷ (16, 9, 12) ∷
    (16, 10, 16) ∷ (16, 12, 16) ∷ (16, 15, 16) ∷ []) ++
    free_ceilings 11

unfoldable pub own_class_listing : List ℕ
own_class_listing =
    11 ∷ 0 ∷ 9 ∷ 19 ∷
    50 ∷ 51 ∷ 50 ∷ 51 ∷ 50 ∷ 51 ∷ 50 ∷ 51 ∷ 50 ∷ 51 ∷ 50 ∷ 51 ∷ 50 ∷ 51 ∷ 50 ∷ 51 ∷ 54 ∷ 50 ∷ 51 ∷
    0 ∷ 1 ∷ 1 ∷ 3 ∷ 2 ∷ 0 ∷ 4 ∷ 5 ∷ 5 ∷ 7 ∷ 6 ∷ 4 ∷ 7 ∷ 10 ∷ 8 ∷ 9 ∷ 2 ∷ 9 ∷ 6 ∷ []

-- A function that is never called. h() = (r = h(); r); x = self; x. The bad, a process at its give back, row 5, has no
-- counter: the head occurs with no third number.
unfoldable pub uncalled : List ℕ
uncalled = program_words 3 0 1 ((11, 0) ∷ (22, 0) ∷ (4, 1) ∷ (21, 0) ∷ (22, 0) ∷ (1, 1) ∷ (7, 2) ∷ (1, 2) ∷ [])

unfoldable pub uncalled_with : Triples → ℕ → List ℕ
uncalled_with states counters =
    to_bytes
    (uncalled ++ bad_words 1 ((40, 8) ∷ (41, 5) ∷ (43, 1) ∷ (44, 0) ∷ []) ++
    table_words ((0, 0) ∷ (2, 8) ∷ []) [] states ++ free_ceilings counters)

-- A spawn in a called body. f() = (p = spawn g; p); g() = self; q = f(); q. The spawn stands in row 2, the call in row
-- 8: the process that it starts has nothing pushed, though its spawner will return to the call; behind the spawn the
-- spawner returns to it as before.
unfoldable pub spawned_below : List ℕ
spawned_below = program_words 4 0 2
    ((11, 0) ∷ (22, 0) ∷ (6, 1) ∷ (21, 2) ∷ (1, 1) ∷
    (11, 2) ∷ (22, 0) ∷ (1, 2) ∷
    (4, 3) ∷ (21, 0) ∷ (22, 0) ∷ (1, 3) ∷ [])

-- The given third numbers of the spawned process and of the spawner behind the spawn, which are 12 and 8. The first
-- columns begin at word 41, four of flow.
unfoldable pub spawned_below_with : ℕ → ℕ → List ℕ
spawned_below_with spawned behind =
    to_bytes
    (spawned_below ++ bad_words 1 ((40, 12) ∷ (42, 0) ∷ (43, 1) ∷ (44, 0) ∷ []) ++
    table_words ((0, 0) ∷ (1, 2) ∷ (2, 5) ∷ (3, 2) ∷ []) []
    ((2, 7, spawned) ∷ (12, 2, 8) ∷ (12, 4, behind) ∷ (12, 8, 12) ∷ (12, 11, 12) ∷ []) ++ free_ceilings 5)

unfoldable pub return_cases : List Case
return_cases =
    safe 2 spawned_below (spawned_below_with 12 8)
    (5 ∷ 0 ∷ 3 ∷ 7 ∷ 50 ∷ 51 ∷ 54 ∷ 50 ∷ 51 ∷ 50 ∷ 51 ∷ 1 ∷ 2 ∷ 0 ∷ 2 ∷ 4 ∷ 3 ∷ 1 ∷ []) ∷
    -- state 1, the spawn, lacks the spawned state where that has the spawner's third number, and the spawner's own
    -- where it has none
    refused 30 (spawned_below_with 8 8) 8 46 ∷
    refused 30 (spawned_below_with 12 12) 8 46 ∷
    -- refused without the third number, safe with it
    safe 2 sent_once (to_bytes (sent_once ++ sent_once_evidence)) sent_once_listing ∷
    safe 1 all_kinds (to_bytes (all_kinds ++ all_kinds_evidence)) all_kinds_listing ∷
    safe 1 own_class (to_bytes (own_class ++ own_class_evidence)) own_class_listing ∷
    -- An extra entry in the start expression with a call as its third number, (16, 15, 7), leads back as any give back
    -- does: "wherever r stands". It is state 5, and leads to state 4; that at R, now 6, wants nothing.
    safe 2 two_callers
    (two_callers_with 2 callers_flow
    ((16, 4, 7) ∷ (16, 4, 11) ∷ (16, 5, 16) ∷ (16, 7, 16) ∷ (16, 11, 16) ∷ (16, 15, 7) ∷ (16, 15, 16) ∷ [])
    (ceiling_words 6
    ((0, 1) ∷ (7, 0) ∷ (1, 1) ∷ (7, 0) ∷ (2, 1) ∷ (7, 0) ∷ (3, 1) ∷ (7, 0) ∷ (4, 1) ∷ (7, 0) ∷ (6, 1) ∷ (7, 0) ∷ [])))
    (quiet_listing 7 ((0, 4) ∷ (1, 6) ∷ (2, 3) ∷ (3, 0) ∷ (4, 1) ∷ (5, 4) ∷ [])) ∷
    -- so does one in a body, (24, 12, 8): the give back of g, with the call that stands in g. It is state 3.
    safe 2 two_deep
    (two_deep_with
    (((24, 4, 8) ∷ (24, 8, 15) ∷ (24, 8, 19) ∷ (24, 12, 8) ∷ (24, 12, 15) ∷ (24, 12, 19) ∷ []) ++ two_deep_ends) 10)
    (quiet_listing 10
    ((0, 4) ∷ (0, 5) ∷ (1, 0) ∷ (2, 0) ∷ (3, 4) ∷ (3, 5) ∷ (4, 8) ∷ (5, 9) ∷ (6, 7) ∷ (7, 1) ∷ (8, 2) ∷ [])) ∷
    -- a give back from f leads behind the call of f for each return of that call, in their order
    safe 2 two_deep
    (two_deep_with (((24, 4, 8) ∷ (24, 8, 15) ∷ (24, 8, 19) ∷ (24, 12, 15) ∷ (24, 12, 19) ∷ []) ++ two_deep_ends) 9)
    (quiet_listing 9
    ((0, 3) ∷ (0, 4) ∷ (1, 0) ∷ (2, 0) ∷ (3, 7) ∷ (4, 8) ∷ (5, 6) ∷ (6, 1) ∷ (7, 2) ∷ [])) ∷
    -- without the second of them state 0, which gives back, lacks it: the first columns begin at word 65, eight of
    -- flow
    refused 30
    (two_deep_with (((24, 4, 8) ∷ (24, 8, 15) ∷ (24, 8, 19) ∷ (24, 12, 15) ∷ []) ++ two_deep_ends) 8) 8 73 ∷
    -- the body with the caller's third number, where the call's is wanted: state 1 (16, 5) is in order, state 2, the
    -- call of row 7, lacks (16, 4, 7)
    refused 30
    (two_callers_with 2 callers_flow
    ((16, 4, 16) ∷ (16, 5, 16) ∷ (16, 7, 16) ∷ (16, 11, 16) ∷ (16, 15, 16) ∷ []) callers_ceilings) 8 56 ∷
    -- the second call's name without its value: the second give back, state 1, lacks it, with four of flow
    refused 30 (two_callers_with 2 ((0, 1) ∷ (1, 5) ∷ (2, 5) ∷ (3, 5) ∷ []) callers_states callers_ceilings) 8 54 ∷
    -- A third number that is no call row and not R. The states of A have their first column in words 41 to 45, their
    -- third in 55 to 59: a row with another tag, a row past R, and 0.
    refused 30 (with_word 55 1) 7 41 ∷
    refused 30 (with_word 57 9) 7 43 ∷
    refused 30 (with_word 59 11) 7 45 ∷
    refused 30 (with_word 56 0) 7 42 ∷
    -- third numbers out of order, and the same twice: the second such entry; five of flow
    refused 30
    (two_callers_with 2 callers_flow
    ((16, 4, 11) ∷ (16, 4, 7) ∷ (16, 5, 16) ∷ (16, 7, 16) ∷ (16, 11, 16) ∷ (16, 15, 16) ∷ []) callers_ceilings) 7 55 ∷
    refused 30
    (two_callers_with 2 callers_flow
    ((16, 4, 7) ∷ (16, 4, 11) ∷ (16, 4, 11) ∷ (16, 5, 16) ∷ (16, 7, 16) ∷ (16, 11, 16) ∷ (16, 15, 16) ∷ [])
    callers_ceilings) 7 56 ∷
    -- the head goes before the third number: heads that descend are out of order whatever the third
    refused 30
    (two_callers_with 2 callers_flow
    ((16, 5, 7) ∷ (16, 4, 11) ∷ (16, 5, 16) ∷ (16, 7, 16) ∷ (16, 11, 16) ∷ (16, 15, 16) ∷ []) callers_ceilings) 7 55 ∷
    -- "the sum over the third column, also in a ceiling": 40,000 and 40,000 meet 65,535, at the bad's first tag
    refused 30 (limited_callers 65535 40000 40000) 12 38 ∷
    -- so do 32,767 and 32,768; one less does not, and leaks by the call in state 3: the ceilings begin at word 46 + 3
    -- + 22 + 6, their entries two behind
    refused 30 (limited_callers 65535 32767 32768) 12 38 ∷
    refused 30 (limited_callers 65535 32767 32767) 13 79 ∷
    -- the mark makes the sum unbounded, with nothing beside it
    refused 30
    (two_callers_with 65535 callers_flow callers_states
    (ceiling_words 1 ((1, 65535) ∷ (2, 65535) ∷ (3, 65535) ∷ (4, 65535) ∷ (5, 65535) ∷ (6, 0) ∷ []))) 12 38 ∷
    -- one process at either: the bad of two is not met where no ceiling allows both
    safe 0 two_callers (two_callers_with 2 callers_flow callers_states callers_ceilings) two_callers_listing ∷
    -- and is where one does
    refused 30 (limited_callers 2 1 1) 12 38 ∷
    -- an item without a counter stands at 0, in any ceiling
    safe 0 uncalled (uncalled_with ((8, 6, 8) ∷ (8, 7, 8) ∷ []) 2) (quiet_listing 2 ((0, 1) ∷ [])) ∷
    -- with an extra state there it has one, and the ceiling without limits meets it: the bads' first tag, word 22
    refused 30 (uncalled_with ((8, 5, 2) ∷ (8, 6, 8) ∷ (8, 7, 8) ∷ []) 3) 12 22 ∷
    -- an extra entry that returns to a call in no state wants nothing and has no rule
    safe 0 uncalled (uncalled_with ((8, 6, 8) ∷ (8, 7, 2) ∷ (8, 7, 8) ∷ []) 3) (quiet_listing 3 ((0, 2) ∷ [])) ∷
    []
