-- Document 02, (x): cases of functions by mail, worked out by hand from the papers: verdicts, and where runs get to.
use Rattle.std.specs.Prelude.{ℕ, List, [], ◌∷◌, ◌++◌}
use Rattle.model.specs.Limits.{present}
use Rattle.cases.specs.Cases.{Pairs, program_words, bad_words, table_words, returning, ceiling_words, to_bytes}
use Rattle.cases.specs.Cases.{refused, safe}
use Rattle.cases.specs.LongerCases.{LimitCase, within, limits}
use Rattle.cases.specs.HeldCases.{Arrival, steps, held_message}

-- g() = self. Then x = self; u = fun () -> x; m = c0(u); send x N; receive { c0(y) -> w = fun () -> x; x }, where
-- the name N is given: 0 is g, 3 is u, 4 is m. Functions in rows 1, 6 and 18, m is built in row 9. R 22, C 1.
unfoldable pub mailing : ℕ → List ℕ
mailing n =
    program_words 8 1 1
    ((10, 1) ∷ (11, 0) ∷ (22, 0) ∷ (7, 1) ∷ (1, 1) ∷
    (7, 2) ∷
    (3, 3) ∷ (22, 0) ∷ (1, 2) ∷
    (2, 4) ∷ (20, 0) ∷ (21, 3) ∷
    (5, 5) ∷ (21, 2) ∷ (21, n) ∷
    (9, 1) ∷ (31, 0) ∷ (30, 6) ∷
    (3, 7) ∷ (22, 0) ∷ (1, 2) ∷ (1, 2) ∷ [])

-- what flow has from the name 5 on, which yields the value sent; and the mail of the start's class, 22
unfoldable pub mailing_tables : Pairs → Pairs → List ℕ
mailing_tables flow mail =
    table_words (((0, 1) ∷ (2, 22) ∷ (3, 6) ∷ (4, 9) ∷ []) ++ flow) mail
    (returning 22 ((22, 5) ∷ (22, 6) ∷ (22, 9) ∷ (22, 12) ∷ (22, 15) ∷ (22, 18) ∷ (22, 21) ∷ []))

-- m is sent, y may be u
unfoldable pub sends_m : Pairs
sends_m = (5, 9) ∷ (6, 6) ∷ (7, 18) ∷ []

-- A bad on one message of the letter, and a ceiling without limits. The bads' first tag is word 50, the tables begin
-- at word 58, and where flow has seven entries the first mail entry is at word 68.
unfoldable pub mailing_message : ℕ → ℕ → Pairs → Pairs → ℕ → List ℕ
mailing_message n letter flow mail counters = held_message (mailing n) 22 letter (mailing_tables flow mail) counters

-- counter 7 is that of c0 in the start's mailbox: there is none of letter C
unfoldable pub mailing_listing : List ℕ
mailing_listing =
    7 ∷ 1 ∷ 6 ∷ 14 ∷
    50 ∷ 51 ∷ 50 ∷ 51 ∷ 50 ∷ 51 ∷ 50 ∷ 51 ∷ 53 ∷ 50 ∷ 51 ∷ 52 ∷ 50 ∷ 51 ∷
    0 ∷ 1 ∷ 1 ∷ 2 ∷ 2 ∷ 3 ∷ 3 ∷ 4 ∷ 7 ∷ 4 ∷ 5 ∷ 7 ∷ 5 ∷ 6 ∷ []

unfoldable pub mailed_cases : List LimitCase
mailed_cases =
    -- a function inside a constructor is fine; (42, C) is in form, has no counter and is not met
    within present (safe 3 (mailing 4) (mailing_message 4 1 sends_m ((22, 9) ∷ []) 8) mailing_listing) ∷
    -- as the message itself, letter 0, is; and the letters end with C + 1
    within present (refused 9 (mailing_message 4 0 sends_m ((22, 9) ∷ []) 8) 12 50) ∷
    within present (refused 9 (mailing_message 4 3 sends_m ((22, 9) ∷ []) 8) 6 51) ∷
    -- a function sent, of tag 3 and of tag 11, though a bad asks for letter C and the ceiling has a limit for it
    within present (refused 9 (mailing_message 3 1 ((5, 6) ∷ (6, 6) ∷ (7, 18) ∷ []) ((22, 6) ∷ []) 8) 22 68) ∷
    within present (refused 9 (mailing_message 0 1 ((5, 1) ∷ (6, 6) ∷ (7, 18) ∷ []) ((22, 1) ∷ []) 8) 22 68) ∷
    -- an extra entry, of a function that no run sends: behind m, and the first of two
    within present (refused 9 (mailing_message 4 1 sends_m ((22, 9) ∷ (22, 18) ∷ []) 9) 22 69) ∷
    within present (refused 9 (mailing_message 4 1 sends_m ((22, 6) ∷ (22, 9) ∷ (22, 18) ∷ []) 9) 22 68) ∷
    within present (refused 9 (mailing_message 4 1 sends_m ((22, 1) ∷ (22, 9) ∷ []) 9) 22 68) ∷
    -- 8 before 22: y does not hold u, which the receive lacks, state 4 behind six of flow and two of mail
    within present
    (refused 9 (mailing_message 4 1 ((5, 9) ∷ (7, 18) ∷ []) ((22, 6) ∷ (22, 9) ∷ []) 9) 8 73) ∷
    -- 22 before 9: one counter too many, at size S; and with a function in the mail
    within (limits 22 7 7) (refused 9 (mailing_message 4 1 sends_m ((22, 9) ∷ []) 8) 9 60) ∷
    within (limits 22 7 7) (refused 9 (mailing_message 4 1 sends_m ((22, 6) ∷ (22, 9) ∷ []) 9) 22 68) ∷
    -- 22 before 10: entry 8 is to close the ceiling, and its limit is not 0; and with a function in the mail
    within present (refused 9 (mailing_message 4 1 sends_m ((22, 9) ∷ []) 9) 10 108) ∷
    within present (refused 9 (mailing_message 4 1 sends_m ((22, 6) ∷ (22, 9) ∷ []) 8) 22 68) ∷
    []

-- The run is as it was: a mailbox can hold a function, in a program that is not found safe.
unfoldable pub mailed_runs : List Arrival
mailed_runs =
    -- c0(u) has letter 0 with head C, and is received
    steps (mailing 4) 4 (22 ∷ 15 ∷ 1 ∷ 0 ∷ 1 ∷ []) ∷
    steps (mailing 4) 5 (22 ∷ 18 ∷ 0 ∷ []) ∷
    -- u and g have letter C, and match no constructor
    steps (mailing 3) 5 (22 ∷ 15 ∷ 1 ∷ 1 ∷ []) ∷
    steps (mailing 0) 5 (22 ∷ 15 ∷ 1 ∷ 1 ∷ []) ∷
    []
