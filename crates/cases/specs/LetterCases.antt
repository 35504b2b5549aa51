-- Document 02, (viii): cases of letters two deep, worked out by hand from the papers: verdicts with their listings,
-- counts at the limit, and where runs get to.
use Rattle.std.specs.Prelude.{ℕ, ◌+◌, ◌*◌, List, [], ◌∷◌, ◌++◌, length, replicate}
use Rattle.model.specs.declared.Sizes.{Sizes}
use Rattle.model.specs.Limits.{Limits, former, present}
use Rattle.model.specs.Index.{gather, from_all}
use Rattle.model.specs.Verdict.{number, place}
use Rattle.model.specs.Rows.{Program}
use Rattle.model.specs.Tables.{Tables}
use Rattle.model.specs.Counters.{counter_check_of}
use Rattle.model.specs.Verify.{answer}
use Rattle.cases.specs.Cases.{Pairs, program_words, bad_words, table_words, returning, ceiling_words, to_bytes}
use Rattle.cases.specs.Cases.{Case, refused, safe, a_listing}
use Rattle.cases.specs.HeldCases.{Arrival, steps, free_ceilings}

-- c0 is "gauge", c1 "pump", c2 a pair; C 3, so that a function is head 3 and an address head 4.
-- x = self; a = c0; b = c1; m = c2(M, N); send x m; receive { P -> x }, where the names M and N are given (0 is x, 1 is
-- a, 2 is b) and P is. The pattern stands from row 16, x is given back in the last row.
unfoldable pub pair_of : ℕ → ℕ → Pairs → List ℕ
pair_of m n pattern =
    program_words 5 3 0
    (((10, 0) ∷ (10, 0) ∷ (10, 2) ∷ (7, 0) ∷
    (2, 1) ∷ (20, 0) ∷
    (2, 2) ∷ (20, 1) ∷
    (2, 3) ∷ (20, 2) ∷ (21, m) ∷ (21, n) ∷
    (5, 4) ∷ (21, 0) ∷ (21, 3) ∷
    (9, 1) ∷ []) ++ pattern ++ ((1, 0) ∷ []))

-- Its tables where x is given back in row e, with the values of a and more mail given: seven states, the last behind
-- the receive.
unfoldable pub pair_tables : ℕ → Pairs → Pairs → List ℕ
pair_tables e values mail =
    let r : ℕ = e + 1 in
    table_words (((0, r) ∷ []) ++ values ++ ((2, 6) ∷ (3, 8) ∷ (4, 8) ∷ [])) (((r, 8) ∷ []) ++ mail)
    (returning r ((r, 3) ∷ (r, 4) ∷ (r, 6) ∷ (r, 8) ∷ (r, 12) ∷ (r, 15) ∷ (r, e) ∷ []))

-- a may be a gauge or, by an extra entry, a pump
unfoldable pub either : Pairs
either = (1, 4) ∷ (1, 6) ∷ []

-- The message: the given rows of one bad, and a ceiling that has no limits.
unfoldable pub pair_message : List ℕ → Pairs → List ℕ → ℕ → List ℕ
pair_message program bad tables counters =
    to_bytes (program ++ bad_words 1 bad ++ tables ++ free_ceilings counters)

-- a bad on a gauge sent by itself, which has no counter
unfoldable pub no_gauge : ℕ → Pairs
no_gauge r = (40, r) ∷ (42, 0) ∷ (43, 1) ∷ (44, 0) ∷ []

-- The listing: four quiet rules, a rule of the send, state 4, for each counter put, one of the receive, state 5, for
-- each counter read.
unfoldable pub pair_listing : ℕ → List ℕ → List ℕ → List ℕ
pair_listing letters put read =
    (7 ∷ letters ∷ (4 + length put + length read) ∷ (8 + 3 * length put + 3 * length read) ∷
    50 ∷ 51 ∷ 50 ∷ 51 ∷ 50 ∷ 51 ∷ 50 ∷ 51 ∷ []) ++
    from_all put (λ x. 50 ∷ 51 ∷ 53 ∷ []) ++ from_all read (λ x. 50 ∷ 51 ∷ 52 ∷ []) ++
    (0 ∷ 1 ∷ 1 ∷ 2 ∷ 2 ∷ 3 ∷ 3 ∷ 4 ∷ []) ++
    from_all put (λ x. 4 ∷ 5 ∷ x ∷ []) ++ from_all read (λ x. 5 ∷ 6 ∷ x ∷ [])

-- The pair of a and a, where a may be either: the letters (gauge, gauge), (gauge, pump), (pump, gauge), (pump, pump)
-- have counters 7 to 10. It is safe, and these are read by the pattern, behind which row e gives back.
unfoldable pub twice : Pairs → ℕ → List ℕ → Case
twice pattern e read =
    safe 2 (pair_of 1 1 pattern)
    (pair_message (pair_of 1 1 pattern) (no_gauge (e + 1)) (pair_tables e either []) 11)
    (pair_listing 4 (7 ∷ 8 ∷ 9 ∷ 10 ∷ []) read)

-- The same with any pattern, row 17 giving back, R 18, and with the given bad: its first tag is word 42.
unfoldable pub twice_bad : Pairs → List ℕ
twice_bad bad = pair_message (pair_of 1 1 ((32, 0) ∷ [])) bad (pair_tables 17 either []) 11

-- The same with a bad on pairs and a ceiling of these limits for the four letters, none for the states. The tables
-- begin at word 40 + 2 + twice the rows of the bad and have 38 words, for 14 entries; the ceiling's first entry is the
-- third word behind.
unfoldable pub twice_limited : Pairs → Pairs → List ℕ
twice_limited bad limits =
    to_bytes
    (pair_of 1 1 ((32, 0) ∷ []) ++ bad_words 1 bad ++ pair_tables 17 either [] ++
    ceiling_words 1 (gather 0 7 (λ i. (i, 65535) ∷ []) ++ limits ++ ((11, 0) ∷ [])))

unfoldable pub ones : Pairs
ones = (7, 1) ∷ (8, 1) ∷ (9, 1) ∷ (10, 1) ∷ []

-- so many pairs; and so many of (gauge, pump)
unfoldable pub pairs : ℕ → Pairs
pairs n = (40, 18) ∷ (42, 2) ∷ (43, n) ∷ (44, 0) ∷ []

unfoldable pub gauge_pumps : ℕ → Pairs
gauge_pumps n = (40, 18) ∷ (42, 2) ∷ (45, 0) ∷ (45, 1) ∷ (43, n) ∷ (44, 0) ∷ []

-- f(n) = b = c1(n); b, which nobody calls; x = self; a = c0; send x a; receive { _ -> x }. The tables say too much: a
-- may be row 5, c1(n), though n holds nothing. R 18.
unfoldable pub valueless : List ℕ
valueless =
    program_words 6 2 1
    ((10, 0) ∷ (10, 1) ∷
    (11, 0) ∷ (22, 1) ∷ (23, 1) ∷ (2, 2) ∷ (20, 1) ∷ (21, 1) ∷ (1, 2) ∷
    (7, 3) ∷ (2, 4) ∷ (20, 0) ∷ (5, 5) ∷ (21, 3) ∷ (21, 4) ∷ (9, 1) ∷ (32, 0) ∷ (1, 3) ∷ [])

-- what the send yields and the mail are given; a bad on one message of c1
unfoldable pub valueless_with : Pairs → Pairs → List ℕ
valueless_with yields mail =
    to_bytes
    (valueless ++ bad_words 1 ((40, 18) ∷ (42, 1) ∷ (43, 1) ∷ (44, 0) ∷ []) ++
    table_words (((0, 2) ∷ (3, 18) ∷ (4, 5) ∷ (4, 10) ∷ []) ++ yields) mail
    (returning 18 ((18, 9) ∷ (18, 10) ∷ (18, 12) ∷ (18, 15) ∷ (18, 17) ∷ [])) ++ free_ceilings 6)

-- x = self; a = c0; b = c1; m = c2(a, x); k = c2(b, b); send x m; send x k; receive { c2(P, Q) -> x }, where P and Q
-- are given: a pair of a gauge and the own address, and a pair of pumps. R 27.
unfoldable pub two_pairs : ℕ × ℕ → ℕ × ℕ → List ℕ
two_pairs a b =
    program_words 7 3 0
    ((10, 0) ∷ (10, 0) ∷ (10, 2) ∷ (7, 0) ∷
    (2, 1) ∷ (20, 0) ∷
    (2, 2) ∷ (20, 1) ∷
    (2, 3) ∷ (20, 2) ∷ (21, 1) ∷ (21, 0) ∷
    (2, 4) ∷ (20, 2) ∷ (21, 2) ∷ (21, 2) ∷
    (5, 5) ∷ (21, 0) ∷ (21, 3) ∷
    (5, 6) ∷ (21, 0) ∷ (21, 4) ∷
    (9, 1) ∷ (31, 2) ∷ a ∷ b ∷ (1, 0) ∷ [])

-- nine states, the last behind the receive, wanted or not
unfoldable pub two_pairs_message : List ℕ → List ℕ
two_pairs_message program =
    pair_message program (no_gauge 27)
    (table_words ((0, 27) ∷ (1, 4) ∷ (2, 6) ∷ (3, 8) ∷ (4, 12) ∷ (5, 8) ∷ (6, 12) ∷ []) ((27, 8) ∷ (27, 12) ∷ [])
    (returning 27
    ((27, 3) ∷ (27, 4) ∷ (27, 6) ∷ (27, 8) ∷ (27, 12) ∷ (27, 16) ∷ (27, 19) ∷ (27, 22) ∷ (27, 26) ∷ []))) 11

-- counter 9 is (gauge, address), counter 10 (pump, pump): from the left, the gauge stands first
unfoldable pub two_pairs_listing : List ℕ → List ℕ
two_pairs_listing read =
    (9 ∷ 2 ∷ (7 + length read) ∷ (16 + 3 * length read) ∷
    50 ∷ 51 ∷ 50 ∷ 51 ∷ 50 ∷ 51 ∷ 50 ∷ 51 ∷ 50 ∷ 51 ∷ 50 ∷ 51 ∷ 53 ∷ 50 ∷ 51 ∷ 53 ∷ []) ++
    from_all read (λ x. 50 ∷ 51 ∷ 52 ∷ []) ++
    (0 ∷ 1 ∷ 1 ∷ 2 ∷ 2 ∷ 3 ∷ 3 ∷ 4 ∷ 4 ∷ 5 ∷ 5 ∷ 6 ∷ 9 ∷ 6 ∷ 7 ∷ 10 ∷ []) ++ from_all read (λ x. 7 ∷ 8 ∷ x ∷ [])

-- c0 has eight arguments, c1 to c7 have none. x = self; a1 = c1; ..; a7 = c7; m = c0(a1, .., a1), eight times; send x
-- m; receive { _ -> x }. Row 8 is self, the builds stand in rows 9, 11, .., 21, m in row 23, the send in row 33, the
-- receive in row 36, R 39.
unfoldable pub crowded : List ℕ
crowded =
    program_words 10 8 0
    (((10, 8) ∷ []) ++ replicate 7 (10, 0) ++ ((7, 0) ∷ []) ++
    gather 1 8 (λ i. (2, i) ∷ (20, i) ∷ []) ++ ((2, 8) ∷ (20, 0) ∷ []) ++ replicate 8 (21, 1) ++
    ((5, 9) ∷ (21, 0) ∷ (21, 8) ∷ (9, 1) ∷ (32, 0) ∷ (1, 0) ∷ []))

-- By extra entries a1 may be any of the seven and the own address: m allows 8^8 letters. Twelve states. The program has
-- 82 words, the bads 10, so that size S is word 94.
unfoldable pub crowded_message : List ℕ
crowded_message =
    pair_message crowded (no_gauge 39)
    (table_words
    (((0, 39) ∷ []) ++ gather 1 8 (λ i. (1, 7 + 2 * i) ∷ []) ++ ((1, 39) ∷ []) ++
    gather 2 8 (λ i. (i, 7 + 2 * i) ∷ []) ++ ((8, 23) ∷ (9, 23) ∷ []))
    ((39, 23) ∷ [])
    (returning 39
    (((39, 8) ∷ []) ++ gather 1 8 (λ i. (39, 7 + 2 * i) ∷ []) ++ ((39, 23) ∷ (39, 33) ∷ (39, 36) ∷ (39, 38) ∷ [])))) 12

unfoldable pub letter_cases : List Case
letter_cases =
    -- the same name twice: four letters, and a rule of the send for each. Any value reads all; a pair of a gauge and a
    -- pump one; a pair whose first is a pump two; a pair of names is any pair
    twice ((32, 0) ∷ []) 17 (7 ∷ 8 ∷ 9 ∷ 10 ∷ []) ∷
    twice ((31, 2) ∷ (31, 0) ∷ (31, 1) ∷ []) 19 (8 ∷ []) ∷
    twice ((31, 2) ∷ (31, 1) ∷ (32, 0) ∷ []) 19 (9 ∷ 10 ∷ []) ∷
    twice ((31, 2) ∷ (32, 0) ∷ (32, 0) ∷ []) 19 (7 ∷ 8 ∷ 9 ∷ 10 ∷ []) ∷
    -- a held name below a constructor selects heads: b is a pump. At the top it does not: m is a pair, as its row is
    twice ((31, 2) ∷ (33, 2) ∷ (32, 0) ∷ []) 19 (9 ∷ 10 ∷ []) ∷
    twice ((31, 2) ∷ (32, 0) ∷ (33, 2) ∷ []) 19 (8 ∷ 10 ∷ []) ∷
    twice ((33, 3) ∷ []) 17 (7 ∷ 8 ∷ 9 ∷ 10 ∷ []) ∷
    -- and b, a pump, is no pair: nothing is read
    twice ((33, 2) ∷ []) 17 [] ∷
    -- one value alone: one letter; the address is behind all pairs
    safe 2 (pair_of 1 2 ((32, 0) ∷ []))
    (pair_message (pair_of 1 2 ((32, 0) ∷ [])) (no_gauge 18) (pair_tables 17 ((1, 4) ∷ []) ((18, 18) ∷ [])) 9)
    (pair_listing 2 (7 ∷ []) (7 ∷ 8 ∷ [])) ∷
    -- "each by its name alone": x and a
    safe 2 (pair_of 0 1 ((31, 2) ∷ (32, 0) ∷ (31, 1) ∷ []))
    (pair_message (pair_of 0 1 ((31, 2) ∷ (32, 0) ∷ (31, 1) ∷ [])) (no_gauge 20) (pair_tables 19 either []) 9)
    (pair_listing 2 (7 ∷ 8 ∷ []) (8 ∷ [])) ∷
    -- bads: one of four letters; one that has no counter, (gauge, function); each is in form
    refused 9 (twice_bad (gauge_pumps 1)) 12 42 ∷
    safe 2 (pair_of 1 1 ((32, 0) ∷ []))
    (twice_bad ((40, 18) ∷ (42, 2) ∷ (45, 0) ∷ (45, 3) ∷ (43, 1) ∷ (44, 0) ∷ []))
    (pair_listing 4 (7 ∷ 8 ∷ 9 ∷ 10 ∷ []) (7 ∷ 8 ∷ 9 ∷ 10 ∷ [])) ∷
    -- one head of two: 6 at the minimum's row. Three: 6 at the third
    refused 9 (twice_bad ((40, 18) ∷ (42, 2) ∷ (45, 0) ∷ (43, 1) ∷ (44, 0) ∷ [])) 6 45 ∷
    refused 9 (twice_bad ((40, 18) ∷ (42, 2) ∷ (45, 0) ∷ (45, 0) ∷ (45, 0) ∷ (43, 1) ∷ (44, 0) ∷ [])) 6 46 ∷
    -- a head is a constructor, C or C + 1, which is 4
    safe 2 (pair_of 1 1 ((32, 0) ∷ []))
    (twice_bad ((40, 18) ∷ (42, 2) ∷ (45, 4) ∷ (45, 4) ∷ (43, 1) ∷ (44, 0) ∷ []))
    (pair_listing 4 (7 ∷ 8 ∷ 9 ∷ 10 ∷ []) (7 ∷ 8 ∷ 9 ∷ 10 ∷ [])) ∷
    refused 9 (twice_bad ((40, 18) ∷ (42, 2) ∷ (45, 5) ∷ (45, 0) ∷ (43, 1) ∷ (44, 0) ∷ [])) 6 44 ∷
    refused 9 (twice_bad ((40, 18) ∷ (42, 2) ∷ (45, 0) ∷ (45, 5) ∷ (43, 1) ∷ (44, 0) ∷ [])) 6 45 ∷
    -- none after a constructor without arguments, after C, C + 1 and 41, nor in another place
    refused 9 (twice_bad ((40, 18) ∷ (42, 0) ∷ (45, 0) ∷ (43, 1) ∷ (44, 0) ∷ [])) 6 44 ∷
    refused 9 (twice_bad ((40, 18) ∷ (42, 3) ∷ (45, 0) ∷ (43, 1) ∷ (44, 0) ∷ [])) 6 44 ∷
    refused 9 (twice_bad ((40, 18) ∷ (42, 4) ∷ (45, 0) ∷ (43, 1) ∷ (44, 0) ∷ [])) 6 44 ∷
    refused 9 (twice_bad ((40, 18) ∷ (41, 12) ∷ (45, 0) ∷ (43, 1) ∷ (44, 0) ∷ [])) 6 44 ∷
    refused 9 (twice_bad ((40, 18) ∷ (42, 2) ∷ (43, 1) ∷ (45, 0) ∷ (44, 0) ∷ [])) 6 45 ∷
    -- a minimum from 1 behind them, and rows that end early: the word past the tags
    refused 9 (twice_bad (gauge_pumps 0)) 6 46 ∷
    refused 9 (twice_bad ((40, 18) ∷ (42, 2) ∷ (45, 0) ∷ (45, 0) ∷ [])) 6 46 ∷
    -- without the heads the sum: four letters of at most one each make four and not five. What is not met leaks
    refused 9 (twice_limited (pairs 4) ones) 12 42 ∷
    refused 9 (twice_limited (pairs 5) ones) 13 90 ∷
    refused 9 (twice_limited (gauge_pumps 1) ones) 12 42 ∷
    refused 9 (twice_limited (gauge_pumps 2) ones) 13 94 ∷
    -- the sum passes 16 bits, and one letter without a limit makes it one
    refused 9 (twice_limited (pairs 65535) ((7, 40000) ∷ (10, 40000) ∷ [])) 12 42 ∷
    refused 9 (twice_limited (pairs 65535) ((7, 30000) ∷ (10, 30000) ∷ [])) 13 90 ∷
    refused 9 (twice_limited (pairs 65535) ((9, 65535) ∷ [])) 12 42 ∷
    -- two items: the second, of one letter, stands behind the first's rows; both must be met
    refused 9
    (twice_limited
    ((40, 18) ∷ (42, 2) ∷ (45, 0) ∷ (45, 1) ∷ (43, 1) ∷ (40, 18) ∷ (42, 2) ∷ (43, 4) ∷ (44, 0) ∷ []) ones)
    12 42 ∷
    refused 9
    (twice_limited
    ((40, 18) ∷ (42, 2) ∷ (45, 0) ∷ (45, 1) ∷ (43, 1) ∷ (40, 18) ∷ (42, 2) ∷ (43, 5) ∷ (44, 0) ∷ []) ones)
    13 100 ∷
    -- an argument name without values: row 5 has no letter, no counter and no rule, and the bad on c1 is not met; but
    -- mail and name are wanted: state 2, the send, lacks them. The first columns begin at word 53, seven entries before
    -- the states
    safe 3 valueless (valueless_with ((5, 5) ∷ (5, 10) ∷ []) ((18, 5) ∷ (18, 10) ∷ [])) a_listing ∷
    refused 9 (valueless_with ((5, 5) ∷ (5, 10) ∷ []) ((18, 10) ∷ [])) 8 62 ∷
    refused 9 (valueless_with ((5, 10) ∷ []) ((18, 5) ∷ (18, 10) ∷ [])) 8 62 ∷
    -- pairs of different rows are not mixed: no row may be a gauge and a pump
    safe 2 (two_pairs (31, 0) (31, 1)) (two_pairs_message (two_pairs (31, 0) (31, 1))) (two_pairs_listing []) ∷
    safe 2 (two_pairs (31, 0) (32, 0)) (two_pairs_message (two_pairs (31, 0) (32, 0))) (two_pairs_listing (9 ∷ [])) ∷
    safe 2 (two_pairs (32, 0) (31, 1)) (two_pairs_message (two_pairs (32, 0) (31, 1))) (two_pairs_listing (10 ∷ [])) ∷
    safe 2 (two_pairs (32, 0) (33, 0)) (two_pairs_message (two_pairs (32, 0) (33, 0))) (two_pairs_listing (9 ∷ [])) ∷
    -- more letters than can be listed
    refused 9 crowded_message 9 94 ∷
    []

-- Refusal 9 alone, of a program of C constructors, the first with so many arguments, whose mail is one value of that
-- constructor, each argument the name 0, which may be a value of any of the constructors, a function or an address, C +
-- 2 heads; and with so many states. The constructors stand in rows 0 to C - 1, their values from row C on, two rows
-- each, then the mail's value, then the function. Size S is told as word 18.
pub record Crowd : Type 0 where
  pub most : Limits
  pub constructors : ℕ
  pub arguments : ℕ
  pub states : ℕ

abbrev pub crowd_of : Limits → ℕ → ℕ → ℕ → Crowd
crowd_of most c a s = record { most = most; constructors = c; arguments = a; states = s }

unfoldable pub crowd_told : Crowd → List ℕ
crowd_told k =
    let c : ℕ = k.constructors in
    let a : ℕ = k.arguments in
    let s : Sizes = record {
      rows = 1;
      names = 1;
      constructors = c;
      functions = 0;
      bads = 1;
      badrows = 4;
      flows = c + 2;
      mails = 1;
      states = k.states;
      ceilings = 0;
      entries = 0;
      lines = 0;
      weights = 0;
    } in
    let p : Program = record {
      names = 1;
      constructors = c;
      functions = 0;
      rows = record {
        size = 3 * c + 3 + a;
        lefts = replicate c 10 ++ gather 0 c (λ i. 2 ∷ 20 ∷ []) ++ (2 ∷ 20 ∷ replicate a 21) ++ (3 ∷ []);
        rights = (a ∷ gather 1 c (λ i. 0 ∷ [])) ++ gather 0 c (λ i. 0 ∷ i ∷ []) ++ (0 ∷ 0 ∷ replicate a 0) ++ (0 ∷ []);
      };
    } in
    let t : Tables = record {
      flow = record {
        size = c + 2;
        lefts = replicate (c + 2) 0;
        rights = gather 0 c (λ i. (c + 2 * i) ∷ []) ++ ((3 * c + 2 + a) ∷ (3 * c + 3 + a) ∷ []);
      };
      mail = record { size = 1; lefts = 0 ∷ []; rights = (3 * c) ∷ [] };
      states = record { size = k.states; lefts = []; rights = [] };
      returns = [];
    } in
    let v = answer (counter_check_of k.most s p t) in number v ∷ place v ∷ []

-- 16 and 32 heads of two arguments: 256 and 1,024 letters; 32 heads of eight, 2^40, which is 0 in 32 bits; 66 heads of
-- eight, 66^8
unfoldable pub crowds : List Crowd
crowds =
    crowd_of former 14 2 256 ∷ crowd_of former 14 2 257 ∷
    crowd_of former 30 2 0 ∷ crowd_of present 30 2 0 ∷ crowd_of present 30 2 1 ∷
    crowd_of present 30 8 0 ∷ crowd_of present 64 8 0 ∷ []

unfoldable pub crowds_told : List (List ℕ)
crowds_told =
    (0 ∷ 0 ∷ []) ∷ (9 ∷ 18 ∷ []) ∷ (9 ∷ 18 ∷ []) ∷ (0 ∷ 0 ∷ []) ∷ (9 ∷ 18 ∷ []) ∷ (9 ∷ 18 ∷ []) ∷
    (9 ∷ 18 ∷ []) ∷ []

-- "a message under its letter": the message is there after five steps
unfoldable pub letter_runs : List Arrival
letter_runs =
    steps (pair_of 1 1 ((32, 0) ∷ [])) 5 (18 ∷ 15 ∷ 1 ∷ 2 ∷ 0 ∷ 0 ∷ []) ∷
    steps (pair_of 1 2 ((32, 0) ∷ [])) 5 (18 ∷ 15 ∷ 1 ∷ 2 ∷ 0 ∷ 1 ∷ []) ∷
    steps (pair_of 0 2 ((32, 0) ∷ [])) 5 (18 ∷ 15 ∷ 1 ∷ 2 ∷ 4 ∷ 1 ∷ []) ∷
    -- only a pair of a gauge and a pump is taken
    steps (pair_of 1 1 ((31, 2) ∷ (31, 0) ∷ (31, 1) ∷ [])) 6 (20 ∷ 15 ∷ 1 ∷ 2 ∷ 0 ∷ 0 ∷ []) ∷
    steps (pair_of 1 2 ((31, 2) ∷ (31, 0) ∷ (31, 1) ∷ [])) 6 (20 ∷ 19 ∷ 0 ∷ []) ∷
    []
