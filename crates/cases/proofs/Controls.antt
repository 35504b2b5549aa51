-- Controls: demand 3 on four stations, computed. After each number of a list the counts of the station and of the counters stand side by side.
use Prim.Native.Nat.{ℕ}
use mathlib.Core.Path.{◌≡◌, refl}
use mathlib.Core.List.{List, [], ◌∷◌, ◌++◌}
use mathlib.Core.Option.{Option, some, none}
use lib.ListN.{replicate}
use Rattle.model.specs.Index.{gather}
use Rattle.model.specs.Values.{Processes}
use Rattle.model.specs.Run.{starting, next}
use Rattle.model.specs.Letters.{Letter, processes_at, messages_of}
use Rattle.model.specs.Tables.{state_at}
use Rattle.model.specs.Rules.{quiet, reads, puts, starts, Rule, rule}
use Rattle.model.specs.Markings.{Marking, initial, fire_all}
use Rattle.model.specs.Verify.{Message, message}
use Rattle.cases.proofs.Opens.{model_opens}
use Rattle.cases.specs.Cases.{to_bytes, two_classes_with, selective, selective_evidence}
use Rattle.cases.specs.ReturnCases.{two_deep_with, two_deep_ends}
use Rattle.cases.specs.LetterCases.{two_pairs, two_pairs_message}

-- the counts of a station in the order of the counters: its states, then the given classes and letters
tally : Message → List (ℕ × Letter) → Processes → List ℕ
tally m letters qs =
    gather 0 m.tables.states.size (λ i. processes_at m.program qs (state_at m.tables i) ∷ []) ++
    mails letters
  where
    mails : List (ℕ × Letter) → List ℕ
    mails [] = []
    mails (k ∷ ks) = messages_of m.program qs k.0 k.1 ∷ mails ks

-- the counts after each number
station_tallies : Message → List (ℕ × Letter) → Processes → List ℕ → List (List ℕ)
station_tallies m letters qs [] = tally m letters qs ∷ []
station_tallies m letters qs (i ∷ is) = tally m letters qs ∷ station_tallies m letters (next m.program qs i) is

-- the counters after each rule, or none for a number that makes no step; an empty list where a rule can't be used
counter_tallies : ℕ → Marking → List (Option Rule) → List (List ℕ)
counter_tallies n m [] = gather 0 n (λ x. m x ∷ []) ∷ []
counter_tallies n m (none ∷ os) = gather 0 n (λ x. m x ∷ []) ∷ counter_tallies n m os
counter_tallies n m (some ρ ∷ os) =
    gather 0 n (λ x. m x ∷ []) ∷ elim (fire_all (ρ ∷ []) m) [ none ↦ [] | some m' ↦ counter_tallies n m' os ]

-- A target of two classes (specs/Cases.antt): spawn, call, build, send; the new process receives; give back; it has ended; self, call, build, send to oneself,
-- give back; no such process; ended.
two_classes_message : Message
two_classes_message = message (two_classes_with ((15, 9) ∷ (27, 9) ∷ []))

two_classes_numbers : List ℕ
two_classes_numbers = 0 ∷ 0 ∷ 0 ∷ 0 ∷ 1 ∷ 0 ∷ 1 ∷ 0 ∷ 0 ∷ 0 ∷ 0 ∷ 0 ∷ 7 ∷ 0 ∷ []

two_classes_rules : List (Option Rule)
two_classes_rules =
    some (rule 8 9 (starts 0)) ∷ some (rule 9 2 quiet) ∷ some (rule 2 4 quiet) ∷ some (rule 4 6 (puts 13)) ∷ some (rule 0 1 (reads 13)) ∷
    some (rule 6 10 quiet) ∷ none ∷ some (rule 10 11 quiet) ∷ some (rule 11 3 quiet) ∷ some (rule 3 5 quiet) ∷ some (rule 5 7 (puts 14)) ∷
    some (rule 7 12 quiet) ∷ none ∷ none ∷ []

-- in the end the spawned process stands at row 5, the first at row 26, with a message from itself
two_classes_end : List ℕ
two_classes_end = 0 ∷ 1 ∷ 0 ∷ 0 ∷ 0 ∷ 0 ∷ 0 ∷ 0 ∷ 0 ∷ 0 ∷ 0 ∷ 0 ∷ 1 ∷ 0 ∷ 1 ∷ []

last_of : List (List ℕ) → List ℕ
last_of [] = []
last_of (x ∷ []) = x
last_of (x ∷ y ∷ zs) = last_of (y ∷ zs)

-- two tables of counts and their common end
record Same (a b : List (List ℕ)) (end : List ℕ) : Type 0 where
  along : a ≡ b
  at_last : last_of a ≡ end

two_classes_followed : Same (station_tallies two_classes_message ((15, 0 ∷ []) ∷ (27, 0 ∷ []) ∷ []) (starting two_classes_message.program) two_classes_numbers) (counter_tallies 15 (initial two_classes_message.program two_classes_message.tables) two_classes_rules) two_classes_end
unfolding tally station_tallies counter_tallies two_classes_message two_classes_numbers two_classes_rules two_classes_end last_of model_opens
two_classes_followed = record { along = refl; at_last = refl }

-- A message passed over (specs/Cases.antt): the first receive takes the second message, the second the first.
selective_message : Message
selective_message = message (to_bytes (selective ++ selective_evidence))

selective_rules : List (Option Rule)
selective_rules =
    some (rule 0 1 quiet) ∷ some (rule 1 2 quiet) ∷ some (rule 2 3 quiet) ∷ some (rule 3 4 (puts 8)) ∷ some (rule 4 5 (puts 9)) ∷
    some (rule 5 6 (reads 9)) ∷ some (rule 6 7 (reads 8)) ∷ none ∷ []

selective_followed : Same (station_tallies selective_message ((18, 0 ∷ []) ∷ (18, 1 ∷ []) ∷ []) (starting selective_message.program) (0 ∷ 0 ∷ 0 ∷ 0 ∷ 0 ∷ 0 ∷ 0 ∷ 0 ∷ [])) (counter_tallies 10 (initial selective_message.program selective_message.tables) selective_rules) (0 ∷ 0 ∷ 0 ∷ 0 ∷ 0 ∷ 0 ∷ 0 ∷ 1 ∷ 0 ∷ 0 ∷ [])
unfolding tally station_tallies counter_tallies selective_message selective_rules last_of model_opens
selective_followed = record { along = refl; at_last = refl }

-- A call that itself returns to two (specs/ReturnCases.antt): f gives back to the one call of it, the first time for the first call of g, then for the second.
two_deep_message : Message
two_deep_message =
    message (two_deep_with (((24, 4, 8) ∷ (24, 8, 15) ∷ (24, 8, 19) ∷ (24, 12, 15) ∷ (24, 12, 19) ∷ []) ++ two_deep_ends) 9)

two_deep_rules : List (Option Rule)
two_deep_rules =
    some (rule 5 6 quiet) ∷ some (rule 6 1 quiet) ∷ some (rule 1 0 quiet) ∷ some (rule 0 3 quiet) ∷ some (rule 3 7 quiet) ∷ some (rule 7 2 quiet) ∷
    some (rule 2 0 quiet) ∷ some (rule 0 4 quiet) ∷ some (rule 4 8 quiet) ∷ none ∷ []

two_deep_followed : Same (station_tallies two_deep_message [] (starting two_deep_message.program) (replicate 10 0)) (counter_tallies 9 (initial two_deep_message.program two_deep_message.tables) two_deep_rules) (0 ∷ 0 ∷ 0 ∷ 0 ∷ 0 ∷ 0 ∷ 0 ∷ 0 ∷ 1 ∷ [])
unfolding tally station_tallies counter_tallies two_deep_message two_deep_rules last_of model_opens
two_deep_followed = record { along = refl; at_last = refl }

-- Two pairs, of a gauge and the own address and of pumps (specs/LetterCases.antt): the receive takes the second message alone.
two_letters_message : Message
two_letters_message = message (two_pairs_message (two_pairs (32, 0) (31, 1)))

two_letters_rules : List (Option Rule)
two_letters_rules =
    some (rule 0 1 quiet) ∷ some (rule 1 2 quiet) ∷ some (rule 2 3 quiet) ∷ some (rule 3 4 quiet) ∷ some (rule 4 5 quiet) ∷ some (rule 5 6 (puts 9)) ∷
    some (rule 6 7 (puts 10)) ∷ some (rule 7 8 (reads 10)) ∷ none ∷ []

two_letters_followed : Same (station_tallies two_letters_message ((27, 2 ∷ 0 ∷ 4 ∷ []) ∷ (27, 2 ∷ 1 ∷ 1 ∷ []) ∷ []) (starting two_letters_message.program) (replicate 9 0)) (counter_tallies 11 (initial two_letters_message.program two_letters_message.tables) two_letters_rules) (0 ∷ 0 ∷ 0 ∷ 0 ∷ 0 ∷ 0 ∷ 0 ∷ 0 ∷ 1 ∷ 1 ∷ 0 ∷ [])
unfolding tally station_tallies counter_tallies two_letters_message two_letters_rules last_of model_opens
two_letters_followed = record { along = refl; at_last = refl }
