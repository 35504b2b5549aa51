-- What a step changes in the counts of a station, and the rule that changes the counters so.
use Prim.Native.Nat.{ℕ, ◌+◌, ◌≤◌}
use mathlib.Core.Path.{◌≡◌}
use mathlib.Core.Bool.{true}
use Rattle.model.specs.Rows.{Program}
use Rattle.model.specs.Values.{Processes}
use Rattle.model.specs.Letters.{Letter, one_if, processes_at}
use Rattle.model.specs.Tables.{Tables, State, state_index_of}
use Rattle.model.specs.Counters.{has_letter, letter_index, Counted, state_of, letter_of}
use Rattle.model.specs.Rules.{Effect, quiet, reads, puts, starts, Rule, rule}
use Rattle.model.specs.Wanted.{ListedState}
use Rattle.model.proofs.Counting.Station.{station_count, same}
pub use Rattle.model.proofs.Markings.{fire_at}
unfoldable pub use Rattle.model.proofs.Markings.{effect_less, effect_more}

-- what a step does besides moving its process: a message of this class and letter read or put, a process started in this state
pub data Change : Type 0 where
  no_change : Change
  read_one : (class : ℕ) (letter : Letter) → Change
  put_one : (class : ℕ) (letter : Letter) → Change
  start_one : State → Change

-- what is taken from a count, and what is added to it
unfoldable pub taken_by : Change → Counted → ℕ
taken_by no_change k = 0
taken_by (read_one c l) k = one_if (same (letter_of c l) k)
taken_by (put_one c l) k = 0
taken_by (start_one s) k = 0

unfoldable pub added_by : Change → Counted → ℕ
added_by no_change k = 0
added_by (read_one c l) k = 0
added_by (put_one c l) k = one_if (same (letter_of c l) k)
added_by (start_one s) k = one_if (same (state_of s) k)

-- A process in the one state is there, and the counts differ by its moving to the other and by the change
pub record Moves (p : Program) (qs qs' : Processes) (from to : State) (change : Change) : Type 0 where
  pub is_there : 1 ≤ processes_at p qs from
  pub balance : (k : Counted) → station_count p qs' k + one_if (same (state_of from) k) + taken_by change k ≡ station_count p qs k + one_if (same (state_of to) k) + added_by change k

-- the effect and the rule that do so to the counters
abbrev pub effect_of : Program → Tables → Change → Effect
effect_of p t no_change = quiet
effect_of p t (read_one c l) = reads (letter_index p t c l)
effect_of p t (put_one c l) = puts (letter_index p t c l)
effect_of p t (start_one s) = starts (state_index_of t s)

abbrev pub rule_of : Program → Tables → State → State → Change → Rule
rule_of p t from to change = rule (state_index_of t from) (state_index_of t to) (effect_of p t change)

-- what changes has a counter
abbrev pub Known : Program → Tables → Change → Type 0
Known p t no_change = Unit {0}
Known p t (read_one c l) = has_letter p t c l ≡ true
Known p t (put_one c l) = has_letter p t c l ≡ true
Known p t (start_one s) = ListedState t s
