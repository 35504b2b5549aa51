-- The three demands on a verifier of any limits, as types over the definitions: what is to be proved of
-- `verdict_within`, `lent_after_within` and `part_handed_within`, and so of the gate's own.
use Rattle.std.specs.Prelude.{ℕ, ◌+◌, ◌*◌, ◌≤◌, ◌<◌, ◌↔◌, ◌⊎◌, ◌≡◌, Bool, true, length, take, get_or, replicate}
use mathlib.Core.List.{List, [], ◌∷◌, ◌++◌, Memᴰ}
use Rattle.std.proofs.Math.Option.{Option, some, none}
use Rattle.model.specs.declared.Sizes.{Sizes}
use Rattle.model.specs.declared.Verdict.TheVariants.{Safe}
use Rattle.model.specs.Limits.{Limits, max_names, max_constructors, max_functions, max_bads, min_bad_rows, max_bad_rows}
use Rattle.model.specs.Limits.{max_flows, max_mails, max_ceilings, max_ceiling_entries, max_lines, max_weight_entries}
use Rattle.model.specs.Limits.{omega_limit}
use Rattle.model.specs.Tags.{tag_function, tag_global}
use Rattle.model.specs.Words.{Columns, left, right}
use Rattle.model.specs.Keys.{Key}
use Rattle.model.specs.Message.{end_of}
use Rattle.model.specs.Reader.{first_wrong_of}
use Rattle.model.specs.Rows.{Program, size, tag, num, is_head_of, is_name, step, whole}
use Rattle.model.specs.Scopes.{binds, uses, binds_name, in_scope}
use Rattle.model.specs.Heads.{is_class_of}
use Rattle.model.specs.Values.{Processes}
use Rattle.model.specs.Run.{step_of, run}
use Rattle.model.specs.Letters.{Letter, processes_at, messages_of}
use Rattle.model.specs.Bads.{bad_step, bad}
use Rattle.model.specs.Tables.{Tables, is_value_of, State}
use Rattle.model.specs.Wanted.{Closed}
use Rattle.model.specs.Met.{AllMet}
use Rattle.model.specs.Counters.{counter_count, state_of, letter_of}
use Rattle.model.specs.Rules.{Rule, rules}
use Rattle.model.specs.Listing.{system_words, written, listed_rules}
use Rattle.model.specs.Markings.{Marking, usable, fire, initial, fire_all, count_in, sum_in}
use Rattle.model.specs.Ceilings.{Ceilings, ceiling_entries, ceiling_step, ceilings_ahead}
use Rattle.model.specs.Weights.{weight_entries, weight_step, lines_ahead, weighed}
use Rattle.model.specs.Verify.{Message, message, verdict_within, lent_after_within, part_handed_within}

-- the bytes of a message are bytes: every list that a slice of bytes holds is so
abbrev pub Bytes : List ℕ → Type 0
Bytes bytes = (i : ℕ) → get_or bytes i 0 < 256

-- Demand 1: every message gets a verdict (`verdict` is a function of any bytes), and a refusal leaves the lent words
-- unchanged and hands on nothing.
pub record RefusalChangesNothing : Type 0 where
  pub lent_unchanged :
      (most : Limits) (bytes lent : List ℕ) → (verdict_within most bytes (length lent) ≡ Safe → ⊥) →
      lent_after_within most bytes lent ≡ lent
  pub nothing_handed :
      (most : Limits) (bytes : List ℕ) (lent : ℕ) → (verdict_within most bytes lent ≡ Safe → ⊥) →
      part_handed_within most bytes lent ≡ []

-- Demand 2: "The verdict is safe exactly when ..."

abbrev pub Between : ℕ → ℕ → ℕ → Type 0
Between least most n = (least ≤ n) × (n ≤ most)

-- "the limits ... suffice"
pub record WithinLimits (most : Limits) (s : Sizes) : Type 0 where
  pub rows : Between 1 most.rows s.rows
  pub names : Between 1 max_names s.names
  pub constructors : s.constructors ≤ max_constructors
  pub functions : s.functions ≤ max_functions
  pub bads : Between 1 max_bads s.bads
  pub badrows : Between min_bad_rows max_bad_rows s.badrows
  pub flows : s.flows ≤ max_flows
  pub mails : s.mails ≤ max_mails
  pub states : s.states ≤ most.states
  pub ceilings : s.ceilings ≤ max_ceilings
  pub entries : s.entries ≤ max_ceiling_entries
  -- document 02, (v); where there is no fifth part, both are 0
  pub lines : s.lines ≤ max_lines
  pub weights : s.weights ≤ max_weight_entries

-- "the program is well formed": its rows fit, each name below V is bound in one place, each name read is in scope
pub record WellFormed (p : Program) : Type 0 where
  pub rows_fit : first_wrong_of (step p) p.rows (whole p) ≡ none
  pub bound_once :
      (q r : ℕ) → q < size p → r < size p → binds (tag p q) ≡ true → binds (tag p r) ≡ true → num p q ≡ num p r → q ≡ r
  pub bound : (n : ℕ) → n < p.names → (b : ℕ) × (b < size p) × (binds_name p n b ≡ true)
  pub scoped :
      (r : ℕ) → r < size p → uses (tag p r) ≡ true →
      (b : ℕ) × (b < size p) × (binds_name p (num p r) b ≡ true) × (in_scope p b r ≡ true)

-- One entry stands below another: by the first column in which they differ. (One that ends before stands below; entries
-- of one list have as many columns.)
abbrev pub Below : Key → Key → Type 0
Below [] [] = ⊥
Below [] (y ∷ b) = Unit {0}
Below (x ∷ a) [] = ⊥
Below (x ∷ a) (y ∷ b) = (x < y) ⊎ ((x ≡ y) × Below a b)

-- each of n entries is in its range, and the list ascends strictly
pub record Listed (n : ℕ) (In-range : ℕ → Type 0) (key : ℕ → Key) : Type 0 where
  pub in_range : (i : ℕ) → i < n → In-range i
  pub ascending : (i j : ℕ) → i < j → j < n → Below (key i) (key j)

-- a list of pairs: the ranges of its two columns, and the columns of an entry
abbrev pub LegalPair : (ℕ → Bool) → (ℕ → Bool) → Columns → ℕ → Type 0
LegalPair legal_left legal-right c i = (legal_left (left c i) ≡ true) × (legal-right (right c i) ≡ true)

abbrev pub two_columns : Columns → ℕ → Key
two_columns c i = left c i ∷ right c i ∷ []

abbrev pub PairsListed : (ℕ → Bool) → (ℕ → Bool) → Columns → Type 0
PairsListed legal_left legal-right c = Listed c.size (LegalPair legal_left legal-right c) (two_columns c)

-- the state list; document 02, (iv): a third number is a call row or R, and "The list ascends in the three columns."
pub record LegalState (p : Program) (t : Tables) (i : ℕ) : Type 0 where
  pub class : is_class_of p (left t.states i) ≡ true
  pub head : is_head_of (tag p (right t.states i)) ≡ true
  pub return : (tag p (get_or t.returns i 0) ≡ 4) ⊎ (get_or t.returns i 0 ≡ size p)

abbrev pub three_columns : Tables → ℕ → Key
three_columns t i = left t.states i ∷ right t.states i ∷ get_or t.returns i 0 ∷ []

abbrev pub StatesListed : Program → Tables → Type 0
StatesListed p t = Listed t.states.size (LegalState p t) (three_columns t)

-- "the rest of the message is in form"
pub record InForm (m : Message) : Type 0 where
  pub bads : first_wrong_of (bad_step m.program) m.bads (replicate m.sizes.bads bad) ≡ none
  pub flow : PairsListed (is_name m.program) (is_value_of m.program) m.tables.flow
  pub mail : PairsListed (is_class_of m.program) (is_value_of m.program) m.tables.mail
  pub states : StatesListed m.program m.tables
  pub ceilings :
      first_wrong_of (ceiling_step m.ceilings.counters) (ceiling_entries m.words m.sizes)
      (ceilings_ahead m.sizes.ceilings) ≡ none
  pub weights :
      first_wrong_of (weight_step m.lines.counters) (weight_entries m.words m.sizes)
      (lines_ahead m.sizes.lines) ≡ none

-- Document 02, (v): a message is held to its ceilings where it has no lines of weights, else to these.
abbrev pub ByCeilings : Message → Type 0
ByCeilings m = m.sizes.lines ≡ 0

abbrev pub ByWeights : Message → Type 0
ByWeights m = 1 ≤ m.sizes.lines

-- "Counts lie under a ceiling when each is at most its limit there, or that is unbounded"
abbrev pub Under : Ceilings → ℕ → Marking → Type 0
Under bs k m = (x : ℕ) → x < bs.counters → (bs.limit k x ≡ omega_limit) ⊎ (m x ≤ bs.limit k x)

-- under one of the ceilings
abbrev pub UnderOne : Ceilings → Marking → Type 0
UnderOne bs m = (k : ℕ) × (k < bs.size) × Under bs k m

-- bad number j is met by the counts
abbrev pub Met : Message → Marking → ℕ → Type 0
Met m counts j = AllMet (sum_in m.program m.tables counts) m.bads j

-- "the counts under the ceilings contain the start, are kept by each derived rule and meet no named bad count"
pub record Inductive (m : Message) : Type 0 where
  pub contain_start : UnderOne m.ceilings (initial m.program m.tables)
  pub kept :
      (counts : Marking) (ρ : Rule) → UnderOne m.ceilings counts → Memᴰ ρ (rules m.program m.tables) →
      usable ρ counts ≡ true → UnderOne m.ceilings (fire ρ counts)
  pub meet_no_bad :
      (counts : Marking) (j : ℕ) → UnderOne m.ceilings counts → j < m.sizes.bads → Met m counts j → ⊥

-- the weighed sum of the counts in line k
abbrev pub line_sum : Message → ℕ → Marking → ℕ
line_sum m k counts = weighed m.lines.counters (m.lines.weight k) counts

-- "some line must weigh its minimums above the start": one line whose sum is above the start's for all counts that meet
-- bad j
abbrev pub Settled : Message → ℕ → Type 0
Settled m j =
    (k : ℕ) × (k < m.lines.size) ×
    ((counts : Marking) → Met m counts j → line_sum m k (initial m.program m.tables) < line_sum m k counts)

-- Document 02, (v): "The change a rule makes to a weighed sum ... must not be above zero. For each bad, some line must
-- weigh its minimums above the start."
pub record Weighed (m : Message) : Type 0 where
  pub never_rise :
      (k : ℕ) → k < m.lines.size → (counts : Marking) (ρ : Rule) → Memᴰ ρ (rules m.program m.tables) →
      usable ρ counts ≡ true → line_sum m k (fire ρ counts) ≤ line_sum m k counts
  pub settled : (j : ℕ) → j < m.sizes.bads → Settled m j

-- the clause on the ceilings, and the one in place of it
pub record Evidence (m : Message) : Type 0 where
  pub bounded : ByCeilings m → Inductive m
  pub weighed : ByWeights m → Weighed m

-- Document 02, (x): the value of mail entry i "has tag 3 or 11"
abbrev pub MailsFunction : Program → Tables → ℕ → Type 0
MailsFunction p t i = (tag p (right t.mail i) ≡ tag_function) ⊎ (tag p (right t.mail i) ≡ tag_global)

-- messages that have one "are never found safe, which demand 2 now asks too"
abbrev pub MailsNoFunction : Program → Tables → Type 0
MailsNoFunction p t = (i : ℕ) → i < t.mail.size → MailsFunction p t i → ⊥

-- everything that a safe message has
pub record Sound (most : Limits) (bytes : List ℕ) (lent : ℕ) : Type 0 where
  pub whole : length bytes ≡ 2 * end_of (message bytes).sizes
  pub limits : WithinLimits most (message bytes).sizes
  pub program : WellFormed (message bytes).program
  pub form : InForm (message bytes)
  pub closed : Closed (message bytes).program (message bytes).tables
  pub mailed : MailsNoFunction (message bytes).program (message bytes).tables
  pub counters : counter_count (message bytes).program (message bytes).tables ≤ most.counters
  pub evidence : Evidence (message bytes)
  pub space : length (system_words (message bytes).program (message bytes).tables) ≤ lent

abbrev pub SafeExactly : Type 0
SafeExactly =
    (most : Limits) (bytes : List ℕ) (lent : ℕ) → Bytes bytes →
    (verdict_within most bytes lent ≡ Safe) ↔ Sound most bytes lent

-- "The system written is then the one that the analysis defines": its words, and behind them those that were there
abbrev pub SystemWritten : Type 0
SystemWritten =
    (most : Limits) (bytes lent : List ℕ) → verdict_within most bytes (length lent) ≡ Safe →
    lent_after_within most bytes lent ≡ written (system_words (message bytes).program (message bytes).tables) lent

-- Demand 3: "the station's run and the counters' run"

-- one rule for a step made, none for a number that makes none
pub data Matches (system : List Rule) : Option Processes → Option Rule → Type 0 where
  made : (qs : Processes) (ρ : Rule) → Memᴰ ρ system → Matches system (some qs) (some ρ)
  not_made : Matches system none none

-- the rules used, without the places where none was
unfoldable pub used : List (Option Rule) → List Rule
used [] = []
used (none ∷ os) = used os
used (some ρ ∷ os) = ρ ∷ used os

-- "the two have equal counts: of processes in each class and place, and of messages of each letter in each class's
-- mailboxes"; document 02, (iv): "Station and counters share counts per triple", class, place and the call returned to
pub record EqualCounts (m : Message) (qs : Processes) (counts : Marking) : Type 0 where
  pub processes : (s : State) → processes_at m.program qs s ≡ count_in m.program m.tables counts (state_of s)
  pub messages : (c : ℕ) (l : Letter) →
      messages_of m.program qs c l ≡ count_in m.program m.tables counts (letter_of c l)

-- after some numbers of a list: the rules used so far are a run, and its counts are those of the station, under one
-- ceiling, meeting no bad; document 02, (v): "the clause about ceilings is then about sums never rising", here above
-- the start's
pub record Together (m : Message) (numbers : List ℕ) (options : List (Option Rule)) : Type 0 where
  pub counts : Marking
  pub is_run : fire_all (used options) (initial m.program m.tables) ≡ some counts
  pub equal : EqualCounts m (run m.program numbers) counts
  pub bounded : ByCeilings m → UnderOne m.ceilings counts
  pub not_above :
      ByWeights m → (l : ℕ) → l < m.lines.size →
      line_sum m l counts ≤ line_sum m l (initial m.program m.tables)
  pub no_bad : (j : ℕ) → j < m.sizes.bads → Met m counts j → ⊥

-- the whole list, with its rules: at the start and after each number
pub record Followed (m : Message) (system : List Rule) (numbers : List ℕ) (options : List (Option Rule)) : Type 0 where
  pub as_long : length options ≡ length numbers
  pub each_step :
      (k : ℕ) → k < length numbers →
      Matches system (step_of m.program (run m.program (take k numbers)) (get_or numbers k 0))
      (get_or options k none)
  pub throughout : (k : ℕ) → k ≤ length numbers → Together m (take k numbers) (take k options)
  -- document 02, (v): "sums never rising": after each number no line's sum is above what it was after any before, or at
  -- the start
  pub never_risen :
      ByWeights m → (j k : ℕ) → j ≤ k → (before : j ≤ length numbers) (now : k ≤ length numbers) → (l : ℕ) →
      l < m.lines.size → line_sum m l (throughout k now).counts ≤ line_sum m l (throughout j before).counts

-- Every list of process numbers has its rules of the written words; a longer list's rules go on from a shorter one's.
pub record AllRunsFollowed (m : Message) (system : List Rule) : Type 0 where
  pub rules_for : List ℕ → List (Option Rule)
  pub goes_on : (numbers more : List ℕ) → take (length numbers) (rules_for (numbers ++ more)) ≡ rules_for numbers
  pub followed : (numbers : List ℕ) → Followed m system numbers (rules_for numbers)

abbrev pub RunsStayCounted : Type 0
RunsStayCounted =
    (most : Limits) (bytes lent : List ℕ) → Bytes bytes → verdict_within most bytes (length lent) ≡ Safe →
    AllRunsFollowed (message bytes) (listed_rules (lent_after_within most bytes lent))
