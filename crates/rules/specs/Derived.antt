-- What the rules of a state are read from: tables made once, and two lists for the rules.
use Rattle.std.specs.Prelude.{ℕ, ◌+◌, ◌*◌, ◌≤◌, ◌<◌, ◌≡◌, true, ◌↔◌, length, get_or}
use mathlib.Core.List.{List, Memᴰ}
use Rattle.std.proofs.Math.Option.{none}
use Rattle.bits.specs.Bits.{member}
use Rattle.model.specs.declared.Sizes.{Sizes}
use Rattle.model.specs.Limits.{max_branches, max_counters}
use Rattle.model.specs.Words.{left, right}
use Rattle.model.specs.Rows.{Program, program, tag}
use Rattle.model.specs.Tables.{Tables, tables, has, each}
use Rattle.model.specs.Closed.{open_check}
use Rattle.model.specs.Counters.{letter_count_of, counter_count}
use Rattle.model.specs.Rules.{from_each, letters_read}
use Rattle.lists.specs.Lists.{Starts}
use Rattle.lists.specs.Ready.{Ready}
use Rattle.layout.specs.Tables.{Ends}
use Rattle.positions.specs.Branches.{BranchBits}
use Rattle.values.specs.Values.{width}
use Rattle.matching_names.specs.Names.{FittingSets}
use Rattle.system_letters.specs.Letters.{NameHeads, ClassLetters, LetterSets, letter_width_of, allowed_set}
use Rattle.system_letters.specs.Letters.{class_at, letter_at_of}

-- No state has more rules: a give back has one for each state at most, a call or spawn one for each value of a name, a
-- send one for each letter counter, a receive one for each branch and letter.
pub record RuleRoom (ws : List ℕ) (s : Sizes) (tos others : List ℕ) : Type 0 where
  pub values : s.rows < length tos
  pub letters : max_branches * letter_count_of (program ws s) (tables ws s) ≤ length tos
  pub counters : max_counters ≤ length tos
  pub alike : length others ≡ length tos

-- Behind the sets of letters by digit and by mail entry there is one for each state, and behind all sets a word for
-- each state, which tells whose letters are kept there.
unfoldable pub read_set : Program → Tables → ℕ → ℕ
read_set p t x = allowed_set p t.mail.size + x

unfoldable pub owner_at : Program → Tables → ℕ → ℕ
owner_at p t x = read_set p t t.states.size * letter_width_of p t + x

-- Where the word of state x is q + 1, its set has the letters of its class that the branch reads whose pattern stands
-- at row q. Nothing is said where the word is another: what is not kept is derived.
pub record Reads (p : Program) (t : Tables) (letters : List ℕ) : Type 0 where
  pub room : owner_at p t t.states.size ≤ length letters
  pub has : (x q y : ℕ) → x < t.states.size → y < letter_count_of p t → get_or letters (owner_at p t x) 0 ≡ q + 1 →
      (member letters (letter_width_of p t) (read_set p t x) y ≡ true) ↔
      ((class_at p t y ≡ left t.states x) ×
      Memᴰ (letter_at_of p t y) (from_each t.mail (left t.states x) (letters_read p t q)))

-- The counters are within their limit, and the tables are those of the letters: where those of each class start, and
-- the sets of them by digit and by mail entry.
pub record LetterTables (ws : List ℕ) (s : Sizes) (letter_at_of letters : List ℕ) : Type 0 where
  pub ready : Ready ws s
  pub few : counter_count (program ws s) (tables ws s) ≤ max_counters
  pub class_letters : ClassLetters (program ws s) (tables ws s) letter_at_of
  pub letter_sets_of : LetterSets (program ws s) (tables ws s) letters

-- The letters that a send puts are read from these tables: the values of its message are found by name.
pub record SentTables (ws : List ℕ) (s : Sizes) (flow-at letter_at_of letters : List ℕ) : Type 0 where
  pub letter_tables : LetterTables ws s letter_at_of letters
  pub flow_starts : Starts (tables ws s).flow s.names flow-at

-- The values of the name m are in the mail of d.
pub record SentTo (ws : List ℕ) (s : Sizes) (m d : ℕ) : Type 0 where
  pub name : m < s.names
  pub mailed : each (tables ws s).flow m (has (tables ws s).mail d) ≡ true

-- State i stands at row r, whose tag is k.
pub record StateHead (ws : List ℕ) (s : Sizes) (i r k : ℕ) : Type 0 where
  pub low : i < s.states
  pub row : r ≡ right (tables ws s).states i
  pub head : tag (program ws s) r ≡ k

-- The checks up to refusal 9 found nothing, and the tables are those of the message.
pub record RuleTables (ws : List ℕ) (s : Sizes) (afters flow-at : List ℕ) (w : ℕ)
    (fitting names letter_at_of letters branches : List ℕ) : Type 0 where
  pub ready : Ready ws s
  pub closed : open_check s (program ws s) (tables ws s) ≡ none
  pub few : counter_count (program ws s) (tables ws s) ≤ max_counters
  pub ends : Ends (program ws s) afters
  pub flow_starts : Starts (tables ws s).flow s.names flow-at
  pub name_width : w ≡ width s.names
  pub fitting_sets_of : FittingSets (program ws s) (tables ws s) fitting
  pub name_heads : NameHeads (program ws s) (tables ws s) names
  pub class_letters : ClassLetters (program ws s) (tables ws s) letter_at_of
  pub letter_sets_of : LetterSets (program ws s) (tables ws s) letters
  pub reads : Reads (program ws s) (tables ws s) letters
  pub branch_bits : BranchBits (program ws s) (tables ws s) branches
