-- Document 02, (viii), "Letters two deep", said outright: which letters a value of the tables allows and a branch
-- reads, which have counters and in what order, which rules a send and a receive have for them. (Counters.antt and
-- Rules.antt say the same as lists.)
use Rattle.std.specs.Prelude.{ℕ, ◌+◌, ◌-◌, ◌≤◌, ◌<◌, ◌≡◌, true, ◌↔◌, length, get_or, leb}
use mathlib.Core.List.{List, [], ◌∷◌, Memᴰ}
use Rattle.std.proofs.Math.Option.{some}
use Rattle.std.proofs.Math.ListN.{get_elem?}
use Rattle.model.specs.declared.Verdict.TheVariants.{Safe}
use Rattle.model.specs.Limits.{Limits, max_depth}
use Rattle.model.specs.Rows.{Program, tag, num, arity}
use Rattle.model.specs.Heads.{head_at, sends, receives, branch_body_of, is_class_of}
use Rattle.model.specs.Letters.{row_head_of, value_letter, Letter}
use Rattle.model.specs.Values.{Value, Process}
use Rattle.model.specs.Run.{run}
use Rattle.model.specs.Tables.{Tables, State, onward, state_index_of}
use Rattle.model.specs.Closed.{argument, subpattern}
use Rattle.model.specs.Counters.{counter_count, letter_of, counter_of, letter_index, letters_allowed}
use Rattle.model.specs.Counters.{counters_within}
use Rattle.model.specs.Rules.{Rule, rule, reads, puts, state_rules_of}
use Rattle.model.specs.Wanted.{Member, MayMatch}
use Rattle.model.specs.Verify.{message, verdict_within}
use Rattle.model.specs.Demands.{Bytes, Below}
use Rattle.model.specs.Refusals.{Passed}

-- "A letter becomes a constructor with the heads of its arguments ...; C and C+1 stay letters": a letter of the value v
-- of the tables. Each argument, "by its name alone", has a value of that head, and argument i may be w where that
-- passes.
pub data LetterOf (p : Program) (t : Tables) (Passes : ℕ → ℕ → Type 0) (v : ℕ) : Letter → Type 0 where
  with_heads :
      (hs : List ℕ) → tag p v ≡ 2 → length hs ≡ arity p (num p (v + 1)) →
      ((i : ℕ) → i < length hs →
      (w : ℕ) × Member t.flow (argument p v i) w × ((row_head_of p w ≡ get_or hs i 0) × Passes i w)) →
      LetterOf p t Passes v (num p (v + 1) ∷ hs)
  alone : (tag p v ≡ 2 → ⊥) → LetterOf p t Passes v (row_head_of p v ∷ [])

-- "that a mail value's arguments, each by its name alone, allow"
abbrev pub Allows : Program → Tables → ℕ → Letter → Type 0
Allows p t v l = LetterOf p t (λ i w. Unit {0}) v l

-- "A branch reads a letter if some message of it that mail allows may match": the pattern at row q, of one value v
abbrev pub Reads : Program → Tables → ℕ → ℕ → Letter → Type 0
Reads p t q v l =
    MayMatch p t max_depth q v ×
    LetterOf p t (λ i w. tag p q ≡ 31 → MayMatch p t (max_depth - 1) (subpattern p max_depth q i) w) v l

-- "A send has a rule for each class its target may be and each letter that a value of its message allows."
pub record SendRule (p : Program) (t : Tables) (i : ℕ) (s : State) (target message r : ℕ) (ρ : Rule) : Type 0 where
  pub class : ℕ
  pub value : ℕ
  pub letter : Letter
  pub to_class : Member t.flow target class
  pub is_one : is_class_of p class ≡ true
  pub may_be : Member t.flow message value
  pub allows : Allows p t value letter
  pub is : ρ ≡ rule i (state_index_of t (onward s r)) (puts (letter_index p t class letter))

-- a receive has one for each branch and each letter that it reads
pub record ReceiveRule (p : Program) (t : Tables) (i : ℕ) (s : State) (qs : List ℕ) (ρ : Rule) : Type 0 where
  pub branch : ℕ
  pub value : ℕ
  pub letter : Letter
  pub listed : Memᴰ branch qs
  pub mailed : Member t.mail s.class value
  pub read : Reads p t branch value letter
  pub is : ρ ≡ rule i (state_index_of t (onward s (branch_body_of p branch))) (reads (letter_index p t s.class letter))

-- what the request says of counters and rules
pub record TwoDeep (p : Program) (t : Tables) : Type 0 where
  -- "Each distinct letter that a mail value's arguments ... allow has a counter", and no other has
  pub counted : (c : ℕ) (l : Letter) →
      ((x : ℕ) × (counter_of p t (letter_of c l) ≡ some x)) ↔ ((v : ℕ) × (Member t.mail c v × Allows p t v l))
  -- "ordered by class, constructor, then heads from the left", behind the states and without gaps
  pub ordered : (c : ℕ) (l : Letter) (d : ℕ) (k : Letter) (x y : ℕ) →
      counter_of p t (letter_of c l) ≡ some x → counter_of p t (letter_of d k) ≡ some y →
      Below (c ∷ l) (d ∷ k) ↔ (x < y)
  pub numbered : (x : ℕ) →
      ((t.states.size ≤ x) × (x < counter_count p t)) ↔
      ((c : ℕ) × ((l : Letter) × (counter_of p t (letter_of c l) ≡ some x)))
  pub sent : (i : ℕ) (s : State) (n target message r : ℕ) → head_at p s.location ≡ sends n target message r →
      (ρ : Rule) → Memᴰ ρ (state_rules_of p t i s) ↔ SendRule p t i s target message r ρ
  pub received : (i : ℕ) (s : State) (qs : List ℕ) → head_at p s.location ≡ receives qs →
      (ρ : Rule) → Memᴰ ρ (state_rules_of p t i s) ↔ ReceiveRule p t i s qs ρ
  -- "Refusal 9 counts the new letters": as the check finds it, without listing them where they are many
  pub within : (most : ℕ) → counters_within most p t ≡ leb (counter_count p t) most
  -- a value without arguments has one letter, its head: where all messages are so, letters are what they were
  pub without_arguments : (v : ℕ) → (tag p v ≡ 2 → arity p (num p (v + 1)) ≡ 0) →
      letters_allowed p t v ≡ (row_head_of p v ∷ []) ∷ []

-- of every message that passes 1 to 8 and 22
abbrev pub LettersTwoDeep : Type 0
LettersTwoDeep =
    (most : Limits) (bytes : List ℕ) → Passed most bytes 9 → TwoDeep (message bytes).program (message bytes).tables

-- in every run of a safe message, each message in a mailbox is of a letter that a value of its class's mail allows
abbrev pub MessagesAllowed : Type 0
MessagesAllowed =
    (most : Limits) (bytes : List ℕ) (lent : ℕ) → Bytes bytes → verdict_within most bytes lent ≡ Safe →
    (numbers : List ℕ) (i : ℕ) (q : Process) → get_elem? (run (message bytes).program numbers) i ≡ some q →
    (v : Value) → Memᴰ v q.mailbox →
    (u : ℕ) × (Member (message bytes).tables.mail q.class u ×
    Allows (message bytes).program (message bytes).tables u (value_letter (message bytes).program v))
