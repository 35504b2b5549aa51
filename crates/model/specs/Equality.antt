-- Document 02, (iii), "A held name in a pattern": what is promised of equality, of matching and of scopes, as types.
use Rattle.std.specs.Prelude.{ℕ, ◌≤◌, ◌<◌, ◌≡◌, true, false, ◌↔◌, ◌⊎◌}
use mathlib.Core.List.{List, Memᴰ}
use Rattle.std.proofs.Math.Option.{some, none}
use Rattle.std.proofs.Math.ListN.{get_elem?}
use Rattle.model.specs.declared.Verdict.TheVariants.{Safe}
use Rattle.model.specs.Limits.{Limits}
use Rattle.model.specs.Rows.{Program, size, tag, row_check_of}
use Rattle.model.specs.Scopes.{binds, in_scope}
use Rattle.model.specs.Heads.{head_at, cases, receives, branch_body_of}
use Rattle.model.specs.Values.{Value, closure, built, Bindings, bind, equal, Process}
use Rattle.model.specs.Run.{run}
use Rattle.model.specs.Letters.{value_letter, state_in}
use Rattle.model.specs.Patterns.{Holds, Match}
use Rattle.model.specs.Tables.{Tables}
use Rattle.model.specs.Rules.{letters_read}
use Rattle.model.specs.Wanted.{MayTake}
use Rattle.model.specs.Verify.{message, verdict_within}
use Rattle.model.specs.Demands.{Bytes}

-- a value that holds a function: it is one, or one of its arguments holds one
mutual
  pub data HoldsFunction : Value → Type 0 where
    is_one : {f : ℕ} {held : Bindings} → HoldsFunction (closure f held)
    inside : {r k : ℕ} {vs : Bindings} → SomeFunction vs → HoldsFunction (built r k vs)

  pub data SomeFunction : Bindings → Type 0 where
    this_one : {n : ℕ} {v : Value} {vs : Bindings} → HoldsFunction v → SomeFunction (bind n v vs)
    a_later : {n : ℕ} {v : Value} {vs : Bindings} → SomeFunction vs → SomeFunction (bind n v vs)

pub record EqualityLaws : Type 0 where
  -- equal values have equal letters
  pub letters : (p : Program) (v w : Value) → equal v w ≡ true → value_letter p v ≡ value_letter p w
  -- it does not matter which of the two is the held one
  pub symmetric : (v w : Value) → equal v w ≡ equal w v
  -- "functions are never equal": a value that holds one is equal to none, itself not excepted
  pub functions : (v w : Value) → HoldsFunction v → equal v w ≡ false
  -- and any other is equal to itself
  pub itself : (v : Value) → (equal v v ≡ true) ↔ (HoldsFunction v → ⊥)

-- a value of the tables for the value of the run: the branch at row b may take it in the process's state, and reads the
-- letter of the value of the run
abbrev pub ProcessMayTake : Program → Tables → Process → ℕ → Value → Type 0
ProcessMayTake p t q b v = (u : ℕ) × MayTake p t (state_in p q) b u × Memᴰ (value_letter p v) (letters_read p t b u)

-- What matches in a run may match in the tables: of each process of a run, each branch, at a case or a receive.
pub record MatchesMay (p : Program) (t : Tables) (q : Process) : Type 0 where
  pub at_case : (n b : ℕ) (bs : List ℕ) (v : Value) (held' : Bindings) →
      head_at p q.location ≡ cases n bs →
      Memᴰ b bs →
      Holds p q.held n v →
      Match p q.held b v held' →
      ProcessMayTake p t q b v
  pub at_receive : (b : ℕ) (bs : List ℕ) (v : Value) (held' : Bindings) →
      head_at p q.location ≡ receives bs →
      Memᴰ b bs →
      Memᴰ v q.mailbox →
      Match p q.held b v held' →
      ProcessMayTake p t q b v

abbrev pub AllMatchesMay : Type 0
AllMatchesMay =
    (most : Limits) (bytes : List ℕ) (lent : ℕ) → Bytes bytes → verdict_within most bytes lent ≡ Safe →
    (numbers : List ℕ) (i : ℕ) (q : Process) → get_elem? (run (message bytes).program numbers) i ≡ some q →
    MatchesMay (message bytes).program (message bytes).tables q

-- "Names read so must be in scope at the case or receive itself": in rows that fit, a name bound at row b holds at a
-- row k of a branch's pattern exactly where it holds at the case or receive at row r. So `uses` has tag 33 with the
-- others, and refusal 5 asks of a held name what it asks of every name read.
abbrev pub HeldScopes : Type 0
HeldScopes =
    (p : Program) → row_check_of p ≡ none → (r : ℕ) (qs : List ℕ) → r < size p →
    ((n : ℕ) × (head_at p r ≡ cases n qs)) ⊎ (head_at p r ≡ receives qs) →
    (q k : ℕ) → Memᴰ q qs → q ≤ k → k < branch_body_of p q →
    (b : ℕ) → b < size p → binds (tag p b) ≡ true →
    in_scope p b k ≡ in_scope p b r
