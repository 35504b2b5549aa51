-- Document 02, (xi), "No empty name": "for every program that passes 1 to 5, safe or not: in no run does a process read
-- a name that holds nothing, whether in an expression, a kept function or a held-name pattern"; as types.
use Rattle.std.specs.Prelude.{ℕ, ◌+◌, ◌≤◌, ◌<◌, ◌≡◌, true, ◌↔◌, ◌⊎◌, length}
use mathlib.Core.List.{List, [], Memᴰ}
use Rattle.std.proofs.Math.Option.{some, none}
use Rattle.std.proofs.Math.ListN.{get_elem?}
use Rattle.model.specs.Limits.{Limits}
use Rattle.model.specs.Verdict.{number}
use Rattle.model.specs.Rows.{Program, size, tag, num, body_form_of, past_items}
use Rattle.model.specs.Scopes.{uses, binds_name}
use Rattle.model.specs.Heads.{Head, head_at, branch_body_of}
use Rattle.model.specs.Heads.{gives, builds, makes, calls, sends, spawns, selfs, cases, receives, no_head}
use Rattle.model.specs.Values.{Value, closure, built, Bindings, empty, bind, Frame, Process}
use Rattle.model.specs.Patterns.{RowAt, Holds}
use Rattle.model.specs.Run.{step_of, run}
use Rattle.model.specs.Transitions.{read_at, Stays}
use Rattle.model.specs.Verify.{message, program_check, verdict_within}

-- "every program that passes 1 to 5": the columns have a tag and a number for each row, which 1 and 2 ask of a message,
-- and 3 to 5 refuse nothing
pub record Passes (p : Program) : Type 0 where
  pub tags : length p.rows.lefts ≡ size p
  pub numbers : length p.rows.rights ≡ size p
  pub checks : program_check p ≡ none

-- the name holds something
abbrev pub HoldsSomething : Program → Bindings → ℕ → Type 0
HoldsSomething p held n = (v : Value) × Holds p held n v

-- the pattern rows of the branches at a head
abbrev pub branches_at : Head → List ℕ
branches_at (gives n) = []
branches_at (builds n k ns r) = []
branches_at (makes n r) = []
branches_at (calls call) = []
branches_at (sends n t m r) = []
branches_at (spawns n g r) = []
branches_at (selfs n r) = []
branches_at (cases n branches) = branches
branches_at (receives branches) = branches
branches_at no_head = []

-- The name n is read by a process that acts at row r: "in an expression", or "a held-name pattern" of a branch, taken
-- or not.
pub data Reads (p : Program) (r n : ℕ) : Type 0 where
  in_expression : Memᴰ n (read_at (head_at p r)) → Reads p r n
  in_pattern : {b k : ℕ} →
      Memᴰ b (branches_at (head_at p r)) → b ≤ k → k < branch_body_of p b → RowAt p k 33 n → Reads p r n

-- The function at row f reads the name n from outside: a row of its body form reads it, and none binds it.
pub record ReadsFromOutside (p : Program) (f n : ℕ) : Type 0 where
  pub row : ℕ
  pub from : f < row
  pub upto : row < past_items p body_form_of (f + 1)
  pub reads : uses (tag p row) ≡ true
  pub named : num p row ≡ n
  pub unbound : (b : ℕ) → f < b → b < past_items p body_form_of (f + 1) → binds_name p n b ≡ true → ⊥

-- "a kept function": the value is the function of row f with these bindings, or keeps it, however deep
mutual
  pub data Keeps (f : ℕ) (kept : Bindings) : Value → Type 0 where
    the_function : Keeps f kept (closure f kept)
    in_bindings : {g : ℕ} {held : Bindings} → SomeKeeps f kept held → Keeps f kept (closure g held)
    in_arguments : {r k : ℕ} {vs : Bindings} → SomeKeeps f kept vs → Keeps f kept (built r k vs)

  pub data SomeKeeps (f : ℕ) (kept : Bindings) : Bindings → Type 0 where
    the_newest : {n : ℕ} {v : Value} {held : Bindings} → Keeps f kept v → SomeKeeps f kept (bind n v held)
    an_older : {n : ℕ} {v : Value} {held : Bindings} → SomeKeeps f kept held → SomeKeeps f kept (bind n v held)

-- anywhere in a process: in its bindings, in those of its pushed calls, in its mailbox
pub data KeptIn (q : Process) (f : ℕ) (kept : Bindings) : Type 0 where
  bound : SomeKeeps f kept q.held → KeptIn q f kept
  pushed : {frame : Frame} → Memᴰ frame q.frames → SomeKeeps f kept frame.held → KeptIn q f kept
  mailed : {v : Value} → Memᴰ v q.mailbox → Keeps f kept v → KeptIn q f kept

-- Of a process: each name that its next act reads holds something, and each name that a function kept anywhere in it
-- reads from outside holds something in what the function keeps.
pub record NoNameEmpty (p : Program) (q : Process) : Type 0 where
  pub next_act : (n : ℕ) → Reads p q.location n → HoldsSomething p q.held n
  pub functions : (f : ℕ) (kept : Bindings) → KeptIn q f kept →
      (n : ℕ) → ReadsFromOutside p f n → HoldsSomething p kept n

-- The promise. A list of numbers is any list, a process any of its run.
pub record NoEmptyName : Type 0 where
  pub processes : (p : Program) → Passes p → (numbers : List ℕ) (i : ℕ) (q : Process) →
      get_elem? (run p numbers) i ≡ some q → NoNameEmpty p q
  -- the function that a tag 11 name yields reads nothing from outside but "such names"
  pub named_functions : (p : Program) → Passes p → (f m : ℕ) → RowAt p f 11 m →
      (n : ℕ) → ReadsFromOutside p f n → HoldsSomething p empty n
  -- so a number changes nothing exactly for a reason that document 01 gives
  pub reasons : (p : Program) → Passes p → (numbers : List ℕ) (i : ℕ) →
      (step_of p (run p numbers) i ≡ none) ↔ Stays p (run p numbers) i
  -- and the program of a message whose number is 0 or above 5, safe or not, is such a program
  pub messages : (most : Limits) (bytes : List ℕ) (lent : ℕ) →
      (number (verdict_within most bytes lent) ≡ 0) ⊎ (5 < number (verdict_within most bytes lent)) →
      Passes (message bytes).program
