-- Document 01, "How a station runs", said outright: each sentence is a way to make a step, each reason one to make
-- none. (Run.antt says the same as a function.)
use Rattle.std.specs.Prelude.{ℕ, ◌+◌, ◌≤◌, ◌<◌, ◌↔◌, ◌⊎◌, ◌≡◌, length, set}
use mathlib.Core.List.{List, [], ◌∷◌, ◌++◌, Memᴰ}
use Rattle.std.proofs.Math.Option.{some, none}
use Rattle.std.proofs.Math.ListN.{get_elem?}
use Rattle.model.specs.Rows.{Program, size, tag, num}
use Rattle.model.specs.Heads.{Call, Head, call_at, head_at, parameters, body, branch_body_of, start}
use Rattle.model.specs.Heads.{gives, builds, makes, calls, sends, spawns, selfs, cases, receives, no_head}
use Rattle.model.specs.Values.{Value, closure, built, address, Bindings, empty, bind}
use Rattle.model.specs.Values.{Frame, Process, process, Processes}
use Rattle.model.specs.Run.{step_of, run}
use Rattle.model.specs.Patterns.{Holds, HoldEach, Refuses, FirstBranch, MatchingExactly}

-- "A step is one process acting at its head, which is its place": process i is q, at the head h
pub record Acting (p : Program) (qs : Processes) (i : ℕ) (q : Process) (h : Head) : Type 0 where
  pub there : get_elem? qs i ≡ some q
  pub head : head_at p q.location ≡ h

-- row f is a function with n parameters
abbrev pub Takes : Program → ℕ → ℕ → Type 0
Takes p n f = ((tag p f ≡ 3) ⊎ (tag p f ≡ 11)) × (num p (f + 1) ≡ n)

-- a value that can be called with n arguments
abbrev pub Callable : Program → ℕ → Value → Type 0
Callable p n v = (f : ℕ) × (kept : Bindings) × (v ≡ closure f kept) × Takes p n f

-- Each parameter is bound to the argument in its place, in front of the bindings. (A call in a program that passes 3
-- has as many of both.)
pub data BoundTo (held : Bindings) : List ℕ → Bindings → Bindings → Type 0 where
  no_parameters : {vs : Bindings} → BoundTo held [] vs held
  no_arguments : {n : ℕ} {ns : List ℕ} → BoundTo held (n ∷ ns) empty held
  one_parameter : {n m : ℕ} {v : Value} {ns : List ℕ} {vs held' : Bindings} →
      BoundTo held ns vs held' → BoundTo held (n ∷ ns) (bind m v vs) (bind n v held')

-- Process i makes a step, and these are the processes then.
pub data Step (p : Program) (qs : Processes) (i : ℕ) : Processes → Type 0 where
  -- "a built value [keeps] its row, constructor and arguments"
  builds_value : {q : Process} {n k r : ℕ} {ns : List ℕ} {vs : Bindings} →
      Acting p qs i q (builds n k ns r) →
      HoldEach p q.held ns vs →
      Step p qs i (set qs i
      (process q.class r (bind n (built q.location k vs) q.held) q.frames q.mailbox))
  -- "A function value keeps its row and bindings"
  makes_function : {q : Process} {n r : ℕ} →
      Acting p qs i q (makes n r) →
      Step p qs i (set qs i
      (process q.class r (bind n (closure q.location q.held) q.held) q.frames q.mailbox))
  -- "Self yields the own address."
  yields_self : {q : Process} {n r : ℕ} →
      Acting p qs i q (selfs n r) →
      Step p qs i (set qs i (process q.class r (bind n (address i) q.held) q.frames q.mailbox))
  -- "A call pushes the call with its bindings and enters the body with the function's bindings and the arguments"
  calls_function : {q : Process} {call : Call} {f : ℕ} {kept vs held' : Bindings} →
      Acting p qs i q (calls call) →
      Holds p q.held call.callee (closure f kept) →
      Takes p call.count f →
      HoldEach p q.held call.arguments vs →
      BoundTo kept (parameters p f) vs held' →
      Step p qs i (set qs i
      (process q.class (body p f) held' (record { call = q.location; held = q.held } ∷ q.frames) q.mailbox))
  -- "giving back pops it and binds the call's name, at the call's rest"
  gives_back : {q : Process} {n : ℕ} {v : Value} {pushed : Frame} {frames : List Frame} →
      Acting p qs i q (gives n) →
      Holds p q.held n v →
      q.frames ≡ pushed ∷ frames →
      Step p qs i (set qs i
      (process q.class (call_at p pushed.call).rest (bind (call_at p pushed.call).name v pushed.held)
      frames q.mailbox))
  -- "Send puts the message last in the target's mailbox and yields it." The sender, gone on, may be the target.
  sends_message : {q t : Process} {n target message r j : ℕ} {v : Value} {sent : Processes} →
      Acting p qs i q (sends n target message r) →
      Holds p q.held target (address j) →
      Holds p q.held message v →
      sent ≡ set qs i (process q.class r (bind n v q.held) q.frames q.mailbox) →
      get_elem? sent j ≡ some t →
      Step p qs i (set sent j (process t.class t.location t.held t.frames (t.mailbox ++ v ∷ [])))
  -- "Spawn yields the address of a new process, whose class is the spawn row, at the function's body with its
  -- bindings, nothing pushed and its mailbox empty." "Processes are numbered, 0 the start, then as spawned."
  spawns_process : {q : Process} {n g r f : ℕ} {kept : Bindings} →
      Acting p qs i q (spawns n g r) →
      Holds p q.held g (closure f kept) →
      Takes p 0 f →
      Step p qs i (set qs i
      (process q.class r (bind n (address (length qs)) q.held) q.frames q.mailbox) ++
      process q.location (body p f) kept [] [] ∷ [])
  -- "a case takes its first matching branch"
  takes_branch : {q : Process} {n b : ℕ} {branches : List ℕ} {v : Value} {held' : Bindings} →
      Acting p qs i q (cases n branches) →
      Holds p q.held n v →
      FirstBranch p q.held branches v b held' →
      Step p qs i (set qs i (process q.class (branch_body_of p b) held' q.frames q.mailbox))
  -- "A receive takes the earliest message that any branch matches, and the first such branch": no branch matches a
  -- message before it, and the others stay in order
  takes_message : {q : Process} {branches : List ℕ} {b : ℕ} {held' : Bindings}
      (before behind : List Value) (v : Value) →
      Acting p qs i q (receives branches) →
      q.mailbox ≡ before ++ v ∷ behind →
      ((m : Value) → Memᴰ m before → (c : ℕ) → Memᴰ c branches → Refuses p q.held c m) →
      FirstBranch p q.held branches v b held' →
      Step p qs i (set qs i (process q.class (branch_body_of p b) held' q.frames (before ++ behind)))

-- the names that are read at a head
abbrev pub read_at : Head → List ℕ
read_at (gives n) = n ∷ []
read_at (builds n k ns r) = ns
read_at (makes n r) = []
read_at (calls call) = call.callee ∷ call.arguments
read_at (sends n t m r) = t ∷ m ∷ []
read_at (spawns n g r) = g ∷ []
read_at (selfs n r) = []
read_at (cases n branches) = n ∷ []
read_at (receives branches) = []
read_at no_head = []

-- The number i changes nothing, for a reason that document 01 gives. More than one may hold.
pub data Stays (p : Program) (qs : Processes) (i : ℕ) : Type 0 where
  -- "A number without a process yet"
  no_process : length qs ≤ i → Stays p qs i
  -- "Giving back with nothing pushed ends the process: no step"
  ended : {q : Process} {n : ℕ} → Acting p qs i q (gives n) → q.frames ≡ [] → Stays p qs i
  -- "A target that is no process"
  no_target : {q : Process} {n t m r : ℕ} {v : Value} →
      Acting p qs i q (sends n t m r) →
      Holds p q.held t v →
      ((j : ℕ) → j < length qs → v ≡ address j → ⊥) →
      Stays p qs i
  -- "a value that can't be called with that count"
  not_callable : {q : Process} {call : Call} {v : Value} →
      Acting p qs i q (calls call) →
      Holds p q.held call.callee v →
      (Callable p call.count v → ⊥) →
      Stays p qs i
  -- "a spawn of anything but a function without parameters"
  not_spawnable : {q : Process} {n g r : ℕ} {v : Value} →
      Acting p qs i q (spawns n g r) →
      Holds p q.held g v →
      (Callable p 0 v → ⊥) →
      Stays p qs i
  -- "a case without a match"
  no_match : {q : Process} {n : ℕ} {branches : List ℕ} {v : Value} →
      Acting p qs i q (cases n branches) →
      Holds p q.held n v →
      ((b : ℕ) → Memᴰ b branches → Refuses p q.held b v) →
      Stays p qs i
  -- "waits at a receive that matches nothing"
  waits : {q : Process} {branches : List ℕ} →
      Acting p qs i q (receives branches) →
      ((m : Value) → Memᴰ m q.mailbox → (b : ℕ) → Memᴰ b branches → Refuses p q.held b m) →
      Stays p qs i

-- The number i changes nothing, in whatever program. (In one that passes 1 to 5 for a reason of document 01 alone: the
-- other two are never met, specs/NoEmptyName.antt.)
pub data NoStep (p : Program) (qs : Processes) (i : ℕ) : Type 0 where
  with_reason : Stays p qs i → NoStep p qs i
  -- a name that is read holds nothing
  holds_nothing : {q : Process} {h : Head} {n : ℕ} →
      Acting p qs i q h →
      Memᴰ n (read_at h) →
      ((v : Value) → Holds p q.held n v → ⊥) →
      NoStep p qs i
  -- the process stands at a row that is no head
  nowhere : {q : Process} → Acting p qs i q no_head → NoStep p qs i

-- "For each number in turn that process steps, from what the number before left."
pub data Runs (p : Program) : Processes → List ℕ → Processes → Type 0 where
  at_end : {qs : Processes} → Runs p qs [] qs
  steps : {i : ℕ} {is : List ℕ} {qs qs' qs'' : Processes} →
      Step p qs i qs' → Runs p qs' is qs'' → Runs p qs (i ∷ is) qs''
  changes_nothing : {i : ℕ} {is : List ℕ} {qs qs' : Processes} →
      NoStep p qs i → Runs p qs is qs' → Runs p qs (i ∷ is) qs'

-- The functions make these steps and runs and no others. "A run begins with the starting process alone, at the start
-- expression, nothing pushed and its mailbox empty."
pub record RunsExactly : Type 0 where
  pub matching : MatchingExactly
  pub each_step : (p : Program) (qs qs' : Processes) (i : ℕ) → (step_of p qs i ≡ some qs') ↔ Step p qs i qs'
  pub each_reason : (p : Program) (qs : Processes) (i : ℕ) → (step_of p qs i ≡ none) ↔ NoStep p qs i
  pub each_run : (p : Program) (is : List ℕ) (qs : Processes) →
      (run p is ≡ qs) ↔ Runs p (process (size p) (start p) empty [] [] ∷ []) is qs
