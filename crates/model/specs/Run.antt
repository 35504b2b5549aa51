-- Document 01, "How a station runs": one step of a numbered process, the run by a list of numbers, and its counts.
use Rattle.std.specs.Prelude.{ℕ, ◌+◌, true, false, List, [], ◌∷◌, ◌++◌, length, set}
use Rattle.std.proofs.Math.Option.{Option, some, none}
use Rattle.std.proofs.Math.ListN.{get_elem?}
use Rattle.model.specs.Rows.{Program, size}
use Rattle.model.specs.Heads.{call_at, head_at, gives, builds, makes, calls, sends, spawns, selfs, cases}
use Rattle.model.specs.Heads.{receives, no_head, parameters, body, takes, start}
use Rattle.model.specs.Values.{Value, closure, built, address, Bindings, empty, bind, value_of, values_of}
use Rattle.model.specs.Values.{bind_all, process_of, Frame, Process, process, Processes}
use Rattle.model.specs.Matching.{first_branch, receive_from}

unfoldable pub ◌>>=◌ : {A B : Type 0} → Option A → (A → Option B) → Option B
◌>>=◌ none f = none
◌>>=◌ (some a) f = f a

-- the process at another head with other bindings
unfoldable pub moved : Process → ℕ → Bindings → Process
moved q r held = process q.class r held q.frames q.mailbox

-- the row and the bindings of a function value that takes n arguments
pub record Function : Type 0 where
  pub row : ℕ
  pub held : Bindings

unfoldable pub function_of : Program → ℕ → Value → Option Function
function_of p n (closure f held) = elim (takes p f n) [ true ↦ some (record { row = f; held = held }) | false ↦ none ]
function_of p n (built r k vs) = none
function_of p n (address i) = none

-- "Send puts the message last in the target's mailbox"
unfoldable pub deliver : Processes → ℕ → Value → Option Processes
deliver qs i v =
    elim (get_elem? qs i) [
      | none ↦ none
      | some q ↦ some (set qs i (process q.class q.location q.held q.frames (q.mailbox ++ (v ∷ []))))
    ]

-- "giving back pops it and binds the call's name, at the call's rest. Giving back with nothing pushed ends the
-- process: no step"
unfoldable pub give_back : Program → Process → Value → List Frame → Option Process
give_back p q v [] = none
give_back p q v (f ∷ fs) =
    some (process q.class (call_at p f.call).rest (bind (call_at p f.call).name v f.held) fs q.mailbox)

-- "A call pushes the call with its bindings and enters the body with the function's bindings and the arguments"
unfoldable pub enter : Program → Process → Function → Bindings → Process
enter p q f vs =
    process q.class (body p f.row) (bind_all (parameters p f.row) vs f.held)
    (record { call = q.location; held = q.held } ∷ q.frames) q.mailbox

-- "a new process, whose class is the spawn row, at the function's body with its bindings, nothing pushed and its
-- mailbox empty"
unfoldable pub spawned : Program → ℕ → Function → Process
spawned p r f = process r (body p f.row) f.held [] []

-- One step of process i, which is q; none where it makes no step ("ends", "stops that process for good", waits at a
-- receive)
unfoldable pub act : Program → Processes → ℕ → Process → Option Processes
unfolding ◌>>=◌
act p qs i q =
    elim (head_at p q.location) [
      | gives n ↦ do
        v ← value_of p q.held n
        q' ← give_back p q v q.frames
        some (set qs i q')
      | builds n k ns r ↦ do
        vs ← values_of p q.held ns
        some (set qs i (moved q r (bind n (built q.location k vs) q.held)))
      | makes n r ↦ some (set qs i (moved q r (bind n (closure q.location q.held) q.held)))
      | calls c ↦ do
        v ← value_of p q.held c.callee
        f ← function_of p c.count v
        vs ← values_of p q.held c.arguments
        some (set qs i (enter p q f vs))
      | sends n t m r ↦ do
        target ← value_of p q.held t
        j ← process_of target
        v ← value_of p q.held m
        deliver (set qs i (moved q r (bind n v q.held))) j v
      | spawns n g r ↦ do
        v ← value_of p q.held g
        f ← function_of p 0 v
        some (set qs i (moved q r (bind n (address (length qs)) q.held)) ++ (spawned p q.location f ∷ []))
      | selfs n r ↦ some (set qs i (moved q r (bind n (address i) q.held)))
      | cases n branches ↦ do
        v ← value_of p q.held n
        t ← first_branch p q.held branches v
        some (set qs i (moved q t.location t.held))
      | receives branches ↦ do
        m ← receive_from p q.held branches q.mailbox
        some (set qs i (process q.class m.taken.location m.taken.held q.frames m.mailbox))
      | no_head ↦ none
    ]

-- "For each number in turn that process steps": none for a number that changes nothing
unfoldable pub step_of : Program → Processes → ℕ → Option Processes
step_of p qs i = elim (get_elem? qs i) [ none ↦ none | some q ↦ act p qs i q ]

-- "the starting process alone, at the start expression, nothing pushed and its mailbox empty"
unfoldable pub starting : Program → Processes
starting p = process (size p) (start p) empty [] [] ∷ []

unfoldable pub next : Program → Processes → ℕ → Processes
next p qs i = elim (step_of p qs i) [ none ↦ qs | some qs' ↦ qs' ]

-- "A run is fed a list of process numbers and nothing else"
unfoldable pub run_from : Program → Processes → List ℕ → Processes
run_from p qs [] = qs
run_from p qs (i ∷ is) = run_from p (next p qs i) is

unfoldable pub run : Program → List ℕ → Processes
run p is = run_from p (starting p) is
