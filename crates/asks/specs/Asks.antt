-- What a call, a send and a spawn ask because of one value of the name that they read, whatever the state: as a code.
use Rattle.std.specs.Prelude.{ℕ, ◌+◌, List, ◌≡◌, Bool, true, false, ◌&&◌, eqb}
use Rattle.model.specs.declared.Sizes.{Sizes}
use Rattle.model.specs.Rows.{Program, program, size, tag, num}
use Rattle.model.specs.Heads.{call_at, is_class_of, parameters, body, takes}
use Rattle.model.specs.Tables.{Tables, tables, has, each, some_of, state, has_state}
use Rattle.model.specs.Closed.{passes}
use Rattle.lists.specs.Lists.{Starts}
use Rattle.lists.specs.Ready.{Ready}
use Rattle.values.specs.Values.{FlowSets, MailSets}
use Rattle.branches.specs.Taken.{code_closed}

-- what a send is settled by: the checks before refusal 8 found nothing, and the sets of names and of mail are filled
pub record MailReady (ws : List ℕ) (s : Sizes) (flow mail : List ℕ) : Type 0 where
  pub ready : Ready ws s
  pub names : FlowSets (program ws s) (tables ws s) flow
  pub classes : MailSets (program ws s) (tables ws s) mail

-- what the values of a name are found by one after the other: the same checks, and where each name's entries begin
pub record StartsReady (ws : List ℕ) (s : Sizes) (starts : List ℕ) : Type 0 where
  pub ready : Ready ws s
  pub begins : Starts (tables ws s).flow s.names starts

-- 1 where it is there, 2 where it lacks
unfoldable pub there_code : Bool → ℕ
there_code true = 1
there_code false = 2

-- the call at row r, where the callee may be f: its parameters hold the arguments' values. (The body as a state
-- depends on the class.)
unfoldable pub call_asks : Program → Tables → ℕ → ℕ → ℕ
call_asks p t r f =
    elim (takes p f (num p (r + 2))) [
      | true ↦ elim (passes t (call_at p r) (parameters p f)) [ true ↦ 0 | false ↦ 2 ]
      | false ↦ 0
    ]

-- the send at row r, where the target may be d
unfoldable pub does_send_ask : Program → Tables → ℕ → ℕ → ℕ
does_send_ask p t r d =
    elim (is_class_of p d) [
      | true ↦ elim (some_of t.flow (num p (r + 2)) (λ v. true)) [
        | true ↦ there_code
            (each t.flow (num p (r + 2)) (has t.mail d) &&
            each t.flow (num p (r + 2)) (has t.flow (num p r)))
        | false ↦ 0
      ]
      | false ↦ 0
    ]

-- the spawn at row r, where the function may be f: its process begins with nothing pushed, whatever the state that
-- spawns
unfoldable pub does_spawn_ask : Program → Tables → ℕ → ℕ → ℕ
does_spawn_ask p t r f =
    elim (takes p f 0) [
      | true ↦ there_code (has t.flow (num p r) r && has_state t (state r (body p f) (size p)))
      | false ↦ 0
    ]

-- the head at row r by its tag, with one value of the name that it reads first
unfoldable pub asks : Program → Tables → ℕ → ℕ → ℕ
asks p t r x =
    elim (eqb (tag p r) 4) [
      | true ↦ call_asks p t r x
      | false ↦ elim (eqb (tag p r) 5) [ true ↦ does_send_ask p t r x | false ↦ does_spawn_ask p t r x ]
    ]

-- k is the worst of the codes with all values of that name: what they ask together, where the state is there or not
pub record Asked (p : Program) (t : Tables) (r k : ℕ) : Type 0 where
  pub together :
      (there : Bool) → each t.flow (num p (r + 1)) (λ x. code_closed (asks p t r x) there) ≡ code_closed k there
