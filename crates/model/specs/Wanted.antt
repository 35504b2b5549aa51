-- Document 01, "Closed tables", said outright: each sentence is a way to want an entry, and tables are closed when
-- each wanted entry is there. (Closed.antt says the same as a test.)
use Rattle.std.specs.Prelude.{ℕ, zero, suc, ◌+◌, ◌<◌, ◌≡◌, true, false, ◌⊎◌, get_or, eqb}
use mathlib.Core.List.{List, Memᴰ}
use Rattle.model.specs.Limits.{max_depth}
use Rattle.model.specs.Tags.{tag_pattern_constructor}
use Rattle.model.specs.Words.{Columns, left, right}
use Rattle.model.specs.Rows.{Program, size, tag, num, arity}
use Rattle.model.specs.Heads.{Call, call_at, head_at, gives, builds, makes, calls, sends, spawns, selfs, cases}
use Rattle.model.specs.Heads.{receives, branch_body_of, is_class_of, parameters, body, takes, start}
use Rattle.model.specs.Tables.{Tables, State, onward, state_at, state as triple}
use Rattle.model.specs.Closed.{subpattern, argument, is_same_constructor}

-- the list has the pair
pub record Member (c : Columns) (a b : ℕ) : Type 0 where
  pub at : ℕ
  pub below : at < c.size
  pub first : left c at ≡ a
  pub second : right c at ≡ b

-- the state list has the state
pub record ListedState (t : Tables) (s : State) : Type 0 where
  pub at : ℕ
  pub below : at < t.states.size
  pub here : state_at t at ≡ s

-- what can be wanted
pub data Entry : Type 0 where
  flow : (name value : ℕ) → Entry
  mail : (class value : ℕ) → Entry
  state : State → Entry

abbrev pub Present : Tables → Entry → Type 0
Present t (flow n v) = Member t.flow n v
Present t (mail c v) = Member t.mail c v
Present t (state s) = ListedState t s

-- Document 02, (iii): "the same class, or both are build rows of one constructor"
abbrev pub MayEqual : Program → ℕ → ℕ → Type 0
MayEqual p v w = ((is_class_of p v ≡ true) × (v ≡ w)) ⊎ ((tag p w ≡ 2) × (is_same_constructor p (w + 1) v ≡ true))

-- "A name or any-pattern may match everything. A constructor pattern may match a build row of that constructor if each
-- subpattern may match some value of the argument name." Document 02, (iii): a held name "may match where a value of
-- the name is" as above.
abbrev pub MayMatch : Program → Tables → ℕ → ℕ → ℕ → Type 0
MayMatch p t zero q v = Unit {0}
MayMatch p t (suc d) q v =
    elim (eqb (tag p q) tag_pattern_constructor) [
      | true ↦
          (is_same_constructor p q v ≡ true) ×
          ((i : ℕ) → i < arity p (num p q) →
          (w : ℕ) × Member t.flow (argument p v i) w × MayMatch p t d (subpattern p (suc d) q i) w)
      | false ↦ tag p q ≡ 33 → (w : ℕ) × Member t.flow (num p q) w × MayEqual p v w
    ]

-- "A pattern name holds each value at its spot, reached only through values that may match": where the pattern at row
-- q meets v, w is at the spot of the name n
abbrev pub AtSpot : Program → Tables → ℕ → ℕ → ℕ → ℕ → ℕ → Type 0
AtSpot p t zero q v n w = ⊥
AtSpot p t (suc d) q v n w =
    elim (eqb (tag p q) tag_pattern_constructor) [
      | true ↦
          (i : ℕ) × (i < arity p (num p q)) ×
          ((u : ℕ) × Member t.flow (argument p v i) u × MayMatch p t d (subpattern p (suc d) q i) u ×
          AtSpot p t d (subpattern p (suc d) q i) u n w)
      | false ↦ (tag p q ≡ 30) × (num p q ≡ n) × (v ≡ w)
    ]

-- the callee may be the function f, with equal count
abbrev pub MayCall : Program → Tables → Call → ℕ → Type 0
MayCall p t call f = Member t.flow call.callee f × (takes p f call.count ≡ true)

-- "for each value of the name, or of c's mail, and each branch that may match": the branch at row q may take v in
-- state s
pub data MayTake (p : Program) (t : Tables) (s : State) : ℕ → ℕ → Type 0 where
  by_case :
      (n : ℕ) (qs : List ℕ) (q v : ℕ) → head_at p s.location ≡ cases n qs → Memᴰ q qs → Member t.flow n v →
      MayMatch p t max_depth q v → MayTake p t s q v
  by_receive :
      (qs : List ℕ) (q v : ℕ) → head_at p s.location ≡ receives qs → Memᴰ q qs →
      Member t.mail s.class v → MayMatch p t max_depth q v → MayTake p t s q v

-- Document 02, (iv): "Giving back from (c, r, call), wherever r stands, for each state (c, call, b)": giving back the
-- name n in state s may lead behind the call, to a state that returns to b
pub record Returns (p : Program) (t : Tables) (s : State) (n b : ℕ) : Type 0 where
  pub gives_back : head_at p s.location ≡ gives n
  pub waits : ListedState t (triple s.class s.return b)

-- "send: for each class d the target may be and value v of the message"
pub record Sends (p : Program) (t : Tables) (at n r d v : ℕ) : Type 0 where
  pub target : ℕ
  pub message : ℕ
  pub sends_at : head_at p at ≡ sends n target message r
  pub to_class : Member t.flow target d
  pub class : is_class_of p d ≡ true
  pub value : Member t.flow message v

-- "spawn: for each function without parameters it may be"
pub record Spawns (p : Program) (t : Tables) (at n r f : ℕ) : Type 0 where
  pub function : ℕ
  pub spawns_at : head_at p at ≡ spawns n function r
  pub may_be : Member t.flow function f
  pub no_parameters : takes p f 0 ≡ true

-- "Wanted first: each tag 11 name holds its own row, and state (R, start)"; document 02, (iv): "The start and spawned
-- states have R"
pub data WantedFirst (p : Program) : Entry → Type 0 where
  global_name : (r : ℕ) → tag p r ≡ 11 → WantedFirst p (flow (num p r) r)
  first_state : WantedFirst p (state (triple (size p) (start p) (size p)))

-- "Then, for each state (c, r)": what the state s wants
pub data WantedBy (p : Program) (t : Tables) (s : State) : Entry → Type 0 where
  -- "build, function: the name holds r; self: the name holds c. State (c, rest)."
  build_name :
      (n k r : ℕ) (ns : List ℕ) → head_at p s.location ≡ builds n k ns r → WantedBy p t s (flow n s.location)
  build_rest :
      (n k r : ℕ) (ns : List ℕ) → head_at p s.location ≡ builds n k ns r → WantedBy p t s (state (onward s r))
  function_name : (n r : ℕ) → head_at p s.location ≡ makes n r → WantedBy p t s (flow n s.location)
  function_rest : (n r : ℕ) → head_at p s.location ≡ makes n r → WantedBy p t s (state (onward s r))
  self_name : (n r : ℕ) → head_at p s.location ≡ selfs n r → WantedBy p t s (flow n s.class)
  self_rest : (n r : ℕ) → head_at p s.location ≡ selfs n r → WantedBy p t s (state (onward s r))
  -- "call: for each function the callee may be, with equal count: parameters hold the arguments' values; state (c, its
  -- body)"; document 02, (iv): "a called body has its call row"
  call_parameter :
      (f i v : ℕ) (call : Call) → head_at p s.location ≡ calls call → MayCall p t call f → i < call.count →
      Member t.flow (get_or call.arguments i 0) v → WantedBy p t s (flow (get_or (parameters p f) i 0) v)
  call_body :
      (f : ℕ) (call : Call) → head_at p s.location ≡ calls call → MayCall p t call f →
      WantedBy p t s (state (triple s.class (body p f) s.location))
  -- document 02, (iv): "fills the call's name and leads to (c, call's rest, b)"
  return_name :
      (n b v : ℕ) → Returns p t s n b → Member t.flow n v → WantedBy p t s (flow (call_at p s.return).name v)
  return_rest :
      (n b : ℕ) → Returns p t s n b → WantedBy p t s (state (triple s.class (call_at p s.return).rest b))
  -- "mail (d, v), the name holds v, state (c, rest)"
  send_mail : (n r d v : ℕ) → Sends p t s.location n r d v → WantedBy p t s (mail d v)
  send_name : (n r d v : ℕ) → Sends p t s.location n r d v → WantedBy p t s (flow n v)
  send_rest : (n r d v : ℕ) → Sends p t s.location n r d v → WantedBy p t s (state (onward s r))
  -- "the name holds r, states (c, rest) and (r, body)"; document 02, (iv): "The start and spawned states have R"
  spawn_name : (n r f : ℕ) → Spawns p t s.location n r f → WantedBy p t s (flow n s.location)
  spawn_rest : (n r f : ℕ) → Spawns p t s.location n r f → WantedBy p t s (state (onward s r))
  spawn_body :
      (n r f : ℕ) → Spawns p t s.location n r f → WantedBy p t s (state (triple s.location (body p f) (size p)))
  -- "its names' values, state (c, branch)"
  branch_name : (q v n w : ℕ) → MayTake p t s q v → AtSpot p t max_depth q v n w → WantedBy p t s (flow n w)
  branch_state : (q v : ℕ) → MayTake p t s q v → WantedBy p t s (state (onward s (branch_body_of p q)))

pub data Wanted (p : Program) (t : Tables) : Entry → Type 0 where
  by_opening : {e : Entry} → WantedFirst p e → Wanted p t e
  by_state : {s : State} {e : Entry} → ListedState t s → WantedBy p t s e → Wanted p t e

-- "Extra entries are allowed."
abbrev pub Closed : Program → Tables → Type 0
Closed p t = (e : Entry) → Wanted p t e → Present t e
