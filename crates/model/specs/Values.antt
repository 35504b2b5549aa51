-- Document 01, "How a station runs": values, bindings, pushed calls, processes.
use Rattle.std.specs.Prelude.{ℕ, Bool, true, false, ◌&&◌, List, [], ◌∷◌, ltb, eqb}
use Rattle.std.proofs.Math.Option.{Option, some, none}
use Rattle.model.specs.Tags.{tag_global}
use Rattle.model.specs.Index.{first}
use Rattle.model.specs.Rows.{Program, size, tag, num}

-- "A function value keeps its row and bindings, a built value its row, constructor and arguments"; an address is a
-- process number. Bindings are names with what they hold, the newest first; a built value's arguments stand in order,
-- with the names they were read from.
mutual
  pub data Value : Type 0 where
    closure : (row : ℕ) → Bindings → Value
    built : (row made : ℕ) → Bindings → Value
    address : (process : ℕ) → Value

  pub data Bindings : Type 0 where
    empty : Bindings
    bind : (name : ℕ) → Value → Bindings → Bindings

-- the arguments of a value that has this constructor
unfoldable pub arguments_of : ℕ → Value → Option Bindings
arguments_of k (closure f held) = none
arguments_of k (built r k' vs) = elim (eqb k k') [ true ↦ some vs | false ↦ none ]
arguments_of k (address i) = none

-- the process that a value is the address of
unfoldable pub process_of : Value → Option ℕ
process_of (closure f held) = none
process_of (built r k vs) = none
process_of (address i) = some i

-- Document 02, (iii): "Equal means the same process, or the same constructor with equal arguments; functions are never
-- equal."
unfoldable mutual
  pub equal : Value → Value → Bool
  equal (closure f held) w = false
  equal (built r k vs) (closure f held) = false
  equal (built r k vs) (built s l ws) = eqb k l && equal_each vs ws
  equal (built r k vs) (address j) = false
  equal (address i) (closure f held) = false
  equal (address i) (built s l ws) = false
  equal (address i) (address j) = eqb i j

  pub equal_each : Bindings → Bindings → Bool
  equal_each empty empty = true
  equal_each empty (bind m w ws) = false
  equal_each (bind n v vs) empty = false
  equal_each (bind n v vs) (bind m w ws) = equal v w && equal_each vs ws

unfoldable pub lookup : Bindings → ℕ → Option Value
lookup empty n = none
lookup (bind m v held) n = elim (eqb m n) [ true ↦ some v | false ↦ lookup held n ]

-- the row with tag 11 that binds the name; R where none does
unfoldable pub global_row : Program → ℕ → ℕ
global_row p n = first 0 (size p) (λ r. eqb (tag p r) tag_global && eqb (num p r) n)

-- What a name holds. "A tag 11 name yields its own row's function in every process, from the start on, with no
-- bindings but such names."
unfoldable pub value_of : Program → Bindings → ℕ → Option Value
value_of p held n =
    elim (ltb (global_row p n) (size p)) [ true ↦ some (closure (global_row p n) empty) | false ↦ lookup held n ]

-- names with what they hold, in order
unfoldable pub values_of : Program → Bindings → List ℕ → Option Bindings
values_of p held [] = some empty
values_of p held (n ∷ ns) =
    elim (value_of p held n) [
      | none ↦ none
      | some v ↦ elim (values_of p held ns) [ none ↦ none | some vs ↦ some (bind n v vs) ]
    ]

-- the same values under other names, in front of the bindings
unfoldable pub bind_all : List ℕ → Bindings → Bindings → Bindings
bind_all [] vs held = held
bind_all (n ∷ ns) empty held = held
bind_all (n ∷ ns) (bind m v vs) held = bind n v (bind_all ns vs held)

unfoldable pub join : Bindings → Bindings → Bindings
join empty held = held
join (bind n v vs) held = bind n v (join vs held)

-- "A call pushes the call with its bindings"
pub record Frame : Type 0 where
  pub call : ℕ
  pub held : Bindings

-- a process: its class, its place (the head at which it acts), its bindings, the calls pushed, its mailbox in order
pub record Process : Type 0 where
  pub class : ℕ
  pub location : ℕ
  pub held : Bindings
  pub frames : List Frame
  pub mailbox : List Value

abbrev pub process : ℕ → ℕ → Bindings → List Frame → List Value → Process
process c r held frames mailbox = record { class = c; location = r; held = held; frames = frames; mailbox = mailbox }

-- "Processes are numbered, 0 the start, then as spawned"
abbrev pub Processes : Type 0
Processes = List Process
