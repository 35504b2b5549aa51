-- Document 01, "The system", and document 02, (viii): the letters of messages, and how many processes and messages a
-- run has.
use Rattle.std.specs.Prelude.{ℕ, ◌+◌, Bool, true, false, List, [], ◌∷◌, eqb}
use Rattle.model.specs.Tags.{tag_build}
use Rattle.model.specs.Rows.{Program, size, tag, num}
use Rattle.model.specs.Heads.{is_function}
use Rattle.model.specs.Keys.{Key, same_key}
use Rattle.model.specs.Values.{Value, closure, built, address, Bindings, empty, bind, Frame, Process, Processes}
use Rattle.model.specs.Tables.{State, state, same_state}

-- what of a value its head tells
pub data Shape : Type 0 where
  constructed : ℕ → Shape
  functional : Shape
  addressed : Shape

-- document 02, (viii): "a head being a constructor number, C or C+1"; document 01: "C for a function; C+1 for an
-- address"
unfoldable pub head : Program → Shape → ℕ
head p (constructed k) = k
head p functional = p.constructors
head p addressed = p.constructors + 1

-- there are so many heads
unfoldable pub head_count : Program → ℕ
head_count p = p.constructors + 2

-- of a value of the tables: "a row with tag 2, 3 or 11, or a class (a process address)"
unfoldable pub row_shape : Program → ℕ → Shape
row_shape p v =
    elim (eqb (tag p v) tag_build) [
      | true ↦ constructed (num p (v + 1))
      | false ↦ elim (is_function p v) [ true ↦ functional | false ↦ addressed ]
    ]

unfoldable pub row_head_of : Program → ℕ → ℕ
row_head_of p v = head p (row_shape p v)

-- of a value of the run
unfoldable pub value_shape : Value → Shape
value_shape (closure f held) = functional
value_shape (built r k vs) = constructed k
value_shape (address i) = addressed

unfoldable pub value_head : Program → Value → ℕ
value_head p v = head p (value_shape v)

-- Document 02, (viii): "A letter becomes a constructor with the heads of its arguments ...; C and C+1 stay letters."
-- The number stands first, then the heads from the left, so that the order of letters is that of keys.
abbrev pub Letter : Type 0
Letter = Key

unfoldable pub heads_of : Program → Bindings → List ℕ
heads_of p empty = []
heads_of p (bind n v vs) = value_head p v ∷ heads_of p vs

unfoldable pub argument_heads : Program → Value → List ℕ
argument_heads p (closure f held) = []
argument_heads p (built r k vs) = heads_of p vs
argument_heads p (address i) = []

-- the letter of a message
unfoldable pub value_letter : Program → Value → Letter
value_letter p v = value_head p v ∷ argument_heads p v

-- 1 where the test passes
unfoldable pub one_if : Bool → ℕ
one_if true = 1
one_if false = 0

-- Document 02, (iv): "the call row that the process will return to, or R where none is pushed"
unfoldable pub return_of : Program → List Frame → ℕ
return_of p [] = size p
return_of p (f ∷ fs) = f.call

-- the state in which a process is
abbrev pub state_in : Program → Process → State
state_in p q = state q.class q.location (return_of p q.frames)

-- "A process counts under its class and place, ended and stopped ones too"; document 02, (iv): "Station and counters
-- share counts per triple"
unfoldable pub processes_at : Program → Processes → State → ℕ
processes_at p [] s = 0
processes_at p (q ∷ qs) s = one_if (same_state (state_in p q) s) + processes_at p qs s

-- the messages of a letter in one mailbox
unfoldable pub letters_in : Program → List Value → Letter → ℕ
letters_in p [] l = 0
letters_in p (v ∷ vs) l = one_if (same_key (value_letter p v) l) + letters_in p vs l

unfoldable pub mailbox_count : Program → Process → ℕ → Letter → ℕ
mailbox_count p q c l = elim (eqb q.class c) [ true ↦ letters_in p q.mailbox l | false ↦ 0 ]

-- "a message under its letter and the class of the process whose mailbox holds it"
unfoldable pub messages_of : Program → Processes → ℕ → Letter → ℕ
messages_of p [] c l = 0
messages_of p (q ∷ qs) c l = mailbox_count p q c l + messages_of p qs c l
