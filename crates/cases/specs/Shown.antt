-- Runs as text, for the table of runs (RunCases.antt): of each process its class, place, pushed calls and mailbox.
-- The other implementation shows its runs in the same form.
use Rattle.std.specs.Prelude.{ℕ, zero, suc, ◌/◌, ◌%◌, true, false, List, [], ◌∷◌, map, get_or, replicate, ltb}
use Prim.Native.String.{String, ◌++◌}
use Rattle.model.specs.Message.{sizes}
use Rattle.model.specs.Rows.{Program, program}
use Rattle.model.specs.Values.{Value, closure, built, address, Bindings, empty, bind, Frame, Process}
use Rattle.model.specs.Run.{run}
use Rattle.model.specs.Index.{from_all}
use Rattle.cases.specs.Cases.{Pairs, program_words}

-- a number of at most d digits
unfoldable pub digits : ℕ → ℕ → String
digits zero n = ""
digits (suc d) n =
    let digit : String = get_or ("0" ∷ "1" ∷ "2" ∷ "3" ∷ "4" ∷ "5" ∷ "6" ∷ "7" ∷ "8" ∷ "9" ∷ []) (n % 10) "" in
    elim (ltb n 10) [ true ↦ digit | false ↦ digits d (n / 10) ++ digit ]

unfoldable pub numeral : ℕ → String
numeral n = digits 5 n

-- texts with a space between
unfoldable pub spaced : List String → String
spaced [] = ""
spaced (t ∷ []) = t
spaced (t ∷ u ∷ us) = t ++ " " ++ spaced (u ∷ us)

-- a text, and more behind it where there is more
unfoldable pub followed : String → String → List String → String → String
followed t opening [] closing = t
followed t opening (u ∷ us) closing = t ++ opening ++ spaced (u ∷ us) ++ closing

-- what a name holds, as text
pub record Held : Type 0 where
  pub name : ℕ
  pub text : String

-- put in its place by name
unfoldable pub by_name : Held → List Held → List Held
by_name h [] = h ∷ []
by_name h (k ∷ ks) = elim (ltb h.name k.name) [ true ↦ h ∷ k ∷ ks | false ↦ k ∷ by_name h ks ]

-- `c1@5(c0@3 #0)`: built at row 5 of constructor 1, with its arguments in order; `f@7{0=#0 2=c0@3}`: the function of
-- row 7 with what it keeps, by name; `#1`: the address of process 1
unfoldable mutual
  pub value_text : Value → String
  value_text (closure f held) =
      "f@" ++ numeral f ++ "{" ++ spaced (map (λ h. numeral h.name ++ "=" ++ h.text) (kept held)) ++ "}"
  value_text (built r k vs) = followed ("c" ++ numeral k ++ "@" ++ numeral r) "(" (argument_texts vs) ")"
  value_text (address i) = "#" ++ numeral i

  pub kept : Bindings → List Held
  kept empty = []
  kept (bind n v held) = by_name (record { name = n; text = value_text v }) (kept held)

  pub argument_texts : Bindings → List String
  argument_texts empty = []
  argument_texts (bind n v vs) = value_text v ∷ argument_texts vs

-- `18@13 ^7 ^12 : c0@3 #1`: class 18 at row 13, the calls of rows 7 and 12 pushed, the latest first, and two messages
-- in the mailbox
unfoldable pub process_text : Process → String
process_text q =
    let place : String = numeral q.class ++ "@" ++ numeral q.location in
    followed (spaced (place ∷ map (λ f. "^" ++ numeral f.call) q.frames)) " : " (map value_text q.mailbox) ""

-- a program of so many names, constructors and functions, by its rows
unfoldable pub station : ℕ → ℕ → ℕ → Pairs → Program
station names constructors functions rows =
    let ws : List ℕ = program_words names constructors functions rows in
    program ws (sizes ws)

-- a run of a program: processes, each so many times in turn, and what each process is to come to
pub record RunCase : Type 0 where
  pub program : Program
  pub turns : Pairs
  pub expected : List String

unfoldable pub after : Program → Pairs → List String → RunCase
after p turns expected = record { program = p; turns = turns; expected = expected }

unfoldable pub come_to : RunCase → List String
come_to k = map process_text (run k.program (from_all k.turns (λ x. replicate x.1 x.0)))
