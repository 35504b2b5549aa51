-- Document 01, "The gate's refusals", and those of document 02: number and place of each answer; a check is a
-- refusal or none, and the first refusal counts.
use Rattle.std.specs.Prelude.{ℕ, Bool, true, false}
use Rattle.std.proofs.Math.Option.{Option, some, none}
use Rattle.model.specs.declared.Verdict.{Verdict}
use Rattle.model.specs.declared.Verdict.TheVariants.{Safe, Length, Size, Row, Name, Scope, Bad, Entry, Open}
use Rattle.model.specs.declared.Verdict.TheVariants.{Counters, Ceiling, Start, Met, Leak, Space, FunctionMailed}
use Rattle.model.specs.declared.Verdict.TheVariants.{Weights, Rise, Light}

-- the column "number"
unfoldable pub number : Verdict → ℕ
number Safe = 0
number (Length at) = 1
number (Size at) = 2
number (Row at) = 3
number (Name at) = 4
number (Scope at) = 5
number (Bad at) = 6
number (Entry at) = 7
number (Open at) = 8
number (Counters at) = 9
number (Ceiling at) = 10
number (Start at) = 11
number (Met at) = 12
number (Leak at) = 13
number (Space at) = 14
number (Weights at) = 16
number (Rise at) = 17
number (Light at) = 18
number (FunctionMailed at) = 22

-- the column "place"; of safe, place 0
unfoldable pub place : Verdict → ℕ
place Safe = 0
place (Length at) = at
place (Size at) = at
place (Row at) = at
place (Name at) = at
place (Scope at) = at
place (Bad at) = at
place (Entry at) = at
place (Open at) = at
place (Counters at) = at
place (Ceiling at) = at
place (Start at) = at
place (Met at) = at
place (Leak at) = at
place (Space at) = at
place (Weights at) = at
place (Rise at) = at
place (Light at) = at
place (FunctionMailed at) = at

-- a refusal, or none
abbrev pub Check : Type 0
Check = Option Verdict

-- "Checked in that order": the second check counts where the first refuses nothing
infixr 20 ◌>>◌
unfoldable pub ◌>>◌ : Check → Check → Check
◌>>◌ (some v) check = some v
◌>>◌ none check = check

unfoldable pub unless : Bool → Verdict → Check
unless true v = none
unless false v = some v
