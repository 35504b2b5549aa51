-- The entries of ceilings and of lines of weights, tested by one function.
use Rattle.std.specs.Prelude.{ℕ, Bool, ◌&&◌, leb, ltb}

-- an entry that goes on: its counter is one of the n and not below `least`, its number is from 1 to `most`
unfoldable pub is_in_bound : ℕ → ℕ → ℕ → ℕ → ℕ → Bool
is_in_bound n most least x number = leb least x && (ltb x n && (leb 1 number && leb number most))
