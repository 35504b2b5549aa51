-- Request (ii) at its edges, by hand from 02's words: "Each limit from 0 to 65,534 gives one more, the mark itself."
use Rattle.std.specs.Prelude.{ℕ, List, [], ◌∷◌}

-- a limit, and what it is raised to
unfoldable pub raised_cases : List (ℕ × ℕ)
raised_cases = (0, 1) ∷ (1, 2) ∷ (65533, 65534) ∷ (65534, 65535) ∷ (65535, 65535) ∷ []
