-- The rules for the letters of a class that a set has, of w words, and another set too where only those of it are
-- asked for. e is the number of the state that the rules are told from.
use Rattle.std.specs.Prelude.{ℕ, ◌+◌, ◌*◌, ◌≤◌, ◌<◌, ◌≡◌, Bool, true, ◌&&◌, List, length, get_or, Option, Some, None}
use Rattle.bits.specs.Bits.{member, Row}
use Rattle.model.specs.Limits.{max_rows}
use Rattle.model.specs.Index.{gather, only, any}
use Rattle.model.specs.Rules.{Effect, Rule, rule}
use Rattle.rules.specs.Within.{is_asked}

-- letter y, where the test passes; there are so many states
unfoldable pub letter_turn : ℕ → (ℕ → Bool) → (ℕ → Effect) → ℕ → ℕ → ℕ → List Rule
letter_turn states has effect to e y = only (has y) (rule e to (effect (states + y)))

-- the letters of class d for which it passes
unfoldable pub class_turn : ℕ → List ℕ → (ℕ → Bool) → (ℕ → Effect) → ℕ → ℕ → ℕ → List Rule
class_turn states letter_at has effect to d e =
    gather (get_or letter_at d 0) (get_or letter_at (d + 1) 0) (letter_turn states has effect to e)

-- the letters that the set found has and that are asked for
unfoldable pub asked_of : ℕ → Option (List ℕ) → List ℕ → ℕ → Bool
asked_of w within found y = member found w 0 y && is_asked w within y

-- one of these letters is asked for; where all are, it is not looked whether there is one
unfoldable pub class_asked : ℕ → Option (List ℕ) → ℕ → ℕ → Bool
class_asked w None from to = true
class_asked w (Some set) from to = any from to (member set w 0)

-- The set has the letters of class d, the last of which has a counter, and their rules have room behind n rules.
pub record LetterRoom (states : ℕ) (letter_at found tos others : List ℕ) (w n d : ℕ) : Type 0 where
  pub class : d ≤ max_rows
  pub starts : d + 1 < length letter_at
  pub order : get_or letter_at d 0 ≤ get_or letter_at (d + 1) 0
  pub row : Row found w 0
  pub inside : get_or letter_at (d + 1) 0 ≤ 64 * w
  pub counters : states + get_or letter_at (d + 1) 0 ≤ 65536
  pub tos_room : n + get_or letter_at (d + 1) 0 ≤ length tos + get_or letter_at d 0
  pub others_room : length others ≡ length tos
  pub low : n ≤ 65536
