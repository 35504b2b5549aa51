-- Which letters of a value's letters a pattern leaves, argument by argument.
use Rattle.std.specs.Prelude.{ℕ, ◌+◌, ◌<◌, ◌≡◌, Bool, ◌&&◌, List, eqb, ltb, length, get_or}
use Rattle.bits.specs.Bits.{member, Row}
use Rattle.model.specs.Limits.{max_depth}
use Rattle.model.specs.Index.{all, implies}
use Rattle.model.specs.Rows.{Program, tag, num, arity}
use Rattle.model.specs.Tables.{Tables}
use Rattle.model.specs.Closed.{argument, subpattern}
use Rattle.model.specs.Counters.{letter_count_of}
use Rattle.system_letters.specs.Letters.{letter_at_of, letter_width_of}
use Rattle.pattern_heads.specs.Fitting.{does_head_fit, has_head}

-- the subpattern at row q leaves the head h of the name n, which is left too where no value has it
unfoldable pub leaves_head : Program → Tables → ℕ → ℕ → ℕ → Bool
leaves_head p t n q h = implies (has_head p t n h) (does_head_fit p t n q h)

-- the head of argument i of letter y
unfoldable pub head_of : Program → Tables → ℕ → ℕ → ℕ
head_of p t i y = get_or (letter_at_of p t y) (i + 1) 0

-- the subpattern at row q, of argument i, whose name is n, leaves letter y; and so where only heads below h are asked
unfoldable pub leaves_argument : Program → Tables → ℕ → ℕ → ℕ → ℕ → Bool
leaves_argument p t i n q y = leaves_head p t n q (head_of p t i y)

unfoldable pub leaves_below : Program → Tables → ℕ → ℕ → ℕ → ℕ → ℕ → Bool
leaves_below p t i n q h y = implies (ltb (head_of p t i y) h) (leaves_argument p t i n q y)

-- the first k subpatterns of the constructor pattern at row q leave letter y of the value v
unfoldable pub leaves_first : Program → Tables → ℕ → ℕ → ℕ → ℕ → Bool
leaves_first p t q v k y = all 0 k (λ i. leaves_argument p t i (argument p v i) (subpattern p max_depth q i) y)

-- the pattern at row q leaves letter y of the value v, with which it begins: only a constructor's asks anything
unfoldable pub leaves : Program → Tables → ℕ → ℕ → ℕ → Bool
leaves p t q v y = implies (eqb (tag p q) 31) (leaves_first p t q v (arity p (num p q)) y)

-- of the letters of u, u' has those that pass
pub record Left (p : Program) (t : Tables) (passes : ℕ → Bool) (u u' : List ℕ) : Type 0 where
  pub long : length u' ≡ length u
  pub row : Row u' (letter_width_of p t) 0
  pub has : (y : ℕ) → y < letter_count_of p t →
      member u' (letter_width_of p t) 0 y ≡ (member u (letter_width_of p t) 0 y && passes y)
