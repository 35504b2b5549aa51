-- Numbers as text, in ASCII, and text put over a part of a list.
use Rattle.std.specs.Prelude.{ℕ, zero, suc, ◌+◌, ◌/◌, ◌%◌, true, false, List, [], ◌∷◌, ◌++◌, set, ltb}

-- the list after the bytes are stored in it one by one, the first at `at`
unfoldable pub put_at : ℕ → List ℕ → List ℕ → List ℕ
put_at at [] list = list
put_at at (b ∷ bytes) list = put_at (at + 1) bytes (set list at b)

-- a digit below 16: 0 to 9, then a to f
unfoldable pub digit : ℕ → ℕ
digit d = elim (ltb d 10) [ true ↦ 48 + d | false ↦ 87 + d ]

-- the last k digits of n by the base b, the highest first
unfoldable pub digits : ℕ → ℕ → ℕ → List ℕ
digits b zero n = []
digits b (suc k) n = digits b k (n / b) ++ (digit (n % b) ∷ [])

-- how many decimal digits n has, m more than one at the most
unfoldable pub width_in : ℕ → ℕ → ℕ
width_in zero n = 1
width_in (suc m) n = elim (ltb n 10) [ true ↦ 1 | false ↦ 1 + width_in m (n / 10) ]

-- 64 bits take 20 digits at the most
unfoldable pub width : ℕ → ℕ
width = width_in 19

-- a number in decimal digits, the fewest
unfoldable pub decimal : ℕ → List ℕ
decimal n = digits 10 (width n) n

-- two numbers with a space between
unfoldable pub pair : ℕ → ℕ → List ℕ
pair a b = decimal a ++ (32 ∷ decimal b)

unfoldable pub line_end : List ℕ
line_end = 10 ∷ []

-- two numbers on a line
unfoldable pub line : ℕ → ℕ → List ℕ
line a b = pair a b ++ line_end
