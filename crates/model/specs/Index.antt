-- Loops over the indices from i below e, as definitions: is there one, all, the first, how many, their sum, what they
-- give together. Every check of the model is made of these, so that a loop of the code is "the turns that are left".
use Rattle.std.specs.Prelude.{ℕ, zero, suc, ◌+◌, ◌-◌, Bool, true, false, List, [], ◌∷◌, ◌++◌}

-- where the test passes, what is to hold
unfoldable pub implies : Bool → Bool → Bool
implies true b = b
implies false b = true

-- n turns from i
unfoldable pub any_between : ℕ → ℕ → (ℕ → Bool) → Bool
any_between zero i f = false
any_between (suc n) i f = elim (f i) [ true ↦ true | false ↦ any_between n (i + 1) f ]

unfoldable pub all_between : ℕ → ℕ → (ℕ → Bool) → Bool
all_between zero i f = true
all_between (suc n) i f = elim (f i) [ true ↦ all_between n (i + 1) f | false ↦ false ]

unfoldable pub first_between : ℕ → ℕ → (ℕ → Bool) → ℕ
first_between zero i f = i
first_between (suc n) i f = elim (f i) [ true ↦ i | false ↦ first_between n (i + 1) f ]

unfoldable pub count_between : ℕ → ℕ → (ℕ → Bool) → ℕ
count_between zero i f = 0
count_between (suc n) i f = elim (f i) [ true ↦ 1 + count_between n (i + 1) f | false ↦ count_between n (i + 1) f ]

unfoldable pub total_between : ℕ → ℕ → (ℕ → ℕ) → ℕ
total_between zero i f = 0
total_between (suc n) i f = f i + total_between n (i + 1) f

unfoldable pub gather_between : {A : Type 0} → ℕ → ℕ → (ℕ → List A) → List A
gather_between zero i f = []
gather_between (suc n) i f = f i ++ gather_between n (i + 1) f

-- some index from i below e passes
unfoldable pub any : ℕ → ℕ → (ℕ → Bool) → Bool
any i e f = any_between (e - i) i f

-- each index from i below e passes
unfoldable pub all : ℕ → ℕ → (ℕ → Bool) → Bool
all i e f = all_between (e - i) i f

-- the first index from i below e that passes; e where none does
unfoldable pub first : ℕ → ℕ → (ℕ → Bool) → ℕ
first i e f = first_between (e - i) i f

-- how many indices from i below e pass
unfoldable pub count : ℕ → ℕ → (ℕ → Bool) → ℕ
count i e f = count_between (e - i) i f

-- the sum of what the indices from i below e give
unfoldable pub total : ℕ → ℕ → (ℕ → ℕ) → ℕ
total i e f = total_between (e - i) i f

-- what the indices from i below e give, joined in order
unfoldable pub gather : {A : Type 0} → ℕ → ℕ → (ℕ → List A) → List A
gather i e f = gather_between (e - i) i f

-- the element alone, where the test passes
unfoldable pub only : {A : Type 0} → Bool → A → List A
only true a = a ∷ []
only false a = []

-- what the elements of a list give, joined in order
unfoldable pub from_all : {A B : Type 0} → List B → (B → List A) → List A
from_all [] f = []
from_all (b ∷ bs) f = f b ++ from_all bs f
