-- Entries, states and letters are each told by a few numbers and ordered by them from the left: one order for every
-- list that ascends.
use Rattle.std.specs.Prelude.{ℕ, suc, Bool, true, false, ◌&&◌, ◌||◌, List, [], ◌∷◌, ltb, eqb}

abbrev pub Key : Type 0
Key = List ℕ

-- the second begins with the first
unfoldable pub begins : Key → Key → Bool
begins [] b = true
begins (x ∷ a) [] = false
begins (x ∷ a) (y ∷ b) = eqb x y && begins a b

unfoldable pub same_key : Key → Key → Bool
same_key a b = begins a b && begins b a

-- the first stands below the second
unfoldable pub below : Key → Key → Bool
below [] [] = false
below [] (y ∷ b) = true
below (x ∷ a) [] = false
below (x ∷ a) (y ∷ b) = ltb x y || eqb x y && below a b

-- each distinct one of them, ascending
unfoldable pub insert : Key → List Key → List Key
insert k [] = k ∷ []
insert k (x ∷ xs) =
    elim (below k x) [
      | true ↦ k ∷ x ∷ xs
      | false ↦ elim (below x k) [ true ↦ x ∷ insert k xs | false ↦ x ∷ xs ]
    ]

unfoldable pub ascending : List Key → List Key
ascending [] = []
ascending (k ∷ ks) = insert k (ascending ks)

-- the number of a key in a list; their count where it is not there
unfoldable pub position : Key → List Key → ℕ
position k [] = 0
position k (x ∷ xs) = elim (same_key k x) [ true ↦ 0 | false ↦ suc (position k xs) ]
