-- Document 01, "Program rows" and "How a station runs", said outright: what a name holds, and when a pattern matches a
-- value. (Values.antt and Matching.antt say the same as functions.)
use Rattle.std.specs.Prelude.{ℕ, ◌+◌, ◌<◌, ◌↔◌, ◌≡◌, true}
use mathlib.Core.List.{List, [], ◌∷◌, ◌++◌, Memᴰ}
use Rattle.std.proofs.Math.Option.{some, none}
use Rattle.model.specs.Rows.{Program, size, tag, num}
use Rattle.model.specs.Values.{Value, closure, built, address, Bindings, empty, bind, value_of, equal}
use Rattle.model.specs.Matching.{match}

-- row q of the program is (t, n)
pub record RowAt (p : Program) (q t n : ℕ) : Type 0 where
  pub below : q < size p
  pub tagged : tag p q ≡ t
  pub numbered : num p q ≡ n

-- the newest binding of the name n is to v
pub data Newest (n : ℕ) (v : Value) : Bindings → Type 0 where
  newest : {held : Bindings} → Newest n v (bind n v held)
  older : {m : ℕ} {w : Value} {held : Bindings} → (m ≡ n → ⊥) → Newest n v held → Newest n v (bind m w held)

-- "A tag 11 name yields its own row's function in every process, from the start on, with no bindings but such names."
-- Any other name holds what it was bound to last. (A program that passes 4 has one row (11, n) at the most.)
pub data Holds (p : Program) (held : Bindings) (n : ℕ) : Value → Type 0 where
  global : {g : ℕ} → RowAt p g 11 n → ((f : ℕ) → f < g → RowAt p f 11 n → ⊥) → Holds p held n (closure g empty)
  local : {v : Value} → ((g : ℕ) → RowAt p g 11 n → ⊥) → Newest n v held → Holds p held n v

-- several names: their values in order, with the names they were read from
pub data HoldEach (p : Program) (held : Bindings) : List ℕ → Bindings → Type 0 where
  no_names : HoldEach p held [] empty
  one_name : {n : ℕ} {v : Value} {ns : List ℕ} {vs : Bindings} →
      Holds p held n v → HoldEach p held ns vs → HoldEach p held (n ∷ ns) (bind n v vs)

-- Document 02, (iii): "Equal means the same process, or the same constructor with equal arguments; functions are never
-- equal."
mutual
  pub data Equal : Value → Value → Type 0 where
    one_process : {i : ℕ} → Equal (address i) (address i)
    one_constructor : {k r s : ℕ} {vs ws : Bindings} → EqualEach vs ws → Equal (built r k vs) (built s k ws)

  pub data EqualEach : Bindings → Bindings → Type 0 where
    no_arguments : EqualEach empty empty
    one_argument : {n m : ℕ} {v w : Value} {vs ws : Bindings} →
        Equal v w → EqualEach vs ws → EqualEach (bind n v vs) (bind m w ws)

mutual
  -- The pattern at row q matches the value where `held` is held at the case or receive, with the bindings before and
  -- after, newest first, and the row after it.
  pub data MatchesAt (p : Program) (held : Bindings) : ℕ → Value → (found found' : Bindings) → ℕ → Type 0 where
    -- "(30, name bound)", "A pattern's name always binds afresh."
    by_name : {q n : ℕ} {v : Value} {found : Bindings} →
        RowAt p q 30 n → MatchesAt p held q v found (bind n v found) (q + 1)
    -- "(31, constructor), then its arity of patterns": a built value of that constructor, whose arguments they match
    by_constructor : {q k r e : ℕ} {vs found found' : Bindings} →
        RowAt p q 31 k →
        MatchesEach p held (q + 1) vs found found' e →
        MatchesAt p held q (built r k vs) found found' e
    -- "(32, 0) any value"
    by_any : {q n : ℕ} {v : Value} {found : Bindings} →
        RowAt p q 32 n → MatchesAt p held q v found found (q + 1)
    -- document 02, (iii): "(33, name read): it matches a value equal to the one held"
    by_held : {q n : ℕ} {v w : Value} {found : Bindings} →
        RowAt p q 33 n → Holds p held n w → Equal v w → MatchesAt p held q v found found (q + 1)

  -- Patterns from row q on match the values, one each, in order.
  pub data MatchesEach (p : Program) (held : Bindings) : ℕ → Bindings → (found found' : Bindings) → ℕ → Type 0 where
    no_values : {q : ℕ} {found : Bindings} → MatchesEach p held q empty found found q
    one_value : {q m n e : ℕ} {v : Value} {vs found found' found'' : Bindings} →
        MatchesAt p held q v found found' m →
        MatchesEach p held m vs found' found'' e →
        MatchesEach p held q (bind n v vs) found found'' e

-- the pattern at row q matches the value where `held` is held, and held' is held then
abbrev pub Match : Program → Bindings → ℕ → Value → Bindings → Type 0
Match p held q v held' = (e : ℕ) × MatchesAt p held q v held held' e

-- it does not match it
abbrev pub Refuses : Program → Bindings → ℕ → Value → Type 0
Refuses p held q v = (held' : Bindings) → Match p held q v held' → ⊥

-- "its first matching branch": it matches, and each branch before it does not
pub record FirstBranch (p : Program) (held : Bindings) (bs : List ℕ) (v : Value) (b : ℕ) (held' : Bindings) : Type 0
  where
    pub before : List ℕ
    pub behind : List ℕ
    pub there : bs ≡ before ++ b ∷ behind
    pub matches : Match p held b v held'
    pub first : (c : ℕ) → Memᴰ c before → Refuses p held c v

-- The functions give these values and bindings and no others.
pub record MatchingExactly : Type 0 where
  pub equals : (v w : Value) → (equal v w ≡ true) ↔ Equal v w
  pub values : (p : Program) (held : Bindings) (n : ℕ) (v : Value) → (value_of p held n ≡ some v) ↔ Holds p held n v
  pub matches : (p : Program) (held held' : Bindings) (q : ℕ) (v : Value) →
      (match p held q v ≡ some held') ↔ Match p held q v held'
  pub refuses : (p : Program) (held : Bindings) (q : ℕ) (v : Value) → (match p held q v ≡ none) ↔ Refuses p held q v
