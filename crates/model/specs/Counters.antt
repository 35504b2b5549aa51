-- Document 01, "The system", and document 02, (viii): the letters that mail allows, the counters, and which of them an
-- item of a bad counts; refusal 9 (counters).
use Rattle.std.specs.Prelude.{ℕ, ◌+◌, ◌-◌, ◌*◌, Bool, true, false, ◌&&◌, List, [], ◌∷◌, map, length, get_or, leb, ltb, eqb}
use Rattle.std.proofs.Math.Option.{Option, some, none}
use Rattle.model.specs.declared.Sizes.{Sizes}
use Rattle.model.specs.declared.Verdict.TheVariants.{Counters}
use Rattle.model.specs.Limits.{Limits}
use Rattle.model.specs.Tags.{tag_build}
use Rattle.model.specs.Index.{all, gather, only, from_all}
use Rattle.model.specs.Words.{left, right}
use Rattle.model.specs.Keys.{Key, begins, ascending, position}
use Rattle.model.specs.Verdict.{Check, unless}
use Rattle.model.specs.Message.{tables_offset}
use Rattle.model.specs.Rows.{Program, tag, num, arity}
use Rattle.model.specs.Letters.{head_count, row_head_of, Letter}
use Rattle.model.specs.Tables.{Tables, some_of, State, state_at, state_index_of, has_state}
use Rattle.model.specs.Closed.{argument}
use Rattle.model.specs.Bads.{Subject, at_head, of_letters, of_letter}

-- the heads of a name's values that pass, ascending
unfoldable pub name_heads : Program → Tables → (ℕ → Bool) → ℕ → List ℕ
name_heads p t test n =
    gather 0 (head_count p) (λ h. only (some_of t.flow n (λ w. eqb (row_head_of p w) h && test w)) h)

-- of each argument of a value built at row v, where argument i may be only what passes
unfoldable pub heads_each : Program → Tables → (ℕ → ℕ → Bool) → ℕ → List (List ℕ)
heads_each p t test v =
    gather 0 (arity p (num p (v + 1))) (λ i. name_heads p t (test i) (argument p v i) ∷ [])

-- every way to take one element of each list, from the left
unfoldable pub choices : List (List ℕ) → List (List ℕ)
choices [] = [] ∷ []
choices (xs ∷ xss) = from_all xs (λ x. map (λ ys. x ∷ ys) (choices xss))

-- the letters of a value of the tables, where argument i may be only what passes
unfoldable pub letters_where : Program → Tables → (ℕ → ℕ → Bool) → ℕ → List Letter
letters_where p t test v =
    map (λ hs. row_head_of p v ∷ hs)
    (elim (eqb (tag p v) tag_build) [ true ↦ choices (heads_each p t test v) | false ↦ [] ∷ [] ])

-- every argument passes
abbrev pub any_argument : ℕ → ℕ → Bool
any_argument i w = true

-- document 02, (viii): each letter "that a mail value's arguments, each by its name alone, allow"
unfoldable pub letters_allowed : Program → Tables → ℕ → List Letter
letters_allowed p t v = letters_where p t any_argument v

-- "Each distinct letter that a mail value's arguments ... allow has a counter, ordered by class, constructor, then
-- heads from the left": the class, then the letter
unfoldable pub letter_keys : Program → Tables → List Key
letter_keys p t =
    ascending
    (gather 0 t.mail.size
    (λ i. map (λ l. left t.mail i ∷ l) (letters_allowed p t (right t.mail i))))

unfoldable pub letter_count_of : Program → Tables → ℕ
letter_count_of p t = length (letter_keys p t)

-- "Counters: the states in order, then each distinct (class, letter) of mail, ascending"
unfoldable pub counter_count : Program → Tables → ℕ
counter_count p t = t.states.size + letter_count_of p t

-- the counter of a (class, letter)
unfoldable pub letter_index : Program → Tables → ℕ → Letter → ℕ
letter_index p t c l = t.states.size + position (c ∷ l) (letter_keys p t)

unfoldable pub has_letter : Program → Tables → ℕ → Letter → Bool
has_letter p t c l = ltb (letter_index p t c l) (counter_count p t)

-- what can have a counter
pub data Counted : Type 0 where
  state_of : State → Counted
  letter_of : (class : ℕ) (letter : Letter) → Counted

-- the counter of a state or letter, where it has one
unfoldable pub counter_of : Program → Tables → Counted → Option ℕ
counter_of p t (state_of s) = elim (has_state t s) [ true ↦ some (state_index_of t s) | false ↦ none ]
counter_of p t (letter_of c l) = elim (has_letter p t c l) [ true ↦ some (letter_index p t c l) | false ↦ none ]

-- the state stands in the class at the head, wherever it returns to
unfoldable pub stands_in : ℕ → ℕ → State → Bool
stands_in c r s = eqb s.class c && eqb s.location r

-- x is the counter, where there is one
unfoldable pub is_counter : Option ℕ → ℕ → Bool
is_counter none x = false
is_counter (some y) x = eqb x y

-- counter x is that of a letter of this class and number
unfoldable pub is_of_number : Program → Tables → ℕ → ℕ → ℕ → Bool
is_of_number p t c k x =
    leb t.states.size x && begins (c ∷ k ∷ []) (get_or (letter_keys p t) (x - t.states.size) [])

-- counter x is one of those whose sum an item counts; document 02, (iv): "the sum over the third column"; (viii):
-- without the heads "it counts the sum"
unfoldable pub counts : Program → Tables → Subject → ℕ → Bool
counts p t (at_head c r) x = ltb x t.states.size && stands_in c r (state_at t x)
counts p t (of_letters c k) x = is_of_number p t c k x
counts p t (of_letter c l) x = is_counter (counter_of p t (letter_of c l)) x

-- so many letters a value of the tables allows, found without listing them: eight arguments of 66 heads allow 66^8
unfoldable pub choice_count : List (List ℕ) → ℕ
choice_count [] = 1
choice_count (xs ∷ xss) = length xs * choice_count xss

unfoldable pub allowed_count : Program → Tables → ℕ → ℕ
allowed_count p t v =
    elim (eqb (tag p v) tag_build) [ true ↦ choice_count (heads_each p t any_argument v) | false ↦ 1 ]

-- there are at most n counters. The letters are listed only where each value of mail allows at most n.
unfoldable pub counters_within : ℕ → Program → Tables → Bool
counters_within n p t =
    elim (all 0 t.mail.size (λ i. leb (allowed_count p t (right t.mail i)) n)) [
      | true ↦ leb (counter_count p t) n
      | false ↦ false
    ]

-- 9: "over 512: size S", by the limits in force; document 02, (viii): "Refusal 9 counts the new letters"
unfoldable pub counter_check_of : Limits → Sizes → Program → Tables → Check
counter_check_of most s p t = unless (counters_within most.counters p t) (Counters (tables_offset s + 2))
