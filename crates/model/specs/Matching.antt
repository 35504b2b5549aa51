-- Document 01, "How a station runs": which branch takes a value, and what it binds.
use Rattle.std.specs.Prelude.{ℕ, zero, suc, ◌+◌, ◌-◌, Bool, true, false, ◌&&◌, ◌||◌, List, [], ◌∷◌, eqb}
use Rattle.std.proofs.Math.Option.{Option, some, none}
use Rattle.model.specs.Tags.{tag_pattern_name, tag_pattern_constructor, tag_pattern_any, tag_pattern_held}
use Rattle.model.specs.Rows.{Program, size, tag, num}
use Rattle.model.specs.Heads.{branch_body_of}
use Rattle.model.specs.Values.{Value, Bindings, empty, bind, join, arguments_of, equal, value_of}

-- Document 02, (iii): "it matches a value equal to the one held"
unfoldable pub equals_held : Program → Bindings → ℕ → Value → Bool
equals_held p held n v = elim (value_of p held n) [ none ↦ false | some w ↦ equal v w ]

-- the pattern at row q matches the value and binds nothing: any value, or one equal to that of a held name
unfoldable pub passes_over : Program → Bindings → ℕ → Value → Bool
passes_over p held q v =
    eqb (tag p q) tag_pattern_any || eqb (tag p q) tag_pattern_held && equals_held p held (num p q) v

-- The values still to be matched stand in order, and so do the pattern rows from q on: a name takes its value, a
-- constructor puts the arguments in its value's place, any value and one equal to a held one are passed over, and a row
-- that is no pattern matches nothing. n rows are left; `held` are the bindings at the case or receive, `found` these
-- with the names matched so far in front.
unfoldable pub match_rows : Program → Bindings → ℕ → ℕ → Bindings → Bindings → Option Bindings
match_rows p held zero q empty found = some found
match_rows p held zero q (bind m v vs) found = none
match_rows p held (suc n) q empty found = some found
match_rows p held (suc n) q (bind m v vs) found =
    elim (eqb (tag p q) tag_pattern_constructor) [
      | true ↦
          elim (arguments_of (num p q) v) [
            | none ↦ none
            | some inner ↦ match_rows p held n (q + 1) (join inner vs) found
          ]
      | false ↦
          elim (eqb (tag p q) tag_pattern_name) [
            | true ↦ match_rows p held n (q + 1) vs (bind (num p q) v found)
            | false ↦ elim (passes_over p held q v) [ true ↦ match_rows p held n (q + 1) vs found | false ↦ none ]
          ]
    ]

-- the bindings after a match of the pattern at row q with a value
unfoldable pub match : Program → Bindings → ℕ → Value → Option Bindings
match p held q v = match_rows p held (size p - q) q (bind 0 v empty) held

-- where a branch goes on, and with which bindings
pub record Taken : Type 0 where
  pub location : ℕ
  pub held : Bindings

-- "the first such branch", "its first matching branch"
unfoldable pub first_branch : Program → Bindings → List ℕ → Value → Option Taken
first_branch p held [] v = none
first_branch p held (q ∷ qs) v =
    elim (match p held q v) [
      | none ↦ first_branch p held qs v
      | some held' ↦ some
          (record { location = branch_body_of p q; held = held' })
    ]

-- what a receive takes, and the mailbox without it
pub record Received : Type 0 where
  pub taken : Taken
  pub mailbox : List Value

-- "A receive takes the earliest message that any branch matches"
unfoldable pub receive_from : Program → Bindings → List ℕ → List Value → Option Received
receive_from p held qs [] = none
receive_from p held qs (v ∷ vs) =
    elim (first_branch p held qs v) [
      | some t ↦ some (record { taken = t; mailbox = vs })
      | none ↦
          elim (receive_from p held qs vs) [
            | none ↦ none
            | some r ↦ some (record { taken = r.taken; mailbox = v ∷ r.mailbox })
          ]
    ]
