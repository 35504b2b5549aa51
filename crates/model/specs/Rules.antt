-- Document 01, "The system": the rules of each state, in the listed order.
use Rattle.std.specs.Prelude.{ℕ, ◌-◌, Bool, true, false, List, [], ◌∷◌, map, eqb}
use Rattle.model.specs.Limits.{max_depth}
use Rattle.model.specs.Tags.{tag_pattern_constructor}
use Rattle.model.specs.Index.{implies, gather, only, from_all}
use Rattle.model.specs.Words.{Columns, left, right}
use Rattle.model.specs.Keys.{ascending}
use Rattle.model.specs.Rows.{Program, tag}
use Rattle.model.specs.Heads.{head_at, gives, builds, makes, calls, sends, spawns, selfs, cases, receives}
use Rattle.model.specs.Heads.{no_head, branch_body_of, is_class_of, takes}
use Rattle.model.specs.Letters.{Letter}
use Rattle.model.specs.Tables.{Tables, some_of, State, onward, state_at, state_index_of}
use Rattle.model.specs.Closed.{subpattern, may_match, may_take, entered, waits_for, resumed, begun}
use Rattle.model.specs.Counters.{letters_where, letters_allowed, letter_index}

-- "then nothing, (52, letter counter read), (53, letter counter put) or (54, new state)"
pub data Effect : Type 0 where
  quiet : Effect
  reads : ℕ → Effect
  puts : ℕ → Effect
  starts : ℕ → Effect

-- "A rule is (50, from), (51, to), then ..."
pub record Rule : Type 0 where
  pub from : ℕ
  pub to : ℕ
  pub effect : Effect

abbrev pub rule : ℕ → ℕ → Effect → Rule
rule from to effect = record { from = from; to = to; effect = effect }

-- what the list pairs with a, in order
unfoldable pub from_each : {A : Type 0} → Columns → ℕ → (ℕ → List A) → List A
from_each c a f = gather 0 c.size (λ i. elim (eqb (left c i) a) [ true ↦ f (right c i) | false ↦ [] ])

-- may argument i of a message that the pattern at row q matches be w? Below a constructor, by document 01's may-match.
unfoldable pub argument_fits : Program → Tables → ℕ → ℕ → ℕ → Bool
argument_fits p t q i w =
    implies (eqb (tag p q) tag_pattern_constructor) (may_match p t (max_depth - 1) (subpattern p max_depth q i) w)

-- Document 02, (viii): "A branch reads a letter if some message of it that mail allows may match": the letters of the
-- value v that the branch whose pattern stands at row q reads
unfoldable pub letters_read : Program → Tables → ℕ → ℕ → List Letter
letters_read p t q v = elim (may_take p t q v) [ true ↦ letters_where p t (argument_fits p t q) v | false ↦ [] ]

-- The rules of the state s, which has number i: "one rule per case above, repeats from one state dropped. Order: by
-- state; then function, call row or branch; send by class; then letter"; document 02, (iv): "in order of b"; (viii): "A
-- send has a rule for each class its target may be and each letter that a value of its message allows." Values that
-- allow one letter, and values that one branch may match, share their rule.
unfoldable pub state_rules_of : Program → Tables → ℕ → State → List Rule
state_rules_of p t i s =
    let to : State → Effect → Rule = λ s' effect. rule i (state_index_of t s') effect in
    elim (head_at p s.location) [
      | gives n ↦ gather 0 t.states.size
          (λ j. only (waits_for (state_at t j) s) (to (resumed p (state_at t j)) quiet))
      | builds n k ns r ↦ to (onward s r) quiet ∷ []
      | makes n r ↦ to (onward s r) quiet ∷ []
      | calls call ↦ from_each t.flow call.callee (λ f. only (takes p f call.count) (to (entered p s f) quiet))
      | sends n target message r ↦
          from_each t.flow target
          (λ d. elim (is_class_of p d) [
            | true ↦ map (λ l. to (onward s r) (puts (letter_index p t d l)))
                (ascending (from_each t.flow message (letters_allowed p t)))
            | false ↦ []
          ])
      | spawns n function r ↦
          from_each t.flow function
          (λ f. only (takes p f 0) (to (onward s r) (starts (state_index_of t (begun p s f)))))
      | selfs n r ↦ to (onward s r) quiet ∷ []
      | cases n qs ↦ from_all qs
          (λ q. only (some_of t.flow n (may_take p t q)) (to (onward s (branch_body_of p q)) quiet))
      | receives qs ↦
          from_all qs
          (λ q. map (λ l. to (onward s (branch_body_of p q)) (reads (letter_index p t s.class l)))
          (ascending (from_each t.mail s.class (letters_read p t q))))
      | no_head ↦ []
    ]

-- all rules, by state
unfoldable pub rules : Program → Tables → List Rule
rules p t = gather 0 t.states.size (λ i. state_rules_of p t i (state_at t i))
