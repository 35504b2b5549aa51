-- Document 02, (viii): "Listings of programs whose messages have no arguments, A included, are compared as before."
-- What the system was by the letters of document 01, a constructor's number, C or C+1, kept for this promise alone.
use Rattle.std.specs.Prelude.{ℕ, ◌+◌, ◌*◌, ◌≡◌, Bool, true, false, ◌&&◌, List, [], eqb}
use Rattle.model.specs.Limits.{Limits}
use Rattle.model.specs.Index.{any, count, gather, only, from_all}
use Rattle.model.specs.Words.{Columns, left, right}
use Rattle.model.specs.Rows.{Program, size, tag, num, arity}
use Rattle.model.specs.Heads.{head_at, gives, builds, makes, calls, sends, spawns, selfs, cases, receives}
use Rattle.model.specs.Heads.{no_head, branch_body_of, is_class_of}
use Rattle.model.specs.Letters.{head_count, row_head_of}
use Rattle.model.specs.Tables.{Tables, some_of, State, onward, state_at, state_index_of}
use Rattle.model.specs.Closed.{may_take}
use Rattle.model.specs.Rules.{Rule, rule, reads, puts, from_each, state_rules_of}
use Rattle.model.specs.Listing.{listing, system_words}
use Rattle.model.specs.Wanted.{Member}
use Rattle.model.specs.Verify.{message}
use Rattle.model.specs.Refusals.{Passed}

-- (class, letter) as one number, in ascending order of the pairs; a class is at most R
unfoldable pub pair_number : Program → ℕ → ℕ → ℕ
pair_number p c k = c * head_count p + k

unfoldable pub pair_numbers : Program → ℕ
pair_numbers p = (size p + 1) * head_count p

-- some mail entry has this class and letter
unfoldable pub mails_pair : Program → Tables → ℕ → Bool
mails_pair p t x =
    any 0 t.mail.size (λ i. eqb (pair_number p (left t.mail i) (row_head_of p (right t.mail i))) x)

-- "each distinct (class, letter) of mail": how many there are, and the counter of one
unfoldable pub pair_count : Program → Tables → ℕ
pair_count p t = count 0 (pair_numbers p) (mails_pair p t)

unfoldable pub pair_index : Program → Tables → ℕ → ℕ → ℕ
pair_index p t c k = t.states.size + count 0 (pair_number p c k) (mails_pair p t)

-- what each letter gives, ascending, where the test passes
unfoldable pub from_heads : {A : Type 0} → Program → (ℕ → Bool) → (ℕ → A) → List A
from_heads p test f = gather 0 (head_count p) (λ k. only (test k) (f k))

-- some value that the list pairs with a has this letter and passes
unfoldable pub head_of_some : Program → Columns → ℕ → (ℕ → Bool) → ℕ → Bool
head_of_some p c a test k = some_of c a (λ v. eqb (row_head_of p v) k && test v)

-- the rules of a state: those of a send and of a receive by these letters, the others as they are
unfoldable pub rules_by_head : Program → Tables → ℕ → State → List Rule
rules_by_head p t i s =
    elim (head_at p s.location) [
      | gives n ↦ state_rules_of p t i s
      | builds n k ns r ↦ state_rules_of p t i s
      | makes n r ↦ state_rules_of p t i s
      | calls call ↦ state_rules_of p t i s
      | sends n target message r ↦
          from_each t.flow target
          (λ d. elim (is_class_of p d) [
            | true ↦ from_heads p (head_of_some p t.flow message (λ v. true))
                (λ k. rule i (state_index_of t (onward s r)) (puts (pair_index p t d k)))
            | false ↦ []
          ])
      | spawns n function r ↦ state_rules_of p t i s
      | selfs n r ↦ state_rules_of p t i s
      | cases n qs ↦ state_rules_of p t i s
      | receives qs ↦
          from_all qs
          (λ q. from_heads p (head_of_some p t.mail s.class (may_take p t q))
          (λ k. rule i (state_index_of t (onward s (branch_body_of p q))) (reads (pair_index p t s.class k))))
      | no_head ↦ state_rules_of p t i s
    ]

unfoldable pub one_deep_words : Program → Tables → List ℕ
one_deep_words p t =
    listing t.states.size (pair_count p t) (gather 0 t.states.size (λ i. rules_by_head p t i (state_at t i)))

-- no value of mail has arguments
abbrev pub WithoutArguments : Program → Tables → Type 0
WithoutArguments p t = (c v : ℕ) → Member t.mail c v → tag p v ≡ 2 → arity p (num p (v + 1)) ≡ 0

-- "are compared as before": every word of the listing is what it was
abbrev pub ListingsKept : Type 0
ListingsKept =
    (most : Limits) (bytes : List ℕ) → Passed most bytes 9 →
    WithoutArguments (message bytes).program (message bytes).tables →
    system_words (message bytes).program (message bytes).tables ≡
    one_deep_words (message bytes).program (message bytes).tables
