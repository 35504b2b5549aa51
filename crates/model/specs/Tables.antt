-- Document 01, "Closed tables", and document 02, (iv): the flow, mail and state lists; refusal 7 (entry). Document 02,
-- (x): refusal 22 (function mailed).
use Rattle.std.specs.Prelude.{ℕ, ◌+◌, ◌-◌, ◌*◌, Bool, not, ◌&&◌, ◌||◌, List, [], ◌∷◌, get_or, take, drop, ltb, eqb}
use Rattle.model.specs.declared.Sizes.{Sizes}
use Rattle.model.specs.declared.Verdict.TheVariants.{Entry, FunctionMailed}
use Rattle.model.specs.Tags.{tag_build, tag_call}
use Rattle.model.specs.Index.{implies, any, all, first}
use Rattle.model.specs.Words.{Columns, left, right, columns}
use Rattle.model.specs.Keys.{Key, below}
use Rattle.model.specs.Verdict.{Check, ◌>>◌, unless}
use Rattle.model.specs.Message.{tables_offset}
use Rattle.model.specs.Rows.{Program, size, tag, is_head_of, is_name}
use Rattle.model.specs.Heads.{is_function, is_class_of}

-- "Flow holds (name, value), mail (class, value)", states (class, expression head); document 02, (iv): "The state list
-- gains a third array of S numbers"
pub record Tables : Type 0 where
  pub flow : Columns
  pub mail : Columns
  pub states : Columns
  pub returns : List ℕ

-- "Tables: F flow, M mail, S state entries; first columns, then second columns, lists in that order": the list of n
-- entries behind k others
unfoldable pub entries : List ℕ → Sizes → ℕ → ℕ → Columns
entries ws s n k = columns ws n (tables_offset s + 3 + k) (tables_offset s + 3 + (s.flows + s.mails + s.states) + k)

-- document 02, (iv): the third array stands "at the end of the tables part"
unfoldable pub third_column : List ℕ → Sizes → List ℕ
third_column ws s = take s.states (drop (tables_offset s + 3 + 2 * (s.flows + s.mails + s.states)) ws)

unfoldable pub tables : List ℕ → Sizes → Tables
tables ws s =
    record {
      flow = entries ws s s.flows 0;
      mail = entries ws s s.mails s.flows;
      states = entries ws s s.states (s.flows + s.mails);
      returns = third_column ws s;
    }

-- "A state is (class, expression head)"; document 02, (iv): and "the call row that the process will return to, or R
-- where none is pushed"
pub record State : Type 0 where
  pub class : ℕ
  pub location : ℕ
  pub return : ℕ

abbrev pub state : ℕ → ℕ → ℕ → State
state c r b = record { class = c; location = r; return = b }

-- the state of the same process at another head of its body: class and return stay
abbrev pub onward : State → ℕ → State
onward s r = state s.class r s.return

unfoldable pub state_at : Tables → ℕ → State
state_at t i = state (left t.states i) (right t.states i) (get_or t.returns i 0)

-- an entry and a state as keys: "The list ascends in the three columns."
unfoldable pub pair_key : Columns → ℕ → Key
pair_key c i = left c i ∷ right c i ∷ []

unfoldable pub state_key : State → Key
state_key s = s.class ∷ s.location ∷ s.return ∷ []

-- "A value is a row with tag 2, 3 or 11, or a class (a process address)"
unfoldable pub is_value_of : Program → ℕ → Bool
is_value_of p v = eqb (tag p v) tag_build || (is_function p v || is_class_of p v)

-- Document 02, (iv), the third number of a state: a call row, or R. "An entry with a third number that is neither gets
-- refusal 7."
unfoldable pub is_return_of : Program → ℕ → Bool
is_return_of p b = eqb (tag p b) tag_call || eqb b (size p)

-- each number in its range: of an entry that pairs a name or class with a value, and of a state
unfoldable pub is_pair : (ℕ → Bool) → (ℕ → Bool) → Columns → ℕ → Bool
is_pair legal_left legal-right c i = legal_left (left c i) && legal-right (right c i)

unfoldable pub is_state : Program → State → Bool
is_state p s = is_class_of p s.class && (is_head_of (tag p s.location) && is_return_of p s.return)

-- the first of n entries that is "out of range, or not above the one before in its list"
unfoldable pub first_misplaced : ℕ → (ℕ → Bool) → (ℕ → Key) → ℕ
first_misplaced n in_range key = first 0 n (λ i. not (in_range i && (eqb i 0 || below (key (i - 1)) (key i))))

unfoldable pub list_check : ℕ → ℕ → (ℕ → Bool) → (ℕ → Key) → Check
list_check at n in_range key =
    let i : ℕ = first_misplaced n in_range key in
    unless (eqb i n) (Entry (at + i))

-- 7: "out of range, or not above the one before in its list: first column's word"
unfoldable pub entry_check_of : Sizes → Program → Tables → Check
entry_check_of s p t =
    let at : ℕ = tables_offset s + 3 in
    list_check at t.flow.size (is_pair (is_name p) (is_value_of p) t.flow) (pair_key t.flow) >>
    list_check (at + s.flows) t.mail.size (is_pair (is_class_of p) (is_value_of p) t.mail) (pair_key t.mail) >>
    list_check (at + s.flows + s.mails) t.states.size (λ i. is_state p (state_at t i))
    (λ i. state_key (state_at t i))

-- 22: "exactly when a mail value has tag 3 or 11, placed at the first such entry's first column"
unfoldable pub mailed_check_of : Sizes → Program → Tables → Check
mailed_check_of s p t =
    let i : ℕ = first 0 t.mail.size (λ k. is_function p (right t.mail k)) in
    unless (eqb i t.mail.size) (FunctionMailed (tables_offset s + 3 + s.flows + i))

-- the list has the pair
unfoldable pub has : Columns → ℕ → ℕ → Bool
has c a b = any 0 c.size (λ i. eqb (left c i) a && eqb (right c i) b)

-- each, or some, second number that the list pairs with a passes
unfoldable pub each : Columns → ℕ → (ℕ → Bool) → Bool
each c a f = all 0 c.size (λ i. implies (eqb (left c i) a) (f (right c i)))

unfoldable pub some_of : Columns → ℕ → (ℕ → Bool) → Bool
some_of c a f = any 0 c.size (λ i. eqb (left c i) a && f (right c i))

unfoldable pub same_state : State → State → Bool
same_state a b = eqb a.class b.class && (eqb a.location b.location && eqb a.return b.return)

-- the number of a state in the list; S where it is not there
unfoldable pub state_index_of : Tables → State → ℕ
state_index_of t s = first 0 t.states.size (λ i. same_state (state_at t i) s)

unfoldable pub has_state : Tables → State → Bool
has_state t s = ltb (state_index_of t s) t.states.size
