-- Document 01, "Closed tables", and document 02, (iv): what each state wants; refusal 8 (open).
use Rattle.std.specs.Prelude.{ℕ, zero, suc, ◌+◌, ◌-◌, Bool, true, false, not, ◌&&◌, ◌||◌, List, [], ◌∷◌, get_or, replicate, eqb}
use Rattle.model.specs.declared.Sizes.{Sizes}
use Rattle.model.specs.declared.Verdict.TheVariants.{Open}
use Rattle.model.specs.Limits.{max_depth}
use Rattle.model.specs.Tags.{tag_build, tag_global, tag_pattern_name, tag_pattern_constructor, tag_pattern_held}
use Rattle.model.specs.Index.{implies, all, first}
use Rattle.model.specs.Verdict.{Check, ◌>>◌, unless}
use Rattle.model.specs.Message.{tables_offset}
use Rattle.model.specs.Rows.{Program, size, tag, num, arity, pattern, past_items}
use Rattle.model.specs.Heads.{Call, call_at, head_at, gives, builds, makes, calls, sends, spawns, selfs, cases}
use Rattle.model.specs.Heads.{receives, no_head, branch_body_of, is_class_of, parameters, body, takes, start}
use Rattle.model.specs.Tables.{Tables, has, each, some_of, State, state, state_at, has_state, onward}

-- the row of subpattern i of the constructor pattern at row q, which may be d levels deep
unfoldable pub subpattern : Program → ℕ → ℕ → ℕ → ℕ
subpattern p d q i = past_items p (replicate i (pattern (d - 1))) (q + 1)

-- the name of argument i of the value built at row v
unfoldable pub argument : Program → ℕ → ℕ → ℕ
argument p v i = num p (v + 2 + i)

-- v is a build row of the constructor of the pattern at row q
unfoldable pub is_same_constructor : Program → ℕ → ℕ → Bool
is_same_constructor p q v = eqb (tag p v) tag_build && eqb (num p (v + 1)) (num p q)

-- Document 02, (iii): v "is the same class, or both are build rows of one constructor"
unfoldable pub may_equal : Program → ℕ → ℕ → Bool
may_equal p v w = is_class_of p v && eqb v w || eqb (tag p w) tag_build && is_same_constructor p (w + 1) v

-- "A name or any-pattern may match everything. A constructor pattern may match a build row of that constructor if each
-- subpattern may match some value of the argument name." Document 02, (iii): a held name "may match where a value of
-- the name is" as above. The pattern at row q may be d levels deep.
unfoldable pub may_match : Program → Tables → ℕ → ℕ → ℕ → Bool
may_match p t zero q v = true
may_match p t (suc d) q v =
    elim (eqb (tag p q) tag_pattern_constructor) [
      | true ↦
          is_same_constructor p q v &&
          all 0 (arity p (num p q))
          (λ i. some_of t.flow (argument p v i) (may_match p t d (subpattern p (suc d) q i)))
      | false ↦ implies (eqb (tag p q) tag_pattern_held) (some_of t.flow (num p q) (may_equal p v))
    ]

-- "A pattern name holds each value at its spot, reached only through values that may match": the names of the pattern
-- at row q hold what a match with v gives them
unfoldable pub names_hold : Program → Tables → ℕ → ℕ → ℕ → Bool
names_hold p t zero q v = true
names_hold p t (suc d) q v =
    elim (eqb (tag p q) tag_pattern_constructor) [
      | true ↦
          all 0 (arity p (num p q))
          (λ i. each t.flow (argument p v i)
          (λ w. implies (may_match p t d (subpattern p (suc d) q i) w) (names_hold p t d (subpattern p (suc d) q i) w)))
      | false ↦ implies (eqb (tag p q) tag_pattern_name) (has t.flow (num p q) v)
    ]

-- the branch whose pattern stands at row q may match v
unfoldable pub may_take : Program → Tables → ℕ → ℕ → Bool
may_take p t q v = may_match p t max_depth q v

-- "each branch that may match: its names' values, state (c, branch)"
unfoldable pub branches_closed : Program → Tables → State → List ℕ → ℕ → Bool
branches_closed p t s [] v = true
branches_closed p t s (q ∷ qs) v =
    implies (may_take p t q v) (names_hold p t max_depth q v && has_state t (onward s (branch_body_of p q))) &&
    branches_closed p t s qs v

-- "parameters hold the arguments' values"
unfoldable pub passes : Tables → Call → List ℕ → Bool
passes t call names =
    all 0 call.count (λ i. each t.flow (get_or call.arguments i 0) (λ v. has t.flow (get_or names i 0) v))

-- document 02, (iv): "a called body has its call row": where the call of state s enters the function f
unfoldable pub entered : Program → State → ℕ → State
entered p s f = state s.class (body p f) s.location

-- "call: for each function the callee may be, with equal count: parameters hold the arguments' values; state (c, its
-- body)"
unfoldable pub is_call_closed : Program → Tables → State → Call → Bool
is_call_closed p t s call =
    each t.flow call.callee
    (λ f. implies (takes p f call.count) (passes t call (parameters p f) && has_state t (entered p s f)))

-- Document 02, (iv): the state w is at the call that s returns to, "(c, call, b)". (With R there is none: no state
-- stands at R, which is no row.)
unfoldable pub waits_for : State → State → Bool
waits_for w s = eqb w.class s.class && eqb w.location s.return

-- where the waiting state goes on: "(c, call's rest, b)"
unfoldable pub resumed : Program → State → State
resumed p w = onward w (call_at p w.location).rest

-- "Giving back from (c, r, call), wherever r stands, for each state (c, call, b), in order of b, fills the call's name
-- and leads to (c, call's rest, b)."
unfoldable pub is_give_closed : Program → Tables → State → ℕ → Bool
is_give_closed p t s n =
    all 0 t.states.size
    (λ i. implies (waits_for (state_at t i) s)
    (each t.flow n (λ v. has t.flow (call_at p s.return).name v) && has_state t (resumed p (state_at t i))))

-- "send: for each class d the target may be and value v of the message: mail (d, v), the name holds v, state (c, rest)"
unfoldable pub send_closed : Program → Tables → State → ℕ → ℕ → ℕ → ℕ → Bool
send_closed p t s n target message r =
    each t.flow target
    (λ d. implies (is_class_of p d)
    (each t.flow message (λ v. has t.mail d v && (has t.flow n v && has_state t (onward s r)))))

-- document 02, (iv): "The start and spawned states have R": where a process begins that the spawn of state s starts at
-- the function f
unfoldable pub begun : Program → State → ℕ → State
begun p s f = state s.location (body p f) (size p)

-- "spawn: for each function without parameters it may be: the name holds r, states (c, rest) and (r, body)"
unfoldable pub spawn_closed : Program → Tables → State → ℕ → ℕ → ℕ → Bool
spawn_closed p t s n function r =
    each t.flow function
    (λ f. implies (takes p f 0)
    (has t.flow n s.location && (has_state t (onward s r) && has_state t (begun p s f))))

-- "Then, for each state (c, r)": everything that it wants is there
unfoldable pub state_closed : Program → Tables → State → Bool
state_closed p t s =
    elim (head_at p s.location) [
      | gives n ↦ is_give_closed p t s n
      | builds n k ns r ↦ has t.flow n s.location && has_state t (onward s r)
      | makes n r ↦ has t.flow n s.location && has_state t (onward s r)
      | calls call ↦ is_call_closed p t s call
      | sends n target message r ↦ send_closed p t s n target message r
      | spawns n function r ↦ spawn_closed p t s n function r
      | selfs n r ↦ has t.flow n s.class && has_state t (onward s r)
      | cases n qs ↦ each t.flow n (branches_closed p t s qs)
      | receives qs ↦ each t.mail s.class (branches_closed p t s qs)
      | no_head ↦ true
    ]

-- the state in which a run begins: "(R, start)", and document 02, (iv): "The start and spawned states have R"
unfoldable pub start_state : Program → State
start_state p = state (size p) (start p) (size p)

-- "Wanted first: each tag 11 name holds its own row, and state (R, start)"
unfoldable pub is_opening_closed : Program → Tables → Bool
is_opening_closed p t =
    all 0 (size p) (λ r. implies (eqb (tag p r) tag_global) (has t.flow (num p r) r)) && has_state t (start_state p)

-- 8: "an opening entry missing: size F; else the first state that lacks something, its first column's word"
unfoldable pub open_check : Sizes → Program → Tables → Check
open_check s p t =
    let i : ℕ = first 0 t.states.size (λ k. not (state_closed p t (state_at t k))) in
    unless (is_opening_closed p t) (Open (tables_offset s)) >>
    unless (eqb i t.states.size) (Open (tables_offset s + 3 + s.flows + s.mails + i))
