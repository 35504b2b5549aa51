-- For each kind of step the rule that it follows is among the rules.
use Prim.Native.Nat.{ℕ, ◌+◌}
use native.Mathlib.Omega.{arith}
use mathlib.Core.Path.{◌≡◌, refl}
use mathlib.Core.Bool.{Bool, true, false}
use mathlib.Core.List.Memᴰ
use mathlib.Core.List.{List, [], map, Memᴰ}
use lib.Dec.{eqb}
use borrow.Author.Tests.{eq-eqb}
use Rattle.model.specs.Index.{only}
use Rattle.model.specs.Keys.{ascending}
use Rattle.model.specs.Words.{Columns, left, right}
use Rattle.model.specs.Rows.{Program, size, tag, num, kind}
use Rattle.model.specs.Rows.{give, build, function, call, send, spawn, self, case, receive}
use Rattle.model.specs.Scopes.{rest}
use Rattle.model.specs.Heads.{call_at, branch_rows, branch_body_of, is_class_of, body, takes}
use Rattle.model.specs.Letters.{Letter}
use Rattle.model.specs.Tables.{Tables, State, onward, state_at, state_index_of, some_of}
use Rattle.model.specs.Tables.{state as triple}
use Rattle.model.specs.Closed.{may_take, entered, waits_for, resumed, begun}
use Rattle.model.specs.Counters.{letters_allowed, letter_index}
use Rattle.model.specs.Rules.{Effect, quiet, reads, puts, starts, Rule, rule, from_each, letters_read, state_rules_of, rules}
use Rattle.model.specs.Limits.{max_depth}
use Rattle.model.specs.Wanted.{Member, ListedState, MayMatch, MayCall}
use Rattle.model.proofs.Logic.{and_intro}
use Rattle.model.proofs.Index.{gather_intro, only_intro, from_all_intro}
use Rattle.model.proofs.Keys.{ascending_has}
use Rattle.model.proofs.Exact.Members.{some_of_iff}
use Rattle.model.proofs.Exact.MayMatch.{may_match_iff}
use Rattle.model.proofs.Numbering.States.{listed_has, index_below, state_at_index}
use Rattle.model.proofs.Heads.{head_give, head_build, head_function, head_call, head_send, head_spawn, head_self, head_case, head_receive}

-- what stands in the lists that rules are gathered from

pub from_each_intro : {A : Type 0} (c : Columns) (a b : ℕ) (f : ℕ → List A) (x : A) → Member c a b → Memᴰ x (f b) → Memᴰ x (from_each c a f)
unfolding from_each
from_each_intro c a b f x m h =
    gather_intro 0 c.size m.at (λ i. elim (eqb (left c i) a) [ true ↦ f (right c i) | false ↦ [] ]) x (omega arith) m.below
    (rw (eq-eqb (left c m.at) a m.first) (rw m.second h))

some_of_intro : (c : Columns) (a b : ℕ) (f : ℕ → Bool) → Member c a b → f b ≡ true → some_of c a f ≡ true
some_of_intro c a b f m h = (some_of_iff c a f (λ x. (λ e. e, λ e. e))).1 (b, m, h)

module _ (p : Program) (t : Tables) where
  pub takes_it : (q v : ℕ) → MayMatch p t max_depth q v → may_take p t q v ≡ true
  unfolding may_take
  takes_it q v may = (may_match_iff p t max_depth q v).1 may

  -- the rules of a state that is there are among the rules
  in_rules : (s : State) (ρ : Rule) → ListedState t s → Memᴰ ρ (state_rules_of p t (state_index_of t s) s) → Memᴰ ρ (rules p t)
  unfolding rules
  in_rules s ρ m h =
      let there = listed_has t s m in
      gather_intro 0 t.states.size (state_index_of t s) (λ j. state_rules_of p t j (state_at t j)) ρ (omega arith) (index_below t s there)
      (rw (state_at_index t s there) h)

  -- the rule by which a process goes from one state to another
  abbrev pub moving : State → State → Effect → Rule
  moving s s' effect = rule (state_index_of t s) (state_index_of t s') effect

  module _ (s : State) (m : ListedState t s) where
    abbrev r : ℕ
    r = s.location

    -- on to another row of the same body
    abbrev on : ℕ → Effect → Rule
    on r' effect = moving s (onward s r') effect

    -- build, function and self
    pub rule_build : kind (tag p s.location) ≡ build → Memᴰ (moving s (onward s (rest p s.location)) quiet) (rules p t)
    unfolding state_rules_of
    rule_build k = in_rules s (on (rest p r) quiet) m (rw (head_build p r k, state_rules_of) (Memᴰ.head refl))

    pub rule_function : kind (tag p s.location) ≡ function → Memᴰ (moving s (onward s (rest p s.location)) quiet) (rules p t)
    unfolding state_rules_of
    rule_function k = in_rules s (on (rest p r) quiet) m (rw (head_function p r k, state_rules_of) (Memᴰ.head refl))

    pub rule_self : kind (tag p s.location) ≡ self → Memᴰ (moving s (onward s (rest p s.location)) quiet) (rules p t)
    unfolding state_rules_of
    rule_self k = in_rules s (on (rest p r) quiet) m (rw (head_self p r k, state_rules_of) (Memᴰ.head refl))

    pub rule_call : (f : ℕ) → kind (tag p s.location) ≡ call → MayCall p t (call_at p s.location) f → Memᴰ (moving s (triple s.class (body p f) s.location) quiet) (rules p t)
    unfolding state_rules_of entered
    rule_call f k may =
        let ρ : ℕ → Rule = λ g. moving s (triple s.class (body p g) r) quiet in
        in_rules s (ρ f) m
        (rw (head_call p r k, state_rules_of)
        (from_each_intro t.flow (call_at p r).callee f (λ g. only (takes p g (call_at p r).count) (ρ g)) (ρ f) may.0
        (only_intro (takes p f (call_at p r).count) (ρ f) may.1)))

    -- behind the call that the state returns to, where that itself returns to b
    pub rule_give : (b : ℕ) → kind (tag p s.location) ≡ give → ListedState t (triple s.class s.return b) → Memᴰ (moving s (triple s.class (call_at p s.return).rest b) quiet) (rules p t)
    unfolding state_rules_of waits_for resumed
    rule_give b k waits =
        let w : State = triple s.class s.return b in
        let there = listed_has t w waits in
        let ρ : State → Rule = λ x. moving s (resumed p x) quiet in
        in_rules s (ρ w) m
        (rw (head_give p r k, state_rules_of)
        (gather_intro 0 t.states.size (state_index_of t w) (λ j. only (waits_for (state_at t j) s) (ρ (state_at t j))) (ρ w) (omega arith) (index_below t w there)
        (rw (state_at_index t w there)
        (only_intro (waits_for w s) (ρ w)
        (and_intro (eqb s.class s.class) (eqb s.return s.return) (eq-eqb s.class s.class refl) (eq-eqb s.return s.return refl))))))

    pub rule_spawn : (f : ℕ) → kind (tag p s.location) ≡ spawn → Member t.flow (num p (s.location + 1)) f → takes p f 0 ≡ true → Memᴰ (moving s (onward s (rest p s.location)) (starts (state_index_of t (triple s.location (body p f) (size p))))) (rules p t)
    unfolding state_rules_of begun
    rule_spawn f k may none-taken =
        let ρ : ℕ → Rule = λ g. on (rest p r) (starts (state_index_of t (triple r (body p g) (size p)))) in
        in_rules s (ρ f) m
        (rw (head_spawn p r k, state_rules_of)
        (from_each_intro t.flow (num p (r + 1)) f (λ g. only (takes p g 0) (ρ g)) (ρ f) may (only_intro (takes p f 0) (ρ f) none-taken)))

    pub rule_send : (d v : ℕ) (l : Letter) → kind (tag p s.location) ≡ send → Member t.flow (num p (s.location + 1)) d → is_class_of p d ≡ true → Member t.flow (num p (s.location + 2)) v → Memᴰ l (letters_allowed p t v) → Memᴰ (moving s (onward s (rest p s.location)) (puts (letter_index p t d l))) (rules p t)
    unfolding state_rules_of
    rule_send d v l k target class message allowed =
        let ρ : ℕ → Letter → Rule = λ e x. on (rest p r) (puts (letter_index p t e x)) in
        let ls : List Letter = ascending (from_each t.flow (num p (r + 2)) (letters_allowed p t)) in
        in_rules s (ρ d l) m
        (rw (head_send p r k, state_rules_of)
        (from_each_intro t.flow (num p (r + 1)) d (λ e. elim (is_class_of p e) [ true ↦ map (ρ e) ls | false ↦ [] ]) (ρ d l) target
        (rw class (Memᴰ.map (ρ d) (ascending_has l _ (from_each_intro t.flow (num p (r + 2)) v (letters_allowed p t) l message allowed))))))

    pub rule_case : (q v : ℕ) → kind (tag p s.location) ≡ case → Memᴰ q (branch_rows p (num p (s.location + 1)) (s.location + 2)) → Member t.flow (num p s.location) v → MayMatch p t max_depth q v → Memᴰ (moving s (onward s (branch_body_of p q)) quiet) (rules p t)
    unfolding state_rules_of
    rule_case q v k branch value may =
        let ρ : ℕ → Rule = λ b. on (branch_body_of p b) quiet in
        in_rules s (ρ q) m
        (rw (head_case p r k, state_rules_of)
        (from_all_intro (branch_rows p (num p (r + 1)) (r + 2)) q (λ b. only (some_of t.flow (num p r) (may_take p t b)) (ρ b)) (ρ q) branch
        (only_intro (some_of t.flow (num p r) (may_take p t q)) (ρ q) (some_of_intro t.flow (num p r) v (may_take p t q) value (takes_it q v may)))))

    pub rule_receive : (q v : ℕ) (l : Letter) → kind (tag p s.location) ≡ receive → Memᴰ q (branch_rows p (num p s.location) (s.location + 1)) → Member t.mail s.class v → Memᴰ l (letters_read p t q v) → Memᴰ (moving s (onward s (branch_body_of p q)) (reads (letter_index p t s.class l))) (rules p t)
    unfolding state_rules_of
    rule_receive q v l k branch value read =
        let c : ℕ = s.class in
        let ρ : ℕ → Letter → Rule = λ b x. on (branch_body_of p b) (reads (letter_index p t c x)) in
        in_rules s (ρ q l) m
        (rw (head_receive p r k, state_rules_of)
        (from_all_intro (branch_rows p (num p r) (r + 1)) q (λ b. map (ρ b) (ascending (from_each t.mail c (letters_read p t b)))) (ρ q l) branch
        (Memᴰ.map (ρ q) (ascending_has l _ (from_each_intro t.mail c v (letters_read p t q) l value read)))))
