-- From a parameter or a pattern's name to the next head: it stands within the same items, and nothing but headers, parameters and patterns is
-- between. No global stands in an expression.
use Prim.Native.Nat.{ℕ, zero, suc, ◌+◌, ◌-◌, ◌≤◌, ◌<◌}
use native.Mathlib.Omega.{arith}
use native.Mathlib.Decide.{ℕ_discrete}
use mathlib.Core.Path.{◌≡◌}
use mathlib.Core.Bool.{true}
use mathlib.Core.List.{List, [], ◌∷◌, ◌++◌}
use mathlib.Core.Logic.{◌⊎◌, ⊎_elim}
use mathlib.Core.Option.{some}
use lib.ListN.{replicate}
use lib.Dec.{leb}
use borrow.Author.Tests.{le-leb}
use Rattle.model.specs.Rows.{Program, tag, num, is_head_of, Item, constructor, global, expression, step, declarations, whole}
use Rattle.model.proofs.Logic.{and_intro}
use Rattle.model.proofs.Parse.Spans.{spans_unique, spans_none, spans_takes}
use Rattle.model.proofs.Parse.Reached.{Stands, stands_row}
use Rattle.model.proofs.Parse.Grammar.{fits_tag, expression_tag, pattern_tag}
use Rattle.model.proofs.NoEmptyName.Stacks.{Trail, to_expression, past_header, past_parameter, past_pattern, a_constructor, a_made, an_operand, the_arguments, the_branches, Led, no_items, plain, a_global, trailing, parameters_trail, pattern_trail, led_step, expression_led}

-- the next head from row b on stands before row e
pub record NextHead (p : Program) (b e : ℕ) : Type 0 where
  pub head : ℕ
  pub from : b ≤ head
  pub upto : head < e
  pub is : is_head_of (tag p head) ≡ true
  pub between : (k : ℕ) → b ≤ k → k < head → 11 < tag p k

module _ (p : Program) where
  -- a parameter and a pattern's name lead on
  leads : {G : Type 0} (t n : ℕ) {x : Item} {xs more : List Item} → step p x t n ≡ some more → (t ≡ 23) ⊎ (t ≡ 30) → Led G (x ∷ xs) → Trail (x ∷ xs)
  unfolding step
  leads t n {more = more} says leaf (plain a_constructor h) = let z = (fits_tag t 10 _ _ more says).0 in absurd (⊎_elim (λ u. omega arith) (λ u. omega arith) leaf)
  leads t n {more = more} says leaf (plain a_made h) = let z = (fits_tag t 20 _ _ more says).0 in absurd (⊎_elim (λ u. omega arith) (λ u. omega arith) leaf)
  leads t n {more = more} says leaf (plain an_operand h) = let z = (fits_tag t 21 _ _ more says).0 in absurd (⊎_elim (λ u. omega arith) (λ u. omega arith) leaf)
  leads t n {more = more} says leaf (plain the_arguments h) = let z = (fits_tag t 22 _ _ more says).0 in absurd (⊎_elim (λ u. omega arith) (λ u. omega arith) leaf)
  leads t n {more = more} says leaf (plain the_branches h) = let z = (fits_tag t 25 _ _ more says).0 in absurd (⊎_elim (λ u. omega arith) (λ u. omega arith) leaf)
  leads t n {more = more} says leaf (a_global g h) = let z = (fits_tag t 11 _ _ more says).0 in absurd (⊎_elim (λ u. omega arith) (λ u. omega arith) leaf)
  leads t n says leaf (trailing r h) = r

  -- a global stands in no expression
  not_global : (t n : ℕ) {x : Item} {xs more : List Item} → step p x t n ≡ some more → t ≡ 11 → Led ⊥ (x ∷ xs) → ⊥
  unfolding step
  not_global t n {more = more} says g (plain a_constructor h) = let z = (fits_tag t 10 _ _ more says).0 in absurd (omega arith)
  not_global t n {more = more} says g (plain a_made h) = let z = (fits_tag t 20 _ _ more says).0 in absurd (omega arith)
  not_global t n {more = more} says g (plain an_operand h) = let z = (fits_tag t 21 _ _ more says).0 in absurd (omega arith)
  not_global t n {more = more} says g (plain the_arguments h) = let z = (fits_tag t 22 _ _ more says).0 in absurd (omega arith)
  not_global t n {more = more} says g (plain the_branches h) = let z = (fits_tag t 25 _ _ more says).0 in absurd (omega arith)
  not_global t n says g (a_global never h) = never
  not_global t n {more = more} says g (trailing to_expression h) = let z = expression_tag p t n more says in absurd (omega arith)
  not_global t n {more = more} says g (trailing (past_header r) h) = let z = (fits_tag t 22 _ _ more says).0 in absurd (omega arith)
  not_global t n {more = more} says g (trailing (past_parameter r) h) = let z = (fits_tag t 23 _ _ more says).0 in absurd (omega arith)
  not_global t n {more = more} says g (trailing (past_pattern {d = d} r) h) = let z = pattern_tag p d t n more says in absurd (omega arith)

module _ {p : Program} where
  -- at a row that is no head, the next one's
  later : {b e : ℕ} → 11 < tag p b → NextHead p (b + 1) e → NextHead p b e
  later {b} {e} t h =
      let lo = h.from in
      let hi = h.upto in
      record {
        head = h.head;
        from = omega arith;
        upto = hi;
        is = h.is;
        between = λ k l u. elim (ℕ_discrete k b) [
          | yes z ↦ rw z t
          | no z ↦ h.between k (omega arith) u
        ];
      }

  at_expression : {xs below : List Item} {r e : ℕ} → Stands p (expression ∷ xs) below r e → NextHead p r e
  unfolding is_head_of
  at_expression {r = r} {e = e} h =
      let f = stands_row h in
      let (lo, hi) = expression_tag p (tag p r) (num p r) f.more f.says in
      record {
        head = r;
        from = omega arith;
        upto = (spans_takes h.spans).0;
        is = and_intro (leb 1 (tag p r)) (leb (tag p r) 9) (le-leb 1 (tag p r) lo) (le-leb (tag p r) 9 hi);
        between = λ k l u. absurd (omega arith);
      }

  trail_on : (n : ℕ) {us below : List Item} {r e : ℕ} → Trail us → e ≡ r + n → Stands p us below r e → NextHead p r e
  unfolding step
  trail_on zero to_expression z h = at_expression h
  trail_on zero (past_header t) z h = let w = spans_takes h.spans in absurd (omega arith)
  trail_on zero (past_parameter t) z h = let w = spans_takes h.spans in absurd (omega arith)
  trail_on zero (past_pattern t) z h = let w = spans_takes h.spans in absurd (omega arith)
  trail_on (suc n) to_expression z h = at_expression h
  trail_on (suc n) {r = r} (past_header t) z h =
      let f = stands_row h in
      let (t₁, same) = fits_tag (tag p r) 22 _ _ f.more f.says in
      later (omega arith) (trail_on n (parameters_trail (num p r) t) (omega arith) (rw (← same) at f.rest))
  trail_on (suc n) {r = r} (past_parameter t) z h =
      let f = stands_row h in
      let (t₁, same) = fits_tag (tag p r) 23 _ [] f.more f.says in
      later (omega arith) (trail_on n t (omega arith) (rw (← same) at f.rest))
  trail_on (suc n) {r = r} (past_pattern {d = d} t) z h =
      let f = stands_row h in
      let t₁ = pattern_tag p d (tag p r) (num p r) f.more f.says in
      later (omega arith) (trail_on n (pattern_trail p (tag p r) (num p r) d f.says t) (omega arith) f.rest)

  -- at each row of such items, such items are left
  led_in : {G : Type 0} (n : ℕ) (xs : List Item) {below : List Item} {r s e : ℕ} → Led G xs → s ≡ r + n → s < e → Stands p xs below r e → (x : Item) × (us : List Item) × Led G (x ∷ us) × Stands p (x ∷ us) below s e
  led_in zero [] {r = r} l z hi h = let w = spans_unique (spans_none r) h.spans in absurd (omega arith)
  led_in zero (x ∷ xs) {r = r} {s = s} l z hi h = let y : r ≡ s = omega arith in (x, xs, l, rw y at h)
  led_in (suc n) [] {r = r} l z hi h = let w = spans_unique (spans_none r) h.spans in absurd (omega arith)
  led_in (suc n) (x ∷ xs) {r = r} l z hi h =
      let f = stands_row h in
      led_in n (f.more ++ xs) (led_step p (tag p r) (num p r) f.says l) (omega arith) hi f.rest

  pub led_at : {G : Type 0} (xs : List Item) {below : List Item} {r e : ℕ} (s : ℕ) → Led G xs → r ≤ s → s < e → Stands p xs below r e → (x : Item) × (us : List Item) × Led G (x ∷ us) × Stands p (x ∷ us) below s e
  led_at xs {r = r} s l lo hi h = led_in (s - r) xs l (omega arith) hi h

  pub leaf_head : {G : Type 0} {xs below : List Item} {r e : ℕ} (b : ℕ) → Led G xs → Stands p xs below r e → r ≤ b → b < e → (tag p b ≡ 23) ⊎ (tag p b ≡ 30) → NextHead p b e
  leaf_head {xs = xs} {e = e} b l h lo hi leaf =
      let (x, us, l', k) = led_at xs b l lo hi h in
      trail_on (e - b) (leads p (tag p b) (num p b) (stands_row k).says leaf l') (omega arith) k

  pub no_global : {below : List Item} {r e : ℕ} (g : ℕ) → Stands p (expression ∷ []) below r e → r ≤ g → g < e → tag p g ≡ 11 → ⊥
  no_global g h lo hi t =
      let (x, us, l, k) = led_at (expression ∷ []) g (expression_led no_items) lo hi h in
      not_global p (tag p g) (num p g) (stands_row k).says t l

-- constructors and globals, of which nothing is asked
pub declarations_led : (p : Program) → Led (Unit {0}) (declarations p)
unfolding declarations
declarations_led p = each p.constructors
  where
    globals : (n : ℕ) → Led (Unit {0}) (replicate n global)
    globals zero = no_items
    globals (suc n) = a_global tt (globals n)

    each : (n : ℕ) → Led (Unit {0}) (replicate n constructor ++ replicate p.functions global)
    each zero = globals p.functions
    each (suc n) = plain a_constructor (each n)

trail_append : {xs : List Item} (ys : List Item) → Trail xs → Trail (xs ++ ys)
trail_append ys to_expression = to_expression
trail_append ys (past_header t) = past_header (trail_append ys t)
trail_append ys (past_parameter t) = past_parameter (trail_append ys t)
trail_append ys (past_pattern t) = past_pattern (trail_append ys t)

led_append : {G : Type 0} {xs ys : List Item} → Led G xs → Led G ys → Led G (xs ++ ys)
led_append no_items k = k
led_append (plain c h) k = plain c (led_append h k)
led_append (a_global g h) k = a_global g (led_append h k)
led_append {ys = ys} (trailing t h) k = trailing (trail_append ys t) (led_append h k)

pub whole_led : (p : Program) → Led (Unit {0}) (whole p)
unfolding whole
whole_led p = led_append (declarations_led p) (expression_led no_items)
