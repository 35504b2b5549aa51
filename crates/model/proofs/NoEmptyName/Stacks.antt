-- What is still to come where a parameter or a pattern stands: more of them, and then the expression in which their names hold.
use Prim.Native.Nat.{ℕ, zero, suc, ◌-◌}
use mathlib.Core.Path.{◌≡◌, refl}
use mathlib.Core.List.{List, [], ◌∷◌, ◌++◌}
use mathlib.Core.Option.{some}
use lib.ListN.{replicate}
use lib.Dec.{eqb}
use Rattle.model.specs.Rows.{Program, arity, kind, Kind, lead}
use Rattle.model.specs.Rows.{give, build, function, call, send, spawn, self, case, receive, other}
use Rattle.model.specs.Rows.{Item, constructor, global, header, parameter, expression, made, operand, arguments, branches, pattern, branch_items, step}
use Rattle.model.proofs.Logic.{test}
use Rattle.model.proofs.Parse.Grammar.{fits_some, follows, expression_follows, pattern_made, pattern_leaf}

-- headers, parameters and patterns, and then an expression
pub data Trail : List Item → Type 0 where
  to_expression : {xs : List Item} → Trail (expression ∷ xs)
  past_header : {xs : List Item} → Trail xs → Trail (header ∷ xs)
  past_parameter : {xs : List Item} → Trail xs → Trail (parameter ∷ xs)
  past_pattern : {d : ℕ} {xs : List Item} → Trail xs → Trail (pattern d ∷ xs)

-- items that neither bind a name nor lead to an expression
pub data Plain : Item → Type 0 where
  a_constructor : Plain constructor
  a_made : Plain made
  an_operand : Plain operand
  the_arguments : Plain arguments
  the_branches : Plain branches

-- Each header, parameter and pattern leads to an expression. G is asked for each global: where it is empty there is none.
pub data Led (G : Type 0) : List Item → Type 0 where
  no_items : Led G []
  plain : {x : Item} {xs : List Item} → Plain x → Led G xs → Led G (x ∷ xs)
  a_global : {xs : List Item} → G → Led G xs → Led G (global ∷ xs)
  trailing : {x : Item} {xs : List Item} → Trail (x ∷ xs) → Led G xs → Led G (x ∷ xs)

pub parameters_trail : (n : ℕ) {xs : List Item} → Trail xs → Trail (replicate n parameter ++ xs)
parameters_trail zero h = h
parameters_trail (suc n) h = past_parameter (parameters_trail n h)

patterns_trail : (n d : ℕ) {xs : List Item} → Trail xs → Trail (replicate n (pattern d) ++ xs)
patterns_trail zero d h = h
patterns_trail (suc n) d h = past_pattern (patterns_trail n d h)

-- a pattern's row is followed by patterns, or by nothing of its own
pub pattern_trail : (p : Program) (t n d : ℕ) {xs more : List Item} → step p (pattern d) t n ≡ some more → Trail xs → Trail (more ++ xs)
pattern_trail p t n d {xs} {more} says h =
    test (eqb t 31)
    (λ e. rw (← (pattern_made p d t n more e says).1) (patterns_trail (arity p n) (d - 1) h))
    (λ e. rw (← (pattern_leaf p d t n more e says).2) h)

module _ {G : Type 0} where
  -- items that stand several times
  parameters_led : (n : ℕ) {xs : List Item} → Trail xs → Led G xs → Led G (replicate n parameter ++ xs)
  parameters_led zero t h = h
  parameters_led (suc n) t h = trailing (parameters_trail (suc n) t) (parameters_led n t h)

  patterns_led : (n d : ℕ) {xs : List Item} → Trail xs → Led G xs → Led G (replicate n (pattern d) ++ xs)
  patterns_led zero d t h = h
  patterns_led (suc n) d t h = trailing (patterns_trail (suc n) d t) (patterns_led n d t h)

  plain_led : {x : Item} (n : ℕ) {xs : List Item} → Plain x → Led G xs → Led G (replicate n x ++ xs)
  plain_led zero c h = h
  plain_led (suc n) c h = plain c (plain_led n c h)

  pub expression_led : {xs : List Item} → Led G xs → Led G (expression ∷ xs)
  expression_led h = trailing to_expression h

  pub form_led : {xs : List Item} → Led G xs → Led G (header ∷ expression ∷ xs)
  form_led h = trailing (past_header to_expression) (expression_led h)

  pub branches_led : (n : ℕ) {xs : List Item} → Led G xs → Led G (branch_items n ++ xs)
  unfolding branch_items
  branches_led zero h = h
  branches_led (suc n) h = trailing (past_pattern to_expression) (expression_led (branches_led n h))

  -- what stands between a head and its rest, and all that follows a head
  pub lead_led : (k : Kind) {xs : List Item} → Led G xs → Led G (lead k ++ xs)
  unfolding lead
  lead_led give h = h
  lead_led build h = plain a_made h
  lead_led function h = form_led h
  lead_led call h = plain an_operand (plain the_arguments h)
  lead_led send h = plain an_operand (plain an_operand h)
  lead_led spawn h = plain an_operand h
  lead_led self h = h
  lead_led case h = h
  lead_led receive h = h
  lead_led other h = h

  follows_led : (k : Kind) (n : ℕ) {xs : List Item} → Led G xs → Led G (follows k n ++ xs)
  unfolding lead
  follows_led give n h = h
  follows_led build n h = lead_led build (expression_led h)
  follows_led function n h = lead_led function (expression_led h)
  follows_led call n h = lead_led call (expression_led h)
  follows_led send n h = lead_led send (expression_led h)
  follows_led spawn n h = lead_led spawn (expression_led h)
  follows_led self n h = lead_led self (expression_led h)
  follows_led case n h = plain the_branches h
  follows_led receive n h = branches_led n h
  follows_led other n h = h

  module _ (p : Program) (t n : ℕ) where
    pattern_led : (d : ℕ) {xs more : List Item} → step p (pattern d) t n ≡ some more → Trail xs → Led G xs → Led G (more ++ xs)
    pattern_led d {xs} {more} says r h =
        test (eqb t 31)
        (λ e. rw (← (pattern_made p d t n more e says).1) (patterns_led (arity p n) (d - 1) r h))
        (λ e. rw (← (pattern_leaf p d t n more e says).2) h)

    -- a row that fits leaves such items behind
    pub led_step : {x : Item} {xs more : List Item} → step p x t n ≡ some more → Led G (x ∷ xs) → Led G (more ++ xs)
    unfolding step
    led_step {more = more} says (plain a_constructor h) = rw (← (fits_some _ _ more says).1) h
    led_step {more = more} says (plain a_made h) = rw (← (fits_some _ _ more says).1) (plain_led (arity p n) an_operand h)
    led_step {more = more} says (plain an_operand h) = rw (← (fits_some _ _ more says).1) h
    led_step {more = more} says (plain the_arguments h) = rw (← (fits_some _ _ more says).1) (plain_led n an_operand h)
    led_step {more = more} says (plain the_branches h) = rw (← (fits_some _ _ more says).1) (branches_led n h)
    led_step {more = more} says (a_global g h) = rw (← (fits_some _ _ more says).1) (form_led h)
    led_step {more = more} says (trailing to_expression h) = rw (← expression_follows p (kind t) t n more refl says) (follows_led (kind t) n h)
    led_step {more = more} says (trailing (past_header r) h) = rw (← (fits_some _ _ more says).1) (parameters_led n r h)
    led_step {more = more} says (trailing (past_parameter r) h) = rw (← (fits_some _ _ more says).1) h
    led_step says (trailing (past_pattern {d = d} r) h) = pattern_led d says r h
