-- What each item says to a row, as the readers of the code test it.
use Prim.Native.Nat.{ℕ, zero, suc, ◌-◌, ◌≤◌, ◌<◌}
use native.Mathlib.Omega.{arith}
use mathlib.Core.Path.{◌≡◌, refl, sym, ◌∙◌, ap}
use mathlib.Core.Bool.{Bool, true, ◌&&◌, ◌||◌}
use mathlib.Core.List.{List, [], ◌∷◌, ◌++◌}
use mathlib.Core.Option.{none}
use mathlib.Core.Logic.{◌⊎◌, inl, inr, ⊎_elim}
use lib.ListN.{replicate}
use lib.Dec.{leb, ltb, eqb}
use borrow.Author.Tests.{eqb-true, eq-eqb, ne_eqb, le-leb}
use Rattle.model.specs.declared.Sizes.{Sizes}
use Rattle.model.specs.Limits.{max_arity}
use Rattle.model.specs.Reader.{fits}
use Rattle.model.specs.Rows.{Program, program, size, tag, kind, constructor, global, expression, made, operand, branches, pattern, body_form_of, branch_items, lead, arity, is_name, is_branch_count_of, step, expression_step, pattern_step}
use Rattle.model.proofs.Logic.{or_cases, test, or_none, or_first, or_second}
use Rattle.program.specs.Rows.{listed, listed_item, counted_items}

-- a row's test in the code: its tag v, then a second test
pub both : (t u v : ℕ) (b c : Bool) → t ≡ v → t ≡ u → b ≡ c → b ≡ (eqb v u && c)
both t u v b c e f h = rw (eq-eqb v u (sym e ∙ f)) h

pub not_both : (t u v : ℕ) (c : Bool) → t ≡ v → (t ≡ u → ⊥) → eqb t u ≡ (eqb v u && c)
not_both t u v c e f = rw (← e, ne_eqb t u f)

module _ (ws : List ℕ) (s : Sizes) where
  pub listed_says : (u t n : ℕ) → listed u ≡ true → step (program ws s) (listed_item u) t n ≡ fits (eqb t u && ltb n s.names) []
  unfolding program listed listed_item step is_name
  listed_says u t n h =
      ⊎_elim (λ e. let z = eqb-true u 21 e in rw z) (λ e. let z = eqb-true u 23 e in rw z) (or_cases (eqb u 21) (eqb u 23) h)

  pub counted_says : (u t n : ℕ) → listed u ≡ true → step (program ws s) (counted_items u) t n ≡ fits (eqb t 22 && leb n max_arity) (replicate n (listed_item u))
  unfolding program listed listed_item counted_items step
  counted_says u t n h =
      ⊎_elim (λ e. let z = eqb-true u 21 e in rw z) (λ e. let z = eqb-true u 23 e in rw z) (or_cases (eqb u 21) (eqb u 23) h)

  pub constructor_says : (t n : ℕ) → step (program ws s) constructor t n ≡ fits (eqb t 10 && leb n max_arity) []
  unfolding program step
  constructor_says t n = refl

  pub global_says : (t n : ℕ) → step (program ws s) global t n ≡ fits (eqb t 11 && ltb n s.names) body_form_of
  unfolding program step is_name
  global_says t n = refl

  pub made_says : (t n : ℕ) → step (program ws s) made t n ≡ fits (eqb t 20 && ltb n s.constructors) (replicate (arity (program ws s) n) operand)
  unfolding program step
  made_says t n = refl

  pub branches_25 : (t n : ℕ) → t ≡ 25 → step (program ws s) branches t n ≡ fits (is_branch_count_of n) (branch_items n)
  unfolding program step
  branches_25 t n e = rw e

  pub branches_other : (t n : ℕ) → (t ≡ 25 → ⊥) → step (program ws s) branches t n ≡ none
  unfolding program step fits
  branches_other t n e = rw (ne_eqb t 25 e)

  -- a pattern, by its tag
  pub pattern_named : (d t n : ℕ) → 0 < d → (t ≡ 30) ⊎ (t ≡ 33) → step (program ws s) (pattern d) t n ≡ fits (ltb n s.names) []
  unfolding program step pattern_step is_name
  pattern_named d t n h (inl e) = rw (e, le-leb 1 d h) (ap (λ b. fits b []) (or_none (ltb n s.names)))
  pattern_named d t n h (inr e) = rw (e, le-leb 1 d h)

  pub pattern_31 : (d t n : ℕ) → 0 < d → t ≡ 31 → step (program ws s) (pattern d) t n ≡ fits (ltb n s.constructors) (replicate (arity (program ws s) n) (pattern (d - 1)))
  unfolding program step pattern_step
  pattern_31 d t n h e = rw (e, le-leb 1 d h)

  pub pattern_32 : (d t n : ℕ) → 0 < d → t ≡ 32 → step (program ws s) (pattern d) t n ≡ fits (eqb n 0) []
  unfolding program step pattern_step
  pattern_32 d t n h e = rw (e, le-leb 1 d h) (ap (λ b. fits b []) (or_none (eqb n 0)))

  pub pattern_other : (d t n : ℕ) → ((t ≡ 30) ⊎ (t ≡ 33) → ⊥) → (t ≡ 31 → ⊥) → (t ≡ 32 → ⊥) → step (program ws s) (pattern d) t n ≡ none
  unfolding program step pattern_step fits
  pattern_other d t n a b c = rw (ne_eqb t 31 b, pattern_step, ne_eqb t 30 (λ e. a (inl e)), ne_eqb t 32 c, ne_eqb t 33 (λ e. a (inr e))) (test (leb 1 d) (λ e. rw e) (λ e. rw e))

  pub pattern_none : (d t n : ℕ) → d ≡ 0 → step (program ws s) (pattern d) t n ≡ none
  unfolding program step pattern_step fits
  pattern_none d t n h = rw h (test (eqb t 31) (λ e. rw (e, pattern_step)) (λ e. rw (e, pattern_step)))

  -- an expression, by the tag of its head
  pub give_says : (t n : ℕ) → t ≡ 1 → step (program ws s) expression t n ≡ fits (ltb n s.names) []
  unfolding program step expression_step kind is_name
  give_says t n e = rw e

  pub bound_says : (t n : ℕ) → 2 ≤ t → t ≤ 7 → step (program ws s) expression t n ≡ fits (ltb n s.names) (lead (kind t) ++ expression ∷ [])
  unfolding program step expression_step kind is_name lead
  bound_says zero n a b = absurd (omega arith)
  bound_says (suc zero) n a b = absurd (omega arith)
  bound_says (suc (suc zero)) n a b = refl
  bound_says (suc (suc (suc zero))) n a b = refl
  bound_says (suc (suc (suc (suc zero)))) n a b = refl
  bound_says (suc (suc (suc (suc (suc zero))))) n a b = refl
  bound_says (suc (suc (suc (suc (suc (suc zero)))))) n a b = refl
  bound_says (suc (suc (suc (suc (suc (suc (suc zero))))))) n a b = refl
  bound_says (suc (suc (suc (suc (suc (suc (suc (suc t)))))))) n a b = absurd (omega arith)

  pub case_says : (t n : ℕ) → t ≡ 8 → step (program ws s) expression t n ≡ fits (ltb n s.names) (branches ∷ [])
  unfolding program step expression_step kind is_name
  case_says t n e = rw e

  pub receive_says : (t n : ℕ) → t ≡ 9 → step (program ws s) expression t n ≡ fits (is_branch_count_of n) (branch_items n)
  unfolding program step expression_step kind
  receive_says t n e = rw e

  pub no_head_says : (t n : ℕ) → (1 ≤ t → 9 < t) → step (program ws s) expression t n ≡ none
  unfolding program step expression_step kind
  no_head_says zero n h = refl
  no_head_says (suc zero) n h = absurd (omega (arith, h (omega arith)))
  no_head_says (suc (suc zero)) n h = absurd (omega (arith, h (omega arith)))
  no_head_says (suc (suc (suc zero))) n h = absurd (omega (arith, h (omega arith)))
  no_head_says (suc (suc (suc (suc zero)))) n h = absurd (omega (arith, h (omega arith)))
  no_head_says (suc (suc (suc (suc (suc zero))))) n h = absurd (omega (arith, h (omega arith)))
  no_head_says (suc (suc (suc (suc (suc (suc zero)))))) n h = absurd (omega (arith, h (omega arith)))
  no_head_says (suc (suc (suc (suc (suc (suc (suc zero))))))) n h = absurd (omega (arith, h (omega arith)))
  no_head_says (suc (suc (suc (suc (suc (suc (suc (suc zero)))))))) n h = absurd (omega (arith, h (omega arith)))
  no_head_says (suc (suc (suc (suc (suc (suc (suc (suc (suc zero))))))))) n h = absurd (omega (arith, h (omega arith)))
  no_head_says (suc (suc (suc (suc (suc (suc (suc (suc (suc (suc t)))))))))) n h = refl

-- what stands between a head and its rest, by the head's tag
pub lead_of : {t u : ℕ} → t ≡ u → lead (kind t) ≡ lead (kind u)
lead_of e = ap (λ t. lead (kind t)) e

pub lead_none : (t : ℕ) → (t ≡ 2 → ⊥) → (t ≡ 3 → ⊥) → (t ≡ 4 → ⊥) → (t ≡ 5 → ⊥) → (t ≡ 6 → ⊥) → lead (kind t) ≡ []
unfolding lead kind
lead_none zero a b c d e = refl
lead_none (suc zero) a b c d e = refl
lead_none (suc (suc zero)) a b c d e = absurd (a refl)
lead_none (suc (suc (suc zero))) a b c d e = absurd (b refl)
lead_none (suc (suc (suc (suc zero)))) a b c d e = absurd (c refl)
lead_none (suc (suc (suc (suc (suc zero))))) a b c d e = absurd (d refl)
lead_none (suc (suc (suc (suc (suc (suc zero)))))) a b c d e = absurd (e refl)
lead_none (suc (suc (suc (suc (suc (suc (suc zero))))))) a b c d e = refl
lead_none (suc (suc (suc (suc (suc (suc (suc (suc zero)))))))) a b c d e = refl
lead_none (suc (suc (suc (suc (suc (suc (suc (suc (suc zero))))))))) a b c d e = refl
lead_none (suc (suc (suc (suc (suc (suc (suc (suc (suc (suc t)))))))))) a b c d e = refl

-- a row with tag k, or the end of the rows: a class is such, and a return; t is the row's tag, as the code has read it
module _ (p : Program) (r t : ℕ) (tag_is : t ≡ tag p r) where
  pub with_tag : (k : ℕ) → t ≡ k → eqb t k ≡ (eqb (tag p r) k || eqb r (size p))
  with_tag k h = rw (← tag_is) (or_first (eqb t k) (eqb r (size p)) (eq-eqb t k h))

  pub without_tag : (k : ℕ) → (t ≡ k → ⊥) → eqb r (size p) ≡ (eqb (tag p r) k || eqb r (size p))
  without_tag k h = rw (← tag_is) (or_second (eqb t k) (eqb r (size p)) (ne_eqb t k h))
