-- Where names hold: rests, next heads, the interval of a scope, and refusal 5.
use Prim.Native.Nat.{ℕ, ◌+◌, ◌≤◌, ◌<◌}
use native.Mathlib.Decide.{ℕ_discrete}
use native.Mathlib.Omega.{arith}
use mathlib.Core.Path.{◌≡◌, refl, sym, ◌∙◌, ap}
use mathlib.Core.Bool.{Bool, true, false, not}
use mathlib.Core.List.{List, [], ◌∷◌}
use mathlib.Core.Logic.{◌⊎◌, inl, inr, ⊎_elim}
use mathlib.Core.Option.{none}
use lib.ListN.{length, get_or, set}
use lib.Seq.{get_or-set_same, get_or-set_other}
use lib.Dec.{leb, ltb, eqb}
use borrow.Author.Tests.{eq-eqb, ne_eqb, le-leb, lt-leb, leb-true}
use Rattle.std.proofs.Common.{Ok, Err}
use Rattle.model.specs.declared.Verdict.TheVariants.{Scope}
use Rattle.model.specs.Verdict.{unless}
use Rattle.model.specs.Index.{first}
use Rattle.model.specs.Reader.{past}
use Rattle.model.specs.Rows.{Program, program, size, tag, num, kind, is_head_of, expression, lead, past_items, row_check_of}
use Rattle.model.specs.Scopes.{binds, uses, binds_name, binder, rest, next_head, is_held_in, in_scope, out_of_scope, scope_check_of}
use Rattle.model.specs.Verify.{outcome}
use Rattle.model.proofs.Logic.{test, true_false, and_left, and_right}
use Rattle.model.proofs.Index.{first_end, first_hit, first_miss, First, first_is}
use Rattle.program.specs.Rows.{from}
use Rattle.model.specs.declared.Sizes.{Sizes}
use Rattle.model.specs.Words.{columns}
use Rattle.program.proofs.Reading.{past_tag}
use Rattle.layout.specs.Tables.{Ends}
use Rattle.layout.proofs.Visits.{past_is, head_read}
use Rattle.layout.proofs.Resting.{rested}

-- the tags of uses
pub uses_these : (t : ℕ) → (t ≡ 1) ⊎ ((t ≡ 8) ⊎ ((t ≡ 21) ⊎ (t ≡ 33))) → true ≡ uses t
unfolding uses
uses_these t h = ⊎_elim (λ e. rw e) (⊎_elim (λ e. rw e) (⊎_elim (λ e. rw e) (λ e. rw e))) h

pub uses_none : (t : ℕ) → ((t ≡ 1) ⊎ ((t ≡ 8) ⊎ ((t ≡ 21) ⊎ (t ≡ 33))) → ⊥) → false ≡ uses t
unfolding uses
uses_none t k =
    rw (ne_eqb t 1 (λ e. k (inl e)), ne_eqb t 8 (λ e. k (inr (inl e))), ne_eqb t 21 (λ e. k (inr (inr (inl e)))), ne_eqb t 33 (λ e. k (inr (inr (inr e)))))

module _ (p : Program) where
  -- next heads, from the last row to the first
  abbrev pub Heads : ℕ → List ℕ → Type 0
  Heads i table = (r : ℕ) → i ≤ r → r < size p → get_or table r 0 ≡ next_head p r

  pub heads_set : (i r v : ℕ) (table : List ℕ) → i ≡ r + 1 → r < length table → v ≡ next_head p r → Heads i table → Heads r (set table r v)
  heads_set i r v table z a e h x b c = elim (ℕ_discrete x r) [
    | yes f ↦ rw (f, get_or-set_same table r v 0 a) e
    | no f ↦ get_or-set_other table r x v 0 f ∙ h x (omega arith) c
  ]

  pub head_here : (r : ℕ) → r < size p → is_head_of (tag p r) ≡ true → r ≡ next_head p r
  unfolding next_head
  head_here r a t = sym (first_hit r (size p) (λ q. is_head_of (tag p q)) a t)

  pub head_behind : (i r v : ℕ) → i ≡ r + 1 → r < size p → is_head_of (tag p r) ≡ false → v ≡ next_head p i → v ≡ next_head p r
  unfolding next_head
  head_behind i r v z a t e = e ∙ (ap (λ j. first j (size p) (λ q. is_head_of (tag p q))) z ∙ sym (first_miss r (size p) (λ q. is_head_of (tag p q)) a t))

  pub head_end : size p ≡ next_head p (size p)
  unfolding next_head
  head_end = sym (first_end (size p) (size p) (λ q. is_head_of (tag p q)) (omega arith))

  -- refusal 5, by the loop
  pub scope_out : (r : ℕ) → r < size p → first 0 (size p) (out_of_scope p) ≡ r → Err (Scope (4 + r)) ≡ outcome (scope_check_of p)
  unfolding scope_check_of unless outcome
  scope_out r a h = rw (h, ne_eqb r (size p) (omega arith))

  pub scopes_pass : first 0 (size p) (out_of_scope p) ≡ size p → Ok tt ≡ outcome (scope_check_of p)
  unfolding scope_check_of unless outcome
  scopes_pass h = rw (h, eq-eqb (size p) (size p) refl)

  -- a scope, as the code tests it
  pub scope_global : (b r : ℕ) → tag p b ≡ 11 → true ≡ in_scope p b r
  unfolding in_scope
  scope_global b r e = rw e

  pub scope_before : (b r h : ℕ) → (tag p b ≡ 11 → ⊥) → h ≡ is_held_in p b → r < h → false ≡ in_scope p b r
  unfolding in_scope
  scope_before b r h e f a = rw (ne_eqb (tag p b) 11 e, lt-leb (is_held_in p b) r (omega arith))

  pub scope_within : (b r h e : ℕ) → (tag p b ≡ 11 → ⊥) → h ≡ is_held_in p b → h ≤ r → e ≡ past_items p (expression ∷ []) h → ltb r e ≡ in_scope p b r
  unfolding in_scope
  scope_within b r h e g f a z =
      rw (ne_eqb (tag p b) 11 g, le-leb (is_held_in p b) r (omega arith)) (ap (ltb r) (z ∙ ap (past_items p (expression ∷ [])) f))

  -- a row that reads nothing, one whose name no row binds, and any other
  pub out_unused : (r : ℕ) → uses (tag p r) ≡ false → false ≡ out_of_scope p r
  unfolding out_of_scope
  out_unused r e = rw e

  pub out_by : (r n v : ℕ) (x : Bool) → uses (tag p r) ≡ true → n ≡ num p r → v ≡ binder p n → x ≡ in_scope p v r → not x ≡ out_of_scope p r
  unfolding out_of_scope
  out_by r n v x e f g h = rw (e, ← f, ← g) (ap not h)

  binder_first : (n : ℕ) → First 0 (size p) (binds_name p n) (binder p n)
  unfolding binder
  binder_first n = first_is 0 (size p) (binds_name p n) (omega arith)

  pub binder_binds : (n v : ℕ) → v ≡ binder p n → v < size p → binds (tag p v) ≡ true
  unfolding binds_name
  binder_binds n v e a = let t = (binder_first n).passes (omega arith) in rw e (and_left (binds (tag p (binder p n))) (eqb (num p (binder p n)) n) t)

  binder_upto : (n v : ℕ) → v ≡ binder p n → v ≤ size p
  binder_upto n v e = let a = (binder_first n).upto in omega arith

  -- the head of the expression where a name holds
  pub holds_rest : (b x : ℕ) → is_head_of (tag p b) ≡ true → x ≡ rest p b → x ≡ is_held_in p b
  unfolding is_held_in
  holds_rest b x t e = rw (t, is_held_in) e

  pub holds_next : (b x : ℕ) → is_head_of (tag p b) ≡ false → x ≡ next_head p b → x ≡ is_held_in p b
  unfolding is_held_in
  holds_next b x t e = rw (t, is_held_in) e

-- a head that binds has a tag from 2 to 7
binds_range : (t : ℕ) → is_head_of t ≡ true → binds t ≡ true → (2 ≤ t) × (t ≤ 7)
unfolding is_head_of binds
binds_range t h b =
    let lo = leb-true 1 t (and_left (leb 1 t) (leb t 9) h) in
    let hi = leb-true t 9 (and_right (leb 1 t) (leb t 9) h) in
    elim (ℕ_discrete t 1) [
      | yes e ↦ true_false b (ap binds e)
      | no e ↦ elim (ℕ_discrete t 8) [
        | yes f ↦ true_false b (ap binds f)
        | no f ↦ elim (ℕ_discrete t 9) [ yes g ↦ true_false b (ap binds g) | no g ↦ (omega arith, omega arith) ]
      ]
    ]

module _ (ws : List ℕ) (s : Sizes) where
  -- an expression is read where a name holds
  pub holds_end : (b h v : ℕ) (table : List ℕ) → row_check_of (program ws s) ≡ none → b < size (program ws s) → binds (tag (program ws s) b) ≡ true → h ≡ is_held_in (program ws s) b → h < size (program ws s) → Ends (program ws s) table → v ≡ get_or table h 0 → v ≡ past_items (program ws s) (expression ∷ []) h
  unfolding is_held_in rest next_head from
  holds_end b h v table k a t e c after f =
      let p = program ws s in
      let by : (q : ℕ) → from p (expression ∷ []) h ≡ past q → v ≡ past_items p (expression ∷ []) h
      = λ q m. f ∙ (after.after_expression h q m ∙ sym (past_is p (expression ∷ []) h q m)) in
      test (is_head_of (tag p b))
      (λ y. let (lo, hi) = binds_range (tag p b) y t in
      let w = rested ws s b k a lo hi in
      let z : h ≡ w.at = e ∙ (rw (y, is_held_in) (past_is p (lead (kind (tag p b))) (b + 1) w.at w.leads)) in
      by w.end (ap (from p (expression ∷ [])) z ∙ w.rests))
      (λ y. let z : h ≡ first b (size p) (λ q. is_head_of (tag p q)) = e ∙ rw (y, is_held_in) in
      let w = first_is b (size p) (λ q. is_head_of (tag p q)) (omega arith) in
      let (q, m) = head_read p h k c (ap (λ i. is_head_of (tag p i)) z ∙ w.passes (omega arith)) in
      by q m)

  -- a name that no row binds holds nowhere
  pub out_unbound : (r n v : ℕ) → uses (tag (program ws s) r) ≡ true → n ≡ num (program ws s) r → v ≡ binder (program ws s) n → size (program ws s) ≤ v → r < size (program ws s) → true ≡ out_of_scope (program ws s) r
  unfolding program columns is_head_of
  out_unbound r n v e f g a b =
      let p = program ws s in
      let z : v ≡ size p = omega (arith, binder_upto p n v g) in
      let t = past_tag ws s v a in
      out_by p r n v false e f g
      (scope_before p v r (size p) (omega arith) (holds_next p v (size p) (ap is_head_of t) (head_end p ∙ ap (next_head p) (sym z))) b)
