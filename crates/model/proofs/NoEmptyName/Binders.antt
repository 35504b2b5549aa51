-- Between a row that binds a name and the expression in which the name holds nothing stands that goes on behind that expression's head.
use Prim.Native.Nat.{ℕ, ◌+◌, ◌≤◌, ◌<◌}
use native.Mathlib.Decide.{dec_lt}
use native.Mathlib.Omega.{arith}
use mathlib.Core.Path.{◌≡◌, refl, sym, ap, subst}
use mathlib.Core.Bool.{true, false, ◌&&◌, ◌||◌}
use mathlib.Core.List.{List, [], ◌∷◌}
use mathlib.Core.Logic.{◌⊎◌, inl, inr, ⊎_elim}
use mathlib.Core.Option.{some}
use lib.Dec.{leb, ltb, eqb}
use borrow.Author.Tests.{eqb-true, leb-true, ltb-true, le-leb, lt-ltb}
use Rattle.model.specs.Rows.{Program, size, tag, num, kind, is_head_of, lead, Item, expression, body_form_of, past_items}
use Rattle.model.specs.Scopes.{binds, rest, next_head, is_held_in, in_scope}
use Rattle.model.specs.Heads.{head_at, call_at, is_function}
use Rattle.model.proofs.Logic.{test, and_left, and_right, and_intro, or_cases, or_right}
use Rattle.model.proofs.Index.{first_unique}
use Rattle.model.proofs.Heads
use Rattle.model.proofs.Heads.{by_kind, tag_is, head_function, head_send, head_spawn, head_self, function_tag}
use Rattle.model.proofs.Parse.Spans.{spans_past, spans_range, spans_takes}
use Rattle.model.proofs.Parse.Reached.{RowsFit, Stands, stands_only, whole_stands}
use Rattle.model.proofs.Parse.Grammar.{expression_kind}
use Rattle.model.proofs.Parse.Heads.{rest_of}
use Rattle.model.proofs.Parse.Locations.{Location, head_range, location_head, rest_stands, head_location}
use Rattle.model.proofs.Parse.Functions.{stands_enclosed}
use Rattle.model.proofs.HeldScopes.{ends_within, unbound}
use Rattle.model.proofs.NoEmptyName.Stacks.{Led}
use Rattle.model.proofs.NoEmptyName.Trails.{NextHead, leaf_head, whole_led}

-- row b binds a name that holds in the expression at row s
pub record Binder (p : Program) (b s : ℕ) : Type 0 where
  pub location : Location p s
  pub behind : b < s
  pub heads : (x : ℕ) → b < x → x < s → (l : Location p x) → l.end ≤ s
  pub functions : (f : ℕ) → b < f → f < s → is_function p f ≡ true → past_items p body_form_of (f + 1) ≤ s
  pub within : {xs below : List Item} {r e : ℕ} → Led (Unit {0}) xs → Stands p xs below r e → r ≤ b → b < e → s < e
  pub own_form : tag p b ≡ 3 → s ≡ past_items p body_form_of (b + 1)

-- a row that binds a name, but no global's, is a head, a parameter or a pattern's name
binds_cases : (t : ℕ) → binds t ≡ true → (t ≡ 11 → ⊥) → (is_head_of t ≡ true) ⊎ ((t ≡ 23) ⊎ (t ≡ 30))
unfolding binds is_head_of
binds_cases t h ne =
    ⊎_elim
    (λ a. let lo = leb-true 2 t (and_left (leb 2 t) (leb t 7) a) in
    let hi = leb-true t 7 (and_right (leb 2 t) (leb t 7) a) in
    inl (and_intro (leb 1 t) (leb t 9) (le-leb 1 t (omega arith)) (le-leb t 9 (omega arith))))
    (λ a. ⊎_elim (λ g. absurd (ne (eqb-true t 11 g)))
    (λ c. inr (⊎_elim (λ x. inl (eqb-true t 23 x)) (λ x. inr (eqb-true t 30 x)) (or_cases (eqb t 23) (eqb t 30) c)))
    (or_cases (eqb t 11) (eqb t 23 || eqb t 30) a))
    (or_cases (leb 2 t && leb t 7) (eqb t 11 || (eqb t 23 || eqb t 30)) h)

-- a tag above 9 is no head's
pub above_head : (t : ℕ) → 9 < t → is_head_of t ≡ false
above_head t l = test (is_head_of t) (λ h. let w = head_range t h in absurd (omega arith)) (λ h. h)

module _ {p : Program} where
  -- a head that binds a name has a rest
  bound_rest : {b : ℕ} → Location p b → binds (tag p b) ≡ true → rest_of (head_at p b) ≡ some (rest p b)
  unfolding binds call_at
  bound_rest {b} l u =
      by_kind (kind (tag p b))
      (λ e. unbound (tag p b) 1 (tag_is (tag p b) _ e) refl u)
      (λ e. ap rest_of (Heads.head_build p b e))
      (λ e. ap rest_of (head_function p b e))
      (λ e. ap rest_of (Heads.head_call p b e))
      (λ e. ap rest_of (head_send p b e))
      (λ e. ap rest_of (head_spawn p b e))
      (λ e. ap rest_of (head_self p b e))
      (λ e. unbound (tag p b) 8 (tag_is (tag p b) _ e) refl u)
      (λ e. unbound (tag p b) 9 (tag_is (tag p b) _ e) refl u)
      (λ e. let (more, says, s) = stands_only l.stands in absurd (expression_kind p (tag p b) (num p b) more says e))

  head_binder : {b : ℕ} → Location p b → binds (tag p b) ≡ true → Binder p b (rest p b)
  unfolding lead kind
  head_binder {b} l u =
      let (front, others) = rest_stands l (bound_rest l u) in
      let w = spans_range front.spans in
      let v = spans_takes others.spans in
      record {
        location = record { below = l.below; end = l.end; stands = others };
        behind = omega arith;
        heads = λ x lo hi k. ends_within (omega arith) hi front k;
        functions = λ f lo hi h. stands_enclosed front f (omega arith) hi h;
        within = λ led s lo hi. let z = ends_within lo hi s l in omega arith;
        own_form = λ t. sym (spans_past (rw t at front.spans));
      }

  -- the next head is the first one
  next_is : {b e : ℕ} (n : NextHead p b e) → e ≤ size p → next_head p b ≡ n.head
  unfolding next_head
  next_is {b} {e} n l =
      let lo = n.from in
      let hi = n.upto in
      first_unique b (size p) n.head (λ q. is_head_of (tag p q)) (omega arith)
      (record {
        from = lo;
        upto = omega arith;
        passes = λ x. n.is;
        before = λ k a c. let t = n.between k a c in above_head (tag p k) (omega arith);
      })

module _ {p : Program} (fit : RowsFit p) where
  leaf_binder : {b : ℕ} → b < size p → (tag p b ≡ 23) ⊎ (tag p b ≡ 30) → Binder p b (next_head p b)
  leaf_binder {b} below leaf =
      let n = leaf_head b (whole_led p) (whole_stands fit) (omega arith) below leaf in
      let z = next_is n (omega arith) in
      let lo = n.from in
      let hi = n.upto in
      let high : 11 < tag p b = ⊎_elim (λ t. omega arith) (λ t. omega arith) leaf in
      let between : (k : ℕ) → b ≤ k → k < next_head p b → 11 < tag p k = λ k u v. n.between k u (omega arith) in
      record {
        location = rw z (head_location fit hi n.is);
        behind = elim (dec_lt b n.head) [
          | yes u ↦ omega arith
          | no u ↦
              let same : n.head ≡ b = omega arith in
              let t = head_range (tag p b) (subst (λ k. is_head_of (tag p k) ≡ true) same n.is) in
              absurd (omega arith)
        ];
        heads = λ x u v l.
            let t = head_range (tag p x) (location_head l) in
            let k = between x (omega arith) v in
            absurd (omega arith);
        functions = λ f u v h.
            let k = between f (omega arith) v in
            absurd (⊎_elim (λ t. omega arith) (λ t. omega arith) (function_tag p f h));
        within = λ led s u v.
            let m = leaf_head b led s u v leaf in
            let w = spans_range s.spans in
            let y = next_is m (omega arith) in
            let x = m.upto in
            omega arith;
        own_form = λ t. absurd (omega arith);
      }

  pub binder_at : (b : ℕ) → b < size p → binds (tag p b) ≡ true → (tag p b ≡ 11 → ⊥) → Binder p b (is_held_in p b)
  unfolding is_held_in
  binder_at b below u ne =
      ⊎_elim
      (λ (h : is_head_of (tag p b) ≡ true). rw (h, is_held_in) (head_binder (head_location fit below h) u))
      (λ leaf. let no_head = above_head (tag p b) (⊎_elim (λ t. omega arith) (λ t. omega arith) leaf) in
      rw (no_head, is_held_in) (leaf_binder below leaf))
      (binds_cases (tag p b) u ne)

module _ (p : Program) (b : ℕ) where
  -- a scope as two bounds
  pub scope_has : (r : ℕ) → in_scope p b r ≡ true → (tag p b ≡ 11 → ⊥) → (is_held_in p b ≤ r) × (r < past_items p (expression ∷ []) (is_held_in p b))
  unfolding in_scope
  scope_has r h ne =
      let s : ℕ = is_held_in p b in
      let e : ℕ = past_items p (expression ∷ []) (is_held_in p b) in
      ⊎_elim (λ g. absurd (ne (eqb-true (tag p b) 11 g)))
      (λ k. (leb-true s r (and_left (leb s r) (ltb r e) k), ltb-true r e (and_right (leb s r) (ltb r e) k)))
      (or_cases (eqb (tag p b) 11) (leb s r && ltb r e) h)

  pub scope_gives : (r : ℕ) → is_held_in p b ≤ r → r < past_items p (expression ∷ []) (is_held_in p b) → in_scope p b r ≡ true
  unfolding in_scope
  scope_gives r lo hi =
      let s : ℕ = is_held_in p b in
      let e : ℕ = past_items p (expression ∷ []) (is_held_in p b) in
      or_right (eqb (tag p b) 11) (leb s r && ltb r e) (and_intro (leb s r) (ltb r e) (le-leb s r lo) (lt-ltb r e hi))
