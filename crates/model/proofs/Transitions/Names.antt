-- What names hold: `lookup`, `value_of`, `values_of` and `bind_all` (specs/Values.antt) are `Newest`, `Holds`, `HoldEach` and `BoundTo`.
use Prim.Native.Nat.{ℕ, ◌<◌}
use native.Mathlib.Omega.{arith}
use mathlib.Core.Path.{◌≡◌, refl, ap, subst}
use mathlib.Core.Bool.{Bool, true, ◌&&◌}
use mathlib.Core.List.{List, [], ◌∷◌}
use mathlib.Core.Option.{some, some-injective, none-ne-some}
use lib.Dec.{eqb, ltb}
use borrow.Author.Tests.{eqb-true, eqb-false, eq-eqb, ne_eqb, ltb-true, ltb-false, lt-ltb}
use Rattle.model.specs.Rows.{Program, size, tag, num}
use Rattle.model.specs.Values.{Value, closure, Bindings, empty, bind, lookup, global_row, value_of, values_of, bind_all}
use Rattle.model.specs.Transitions.{BoundTo, no_parameters, no_arguments, one_parameter}
use Rattle.model.specs.Patterns.{RowAt, Newest, newest, older, Holds, global, local, HoldEach, no_names, one_name}
use Rattle.model.proofs.Logic.{test, and_left, and_right, and_intro, true_false}
use Rattle.model.proofs.Index.{First, first_is, first_unique}
use Rattle.model.proofs.Reader.{by_option}
use Rattle.model.proofs.Transitions.Exactly.{Exactly}

lookup_has : (held : Bindings) (n : ℕ) (v : Value) → lookup held n ≡ some v → Newest n v held
unfolding lookup
lookup_has empty n v h = absurd (none-ne-some v h)
lookup_has (bind m w held) n v h =
    test (eqb m n)
    (λ e. rw (eqb-true m n e, some-injective w v (rw (e, lookup) at h)) newest)
    (λ e. older (eqb-false m n e) (lookup_has held n v (rw (e, lookup) at h)))

lookup_gives : {n : ℕ} {v : Value} {held : Bindings} → Newest n v held → lookup held n ≡ some v
unfolding lookup
lookup_gives {n} newest = rw (eq-eqb n n refl, lookup)
lookup_gives {n} (older {m = m} ne k) = rw (ne_eqb m n ne, lookup) (lookup_gives k)

module _ (p : Program) (n : ℕ) where
  -- the test that `global_row` makes of each row
  abbrev is_global : ℕ → Bool
  is_global r = eqb (tag p r) 11 && eqb (num p r) n

  row_global : (g : ℕ) → RowAt p g 11 n → is_global g ≡ true
  row_global g r = and_intro (eqb (tag p g) 11) (eqb (num p g) n) (eq-eqb (tag p g) 11 r.tagged) (eq-eqb (num p g) n r.numbered)

  global_is_row : (g : ℕ) → g < size p → is_global g ≡ true → RowAt p g 11 n
  global_is_row g b t =
      record {
        below = b;
        tagged = eqb-true (tag p g) 11 (and_left (eqb (tag p g) 11) (eqb (num p g) n) t);
        numbered = eqb-true (num p g) n (and_right (eqb (tag p g) 11) (eqb (num p g) n) t);
      }

  first_global : First 0 (size p) is_global (global_row p n)
  unfolding global_row
  first_global = first_is 0 (size p) is_global (omega arith)

  -- no row before the first one, and none at all where it is R
  none_before : (g : ℕ) → g < global_row p n → RowAt p g 11 n → ⊥
  none_before g b r = true_false (row_global g r) (first_global.before g (omega arith) b)

  value_has : (held : Bindings) (v : Value) → value_of p held n ≡ some v → Holds p held n v
  unfolding value_of
  value_has held v h =
      test (ltb (global_row p n) (size p))
      (λ e.
      let b = ltb-true (global_row p n) (size p) e in
      subst (Holds p held n) (some-injective (closure (global_row p n) empty) v (rw (e, value_of) at h))
      (global (global_is_row (global_row p n) b (first_global.passes b)) none_before))
      (λ e. local (λ g r. none_before g (omega (arith, ltb-false (global_row p n) (size p) e, r.below)) r) (lookup_has held n v (rw (e, value_of) at h)))

  -- the first row is the one that has none before it
  global_first : (g : ℕ) → RowAt p g 11 n → ((f : ℕ) → f < g → RowAt p f 11 n → ⊥) → global_row p n ≡ g
  unfolding global_row
  global_first g r never =
      first_unique 0 (size p) g is_global (omega arith)
      (record {
        from = omega arith;
        upto = omega (arith, r.below);
        passes = λ b. row_global g r;
        before = λ j a b. test (is_global j) (λ t. absurd (never j b (global_is_row j (omega (arith, r.below)) t))) (λ e. e);
      })

  value_gives : (held : Bindings) (v : Value) → Holds p held n v → value_of p held n ≡ some v
  unfolding value_of
  value_gives held v (global {g = g} r never) =
      let e = global_first g r never in
      rw (e, lt-ltb g (size p) r.below, value_of, e)
  value_gives held v (local never k) =
      test (ltb (global_row p n) (size p))
      (λ e. let b = ltb-true (global_row p n) (size p) e in absurd (never (global_row p n) (global_is_row (global_row p n) b (first_global.passes b))))
      (λ e. rw (e, value_of) (lookup_gives k))

  pub value_exactly : (held : Bindings) → Exactly (value_of p held n) (Holds p held n)
  value_exactly held = record { has = value_has held; gives = value_gives held }

module _ (p : Program) (held : Bindings) where
  values_has : (ns : List ℕ) (vs : Bindings) → values_of p held ns ≡ some vs → HoldEach p held ns vs
  unfolding values_of
  values_has [] vs h = rw (← some-injective empty vs h) no_names
  values_has (n ∷ ns) vs h =
      by_option (value_of p held n)
      (λ e. absurd (none-ne-some vs (rw (e, values_of) at h)))
      (λ v e. by_option (values_of p held ns)
      (λ f. absurd (none-ne-some vs (rw (e, f, values_of) at h)))
      (λ us f. rw (← some-injective (bind n v us) vs (rw (e, f, values_of) at h))
      (one_name (value_has p n held v e) (values_has ns us f))))

  values_gives : (ns : List ℕ) (vs : Bindings) → HoldEach p held ns vs → values_of p held ns ≡ some vs
  unfolding values_of
  values_gives ns vs no_names = refl
  values_gives ns vs (one_name {n = n} {v = v} {ns = ms} {vs = us} h k) = rw (value_gives p n held v h, values_gives ms us k, values_of)

  pub values_exactly : (ns : List ℕ) → Exactly (values_of p held ns) (HoldEach p held ns)
  values_exactly ns = record { has = values_has ns; gives = values_gives ns }

-- each name is bound to the value in its place
pub bound_to : (ns : List ℕ) (vs held : Bindings) → BoundTo held ns vs (bind_all ns vs held)
unfolding bind_all
bound_to [] vs held = no_parameters
bound_to (n ∷ ns) empty held = no_arguments
bound_to (n ∷ ns) (bind m v vs) held = one_parameter (bound_to ns vs held)

pub bound_only : {held : Bindings} {ns : List ℕ} {vs held' : Bindings} → BoundTo held ns vs held' → bind_all ns vs held ≡ held'
unfolding bind_all
bound_only no_parameters = refl
bound_only no_arguments = refl
bound_only (one_parameter {n = n} {v = v} h) = ap {B = Bindings} (bind n v) (bound_only h)
