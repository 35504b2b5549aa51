-- Where functions give nothing: past the end of a list, a name without a value, a value that is no function, a target that is no process.
use Prim.Native.Nat.{ℕ, zero, suc, ◌≤◌}
use native.Mathlib.Omega.{arith}
use mathlib.Core.Logic.{⊎_elim}
use mathlib.Core.Path.{◌≡◌, refl, sym, subst}
use mathlib.Core.List.Memᴰ
use mathlib.Core.List.{List, [], ◌∷◌, Memᴰ}
use mathlib.Core.Option.{Option, some, none, some-ne-none}
use lib.ListN.{length, get_elem?}
use Rattle.model.specs.Rows.{Program}
use Rattle.model.specs.Values.{Value, Bindings, value_of, values_of, Processes}
use Rattle.model.specs.Run.{◌>>=◌, function_of, deliver}
use Rattle.model.specs.Patterns.{Holds, HoldEach, no_names, one_name}
use Rattle.model.specs.Transitions.{Callable}
use Rattle.model.proofs.Reader.{by_option}
use Rattle.model.proofs.Transitions.Exactly.{gives_none, has_none}
use Rattle.model.proofs.Transitions.Names.{value_exactly, values_exactly}
use Rattle.model.proofs.Transitions.Callees.{function_exactly}

-- an index past the end, and one that is not
pub past_none : {A : Type 0} (xs : List A) (i : ℕ) → length xs ≤ i → get_elem? xs i ≡ none
past_none [] i h = refl
past_none (x ∷ xs) zero h = absurd (omega arith)
past_none (x ∷ xs) (suc i) h = past_none xs i (omega arith)

pub none_past : {A : Type 0} (xs : List A) (i : ℕ) → get_elem? xs i ≡ none → length xs ≤ i
none_past [] i h = omega arith
none_past (x ∷ xs) zero h = absurd (some-ne-none x h)
none_past (x ∷ xs) (suc i) h = let l = none_past xs i h in omega arith

-- where one thing after another gives nothing, the first does, or what follows it
pub then_none : {A B C : Type 0} (m : Option A) (f : A → Option B) → ◌>>=◌ m f ≡ none → (m ≡ none → C) → ((a : A) → m ≡ some a → f a ≡ none → C) → C
unfolding ◌>>=◌
then_none none f h g k = g refl
then_none (some a) f h g k = k a refl h

module _ (p : Program) (held : Bindings) where
  -- a name that holds nothing
  abbrev pub Nothing : ℕ → Type 0
  Nothing n = (v : Value) → Holds p held n v → ⊥

  -- one of these names does
  pub one_nothing : (ns : List ℕ) → values_of p held ns ≡ none → (n : ℕ) × Memᴰ n ns × Nothing n
  unfolding values_of
  one_nothing [] h = absurd (some-ne-none _ h)
  one_nothing (n ∷ ns) h =
      by_option (value_of p held n)
      (λ e. (n, Memᴰ.head refl, gives_none (value_exactly p n held) e))
      (λ v e. by_option (values_of p held ns)
      (λ f. let (m, k, no_value) = one_nothing ns f in (m, Memᴰ.tail k, no_value))
      (λ vs f. absurd (some-ne-none _ (rw (e, f, values_of) at h))))

  -- each of these names holds something, where all do
  each_holds : {ns : List ℕ} {vs : Bindings} {n : ℕ} → HoldEach p held ns vs → Memᴰ n ns → (v : Value) × Holds p held n v
  each_holds no_names m = absurd (Memᴰ.not-nil m)
  each_holds {n = n} (one_name {n = k} {v = v} h others) m =
      ⊎_elim (λ (z : n ≡ k). (v, subst (λ x. Holds p held x v) (sym z) h)) (λ l. each_holds others l) (Memᴰ.cases_cons m)

  pub nothing_none : (ns : List ℕ) (n : ℕ) → Memᴰ n ns → Nothing n → values_of p held ns ≡ none
  nothing_none ns n m h = has_none (values_exactly p held ns) (λ vs k. let (v, x) = each_holds k m in h v x)

-- a value gives no function exactly where it can't be called
pub not_function : (p : Program) (n : ℕ) (v : Value) → function_of p n v ≡ none → Callable p n v → ⊥
not_function p n v e (f, kept, z, k) = gives_none (function_exactly p n v) e (record { row = f; held = kept }) (z, k)

pub no_function : (p : Program) (n : ℕ) (v : Value) → (Callable p n v → ⊥) → function_of p n v ≡ none
no_function p n v h = has_none (function_exactly p n v) (λ f k. h (f.row, f.held, k.0, k.1))

-- a message goes nowhere exactly where its target is past the end
pub no_delivery : (qs : Processes) (j : ℕ) (v : Value) → deliver qs j v ≡ none → length qs ≤ j
unfolding deliver
no_delivery qs j v h = by_option (get_elem? qs j) (λ e. none_past qs j e) (λ q e. absurd (some-ne-none _ (rw (e, deliver) at h)))

pub delivery_none : (qs : Processes) (j : ℕ) (v : Value) → length qs ≤ j → deliver qs j v ≡ none
unfolding deliver
delivery_none qs j v h = rw (past_none qs j h, deliver)
