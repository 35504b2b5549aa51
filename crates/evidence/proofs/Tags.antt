-- The tests of src/ranges.rt: each way out of the code gives what the model's test gives. t is the row's tag, as the code has read it.
use Prim.Native.Nat.{ℕ, ◌≤◌, ◌<◌}
use native.Mathlib.Decide.{ℕ_discrete}
use native.Mathlib.Omega.{arith}
use mathlib.Core.Path.{◌≡◌}
use mathlib.Core.Bool.{true}
use mathlib.Core.Logic.{◌⊎◌, inl, inr, ⊎_elim}
use lib.Dec.{leb, eqb}
use borrow.Author.Tests.{ne_eqb, le-leb, lt-leb}
use Rattle.model.specs.Rows.{Program, size, tag, is_head_of}
use Rattle.model.specs.Heads.{is_class_of, is_function}
use Rattle.model.specs.Tables.{is_value_of}
use Rattle.model.proofs.Logic.{and_first, and_second}

module _ (p : Program) (r t : ℕ) (tag_is : t ≡ tag p r) where
  -- the arms of the match: 2 and 3, then 6 and 11, then any other
  pub value_low : 2 ≤ t → t < 4 → true ≡ is_value_of p r
  unfolding is_value_of is_function is_class_of
  value_low a b = elim (ℕ_discrete t 2) [
    | yes e ↦ rw (← tag_is, e)
    | no e ↦ let z : t ≡ 3 = omega arith in rw (← tag_is, z)
  ]

  pub value_high : (t ≡ 6) ⊎ (t ≡ 11) → true ≡ is_value_of p r
  unfolding is_value_of is_function is_class_of
  value_high (inl e) = rw (← tag_is, e)
  value_high (inr e) = rw (← tag_is, e)

  pub value_start : (t < 2) ⊎ (4 ≤ t) → ((t ≡ 6) ⊎ (t ≡ 11) → ⊥) → eqb r (size p) ≡ is_value_of p r
  unfolding is_value_of is_function is_class_of
  value_start a d =
      let (two, three) : (t ≡ 2 → ⊥) × (t ≡ 3 → ⊥) = ⊎_elim (λ h. (λ z. omega arith, λ z. omega arith)) (λ h. (λ z. omega arith, λ z. omega arith)) a in
      rw (← tag_is, ne_eqb t 2 two, ne_eqb t 3 three, ne_eqb t 6 (λ z. d (inl z)), ne_eqb t 11 (λ z. d (inr z)))

  pub head_from : 1 ≤ t → leb t 9 ≡ is_head_of (tag p r)
  unfolding is_head_of
  head_from h = rw (← tag_is) (and_second (leb 1 t) (leb t 9) (le-leb 1 t h))

  pub no_head : t < 1 → leb 1 t ≡ is_head_of (tag p r)
  unfolding is_head_of
  no_head h = rw (← tag_is) (and_first (leb 1 t) (leb t 9) (lt-leb 1 t h))
