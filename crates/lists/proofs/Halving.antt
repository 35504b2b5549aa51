-- A search by halving, for any test that passes up to some index and fails from there on.
use Prim.Native.Nat.{ℕ, ◌+◌, ◌≤◌, ◌<◌}
use native.Mathlib.Decide.{ℕ_discrete}
use native.Mathlib.Omega.{arith}
use mathlib.Core.Path.{◌≡◌, sym, ◌∙◌, ap}
use mathlib.Core.Bool.{Bool, true, false, not}
use Rattle.model.specs.Index.{first}
use Rattle.model.proofs.Logic.{true_false, test, not_passes, not_fails}
use Rattle.model.proofs.Index.{first_unique}

module _ (from n : ℕ) (f : ℕ → Bool) where
  -- everything before `low` passes, nothing from `high` on does
  pub record Between (low high : ℕ) : Type 0 where
    pub since : from ≤ low
    pub order : low ≤ high
    pub upto : high ≤ n
    pub before : (i : ℕ) → from ≤ i → i < low → f i ≡ true
    pub behind : (i : ℕ) → high ≤ i → i < n → f i ≡ false

  pub between_all : from ≤ n → Between from n
  between_all l =
      record {
        since = omega arith;
        order = l;
        upto = omega arith;
        before = λ i a b. absurd (omega arith);
        behind = λ i a b. absurd (omega arith);
      }

  -- what stands before an index that passes passes too
  abbrev pub Falling : Type 0
  Falling = (i j : ℕ) → from ≤ i → i < j → j < n → f j ≡ true → f i ≡ true

  module _ (falls : Falling) where
    pub between_up : (low high mid : ℕ) → Between low high → low ≤ mid → mid < high → f mid ≡ true → Between (mid + 1) high
    between_up low high mid h l z u =
        let w = h.upto in
        record {
          since = omega (arith, h.since);
          order = omega arith;
          upto = h.upto;
          before = λ i a b. elim (ℕ_discrete i mid) [ yes e ↦ ap f e ∙ u | no e ↦ falls i mid a (omega arith) (omega arith) u ];
          behind = h.behind;
        }

    pub between_down : (low high mid : ℕ) → Between low high → low ≤ mid → mid < high → f mid ≡ false → Between low mid
    between_down low high mid h l z u =
        let w = h.upto in
        let v = h.since in
        record {
          since = h.since;
          order = l;
          upto = omega arith;
          before = h.before;
          behind = λ i x y. test (f i)
              (λ t. elim (ℕ_discrete i mid) [ yes e ↦ true_false t (ap f e ∙ u) | no e ↦ true_false (falls mid i (omega arith) (omega arith) y t) u ])
              (λ t. t);
        }

  -- where the two meet is the first that fails
  pub between_first : (low high : ℕ) → Between low high → high ≤ low → low ≡ first from n (λ i. not (f i))
  between_first low high h e =
      let x = h.order in
      let v = h.since in
      let w = h.upto in
      sym (first_unique from n low (λ i. not (f i)) (omega arith) (record {
        from = omega arith;
        upto = omega arith;
        passes = λ l. not_passes (f low) (h.behind low (omega arith) l);
        before = λ j x y. not_fails (f j) (h.before j x y);
      }))
