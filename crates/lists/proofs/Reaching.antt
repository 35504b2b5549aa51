-- The first entry that begins with a number or one behind it: the turns of the search, and that it has the place of the number.
use Prim.Native.Nat.{ℕ, ◌+◌, ◌≤◌, ◌<◌}
use native.Mathlib.Decide.{dec_lt}
use native.Mathlib.Omega.{arith}
use mathlib.Core.Path.{◌≡◌, sym, ◌∙◌}
use mathlib.Core.Bool.{true, false, not}
use mathlib.Core.List.{[], ◌∷◌}
use mathlib.Core.Logic.{inl, ⊎_elim}
use borrow.Author.Tests.{leb-true, leb-false, le-leb, lt-leb}
use Rattle.model.specs.Index.{first}
use Rattle.model.specs.Keys.{below}
use Rattle.model.specs.Words.{Columns, left}
use Rattle.model.proofs.Logic.{true_false, test, not_passes, not_fails}
use Rattle.model.proofs.Keys.{below_iff}
use Rattle.model.proofs.Index.{first_is, first_unique, first_hit, first_miss, first_end}
use Rattle.lists.specs.Lists.{key_at, place, range_from, reaches}
use Rattle.lists.proofs.Rising.{place_before}

module _ (c : Columns) (n : ℕ) where
  short : (j : ℕ) → reaches c n j ≡ false → left c j < n
  unfolding reaches
  short j e = leb-false n (left c j) e

  long : (j : ℕ) → reaches c n j ≡ true → n ≤ left c j
  unfolding reaches
  long j e = leb-true n (left c j) e

  -- an entry is below (n, 0, 0) where it begins with a lesser number, and nowhere else
  under : (j : ℕ) → left c j < n → below (key_at c [] j) (n ∷ 0 ∷ 0 ∷ []) ≡ true
  unfolding key_at
  under j l = (below_iff (key_at c [] j) (n ∷ 0 ∷ 0 ∷ [])).1 (inl l)

  over : (j : ℕ) → n ≤ left c j → below (key_at c [] j) (n ∷ 0 ∷ 0 ∷ []) ≡ false
  unfolding key_at
  over j l = test (below (key_at c [] j) (n ∷ 0 ∷ 0 ∷ []))
      (λ t. ⊎_elim (λ x. absurd (omega arith)) (λ x. ⊎_elim (λ y. absurd (omega arith)) (λ y. ⊎_elim (λ z. absurd (omega arith)) (λ z. absurd z.1) y.1) x.1)
      ((below_iff (key_at c [] j) (n ∷ 0 ∷ 0 ∷ [])).0 t))
      (λ t. t)

  -- the first entry that begins with n or behind it has the place of the name
  pub reached : (i k : ℕ) → i ≤ c.size → ((j : ℕ) → j < i → left c j < n) → k ≡ first i c.size (reaches c n) → (k ≡ range_from c n) × (k ≤ c.size) × ((j : ℕ) → j < k → left c j < n)
  unfolding range_from place
  reached i k upto behind e =
      let f = first_is i c.size (reaches c n) upto in
      let all_short : (j : ℕ) → j < k → left c j < n = λ j l. elim (dec_lt j i) [ yes z ↦ behind j z | no z ↦ short j (f.before j (omega arith) (omega arith)) ] in (
        e ∙ sym (first_unique 0 c.size (first i c.size (reaches c n)) (λ j. not (below (key_at c [] j) (n ∷ 0 ∷ 0 ∷ []))) (omega arith) (record {
          from = omega arith;
          upto = f.upto;
          passes = λ l. not_passes (below (key_at c [] (first i c.size (reaches c n))) (n ∷ 0 ∷ 0 ∷ [])) (over (first i c.size (reaches c n)) (long _ (f.passes l)));
          before = λ j a b. not_fails (below (key_at c [] j) (n ∷ 0 ∷ 0 ∷ [])) (under j (all_short j (omega arith)));
        })),
        let z = f.upto in omega arith,
        all_short,
      )

  -- what stands before the place of a number begins with a lesser one
  pub behind_place : (i : ℕ) → i ≤ range_from c n → (j : ℕ) → j < i → left c j < n
  unfolding range_from
  behind_place i h j l = elim (dec_lt (left c j) n) [
    | yes z ↦ z
    | no z ↦ true_false (place_before c [] (n ∷ 0 ∷ 0 ∷ []) j (omega arith)) (over j (omega arith))
  ]

-- the turns of the search, in a list of e entries
module _ (c : Columns) (n i k e : ℕ) (from : first i e (reaches c n) ≡ first k e (reaches c n)) where
  pub reach_here : (a : ℕ) → k < e → a ≡ left c k → n ≤ a → k ≡ first i e (reaches c n)
  unfolding reaches
  reach_here a l same h = sym (from ∙ first_hit k e (reaches c n) l (le-leb n (left c k) (omega arith)))

  pub reach_on : (a : ℕ) → k < e → a ≡ left c k → a < n → first i e (reaches c n) ≡ first (k + 1) e (reaches c n)
  unfolding reaches
  reach_on a l same h = from ∙ first_miss k e (reaches c n) l (lt-leb n (left c k) (omega arith))

  pub reach_end : k ≡ e → e ≡ first i e (reaches c n)
  reach_end z = sym (from ∙ first_end k e (reaches c n) (omega arith) ∙ z)
