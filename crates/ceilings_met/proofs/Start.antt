-- Refusal 11: the start lies under a ceiling exactly where the ceiling allows 1 at the start's counter, since all other counts are 0.
use Prim.Native.Nat.{ℕ, ◌+◌, ◌≤◌, ◌<◌}
use native.Mathlib.Decide.{ℕ_discrete}
use native.Mathlib.Omega.{arith}
use mathlib.Core.Path.{◌≡◌, refl, sym, ◌∙◌, ap}
use mathlib.Core.Bool.{Bool, true, false}
use mathlib.Core.Logic.{inr, ⊎_elim}
use mathlib.Core.List.{List}
use Rattle.std.proofs.Common.{Ok, Err}
use borrow.Author.Tests.{eq-eqb, ne_eqb}
use Rattle.model.specs.declared.Sizes.{Sizes}
use Rattle.model.specs.declared.Verdict.TheVariants.{Start}
use Rattle.model.specs.Index.{any}
use Rattle.model.specs.Message.{ceilings_offset}
use Rattle.model.specs.Rows.{Program, program}
use Rattle.model.specs.Tables.{Tables, tables, state_index_of}
use Rattle.model.specs.Closed.{start_state}
use Rattle.model.specs.Markings.{initial}
use Rattle.model.specs.Ceilings.{CeilingLimits, ceilings_of, under, under_some, start_check_of}
use Rattle.model.specs.Verify.{outcome}
use Rattle.model.proofs.Logic.{test}
use Rattle.model.proofs.Outcome.{passes_unless, refuses_unless}
use Rattle.model.proofs.Index.{any_hit, any_miss}
use Rattle.model.proofs.Bounded.Under.{under_iff}
use Rattle.ceilings.specs.Table.{held, LimitsTable}

module _ (p : Program) (t : Tables) (n x₀ : ℕ) (at-start : x₀ ≡ state_index_of t (start_state p)) (b : CeilingLimits) where
  initial_one : (x : ℕ) → x ≡ x₀ → initial p t x ≡ 1
  unfolding initial
  initial_one x e = rw (eq-eqb x _ (e ∙ at-start), initial)

  initial_other : (x : ℕ) → (x ≡ x₀ → ⊥) → initial p t x ≡ 0
  unfolding initial
  initial_other x e = rw (ne_eqb x _ (λ z. e (z ∙ sym at-start)), initial)

  start_under : 1 ≤ b x₀ → under n b (initial p t) ≡ true
  start_under h =
      (under_iff n b (initial p t)).1
      (λ x below. elim (ℕ_discrete x x₀) [
        | yes e ↦ inr (let one = initial_one x e in let same = ap b e in omega arith)
        | no e ↦ inr (let other = initial_other x e in omega arith)
      ])

  start_not_under : x₀ < n → b x₀ < 1 → under n b (initial p t) ≡ false
  start_not_under below h =
      test (under n b (initial p t))
      (λ u. let one = initial_one x₀ refl in absurd (⊎_elim (λ z. omega arith) (λ z. omega arith) ((under_iff n b (initial p t)).0 u x₀ below)))
      (λ f. f)

module _ (ws : List ℕ) (s : Sizes) (n : ℕ) where
  -- ceiling k covers the start
  pub covers_start : ℕ → Bool
  covers_start k = under n ((ceilings_of ws s n).limit k) (initial (program ws s) (tables ws s))

  pub start_safe : any 0 s.ceilings covers_start ≡ true → Ok tt ≡ outcome (start_check_of s (program ws s) (tables ws s) (ceilings_of ws s n))
  unfolding start_check_of under_some covers_start ceilings_of
  start_safe h = passes_unless _ _ h

  pub start_refused : any 0 s.ceilings covers_start ≡ false → Err (Start (ceilings_offset s)) ≡ outcome (start_check_of s (program ws s) (tables ws s) (ceilings_of ws s n))
  unfolding start_check_of under_some covers_start ceilings_of
  start_refused h = refuses_unless _ _ h

  module _ (limits : List ℕ) (table : LimitsTable (ceilings_of ws s n) limits) (x₀ : ℕ) (at-start : x₀ ≡ state_index_of (tables ws s) (start_state (program ws s))) (inside : x₀ < n) (k l : ℕ) (below : k < s.ceilings) (value : l ≡ held limits s.ceilings k x₀) where
    same : l ≡ (ceilings_of ws s n).limit k x₀
    unfolding ceilings_of
    same = value ∙ table.limit k x₀ below inside

    pub start_hit : 1 ≤ l → any k s.ceilings covers_start ≡ true
    unfolding covers_start
    start_hit h = any_hit k s.ceilings _ below (start_under (program ws s) (tables ws s) n x₀ at-start ((ceilings_of ws s n).limit k) (let e = same in omega arith))

    pub start_miss : l < 1 → any k s.ceilings covers_start ≡ any (k + 1) s.ceilings covers_start
    unfolding covers_start
    start_miss h = any_miss k s.ceilings _ below (start_not_under (program ws s) (tables ws s) n x₀ at-start ((ceilings_of ws s n).limit k) inside (let e = same in omega arith))
