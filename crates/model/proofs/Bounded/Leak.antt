-- Refusals 11 and 13 are exact: from counts under a ceiling a rule leads out of all ceilings exactly where one does from the ceiling's highest counts.
use Prim.Native.Nat.{ℕ, ◌+◌, ◌≤◌, ◌<◌}
use mathlib.Core.Path.{◌≡◌, refl}
use mathlib.Core.Bool.{Bool, true, false, not, ◌&&◌}
use mathlib.Core.Logic.Iff
use mathlib.Core.Logic.{⊎_elim, ◌↔◌}
use mathlib.Core.List.Memᴰ
use mathlib.Core.List.{List, [], ◌∷◌, Memᴰ}
use mathlib.Core.Option.{some, none}
use borrow.Author.Tests.{not-true, not-false}
use Rattle.model.specs.declared.Sizes.{Sizes}
use Rattle.model.specs.declared.Verdict.{Verdict}
use Rattle.model.specs.declared.Verdict.TheVariants.{Start, Leak}
use Rattle.model.specs.Limits.{omega_limit}
use Rattle.model.specs.Message.{ceilings_offset}
use Rattle.model.specs.Rows.{Program}
use Rattle.model.specs.Tables.{Tables}
use Rattle.model.specs.Rules.{Rule}
use Rattle.model.specs.Markings.{Marking, usable, fire, initial}
use Rattle.model.specs.Ceilings.{Ceilings, ceiling_entries, ceiling_entry, under_some, highest, start_check_of, leads_out, leak_check_of}
use Rattle.model.specs.Demands.{Under, UnderOne}
use Rattle.model.specs.Refusals.{FirstSuch, Leaks}
use Rattle.model.proofs.Logic.{true_false, and_left, and_right, and_false_right, or_cases, or_false_left, or_false_right}
use Rattle.model.proofs.Bounded.Under.{under_some_exact, highest_under}
use Rattle.model.proofs.Exact.Tests.{fails_iff, passes_iff}
use Rattle.model.proofs.Exact.Checks.{unless_iff, first_none, first_some}
use Rattle.model.proofs.Bounded.Fire.{Shaped, usable_at_highest, fire_allowed}

-- refusal 11: the start lies under one of the ceilings
pub start_check_exact : (s : Sizes) (p : Program) (t : Tables) (bs : Ceilings) → (start_check_of s p t bs ≡ none) ↔ UnderOne bs (initial p t)
unfolding start_check_of
start_check_exact s p t bs = unless_iff (under_some bs (initial p t)) (Start (ceilings_offset s)) (under_some_exact bs (initial p t))

-- a rule that can be used at the counts and leads out of all ceilings
leads_out_elim : (bs : Ceilings) (ρs : List Rule) (m : Marking) → leads_out bs ρs m ≡ true → (ρ : Rule) × Memᴰ ρ ρs × (usable ρ m ≡ true) × (UnderOne bs (fire ρ m) → ⊥)
unfolding leads_out
leads_out_elim bs [] m h = true_false h refl
leads_out_elim bs (ρ ∷ ρs) m h =
    ⊎_elim
    (λ e. let fails = not-true (under_some bs (fire ρ m)) (and_right (usable ρ m) _ e) in
    (ρ, Memᴰ.head refl, and_left (usable ρ m) _ e, (fails_iff _ (under_some_exact bs (fire ρ m))).0 fails))
    (λ e. let (σ, i, used, out) = leads_out_elim bs ρs m e in (σ, Memᴰ.tail i, used, out))
    (or_cases (usable ρ m && not (under_some bs (fire ρ m))) _ h)

-- where none leads out, each that can be used leads under one of the ceilings
leads_out_none : (bs : Ceilings) (ρs : List Rule) (m : Marking) (ρ : Rule) → leads_out bs ρs m ≡ false → Memᴰ ρ ρs → usable ρ m ≡ true → under_some bs (fire ρ m) ≡ true
unfolding leads_out
leads_out_none bs [] m ρ h i u = absurd (Memᴰ.not-nil i)
leads_out_none bs (σ ∷ ρs) m ρ h i u =
    ⊎_elim
    (λ e. let here = or_false_left (usable σ m && not (under_some bs (fire σ m))) _ h in
    rw e (not-false _ (and_false_right (usable σ m) _ here (rw e at u))))
    (λ j. leads_out_none bs ρs m ρ (or_false_right (usable σ m && not (under_some bs (fire σ m))) _ h) j u)
    (Memᴰ.cases_cons i)

-- from counts under ceiling k each rule that can be used leads under one of the ceilings
abbrev pub KeptFrom : Ceilings → List Rule → ℕ → Type 0
KeptFrom bs ρs k = (m : Marking) (ρ : Rule) → Under bs k m → Memᴰ ρ ρs → usable ρ m ≡ true → UnderOne bs (fire ρ m)

module _ (bs : Ceilings) (ρs : List Rule) (short : (k x : ℕ) → bs.limit k x ≤ omega_limit) (shaped : (ρ : Rule) → Memᴰ ρ ρs → Shaped bs.counters ρ) where
  -- the highest counts answer for all counts under a ceiling
  pub leads_out_exact : (k : ℕ) → (leads_out bs ρs (highest (bs.limit k)) ≡ false) ↔ KeptFrom bs ρs k
  leads_out_exact k = (
    λ h m ρ u i used.
        let s = shaped ρ i in
        let (k', below', u') = (under_some_exact bs (fire ρ (highest (bs.limit k)))).0
        (leads_out_none bs ρs (highest (bs.limit k)) ρ h i (usable_at_highest bs.counters ρ s (bs.limit k) m u used)) in
        (k', below', fire_allowed bs.counters ρ s (bs.limit k) m u (bs.limit k') (short k') u'),
    λ h. (fails_iff (leads_out bs ρs (highest (bs.limit k))) Iff.rfl).1
        (λ e. let (ρ, i, used, out) = leads_out_elim bs ρs (highest (bs.limit k)) e in out (h (highest (bs.limit k)) ρ (highest_under bs k) i used)),
  )

  pub leads_out_iff : (k : ℕ) → (leads_out bs ρs (highest (bs.limit k)) ≡ true) ↔ Leaks bs ρs k
  leads_out_iff k = (
    λ h. let (ρ, i, used, out) = leads_out_elim bs ρs (highest (bs.limit k)) h in
        record { counts = highest (bs.limit k); under = highest_under bs k; rule = ρ; listed = i; used = used; out = out },
    λ x. (passes_iff (leads_out bs ρs (highest (bs.limit k))) (leads_out_exact k)).1
        (λ kept. x.out (kept x.counts x.rule x.under x.listed x.used)),
  )

  module _ (ws : List ℕ) (s : Sizes) where
    abbrev leaks : ℕ → Bool
    leaks k = leads_out bs ρs (highest (bs.limit k))

    abbrev refusal : ℕ → Verdict
    refusal k = Leak (ceilings_offset s + 2 + ceiling_entry bs.counters (ceiling_entries ws s) k)

    -- refusal 13: each rule keeps the counts that lie under one of the ceilings
    pub leak_check_exact : (leak_check_of ws s bs ρs ≡ none) ↔ ((m : Marking) (ρ : Rule) → UnderOne bs m → Memᴰ ρ ρs → usable ρ m ≡ true → UnderOne bs (fire ρ m))
    unfolding leak_check_of
    leak_check_exact =
        Iff.trans (first_none bs.size leaks _ (λ k below. leads_out_exact k))
        (λ h m ρ u. let (k, below, lies) = u in h k below m ρ lies, λ h k below m ρ lies. h m ρ (k, below, lies))

    -- no ceiling is left, or the first that is
    pub leak_check_none : (leak_check_of ws s bs ρs ≡ none) ↔ ((k : ℕ) → k < bs.size → Leaks bs ρs k → ⊥)
    unfolding leak_check_of
    leak_check_none = first_none bs.size leaks _ (λ k below. fails_iff (leaks k) (leads_out_iff k))

    pub leak_check_refuses : (v : Verdict) → (leak_check_of ws s bs ρs ≡ some v) ↔ ((k : ℕ) × FirstSuch bs.size (Leaks bs ρs) k × (refusal k ≡ v))
    unfolding leak_check_of
    leak_check_refuses = first_some bs.size leaks (λ k below. leads_out_iff k) refusal
