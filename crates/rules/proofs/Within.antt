-- Laws of the rules that read or put a letter which is asked for.
use Prim.Native.Nat.{ℕ, zero, suc, ◌+◌, ◌-◌}
use mathlib.Core.Path.{◌≡◌, refl, ◌∙◌, ap}
use mathlib.Core.Bool.{Bool, true, false, ◌&&◌}
use mathlib.Core.List.{List, [], ◌∷◌, ◌++◌}
use lib.ListN.{get_or}
use Rattle.std.proofs.Common.{Some, None}
use Rattle.std.specs.Prelude.{is_none, unwrap_or}
use Rattle.bits.specs.Bits.{Row}
use Rattle.model.specs.Index.{gather_between, gather, only}
use Rattle.model.specs.Rows.{Program, Kind}
use Rattle.model.specs.Tables.{Tables}
use Rattle.model.specs.Rules.{Effect, quiet, reads, puts, starts, Rule}
use Rattle.model.proofs.Logic.{test, true_false}
use Rattle.rules.specs.Listed.{kind_effect, listed_rule, listed_rules}
use Rattle.rules.specs.Within.{letter_passes, only_passing, is_asked, AskedLetters, AskedOf, AskedRow}
use Rattle.rules.proofs.Gather.{gather_same}

-- all letters are asked for, or those of a set
pub all_row : (w : ℕ) → AskedRow None w
all_row w = record { row = λ set e. true_false refl (ap is_none e) }

pub set_row : (set : List ℕ) (w : ℕ) → Row set w 0 → AskedRow (Some set) w
set_row set w r = record { row = λ v e. let z : set ≡ v = ap (λ o. unwrap_or o []) e in rw z at r }

pub set_asked : (p : Program) (t : Tables) (set : List ℕ) (f : ℕ → Bool) → AskedLetters p t true set f → AskedOf p t (Some set) f
unfolding is_asked
set_asked p t set f o = record { has = o.has }

pub all_asked : (p : Program) (t : Tables) → AskedOf p t None (λ x. true)
unfolding is_asked
all_asked p t = record { has = λ y l. refl }

-- all rules pass where every counter does
effect_passes : (e : Effect) → letter_passes (λ x. true) e ≡ true
unfolding letter_passes
effect_passes quiet = refl
effect_passes (reads x) = refl
effect_passes (puts x) = refl
effect_passes (starts x) = refl

pub all_pass : (ρs : List Rule) → only_passing (λ x. true) ρs ≡ ρs
unfolding only_passing
all_pass [] = refl
all_pass (ρ ∷ ρs) = rw (only_passing, effect_passes ρ.effect) (ap (λ xs. ρ ∷ xs) (all_pass ρs))

module _ (f : ℕ → Bool) where
  only_both : (ρs σs : List Rule) → only_passing f (ρs ++ σs) ≡ only_passing f ρs ++ only_passing f σs
  unfolding only_passing
  only_both [] σs = refl
  only_both (ρ ∷ ρs) σs =
      test (letter_passes f ρ.effect)
      (λ z. rw (only_passing, z) (ap (λ xs. ρ ∷ xs) (only_both ρs σs)))
      (λ z. rw (only_passing, z) (only_both ρs σs))

  only_gatherIn : (n i : ℕ) (g : ℕ → List Rule) → only_passing f (gather_between n i g) ≡ gather_between n i (λ k. only_passing f (g k))
  unfolding gather_between only_passing
  only_gatherIn zero i g = refl
  only_gatherIn (suc n) i g = only_both (g i) (gather_between n (i + 1) g) ∙ ap (λ xs. only_passing f (g i) ++ xs) (only_gatherIn n (i + 1) g)

  pub only_gather : (i e : ℕ) (g : ℕ → List Rule) → only_passing f (gather i e g) ≡ gather i e (λ k. only_passing f (g k))
  unfolding gather
  only_gather i e g = only_gatherIn (e - i) i g

  pub only_one : (b : Bool) (ρ : Rule) → only_passing f (only b ρ) ≡ only (b && letter_passes f ρ.effect) ρ
  unfolding only_passing only
  only_one true ρ = test (letter_passes f ρ.effect) (λ z. rw (only_passing, z)) (λ z. rw (only_passing, z))
  only_one false ρ = refl

  pub skipped_rules : (ρs : List Rule) → ρs ≡ [] → only_passing f ρs ≡ []
  unfolding only_passing
  skipped_rules ρs e = ap (only_passing f) e

  -- rules that read nothing all pass
  pub listed_pass : (k : Kind) → ((y : ℕ) → letter_passes f (kind_effect k y) ≡ true) → (i n : ℕ) (tos others : List ℕ) → only_passing f (listed_rules k i tos others n) ≡ listed_rules k i tos others n
  unfolding listed_rules listed_rule only
  listed_pass k q i n tos others =
      only_gather 0 n (λ j. listed_rule k i tos others j ∷ []) ∙
      gather_same 0 n _ _ (λ j l m. only_one true (listed_rule k i tos others j) ∙ ap (λ b. only b (listed_rule k i tos others j)) (q (get_or others j 0)))
