-- A rule of the two lists as a step by value.
use Prim.Native.Nat.{ℕ, zero, suc}
use native.Mathlib.Omega.{arith}
use mathlib.Core.Path.{◌≡◌, refl, ap}
use mathlib.Core.List.{List}
use lib.ListN.{get_or}
use Rattle.model.specs.Rows.{kind}
use Rattle.model.specs.Rules.{rule}
use Rattle.steps.specs.Steps.{effect_of, rule_of_step, effect_kind_of}
use Rattle.steps.proofs.Stepping.{effect_quiet}
use Rattle.rules.specs.Listed.{kind_effect, listed_rule}

-- the effect of a kind of head is that of the kind of step
effect_tag : (tag x : ℕ) → kind_effect (kind tag) x ≡ effect_of (effect_kind_of tag) x
unfolding kind_effect kind effect_of effect_kind_of
effect_tag zero x = refl
effect_tag (suc zero) x = refl
effect_tag (suc (suc zero)) x = refl
effect_tag (suc (suc (suc zero))) x = refl
effect_tag (suc (suc (suc (suc zero)))) x = refl
effect_tag (suc (suc (suc (suc (suc zero))))) x = refl
effect_tag (suc (suc (suc (suc (suc (suc zero)))))) x = refl
effect_tag (suc (suc (suc (suc (suc (suc (suc zero))))))) x = refl
effect_tag (suc (suc (suc (suc (suc (suc (suc (suc zero)))))))) x = refl
effect_tag (suc (suc (suc (suc (suc (suc (suc (suc (suc zero))))))))) x = refl
effect_tag (suc (suc (suc (suc (suc (suc (suc (suc (suc (suc tag)))))))))) x =
    ap (λ z. effect_of z x) (effect_quiet (suc (suc (suc (suc (suc (suc (suc (suc (suc (suc tag)))))))))) (λ z. omega arith) (λ z. omega arith) (λ z. omega arith))

pub listed_step : (tag i : ℕ) (tos others : List ℕ) (j : ℕ) → listed_rule (kind tag) i tos others j ≡ rule_of_step (record { from = i; to = get_or tos j 0; kind = effect_kind_of tag; other = get_or others j 0 })
unfolding listed_rule rule_of_step
listed_step tag i tos others j = ap (rule i (get_or tos j 0)) (effect_tag tag (get_or others j 0))
