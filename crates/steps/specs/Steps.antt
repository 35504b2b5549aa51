-- A rule as the code hands it on, one by one.
use Rattle.std.specs.Prelude.{ℕ, ◌-◌, ◌+◌, Bool, true, false, ◌&&◌, [], ◌∷◌, get_or, leb, ltb, eqb}
use Rattle.model.specs.Limits.{omega_limit}
use Rattle.model.specs.Rules.{Effect, quiet, reads, puts, starts, Rule, rule}
use Rattle.steps.specs.declared.Step.{Step}

-- the kinds: 0 quiet, 1 reads, 2 puts, 3 starts
unfoldable pub effect_of : ℕ → ℕ → Effect
effect_of kind x = get_or (quiet ∷ reads x ∷ puts x ∷ starts x ∷ []) kind quiet

unfoldable pub rule_of_step : Step → Rule
rule_of_step σ = rule σ.from σ.to (effect_of σ.kind σ.other)

-- counter y is the other, from which the step takes, or to which it adds
unfoldable pub does_take_other : Step → ℕ → Bool
does_take_other σ y = eqb σ.kind 1 && eqb y σ.other

unfoldable pub does_add_other : Step → ℕ → Bool
does_add_other σ y = leb 2 σ.kind && eqb y σ.other

-- one less, or one more, where the test passes
unfoldable pub one_less_if : Bool → ℕ → ℕ
one_less_if true count = count - 1
one_less_if false count = count

unfoldable pub more_if : Bool → ℕ → ℕ
more_if true count = count + 1
more_if false count = count

-- Request (ii): "add one times the truth of being below the unbounded mark ... Each limit from 0 to 65,534 gives one
-- more, the mark itself"
unfoldable pub raised : ℕ → ℕ
raised limit = elim (ltb limit omega_limit) [ true ↦ limit + 1 | false ↦ limit ]

unfoldable pub one_more_if : Bool → ℕ → ℕ
one_more_if true limit = raised limit
one_more_if false limit = limit

-- a count as a limit: unbounded where it is past every limit
unfoldable pub limit_from_sum : ℕ → ℕ
limit_from_sum count = elim (ltb count omega_limit) [ true ↦ count | false ↦ omega_limit ]

-- the limit of counter y after a step, where its highest count was this
unfoldable pub limit_after_step : ℕ → Step → ℕ → ℕ
limit_after_step count σ y =
    one_more_if (does_add_other σ y)
    (one_more_if (eqb y σ.to) (limit_from_sum (one_less_if (does_take_other σ y) (one_less_if (eqb y σ.from) count))))

-- the kind of the rules at a head with this tag: a send, a spawn, a receive, or another
unfoldable pub effect_kind_of : ℕ → ℕ
effect_kind_of tag = elim
    (eqb tag 5) [
      | true ↦ 2
      | false ↦ elim
          (eqb tag 6) [ true ↦ 3 | false ↦ elim (eqb tag 9) [ true ↦ 1 | false ↦ 0 ] ]
    ]
