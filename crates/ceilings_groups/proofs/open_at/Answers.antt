use native.Mathlib.Omega.{arith}
use mathlib.Core.Path.{sym, ◌∙◌}
use Rattle.model.specs.Limits.{omega_limit}
use Rattle.ceilings_groups.proofs.Settling.{reached_allows}
use Rattle.ceilings_groups.proofs.open_at.Goals as goal

pub returns-then-n-y : goal.returns-then-n-y
returns-then-n-y c = λ k h t b. absurd (omega (arith, c.if-n-y.true, b))

pub overflow_mul-first : goal.overflow_mul-first
overflow_mul-first c = record { fits = omega (arith, c.if-n-y.false, c.requires.room) }

pub load-requires : goal.load-requires
load-requires c = record { room = omega (arith, c.if-n-y.false, c.requires.room) }

pub returns-then-low-y : goal.returns-then-low-y
returns-then-low-y c = λ k h t b. record { no_bound = λ l. absurd (omega (arith, l, c.if-low-y.true)); one = λ l. reached_allows _ _ _ 1 1 k (omega arith) (sym (c.load.ensures k h ∙ c.requires.holder _ k b h) ∙ t) }

pub overflow_mul-third : goal.overflow_mul-third
overflow_mul-third c = record { fits = omega (arith, c.if-n-y.false, c.requires.room) }

pub overflow_add-third : goal.overflow_add-third
overflow_add-third c = record { fits = omega (arith, c.if-n-y.false, c.requires.room) }

pub load-requires-2 : goal.load-requires-2
load-requires-2 c = record { room = omega (arith, c.if-n-y.false, c.requires.room) }

pub returns : goal.returns
returns c = λ k h t b. record { no_bound = λ l. reached_allows _ _ _ omega_limit omega_limit k (omega arith) (sym (c.load-2.ensures k h ∙ c.requires.no_bound _ k b h) ∙ t); one = λ l. absurd (omega (arith, l, c.if-low-y.false)) }
