use mathlib.Core.Path.{refl, ◌∙◌}
use borrow.Author.Rules.{rules}
use Rattle.model.proofs.Index.{any_end}
use Rattle.ceilings_met.proofs.Meeting.{row_of}
use Rattle.ceilings_met.proofs.Start.{start_safe, start_refused, start_hit, start_miss}
use Rattle.ceilings_met.proofs.start_check.Goals as goal

pub loop-k-init : goal.loop-k-init
loop-k-init c = (refl, search rules)

pub limit-requires : goal.limit-requires
limit-requires c = record { k_lt_ceilings = search rules; row = row_of _ _ _ _ c.requires.limits_table _ (search rules) }

pub returns-then-limit-ge1 : goal.returns-then-limit-ge1
returns-then-limit-ge1 c = start_safe _ _ _ (c.loop-k.invariant.0 ∙ start_hit _ _ _ _ c.requires.limits_table _ c.requires.x0_value (search rules) _ _ (search rules) c.limit.ensures.value (search rules))

pub loop-k-preserved : goal.loop-k-preserved
loop-k-preserved c = (c.loop-k.invariant.0 ∙ start_miss _ _ _ _ c.requires.limits_table _ c.requires.x0_value (search rules) _ _ (search rules) c.limit.ensures.value (search rules), search rules)

pub returns : goal.returns
returns c = rw c.ceilings_at.ensures (start_refused _ _ _ (c.loop-k.invariant.0 ∙ any_end _ _ _ (search rules)))
