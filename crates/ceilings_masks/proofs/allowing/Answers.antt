use native.Mathlib.Omega.{arith}
use mathlib.Core.Path.{◌∙◌}
use Rattle.ceilings.proofs.Cells.{row_in}
use Rattle.ceilings_masks.proofs.Comparing.{allows_none, allows_one, allows_two, allows_reached, allows_unbounded}
use borrow.Author.Rules.{rules}
use Rattle.ceilings_masks.proofs.allowing.Goals as goal

pub returns-then-count-eq0 : goal.returns-then-count-eq0
returns-then-count-eq0 c = λ k h. c.below.ensures k h ∙ allows_none _ _ _ _ k (search rules)

pub load-requires : goal.load-requires
load-requires c = record { room = omega (arith, c.requires.x_lt_n, c.requires.holders.room) }

pub returns-then-count-eq1 : goal.returns-then-count-eq1
returns-then-count-eq1 c = λ k h. c.load.ensures k h ∙ (c.requires.holders.holder _ k (search rules) h ∙ allows_one _ _ _ _ k (search rules))

pub load-requires-then-count-eq2 : goal.load-requires-then-count-eq2
load-requires-then-count-eq2 c = record { room = omega (arith, c.requires.x_lt_n, c.requires.holders.room) }

pub returns-then-count-eq2 : goal.returns-then-count-eq2
returns-then-count-eq2 c = λ k h. c.load-then-count-eq2.ensures k h ∙ (c.requires.holders.holder_of_two _ k (search rules) h ∙ allows_two _ _ _ _ k (search rules))

pub load-requires-then-count-ge-OMEGA : goal.load-requires-then-count-ge-OMEGA
load-requires-then-count-ge-OMEGA c = record { room = omega (arith, c.requires.x_lt_n, c.requires.holders.room) }

pub returns-then-count-ge-OMEGA : goal.returns-then-count-ge-OMEGA
returns-then-count-ge-OMEGA c = λ k h. c.load-then-count-ge-OMEGA.ensures k h ∙ (c.requires.holders.no_bound _ k (search rules) h ∙ allows_unbounded _ _ _ _ k (λ z. omega (arith, c.type_inv.limits z)) (search rules))

pub limits_from-requires : goal.limits_from-requires
limits_from-requires c = record { ceilings_le_max_ceilings = search rules; row = row_in _ c.args.n _ _ (search rules) (search rules) }

pub returns : goal.returns
returns c = λ k h. c.limits_from.ensures k h ∙ allows_reached _ _ _ _ k (search rules)
