use native.Mathlib.Omega.{arith}
use mathlib.Core.Path.{◌∙◌, ap}
use Rattle.ceilings.proofs.Cells.{row_in}
use Rattle.steps.specs.Steps.{raised}
use Rattle.ceilings_masks.proofs.Comparing.{two_put}
use Rattle.ceilings_masks.proofs.Turning.{exceeds_as, by_one_as, more_as}
use borrow.Author.Rules.{rules}
use Rattle.ceilings_masks.proofs.put_counter.Goals as goal

pub highest-most-requires : goal.highest-most-requires
highest-most-requires c = record { k_lt_ceilings = search rules; row = row_in _ c.args.n _ _ (search rules) (search rules) }

pub allowing-next-requires : goal.allowing-next-requires
allowing-next-requires c = record { holders = c.requires.holders; x_lt_n = c.requires.k_lt_ceilings.1 }

pub overflow_mul-first : goal.overflow_mul-first
overflow_mul-first c = record { fits = omega (arith, c.requires.k_lt_ceilings.1, c.requires.n_in_bounds, c.well_formed.1.1.1.1.1.1) }

pub overflow_add-second : goal.overflow_add-second
overflow_add-second c = record { fits = omega (arith, c.requires.k_lt_ceilings.1, c.requires.n_in_bounds, c.well_formed.1.1.1.1.1.1) }

pub store-requires : goal.store-requires
store-requires c = record { room = omega (arith, c.requires.k_lt_ceilings.1, c.requires.n_in_bounds) }

pub store-requires-2 : goal.store-requires-2
store-requires-2 c = record { room = omega (arith, c.requires.k_lt_ceilings.1, c.store.ensures.long, c.requires.n_in_bounds) }

pub returns : goal.returns
returns c =
    let most = c.highest-most.ensures.value in
    record {
      by_index = exceeds_as _ _ _ _ _ most _ _ _ c.below.ensures c.allowing-held.ensures c.without-2.ensures;
      two_put = two_put _ _ _ _ _ _ _ _ c.store.ensures c.store-2.ensures
          (by_one_as _ _ _ _ _ most _ _ _ _ c.one_less.ensures c.allowing-fewer.ensures c.allowing-held.ensures c.without.ensures)
          (more_as c.args.limits.now _ _ _ _ most _ _ (c.raised.ensures.value ∙ ap raised c.as_limit.ensures) (λ i. omega (arith, c.type_inv.limits i)) c.allowing-next.ensures);
    }
