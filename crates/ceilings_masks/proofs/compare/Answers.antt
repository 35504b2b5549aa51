use Prim.Native.Nat.{◌-◌, ◌<◌}
use native.Mathlib.Omega.{arith}
use mathlib.Core.Path.{refl, sym, ◌∙◌}
use Rattle.ceilings_form.proofs.Ceilings.{entries_size}
use Rattle.ceilings.proofs.Begun.{begun}
use Rattle.ceilings_masks.proofs.Turning.{counted_start, turning_start, turning_inside, turning_counter, turning_end, turning_next}
use Rattle.ceilings_masks.proofs.compare.Goals as goal

pub none-requires : goal.none-requires
none-requires c = tt

pub none-requires-2 : goal.none-requires-2
none-requires-2 c = tt

pub none-requires-3 : goal.none-requires-3
none-requires-3 c = tt

pub below-requires : goal.below-requires
below-requires c = tt

pub below-requires-2 : goal.below-requires-2
below-requires-2 c = tt

pub loop-s-init : goal.loop-s-init
loop-s-init c =
    (turning_start _ _ _ _ _ _ _ _ _ _ (begun _ _ _ _ c.requires.in_form c.requires.limits_table _ _ c.requires.k_lt_ceilings.0 c.requires.k_lt_ceilings.1) (counted_start _ _ _ _ c.none.ensures c.none-2.ensures c.none-3.ensures), refl)

pub counter_at-x-requires : goal.counter_at-x-requires
counter_at-x-requires c = c.requires.whole

pub shape_of-near-then-x-n : goal.shape_of-near-then-x-n
shape_of-near-then-x-n c = c.loop-s.invariant.1

pub returns-then-x-n : goal.returns-then-x-n
returns-then-x-n c =
    let z = turning_end _ _ _ _ _ _ _ _ _ _ c.loop-s.invariant.0 _ (sym c.counter_at-x.ensures ∙ c.if-x-n.true) c.requires.k_lt_ceilings.0 c.requires.holders (omega (arith, c.requires.n_in_bounds, c.loop-s.invariant.1)) in record { beside = z.0; above = z.1 }

-- a counter that is not n is one of the n
counter-low : (c : goal.After-put_counter-arg-1) → c.counter_at-x.result < c.args.n
counter-low c = omega (arith, turning_counter _ _ _ _ _ _ _ _ _ _ c.loop-s.invariant.0 (λ z. c.if-x-n.false (c.counter_at-x.ensures ∙ z)), c.counter_at-x.ensures)

pub put_counter-m-requires : goal.put_counter-m-requires
put_counter-m-requires c =
    record { holders = c.requires.holders; k_lt_ceilings = (c.requires.k_lt_ceilings.0, counter-low c); n_in_bounds = omega (arith, c.requires.n_in_bounds, c.loop-s.invariant.1) }

pub overflow_mul-second : goal.overflow_mul-second
overflow_mul-second c =
    let counter-low-here : c.counter_at-x.result < c.args.n = omega (arith, turning_counter _ _ _ _ _ _ _ _ _ _ c.loop-s.invariant.0 (λ z. c.if-x-n.false (c.counter_at-x.ensures ∙ z)), c.counter_at-x.ensures) in record { fits = omega (arith, counter-low-here, c.requires.n_in_bounds, c.well_formed.1.1.1.1.1.1.1) }

pub overflow_add-second : goal.overflow_add-second
overflow_add-second c =
    let counter-low-here : c.counter_at-x.result < c.args.n = omega (arith, turning_counter _ _ _ _ _ _ _ _ _ _ c.loop-s.invariant.0 (λ z. c.if-x-n.false (c.counter_at-x.ensures ∙ z)), c.counter_at-x.ensures) in record { fits = omega (arith, counter-low-here, c.requires.n_in_bounds, c.well_formed.1.1.1.1.1.1.1) }

pub load-requires : goal.load-requires
load-requires c =
    let counter-low-here : c.counter_at-x.result < c.args.n = omega (arith, turning_counter _ _ _ _ _ _ _ _ _ _ c.loop-s.invariant.0 (λ z. c.if-x-n.false (c.counter_at-x.ensures ∙ z)), c.counter_at-x.ensures) in
    record { room = omega (arith, counter-low-here, c.put_counter-m.ensures.two_put.long, c.loop-s.invariant.1, c.requires.n_in_bounds) }

pub over_more-over-requires : goal.over_more-over-requires
over_more-over-requires c = tt

pub overflow_add-i : goal.overflow_add-i
overflow_add-i c =
    let inside-here : c.loop-s.i < c.args.s.entries = let a = c.args in omega (arith, turning_inside _ _ _ _ _ _ _ _ _ _ c.loop-s.invariant.0, entries_size a.ws.now a.s) in let h = inside-here in record { fits = omega (arith, h, c.requires.whole.limits.entries) }

pub loop-s-smaller : goal.loop-s-smaller
loop-s-smaller c =
    let inside-here : c.loop-s.i < c.args.s.entries = let a = c.args in omega (arith, turning_inside _ _ _ _ _ _ _ _ _ _ c.loop-s.invariant.0, entries_size a.ws.now a.s) in let h = inside-here in omega (arith, h)

pub loop-s-preserved : goal.loop-s-preserved
loop-s-preserved c =
    (turning_next _ _ _ _ _ _ _ _ _ _ c.loop-s.invariant.0 _ _ _ _ _ c.counter_at-x.ensures (λ z. c.if-x-n.false (c.counter_at-x.ensures ∙ z)) c.requires.whole.limits.ceilings c.put_counter-m.ensures.by_index c.over_more-over.ensures.by_index c.over_more-over.ensures.by_index_2 c.over_more-over.ensures.by_index_3 c.load.ensures c.over_more-over.ensures.more_at c.over_more-over.ensures.more_at_2 c.put_counter-m.ensures.two_put, c.put_counter-m.ensures.two_put.long ∙ c.loop-s.invariant.1)
