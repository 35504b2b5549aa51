use Prim.Native.Nat.{ℕ, ◌<◌}
use native.Mathlib.Omega.{arith}
use Rattle.model.specs.Limits.{max_arity}
use Rattle.ascending.proofs.Numbers.{added_room}
use Rattle.value_letters.proofs.Values.{argument_row, next_range, next_here, next_none}
use Rattle.value_letters.proofs.Extending.{within_arity, longer_fits, longer_low, longer_none}
use Rattle.value_letters.proofs.Extending.{extended_stop, extended_put, extended_on, turned_begin, turned_hit, turned_gap, turned_all}
use Rattle.value_letters.proofs.+extend.Goals as goal

pub returns-then-n-most : goal.returns-then-n-most
returns-then-n-most t c = extended_stop c.requires.heads_known c.requires.prefixed.value.arguments _ _ c.requires.prefixed.room c.if-n-most.true

pub insert-requires : goal.insert-requires
insert-requires t c =
    let r = c.requires.prefixed.room in
    record {
      from_le_n = (r.begun, omega (arith, c.if-n-most.false, r.limit), omega (arith, c.if-n-most.false, r.long));
      rising = r.rising;
    }

pub returns-then-i-eq-MAX_ARITY : goal.returns-then-i-eq-MAX_ARITY
returns-then-i-eq-MAX_ARITY t c = extended_put c.requires.heads_known c.requires.prefixed.value.arguments _ _ c.if-i-eq-MAX_ARITY.true c.insert.ensures.added c.insert.ensures.upper_bound c.if-n-most.false

-- there is another digit
within : (t : ℕ) (c : goal.Else-i-eq-MAX_ARITY t) → c.args.i < max_arity
within t c = within_arity c.requires.prefixed.digit c.if-i-eq-MAX_ARITY.false

pub overflow_mul-longer : goal.overflow_mul-longer
overflow_mul-longer t c = record { fits = omega (arith, longer_fits _ _ (within t c) c.requires.prefixed.short) }

pub extend-requires : goal.extend-requires
extend-requires t c =
    let within-here : c.args.i < max_arity = within_arity c.requires.prefixed.digit c.if-i-eq-MAX_ARITY.false in
    let q = c.requires.prefixed in
    let w = within-here in
    (omega (arith, c.requires.heads_known), (c.requires.heads_known, record { value = q.value; digit = omega arith; short = omega (arith, longer_none _ _ q.short); room = q.room }))

pub returns-then-i-arity : goal.returns-then-i-arity
returns-then-i-arity t c =
    let within-here : c.args.i < max_arity = within_arity c.requires.prefixed.digit c.if-i-eq-MAX_ARITY.false in extended_on c.requires.heads_known c.requires.prefixed.value.arguments _ _ c.if-i-arity.true within-here c.extend.ensures

pub overflow_add-v-2 : goal.overflow_add-v-2
overflow_add-v-2 t c = record { fits = omega (arith, c.requires.prefixed.value.low, c.requires.prefixed.digit) }

pub next_of_two-h-requires : goal.next_of_two-h-requires
next_of_two-h-requires t c = record {
  row = argument_row c.requires.heads_known c.requires.prefixed.value.arguments _ _ c.num-name.ensures c.if-i-arity.false;
  from_le_end = (omega arith, omega (arith, c.requires.heads_known.ready.limits.constructors));
}

pub loop-h-init : goal.loop-h-init
loop-h-init t c = (
  turned_gap c.requires.heads_known c.requires.prefixed.value.arguments _ _ _ c.num-name.ensures c.if-i-arity.false (omega arith) (next_none _ _ _ _ _ c.next_of_two-h.ensures (omega arith)) (turned_begin c.requires.heads_known c.requires.prefixed.value.arguments _ _ c.requires.prefixed.room),
  (next_range _ _ _ _ _ c.next_of_two-h.ensures (omega arith)).1,
  next_here _ _ _ _ _ c.next_of_two-h.ensures (omega arith),
)

pub overflow_add-longer : goal.overflow_add-longer
overflow_add-longer t c =
    let within-here : c.args.i < max_arity = within_arity c.requires.prefixed.digit c.if-i-eq-MAX_ARITY.false in record { fits = omega (arith, c.requires.heads_known.ready.limits.constructors, longer_fits _ _ within-here c.requires.prefixed.short) }

pub extend-m-requires : goal.extend-m-requires
extend-m-requires t c =
    let within-here : c.args.i < max_arity = within_arity c.requires.prefixed.digit c.if-i-eq-MAX_ARITY.false in
    let q = c.requires.prefixed in
    let w = within-here in
    (omega (arith, c.requires.heads_known), (c.requires.heads_known, record { value = q.value; digit = omega arith; short = omega (arith, longer_low _ _ 127 (omega arith) q.short, c.requires.heads_known.ready.limits.constructors); room = added_room q.room c.loop-h.invariant.0 }))

pub overflow_add-h : goal.overflow_add-h
overflow_add-h t c = record { fits = omega (arith, c.requires.heads_known.ready.limits.constructors) }

pub next_of_two-h-requires-in-loop-h : goal.next_of_two-h-requires-in-loop-h
next_of_two-h-requires-in-loop-h t c = record {
  row = argument_row c.requires.heads_known c.requires.prefixed.value.arguments _ _ c.num-name.ensures c.if-i-arity.false;
  from_le_end = (omega arith, omega (arith, c.requires.heads_known.ready.limits.constructors));
}

pub loop-h-smaller : goal.loop-h-smaller
loop-h-smaller t c = omega (arith, (next_range _ _ _ _ _ c.next_of_two-h-in-loop-h.ensures (omega arith)).0)

pub loop-h-preserved : goal.loop-h-preserved
loop-h-preserved t c = (
  turned_gap c.requires.heads_known c.requires.prefixed.value.arguments _ _ _ c.num-name.ensures c.if-i-arity.false (next_range _ _ _ _ _ c.next_of_two-h-in-loop-h.ensures (omega arith)).0 (next_none _ _ _ _ _ c.next_of_two-h-in-loop-h.ensures (omega arith))
      (turned_hit c.requires.heads_known c.requires.prefixed.value.arguments _ _ _ c.num-name.ensures c.if-i-arity.false (omega arith) (c.loop-h.invariant.2 c.loop-h-test.true) c.loop-h.invariant.0 c.extend-m.ensures),
  (next_range _ _ _ _ _ c.next_of_two-h-in-loop-h.ensures (omega arith)).1,
  next_here _ _ _ _ _ c.next_of_two-h-in-loop-h.ensures (omega arith),
)

pub returns : goal.returns
returns t c = turned_all c.requires.heads_known c.requires.prefixed.value.arguments _ _ c.if-i-arity.false c.loop-h-test.false c.loop-h.invariant.0
