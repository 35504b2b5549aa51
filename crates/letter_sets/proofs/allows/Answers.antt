use mathlib.Core.Bool.{not}
use mathlib.Core.Path.{ap}
use Prim.Native.Nat.{◌<◌}
use native.Mathlib.Omega.{arith}
use borrow.Author.Rules.{rules}
use Rattle.letter_sets.proofs.Told.{allows_unlike, allows_start, allows_miss, allows_next, allows_end, argument_low, head_room}
use Rattle.letter_sets.proofs.allows.Goals as goal

pub returns-then-digit-head : goal.returns-then-digit-head
returns-then-digit-head c = allows_unlike _ _ _ _ _ _ c.requires.value_told _ c.digit.ensures c.if-digit-head.true

pub loop-i-init : goal.loop-i-init
loop-i-init c = allows_start _ _ _ _ _ _ c.requires.value_told _ c.digit.ensures c.if-digit-head.false

-- a value has eight arguments at the most
low : (c : goal.In-loop-i) → c.loop-i.i < 8
low c = argument_low c.requires.heads_known c.requires.value_told _ c.loop-i-test.true

pub overflow_add-v : goal.overflow_add-v
overflow_add-v c = record { fits = omega (arith, c.requires.value_told.low, low c) }

pub overflow_add-v-in-loop-i : goal.overflow_add-v-in-loop-i
overflow_add-v-in-loop-i c = record { fits = omega (arith, c.requires.value_told.low, low c) }

pub digit-h-requires : goal.digit-h-requires
digit-h-requires c =
    let low-here : c.loop-i.i < 8 = argument_low c.requires.heads_known c.requires.value_told _ c.loop-i-test.true in omega (arith, low-here)

pub holds-requires : goal.holds-requires
holds-requires c =
    let z = head_room c.requires.heads_known c.requires.value_told _ c.loop-i-test.true _ _ _ c.num-n.ensures c.digit-h.ensures in record { v_bound = z.0; row = z.1 }

pub returns-then-not-holds : goal.returns-then-not-holds
returns-then-not-holds c = allows_miss _ _ _ _ _ _ c.requires.value_told _ _ _ _ c.loop-i.invariant c.loop-i-test.true c.num-n.ensures c.digit-h.ensures c.holds.ensures (ap not c.if-not-holds.true)

pub loop-i-preserved : goal.loop-i-preserved
loop-i-preserved c = allows_next _ _ _ _ _ _ c.requires.value_told _ _ _ _ c.loop-i.invariant c.loop-i-test.true c.num-n.ensures c.digit-h.ensures c.holds.ensures (ap not c.if-not-holds.false)

pub returns : goal.returns
returns c = allows_end _ _ _ _ _ _ c.requires.value_told _ c.loop-i.invariant (search rules)
