use native.Mathlib.Omega.{arith}
use Prim.Native.Nat.{◌+◌}
use Rattle.layout.proofs.Ending.{rest_2, rest_3, rest_4, rest_5, rest_6, rest_none, num_word}
use Rattle.layout.proofs.ends.rest_row.Goals as goal

pub overflow_add-result : goal.overflow_add-result
overflow_add-result c = omega (arith, c.num-n.ensures, num_word c.args.ws.now c.args.s c.num-k.result (λ i. (c.type_inv.ws i).fits))

pub overflow_add-body : goal.overflow_add-body
overflow_add-body c = omega (arith, c.num-n-in-3.ensures, num_word c.args.ws.now c.args.s (c.args.r + 1) (λ i. (c.type_inv.ws i).fits))

pub overflow_add-result-in-4 : goal.overflow_add-result-in-4
overflow_add-result-in-4 c = omega (arith, c.num-n-in-4.ensures, num_word c.args.ws.now c.args.s (c.args.r + 2) (λ i. (c.type_inv.ws i).fits))

pub returns-in-2 : goal.returns-in-2
returns-in-2 c = rest_2 _ _ _ _ _ c.tag.ensures c.in-2.is c.num-k.ensures c.num-n.ensures

pub returns-in-3 : goal.returns-in-3
returns-in-3 c = rest_3 _ _ _ _ _ _ c.tag.ensures c.in-3.is c.num-n-in-3.ensures c.entry.ensures c.requires.after_from

pub returns-in-4 : goal.returns-in-4
returns-in-4 c = rest_4 _ _ _ _ c.tag.ensures c.in-4.is c.num-n-in-4.ensures

pub returns-in-5 : goal.returns-in-5
returns-in-5 c = rest_5 _ _ _ c.tag.ensures c.in-5.is

pub returns-in-6 : goal.returns-in-6
returns-in-6 c = rest_6 _ _ _ c.tag.ensures c.in-6.is

pub returns-in_default : goal.returns-in_default
returns-in_default c = let m = c.in_default.in_default-own.rest in rest_none _ _ _ c.tag.ensures m.0.0.0.0.1 m.0.0.0.1 m.0.0.1 m.0.1 m.1
