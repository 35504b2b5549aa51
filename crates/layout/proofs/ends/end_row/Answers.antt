use native.Mathlib.Omega.{arith}
use Prim.Native.Nat.{◌+◌}
use mathlib.Core.Path.{sym, ◌∙◌}
use Rattle.layout.proofs.Ending.{ends_bound, ends_case, ends_receive, ends_pattern, ends_row, num_word, arity_of}
use Rattle.layout.proofs.ends.end_row.Goals as goal

pub overflow_mul-count : goal.overflow_mul-count
overflow_mul-count c = omega (arith, c.num-count.ensures, num_word c.args.ws.now c.args.s (c.args.r + 1) (λ i. (c.type_inv.ws i).fits))

pub overflow_mul-n : goal.overflow_mul-n
overflow_mul-n c = omega (arith, c.num-n.ensures, num_word c.args.ws.now c.args.s c.args.r (λ i. (c.type_inv.ws i).fits))

pub returns-in-8 : goal.returns-in-8
returns-in-8 c = ends_case _ _ _ _ _ _ (sym c.tag.ensures ∙ c.in-8.is) c.num-count.ensures c.hops.ensures c.requires.after_from

pub returns-in-9 : goal.returns-in-9
returns-in-9 c = ends_receive _ _ _ _ _ _ (sym c.tag.ensures ∙ c.in-9.is) c.num-n.ensures c.hops-in-9.ensures c.requires.after_from

pub returns-in-31 : goal.returns-in-31
returns-in-31 c = ends_pattern _ _ _ _ _ _ (sym c.tag.ensures ∙ c.in-31.is) (arity_of _ _ _ _ _ c.num-n.ensures c.num-arity.ensures) c.hops-in-31.ensures c.requires.after_from

pub returns-in-2-to-7 : goal.returns-in-2-to-7
returns-in-2-to-7 c = let t = c.tag.ensures in ends_bound _ _ _ _ _ _ (omega (arith, t, c.in-2-to-7.if-this-lt2-own.false)) (omega (arith, t, c.in-2-to-7.if-this-lt8-own.true)) c.rest_row-rest.ensures c.entry.ensures c.requires.after_from

pub returns-in_default : goal.returns-in_default
returns-in_default c = let t = c.tag.ensures in let m = c.in_default.in_default-own.rest in ends_row _ _ _ (omega (arith, t, m)) (λ a. omega (arith, t, a, c.in_default.if-this-lt2-own.true))

pub returns-in_default-2 : goal.returns-in_default-2
returns-in_default-2 c = let t = c.tag.ensures in let m = c.in_default.in_default-own.rest in ends_row _ _ _ (omega (arith, t, m)) (λ a. omega (arith, t, m, c.in_default.if-this-lt8-own.false))
