use mathlib.Core.Bool.{not}
use mathlib.Core.Path.{ap}
use native.Mathlib.Omega.{arith}
use mathlib.Core.Path.{refl, ◌∙◌}
use Rattle.model.specs.Message.{bads_offset}
use Rattle.model.proofs.Index.{first_hit, first_miss, first_end}
use Rattle.bads_rows.proofs.Walking.{bads_start, bads_stand, bads_next, bads_inside}
use Rattle.weights_light.proofs.Settled.{unsettled, unsettled_at, light_refused, light_passed}
use borrow.Author.Rules.{rules}
use Rattle.weights_light.proofs.light_check.Goals as goal

pub loop-j-init : goal.loop-j-init
loop-j-init c = (refl, bads_start c.args.ws.now c.args.s c.requires.bads_in_form, search rules, refl)

pub is_settled-requires : goal.is_settled-requires
is_settled-requires c =
    let a = c.args in let v = c.loop-j.invariant in record { weighing = c.requires.weighing; r_le_badrows = (bads_inside a.ws.now a.s _ _ v.1, search rules) }

pub overflow_add-here : goal.overflow_add-here
overflow_add-here c = let a = c.args in let h = bads_inside a.ws.now a.s _ _ c.loop-j.invariant.1 in search rules

pub returns-then-not-is_settled : goal.returns-then-not-is_settled
unfolding bads_offset
returns-then-not-is_settled c = let a = c.args in let v = c.loop-j.invariant in light_refused a.ws.now a.s a.n c.loop-j.j c.loop-j.r _ (v.0 ∙ first_hit _ _ _ (search rules) (unsettled_at a.ws.now a.s a.n _ _ _ v.1 c.is_settled.ensures ∙ (ap not c.if-not-is_settled.true))) (search rules) v.1 refl

pub next_bad-r-requires : goal.next_bad-r-requires
next_bad-r-requires c =
    let a = c.args in let v = c.loop-j.invariant in record { whole = c.requires.weighing.whole; bad_stands = bads_stand a.ws.now a.s _ _ v.1 (search rules) }

pub loop-j-preserved : goal.loop-j-preserved
loop-j-preserved c = let a = c.args in let v = c.loop-j.invariant in (v.0 ∙ first_miss _ _ _ (search rules) (unsettled_at a.ws.now a.s a.n _ _ _ v.1 c.is_settled.ensures ∙ (ap not c.if-not-is_settled.false)), bads_next a.ws.now a.s _ _ _ v.1 (search rules) c.next_bad-r.ensures, search rules, search rules)

pub returns : goal.returns
returns c = let a = c.args in let v = c.loop-j.invariant in let e = first_end c.loop-j.j a.s.bads (unsettled a.ws.now a.s a.n) (search rules) in light_passed a.ws.now a.s a.n (omega (arith, v.0, v.2, e, c.loop-j-test.false))
