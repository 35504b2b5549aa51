use native.Mathlib.Omega.{arith}
use mathlib.Core.Path.{refl, sym, ◌∙◌}
use Rattle.model.proofs.Index.{first_hit, first_miss, first_end}
use Rattle.ceilings_met.specs.Met.{bad_met}
use Rattle.ceilings_met.specs.Sums.{counts_of}
use Rattle.bads_rows.proofs.Walking.{bads_start, bads_stand, bads_next, bads_inside}
use Rattle.ceilings_met.proofs.Meeting.{bad_at}
use borrow.Author.Rules.{rules}
use Rattle.ceilings_met.proofs.first_met.Goals as goal

pub loop-j-init : goal.loop-j-init
loop-j-init c = (refl, bads_start c.args.ws.now c.args.s c.requires.bads_in_form, search rules)

pub meets-requires : goal.meets-requires
meets-requires c = record { summed = c.requires.summed; r_le_badrows = bads_inside c.args.ws.now c.args.s _ _ c.loop-j.invariant.1 }

pub returns-then-meets : goal.returns-then-meets
returns-then-meets c = let a = c.args in sym (c.loop-j.invariant.0 ∙ first_hit _ _ _ c.loop-j-test.true (bad_at a.ws.now a.s (counts_of a.sums.now) _ _ _ c.loop-j.invariant.1 c.meets.ensures ∙ c.if-meets.true))

pub next_bad-r-requires : goal.next_bad-r-requires
next_bad-r-requires c =
    let a = c.args in record { whole = c.requires.summed.whole; bad_stands = bads_stand a.ws.now a.s _ _ c.loop-j.invariant.1 (search rules) }

pub loop-j-preserved : goal.loop-j-preserved
loop-j-preserved c = let a = c.args in (c.loop-j.invariant.0 ∙ first_miss _ _ _ c.loop-j-test.true (bad_at a.ws.now a.s (counts_of a.sums.now) _ _ _ c.loop-j.invariant.1 c.meets.ensures ∙ c.if-meets.false), bads_next a.ws.now a.s _ _ _ c.loop-j.invariant.1 (search rules) c.next_bad-r.ensures, search rules)

pub returns : goal.returns
returns c = let a = c.args in let e = first_end c.loop-j.j a.upto (bad_met a.ws.now a.s (counts_of a.sums.now)) c.loop-j-test.false in let h = c.loop-j.invariant in omega (arith, c.loop-j-test.false, e, h.0, h.2)
