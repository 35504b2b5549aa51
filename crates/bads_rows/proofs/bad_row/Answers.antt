use Prim.Native.Nat.{◌-◌}
use mathlib.Core.Path.{◌≡◌}
use Rattle.bads_rows.proofs.Walking.{bads_start, bads_stand, bads_next, bads_inside, bads_row}
use borrow.Author.Rules.{rules}
use Rattle.bads_rows.proofs.bad_row.Goals as goal

pub loop-i-init : goal.loop-i-init
loop-i-init c = (bads_start c.args.ws.now c.args.s c.requires.bads_upto.in_form, search rules)

pub next_bad-r-requires : goal.next_bad-r-requires
next_bad-r-requires c =
    let a = c.args in record { whole = c.requires.whole; bad_stands = bads_stand a.ws.now a.s _ _ c.loop-i.invariant.0 (search rules) }

pub loop-i-preserved : goal.loop-i-preserved
loop-i-preserved c = let a = c.args in (bads_next a.ws.now a.s _ _ _ c.loop-i.invariant.0 (search rules) c.next_bad-r.ensures, search rules)

pub returns : goal.returns
returns c = let a = c.args in let e : c.loop-i.i ≡ a.j = search rules in let w = rw e at c.loop-i.invariant.0 in (bads_row a.ws.now a.s _ _ w, bads_inside a.ws.now a.s _ _ w)
