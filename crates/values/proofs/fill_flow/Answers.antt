use mathlib.Core.Path.{refl, ◌∙◌}
use borrow.Author.Rules.{rules}
use Rattle.lists.proofs.Facts.{flow_usable}
use Rattle.values.proofs.Gathered.{gathered_start, gathered_next, room_row, flow_entry, flow_over}
use Rattle.values.proofs.fill_flow.Goals as goal

pub loop-i-init : goal.loop-i-init
loop-i-init c = (gathered_start _ _ _ _ (rw c.width-w.ensures c.requires.empty), refl)

pub left-n-requires : goal.left-n-requires
left-n-requires c = (flow_usable c.requires.ready _ c.flow-l.ensures).0

pub right-v-requires : goal.right-v-requires
right-v-requires c = (flow_usable c.requires.ready _ c.flow-l.ensures).0

pub put-requires : goal.put-requires
put-requires c =
    let (a, b) = flow_entry c.requires.ready _ _ _ _ _ c.flow-l.ensures c.width-w.ensures (search rules) c.left-n.ensures c.right-v.ensures in record { v_bound = a; row = room_row _ _ _ _ _ _ c.width-w.ensures c.requires.room c.loop-i.invariant.1 b }

pub loop-i-preserved : goal.loop-i-preserved
loop-i-preserved c = let (a, b) = flow_entry c.requires.ready _ _ _ _ _ c.flow-l.ensures c.width-w.ensures (search rules) c.left-n.ensures c.right-v.ensures in (gathered_next _ _ _ _ _ _ _ _ _ c.loop-i.invariant.0 c.put.ensures c.left-n.ensures refl c.right-v.ensures a, c.put.ensures.long ∙ c.loop-i.invariant.1)

pub returns : goal.returns
returns c = flow_over c.requires.ready _ _ _ _ _ c.flow-l.ensures c.width-w.ensures c.requires.room c.loop-i.invariant.1 c.loop-i.invariant.0 (search rules)
