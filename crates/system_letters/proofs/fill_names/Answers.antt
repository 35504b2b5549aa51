use Prim.Native.Nat.{ℕ, ◌+◌, ◌*◌, ◌<◌}
use native.Mathlib.Omega.{arith}
use mathlib.Core.Path.{◌≡◌, refl, ◌∙◌}
use Rattle.bits.proofs.Rows.{filled_part}
use borrow.Author.Rules.{rules}
use Rattle.system_letters.proofs.Tables.{headed_none, headed_next, headed_all, flow_name, head_small, name_room}
use Rattle.lists.proofs.Facts.{flow_usable}
use Rattle.lists.proofs.Told.{flow_told}
use Rattle.system_letters.proofs.fill_names.Goals as goal

pub loop-i-init : goal.loop-i-init
loop-i-init c =
    let k = c.args.s.names * 2 in
    let part = filled_part c.args.names.now _ 0 k 0 (omega (arith, c.requires.names_in_bounds)) (c.fill.ensures.after (λ y h. search rules)) in
    let zeros = λ (i : ℕ) (b : i < k). let z : 0 + i ≡ i = omega arith in rw z at (part.done i b) in
    (headed_none c.requires.ready _ k refl zeros (omega (arith, part.long, c.requires.names_in_bounds)), refl)

pub left-n-requires : goal.left-n-requires
left-n-requires c = (flow_usable c.requires.ready _ c.flow-list.ensures).0

pub right-requires : goal.right-requires
right-requires c = (flow_usable c.requires.ready _ c.flow-list.ensures).0

pub put-requires : goal.put-requires
put-requires c =
    let (u, v) = flow_name c.requires.ready _ c.loop-i.i _ c.flow-list.ensures (search rules) c.left-n.ensures in let z = name_room c.requires.ready _ _ _ _ c.loop-i.invariant.0 v (head_small c.requires.ready _ _ c.row_head-h.ensures) in record { v_bound = z.0; row = z.1 }

pub loop-i-preserved : goal.loop-i-preserved
loop-i-preserved c = (headed_next c.requires.ready c.loop-i.i _ _ _ _ _ c.loop-i.invariant.0 (search rules) (flow_name c.requires.ready _ c.loop-i.i _ c.flow-list.ensures (search rules) c.left-n.ensures).0 (flow_told _ _ _ _ _ c.right.ensures c.flow-list.ensures) c.row_head-h.ensures c.put.ensures, c.put.ensures.long ∙ c.loop-i.invariant.1)

pub returns : goal.returns
returns c = headed_all c.requires.ready c.loop-i.i _ c.loop-i.invariant.0 (search rules)
