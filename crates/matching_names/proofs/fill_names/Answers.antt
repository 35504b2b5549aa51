use Prim.Native.Nat.{◌-◌}
use native.Mathlib.Omega.{arith}
use mathlib.Core.Path.{refl}
use borrow.Author.Rules.{rules}
use Rattle.lists.proofs.Facts.{flow_usable}
use Rattle.values.proofs.Gathered.{flow_entry, width_above}
use Rattle.matching_sets.proofs.Joining.{row_kept}
use Rattle.matching_names.proofs.Naming.{names_begin, names_skip, names_next, names_done}
use Rattle.matching_names.proofs.fill_names.Goals as goal

pub loop-i-init : goal.loop-i-init
loop-i-init c = (names_begin _ _ _ _ _, search rules)

pub right-v-requires : goal.right-v-requires
right-v-requires c = (flow_usable c.requires.ready _ c.flow-l.ensures).0

pub value_fits-requires : goal.value_fits-requires
value_fits-requires c = record {
  ready = c.requires.ready;
  w_value = (c.width-w.ensures, (flow_entry c.requires.ready _ _ _ _ _ c.flow-l.ensures c.width-w.ensures (search rules) refl c.right-v.ensures).0, row_kept c.width-w.ensures c.requires.row.0 refl);
}

pub loop-i-preserved-then-not-value_fits : goal.loop-i-preserved-then-not-value_fits
loop-i-preserved-then-not-value_fits c = (names_skip _ _ _ _ _ _ _ c.loop-i.invariant.0 c.right-v.ensures c.value_fits.ensures c.if-not-value_fits.true, search rules)

pub left-n-requires : goal.left-n-requires
left-n-requires c = (flow_usable c.requires.ready _ c.flow-l.ensures).0

pub put-requires : goal.put-requires
put-requires c =
    let (a, n) = flow_entry c.requires.ready _ _ _ _ _ c.flow-l.ensures c.width-w.ensures (search rules) c.left-n.ensures c.right-v.ensures in
    record {
      v_bound = rw c.name_width-words.ensures (width_above _ _ (omega arith));
      row = row_kept c.name_width-words.ensures c.requires.row.1 c.loop-i.invariant.0.long;
    }

pub loop-i-preserved : goal.loop-i-preserved
loop-i-preserved c = (names_next _ _ _ _ _ _ _ _ c.loop-i.invariant.0 c.right-v.ensures c.value_fits.ensures c.if-not-value_fits.false c.left-n.ensures c.put.ensures, search rules)

pub shape_of-fitting : goal.shape_of-fitting
shape_of-fitting c = c.loop-i.invariant.0.long

pub returns : goal.returns
returns c = names_done _ _ _ _ _ _ _ c.flow-l.ensures c.name_width-words.ensures (search rules) c.loop-i.invariant.0
