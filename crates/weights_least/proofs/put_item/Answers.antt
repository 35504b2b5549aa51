use native.Mathlib.Omega.{arith}
use mathlib.Core.Path.{refl}
use lib.ListN.{get_or}
use Rattle.bads_rows.proofs.Walking.{row_room}
use Rattle.weights_least.proofs.Items.{range_low, range_some, weights_room, item_filled, item_grown}
use borrow.Author.Rules.{rules}
use Rattle.weights_least.proofs.put_item.Goals as goal

pub offset_bounds-froms-r : goal.offset_bounds-froms-r
offset_bounds-froms-r c = let a = c.args in let h = row_room a.ws.now a.s _ _ c.requires.weighable.items_table a.r c.requires.k_lt_lines.1 in search rules

pub bounds-froms-r : goal.bounds-froms-r
bounds-froms-r c = let a = c.args in (row_room a.ws.now a.s _ _ c.requires.weighable.items_table a.r c.requires.k_lt_lines.1).0

pub overflow_cast-from : goal.overflow_cast-from
overflow_cast-from c = omega (arith, c.type_inv.froms c.args.r)

pub offset_bounds-tos-r : goal.offset_bounds-tos-r
offset_bounds-tos-r c = let a = c.args in let h = row_room a.ws.now a.s _ _ c.requires.weighable.items_table a.r c.requires.k_lt_lines.1 in search rules

pub bounds-tos-r : goal.bounds-tos-r
bounds-tos-r c = let a = c.args in (row_room a.ws.now a.s _ _ c.requires.weighable.items_table a.r c.requires.k_lt_lines.1).1

pub overflow_cast-to : goal.overflow_cast-to
overflow_cast-to c = omega (arith, c.type_inv.tos c.args.r)

pub put_lacking-requires : goal.put_lacking-requires
put_lacking-requires c =
    let a = c.args in let low = range_low a.ws.now a.s _ _ _ c.requires.weighable a.r c.requires.k_lt_lines.1 (get_or a.froms.now a.r 0) (get_or a.tos.now a.r 0) refl refl in
    record {
      k_lt_lines = (c.requires.k_lt_lines.0, range_some a.ws.now a.s _ _ _ c.requires.weighable a.r c.requires.k_lt_lines.1 (get_or a.froms.now a.r 0) (get_or a.tos.now a.r 0) refl refl c.requires.has_counter, omega (arith, low, c.requires.weighable.counters_low));
      lines_in_bounds = weights_room a.ws.now a.s _ _ _ c.requires.weighable a.r c.requires.k_lt_lines.1 (get_or a.froms.now a.r 0) (get_or a.tos.now a.r 0) refl refl;
      to_in_bounds = (omega (arith, low, c.requires.k_lt_lines.2), c.bad_number-minimum.ensures.1);
    }

pub returns : goal.returns
returns c =
    let a = c.args in
    record {
      counts_after = item_filled a.ws.now a.s _ _ _ c.requires.weighable a.r c.requires.k_lt_lines.1 (get_or a.froms.now a.r 0) (get_or a.tos.now a.r 0) refl refl a.k c.requires.k_lt_lines.0 _ _ c.requires.next_value c.bad_number-minimum.ensures.0 _ _ _ c.put_lacking.ensures.put_lacking;
      grown = item_grown a.ws.now a.s _ _ _ c.requires.weighable a.r c.requires.k_lt_lines.1 (get_or a.froms.now a.r 0) (get_or a.tos.now a.r 0) refl refl a.k c.requires.k_lt_lines.0 _ _ c.requires.next_value c.bad_number-minimum.ensures.0 _ _ _ c.put_lacking.ensures.put_lacking;
      upper_bound = c.put_lacking.ensures.upper_bound;
    }
