use lib.ListN.{get_or}
use native.Mathlib.Omega.{arith}
use mathlib.Core.Path.{refl}
use Rattle.bads_rows.proofs.Walking.{row_room}
use Rattle.ceilings_met.proofs.Meeting.{ends_room, sums_order, sum_told}
use borrow.Author.Rules.{rules}
use Rattle.ceilings_met.proofs.item_count.Goals as goal

pub offset_bounds-froms-r : goal.offset_bounds-froms-r
offset_bounds-froms-r c = let h = row_room c.args.ws.now c.args.s c.args.froms.now c.args.tos.now c.requires.summed.items_table c.args.r c.requires.r_lt_badrows in search rules

pub bounds-froms-r : goal.bounds-froms-r
bounds-froms-r c = (row_room c.args.ws.now c.args.s c.args.froms.now c.args.tos.now c.requires.summed.items_table c.args.r c.requires.r_lt_badrows).0

pub overflow_cast-from : goal.overflow_cast-from
overflow_cast-from c = omega (arith, c.type_inv.froms c.args.r)

pub offset_bounds-tos-r : goal.offset_bounds-tos-r
offset_bounds-tos-r c = let h = row_room c.args.ws.now c.args.s c.args.froms.now c.args.tos.now c.requires.summed.items_table c.args.r c.requires.r_lt_badrows in search rules

pub bounds-tos-r : goal.bounds-tos-r
bounds-tos-r c = (row_room c.args.ws.now c.args.s c.args.froms.now c.args.tos.now c.requires.summed.items_table c.args.r c.requires.r_lt_badrows).1

pub overflow_cast-to : goal.overflow_cast-to
overflow_cast-to c = omega (arith, c.type_inv.tos c.args.r)

pub offset_bounds-sums-from : goal.offset_bounds-sums-from
offset_bounds-sums-from c = let h = ends_room c.args.ws.now c.args.s c.args.froms.now c.args.tos.now c.args.sums.now c.requires.summed c.args.r c.requires.r_lt_badrows _ _ refl refl in search rules

pub bounds-sums-from : goal.bounds-sums-from
bounds-sums-from c = (ends_room c.args.ws.now c.args.s c.args.froms.now c.args.tos.now c.args.sums.now c.requires.summed c.args.r c.requires.r_lt_badrows _ _ refl refl).0

pub overflow_cast-below : goal.overflow_cast-below
overflow_cast-below c = omega (arith, c.type_inv.sums (get_or c.args.froms.now c.args.r 0))

pub offset_bounds-sums-to : goal.offset_bounds-sums-to
offset_bounds-sums-to c = let h = ends_room c.args.ws.now c.args.s c.args.froms.now c.args.tos.now c.args.sums.now c.requires.summed c.args.r c.requires.r_lt_badrows _ _ refl refl in search rules

pub bounds-sums-to : goal.bounds-sums-to
bounds-sums-to c = (ends_room c.args.ws.now c.args.s c.args.froms.now c.args.tos.now c.args.sums.now c.requires.summed c.args.r c.requires.r_lt_badrows _ _ refl refl).1

pub overflow_cast-all : goal.overflow_cast-all
overflow_cast-all c = omega (arith, c.type_inv.sums (get_or c.args.tos.now c.args.r 0))

pub overflow_sub-result : goal.overflow_sub-result
overflow_sub-result c = sums_order c.args.ws.now c.args.s c.args.froms.now c.args.tos.now c.args.sums.now c.requires.summed c.args.r c.requires.r_lt_badrows _ _ refl refl _ _ refl refl

pub returns : goal.returns
returns c = sum_told c.args.ws.now c.args.s c.args.froms.now c.args.tos.now c.args.sums.now c.requires.summed c.args.r c.requires.r_lt_badrows _ _ refl refl _ _ refl refl
