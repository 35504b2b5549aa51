use Prim.Native.Nat.{◌-◌}
use native.Mathlib.Omega.{arith}
use mathlib.Core.Path.{refl, ◌∙◌}
use lib.ListN.{length-set}
use Rattle.system_items.proofs.Table.{own_low, none_filled, more_filled, all_filled}
use borrow.Author.Rules.{rules}
use Rattle.system_items.proofs.fill_items.Goals as goal

pub loop-r-init : goal.loop-r-init
loop-r-init c = (none_filled c.args.ws.now c.args.s c.args.froms.now c.args.tos.now, search rules, refl, refl)

pub item_counters-own-requires : goal.item_counters-own-requires
item_counters-own-requires c = record { letters_filled = c.requires.letters_filled; r_lt_badrows = c.loop-r-test.true }

pub overflow_cast-froms : goal.overflow_cast-froms
overflow_cast-froms c = omega (arith, (own_low c.args.ws.now c.args.s c.requires.items_room.few _ _ _ c.item_counters-own.ensures).0)

pub overflow_cast-tos : goal.overflow_cast-tos
overflow_cast-tos c = omega (arith, (own_low c.args.ws.now c.args.s c.requires.items_room.few _ _ _ c.item_counters-own.ensures).1)

pub loop-r-preserved : goal.loop-r-preserved
loop-r-preserved c = (more_filled c.args.ws.now c.args.s c.loop-r.r _ _ c.loop-r.froms c.loop-r.tos c.loop-r.invariant.0 (search rules) (search rules) c.item_counters-own.ensures, search rules, length-set c.loop-r.froms c.loop-r.r _ ∙ c.loop-r.invariant.2, length-set c.loop-r.tos c.loop-r.r _ ∙ c.loop-r.invariant.3)

pub returns : goal.returns
returns c = all_filled c.args.ws.now c.args.s c.loop-r.r c.loop-r.froms c.loop-r.tos (search rules) c.loop-r.invariant.0 (search rules) (search rules)
