use Prim.Native.Nat.{◌≤◌}
use native.Mathlib.Omega.{arith}
use lib.ListN.{length}
use Rattle.kept_rules.proofs.Keeping.{starts_low, lent_room, put_rules}
use Rattle.rule_tables.proofs.Joining.{put_below}
use Rattle.kept_rules.proofs.rules_from.Goals as goal

pub offset_bounds-tos-first : goal.offset_bounds-tos-first
offset_bounds-tos-first c = record { fits = omega (arith, c.requires.i_lt_states.1) }

pub slice_bounds-rules_of-count : goal.slice_bounds-rules_of-count
slice_bounds-rules_of-count c =
    let begins-here : (c.args.first ≤ length c.args.tos.now) × (c.args.first ≤ length c.args.others.now) = starts_low _ _ _ _ _ c.requires.room_from in begins-here.0

pub slice_bounds-rules_of-start : goal.slice_bounds-rules_of-start
slice_bounds-rules_of-start c =
    let begins-here : (c.args.first ≤ length c.args.tos.now) × (c.args.first ≤ length c.args.others.now) = starts_low _ _ _ _ _ c.requires.room_from in begins-here.0

pub offset_bounds-others-first : goal.offset_bounds-others-first
offset_bounds-others-first c = record { fits = omega (arith, c.requires.i_lt_states.1) }

pub slice_bounds-rules_of-count-2 : goal.slice_bounds-rules_of-count-2
slice_bounds-rules_of-count-2 c =
    let begins-here : (c.args.first ≤ length c.args.tos.now) × (c.args.first ≤ length c.args.others.now) = starts_low _ _ _ _ _ c.requires.room_from in begins-here.1

pub slice_bounds-rules_of-start-2 : goal.slice_bounds-rules_of-start-2
slice_bounds-rules_of-start-2 c =
    let begins-here : (c.args.first ≤ length c.args.tos.now) × (c.args.first ≤ length c.args.others.now) = starts_low _ _ _ _ _ c.requires.room_from in begins-here.1

pub rules_of-requires : goal.rules_of-requires
rules_of-requires c = record { joined_tables = c.requires.joined_tables; i_lt_states = c.requires.i_lt_states.0; rule_room = lent_room _ _ _ _ _ c.requires.room_from }

pub returns : goal.returns
returns c =
    let begins-here : (c.args.first ≤ length c.args.tos.now) × (c.args.first ≤ length c.args.others.now) = starts_low _ _ _ _ _ c.requires.room_from in
    let low = begins-here in
    record {
      rules_from = put_rules _ _ _ _ _ _ _ _ _ low.0 low.1 c.rules_of.ensures;
      same_below = (put_below _ _ _ low.0, put_below _ _ _ low.1);
    }
