use native.Mathlib.Omega.{arith}
use Rattle.model.specs.Rows.{program}
use Rattle.value_letters.specs.Letters.{ValueOf}
use Rattle.value_letters.proofs.Values.{value_arguments}
use Rattle.value_letters.proofs.Extending.{value_none, value_extended, head_digit}
use Rattle.value_letters.proofs.add_value.Goals as goal

pub value_arity-arity-requires : goal.value_arity-arity-requires
value_arity-arity-requires c = record { whole = c.requires.heads_known.ready.whole; v_bound = c.requires.v_bound.0 }

-- the arguments of the value
value : (c : goal.After-value_arity-arity) → ValueOf (program c.args.ws.now c.args.s) c.args.v c.value_arity-arity.result
value c = record { low = c.requires.v_bound.0; arguments = value_arguments c.requires.heads_known.ready _ _ c.value_arity-arity.ensures }

pub lacks_head-requires : goal.lacks_head-requires
lacks_head-requires c = record { heads_known = c.requires.heads_known; value_of = value c }

pub returns-then-lacks_head : goal.returns-then-lacks_head
returns-then-lacks_head c =
    let value-here : ValueOf (program c.args.ws.now c.args.s) c.args.v c.value_arity-arity.result = record { low = c.requires.v_bound.0; arguments = value_arguments c.requires.heads_known.ready _ _ c.value_arity-arity.ensures } in value_none c.requires.heads_known value-here.arguments c.value_arity-arity.ensures (c.lacks_head.ensures.lacking c.if-lacks_head.true) c.requires.v_bound.1

pub row_head-head-requires : goal.row_head-head-requires
row_head-head-requires c = c.requires.heads_known.ready.whole

pub extend-requires : goal.extend-requires
extend-requires c =
    let value-here : ValueOf (program c.args.ws.now c.args.s) c.args.v c.value_arity-arity.result = record { low = c.requires.v_bound.0; arguments = value_arguments c.requires.heads_known.ready _ _ c.value_arity-arity.ensures } in
    record {
      heads_known = c.requires.heads_known;
      prefixed = record { value = value-here; digit = omega arith; short = head_digit c.requires.heads_known.ready _ _ c.row_head-head.ensures; room = c.requires.v_bound.1 };
    }

pub returns : goal.returns
returns c =
    let value-here : ValueOf (program c.args.ws.now c.args.s) c.args.v c.value_arity-arity.result = record { low = c.requires.v_bound.0; arguments = value_arguments c.requires.heads_known.ready _ _ c.value_arity-arity.ensures } in value_extended c.requires.heads_known value-here.arguments _ c.value_arity-arity.ensures c.row_head-head.ensures c.extend.ensures
