use Prim.Native.Nat.{◌-◌, ◌<◌}
use native.Mathlib.Omega.{arith}
use mathlib.Core.Path.{◌≡◌, refl}
use mathlib.Core.List.{[]}
use borrow.Author.Rules.{rules}
use Rattle.model.specs.Rows.{give}
use Rattle.rules.specs.Listed.{kind_effect}
use Rattle.rules.proofs.States.{return_call}
use Rattle.rules.proofs.Adding.{added_none, added_nothing, added_same, added_quiet}
use Rattle.plain_rules.proofs.Heads.{tag_head, here_low, give_nothing, give_range, give_gathered, give_kept}
use Rattle.plain_rules.proofs.give_rules.Goals as goal

-- a state at the call
low : (c : goal.In-loop-j) → c.loop-j.j < c.args.s.states
low c = omega (arith, (give_range c.requires.ready c.args.i _ _ c.requires.i_value c.state_return-b.ensures c.state_class-c.ensures _ _ c.heads_from-from.ensures c.heads_to-to.ensures).1, c.loop-j.invariant.2)

pub returns-then-b-s : goal.returns-then-b-s
returns-then-b-s c = added_same give _ [] 0 _ [] 0 _ _ (added_nothing give _ [] 0 (omega arith)) (give_nothing c.requires.ready c.args.i _ _ c.requires.i_value c.state_return-b.ensures refl c.if-b-s.true)

pub heads_to-to-requires : goal.heads_to-to-requires
heads_to-to-requires c = record {
  ready = c.requires.ready;
  r_bound = omega (arith, here_low c.requires.ready c.state_return-b.result (tag_head _ 4 (return_call c.requires.ready c.args.i _ c.requires.i_lt_states c.state_return-b.ensures c.if-b-s.false) (omega arith) (omega arith)), c.requires.ready.limits.rows);
}

pub rest-e-requires : goal.rest-e-requires
rest-e-requires c = record {
  ready = c.requires.ready;
  ends = c.requires.ends;
  r_value = tag_head _ 4 (return_call c.requires.ready c.args.i _ c.requires.i_lt_states c.state_return-b.ensures c.if-b-s.false) (omega arith) (omega arith);
}

pub loop-j-init : goal.loop-j-init
loop-j-init c = (added_none give _ [] 0 _ _ (omega arith), omega arith, (give_range c.requires.ready c.args.i _ _ c.requires.i_value c.state_return-b.ensures c.state_class-c.ensures _ _ c.heads_from-from.ensures c.heads_to-to.ensures).0, omega arith)

pub onto-requires : goal.onto-requires
onto-requires c = record { ready = c.requires.ready; i_lt_states = omega (arith, low c, c.loop-j.invariant.1) }

pub offset_bounds-tos-n : goal.offset_bounds-tos-n
offset_bounds-tos-n c =
    let low-here : c.loop-j.j < c.args.s.states = omega (arith, (give_range c.requires.ready c.args.i _ _ c.requires.i_value c.state_return-b.ensures c.state_class-c.ensures _ _ c.heads_from-from.ensures c.heads_to-to.ensures).1, c.loop-j.invariant.2) in record { fits = omega (arith, low-here, c.requires.ready.limits.states, c.loop-j.invariant.3) }

pub bounds-tos-n : goal.bounds-tos-n
bounds-tos-n c =
    let low-here : c.loop-j.j < c.args.s.states = omega (arith, (give_range c.requires.ready c.args.i _ _ c.requires.i_value c.state_return-b.ensures c.state_class-c.ensures _ _ c.heads_from-from.ensures c.heads_to-to.ensures).1, c.loop-j.invariant.2) in omega (arith, low-here, c.requires.states_in_bounds, c.loop-j.invariant.3, c.loop-j.invariant.0.tos_long)

pub overflow_add-n : goal.overflow_add-n
overflow_add-n c =
    let low-here : c.loop-j.j < c.args.s.states = omega (arith, (give_range c.requires.ready c.args.i _ _ c.requires.i_value c.state_return-b.ensures c.state_class-c.ensures _ _ c.heads_from-from.ensures c.heads_to-to.ensures).1, c.loop-j.invariant.2) in record { fits = omega (arith, low-here, c.requires.ready.limits.states, c.loop-j.invariant.3) }

pub overflow_step-j : goal.overflow_step-j
overflow_step-j c =
    let low-here : c.loop-j.j < c.args.s.states = omega (arith, (give_range c.requires.ready c.args.i _ _ c.requires.i_value c.state_return-b.ensures c.state_class-c.ensures _ _ c.heads_from-from.ensures c.heads_to-to.ensures).1, c.loop-j.invariant.2) in record { fits = omega (arith, low-here, c.requires.ready.limits.states, c.loop-j.invariant.3) }

pub loop-j-preserved : goal.loop-j-preserved
unfolding kind_effect
loop-j-preserved c =
    let low-here : c.loop-j.j < c.args.s.states = omega (arith, (give_range c.requires.ready c.args.i _ _ c.requires.i_value c.state_return-b.ensures c.state_class-c.ensures _ _ c.heads_from-from.ensures c.heads_to-to.ensures).1, c.loop-j.invariant.2) in (added_quiet give _ [] 0 _ [] _ _ _ _ c.loop-j.invariant.0 c.loop-j.invariant.1 _ (λ y. refl) (omega (arith, low-here, c.requires.states_in_bounds, c.loop-j.invariant.3, c.loop-j.invariant.0.tos_long)) (λ k. give_kept c.requires.ready c.args.i _ _ c.requires.i_value c.state_return-b.ensures c.state_class-c.ensures _ _ c.heads_from-from.ensures c.heads_to-to.ensures k _ _ _ c.loop-j.invariant.1 (search rules) c.rest-e.ensures c.onto.ensures), search rules, search rules, search rules)

pub returns : goal.returns
returns c = added_same give _ [] 0 _ [] _ _ _ c.loop-j.invariant.0 (λ k. let z : c.loop-j.j ≡ c.heads_to-to.result = omega (arith, c.loop-j.invariant.2, c.loop-j-test.false) in rw z (give_gathered c.requires.ready c.args.i _ _ c.requires.i_value c.state_return-b.ensures c.state_class-c.ensures _ _ c.heads_from-from.ensures c.heads_to-to.ensures k))
