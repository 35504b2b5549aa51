use native.Mathlib.Omega.{arith}
use Rattle.branches.proofs.Walk.{state_there}
use Rattle.stated.proofs.Dispatch.{code_none, code_lacks, code_there, rest_told}
use Rattle.model.proofs.Heads.{head_between}
use Rattle.stated.proofs.states.rest_closed.Goals as goal

pub returns-then-k-eq0 : goal.returns-then-k-eq0
returns-then-k-eq0 c = code_none _ _ c.if-k-eq0.true

pub returns-then-k-ne1 : goal.returns-then-k-ne1
returns-then-k-ne1 c = code_lacks _ _ c.if-k-eq0.false c.if-k-ne1.true

pub rest-next-requires : goal.rest-next-requires
rest-next-requires c = record {
  ready = c.requires.layout_ready.ready;
  ends = c.requires.layout_ready.layout;
  r_value = head_between _ (omega (arith, c.requires.i_lt_states.1.0)) (omega (arith, c.requires.i_lt_states.1.1));
}

pub returns : goal.returns
returns c = code_there _ _ _ c.if-k-ne1.false (rest_told _ _ _ _ _ c.rest-next.ensures (state_there _ _ _ _ c.onward.ensures))
