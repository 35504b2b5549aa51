use Rattle.opening.proofs.Openings.{globals_begin, globals_next, globals_over, global_here, global_inside}
use native.Mathlib.Omega.{arith}
use borrow.Author.Rules.{rules}
use Rattle.opening.proofs.start.Goals as goal

pub loop-init : goal.loop-init
loop-init c = globals_begin c.requires.ready

pub body-first-requires : goal.body-first-requires
body-first-requires c = record { ready = c.requires.ready; f_value = global_here c.requires.ready _ _ (search rules) c.loop.invariant }

pub word-q-requires : goal.word-q-requires
word-q-requires c = global_inside c.requires.ready c.requires.ends _ _ _ (search rules) c.body-first.ensures c.loop.invariant

pub loop-preserved : goal.loop-preserved
loop-preserved c = globals_next c.requires.ready c.requires.ends _ _ _ _ _ (search rules) (omega arith) c.body-first.ensures c.word-q.ensures.0 c.loop.invariant

pub returns : goal.returns
returns c = globals_over c.requires.ready _ _ (search rules) c.loop.invariant
