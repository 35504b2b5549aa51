use Prim.Native.Nat.{◌-◌}
use native.Mathlib.Omega.{arith}
use Rattle.model.specs.Rows.{program}
use Rattle.branches.specs.Taken.{code_closed}
use Rattle.asks.specs.Asks.{asks}
use Rattle.asks.proofs.Rows.{row_below, read_name}
use Rattle.asks.proofs.Ranges.{worst_begin, worst_next, worst_over, starts_range}
use Rattle.asks.proofs.Asking.{code_small, name_range, asks_at}
use borrow.Author.Rules.{rules}
use Rattle.asks.proofs.asked.Goals as goal

pub overflow_add-r : goal.overflow_add-r
overflow_add-r c = omega (arith, (row_below c.requires.mail_ready.ready c.args.r (omega (arith, c.requires.starts.1.0))).1)

pub num-name-requires : goal.num-name-requires
num-name-requires c = c.requires.mail_ready.ready.whole

pub word-from-requires : goal.word-from-requires
unfolding program
word-from-requires c = omega (arith, (read_name c.requires.mail_ready.ready _ _ c.requires.starts.1.0 c.requires.starts.1.1 c.num-name.ensures), c.requires.starts.0.room)

pub overflow_add-name : goal.overflow_add-name
unfolding program
overflow_add-name c = omega (arith, (read_name c.requires.mail_ready.ready _ _ c.requires.starts.1.0 c.requires.starts.1.1 c.num-name.ensures), c.requires.mail_ready.ready.limits.names)

pub word-to-requires : goal.word-to-requires
unfolding program
word-to-requires c = omega (arith, (read_name c.requires.mail_ready.ready _ _ c.requires.starts.1.0 c.requires.starts.1.1 c.num-name.ensures), c.requires.starts.0.room)

pub loop-j-init : goal.loop-j-init
loop-j-init c = (worst_begin _ _ (λ there. name_range _ _ _ _ _ c.num-name.ensures (starts_range c.requires.mail_ready.ready c.requires.starts.0 _ _ _ (read_name c.requires.mail_ready.ready _ _ c.requires.starts.1.0 c.requires.starts.1.1 c.num-name.ensures) c.word-from.ensures.0 c.word-to.ensures.0 (λ x. code_closed (asks _ _ _ x) there)).0), omega (arith, c.word-to.ensures.1))

pub asks-code-requires : goal.asks-code-requires
asks-code-requires c = record { mail_ready = c.requires.mail_ready; bound = c.requires.starts.1 }

pub loop-j-preserved : goal.loop-j-preserved
loop-j-preserved c = (worst_next _ _ _ _ _ c.loop-j.invariant.0 (search rules) (asks_at _ _ _ _ _ _ c.asks-code.ensures c.flow_value-x.ensures) (code_small _ _ _ _ _ c.asks-code.ensures) c.worse-worst.ensures, c.loop-j.invariant.1)

pub returns : goal.returns
returns c = (record { together = worst_over _ _ _ c.loop-j.invariant.0 (search rules) }, c.loop-j.invariant.0.most)
