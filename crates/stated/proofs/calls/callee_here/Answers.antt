use mathlib.Core.Path.{sym, ◌∙◌}
use Rattle.model.specs.Tables.{state_at}
use Rattle.branches.proofs.Walk.{state_there}
use Rattle.asks.proofs.Rows.{takes_count}
use Rattle.stated.proofs.Giving.{callee_no, callee_yes}
use Rattle.stated.proofs.calls.callee_here.Goals as goal

pub takes-requires : goal.takes-requires
takes-requires c = c.requires.whole

pub body-first-requires : goal.body-first-requires
body-first-requires c = record { ready = c.requires; f_value = (takes_count _ _ _ (sym c.takes.ensures ∙ c.if-takes.true)).0 }

pub returns-then-takes : goal.returns-then-takes
unfolding state_at
returns-then-takes c = callee_yes _ _ _ _ _ _ c.takes.ensures c.if-takes.true _ _ c.body-first.ensures (state_there _ _ _ _ c.called.ensures)

pub returns-else-takes : goal.returns-else-takes
returns-else-takes c = callee_no _ _ _ _ _ _ c.takes.ensures c.if-takes.false
