use native.Mathlib.Omega.{arith}
use mathlib.Core.Path.{sym, ◌∙◌}
use Rattle.ceilings.proofs.Cells.{row_in}
use Rattle.ceilings_covers.proofs.Covering.{more_none}
use Rattle.ceilings_covers.proofs.one_more_at.Goals as goal

pub limit-requires : goal.limit-requires
limit-requires c = record { k_lt_ceilings = c.requires.beside.ceiling; row = row_in _ c.args.n _ _ c.requires.y_lt_n c.requires.beside.held_by.table }

pub allowing-requires : goal.allowing-requires
allowing-requires c =
    let beside = c.requires.beside in record { holders = beside.held_by; x_lt_n = c.requires.y_lt_n }

pub returns-then-limit-eq0 : goal.returns-then-limit-eq0
returns-then-limit-eq0 c =
    more_none c.args.limits.now _ _ _ _ _ (sym c.limit.ensures.value ∙ c.if-limit-eq0.true) c.raised.ensures.value (λ i. omega (arith, c.type_inv.limits i)) c.allowing.ensures

pub load-requires : goal.load-requires
load-requires c = record { room = omega (arith, c.requires.y_lt_n, c.requires.beside.room) }

pub returns : goal.returns
returns c = λ j h. c.load.ensures j h ∙ c.requires.beside.neighbours.one_more _ j c.requires.y_lt_n (omega (arith, c.limit.ensures.value, c.if-limit-eq0.false)) h
