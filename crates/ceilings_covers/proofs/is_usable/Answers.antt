use borrow.Author.Rules.{rules}
use Rattle.steps.proofs.Stepping.{usable_none, usable_free, usable_reads}
use Rattle.ceilings.proofs.Cells.{row_in}
use Rattle.ceilings_covers.proofs.is_usable.Goals as goal

pub highest-requires : goal.highest-requires
highest-requires c = record { k_lt_ceilings = c.requires.k_lt_ceilings.0; row = row_in _ c.args.n _ _ c.requires.step_apart.from c.requires.k_lt_ceilings.1 }

pub returns-then-highest-eq0 : goal.returns-then-highest-eq0
returns-then-highest-eq0 c = usable_none _ _ _ c.highest.ensures.value (search rules)

pub returns-then-step-ne1 : goal.returns-then-step-ne1
returns-then-step-ne1 c = usable_free _ _ _ c.highest.ensures.value c.if-highest-eq0.false c.if-step-ne1.true c.requires.step_apart.kind

pub highest-requires-2 : goal.highest-requires-2
highest-requires-2 c = record { k_lt_ceilings = c.requires.k_lt_ceilings.0; row = row_in _ c.args.n _ _ (c.requires.step_apart.read (search rules)).0 c.requires.k_lt_ceilings.1 }

pub returns : goal.returns
returns c = usable_reads _ _ _ c.highest.ensures.value _ c.if-highest-eq0.false (search rules) c.highest-2.ensures.value
