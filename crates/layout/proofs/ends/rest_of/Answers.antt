use native.Mathlib.Omega.{arith}
use Rattle.model.specs.Words.{columns}
use Rattle.model.specs.Rows.{program}
use Rattle.layout.proofs.Ending.{after_later, after_all}
use Rattle.layout.proofs.Resting.{rest_is}
use Rattle.layout.proofs.ends.rest_of.Goals as goal

pub rest_row-requires : goal.rest_row-requires
rest_row-requires c = record { whole = c.requires.fitted.whole; r_lt_rows = c.requires.ends.1; after_from = after_later _ 0 _ _ (omega arith) (after_all _ _ c.requires.ends.0) }

pub returns : goal.returns
unfolding program columns
returns c =
    rest_is c.args.ws.now c.args.s _ _ c.requires.fitted.fits c.requires.ends.1 c.rest_row.ensures
