use native.Mathlib.Omega.{arith}
use mathlib.Core.Path.{◌∙◌}
use Rattle.positions.proofs.Standing.{run_body}
use Rattle.positions.proofs.branch_body.Goals as goal

pub word-requires : goal.word-requires
word-requires c = let z = run_body _ _ _ c.requires.ends c.requires.run in let r = c.requires.ends.room in omega (arith, z.0)

pub returns : goal.returns
returns c = c.word.ensures.0 ∙ (run_body _ _ _ c.requires.ends c.requires.run).1
