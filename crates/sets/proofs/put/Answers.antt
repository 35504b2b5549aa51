use Rattle.bits.proofs.Rows.{put_is}
use borrow.Author.Rules.{rules}
use Rattle.sets.proofs.put.Goals as goal

pub returns : goal.returns
returns c = put_is _ _ _ _ c.requires.v_bound (search rules)
