use Rattle.ceilings_covers.proofs.Covering.{passes_stepped}
use borrow.Author.Rules.{rules}
use Rattle.ceilings_covers.proofs.passes.Goals as goal

pub returns : goal.returns
returns c = passes_stepped _ _ _ _ _ _ _ _ _ _ (search rules) c.highest.ensures.value c.limit_after-after.ensures c.limit.ensures.value c.limit.ensures.upper_bound c.is_allowed.ensures
