use Rattle.ceilings_masks.proofs.Comparing.{three_put}
use Rattle.ceilings_masks.proofs.store_three.Goals as goal

pub returns : goal.returns
returns c = three_put _ _ _ _ _ _ _ _ c.store.ensures c.store-2.ensures c.store-3.ensures
