use Rattle.std.proofs.Common.{arith, ◌≡◌, length}
use Rattle.std.proofs.lemmas.Grind.{common_steps}
use Rattle.weights_least.proofs.Filling.{none_counted, none_filled}
use Rattle.weights_least.proofs.clear.Goals as goal

pub returns : goal.returns
returns c = let e = c.fill.ensures.after (λ y h. h) in let l : length c.fill.new.self ≡ c.args.n = grind (arith, common_steps, c.fill.ensures.len, c.requires) in none_counted _ _ (none_filled _ _ _ _ l e)
