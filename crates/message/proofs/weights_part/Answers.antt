-- Where the message goes on, the part is `part` at its place, with its sizes.
use mathlib.Core.Path.{refl, sym, ◌∙◌}
use borrow.Author.Rules.{rules}
use Rattle.model.specs.Message.{ceilings_offset, weights_offset, weights_sizes}
use Rattle.message.proofs.Checks.{no_weights, with_weights}
use Rattle.message.proofs.weights_part.Goals as goal

pub returns-then-not-goes_on : goal.returns-then-not-goes_on
returns-then-not-goes_on c = no_weights _ _ _ (sym c.goes_on.ensures ∙ c.if-not-goes_on.true)

pub part-requires : goal.part-requires
unfolding weights_offset ceilings_offset
part-requires c = search rules

pub returns : goal.returns
returns c = with_weights _ _ _ _ (sym c.goes_on.ensures ∙ c.if-not-goes_on.false) c.weights_at.ensures (c.part.ensures (weights_sizes c.args.s) refl (sym c.weights_outside.ensures))
