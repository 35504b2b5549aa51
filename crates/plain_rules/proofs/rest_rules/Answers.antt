use mathlib.Core.Path.{refl}
use mathlib.Core.List.{[]}
use Rattle.model.specs.Rows.{self}
use Rattle.rules.specs.Listed.{kind_effect}
use Rattle.rules.proofs.Adding.{added_alone}
use Rattle.plain_rules.proofs.Heads.{plain_gathered}
use Rattle.plain_rules.proofs.rest_rules.Goals as goal

pub behind-requires : goal.behind-requires
behind-requires c = record { ready = c.requires.ready; ends = c.requires.ends; i_lt_states = (c.requires.i_lt_states.0, c.requires.plain.head) }

pub returns : goal.returns
unfolding kind_effect
returns c = added_alone self _ [] _ (λ y. refl) c.requires.tos_nonzero _ (λ e. plain_gathered c.requires.ready _ _ _ e c.requires.i_lt_states.1 c.requires.plain c.behind.ensures)
