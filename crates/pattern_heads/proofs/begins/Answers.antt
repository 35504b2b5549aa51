use mathlib.Core.Path.{sym, ◌∙◌}
use Rattle.pattern_heads.proofs.Fitting.{begins_made, begins_held, begins_any, name_low}
use Rattle.pattern_heads.proofs.begins.Goals as goal

pub returns-then-kind-eq-TAG_PATTERN_CONSTRUCTOR : goal.returns-then-kind-eq-TAG_PATTERN_CONSTRUCTOR
returns-then-kind-eq-TAG_PATTERN_CONSTRUCTOR c = begins_made c.requires.ready _ _ _ c.tag-kind.ensures _ c.if-kind-eq-TAG_PATTERN_CONSTRUCTOR.true c.same_constructor.ensures

pub equals_some-requires : goal.equals_some-requires
equals_some-requires c = record { ready = c.requires.ready; name_heads = c.requires.name_heads; k_lt_names = name_low _ _ _ _ _ c.requires.pattern (sym c.tag-kind.ensures ∙ c.if-kind-eq-TAG_PATTERN_HELD.true) c.num-k.ensures }

pub returns-then-kind-eq-TAG_PATTERN_HELD : goal.returns-then-kind-eq-TAG_PATTERN_HELD
returns-then-kind-eq-TAG_PATTERN_HELD c = begins_held c.requires.ready _ _ _ c.tag-kind.ensures _ _ c.if-kind-eq-TAG_PATTERN_HELD.true c.num-k.ensures c.equals_some.ensures

pub returns : goal.returns
returns c = begins_any c.requires.ready _ _ _ c.tag-kind.ensures c.if-kind-eq-TAG_PATTERN_CONSTRUCTOR.false c.if-kind-eq-TAG_PATTERN_HELD.false
