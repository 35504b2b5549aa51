use Rattle.pattern_heads.proofs.Fitting.{equals_class, equals_none, equals_built, head_small, heads_row}
use Rattle.pattern_heads.proofs.equals_some.Goals as goal

pub returns-then-is_class : goal.returns-then-is_class
returns-then-is_class c = equals_class c.requires.ready _ _ _ (rw (← c.is_class.ensures) c.if-is_class.true) c.has_flow.ensures

pub returns-then-tag-ne-TAG_BUILD : goal.returns-then-tag-ne-TAG_BUILD
returns-then-tag-ne-TAG_BUILD c = equals_none c.requires.ready _ _ _ c.tag.ensures c.if-tag-ne-TAG_BUILD.true _ c.is_class.ensures c.if-is_class.false

pub holds-requires : goal.holds-requires
holds-requires c = record { v_bound = head_small c.requires.ready _ _ c.row_head-h.ensures; row = heads_row _ _ _ c.requires.name_heads _ c.requires.k_lt_names }

pub returns : goal.returns
returns c = equals_built c.requires.ready c.requires.name_heads _ _ _ _ _ c.requires.k_lt_names c.tag.ensures c.if-tag-ne-TAG_BUILD.false c.row_head-h.ensures c.holds.ensures
