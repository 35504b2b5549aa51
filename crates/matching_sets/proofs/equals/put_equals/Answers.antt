use native.Mathlib.Omega.{arith}
use mathlib.Core.Path.{refl, sym, ◌∙◌}
use Rattle.model.specs.Words.{columns}
use Rattle.model.specs.Rows.{program}
use Rattle.model.proofs.Parse.Lengths.{row_within}
use Rattle.lists.proofs.Facts.{columns_whole}
use Rattle.matching_sets.proofs.Joining.{row_kept, put_class, put_build, put_none, put_there}
use Rattle.matching_sets.proofs.equals.put_equals.Goals as goal

pub put-requires : goal.put-requires
put-requires c = record { v_bound = rw c.width-w.ensures c.requires.equals_room.low; row = row_kept c.width-w.ensures c.requires.equals_room.row refl }

pub returns-then-is_class : goal.returns-then-is_class
returns-then-is_class c = put_class _ _ _ _ _ _ _ _ c.is_class.ensures c.width-w.ensures c.if-is_class.true c.put.ensures

pub returns-then-tag-ne-TAG_BUILD : goal.returns-then-tag-ne-TAG_BUILD
returns-then-tag-ne-TAG_BUILD c = put_none _ _ _ _ 0 _ _ _ c.is_class.ensures _ c.tag.ensures c.if-is_class.false c.if-tag-ne-TAG_BUILD.true refl

pub holds-requires : goal.holds-requires
holds-requires c = record { v_bound = rw c.width-w.ensures c.requires.equals_room.low; row = row_kept c.width-w.ensures c.requires.equals_room.row refl }

pub returns-then-holds : goal.returns-then-holds
returns-then-holds c = put_there _ _ _ _ _ _ _ _ c.is_class.ensures _ c.tag.ensures c.if-is_class.false _ c.width-w.ensures c.requires.equals_room.low c.requires.equals_room.alike c.if-tag-ne-TAG_BUILD.false c.holds.ensures c.if-holds.true refl

pub put_builds-requires : goal.put_builds-requires
unfolding program columns
put_builds-requires c = record {
  build_ready = c.requires.build_ready;
  row = (c.requires.equals_room.row, (sym c.tag.ensures ∙ c.if-tag-ne-TAG_BUILD.false, row_within (columns_whole c.requires.build_ready.ready) _ (omega (arith, c.tag.ensures, c.if-tag-ne-TAG_BUILD.false))));
}

pub returns : goal.returns
returns c = put_build _ _ _ _ 0 _ _ _ c.is_class.ensures _ c.tag.ensures c.if-is_class.false c.if-tag-ne-TAG_BUILD.false c.put_builds.ensures
