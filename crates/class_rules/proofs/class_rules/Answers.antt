use mathlib.Core.Bool.{not}
use mathlib.Core.Path.{ap}
use native.Mathlib.Omega.{arith}
use mathlib.Core.Path.{sym, ◌∙◌}
use Rattle.rules.specs.Listed.{kind_effect}
use Rattle.rules.proofs.Adding.{added_same, added_nothing}
use Rattle.class_rules.proofs.Asking.{class_none, class_same}
use Rattle.class_rules.proofs.class_rules.Goals as goal

pub returns-then-not-meets : goal.returns-then-not-meets
returns-then-not-meets c = record {
  added = λ k. added_same k _ _ _ _ _ _ _ _ (added_nothing k _ _ _ (omega (arith, c.requires.letter_room.tos_room, c.requires.letter_room.order)))
      (λ e. sym (class_none _ _ _ _ c.requires.letter_room.inside (kind_effect k) _ _ _ c.meets.ensures (ap not c.if-not-meets.true) e) ∙ class_same _ _ _ _ c.requires.letter_room.inside (kind_effect k) _ _ _ c.keep_within.ensures e);
  d_bound = omega (arith, c.requires.letter_room.order);
}

pub returns : goal.returns
returns c = record {
  added = λ k. added_same k _ _ _ _ _ _ _ _ (c.letter_rules.ensures.added k) (λ e. class_same _ _ _ _ c.requires.letter_room.inside (kind_effect k) _ _ _ c.keep_within.ensures e);
  d_bound = c.letter_rules.ensures.d_bound;
}
