use mathlib.Core.Path.{◌∙◌}
use Rattle.system_items.proofs.Ranges.{item_head}
use Rattle.system_items.proofs.item_counters.Goals as goal

pub returns-then-bad_tag-eq-TAG_HEAD : goal.returns-then-bad_tag-eq-TAG_HEAD
returns-then-bad_tag-eq-TAG_HEAD c = item_head c.requires.letters_filled.ready _ _ _ _ _ _ c.bad_tag.ensures c.if-bad_tag-eq-TAG_HEAD.true c.bad_number-class.ensures.0 c.bad_number-row.ensures.0 c.head_counters.ensures.from_value c.head_counters.ensures.to_value

pub letter_counters-requires : goal.letter_counters-requires
letter_counters-requires c = record { letters_filled = c.requires.letters_filled; r_lt_badrows = (c.requires.r_lt_badrows, λ z. c.if-bad_tag-eq-TAG_HEAD.false (c.bad_tag.ensures ∙ z)) }
