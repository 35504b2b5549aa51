use native.Mathlib.Omega.{arith}
use lib.ListN.{length-drop}
use borrow.Author.Rules.{part_to_end}
use Rattle.rule_tables.specs.Joined.{letter_from}
use Rattle.ceilings_leaks.proofs.set_words.Goals as goal

pub slice_bounds-letter_at-count : goal.slice_bounds-letter_at-count
slice_bounds-letter_at-count c = omega (arith, length-drop letter_from c.args.narrow.now, c.requires.class_letters.room)

pub letter_width-requires : goal.letter_width-requires
letter_width-requires c = record { ready = c.requires.ready; class_letters = rw (part_to_end c.args.narrow.now letter_from) c.requires.class_letters }

pub slice_bounds-letter_at-start : goal.slice_bounds-letter_at-start
slice_bounds-letter_at-start c = omega (arith, length-drop letter_from c.args.narrow.now, c.requires.class_letters.room)
