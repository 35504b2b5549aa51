use native.Mathlib.Omega.{arith}
use borrow.Author.Rules.{rules}
use Rattle.checks.proofs.Laying.{letters_from, lent_classes, counters_few, all_words}
use Rattle.checks.proofs.system.+sets_verdict.Goals as goal

pub letters_over-requires : goal.letters_over-requires
letters_over-requires t c =
    let l = c.requires.lettered in record { lettered = l; words_bound = (all_words _ _ _ _ _ _ _ l, omega arith) }

pub slice_bounds-letter_words-start : goal.slice_bounds-letter_words-start
slice_bounds-letter_words-start t c = let l = letters_from _ _ _ _ _ _ _ c.requires.lettered in search rules

pub slice_bounds-letter_words-count : goal.slice_bounds-letter_words-count
slice_bounds-letter_words-count t c = omega (arith, letters_from _ _ _ _ _ _ _ c.requires.lettered)

pub letter_words-words-requires : goal.letter_words-words-requires
letter_words-words-requires t c =
    let l = c.requires.lettered in
    record {
      ready = l.closed_tables.ready;
      class_letters = lent_classes _ _ _ _ _ _ _ l;
      s_bound = counters_few _ _ _ _ _ _ _ l;
    }
