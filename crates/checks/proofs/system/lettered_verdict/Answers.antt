use native.Mathlib.Omega.{arith}
use borrow.Author.Rules.{rules}
use Rattle.stages.proofs.Answering.{below_told}
use Rattle.checks.proofs.Laying.{letters_from, lent_classes, counters_few, match_tables, rule_tables, owners_kept}
use Rattle.checks.proofs.system.lettered_verdict.Goals as goal

pub slice_bounds-letter_at-start : goal.slice_bounds-letter_at-start
slice_bounds-letter_at-start c = let l = letters_from _ _ _ _ _ _ _ c.requires.lettered in search rules

pub slice_bounds-letter_at-count : goal.slice_bounds-letter_at-count
slice_bounds-letter_at-count c = omega (arith, letters_from _ _ _ _ _ _ _ c.requires.lettered)

pub fill_letters-requires : goal.fill_letters-requires
fill_letters-requires c =
    let l = c.requires.lettered in
    record {
      letters_known = record { heads = record { ready = l.closed_tables.ready; name_heads = l.name_heads }; class_letters = lent_classes _ _ _ _ _ _ _ l; coded = l.coded };
      letters_empty = record { room = c.requires.letter_room; empty = c.requires.empty };
    }

pub fill_reads-requires : goal.fill_reads-requires
fill_reads-requires c =
    let l = c.requires.lettered in
    record {
      pattern_tables = record {
        match_tables = match_tables _ _ _ _ _ _ _ l _ c.name_width-w.ensures;
        ends = l.closed_tables.ends;
        letter_tables = record { ready = l.closed_tables.ready; few = counters_few _ _ _ _ _ _ _ l; class_letters = lent_classes _ _ _ _ _ _ _ l; letter_sets_of = c.fill_letters.ensures };
      };
      owners_room = owners_kept _ _ _ _ c.requires.owners_room (search rules);
    }

pub bounds_verdict-requires : goal.bounds_verdict-requires
bounds_verdict-requires c =
    let l = c.requires.lettered in record { joined_tables = rule_tables _ _ _ _ _ _ _ l _ c.fill_reads.ensures.letter_sets c.fill_reads.ensures.reads; formed = l.formed }

pub returns : goal.returns
returns c = record { value = below_told _ _ _ _ _ c.bounds_verdict.ensures.value c.requires.lettered.formed.counted; lent_after = c.bounds_verdict.ensures.lent_after }
