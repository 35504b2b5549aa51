use Prim.Native.Nat.{◌-◌}
use native.Mathlib.Omega.{arith}
use mathlib.Core.Path.{sym, ◌∙◌}
use Rattle.branch_letters.proofs.Keeping.{read_tables}
use borrow.Author.Rules.{rules}
use Rattle.kept_letters.proofs.fill_reads.Goals as goal

pub forget_letters-requires : goal.forget_letters-requires
forget_letters-requires c = record { letter_tables = c.requires.pattern_tables.letter_tables; owners_room = c.requires.owners_room }

pub loop-i-init : goal.loop-i-init
loop-i-init c = (c.forget_letters.ensures.letter_sets, c.forget_letters.ensures.reads, search rules, search rules)

pub state_location-r-requires : goal.state_location-r-requires
state_location-r-requires c = c.requires.pattern_tables.match_tables.ready

pub tag-requires : goal.tag-requires
tag-requires c = c.requires.pattern_tables.match_tables.ready.whole

pub loop-i-preserved-then-tag-ne-TAG_RECEIVE : goal.loop-i-preserved-then-tag-ne-TAG_RECEIVE
loop-i-preserved-then-tag-ne-TAG_RECEIVE c = (c.loop-i.invariant.0, c.loop-i.invariant.1, c.loop-i.invariant.2, search rules)

pub keep_receive-requires : goal.keep_receive-requires
keep_receive-requires c = record {
  read_tables = read_tables c.requires.pattern_tables c.loop-i.invariant.0 c.loop-i.invariant.1;
  i_lt_states = (search rules, sym c.tag.ensures ∙ c.if-tag-ne-TAG_RECEIVE.false);
}

pub overflow_step-i-in-loop-i : goal.overflow_step-i-in-loop-i
overflow_step-i-in-loop-i c = record { fits = omega (arith, c.requires.pattern_tables.match_tables.ready.limits.states) }

pub loop-i-preserved : goal.loop-i-preserved
loop-i-preserved c = (c.keep_receive.ensures.letter_sets, c.keep_receive.ensures.reads, search rules, search rules)

pub returns : goal.returns
returns c = record { letter_sets = c.loop-i.invariant.0; reads = c.loop-i.invariant.1 }
