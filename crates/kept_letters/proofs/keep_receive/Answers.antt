use Prim.Native.Nat.{◌-◌}
use native.Mathlib.Omega.{arith}
use mathlib.Core.Path.{refl, sym, ◌∙◌}
use Rattle.model.specs.Words.{columns}
use Rattle.model.specs.Rows.{program}
use Rattle.plain_rules.proofs.Heads.{tag_head, here_low}
use Rattle.plain_rules.proofs.Branches.{branch_begin, branch_here, branch_next, one_run}
use Rattle.state_rules.proofs.Branches.{branch_pattern, receive_count, receive_rows, receive_class}
use Rattle.branch_letters.proofs.Keeping.{read_tables}
use borrow.Author.Rules.{rules}
use Rattle.kept_letters.proofs.keep_receive.Goals as goal

pub state_class-c-requires : goal.state_class-c-requires
state_class-c-requires c = c.requires.read_tables.pattern_tables.match_tables.ready

pub state_return-back-requires : goal.state_return-back-requires
state_return-back-requires c = c.requires.read_tables.pattern_tables.match_tables.ready

pub num-m-requires : goal.num-m-requires
num-m-requires c = c.requires.read_tables.pattern_tables.match_tables.ready.whole

pub overflow_add-q : goal.overflow_add-q
overflow_add-q c = record { fits = omega (arith, here_low c.requires.read_tables.pattern_tables.match_tables.ready c.args.r (tag_head _ 9 c.requires.i_lt_states.1 (omega arith) (omega arith)), c.requires.read_tables.pattern_tables.match_tables.ready.limits.rows) }

pub loop-b-init : goal.loop-b-init
loop-b-init c = (branch_begin _ _ _ (rw c.num-m.ensures (receive_rows c.requires.read_tables.pattern_tables.match_tables.ready c.args.r c.requires.i_lt_states.1)), omega arith, c.requires.read_tables.pattern_tables.letter_tables.letter_sets_of, c.requires.read_tables.reads, refl)

pub branch_body-e-requires : goal.branch_body-e-requires
branch_body-e-requires c = record { ends = c.requires.read_tables.pattern_tables.ends; run = one_run _ _ _ _ _ c.loop-b.invariant.0 (search rules) }

pub word-q-requires : goal.word-q-requires
unfolding program columns
word-q-requires c = omega (arith, (branch_here _ _ c.requires.read_tables.pattern_tables.ends _ _ _ _ c.loop-b.invariant.0 (search rules)).2, c.branch_body-e.ensures, c.requires.read_tables.pattern_tables.ends.room)

pub state_index-x-requires : goal.state_index-x-requires
state_index-x-requires c = c.requires.read_tables.pattern_tables.match_tables.ready

pub keep_branch-requires : goal.keep_branch-requires
keep_branch-requires c = record {
  read_tables = read_tables c.requires.read_tables.pattern_tables c.loop-b.invariant.2 c.loop-b.invariant.3;
  c_le_rows = (receive_class c.requires.read_tables.pattern_tables.match_tables.ready c.args.i _ c.requires.i_lt_states.0 c.state_class-c.ensures, branch_pattern c.requires.read_tables.pattern_tables.match_tables.ready _ _ _ _ c.loop-b.invariant.0 (search rules));
}

pub overflow_step-b : goal.overflow_step-b
overflow_step-b c = record { fits = omega (arith, receive_count c.requires.read_tables.pattern_tables.match_tables.ready c.args.r c.requires.i_lt_states.1, c.num-m.ensures) }

pub loop-b-preserved : goal.loop-b-preserved
loop-b-preserved c = (branch_next _ _ c.requires.read_tables.pattern_tables.ends _ _ _ _ c.loop-b.invariant.0 (search rules) _ _ (c.branch_body-e.ensures ∙ sym (branch_here _ _ c.requires.read_tables.pattern_tables.ends _ _ _ _ c.loop-b.invariant.0 (search rules)).1) c.word-q.ensures.0, search rules, c.keep_branch.ensures.letter_sets, c.keep_branch.ensures.reads, search rules)

pub shape_of-letters : goal.shape_of-letters
shape_of-letters c = c.loop-b.invariant.4

pub returns : goal.returns
returns c = record { letter_sets = c.loop-b.invariant.2; reads = c.loop-b.invariant.3 }
