use mathlib.Core.Bool.{not}
use mathlib.Core.Path.{ap}
use Prim.Native.Nat.{◌-◌}
use native.Mathlib.Omega.{arith}
use mathlib.Core.Path.{◌≡◌, refl, sym, ◌∙◌}
use mathlib.Core.List.{[]}
use borrow.Author.Rules.{rules}
use Rattle.model.specs.Rows.{program, case}
use Rattle.model.specs.Tables.{tables}
use Rattle.model.specs.Words.{columns}
use Rattle.rules.specs.Listed.{kind_effect}
use Rattle.rules.proofs.Adding.{added_none, added_same, added_kept, added_quiet}
use Rattle.plain_rules.proofs.Heads.{tag_head, here_low, skipped}
use Rattle.plain_rules.proofs.Branches.{branch_begin, branch_here, branch_next, case_count, case_rows, case_gathered, case_kept, one_run}
use Rattle.plain_rules.specs.Heads.{case_turn}
use Rattle.model.specs.Tables.{entries}
use Rattle.plain_rules.proofs.case_rules.Goals as goal

pub overflow_add-r : goal.overflow_add-r
overflow_add-r c = record { fits = omega (arith, here_low c.requires.ready c.args.r (tag_head _ 8 c.requires.r_value (omega arith) (omega arith)), c.requires.ready.limits.rows) }

pub overflow_add-q : goal.overflow_add-q
overflow_add-q c = record { fits = omega (arith, here_low c.requires.ready c.args.r (tag_head _ 8 c.requires.r_value (omega arith) (omega arith)), c.requires.ready.limits.rows) }

pub loop-b-init : goal.loop-b-init
loop-b-init c = (added_none case _ [] 0 0 _ (omega arith), branch_begin _ _ _ (rw c.num-m.ensures (case_rows c.requires.ready c.args.r c.requires.r_value)), omega arith, omega arith)

pub branch_body-e-requires : goal.branch_body-e-requires
branch_body-e-requires c = record { ends = c.requires.ends; run = one_run _ _ _ _ _ c.loop-b.invariant.1 (search rules) }

pub word-q-requires : goal.word-q-requires
unfolding program columns
word-q-requires c = omega (arith, (branch_here _ _ c.requires.ends _ _ _ _ c.loop-b.invariant.1 (search rules)).2, c.branch_body-e.ensures, c.requires.ends.room)

pub may_match-requires : goal.may_match-requires
unfolding tables entries columns
may_match-requires c = (omega (arith, c.requires.i_lt_states.0, c.requires.branch_bits.room), omega (arith, case_count c.requires.ready c.args.r c.requires.r_value, c.num-m.ensures))

pub overflow_step-b : goal.overflow_step-b
overflow_step-b c = record { fits = omega (arith, case_count c.requires.ready c.args.r c.requires.r_value, c.num-m.ensures, c.loop-b.invariant.3) }

pub loop-b-preserved-then-not-may_match : goal.loop-b-preserved-then-not-may_match
unfolding case_turn
loop-b-preserved-then-not-may_match c = (added_kept case _ [] 0 _ [] _ _ _ _ c.loop-b.invariant.0 (omega arith) (λ e. skipped _ _ _ c.may_match.ensures (ap not c.if-not-may_match.true)), branch_next _ _ c.requires.ends _ _ _ _ c.loop-b.invariant.1 (search rules) _ _ (c.branch_body-e.ensures ∙ sym (branch_here _ _ c.requires.ends _ _ _ _ c.loop-b.invariant.1 (search rules)).1) c.word-q.ensures.0, search rules, search rules)

pub offset_bounds-tos-n : goal.offset_bounds-tos-n
offset_bounds-tos-n c = record { fits = omega (arith, case_count c.requires.ready c.args.r c.requires.r_value, c.num-m.ensures, c.loop-b.invariant.3) }

pub bounds-tos-n : goal.bounds-tos-n
bounds-tos-n c = omega (arith, case_count c.requires.ready c.args.r c.requires.r_value, c.num-m.ensures, c.requires.max_branches_in_bounds, c.loop-b.invariant.3, c.loop-b.invariant.0.tos_long)

pub overflow_add-n : goal.overflow_add-n
overflow_add-n c = record { fits = omega (arith, case_count c.requires.ready c.args.r c.requires.r_value, c.num-m.ensures, c.loop-b.invariant.3) }

pub overflow_step-b-in-loop-b : goal.overflow_step-b-in-loop-b
overflow_step-b-in-loop-b c = record { fits = omega (arith, case_count c.requires.ready c.args.r c.requires.r_value, c.num-m.ensures, c.loop-b.invariant.3) }

pub loop-b-preserved : goal.loop-b-preserved
unfolding kind_effect
loop-b-preserved c = (added_quiet case _ [] 0 _ [] _ _ _ _ c.loop-b.invariant.0 (omega arith) _ (λ y. refl) (omega (arith, case_count c.requires.ready c.args.r c.requires.r_value, c.num-m.ensures, c.requires.max_branches_in_bounds, c.loop-b.invariant.3, c.loop-b.invariant.0.tos_long)) (λ e. case_kept c.requires.ready c.args.branches.now c.args.i _ _ _ _ _ _ e _ c.loop-b.invariant.1 c.may_match.ensures (ap not c.if-not-may_match.false) c.branch_body-e.ensures c.onto-here.ensures), branch_next _ _ c.requires.ends _ _ _ _ c.loop-b.invariant.1 (search rules) _ _ (c.branch_body-e.ensures ∙ sym (branch_here _ _ c.requires.ends _ _ _ _ c.loop-b.invariant.1 (search rules)).1) c.word-q.ensures.0, search rules, search rules)

pub returns : goal.returns
returns c = added_same case _ [] 0 _ [] _ _ _ c.loop-b.invariant.0 (λ e. let z : c.loop-b.b ≡ c.num-m.result = omega (arith, c.loop-b.invariant.2, c.loop-b-test.false) in rw z (case_gathered c.requires.ready _ c.requires.branch_bits _ _ _ e c.requires.r_value c.requires.i_lt_states.0 c.requires.i_lt_states.1 c.num-m.ensures))
