use mathlib.Core.Bool.{not}
use Prim.Native.Nat.{◌+◌, ◌-◌, ◌≤◌}
use native.Mathlib.Omega.{arith}
use mathlib.Core.Path.{◌≡◌, refl, sym, ◌∙◌, ap}
use Rattle.model.specs.Limits.{max_branches}
use Rattle.model.specs.Words.{columns}
use Rattle.model.specs.Rows.{program, receive}
use Rattle.model.specs.Tables.{tables, entries}
use Rattle.rules.specs.Within.{only_passing}
use Rattle.rules.proofs.Adding.{added_none, added_same, added_kept, added_more}
use Rattle.rules.proofs.Within.{only_gather, skipped_rules}
use Rattle.plain_rules.proofs.Heads.{tag_head, here_low}
use Rattle.plain_rules.proofs.Branches.{BranchAt, branch_begin, branch_here, branch_next, one_run}
use Rattle.state_rules.proofs.Branches.{branch_pattern, receive_count, receive_rows, receive_gathered, receive_same, receive_skipped, receive_room, receive_most, most_kept, receive_class}
use borrow.Author.Rules.{rules}
use Rattle.state_rules.proofs.receive_rules.Goals as goal

next_branch : (c : goal.After-word-q) → BranchAt (program c.args.ws.now c.args.s) (c.args.r + 1) c.num-m.result (c.loop-b.b + 1) c.word-q.result
next_branch c = branch_next _ _ c.requires.receive_tables.read_tables.pattern_tables.ends _ _ _ _ c.loop-b.invariant.1 c.loop-b-test.true _ _ (c.branch_body-e.ensures ∙ sym (branch_here _ _ c.requires.receive_tables.read_tables.pattern_tables.ends _ _ _ _ c.loop-b.invariant.1 c.loop-b-test.true).1) c.word-q.ensures.0

pub overflow_add-q : goal.overflow_add-q
overflow_add-q c = record { fits = omega (arith, here_low c.requires.receive_tables.read_tables.pattern_tables.letter_tables.ready c.args.r (tag_head _ 9 c.requires.lettered_state.state.head (omega arith) (omega arith)), c.requires.receive_tables.read_tables.pattern_tables.letter_tables.ready.limits.rows) }

pub loop-b-init : goal.loop-b-init
loop-b-init c = (λ f o. added_none receive _ _ 0 0 _ (omega arith), branch_begin _ _ _ (rw c.num-m.ensures (receive_rows c.requires.receive_tables.read_tables.pattern_tables.letter_tables.ready c.args.r c.requires.lettered_state.state.head)), omega arith, omega arith, search rules, search rules, refl, refl)

pub branch_body-e-requires : goal.branch_body-e-requires
branch_body-e-requires c = record { ends = c.requires.receive_tables.read_tables.pattern_tables.ends; run = one_run _ _ _ _ _ c.loop-b.invariant.1 c.loop-b-test.true }

pub word-q-requires : goal.word-q-requires
unfolding program columns
word-q-requires c = omega (arith, (branch_here _ _ c.requires.receive_tables.read_tables.pattern_tables.ends _ _ _ _ c.loop-b.invariant.1 c.loop-b-test.true).2, c.branch_body-e.ensures, c.requires.receive_tables.read_tables.pattern_tables.ends.room)

pub may_match-requires : goal.may_match-requires
unfolding tables entries columns
may_match-requires c =
    let few-here : c.num-m.result ≤ max_branches = omega (arith, receive_count c.requires.receive_tables.read_tables.pattern_tables.letter_tables.ready c.args.r c.requires.lettered_state.state.head, c.num-m.ensures) in (omega (arith, c.requires.lettered_state.state.low, c.requires.receive_tables.branch_bits.room), omega (arith, few-here, c.loop-b-test.true))

pub overflow_step-b : goal.overflow_step-b
overflow_step-b c =
    let few-here : c.num-m.result ≤ max_branches = omega (arith, receive_count c.requires.receive_tables.read_tables.pattern_tables.letter_tables.ready c.args.r c.requires.lettered_state.state.head, c.num-m.ensures) in record { fits = omega (arith, few-here, c.loop-b-test.true) }

pub loop-b-smaller-then-not-may_match : goal.loop-b-smaller-then-not-may_match
loop-b-smaller-then-not-may_match c = omega (arith, c.loop-b-test.true)

pub loop-b-preserved-then-not-may_match : goal.loop-b-preserved-then-not-may_match
loop-b-preserved-then-not-may_match c =
    let next-branch-here : BranchAt (program c.args.ws.now c.args.s) (c.args.r + 1) c.num-m.result (c.loop-b.b + 1) c.word-q.result = branch_next _ _ c.requires.receive_tables.read_tables.pattern_tables.ends _ _ _ _ c.loop-b.invariant.1 c.loop-b-test.true _ _ (c.branch_body-e.ensures ∙ sym (branch_here _ _ c.requires.receive_tables.read_tables.pattern_tables.ends _ _ _ _ c.loop-b.invariant.1 c.loop-b-test.true).1) c.word-q.ensures.0 in (
      λ f o. added_kept receive _ _ 0 _ _ _ _ _ _ (c.loop-b.invariant.0 f o) (omega arith) (λ e. skipped_rules f _ (receive_skipped c.requires.receive_tables.read_tables.pattern_tables.letter_tables.ready c.args.i _ _ _ _ e c.loop-b.invariant.1 _ _ c.requires.receive_tables.branch_bits c.args.r c.requires.lettered_state.state.head c.requires.lettered_state.state.low c.requires.lettered_state.state.row c.num-m.ensures refl c.loop-b-test.true c.may_match.ensures (ap not c.if-not-may_match.true))),
      next-branch-here,
      omega (arith, c.loop-b-test.true),
      most_kept c.requires.receive_tables.read_tables.pattern_tables.letter_tables.ready _ c.loop-b.b c.loop-b.invariant.3,
      c.loop-b.invariant.4,
      c.loop-b.invariant.5,
      c.loop-b.invariant.6,
      c.loop-b.invariant.7,
    )

pub onto-next-requires : goal.onto-next-requires
onto-next-requires c = record { ready = c.requires.receive_tables.read_tables.pattern_tables.letter_tables.ready; i_lt_states = c.requires.lettered_state.state.low }

pub read_rules-n-requires : goal.read_rules-n-requires
read_rules-n-requires c =
    let low-class-here : c.state_class-c.result ≤ c.args.s.rows = receive_class c.requires.receive_tables.read_tables.pattern_tables.letter_tables.ready c.args.i _ c.requires.lettered_state.state.low c.state_class-c.ensures in
    let few-here : c.num-m.result ≤ max_branches = omega (arith, receive_count c.requires.receive_tables.read_tables.pattern_tables.letter_tables.ready c.args.r c.requires.lettered_state.state.head, c.num-m.ensures) in
    record {
      read_tables = c.requires.receive_tables.read_tables;
      class_room = receive_room c.requires.receive_tables.read_tables.pattern_tables.letter_tables.ready _ _ c.requires.receive_tables.read_tables.pattern_tables.letter_tables _ _ _ _ _ _ _ c.requires.lettered_state.within_row (search rules) (search rules) c.requires.lettered_state.room c.loop-b.invariant.6 c.loop-b.invariant.7 _ c.loop-b.b c.num-m.result _ low-class-here c.loop-b-test.true few-here c.loop-b.invariant.3;
      pattern = branch_pattern c.requires.receive_tables.read_tables.pattern_tables.letter_tables.ready _ _ _ _ c.loop-b.invariant.1 c.loop-b-test.true;
    }

pub overflow_step-b-in-loop-b : goal.overflow_step-b-in-loop-b
overflow_step-b-in-loop-b c =
    let few-here : c.num-m.result ≤ max_branches = omega (arith, receive_count c.requires.receive_tables.read_tables.pattern_tables.letter_tables.ready c.args.r c.requires.lettered_state.state.head, c.num-m.ensures) in record { fits = omega (arith, few-here, c.loop-b-test.true) }

pub loop-b-smaller : goal.loop-b-smaller
loop-b-smaller c = omega (arith, c.loop-b-test.true)

pub loop-b-preserved : goal.loop-b-preserved
loop-b-preserved c =
    let low-class-here : c.state_class-c.result ≤ c.args.s.rows = receive_class c.requires.receive_tables.read_tables.pattern_tables.letter_tables.ready c.args.i _ c.requires.lettered_state.state.low c.state_class-c.ensures in
    let next-branch-here : BranchAt (program c.args.ws.now c.args.s) (c.args.r + 1) c.num-m.result (c.loop-b.b + 1) c.word-q.result = branch_next _ _ c.requires.receive_tables.read_tables.pattern_tables.ends _ _ _ _ c.loop-b.invariant.1 c.loop-b-test.true _ _ (c.branch_body-e.ensures ∙ sym (branch_here _ _ c.requires.receive_tables.read_tables.pattern_tables.ends _ _ _ _ c.loop-b.invariant.1 c.loop-b-test.true).1) c.word-q.ensures.0 in (
      λ f o. added_more receive _ _ 0 _ _ _ _ _ _ (c.loop-b.invariant.0 f o) (omega arith) _ _ _ (added_same receive _ _ _ _ _ _ _ _ (c.read_rules-n.ensures.by_index f o) (λ e. receive_same c.requires.receive_tables.read_tables.pattern_tables.letter_tables.ready c.args.i _ _ _ _ e c.loop-b.invariant.1 f _ _ _ c.state_class-c.ensures c.branch_body-e.ensures c.onto-next.ensures)),
      next-branch-here,
      omega (arith, c.loop-b-test.true),
      receive_most c.requires.receive_tables.read_tables.pattern_tables.letter_tables.ready _ c.requires.receive_tables.read_tables.pattern_tables.letter_tables.class_letters _ _ c.loop-b.b _ low-class-here c.loop-b.invariant.3 c.read_rules-n.ensures.c_bound,
      search rules,
      search rules,
      search rules,
      search rules,
    )

pub returns : goal.returns
returns c = λ f o. added_same receive _ _ 0 _ _ _ _ _ (c.loop-b.invariant.0 f o) (λ e. let z : c.loop-b.b ≡ c.num-m.result = omega (arith, c.loop-b.invariant.2, c.loop-b-test.false) in rw z (sym (only_gather f 0 _ _) ∙ ap (only_passing f) (receive_gathered c.requires.receive_tables.read_tables.pattern_tables.letter_tables.ready _ _ _ e c.requires.lettered_state.state.head c.requires.lettered_state.state.row c.num-m.ensures)))
