use mathlib.Core.Bool.{not}
use mathlib.Core.Path.{ap}
use Prim.Native.Nat.{◌+◌, ◌-◌, ◌≤◌, ◌<◌}
use native.Mathlib.Omega.{arith}
use mathlib.Core.Path.{◌≡◌, refl, sym, ◌∙◌}
use mathlib.Core.List.{[]}
use borrow.Author.Rules.{rules}
use Rattle.model.specs.Rows.{call}
use Rattle.model.specs.Tables.{tables}
use Rattle.lists.specs.Lists.{range_from, range_to}
use Rattle.rules.specs.Listed.{kind_effect}
use Rattle.rules.proofs.Adding.{added_none, added_same, added_kept, added_quiet}
use Rattle.rules.proofs.Entries.{name_starts, flow_order}
use Rattle.plain_rules.proofs.Heads.{tag_head, here_low, value_from, takes_function, call_gathered, call_low, call_kept, call_skipped}
use Rattle.plain_rules.proofs.call_rules.Goals as goal

-- the entries of the name
begin : (c : goal.After-word-to) → (c.word-from.result ≡ range_from (tables c.args.ws.now c.args.s).flow c.num-callee.result) × (c.word-to.result ≡ range_to (tables c.args.ws.now c.args.s).flow c.num-callee.result)
begin c = name_starts c.requires.ready _ _ _ _ c.requires.starts (call_low c.requires.ready _ _ c.requires.r_value c.num-callee.ensures) c.word-from.ensures.0 c.word-to.ensures.0

pub overflow_add-r : goal.overflow_add-r
overflow_add-r c = record { fits = omega (arith, here_low c.requires.ready c.args.r (tag_head _ 4 c.requires.r_value (omega arith) (omega arith)), c.requires.ready.limits.rows) }

pub overflow_add-r-2 : goal.overflow_add-r-2
overflow_add-r-2 c = record { fits = omega (arith, here_low c.requires.ready c.args.r (tag_head _ 4 c.requires.r_value (omega arith) (omega arith)), c.requires.ready.limits.rows) }

pub word-from-requires : goal.word-from-requires
word-from-requires c = omega (arith, call_low c.requires.ready _ _ c.requires.r_value c.num-callee.ensures, c.requires.starts.room)

pub overflow_add-callee : goal.overflow_add-callee
overflow_add-callee c = record { fits = omega (arith, call_low c.requires.ready _ _ c.requires.r_value c.num-callee.ensures, c.requires.ready.limits.names) }

pub word-to-requires : goal.word-to-requires
word-to-requires c = omega (arith, call_low c.requires.ready _ _ c.requires.r_value c.num-callee.ensures, c.requires.starts.room)

pub loop-j-init : goal.loop-j-init
loop-j-init c = let (u, v) = begin c in (added_none call _ [] 0 _ _ (omega arith), omega arith, (flow_order c.requires.ready _ _ _ u v).0, omega arith)

pub overflow_step-j : goal.overflow_step-j
overflow_step-j c =
    let begin-here : (c.word-from.result ≡ range_from (tables c.args.ws.now c.args.s).flow c.num-callee.result) × (c.word-to.result ≡ range_to (tables c.args.ws.now c.args.s).flow c.num-callee.result) = name_starts c.requires.ready _ _ _ _ c.requires.starts (call_low c.requires.ready _ _ c.requires.r_value c.num-callee.ensures) c.word-from.ensures.0 c.word-to.ensures.0 in
    let few-here : (c.loop-j.n + 1 ≤ c.args.s.rows + 1) × (c.loop-j.j < c.args.s.flows) = let (u, v) = begin-here in let (x, y) = flow_order c.requires.ready _ _ _ u v in let (a, b) = value_from c.requires.ready _ _ c.loop-j.j u c.loop-j.invariant.1 (omega arith) in (omega (arith, c.loop-j.invariant.3), omega arith) in record { fits = omega (arith, few-here.1, c.requires.ready.limits.flows) }

pub loop-j-preserved-then-not-takes : goal.loop-j-preserved-then-not-takes
loop-j-preserved-then-not-takes c = (added_kept call _ [] 0 _ [] _ _ _ _ c.loop-j.invariant.0 c.loop-j.invariant.1 (λ i. call_skipped c.requires.ready _ _ _ _ i _ c.flow_value-f.ensures c.takes.ensures (ap not c.if-not-takes.true)), search rules, search rules, search rules)

pub body-e-requires : goal.body-e-requires
body-e-requires c = record { ready = c.requires.ready; f_value = takes_function _ _ _ (sym c.takes.ensures ∙ c.if-not-takes.false) }

pub offset_bounds-tos-n : goal.offset_bounds-tos-n
offset_bounds-tos-n c =
    let begin-here : (c.word-from.result ≡ range_from (tables c.args.ws.now c.args.s).flow c.num-callee.result) × (c.word-to.result ≡ range_to (tables c.args.ws.now c.args.s).flow c.num-callee.result) = name_starts c.requires.ready _ _ _ _ c.requires.starts (call_low c.requires.ready _ _ c.requires.r_value c.num-callee.ensures) c.word-from.ensures.0 c.word-to.ensures.0 in
    let few-here : (c.loop-j.n + 1 ≤ c.args.s.rows + 1) × (c.loop-j.j < c.args.s.flows) = let (u, v) = begin-here in let (x, y) = flow_order c.requires.ready _ _ _ u v in let (a, b) = value_from c.requires.ready _ _ c.loop-j.j u c.loop-j.invariant.1 (omega arith) in (omega (arith, c.loop-j.invariant.3), omega arith) in record { fits = omega (arith, few-here.0, c.requires.ready.limits.rows) }

pub bounds-tos-n : goal.bounds-tos-n
bounds-tos-n c =
    let begin-here : (c.word-from.result ≡ range_from (tables c.args.ws.now c.args.s).flow c.num-callee.result) × (c.word-to.result ≡ range_to (tables c.args.ws.now c.args.s).flow c.num-callee.result) = name_starts c.requires.ready _ _ _ _ c.requires.starts (call_low c.requires.ready _ _ c.requires.r_value c.num-callee.ensures) c.word-from.ensures.0 c.word-to.ensures.0 in
    let few-here : (c.loop-j.n + 1 ≤ c.args.s.rows + 1) × (c.loop-j.j < c.args.s.flows) = let (u, v) = begin-here in let (x, y) = flow_order c.requires.ready _ _ _ u v in let (a, b) = value_from c.requires.ready _ _ c.loop-j.j u c.loop-j.invariant.1 (omega arith) in (omega (arith, c.loop-j.invariant.3), omega arith) in omega (arith, few-here.0, c.requires.rows_in_bounds, c.loop-j.invariant.0.tos_long)

pub overflow_add-n : goal.overflow_add-n
overflow_add-n c =
    let begin-here : (c.word-from.result ≡ range_from (tables c.args.ws.now c.args.s).flow c.num-callee.result) × (c.word-to.result ≡ range_to (tables c.args.ws.now c.args.s).flow c.num-callee.result) = name_starts c.requires.ready _ _ _ _ c.requires.starts (call_low c.requires.ready _ _ c.requires.r_value c.num-callee.ensures) c.word-from.ensures.0 c.word-to.ensures.0 in
    let few-here : (c.loop-j.n + 1 ≤ c.args.s.rows + 1) × (c.loop-j.j < c.args.s.flows) = let (u, v) = begin-here in let (x, y) = flow_order c.requires.ready _ _ _ u v in let (a, b) = value_from c.requires.ready _ _ c.loop-j.j u c.loop-j.invariant.1 (omega arith) in (omega (arith, c.loop-j.invariant.3), omega arith) in record { fits = omega (arith, few-here.0, c.requires.ready.limits.rows) }

pub overflow_step-j-in-loop-j : goal.overflow_step-j-in-loop-j
overflow_step-j-in-loop-j c =
    let begin-here : (c.word-from.result ≡ range_from (tables c.args.ws.now c.args.s).flow c.num-callee.result) × (c.word-to.result ≡ range_to (tables c.args.ws.now c.args.s).flow c.num-callee.result) = name_starts c.requires.ready _ _ _ _ c.requires.starts (call_low c.requires.ready _ _ c.requires.r_value c.num-callee.ensures) c.word-from.ensures.0 c.word-to.ensures.0 in
    let few-here : (c.loop-j.n + 1 ≤ c.args.s.rows + 1) × (c.loop-j.j < c.args.s.flows) = let (u, v) = begin-here in let (x, y) = flow_order c.requires.ready _ _ _ u v in let (a, b) = value_from c.requires.ready _ _ c.loop-j.j u c.loop-j.invariant.1 (omega arith) in (omega (arith, c.loop-j.invariant.3), omega arith) in record { fits = omega (arith, few-here.1, c.requires.ready.limits.flows) }

pub loop-j-preserved : goal.loop-j-preserved
unfolding kind_effect
loop-j-preserved c =
    let begin-here : (c.word-from.result ≡ range_from (tables c.args.ws.now c.args.s).flow c.num-callee.result) × (c.word-to.result ≡ range_to (tables c.args.ws.now c.args.s).flow c.num-callee.result) = name_starts c.requires.ready _ _ _ _ c.requires.starts (call_low c.requires.ready _ _ c.requires.r_value c.num-callee.ensures) c.word-from.ensures.0 c.word-to.ensures.0 in
    let few-here : (c.loop-j.n + 1 ≤ c.args.s.rows + 1) × (c.loop-j.j < c.args.s.flows) = let (u, v) = begin-here in let (x, y) = flow_order c.requires.ready _ _ _ u v in let (a, b) = value_from c.requires.ready _ _ c.loop-j.j u c.loop-j.invariant.1 (omega arith) in (omega (arith, c.loop-j.invariant.3), omega arith) in (added_quiet call _ [] 0 _ [] _ _ _ _ c.loop-j.invariant.0 c.loop-j.invariant.1 _ (λ y. refl) (omega (arith, few-here.0, c.requires.rows_in_bounds, c.loop-j.invariant.0.tos_long)) (λ i. call_kept c.requires.ready _ _ _ _ _ _ i _ c.flow_value-f.ensures c.takes.ensures (ap not c.if-not-takes.false) c.body-e.ensures c.into.ensures), search rules, search rules, search rules)

pub returns : goal.returns
returns c =
    let begin-here : (c.word-from.result ≡ range_from (tables c.args.ws.now c.args.s).flow c.num-callee.result) × (c.word-to.result ≡ range_to (tables c.args.ws.now c.args.s).flow c.num-callee.result) = name_starts c.requires.ready _ _ _ _ c.requires.starts (call_low c.requires.ready _ _ c.requires.r_value c.num-callee.ensures) c.word-from.ensures.0 c.word-to.ensures.0 in added_same call _ [] 0 _ [] _ _ _ c.loop-j.invariant.0 (λ i. let (u, v) = begin-here in let e : c.loop-j.j ≡ c.word-to.result = omega (arith, c.loop-j.invariant.2, c.loop-j-test.false) in rw e (call_gathered c.requires.ready _ _ _ _ _ _ i c.requires.i_lt_states.1 c.requires.r_value c.num-callee.ensures c.num-count.ensures u v))
