use mathlib.Core.Bool.{not}
use mathlib.Core.Path.{ap}
use Prim.Native.Nat.{◌+◌, ◌-◌, ◌≤◌, ◌<◌}
use native.Mathlib.Omega.{arith}
use mathlib.Core.Path.{◌≡◌, sym, ◌∙◌}
use borrow.Author.Rules.{rules}
use Rattle.model.specs.Rows.{spawn}
use Rattle.model.specs.Tables.{tables}
use Rattle.lists.specs.Lists.{range_from, range_to}
use Rattle.rules.specs.Listed.{kind_effect}
use Rattle.rules.proofs.States.{index_small}
use Rattle.rules.proofs.Adding.{added_none, added_same, added_kept, added_one}
use Rattle.rules.proofs.Entries.{name_starts, flow_order}
use Rattle.plain_rules.proofs.Heads.{tag_head, here_low, value_from, takes_function, spawn_gathered, spawn_low, spawn_kept, spawn_skipped}
use Rattle.plain_rules.proofs.spawn_rules.Goals as goal

-- the entries of the name
begin : (c : goal.After-word-to) → (c.word-from.result ≡ range_from (tables c.args.ws.now c.args.s).flow c.num-name.result) × (c.word-to.result ≡ range_to (tables c.args.ws.now c.args.s).flow c.num-name.result)
begin c = name_starts c.requires.ready _ _ _ _ c.requires.starts (spawn_low c.requires.ready _ _ c.requires.r_value c.num-name.ensures) c.word-from.ensures.0 c.word-to.ensures.0

pub overflow_add-r : goal.overflow_add-r
overflow_add-r c = record { fits = omega (arith, here_low c.requires.ready c.args.r (tag_head _ 6 c.requires.r_value (omega arith) (omega arith)), c.requires.ready.limits.rows) }

pub behind-next-requires : goal.behind-next-requires
behind-next-requires c = record { ready = c.requires.ready; ends = c.requires.ends; i_lt_states = (c.requires.i_lt_states.0, tag_head _ 6 c.requires.r_value (omega arith) (omega arith)) }

pub word-from-requires : goal.word-from-requires
word-from-requires c = omega (arith, spawn_low c.requires.ready _ _ c.requires.r_value c.num-name.ensures, c.requires.starts.room)

pub overflow_add-name : goal.overflow_add-name
overflow_add-name c = record { fits = omega (arith, spawn_low c.requires.ready _ _ c.requires.r_value c.num-name.ensures, c.requires.ready.limits.names) }

pub word-to-requires : goal.word-to-requires
word-to-requires c = omega (arith, spawn_low c.requires.ready _ _ c.requires.r_value c.num-name.ensures, c.requires.starts.room)

pub loop-j-init : goal.loop-j-init
loop-j-init c = let (u, v) = begin c in (added_none spawn _ _ 0 _ _ (omega arith), omega arith, (flow_order c.requires.ready _ _ _ u v).0, omega arith)

pub overflow_step-j : goal.overflow_step-j
overflow_step-j c =
    let begin-here : (c.word-from.result ≡ range_from (tables c.args.ws.now c.args.s).flow c.num-name.result) × (c.word-to.result ≡ range_to (tables c.args.ws.now c.args.s).flow c.num-name.result) = name_starts c.requires.ready _ _ _ _ c.requires.starts (spawn_low c.requires.ready _ _ c.requires.r_value c.num-name.ensures) c.word-from.ensures.0 c.word-to.ensures.0 in
    let few-here : (c.loop-j.n + 1 ≤ c.args.s.rows + 1) × (c.loop-j.j < c.args.s.flows) = let (u, v) = begin-here in let (x, y) = flow_order c.requires.ready _ _ _ u v in let (a, b) = value_from c.requires.ready _ _ c.loop-j.j u c.loop-j.invariant.1 (omega arith) in (omega (arith, c.loop-j.invariant.3), omega arith) in record { fits = omega (arith, few-here.1, c.requires.ready.limits.flows) }

pub loop-j-preserved-then-not-takes : goal.loop-j-preserved-then-not-takes
loop-j-preserved-then-not-takes c = (added_kept spawn _ _ 0 _ _ _ _ _ _ c.loop-j.invariant.0 c.loop-j.invariant.1 (λ i. spawn_skipped c.requires.ready _ _ _ _ i _ c.flow_value-f.ensures c.takes.ensures (ap not c.if-not-takes.true)), search rules, search rules, search rules)

pub body-requires : goal.body-requires
body-requires c = record { ready = c.requires.ready; f_value = takes_function _ _ _ (sym c.takes.ensures ∙ c.if-not-takes.false) }

pub offset_bounds-tos-n : goal.offset_bounds-tos-n
offset_bounds-tos-n c =
    let begin-here : (c.word-from.result ≡ range_from (tables c.args.ws.now c.args.s).flow c.num-name.result) × (c.word-to.result ≡ range_to (tables c.args.ws.now c.args.s).flow c.num-name.result) = name_starts c.requires.ready _ _ _ _ c.requires.starts (spawn_low c.requires.ready _ _ c.requires.r_value c.num-name.ensures) c.word-from.ensures.0 c.word-to.ensures.0 in
    let few-here : (c.loop-j.n + 1 ≤ c.args.s.rows + 1) × (c.loop-j.j < c.args.s.flows) = let (u, v) = begin-here in let (x, y) = flow_order c.requires.ready _ _ _ u v in let (a, b) = value_from c.requires.ready _ _ c.loop-j.j u c.loop-j.invariant.1 (omega arith) in (omega (arith, c.loop-j.invariant.3), omega arith) in record { fits = omega (arith, few-here.0, c.requires.ready.limits.rows) }

pub bounds-tos-n : goal.bounds-tos-n
bounds-tos-n c =
    let begin-here : (c.word-from.result ≡ range_from (tables c.args.ws.now c.args.s).flow c.num-name.result) × (c.word-to.result ≡ range_to (tables c.args.ws.now c.args.s).flow c.num-name.result) = name_starts c.requires.ready _ _ _ _ c.requires.starts (spawn_low c.requires.ready _ _ c.requires.r_value c.num-name.ensures) c.word-from.ensures.0 c.word-to.ensures.0 in
    let few-here : (c.loop-j.n + 1 ≤ c.args.s.rows + 1) × (c.loop-j.j < c.args.s.flows) = let (u, v) = begin-here in let (x, y) = flow_order c.requires.ready _ _ _ u v in let (a, b) = value_from c.requires.ready _ _ c.loop-j.j u c.loop-j.invariant.1 (omega arith) in (omega (arith, c.loop-j.invariant.3), omega arith) in omega (arith, few-here.0, c.requires.rule_room.values, c.requires.rule_room.alike, c.loop-j.invariant.0.tos_long, c.loop-j.invariant.0.others_long)

pub overflow_cast-others : goal.overflow_cast-others
overflow_cast-others c = omega (arith, index_small c.requires.ready _ _ c.begun-x.ensures)

pub offset_bounds-others-n : goal.offset_bounds-others-n
offset_bounds-others-n c =
    let begin-here : (c.word-from.result ≡ range_from (tables c.args.ws.now c.args.s).flow c.num-name.result) × (c.word-to.result ≡ range_to (tables c.args.ws.now c.args.s).flow c.num-name.result) = name_starts c.requires.ready _ _ _ _ c.requires.starts (spawn_low c.requires.ready _ _ c.requires.r_value c.num-name.ensures) c.word-from.ensures.0 c.word-to.ensures.0 in
    let few-here : (c.loop-j.n + 1 ≤ c.args.s.rows + 1) × (c.loop-j.j < c.args.s.flows) = let (u, v) = begin-here in let (x, y) = flow_order c.requires.ready _ _ _ u v in let (a, b) = value_from c.requires.ready _ _ c.loop-j.j u c.loop-j.invariant.1 (omega arith) in (omega (arith, c.loop-j.invariant.3), omega arith) in record { fits = omega (arith, few-here.0, c.requires.ready.limits.rows) }

pub bounds-others-n : goal.bounds-others-n
bounds-others-n c =
    let begin-here : (c.word-from.result ≡ range_from (tables c.args.ws.now c.args.s).flow c.num-name.result) × (c.word-to.result ≡ range_to (tables c.args.ws.now c.args.s).flow c.num-name.result) = name_starts c.requires.ready _ _ _ _ c.requires.starts (spawn_low c.requires.ready _ _ c.requires.r_value c.num-name.ensures) c.word-from.ensures.0 c.word-to.ensures.0 in
    let few-here : (c.loop-j.n + 1 ≤ c.args.s.rows + 1) × (c.loop-j.j < c.args.s.flows) = let (u, v) = begin-here in let (x, y) = flow_order c.requires.ready _ _ _ u v in let (a, b) = value_from c.requires.ready _ _ c.loop-j.j u c.loop-j.invariant.1 (omega arith) in (omega (arith, c.loop-j.invariant.3), omega arith) in omega (arith, few-here.0, c.requires.rule_room.values, c.requires.rule_room.alike, c.loop-j.invariant.0.tos_long, c.loop-j.invariant.0.others_long)

pub overflow_add-n : goal.overflow_add-n
overflow_add-n c =
    let begin-here : (c.word-from.result ≡ range_from (tables c.args.ws.now c.args.s).flow c.num-name.result) × (c.word-to.result ≡ range_to (tables c.args.ws.now c.args.s).flow c.num-name.result) = name_starts c.requires.ready _ _ _ _ c.requires.starts (spawn_low c.requires.ready _ _ c.requires.r_value c.num-name.ensures) c.word-from.ensures.0 c.word-to.ensures.0 in
    let few-here : (c.loop-j.n + 1 ≤ c.args.s.rows + 1) × (c.loop-j.j < c.args.s.flows) = let (u, v) = begin-here in let (x, y) = flow_order c.requires.ready _ _ _ u v in let (a, b) = value_from c.requires.ready _ _ c.loop-j.j u c.loop-j.invariant.1 (omega arith) in (omega (arith, c.loop-j.invariant.3), omega arith) in record { fits = omega (arith, few-here.0, c.requires.ready.limits.rows) }

pub overflow_step-j-in-loop-j : goal.overflow_step-j-in-loop-j
overflow_step-j-in-loop-j c =
    let begin-here : (c.word-from.result ≡ range_from (tables c.args.ws.now c.args.s).flow c.num-name.result) × (c.word-to.result ≡ range_to (tables c.args.ws.now c.args.s).flow c.num-name.result) = name_starts c.requires.ready _ _ _ _ c.requires.starts (spawn_low c.requires.ready _ _ c.requires.r_value c.num-name.ensures) c.word-from.ensures.0 c.word-to.ensures.0 in
    let few-here : (c.loop-j.n + 1 ≤ c.args.s.rows + 1) × (c.loop-j.j < c.args.s.flows) = let (u, v) = begin-here in let (x, y) = flow_order c.requires.ready _ _ _ u v in let (a, b) = value_from c.requires.ready _ _ c.loop-j.j u c.loop-j.invariant.1 (omega arith) in (omega (arith, c.loop-j.invariant.3), omega arith) in record { fits = omega (arith, few-here.1, c.requires.ready.limits.flows) }

pub loop-j-preserved : goal.loop-j-preserved
unfolding kind_effect
loop-j-preserved c =
    let begin-here : (c.word-from.result ≡ range_from (tables c.args.ws.now c.args.s).flow c.num-name.result) × (c.word-to.result ≡ range_to (tables c.args.ws.now c.args.s).flow c.num-name.result) = name_starts c.requires.ready _ _ _ _ c.requires.starts (spawn_low c.requires.ready _ _ c.requires.r_value c.num-name.ensures) c.word-from.ensures.0 c.word-to.ensures.0 in
    let few-here : (c.loop-j.n + 1 ≤ c.args.s.rows + 1) × (c.loop-j.j < c.args.s.flows) = let (u, v) = begin-here in let (x, y) = flow_order c.requires.ready _ _ _ u v in let (a, b) = value_from c.requires.ready _ _ c.loop-j.j u c.loop-j.invariant.1 (omega arith) in (omega (arith, c.loop-j.invariant.3), omega arith) in (added_one spawn _ _ 0 _ _ _ _ _ _ c.loop-j.invariant.0 c.loop-j.invariant.1 _ _ (omega (arith, few-here.0, c.requires.rule_room.values, c.requires.rule_room.alike, c.loop-j.invariant.0.tos_long, c.loop-j.invariant.0.others_long)) (omega (arith, few-here.0, c.requires.rule_room.values, c.requires.rule_room.alike, c.loop-j.invariant.0.tos_long, c.loop-j.invariant.0.others_long)) (λ i. spawn_kept c.requires.ready _ _ _ _ _ _ _ i _ c.requires.i_lt_states.1 c.flow_value-f.ensures c.takes.ensures (ap not c.if-not-takes.false) c.body.ensures c.begun-x.ensures), search rules, search rules, search rules)

pub returns : goal.returns
returns c =
    let begin-here : (c.word-from.result ≡ range_from (tables c.args.ws.now c.args.s).flow c.num-name.result) × (c.word-to.result ≡ range_to (tables c.args.ws.now c.args.s).flow c.num-name.result) = name_starts c.requires.ready _ _ _ _ c.requires.starts (spawn_low c.requires.ready _ _ c.requires.r_value c.num-name.ensures) c.word-from.ensures.0 c.word-to.ensures.0 in added_same spawn _ _ 0 _ _ _ _ _ c.loop-j.invariant.0 (λ i. let (u, v) = begin-here in let e : c.loop-j.j ≡ c.word-to.result = omega (arith, c.loop-j.invariant.2, c.loop-j-test.false) in rw e (spawn_gathered c.requires.ready _ _ _ _ _ _ i c.requires.i_lt_states.1 c.requires.r_value c.num-name.ensures c.behind-next.ensures u v))
