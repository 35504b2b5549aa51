use Prim.Native.Nat.{◌-◌, ◌≤◌, ◌<◌}
use native.Mathlib.Omega.{arith}
use mathlib.Core.Path.{◌≡◌, refl, sym, ◌∙◌, ap}
use Rattle.model.specs.Rows.{send}
use Rattle.model.specs.Tables.{tables}
use Rattle.lists.specs.Lists.{range_from, range_to}
use Rattle.rules.specs.Within.{only_passing}
use Rattle.rules.proofs.Adding.{added_none, added_same, added_more}
use Rattle.rules.proofs.Entries.{name_starts, flow_order}
use Rattle.rules.proofs.Within.{only_gather}
use Rattle.plain_rules.proofs.Heads.{tag_head, here_low, send_low}
use Rattle.state_rules.proofs.Done.{state_open}
use Rattle.state_rules.proofs.Sends.{sent_mailed, send_value, send_room, send_most, send_same, send_gathered}
use borrow.Author.Rules.{rules}
use Rattle.state_rules.proofs.send_rules.Goals as goal

-- the row of the send and its names are low, its target's values stand from `from` up to `to`, and each is low
low-row : (c : goal.After-slice_known-2-1) → c.args.r < c.args.s.rows
low-row c = here_low c.requires.send_tables.sent_tables.letter_tables.ready c.args.r (tag_head _ 5 c.requires.lettered_state.state.head (omega arith) (omega arith))

range : (c : goal.After-word-to) → (c.word-from.result ≡ range_from (tables c.args.ws.now c.args.s).flow c.num-target.result) × (c.word-to.result ≡ range_to (tables c.args.ws.now c.args.s).flow c.num-target.result)
range c =
    let low-names-here : (c.num-target.result < c.args.s.names) × (c.num-message.result < c.args.s.names) = send_low c.requires.send_tables.sent_tables.letter_tables.ready _ _ _ c.requires.lettered_state.state.head c.num-target.ensures c.num-message.ensures in name_starts c.requires.send_tables.sent_tables.letter_tables.ready _ _ _ _ c.requires.send_tables.sent_tables.flow_starts low-names-here.0 c.word-from.ensures.0 c.word-to.ensures.0

order : (c : goal.After-word-to) → (c.word-from.result ≤ c.word-to.result) × (c.word-to.result ≤ c.args.s.flows)
order c = flow_order c.requires.send_tables.sent_tables.letter_tables.ready _ _ _ (range c).0 (range c).1

pub overflow_add-r : goal.overflow_add-r
overflow_add-r c = record { fits = omega (arith, low-row c, c.requires.send_tables.sent_tables.letter_tables.ready.limits.rows) }

pub overflow_add-r-2 : goal.overflow_add-r-2
overflow_add-r-2 c =
    let low-row-here : c.args.r < c.args.s.rows = here_low c.requires.send_tables.sent_tables.letter_tables.ready c.args.r (tag_head _ 5 c.requires.lettered_state.state.head (omega arith) (omega arith)) in record { fits = omega (arith, low-row-here, c.requires.send_tables.sent_tables.letter_tables.ready.limits.rows) }

pub behind-next-requires : goal.behind-next-requires
behind-next-requires c = record {
  ready = c.requires.send_tables.sent_tables.letter_tables.ready;
  ends = c.requires.send_tables.ends;
  i_lt_states = (c.requires.lettered_state.state.low, tag_head _ 5 c.requires.lettered_state.state.head (omega arith) (omega arith));
}

pub word-from-requires : goal.word-from-requires
word-from-requires c =
    let low-names-here : (c.num-target.result < c.args.s.names) × (c.num-message.result < c.args.s.names) = send_low c.requires.send_tables.sent_tables.letter_tables.ready _ _ _ c.requires.lettered_state.state.head c.num-target.ensures c.num-message.ensures in omega (arith, low-names-here.0, c.requires.send_tables.sent_tables.flow_starts.room)

pub overflow_add-target : goal.overflow_add-target
overflow_add-target c =
    let low-names-here : (c.num-target.result < c.args.s.names) × (c.num-message.result < c.args.s.names) = send_low c.requires.send_tables.sent_tables.letter_tables.ready _ _ _ c.requires.lettered_state.state.head c.num-target.ensures c.num-message.ensures in record { fits = omega (arith, low-names-here.0, c.requires.send_tables.sent_tables.letter_tables.ready.limits.names) }

pub word-to-requires : goal.word-to-requires
word-to-requires c =
    let low-names-here : (c.num-target.result < c.args.s.names) × (c.num-message.result < c.args.s.names) = send_low c.requires.send_tables.sent_tables.letter_tables.ready _ _ _ c.requires.lettered_state.state.head c.num-target.ensures c.num-message.ensures in omega (arith, low-names-here.0, c.requires.send_tables.sent_tables.flow_starts.room)

pub loop-j-init : goal.loop-j-init
loop-j-init c = (λ f o. added_none send _ _ 0 _ _ (omega arith), omega arith, (order c).0, (λ l. omega arith), search rules, search rules, refl, refl)

pub sent_rules-n-requires : goal.sent_rules-n-requires
sent_rules-n-requires c =
    let low-names-here : (c.num-target.result < c.args.s.names) × (c.num-message.result < c.args.s.names) = send_low c.requires.send_tables.sent_tables.letter_tables.ready _ _ _ c.requires.lettered_state.state.head c.num-target.ensures c.num-message.ensures in
    let range-here : (c.word-from.result ≡ range_from (tables c.args.ws.now c.args.s).flow c.num-target.result) × (c.word-to.result ≡ range_to (tables c.args.ws.now c.args.s).flow c.num-target.result) = name_starts c.requires.send_tables.sent_tables.letter_tables.ready _ _ _ _ c.requires.send_tables.sent_tables.flow_starts low-names-here.0 c.word-from.ensures.0 c.word-to.ensures.0 in
    let low_value-here : c.flow_value-d.result ≤ c.args.s.rows = send_value c.requires.send_tables.sent_tables.letter_tables.ready c.num-target.result _ _ _ _ range-here.0 range-here.1 c.loop-j.invariant.1 c.loop-j-test.true c.flow_value-d.ensures in
    record {
      sent_tables = c.requires.send_tables.sent_tables;
      class_room = send_room c.requires.send_tables.sent_tables.letter_tables.ready _ _ c.requires.send_tables.sent_tables.letter_tables _ _ _ _ _ _ _ c.requires.lettered_state.within_row (search rules) (search rules) c.requires.lettered_state.room c.loop-j.invariant.6 c.loop-j.invariant.7 _ c.loop-j.j _ c.flow_value-d.ensures low_value-here (c.loop-j.invariant.3 c.loop-j-test.true);
      sent_to = λ z. record {
        name = low-names-here.1;
        mailed = sent_mailed c.requires.send_tables.sent_tables.letter_tables.ready c.args.i c.args.r _ _ _ _ _ c.requires.lettered_state.state.row (state_open c.requires.send_tables.sent_tables.letter_tables.ready c.args.i c.requires.send_tables.closed c.requires.lettered_state.state.low) c.requires.lettered_state.state.head
            (range-here.0 ∙ ap (range_from (tables c.args.ws.now c.args.s).flow) c.num-target.ensures) (range-here.1 ∙ ap (range_to (tables c.args.ws.now c.args.s).flow) c.num-target.ensures)
            c.loop-j.invariant.1 c.loop-j-test.true c.flow_value-d.ensures c.num-message.ensures z;
      };
    }

pub overflow_step-j : goal.overflow_step-j
overflow_step-j c =
    let low-names-here : (c.num-target.result < c.args.s.names) × (c.num-message.result < c.args.s.names) = send_low c.requires.send_tables.sent_tables.letter_tables.ready _ _ _ c.requires.lettered_state.state.head c.num-target.ensures c.num-message.ensures in
    let range-here : (c.word-from.result ≡ range_from (tables c.args.ws.now c.args.s).flow c.num-target.result) × (c.word-to.result ≡ range_to (tables c.args.ws.now c.args.s).flow c.num-target.result) = name_starts c.requires.send_tables.sent_tables.letter_tables.ready _ _ _ _ c.requires.send_tables.sent_tables.flow_starts low-names-here.0 c.word-from.ensures.0 c.word-to.ensures.0 in
    let order-here : (c.word-from.result ≤ c.word-to.result) × (c.word-to.result ≤ c.args.s.flows) = flow_order c.requires.send_tables.sent_tables.letter_tables.ready _ _ _ range-here.0 range-here.1 in record { fits = omega (arith, order-here.1, c.requires.send_tables.sent_tables.letter_tables.ready.limits.flows, c.loop-j-test.true) }

pub loop-j-smaller : goal.loop-j-smaller
loop-j-smaller c = omega (arith, c.loop-j-test.true)

pub loop-j-preserved : goal.loop-j-preserved
loop-j-preserved c =
    let low-names-here : (c.num-target.result < c.args.s.names) × (c.num-message.result < c.args.s.names) = send_low c.requires.send_tables.sent_tables.letter_tables.ready _ _ _ c.requires.lettered_state.state.head c.num-target.ensures c.num-message.ensures in
    let range-here : (c.word-from.result ≡ range_from (tables c.args.ws.now c.args.s).flow c.num-target.result) × (c.word-to.result ≡ range_to (tables c.args.ws.now c.args.s).flow c.num-target.result) = name_starts c.requires.send_tables.sent_tables.letter_tables.ready _ _ _ _ c.requires.send_tables.sent_tables.flow_starts low-names-here.0 c.word-from.ensures.0 c.word-to.ensures.0 in (
      λ f o. added_more send _ _ 0 _ _ _ _ _ _ (c.loop-j.invariant.0 f o) c.loop-j.invariant.1 _ _ _ (added_same send _ _ _ _ _ _ _ _ (c.sent_rules-n.ensures.by_index f o) (send_same _ _ f _ _ _ _ c.flow_value-d.ensures)),
      omega (arith, c.loop-j.invariant.1),
      omega (arith, c.loop-j-test.true),
      (λ l. send_most c.requires.send_tables.sent_tables.letter_tables.ready _ _ c.requires.send_tables.sent_tables.letter_tables c.num-target.result c.loop-j.j _ _ _ _ _ range-here.0 range-here.1 c.loop-j.invariant.1 l c.flow_value-d.ensures (c.loop-j.invariant.3 c.loop-j-test.true) c.sent_rules-n.ensures.d_bound),
      search rules,
      search rules,
      search rules,
      search rules,
    )

pub returns : goal.returns
returns c =
    let low-names-here : (c.num-target.result < c.args.s.names) × (c.num-message.result < c.args.s.names) = send_low c.requires.send_tables.sent_tables.letter_tables.ready _ _ _ c.requires.lettered_state.state.head c.num-target.ensures c.num-message.ensures in
    let range-here : (c.word-from.result ≡ range_from (tables c.args.ws.now c.args.s).flow c.num-target.result) × (c.word-to.result ≡ range_to (tables c.args.ws.now c.args.s).flow c.num-target.result) = name_starts c.requires.send_tables.sent_tables.letter_tables.ready _ _ _ _ c.requires.send_tables.sent_tables.flow_starts low-names-here.0 c.word-from.ensures.0 c.word-to.ensures.0 in λ f o. added_same send _ _ 0 _ _ _ _ _ (c.loop-j.invariant.0 f o) (λ e. let z : c.loop-j.j ≡ c.word-to.result = omega (arith, c.loop-j.invariant.2, c.loop-j-test.false) in
    rw z (sym (only_gather f _ _ _) ∙ ap (only_passing f) (send_gathered c.requires.send_tables.sent_tables.letter_tables.ready _ _ _ _ _ _ _ e c.requires.lettered_state.state.row c.requires.lettered_state.state.head c.num-target.ensures c.num-message.ensures c.behind-next.ensures range-here.0 range-here.1)))
