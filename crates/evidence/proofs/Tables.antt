-- Refusal 7 from the first misplaced entry of each list.
use Prim.Native.Nat.{ℕ, ◌+◌, ◌<◌}
use native.Mathlib.Omega.{arith}
use mathlib.Core.Path.{◌≡◌, refl}
use mathlib.Core.List.{List, []}
use borrow.Author.Tests.{eq-eqb, ne_eqb}
use Rattle.std.proofs.Common.{Result, Ok, Err}
use Rattle.model.specs.declared.Sizes.{Sizes}
use Rattle.model.specs.declared.Verdict.{Verdict}
use Rattle.model.specs.declared.Verdict.TheVariants.{Entry}
use Rattle.model.specs.Keys.{below}
use Rattle.model.specs.Words.{Columns}
use Rattle.model.specs.Verdict.{Check, ◌>>◌}
use Rattle.model.specs.Message.{tables_offset}
use Rattle.model.specs.Rows.{Program, program, is_name}
use Rattle.model.specs.Heads.{is_class_of}
use Rattle.model.specs.Tables.{Tables, tables, is_value_of, is_pair, is_state, state_at, pair_key, state_key, first_misplaced, list_check, entry_check_of}
use Rattle.model.specs.Verify.{outcome}
use Rattle.model.proofs.Outcome.{stops_at, goes_on_to, passes_unless, refuses_unless}
use Rattle.lists.specs.declared.Span.{Span}
use Rattle.lists.specs.Lists.{key_at, span_at, flow_span, mail_span, state_span, listed, thirds, Held}
use Rattle.lists.proofs.Facts.{flow_listed, flow_thirds, mail_listed, mail_thirds, states_listed, states_thirds, pair_held, triple_held}
use Rattle.evidence.specs.declared.entries.Table.{Table}
use Rattle.evidence.specs.declared.entries.Table.TheVariants.{Flow, Mail, States}
use Rattle.evidence.specs.Whole.{PartsWhole}
use Rattle.evidence.specs.Ranges.{legal_left, legal_rest, legal, in_range, ascends, in_place, misplaced, checked}

-- one list, in which the code has stopped at entry i
module _ (p : Program) (t : Table) (c : Columns) (ts : List ℕ) (at i : ℕ) (found : misplaced p t c ts 0 ≡ i) where
  found_at : first_misplaced c.size (in_range p t c ts) (key_at c ts) ≡ i
  unfolding first_misplaced misplaced in_place ascends
  found_at = found

  pub list_refused : i < c.size → Err (Entry (at + i)) ≡ outcome (checked p t c ts at)
  unfolding checked list_check
  list_refused h = rw found_at (refuses_unless _ _ (ne_eqb i c.size (λ q. omega arith)))

  pub list_passed : i ≡ c.size → Ok tt ≡ outcome (checked p t c ts at)
  unfolding checked list_check
  list_passed h = rw found_at (passes_unless _ _ (eq-eqb i c.size h))

-- Each list as the model checks it. A list of pairs has 0 for each third number: it ascends by them as it does without.

flow_check : (p : Program) (c : Columns) (k at : ℕ) → k ≡ at → checked p Flow c [] k ≡ list_check at c.size (is_pair (is_name p) (is_value_of p) c) (pair_key c)
unfolding checked legal_left legal_rest legal is_pair list_check first_misplaced key_at pair_key below
flow_check p c k at e = rw e

mail_check : (p : Program) (c : Columns) (k at : ℕ) → k ≡ at → checked p Mail c [] k ≡ list_check at c.size (is_pair (is_class_of p) (is_value_of p) c) (pair_key c)
unfolding checked legal_left legal_rest legal is_pair list_check first_misplaced key_at pair_key below
mail_check p c k at e = rw e

states_check : (p : Program) (t : Tables) (k at : ℕ) → k ≡ at → checked p States t.states t.returns k ≡ list_check at t.states.size (λ i. is_state p (state_at t i)) (λ i. state_key (state_at t i))
unfolding checked legal_left legal_rest legal is_state list_check first_misplaced key_at state_at state_key
states_check p t k at e = rw e

module _ (ws : List ℕ) (s : Sizes) where
  -- the lists of the tables lie within the words
  module _ (whole : PartsWhole ws s) (l : Span) where
    pub flow_held : l ≡ flow_span s → Held ws l
    unfolding flow_span
    flow_held e = rw e (pair_held ws s s.flows 0 whole.held (omega arith))

    pub mail_held : l ≡ mail_span s → Held ws l
    unfolding mail_span
    mail_held e = rw e (pair_held ws s s.mails s.flows whole.held (omega arith))

    pub states_held : l ≡ state_span s → Held ws l
    states_held e = rw e (triple_held ws s whole.held)

  abbrev checked_at : Table → Span → Check
  checked_at t l = checked (program ws s) t (listed ws l) (thirds ws l) l.lefts

  in_order : entry_check_of s (program ws s) (tables ws s) ≡ (checked_at Flow (flow_span s) >> (checked_at Mail (mail_span s) >> checked_at States (state_span s)))
  unfolding entry_check_of flow_span mail_span state_span span_at
  in_order =
      let p = program ws s in
      let t = tables ws s in
      let at = tables_offset s + 3 in
      let flows = flow_check p t.flow (at + 0) at (omega arith) in
      let mails = mail_check p t.mail (at + s.flows) (at + s.flows) refl in
      let states = states_check p t (at + (s.flows + s.mails)) (at + s.flows + s.mails) (omega arith) in
      rw (flow_listed ws s, flow_thirds ws s, mail_listed ws s, mail_thirds ws s, states_listed ws s, states_thirds ws s, flows, mails, states)

  abbrev told : Result Unit Verdict
  told = outcome (entry_check_of s (program ws s) (tables ws s))

  -- the lists one after the other, each with what it gives
  module _ (a : Span) (flow-is : a ≡ flow_span s) (q : Result Unit Verdict) (flow_told : q ≡ outcome (checked_at Flow a)) where
    flow_gives : q ≡ outcome (checked_at Flow (flow_span s))
    flow_gives = rw (← flow-is) flow_told

    pub flow_refused : (v : Verdict) → q ≡ Err v → Err v ≡ told
    flow_refused v h = rw in_order (stops_at _ _ q v flow_gives h)

    module _ (flow-passed : q ≡ Ok tt) (b : Span) (mail-is : b ≡ mail_span s) (m : Result Unit Verdict) (mail_told : m ≡ outcome (checked_at Mail b)) where
      mail_gives : m ≡ outcome (checked_at Mail (mail_span s))
      mail_gives = rw (← mail-is) mail_told

      behind_flow : (u : Result Unit Verdict) → u ≡ outcome (checked_at Mail (mail_span s) >> checked_at States (state_span s)) → u ≡ told
      behind_flow u h = rw in_order (goes_on_to _ _ q u flow_gives flow-passed h)

      pub mail_refused : (v : Verdict) → m ≡ Err v → Err v ≡ told
      mail_refused v h = behind_flow (Err v) (stops_at _ _ m v mail_gives h)

      pub states_told : m ≡ Ok tt → (c : Span) → c ≡ state_span s → (x : Result Unit Verdict) → x ≡ outcome (checked_at States c) → x ≡ told
      states_told h c e x k = behind_flow x (goes_on_to _ _ m x mail_gives h (rw (← e) k))
