-- The table of refusals is exact (`Refused` of specs/Refusals.antt): each check refuses what its line says and nothing else; where it refuses nothing,
-- what holds is more, and where a line holds, no check before it refuses.
use Prim.Native.Nat.{ℕ, ◌+◌, ◌≤◌, ◌<◌}
use native.Mathlib.Decide.{ℕ_discrete}
use native.Mathlib.Omega.{arith}
use mathlib.Core.Path.{◌≡◌, refl, sym, ap, subst, ◌∙◌}
use mathlib.Core.Bool.{Bool, true, false, ◌&&◌}
use mathlib.Core.Logic.Iff
use mathlib.Core.Logic.{◌↔◌, ◌⊎◌, inl, inr, ⊎_elim}
use mathlib.Core.List.{List, [], ◌∷◌}
use mathlib.Core.Option.{some, none, map, map-eq-some_iff, some-injective, none-ne-some}
use lib.ListN.{length, replicate}
use lib.Dec.{leb, eqb}
use borrow.Author.Tests.{eq-eqb, ne_eqb}
use Rattle.model.specs.declared.Sizes.{Sizes}
use Rattle.model.specs.declared.Verdict.{Verdict}
use Rattle.model.specs.declared.Verdict.TheVariants.{Safe, Row, Name, Scope, Bad, Entry, Open, Counters, Ceiling, Start, Met, Space, FunctionMailed, Weights, Light}
use Rattle.model.specs.Limits.{Limits}
use Rattle.model.specs.Words.{Columns}
use Rattle.model.specs.Keys.{Key}
use Rattle.model.specs.Verdict.{Check, ◌>>◌}
use Rattle.model.specs.Message.{bads_offset, tables_offset, ceilings_offset, weights_offset, goes_on, parts_check}
use Rattle.model.specs.Reader.{Grammar, first_wrong_of}
use Rattle.model.specs.Rows.{Program, size, is_name, step, whole, row_check_of}
use Rattle.model.specs.Scopes.{bound_again, name_check_of, out_of_scope, scope_check_of}
use Rattle.model.specs.Heads.{is_class_of}
use Rattle.model.specs.Bads.{bad, bad_step, bad_row_of, bad_check_of}
use Rattle.model.specs.Tables.{Tables, is_value_of, first_misplaced, list_check, entry_check_of, mailed_check_of}
use Rattle.model.specs.Tables.{state_at, pair_key, state_key}
use Rattle.model.specs.Closed.{is_opening_closed, open_check}
use Rattle.model.specs.Counters.{counter_count, counter_check_of}
use Rattle.model.specs.Rules.{rules}
use Rattle.model.specs.Listing.{system_words, space_check}
use Rattle.model.specs.Markings.{initial}
use Rattle.model.specs.Ceilings.{Ceilings, ceiling_entries, ceiling_step, ceilings_ahead, ceilings_of, ceiling_check_of, start_check_of, met_check_of, leak_check_of}
use Rattle.model.specs.Weights.{Lines, weight_entries, weight_step, lines_ahead, lines_of, weight_check_of, rise_check_of, light_check_of}
use Rattle.model.specs.Verify.{Message, message, program_check, evidence_check, ceilings_check, weights_check, bounds_check, message_check, check, answer, verdict_within}
use Rattle.model.specs.Wanted.{Present, WantedFirst}
use Rattle.model.specs.Wanted.{Entry as Table-entry}
use Rattle.model.specs.Demands.{Bytes, LegalPair, two_columns, PairsListed, LegalState, three_columns, UnderOne, ByCeilings, ByWeights}
use Rattle.model.specs.Refusals.{FirstSuch, Behind, MessagePart, parts, Whole, Wrong, BoundAgain, Bound, ReadsOutside, Placed, Lacks, Allowed, Raises, Unsettled, Passed, Refused, RefusedExactly, Said, VerdictExactly, of_sound, of_refused}
use Rattle.model.specs.Refusals.{parts_passed, rows_passed, names_passed, scopes_passed, bads_passed, entries_passed, closed_passed, mailed_passed, counters_passed, ceilings_passed, start_passed, bad_passed, kept_passed, counters_weighed, weights_passed, rise_passed, light_passed}
use Rattle.model.specs.Refusals.{sizes_short, arrays_short, bytes_remain, size_outside, row_wrong, name_again, name_unbound, scope_left, bad_wrong, flow_misplaced, mail_misplaced, state_misplaced, opening_missing, state_open, function_mailed, counters_over, ceiling_wrong, start_outside, bad_met, ceiling_left, weights_wrong, line_raised, bad_light, no_space}
use Rattle.model.proofs.Logic.{test, chosen_true, chosen_false}
use Rattle.model.proofs.Reader.{by_option}
use Rattle.model.proofs.Exact.Tests.{leb_iff, fails_iff, passes_iff, all_refuted}
use Rattle.model.proofs.Exact.Checks.{then_none, then_some, then_some_iff, unless_some, unless_iff, unless_refutes, first_none, first_some}
use Rattle.model.proofs.Exact.Answer.{Refuses, check_refuses, verdict_safe}
use Rattle.model.proofs.Exact.Parts.{PartWrong, parts_none, parts_some}
use Rattle.model.proofs.Exact.Reading.{first_wrong_some}
use Rattle.model.proofs.Exact.Rows.{row_none, reads_name}
use Rattle.model.proofs.Exact.Names.{NoneAgain, again_iff, again_none, once_iff, binder_iff, name_none, outside_iff}
use Rattle.model.proofs.Exact.Entries.{placed_iff, list_none, entry_none, mailed_none, mailed_some, bad_none}
use Rattle.model.proofs.Exact.Entries.{ceiling_none, weight_none, pair_iff, state_iff}
use Rattle.model.proofs.Exact.Closed.{finds_first, lacks_iff, function_below, open_none}
use Rattle.model.proofs.Exact.Finds.{Finds, found_iff, missing_iff}
use Rattle.model.proofs.Bounded.Under.{under_some_exact}
use Rattle.model.proofs.Numbering.Within.{within_iff}
use Rattle.model.proofs.Bounded.Leak.{start_check_exact}
use Rattle.model.proofs.Bounded.Exact.{met_exact, met_refuses, leak_none, leak_refuses}
use Rattle.model.proofs.Weighed.Exact.{rise_none, rise_refuses, light_none, light_refuses}
use Rattle.model.proofs.Demands.{safe_exactly}

-- a reading refuses its first wrong row
wrong_some : {Item : Type 0} (step : Grammar Item) (rows : Columns) (items : List Item) (f : ℕ → Verdict) (v : Verdict) → (map f (first_wrong_of step rows items) ≡ some v) ↔ ((r : ℕ) × Wrong step rows items r × (f r ≡ v))
wrong_some step rows items f v =
    Iff.trans (map-eq-some_iff f (first_wrong_of step rows items)) (
      λ h. let (r, e, q) = h in (r, (first_wrong_some step rows items r).0 e, q),
      λ h. let (r, w, q) = h in (r, (first_wrong_some step rows items r).1 w, q),
    )

-- a list refuses its first misplaced entry
abbrev Misplaced : ℕ → (ℕ → Type 0) → (ℕ → Key) → ℕ → Verdict → Type 0
Misplaced n In-range key at v = (i : ℕ) × FirstSuch n (λ j. Placed In-range key j → ⊥) i × (Entry (at + i) ≡ v)

list_some : (n : ℕ) (in_range : ℕ → Bool) (key : ℕ → Key) {In-range : ℕ → Type 0} → ((i : ℕ) → (in_range i ≡ true) ↔ In-range i) → (at : ℕ) (v : Verdict) → (list_check at n in_range key ≡ some v) ↔ Misplaced n In-range key at v
unfolding list_check first_misplaced
list_some n in_range key ranged at v = first_some n _ (λ i b. passes_iff _ (placed_iff n in_range key ranged i)) (λ i. Entry (at + i)) v

-- one check after the other
then_assoc : (a b c : Check) → ((a >> b) >> c) ≡ (a >> (b >> c))
unfolding ◌>>◌
then_assoc (some v) b c = refl
then_assoc none b c = refl

skip : {a : Check} (b : Check) → a ≡ none → (a >> b) ≡ b
unfolding ◌>>◌
skip b e = rw e

stop : {a : Check} {v : Verdict} (b : Check) → a ≡ some v → (a >> b) ≡ some v
stop {a} {v} b e = (then_some a b v).1 (inl e)

module _ (most : Limits) (bytes : List ℕ) (short : Bytes bytes) (lent : ℕ) where
  abbrev m : Message
  m = message bytes

  abbrev s : Sizes
  s = m.sizes

  abbrev p : Program
  p = m.program

  abbrev t : Tables
  t = m.tables

  abbrev bs : Ceilings
  bs = m.ceilings

  abbrev ls : Lines
  ls = m.lines

  -- Each check refuses what its line says, exactly.

  row_some : (v : Verdict) → (row_check_of p ≡ some v) ↔ ((r : ℕ) × Wrong (step p) p.rows (whole p) r × (Row (4 + r) ≡ v))
  unfolding row_check_of
  row_some v = wrong_some (step p) p.rows (whole p) (λ r. Row (4 + r)) v

  abbrev Unbound : Type 0
  Unbound = (n : ℕ) × (n < p.names) × (Bound p n → ⊥)

  name_some : (v : Verdict) → (name_check_of p ≡ some v) ↔ (((r : ℕ) × FirstSuch (size p) (BoundAgain p) r × (Name (4 + r) ≡ v)) ⊎ (NoneAgain p × (Unbound × (Name 1 ≡ v))))
  unfolding name_check_of
  name_some v =
      then_some_iff _ _ v (again_none p _) (first_some (size p) (bound_again p) (λ r b. again_iff p r) (λ r. Name (4 + r)) v)
      (Iff.trans (unless_some _ (Name 1) v) (Iff.and (all_refuted p.names _ (binder_iff p)) Iff.rfl))

  outside : Passed most bytes 5 → (r : ℕ) → r < size p → (out_of_scope p r ≡ true) ↔ ReadsOutside p r
  outside (names_passed (rows_passed x fit) again bound) r b = outside_iff p (reads_name p fit) ((once_iff p).0 again) bound r b

  scope_some : Passed most bytes 5 → (v : Verdict) → (scope_check_of p ≡ some v) ↔ ((r : ℕ) × FirstSuch (size p) (ReadsOutside p) r × (Scope (4 + r) ≡ v))
  unfolding scope_check_of
  scope_some x v = first_some (size p) (out_of_scope p) (outside x) (λ r. Scope (4 + r)) v

  scope_none : Passed most bytes 5 → (scope_check_of p ≡ none) ↔ ((r : ℕ) → r < size p → ReadsOutside p r → ⊥)
  unfolding scope_check_of
  scope_none x = first_none (size p) (out_of_scope p) _ (λ r b. fails_iff _ (outside x r b))

  bad_some : (v : Verdict) → (bad_check_of m.words s p ≡ some v) ↔ ((r : ℕ) × Wrong (bad_step p) m.bads (replicate s.bads bad) r × (Bad (bads_offset s + 2 + r) ≡ v))
  unfolding bad_check_of message
  bad_some v = wrong_some (bad_step p) m.bads (replicate s.bads bad) (λ r. Bad (bads_offset s + 2 + r)) v

  abbrev FlowListed : Type 0
  FlowListed = PairsListed (is_name p) (is_value_of p) t.flow

  abbrev MailListed : Type 0
  MailListed = PairsListed (is_class_of p) (is_value_of p) t.mail

  abbrev PairMisplaced : (ℕ → Bool) → (ℕ → Bool) → Columns → ℕ → Verdict → Type 0
  PairMisplaced l r c = Misplaced c.size (LegalPair l r c) (two_columns c)

  entry_some : (v : Verdict) → (entry_check_of s p t ≡ some v) ↔ (PairMisplaced (is_name p) (is_value_of p) t.flow (tables_offset s + 3) v ⊎ (FlowListed × (PairMisplaced (is_class_of p) (is_value_of p) t.mail (tables_offset s + 3 + s.flows) v ⊎ (MailListed × Misplaced t.states.size (LegalState p t) (three_columns t) (tables_offset s + 3 + s.flows + s.mails) v))))
  unfolding entry_check_of pair_key state_key state_at
  entry_some v =
      let flow = pair_iff (is_name p) (is_value_of p) t.flow in
      let mail = pair_iff (is_class_of p) (is_value_of p) t.mail in
      then_some_iff _ _ v (list_none t.flow.size _ _ flow _) (list_some t.flow.size _ _ flow _ v)
      (then_some_iff _ _ v (list_none t.mail.size _ _ mail _) (list_some t.mail.size _ _ mail _ v)
      (list_some t.states.size _ _ (state_iff p t) _ v))

  opening : Finds t (is_opening_closed p t) (WantedFirst p)
  unfolding message
  opening = finds_first p t (function_below m.words s)

  open_some : (v : Verdict) → (open_check s p t ≡ some v) ↔ ((((e : Table-entry) × WantedFirst p e × (Present t e → ⊥)) × (Open (tables_offset s) ≡ v)) ⊎ (((e : Table-entry) → WantedFirst p e → Present t e) × ((i : ℕ) × FirstSuch t.states.size (λ j. Lacks p t (state_at t j)) i × (Open (tables_offset s + 3 + s.flows + s.mails + i) ≡ v))))
  unfolding open_check
  open_some v =
      then_some_iff _ _ v (unless_iff _ _ (found_iff t opening)) (Iff.trans (unless_some _ _ v) (Iff.and (missing_iff t opening) Iff.rfl))
      (first_some t.states.size _ (λ i b. lacks_iff p t i) (λ i. Open (tables_offset s + 3 + s.flows + s.mails + i)) v)

  counter_some : (v : Verdict) → (counter_check_of most s p t ≡ some v) ↔ ((counter_count p t ≤ most.counters → ⊥) × (Counters (tables_offset s + 2) ≡ v))
  unfolding counter_check_of
  counter_some v = unless_refutes _ _ v (within_iff p t most.counters)

  counter_none : (counter_check_of most s p t ≡ none) ↔ (counter_count p t ≤ most.counters)
  unfolding counter_check_of
  counter_none = unless_iff _ _ (within_iff p t most.counters)

  ceiling_some : (v : Verdict) → (ceiling_check_of m.words s (counter_count p t) ≡ some v) ↔ ((e : ℕ) × Wrong (ceiling_step bs.counters) (ceiling_entries m.words s) (ceilings_ahead s.ceilings) e × (Ceiling (ceilings_offset s + 2 + e) ≡ v))
  unfolding ceiling_check_of message ceilings_of
  ceiling_some v = wrong_some (ceiling_step bs.counters) (ceiling_entries m.words s) (ceilings_ahead s.ceilings) (λ e. Ceiling (ceilings_offset s + 2 + e)) v

  start_some : (v : Verdict) → (start_check_of s p t bs ≡ some v) ↔ ((UnderOne bs (initial p t) → ⊥) × (Start (ceilings_offset s) ≡ v))
  unfolding start_check_of
  start_some v = unless_refutes _ _ v (under_some_exact bs (initial p t))

  bads_known : Passed most bytes 12 → first_wrong_of (bad_step p) m.bads (replicate s.bads bad) ≡ none
  bads_known (start_passed (ceilings_passed (counters_passed (mailed_passed (closed_passed (entries_passed (bads_passed x bads) flow mail states) closed) mailed) few by) form) under) = bads

  met_none : Passed most bytes 12 → (met_check_of s p t bs m.bads ≡ none) ↔ ((j : ℕ) → j < s.bads → Allowed m j → ⊥)
  met_none x = met_exact bytes short (bads_known x)

  met_some : Passed most bytes 12 → (v : Verdict) → (met_check_of s p t bs m.bads ≡ some v) ↔ ((j : ℕ) × FirstSuch s.bads (Allowed m) j × (Met (bads_offset s + 2 + bad_row_of p m.bads j) ≡ v))
  met_some x = met_refuses bytes short (bads_known x)

  weight_some : (v : Verdict) → (weight_check_of m.words s (counter_count p t) ≡ some v) ↔ ((e : ℕ) × Wrong (weight_step ls.counters) (weight_entries m.words s) (lines_ahead s.lines) e × (Weights (weights_offset s + 2 + e) ≡ v))
  unfolding weight_check_of message lines_of
  weight_some v = wrong_some (weight_step ls.counters) (weight_entries m.words s) (lines_ahead s.lines) (λ e. Weights (weights_offset s + 2 + e)) v

  -- what is known before 18: the bads are in form, and there are lines
  weighed_known : Passed most bytes 18 → (first_wrong_of (bad_step p) m.bads (replicate s.bads bad) ≡ none) × ByWeights m
  weighed_known (rise_passed (weights_passed (counters_weighed (mailed_passed (closed_passed (entries_passed (bads_passed x bads) flow mail states) closed) mailed) few by) form) rise) = (bads, by)

  light_known : Passed most bytes 18 → (light_check_of s p t ls m.bads ≡ none) ↔ ((j : ℕ) → j < s.bads → Unsettled m j → ⊥)
  light_known x = let (bads, by) = weighed_known x in light_none bytes bads by

  light_some : Passed most bytes 18 → (v : Verdict) → (light_check_of s p t ls m.bads ≡ some v) ↔ ((j : ℕ) × FirstSuch s.bads (Unsettled m) j × (Light (bads_offset s + 2 + bad_row_of p m.bads j) ≡ v))
  light_some x = let (bads, by) = weighed_known x in light_refuses bytes bads by

  space_some : (v : Verdict) → (space_check p t lent ≡ some v) ↔ ((length (system_words p t) ≤ lent → ⊥) × (Space (length (system_words p t)) ≡ v))
  unfolding space_check
  space_some v = unless_refutes _ _ v (leb_iff (length (system_words p t)) lent)

  -- a check, what is known before it, and after it where it refuses nothing
  record Stage (c : Check) (Before After : Type 0) : Type 0 where
    refuses : Before → (v : Verdict) → c ≡ some v → Refused most bytes lent v
    passes : Before → c ≡ none → After

  infixr 20 ◌then◌
  ◌then◌ : {a b : Check} {P Q R : Type 0} → Stage a P Q → Stage b Q R → Stage (a >> b) P R
  ◌then◌ {a} {b} f g =
      record {
        refuses = λ x v h. ⊎_elim (f.refuses x v) (λ y. g.refuses (f.passes x y.0) v y.1) ((then_some a b v).0 h);
        passes = λ x h. let (y, z) = (then_none a b).0 h in g.passes (f.passes x y) z;
      }

  -- the verdict that a way to be refused gives
  told : {v w : Verdict} → Refused most bytes lent w → w ≡ v → Refused most bytes lent v
  told r q = subst (Refused most bytes lent) q r

  parts_stage : Stage (parts_check most bytes) (Unit {0}) (Passed most bytes 3)
  unfolding message
  parts_stage =
      record {
        refuses = λ x v h. ⊎_elim
            (λ y. let (k, part, b, w) = y in
            ⊎_elim (λ z. told (sizes_short k part b z.0) z.1)
            (λ z. ⊎_elim (λ u. let (i, l, c, n, q) = u in told (size_outside k i part l b z.0 c n) q)
            (λ u. told (arrays_short k part b u.0 u.1.0) u.1.1)
            z.1)
            w)
            (λ y. let (w, (on, (l, q))) = y in told (bytes_remain w on l) q)
            ((parts_some most bytes v).0 h);
        passes = λ x h. let (a, b) = (parts_none most bytes).0 h in parts_passed a b;
      }

  row_stage : Stage (row_check_of p) (Passed most bytes 3) (Passed most bytes 4)
  row_stage =
      record {
        refuses = λ x v h. let (r, w, q) = (row_some v).0 h in told (row_wrong r x w) q;
        passes = λ x h. rows_passed x ((row_none p).0 h);
      }

  name_stage : Stage (name_check_of p) (Passed most bytes 4) (Passed most bytes 5)
  name_stage =
      record {
        refuses = λ x v h. ⊎_elim (λ y. let (r, f, q) = y in told (name_again r x f) q)
            (λ y. let (again, ((n, b, u), q)) = y in told (name_unbound n x again b u) q)
            ((name_some v).0 h);
        passes = λ x h. let (once, bound) = (name_none p).0 h in names_passed x ((once_iff p).1 once) bound;
      }

  scope_stage : Stage (scope_check_of p) (Passed most bytes 5) (Passed most bytes 6)
  scope_stage =
      record {
        refuses = λ x v h. let (r, f, q) = (scope_some x v).0 h in told (scope_left r x f) q;
        passes = λ x h. scopes_passed x ((scope_none x).0 h);
      }

  bad_stage : Stage (bad_check_of m.words s p) (Passed most bytes 6) (Passed most bytes 7)
  unfolding message
  bad_stage =
      record {
        refuses = λ x v h. let (r, w, q) = (bad_some v).0 h in told (bad_wrong r x w) q;
        passes = λ x h. bads_passed x ((bad_none m.words s p).0 h);
      }

  entry_stage : Stage (entry_check_of s p t) (Passed most bytes 7) (Passed most bytes 8)
  entry_stage =
      record {
        refuses = λ x v h. ⊎_elim (λ y. let (i, f, q) = y in told (flow_misplaced i x f) q)
            (λ y. ⊎_elim (λ z. let (i, f, q) = z in told (mail_misplaced i x y.0 f) q)
            (λ z. let (i, f, q) = z.1 in told (state_misplaced i x y.0 z.0 f) q)
            y.1)
            ((entry_some v).0 h);
        passes = λ x h. let (flow, (mail, states)) = (entry_none s p t).0 h in entries_passed x flow mail states;
      }

  open_stage : Stage (open_check s p t) (Passed most bytes 8) (Passed most bytes 22)
  unfolding message
  open_stage =
      record {
        refuses = λ x v h. ⊎_elim (λ y. let ((e, w, n), q) = y in told (opening_missing e x w n) q)
            (λ y. let (o, (i, f, q)) = y in told (state_open i x o f) q)
            ((open_some v).0 h);
        passes = λ x h. closed_passed x ((open_none m.words s t).0 h);
      }

  mailed_stage : Stage (mailed_check_of s p t) (Passed most bytes 22) (Passed most bytes 9)
  mailed_stage =
      record {
        refuses = λ x v h. let (i, f, q) = (mailed_some s p t v).0 h in told (function_mailed i x f) q;
        passes = λ x h. mailed_passed x ((mailed_none s p t).0 h);
      }

  -- before 10 or 16
  abbrev Counted : Type 0
  Counted = Passed most bytes 9 × (counter_count p t ≤ most.counters)

  counter_stage : Stage (counter_check_of most s p t) (Passed most bytes 9) Counted
  counter_stage =
      record {
        refuses = λ x v h. let (n, q) = (counter_some v).0 h in told (counters_over x (omega arith)) q;
        passes = λ x h. (x, counter_none.0 h);
      }

  ceiling_stage : Stage (ceiling_check_of m.words s (counter_count p t)) (Passed most bytes 10) (Passed most bytes 11)
  unfolding message ceilings_of
  ceiling_stage =
      record {
        refuses = λ x v h. let (e, w, q) = (ceiling_some v).0 h in told (ceiling_wrong e x w) q;
        passes = λ x h. ceilings_passed x ((ceiling_none m.words s bs.counters).0 h);
      }

  start_stage : Stage (start_check_of s p t bs) (Passed most bytes 11) (Passed most bytes 12)
  start_stage =
      record {
        refuses = λ x v h. let (n, q) = (start_some v).0 h in told (start_outside x n) q;
        passes = λ x h. start_passed x ((start_check_exact s p t bs).0 h);
      }

  met_stage : Stage (met_check_of s p t bs m.bads) (Passed most bytes 12) (Passed most bytes 13)
  met_stage =
      record {
        refuses = λ x v h. let (j, f, q) = (met_some x v).0 h in told (bad_met j x f) q;
        passes = λ x h. bad_passed x ((met_none x).0 h);
      }

  leak_stage : Stage (leak_check_of m.words s bs (rules p t)) (Passed most bytes 13) (Passed most bytes 14)
  leak_stage =
      record {
        refuses = λ x v h. let (k, f, q) = (leak_refuses bytes short v).0 h in told (ceiling_left k x f) q;
        passes = λ x h. kept_passed x ((leak_none bytes short).0 h);
      }

  weight_stage : Stage (weight_check_of m.words s (counter_count p t)) (Passed most bytes 16) (Passed most bytes 17)
  unfolding message lines_of
  weight_stage =
      record {
        refuses = λ x v h. let (e, w, q) = (weight_some v).0 h in told (weights_wrong e x w) q;
        passes = λ x h. weights_passed x ((weight_none m.words s ls.counters).0 h);
      }

  rise_stage : Stage (rise_check_of m.words s ls (rules p t)) (Passed most bytes 17) (Passed most bytes 18)
  rise_stage =
      record {
        refuses = λ x v h. let (k, f, q) = (rise_refuses bytes v).0 h in told (line_raised k x f) q;
        passes = λ x h. rise_passed x ((rise_none bytes).0 h);
      }

  light_stage : Stage (light_check_of s p t ls m.bads) (Passed most bytes 18) (Passed most bytes 14)
  light_stage =
      record {
        refuses = λ x v h. let (j, f, q) = (light_some x v).0 h in told (bad_light j x f) q;
        passes = λ x h. light_passed x ((light_known x).0 h);
      }

  -- "in place of 10 to 13"
  by_ceilings : ByCeilings m → bounds_check m ≡ ceilings_check m
  unfolding bounds_check
  by_ceilings h = chosen_true (eqb s.lines 0) (ceilings_check m) (weights_check m) (eq-eqb s.lines 0 h)

  by_weights : ByWeights m → bounds_check m ≡ weights_check m
  unfolding bounds_check
  by_weights h = chosen_false (eqb s.lines 0) (ceilings_check m) (weights_check m) (ne_eqb s.lines 0 (λ z. omega arith))

  ceilings_stage : Stage (ceilings_check m) (Passed most bytes 10) (Passed most bytes 14)
  unfolding ceilings_check
  ceilings_stage = ceiling_stage then start_stage then met_stage then leak_stage

  weights_stage : Stage (weights_check m) (Passed most bytes 16) (Passed most bytes 14)
  unfolding weights_check
  weights_stage = weight_stage then rise_stage then light_stage

  bounds_stage : Stage (bounds_check m) Counted (Passed most bytes 14)
  bounds_stage = elim (ℕ_discrete s.lines 0) [
    | yes z ↦ record {
      refuses = λ x v h. ceilings_stage.refuses (counters_passed x.0 x.1 z) v (sym (by_ceilings z) ∙ h);
      passes = λ x h. ceilings_stage.passes (counters_passed x.0 x.1 z) (sym (by_ceilings z) ∙ h);
    }
    | no z ↦
        let one : ByWeights m = omega arith in
        record {
          refuses = λ x v h. weights_stage.refuses (counters_weighed x.0 x.1 one) v (sym (by_weights one) ∙ h);
          passes = λ x h. weights_stage.passes (counters_weighed x.0 x.1 one) (sym (by_weights one) ∙ h);
        }
  ]

  space_stage : Stage (space_check p t lent) (Passed most bytes 14) (Unit {0})
  space_stage =
      record {
        refuses = λ x v h. let (n, q) = (space_some v).0 h in told (no_space x (omega arith)) q;
        passes = λ x h. tt;
      }

  -- "Checked in that order", each beside its number: up to 9, and then by the ceilings or by the weights
  abbrev checks : List (ℕ × Check)
  checks =
      (3, row_check_of p) ∷ (4, name_check_of p) ∷ (5, scope_check_of p) ∷ (6, bad_check_of m.words s p) ∷ (7, entry_check_of s p t) ∷ (8, open_check s p t) ∷
      (22, mailed_check_of s p t) ∷ (9, counter_check_of most s p t) ∷ (0, bounds_check m) ∷ []

  abbrev ceilings_checks : List (ℕ × Check)
  ceilings_checks =
      (10, ceiling_check_of m.words s (counter_count p t)) ∷ (11, start_check_of s p t bs) ∷ (12, met_check_of s p t bs m.bads) ∷
      (13, leak_check_of m.words s bs (rules p t)) ∷ []

  abbrev weights_checks : List (ℕ × Check)
  weights_checks =
      (16, weight_check_of m.words s (counter_count p t)) ∷ (17, rise_check_of m.words s ls (rules p t)) ∷ (18, light_check_of s p t ls m.bads) ∷ []

  abbrev from : List (ℕ × Check) → Check
  from [] = space_check p t lent
  from (c ∷ cs) = c.1 >> from cs

  -- the check with this number and those behind it; of 14, the last, none
  abbrev starting_with : ℕ → List (ℕ × Check) → List (ℕ × Check)
  starting_with k [] = []
  starting_with k (c ∷ cs) = elim (eqb c.0 k) [ true ↦ c ∷ cs | false ↦ starting_with k cs ]

  abbrev those : ℕ → List (ℕ × Check)
  those k = elim (leb 10 k && leb k 14) [
    | true ↦ starting_with k ceilings_checks
    | false ↦ elim (leb 16 k && leb k 18) [ true ↦ starting_with k weights_checks | false ↦ starting_with k checks ]
  ]

  in_order : check most bytes lent ≡ (parts_check most bytes >> from checks)
  unfolding check message_check program_check evidence_check
  in_order = simp (program_check, evidence_check, then_assoc)

  ceilings_in_order : (ceilings_check m >> space_check p t lent) ≡ from ceilings_checks
  unfolding ceilings_check
  ceilings_in_order = simp (ceilings_check, then_assoc)

  weights_in_order : (weights_check m >> space_check p t lent) ≡ from weights_checks
  unfolding weights_check
  weights_in_order = simp (weights_check, then_assoc)

  refuses_as_said : (v : Verdict) → check most bytes lent ≡ some v → Refused most bytes lent v
  refuses_as_said v h =
      (parts_stage then row_stage then name_stage then scope_stage then bad_stage then entry_stage then open_stage then mailed_stage then counter_stage then
      bounds_stage then space_stage).refuses tt v (sym in_order ∙ h)

  -- Where checks have passed, the answer is that of the others.
  others : {k : ℕ} → Passed most bytes k → check most bytes lent ≡ from (those k)
  unfolding message ceilings_of lines_of
  others (parts_passed a b) = in_order ∙ skip _ ((parts_none most bytes).1 (a, b))
  others (rows_passed x fit) = others x ∙ skip _ ((row_none p).1 fit)
  others (names_passed x again bound) = others x ∙ skip _ ((name_none p).1 ((once_iff p).0 again, bound))
  others (scopes_passed x within) = others x ∙ skip _ ((scope_none x).1 within)
  others (bads_passed x fit) = others x ∙ skip _ ((bad_none m.words s p).1 fit)
  others (entries_passed x flow mail states) = others x ∙ skip _ ((entry_none s p t).1 (flow, (mail, states)))
  others (closed_passed x closed) = others x ∙ skip _ ((open_none m.words s t).1 closed)
  others (mailed_passed x mailed) = others x ∙ skip _ ((mailed_none s p t).1 mailed)
  others (counters_passed x few by) =
      others x ∙ (skip _ (counter_none.1 few) ∙ (ap (λ c. c >> space_check p t lent) (by_ceilings by) ∙ ceilings_in_order))
  others (ceilings_passed x fit) = others x ∙ skip _ ((ceiling_none m.words s bs.counters).1 fit)
  others (start_passed x under) = others x ∙ skip _ ((start_check_exact s p t bs).1 under)
  others (bad_passed x none-met) = others x ∙ skip _ ((met_none x).1 none-met)
  others (kept_passed x none_left) = others x ∙ skip _ ((leak_none bytes short).1 none_left)
  others (counters_weighed x few by) =
      others x ∙ (skip _ (counter_none.1 few) ∙ (ap (λ c. c >> space_check p t lent) (by_weights by) ∙ weights_in_order))
  others (weights_passed x fit) = others x ∙ skip _ ((weight_none m.words s ls.counters).1 fit)
  others (rise_passed x none-raised) = others x ∙ skip _ ((rise_none bytes).1 none-raised)
  others (light_passed x none-light) = others x ∙ skip _ ((light_known x).1 none-light)

  -- A line that holds is the answer.
  part_told : {v : Verdict} (k : ℕ) (part : MessagePart) → Behind (Whole m.words) (parts most bytes s) k part → PartWrong m.words part v → check most bytes lent ≡ some v
  unfolding message
  part_told {v} k part b w = in_order ∙ stop _ ((parts_some most bytes v).1 (inl (k, part, b, w)))

  said_refuses : (v : Verdict) → Refused most bytes lent v → check most bytes lent ≡ some v
  unfolding message
  said_refuses v (sizes_short k part b n) = part_told k part b (inl (n, refl))
  said_refuses v (arrays_short k part b w n) =
      test (leb (part.first + length part.sizes) (length m.words))
      (λ e. part_told k part b (inr ((leb_iff _ _).0 e, inr (w, (n, refl)))))
      (λ e. part_told k part b (inl ((fails_iff _ (leb_iff _ _)).0 e, refl)))
  said_refuses v (bytes_remain w on l) = in_order ∙ stop _ ((parts_some most bytes v).1 (inr (w, (on, (l, refl)))))
  said_refuses v (size_outside k i part l b whole c n) = part_told k part b (inr (whole, inl (i, l, c, n, refl)))
  said_refuses v (row_wrong r x w) = others x ∙ stop _ ((row_some v).1 (r, w, refl))
  said_refuses v (name_again r x f) = others x ∙ stop _ ((name_some v).1 (inl (r, f, refl)))
  said_refuses v (name_unbound n x again b u) = others x ∙ stop _ ((name_some v).1 (inr (again, ((n, b, u), refl))))
  said_refuses v (scope_left r x f) = others x ∙ stop _ ((scope_some x v).1 (r, f, refl))
  said_refuses v (bad_wrong r x w) = others x ∙ stop _ ((bad_some v).1 (r, w, refl))
  said_refuses v (flow_misplaced i x f) = others x ∙ stop _ ((entry_some v).1 (inl (i, f, refl)))
  said_refuses v (mail_misplaced i x flow f) = others x ∙ stop _ ((entry_some v).1 (inr (flow, inl (i, f, refl))))
  said_refuses v (state_misplaced i x flow mail f) = others x ∙ stop _ ((entry_some v).1 (inr (flow, inr (mail, (i, f, refl)))))
  said_refuses v (opening_missing e x w n) = others x ∙ stop _ ((open_some v).1 (inl ((e, w, n), refl)))
  said_refuses v (state_open i x o f) = others x ∙ stop _ ((open_some v).1 (inr (o, (i, f, refl))))
  said_refuses v (function_mailed i x f) = others x ∙ stop _ ((mailed_some s p t v).1 (i, f, refl))
  said_refuses v (counters_over x l) = others x ∙ stop _ ((counter_some v).1 (λ z. omega arith, refl))
  said_refuses v (ceiling_wrong e x w) = others x ∙ stop _ ((ceiling_some v).1 (e, w, refl))
  said_refuses v (start_outside x n) = others x ∙ stop _ ((start_some v).1 (n, refl))
  said_refuses v (bad_met j x f) = others x ∙ stop _ ((met_some x v).1 (j, f, refl))
  said_refuses v (ceiling_left k x f) = others x ∙ stop _ ((leak_refuses bytes short v).1 (k, f, refl))
  said_refuses v (weights_wrong e x w) = others x ∙ stop _ ((weight_some v).1 (e, w, refl))
  said_refuses v (line_raised k x f) = others x ∙ stop _ ((rise_refuses bytes v).1 (k, f, refl))
  said_refuses v (bad_light j x f) = others x ∙ stop _ ((light_some x v).1 (j, f, refl))
  said_refuses v (no_space x l) = others x ∙ (space_some v).1 (λ z. omega arith, refl)

answer_iff : (c : Check) (v : Verdict) → Refuses c → ((answer c ≡ v) × (v ≡ Safe → ⊥)) ↔ (c ≡ some v)
unfolding answer
answer_iff none v r = (λ h. absurd (h.1 (sym h.0)), λ h. absurd (none-ne-some v h))
answer_iff (some w) v r = (λ h. ap some h.0, λ h. (some-injective w v h, λ e. r (h ∙ ap some e)))

-- The table is exact
pub refused_exactly : RefusedExactly
unfolding verdict_within
refused_exactly most bytes lent short v =
    Iff.trans (answer_iff (check most bytes lent) v (check_refuses most bytes lent)) (refuses_as_said most bytes short lent v, said_refuses most bytes short lent v)

-- The verdict is what is said of it: safe of a sound message, or a line of the table
pub verdict_exactly : VerdictExactly
verdict_exactly most bytes lent short v = (said, given v)
  where
    given : (w : Verdict) → Said most bytes lent w → verdict_within most bytes lent ≡ w
    given w (of_sound x) = (safe_exactly most bytes lent short).1 x
    given w (of_refused u x) = ((refused_exactly most bytes lent short u).1 x).0

    said : verdict_within most bytes lent ≡ v → Said most bytes lent v
    said h =
        by_option (check most bytes lent)
        (λ e. let safe = (verdict_safe most bytes lent).1 e in subst (Said most bytes lent) (sym safe ∙ h) (of_sound ((safe_exactly most bytes lent short).0 safe)))
        (λ w e. of_refused v ((refused_exactly most bytes lent short v).0 (h, λ q. none-ne-some w (sym ((verdict_safe most bytes lent).0 (h ∙ q)) ∙ e))))
