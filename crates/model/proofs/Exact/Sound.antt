-- The verdict is safe exactly where the message is sound, once the tests of the ceilings (refusals 11 to 13) and of the weights (17 and 18) are known
-- to be exact.
use Prim.Native.Nat.{ℕ, zero, suc, ◌*◌, ◌≤◌}
use native.Mathlib.Decide.{ℕ_discrete}
use native.Mathlib.Omega.{arith}
use mathlib.Core.Path.{◌≡◌, refl, sym, ◌∙◌}
use mathlib.Core.Bool.{true, false}
use mathlib.Core.Logic.Iff
use mathlib.Core.Logic.{◌↔◌}
use mathlib.Core.List.{List}
use mathlib.Core.Option.{none}
use lib.ListN.{length, replicate}
use lib.Dec.{eqb}
use borrow.Author.Tests.{eqb-true, eq-eqb, ne_eqb}
use Rattle.model.specs.declared.Sizes.{Sizes}
use Rattle.model.specs.declared.Verdict.TheVariants.{Counters}
use Rattle.model.specs.Limits.{Limits}
use Rattle.model.specs.Words.{words, Columns, columns}
use Rattle.model.specs.Verdict.{Check, ◌>>◌}
use Rattle.model.specs.Message.{sizes, end_of}
use Rattle.model.specs.Reader.{Grammar, read, complete, first_wrong_of}
use Rattle.model.specs.Rows.{Program, program}
use Rattle.model.specs.Tables.{Tables, tables}
use Rattle.model.specs.Wanted.{Closed}
use Rattle.model.specs.Counters.{counter_count, counter_check_of}
use Rattle.model.specs.Rules.{rules}
use Rattle.model.specs.Listing.{system_words, space_check}
use Rattle.model.specs.Ceilings.{from_counter, ceiling_entries, ceiling_step, ceilings_ahead, ceilings_of, ceiling_check_of, start_check_of, met_check_of, leak_check_of}
use Rattle.model.specs.Weights.{weight_entries, weight_step, lines_ahead, lines_of, weight_check_of, rise_check_of, light_check_of}
use Rattle.model.specs.Verify.{Message, message, evidence_check, ceilings_check, weights_check, bounds_check, message_check, check}
use Rattle.model.specs.Demands.{Bytes, WithinLimits, WellFormed, InForm, MailsNoFunction, ByWeights, Inductive, Weighed, Evidence, SafeExactly}
use Rattle.model.proofs.Logic.{test, true_false, not_zero}
use Rattle.model.proofs.Exact.Tests.{leb_iff}
use Rattle.model.proofs.Exact.Checks.{then_none, then_iff, unless_iff}
use Rattle.model.proofs.Numbering.Within.{within_iff}
use Rattle.model.proofs.Exact.Answer.{verdict_safe}
use Rattle.model.proofs.Exact.Parts.{no_ceilings, end_none, no_fifth, parts_none}
use Rattle.model.proofs.Exact.Names.{program_none}
use Rattle.model.proofs.Exact.Entries.{entry_none, mailed_none, bad_none, ceiling_none, weight_none}
use Rattle.model.proofs.Exact.Closed.{open_none}

-- what refusals 1 to 10, 16 and 22 leave
pub record Formed (most : Limits) (bytes : List ℕ) : Type 0 where
  pub whole : length bytes ≡ 2 * end_of (message bytes).sizes
  pub limits : WithinLimits most (message bytes).sizes
  pub program : WellFormed (message bytes).program
  pub form : InForm (message bytes)
  pub closed : Closed (message bytes).program (message bytes).tables
  pub mailed : MailsNoFunction (message bytes).program (message bytes).tables
  pub counters : counter_count (message bytes).program (message bytes).tables ≤ most.counters

-- refusals 11 to 13
abbrev pub tests_of_ceilings : Message → Check
tests_of_ceilings m =
    start_check_of m.sizes m.program m.tables m.ceilings >>
    (met_check_of m.sizes m.program m.tables m.ceilings m.bads >>
    leak_check_of m.words m.sizes m.ceilings (rules m.program m.tables))

-- refusals 17 and 18
abbrev pub tests_of_weights : Message → Check
tests_of_weights m =
    rise_check_of m.words m.sizes m.lines (rules m.program m.tables) >>
    light_check_of m.sizes m.program m.tables m.lines m.bads

abbrev pub tests_of : Message → Check
tests_of m = elim (eqb m.sizes.lines 0) [ true ↦ tests_of_ceilings m | false ↦ tests_of_weights m ]

abbrev pub CeilingsExactly : Type 0
CeilingsExactly = (most : Limits) (bytes : List ℕ) → Bytes bytes → Formed most bytes → (tests_of_ceilings (message bytes) ≡ none) ↔ Inductive (message bytes)

abbrev pub WeightsExactly : Type 0
WeightsExactly = (most : Limits) (bytes : List ℕ) → Bytes bytes → Formed most bytes → ByWeights (message bytes) → (tests_of_weights (message bytes) ≡ none) ↔ Weighed (message bytes)

-- refusal 10 or 16
abbrev form_of : Message → Check
form_of m = elim (eqb m.sizes.lines 0) [
  | true ↦ ceiling_check_of m.words m.sizes (counter_count m.program m.tables)
  | false ↦ weight_check_of m.words m.sizes (counter_count m.program m.tables)
]

bounds_are : (m : Message) → bounds_check m ≡ (form_of m >> tests_of m)
unfolding bounds_check ceilings_check weights_check
bounds_are m =
    test (eqb m.sizes.lines 0)
    (λ e. rw (e, bounds_check, form_of, tests_of))
    (λ e. rw (e, bounds_check, form_of, tests_of))

-- no entries are in form where nothing is to come
empty_form : {Item : Type 0} (step : Grammar Item) (rows : Columns) (n : ℕ) (item : Item) → rows.size ≡ 0 → n ≡ 0 → first_wrong_of step rows (replicate n item) ≡ none
unfolding first_wrong_of complete read
empty_form step rows zero item h z = rw (h, first_wrong_of)
empty_form step rows (suc n) item h z = absurd (omega arith)

-- the form of both parts
module _ (bytes : List ℕ) where
  abbrev m : Message
  m = message bytes

  abbrev CeilingsForm : Type 0
  CeilingsForm = first_wrong_of (ceiling_step m.ceilings.counters) (ceiling_entries m.words m.sizes) (ceilings_ahead m.sizes.ceilings) ≡ none

  abbrev WeightsForm : Type 0
  WeightsForm = first_wrong_of (weight_step m.lines.counters) (weight_entries m.words m.sizes) (lines_ahead m.sizes.lines) ≡ none

  no_weights_form : length bytes ≡ 2 * end_of m.sizes → m.sizes.lines ≡ 0 → WeightsForm
  unfolding message weight_entries columns
  no_weights_form whole h =
      let (l, w) = no_fifth bytes (omega (arith, whole, end_none m.sizes h)) in
      empty_form (weight_step m.lines.counters) (weight_entries m.words m.sizes) m.sizes.lines (from_counter 0) w h

  no_ceilings_form : 1 ≤ m.sizes.lines → CeilingsForm
  unfolding message ceiling_entries columns
  no_ceilings_form h =
      let (k, e) = no_ceilings (words bytes) h in
      empty_form (ceiling_step m.ceilings.counters) (ceiling_entries m.words m.sizes) m.sizes.ceilings (from_counter 0) e k

  pub forms : length bytes ≡ 2 * end_of m.sizes → (form_of m ≡ none) ↔ (CeilingsForm × WeightsForm)
  unfolding message ceilings_of lines_of
  forms whole =
      test (eqb m.sizes.lines 0)
      (λ b. let z = eqb-true m.sizes.lines 0 b in (
        λ h. ((ceiling_none m.words m.sizes (counter_count m.program m.tables)).0 (rw (b, form_of) at h), no_weights_form whole z),
        λ h. rw (b, form_of) ((ceiling_none m.words m.sizes (counter_count m.program m.tables)).1 h.0),
      ))
      (λ b. let z : 1 ≤ m.sizes.lines = not_zero m.sizes.lines b in (
        λ h. (no_ceilings_form z, (weight_none m.words m.sizes (counter_count m.program m.tables)).0 (rw (b, form_of) at h)),
        λ h. rw (b, form_of) ((weight_none m.words m.sizes (counter_count m.program m.tables)).1 h.1),
      ))

-- Nothing is refused where the message is formed, the tests of the ceilings or of the weights pass, and the system fits
pub check_none : (most : Limits) (bytes : List ℕ) (lent : ℕ) → (check most bytes lent ≡ none) ↔ (Formed most bytes × ((tests_of (message bytes) ≡ none) × (length (system_words (message bytes).program (message bytes).tables) ≤ lent)))
unfolding check message_check evidence_check counter_check_of space_check message ceilings_of lines_of
check_none most bytes lent =
    Iff.trans
    (then_iff _ _ (parts_none most bytes)
    (then_iff _ _ (program_none p)
    (then_iff _ _
    (then_iff _ _ (bad_none ws s p)
    (then_iff _ _ (entry_none s p t)
    (then_iff _ _ (open_none ws s t)
    (then_iff _ _ (mailed_none s p t) (unless_iff _ _ (within_iff p t most.counters))))))
    (then_iff _ _ (Iff.trans (λ h. sym (bounds_are (message bytes)) ∙ h, λ h. bounds_are (message bytes) ∙ h) (then_none (form_of (message bytes)) (tests_of (message bytes))))
    (unless_iff _ _ (leb_iff (length (system_words p t)) lent)))))) (
      λ h. let ((whole, limits), (well, ((bads, ((flow, (mail, states)), (closed, (mailed, counters)))), ((in_form, tests), space)))) = h in
          let (ceilings, weights) = (forms bytes whole).0 in_form in (
            record {
              whole = whole;
              limits = limits;
              program = well;
              form = record { bads = bads; flow = flow; mail = mail; states = states; ceilings = ceilings; weights = weights };
              closed = closed;
              mailed = mailed;
              counters = counters;
            },
            (tests, space),
          ),
      λ h. let (k, (tests, space)) = h in
          let f = k.form in (
            (k.whole, k.limits),
            (k.program, ((f.bads, ((f.flow, (f.mail, f.states)), (k.closed, (k.mailed, k.counters)))), (((forms bytes k.whole).1 (f.ceilings, f.weights), tests), space))),
          ),
    )
  where
    ws : List ℕ
    ws = words bytes

    s : Sizes
    s = sizes ws

    p : Program
    p = program ws s

    t : Tables
    t = tables ws s

-- the tests say what the evidence says
evidence_iff : CeilingsExactly → WeightsExactly → (most : Limits) (bytes : List ℕ) → Bytes bytes → Formed most bytes → (tests_of (message bytes) ≡ none) ↔ Evidence (message bytes)
evidence_iff ceilings weights most bytes b k =
    test (eqb (message bytes).sizes.lines 0)
    (λ e. let z = eqb-true (message bytes).sizes.lines 0 e in (
      λ h. record { bounded = λ y. (ceilings most bytes b k).0 (rw (e, tests_of) at h); weighed = λ y. absurd (omega arith) },
      λ h. rw (e, tests_of) ((ceilings most bytes b k).1 (h.bounded z)),
    ))
    (λ e. let z : 1 ≤ (message bytes).sizes.lines = not_zero (message bytes).sizes.lines e in (
      λ h. record { bounded = λ y. absurd (omega arith); weighed = λ y. (weights most bytes b k y).0 (rw (e, tests_of) at h) },
      λ h. rw (e, tests_of) ((weights most bytes b k z).1 (h.weighed z)),
    ))

-- Demand 2, first half
pub safe_exactly : CeilingsExactly → WeightsExactly → SafeExactly
safe_exactly ceilings weights most bytes lent b =
    Iff.trans (verdict_safe most bytes lent)
    (Iff.trans (check_none most bytes lent) (
      λ h. let (k, (tests, space)) = h in
          record {
            whole = k.whole;
            limits = k.limits;
            program = k.program;
            form = k.form;
            closed = k.closed;
            mailed = k.mailed;
            counters = k.counters;
            evidence = (evidence_iff ceilings weights most bytes b k).0 tests;
            space = space;
          },
      λ h. let k : Formed most bytes = record { whole = h.whole; limits = h.limits; program = h.program; form = h.form; closed = h.closed; mailed = h.mailed; counters = h.counters } in
          (k, ((evidence_iff ceilings weights most bytes b k).1 h.evidence, h.space)),
    ))
