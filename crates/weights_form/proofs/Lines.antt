-- Lines of weights read as ceilings: the part, the answer of refusal 16, and where each line begins.
use Prim.Native.Nat.{ℕ, ◌+◌, ◌^◌, ◌≤◌, ◌<◌}
use native.Mathlib.Decide.{dec_lt}
use native.Mathlib.Omega.{arith}
use mathlib.Core.Path.{◌≡◌, refl, sym, ◌∙◌, ap}
use mathlib.Core.List.{List}
use Rattle.std.proofs.Common.{Option, Some, None, Ok, Err}
use Rattle.model.specs.Limits.{present, max_weight}
use Rattle.model.specs.declared.Sizes.{Sizes}
use Rattle.model.specs.declared.Verdict.TheVariants.{Weights}
use Rattle.model.specs.Words.{left, right, columns}
use Rattle.model.specs.Message.{ceilings_offset, weights_offset}
use Rattle.model.specs.Reader.{first_wrong_of}
use Rattle.model.specs.Ceilings.{Ahead, ceiling_step, ceilings_ahead, ceiling_entry}
use Rattle.model.specs.Weights.{weight_entries, weight_step, weight_check_of, line_entry}
use Rattle.model.specs.Verify.{outcome}
use Rattle.model.specs.Demands.{WithinLimits}
use Rattle.model.proofs.Exact.Parts.{end_some}
use Rattle.model.proofs.Weighed.Form.{entry_small}
use Rattle.program.proofs.Columns.{part_past}
use Rattle.ceilings_form.specs.declared.entries.Part.{Part}
use Rattle.ceilings_form.specs.Parts.{Whole, part_entries, PartHeld, told}
use Rattle.ceilings_form.specs.Limits.{FormOf}
use Rattle.ceilings_form.proofs.Agreeing.{after_same, first_wrong_same, as_ceilings}
use Rattle.ceilings_form.proofs.Checked.{passed, refused, wrong_low}
use Rattle.weights_form.specs.Form.{weights_part_of, WeightsInForm}

-- the part of the weights
pub part_of : (ws : List ℕ) (s : Sizes) → part_entries ws (weights_part_of s) ≡ weight_entries ws s
unfolding part_entries weights_part_of weight_entries
part_of ws s = refl

pub part_in : (ws : List ℕ) (s : Sizes) → Whole ws s → 1 ≤ s.lines → PartHeld ws (weights_part_of s)
unfolding weights_part_of
part_in ws s whole some-line = record { room = omega (arith, end_some s some-line, whole.held); few = whole.limits.weights }

pub entries_size : (ws : List ℕ) (s : Sizes) → (weight_entries ws s).size ≡ s.weights
unfolding weight_entries columns
entries_size ws s = refl

-- the part of weights stands low among the numbers
pub begins_low : (s : Sizes) → WithinLimits present s → weights_offset s + 2 + s.weights < 2 ^ 32
unfolding weights_offset ceilings_offset
begins_low s h = omega arith

module _ (ws : List ℕ) (s : Sizes) (n : ℕ) where
  module _ (part : Part) (f : Option ℕ) (here : part ≡ weights_part_of s) (h : told f ≡ first_wrong_of (weight_step n) (part_entries ws part) (ceilings_ahead s.lines)) where
    by_weights : told f ≡ first_wrong_of (weight_step n) (weight_entries ws s) (ceilings_ahead s.lines)
    by_weights = rw (here, part_of ws s) at h

    pub weights_pass : f ≡ None → Ok tt ≡ outcome (weight_check_of ws s n)
    unfolding weight_check_of
    weights_pass e = passed (λ i. Weights (weights_offset s + 2 + i)) _ f by_weights e

    pub weight_wrong : (e : ℕ) → f ≡ Some e → Err (Weights (part.at + e)) ≡ outcome (weight_check_of ws s n)
    unfolding weight_check_of weights_part_of
    weight_wrong e q = rw here (refused (λ i. Weights (weights_offset s + 2 + i)) _ f by_weights e q)

    pub place_low : WithinLimits present s → (e : ℕ) → f ≡ Some e → part.at + e < 2 ^ 32
    unfolding weights_part_of weight_entries columns
    place_low limits e q =
        let a : part.at ≡ weights_offset s + 2 = ap (λ (k : Part). k.at) here in
        omega (arith, a, wrong_low (weight_step n) (weight_entries ws s) (ceilings_ahead s.lines) f e by_weights q, begins_low s limits)

  past_small : (e : ℕ) → s.weights ≤ e → right (weight_entries ws s) e ≤ max_weight
  unfolding right weight_entries columns
  past_small e b = omega (arith, part_past ws s.weights (weights_offset s + 2 + s.weights) e b)

  -- lines in form are ceilings in form, and begin where these begin
  module _ (form : WeightsInForm ws s n) where
    number_small : (e : ℕ) → right (weight_entries ws s) e ≤ max_weight
    number_small e = elim (dec_lt e s.weights) [
      | yes b ↦ entry_small n max_weight (weight_entries ws s) _ form e (omega (arith, entries_size ws s))
      | no b ↦ past_small e (omega arith)
    ]

    as_ceiling : (ahead : Ahead) (e : ℕ) → weight_step n ahead (left (weight_entries ws s) e) (right (weight_entries ws s) e) ≡ ceiling_step n ahead (left (weight_entries ws s) e) (right (weight_entries ws s) e)
    as_ceiling ahead e = as_ceilings n max_weight (weight_entries ws s) number_small ahead e

    pub form_of : FormOf n (weight_entries ws s) s.lines
    form_of = sym (first_wrong_same (weight_step n) (ceiling_step n) (weight_entries ws s) as_ceiling (ceilings_ahead s.lines)) ∙ form

    pub line_begins : (k : ℕ) → line_entry n (weight_entries ws s) k ≡ ceiling_entry n (weight_entries ws s) k
    unfolding line_entry ceiling_entry
    line_begins k = after_same (weight_step n) (ceiling_step n) (weight_entries ws s) as_ceiling (ceilings_ahead k) 0
