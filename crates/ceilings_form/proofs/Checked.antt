-- The first wrong entry as the answer of a check; that of the ceilings, refusal 10.
use Prim.Native.Nat.{ℕ, ◌+◌, ◌^◌, ◌≤◌, ◌<◌}
use native.Mathlib.Omega.{arith}
use mathlib.Core.Path.{◌≡◌, refl, sym, ◌∙◌, ap}
use mathlib.Core.List.{List}
use mathlib.Core.Option.{some, none, map, some-injective, none-ne-some}
use mathlib.Core.Option as math
use Rattle.std.proofs.Common.{Option, Some, None, Ok, Err}
use lib.ListN.{get_or}
use lib.Dec.{eqb}
use native.Mathlib.Decide.{dec_lt}
use Rattle.model.specs.Limits.{present, omega_limit}
use Rattle.model.specs.declared.Sizes.{Sizes}
use Rattle.model.specs.Words.{Columns, right, columns}
use Rattle.model.specs.Message.{ceilings_offset}
use Rattle.model.specs.Ceilings.{ceiling_entries, ceiling_step, ceilings_ahead, ceiling_check_of}
use Rattle.program.proofs.Columns.{part_at, part_past}
use Rattle.model.specs.declared.Verdict.{Verdict}
use Rattle.model.specs.declared.Verdict.TheVariants.{Ceiling}
use Rattle.model.specs.Reader.{Grammar, Read, past, wrong, complete, first_wrong_of}
use Rattle.model.specs.Verify.{outcome}
use Rattle.model.specs.Demands.{WithinLimits}
use Rattle.model.proofs.Logic.{test}
use Rattle.model.proofs.Reader.{read_range, read_wrong_range}
use Rattle.ceilings_form.specs.declared.entries.Part.{Part}
use Rattle.ceilings_form.specs.Parts.{told, part_entries, ceilings_part_of}
use Rattle.model.specs.Weights.{bound_step}
use Rattle.ceilings_form.proofs.Reading.{begins_low}
use Rattle.ceilings_form.proofs.Agreeing.{first_wrong_same, as_ceilings}
use Rattle.ceilings_form.proofs.Ceilings.{part_of}

module _ (place : ℕ → Verdict) (wrong : math.Option ℕ) (f : Option ℕ) (h : told f ≡ wrong) where
  -- what a check finds that is refused at its first wrong entry
  pub passed : f ≡ None → Ok tt ≡ outcome (map place wrong)
  unfolding told outcome
  passed e = let z : wrong ≡ none = sym h ∙ ap told e in rw z

  pub refused : (e : ℕ) → f ≡ Some e → Err (place e) ≡ outcome (map place wrong)
  unfolding told outcome
  refused e q = let z : wrong ≡ some e = sym h ∙ ap told q in rw z

complete_low : (size n q : ℕ) (r : Read) → ((i : ℕ) → r ≡ past i → i ≤ n) → ((i : ℕ) → r ≡ wrong i → i ≤ n) → complete size r ≡ some q → q ≤ n
unfolding complete
complete_low size n q (past i) a b h =
    test (eqb i size) (λ e. absurd (none-ne-some q (rw (e, complete) at h)))
    (λ e. let z = some-injective i q (rw (e, complete) at h) in omega (arith, a i refl))
complete_low size n q (wrong i) a b h = let z = some-injective i q h in omega (arith, b i refl)

-- the first wrong entry is one of the entries, or the end
pub first_wrong_low : {Item : Type 0} (step : Grammar Item) (rows : Columns) (items : List Item) (q : ℕ) → first_wrong_of step rows items ≡ some q → q ≤ rows.size
unfolding first_wrong_of
first_wrong_low step rows items q h =
    complete_low rows.size rows.size q _
    (λ i e. let (a, b) = read_range step rows rows.size 0 i items e in omega arith)
    (λ i e. let (a, b) = read_wrong_range step rows rows.size 0 i items e in omega arith) h

-- ... so its place is a number that can be told
pub wrong_low : {Item : Type 0} (step : Grammar Item) (rows : Columns) (items : List Item) (f : Option ℕ) (e : ℕ) → told f ≡ first_wrong_of step rows items → f ≡ Some e → e ≤ rows.size
unfolding told
wrong_low step rows items f e h q = first_wrong_low step rows items e (sym h ∙ ap told q)

-- no number of a part is above the largest word
pub right_small : (ws : List ℕ) (most n at at' : ℕ) → ((i : ℕ) → get_or ws i 0 ≤ most) → (e : ℕ) → right (columns ws n at at') e ≤ most
unfolding right columns
right_small ws most n at at' small e = elim (dec_lt e n) [
  | yes b ↦ omega (arith, part_at ws n at' e b, small (at' + e))
  | no b ↦ omega (arith, part_past ws n at' e (omega arith))
]

module _ (ws : List ℕ) (s : Sizes) (n : ℕ) (part : Part) (f : Option ℕ) (words : (i : ℕ) → get_or ws i 0 ≤ omega_limit) (here : part ≡ ceilings_part_of s) (h : told f ≡ first_wrong_of (bound_step n omega_limit) (part_entries ws part) (ceilings_ahead s.ceilings)) where
  by_ceilings : told f ≡ first_wrong_of (ceiling_step n) (ceiling_entries ws s) (ceilings_ahead s.ceilings)
  unfolding ceiling_entries
  by_ceilings =
      let z : told f ≡ first_wrong_of (bound_step n omega_limit) (ceiling_entries ws s) (ceilings_ahead s.ceilings) = rw (here, part_of ws s) at h in
      z ∙ first_wrong_same (bound_step n omega_limit) (ceiling_step n) (ceiling_entries ws s)
      (as_ceilings n omega_limit (ceiling_entries ws s) (right_small ws omega_limit s.entries (ceilings_offset s + 2) (ceilings_offset s + 2 + s.entries) words)) (ceilings_ahead s.ceilings)

  pub ceilings_pass : f ≡ None → Ok tt ≡ outcome (ceiling_check_of ws s n)
  unfolding ceiling_check_of
  ceilings_pass e = passed (λ i. Ceiling (ceilings_offset s + 2 + i)) _ f by_ceilings e

  pub ceiling_wrong : (e : ℕ) → f ≡ Some e → Err (Ceiling (part.at + e)) ≡ outcome (ceiling_check_of ws s n)
  unfolding ceiling_check_of ceilings_part_of
  ceiling_wrong e q = rw here (refused (λ i. Ceiling (ceilings_offset s + 2 + i)) _ f by_ceilings e q)

  -- the place stands low among the numbers
  pub place_low : WithinLimits present s → (e : ℕ) → f ≡ Some e → part.at + e < 2 ^ 32
  unfolding ceilings_part_of part_entries columns
  place_low limits e q =
      let a : part.at ≡ ceilings_offset s + 2 = ap (λ (k : Part). k.at) here in
      let b : part.size ≡ s.entries = ap (λ (k : Part). k.size) here in
      omega (arith, a, b, wrong_low (bound_step n omega_limit) (part_entries ws part) (ceilings_ahead s.ceilings) f e h q, begins_low s limits)
