-- Refusals 11 to 13 are exact: they refuse nothing exactly where the ceilings are an inductive invariant of the system that meets no bad; and what
-- refusals 12 and 13 tell.
use Prim.Native.Nat.{ℕ, ◌+◌, ◌≤◌, ◌<◌}
use native.Mathlib.Omega.{arith}
use mathlib.Core.Path.{◌≡◌, refl}
use mathlib.Core.Bool.{true}
use mathlib.Core.Logic.Iff
use mathlib.Core.Logic.{◌↔◌}
use mathlib.Core.List.{List, Memᴰ}
use mathlib.Core.Option.{some, none}
use lib.ListN.{replicate}
use Rattle.model.specs.declared.Verdict.{Verdict}
use Rattle.model.specs.declared.Verdict.TheVariants.{Met, Leak}
use Rattle.model.specs.Limits.{omega_limit}
use Rattle.model.specs.Words.{words, right}
use Rattle.model.specs.Message.{sizes, bads_offset, ceilings_offset}
use Rattle.model.specs.Reader.{first_wrong_of}
use Rattle.model.specs.Rows.{tag, num}
use Rattle.model.specs.Bads.{bad, bad_step, bad_row_of}
use Rattle.model.specs.Counters.{counter_count}
use Rattle.model.specs.Rules.{Rule, rules}
use Rattle.model.specs.Markings.{Marking, usable, fire}
use Rattle.model.specs.Ceilings.{ceiling_entries, ceiling_entry, ceilings_of, met_check_of, leak_check_of}
use Rattle.model.specs.Verify.{Message, message}
use Rattle.model.specs.Demands.{Bytes, UnderOne, Inductive}
use Rattle.model.specs.Refusals.{FirstSuch, Allowed, Leaks}
use Rattle.model.proofs.Bounded.Words.{short_words, short_minimum, short_limit}
use Rattle.model.proofs.Exact.Checks.{then_iff}
use Rattle.model.proofs.Exact.Sound.{tests_of_ceilings}
use Rattle.model.proofs.Rows.{tag_inside}
use Rattle.model.proofs.Parse.Reached.{RowsFit}
use Rattle.model.proofs.Parse.Lengths.{built_below}
use Rattle.model.proofs.Bounded.Met.{met_check_exact, met_check_refuses}
use Rattle.model.proofs.Bounded.Fire.{Shaped}
use Rattle.model.proofs.Bounded.Shaped.{rules_shaped}
use Rattle.model.proofs.Bounded.Leak.{start_check_exact, leak_check_exact, leak_check_none, leak_check_refuses}

-- the constructor that a row of a message builds, where its rows fit
pub message_built : (bytes : List ℕ) → RowsFit (message bytes).program → (v : ℕ) → tag (message bytes).program v ≡ 2 → num (message bytes).program (v + 1) < (message bytes).program.constructors
unfolding message
message_built bytes fit v t = built_below (message bytes).program fit v (tag_inside (words bytes) (sizes (words bytes)) v (omega arith)) t

module _ (bytes : List ℕ) (short : Bytes bytes) where
  abbrev m : Message
  m = message bytes

  -- a message's ceilings have a limit for each counter
  counters : m.ceilings.counters ≡ counter_count m.program m.tables
  unfolding message ceilings_of
  counters = refl

  limits : (k x : ℕ) → m.ceilings.limit k x ≤ omega_limit
  unfolding message
  limits k x = short_limit (words bytes) (sizes (words bytes)) _ k x (short_words bytes short)

  minimums : (i : ℕ) → right m.bads i ≤ omega_limit
  unfolding message
  minimums i = short_minimum (words bytes) (sizes (words bytes)) i (short_words bytes short)

  -- the bads are in form, as `InForm` says it
  abbrev pub BadsInForm : Type 0
  BadsInForm = first_wrong_of (bad_step m.program) m.bads (replicate m.sizes.bads bad) ≡ none

  pub met_exact : BadsInForm → (met_check_of m.sizes m.program m.tables m.ceilings m.bads ≡ none) ↔ ((j : ℕ) → j < m.sizes.bads → Allowed m j → ⊥)
  met_exact form = met_check_exact m.program m.tables m.ceilings m.bads counters minimums m.sizes form

  pub met_refuses : BadsInForm → (v : Verdict) → (met_check_of m.sizes m.program m.tables m.ceilings m.bads ≡ some v) ↔ ((j : ℕ) × FirstSuch m.sizes.bads (Allowed m) j × (Met (bads_offset m.sizes + 2 + bad_row_of m.program m.bads j) ≡ v))
  met_refuses form = met_check_refuses m.program m.tables m.ceilings m.bads counters minimums m.sizes form

  shaped : (ρ : Rule) → Memᴰ ρ (rules m.program m.tables) → Shaped m.ceilings.counters ρ
  shaped = rw counters (rules_shaped m.program m.tables)

  pub leak_exact : (leak_check_of m.words m.sizes m.ceilings (rules m.program m.tables) ≡ none) ↔ ((counts : Marking) (ρ : Rule) → UnderOne m.ceilings counts → Memᴰ ρ (rules m.program m.tables) → usable ρ counts ≡ true → UnderOne m.ceilings (fire ρ counts))
  leak_exact = leak_check_exact m.ceilings (rules m.program m.tables) limits shaped m.words m.sizes

  pub leak_none : (leak_check_of m.words m.sizes m.ceilings (rules m.program m.tables) ≡ none) ↔ ((k : ℕ) → k < m.ceilings.size → Leaks m.ceilings (rules m.program m.tables) k → ⊥)
  leak_none = leak_check_none m.ceilings (rules m.program m.tables) limits shaped m.words m.sizes

  pub leak_refuses : (v : Verdict) → (leak_check_of m.words m.sizes m.ceilings (rules m.program m.tables) ≡ some v) ↔ ((k : ℕ) × FirstSuch m.ceilings.size (Leaks m.ceilings (rules m.program m.tables)) k × (Leak (ceilings_offset m.sizes + 2 + ceiling_entry m.ceilings.counters (ceiling_entries m.words m.sizes) k) ≡ v))
  leak_refuses = leak_check_refuses m.ceilings (rules m.program m.tables) limits shaped m.words m.sizes

  -- refusals 11 to 13
  pub tests_exact : BadsInForm → (tests_of_ceilings m ≡ none) ↔ Inductive m
  tests_exact form =
      Iff.trans (then_iff _ _ (start_check_exact m.sizes m.program m.tables m.ceilings) (then_iff _ _ (met_exact form) leak_exact)) (
        λ h. let (start, (meets, keeps)) = h in
            record { contain_start = start; kept = keeps; meet_no_bad = λ counts j u b x. meets j b (counts, u, x) },
        λ i. (i.contain_start, (λ j b x. let (counts, u, y) = x in i.meet_no_bad counts j u b y, i.kept)),
      )
