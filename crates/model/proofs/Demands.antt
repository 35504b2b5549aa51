-- The three demands of specs/Demands.antt, proved.
use Prim.Native.Nat.{ℕ, ◌+◌, ◌*◌, ◌≤◌}
use native.Mathlib.Omega.{arith}
use mathlib.Core.Path.{◌≡◌, refl, sym, ◌∙◌, ap, subst}
use mathlib.Core.List.{List}
use lib.ListN.{length, take, drop, length-take, length-drop}
use lib.Dec.{eqb}
use Rattle.model.specs.declared.Verdict.{Verdict}
use Rattle.model.specs.declared.Verdict.TheVariants.{Safe, Length, Size, Row, Name, Scope, Bad, Entry, Open, Counters, Ceiling, Start, Met, Leak, Space, FunctionMailed, Weights, Rise, Light}
use Rattle.model.specs.Verdict.{number}
use Rattle.model.specs.Message.{sizes, ceilings_offset, weights_offset, end_of}
use Rattle.model.specs.Words.{words, columns}
use Rattle.model.specs.Rows.{size, tag, program}
use Rattle.model.specs.Listing.{listed_rules}
use Rattle.model.specs.Verify.{message, verdict_within, if_safe, lent_after_within, part_handed_within}
use Rattle.model.specs.Demands.{AllRunsFollowed, RefusalChangesNothing, SafeExactly, SystemWritten, RunsStayCounted}
use Rattle.model.proofs.Exact.Tests.{fails_iff, eqb_iff}
use Rattle.model.proofs.Exact.Parts.{words_length, end_past}
use Rattle.model.proofs.Exact.Sound.{CeilingsExactly, WeightsExactly}
use Rattle.model.proofs.Exact.Sound
use Rattle.model.proofs.Parse.Lengths.{ColumnsWhole}
use Rattle.model.proofs.Listed.{listed_system}
use Rattle.model.proofs.Runs.{all_runs_followed}
use Rattle.model.proofs.Rows.{program_end}
use Rattle.model.proofs.Numbering.Counters.{row_head_low}
use Rattle.model.proofs.Bounded.Exact.{message_built, tests_exact}
use Rattle.model.proofs.Weighed.Exact as Weighed

-- number 0 is safe's alone
pub safe_number : (v : Verdict) → number v ≡ 0 → v ≡ Safe
unfolding number
safe_number Safe h = refl
safe_number (Length at) h = absurd (omega (arith, h))
safe_number (Size at) h = absurd (omega (arith, h))
safe_number (Row at) h = absurd (omega (arith, h))
safe_number (Name at) h = absurd (omega (arith, h))
safe_number (Scope at) h = absurd (omega (arith, h))
safe_number (Bad at) h = absurd (omega (arith, h))
safe_number (Entry at) h = absurd (omega (arith, h))
safe_number (Open at) h = absurd (omega (arith, h))
safe_number (Counters at) h = absurd (omega (arith, h))
safe_number (Ceiling at) h = absurd (omega (arith, h))
safe_number (Start at) h = absurd (omega (arith, h))
safe_number (Met at) h = absurd (omega (arith, h))
safe_number (Leak at) h = absurd (omega (arith, h))
safe_number (Space at) h = absurd (omega (arith, h))
safe_number (FunctionMailed at) h = absurd (omega (arith, h))
safe_number (Weights at) h = absurd (omega (arith, h))
safe_number (Rise at) h = absurd (omega (arith, h))
safe_number (Light at) h = absurd (omega (arith, h))

-- what an answer other than safe gives
not_safe : {A : Type 0} (v : Verdict) (a b : A) → (v ≡ Safe → ⊥) → if_safe v a b ≡ b
unfolding if_safe
not_safe v a b h = rw ((fails_iff (eqb (number v) 0) (eqb_iff (number v) 0)).1 (λ z. h (safe_number v z)), if_safe)

-- Demand 1
pub refusal_changes_nothing : RefusalChangesNothing
unfolding lent_after_within part_handed_within
refusal_changes_nothing =
    record {
      lent_unchanged = λ most bytes lent h. not_safe (verdict_within most bytes (length lent)) _ lent h;
      nothing_handed = λ most bytes lent h. ap (λ (n : ℕ). take n bytes) (not_safe (verdict_within most bytes lent) _ 0 h);
    }

-- refusals 11 to 13 are exact
ceilings_exactly : CeilingsExactly
ceilings_exactly most bytes short formed = tests_exact bytes short formed.form.bads

-- refusals 17 and 18 are exact
weights_exactly : WeightsExactly
weights_exactly most bytes short formed weights = Weighed.tests_exact bytes formed.form.bads weights

-- Demand 2
pub safe_exactly : SafeExactly
safe_exactly = Sound.safe_exactly ceilings_exactly weights_exactly

pub system_written : SystemWritten
unfolding lent_after_within if_safe number
system_written most bytes lent safe = rw safe

-- the rows of a message that is whole are as many as its sizes say
column_whole : (ws : List ℕ) (n at : ℕ) → at + n ≤ length ws → length (take n (drop at ws)) ≡ n
column_whole ws n at h = omega (arith, length-take n (drop at ws), length-drop at ws)

pub rows_whole : (bytes : List ℕ) → length bytes ≡ 2 * end_of (message bytes).sizes → ColumnsWhole (message bytes).program
unfolding message program columns weights_offset ceilings_offset
rows_whole bytes h =
    let (a, b) = words_length bytes in
    let past = end_past (message bytes).sizes in
    let n : ℕ = (sizes (words bytes)).rows in
    record { tags = column_whole (words bytes) n 4 (omega arith); numbers = column_whole (words bytes) n (4 + n) (omega arith) }

-- the row past the end has no tag
pub past_the_end : (bytes : List ℕ) → tag (message bytes).program (size (message bytes).program) ≡ 0
unfolding message
past_the_end bytes = program_end (words bytes) (sizes (words bytes)) _ (omega arith)

-- Demand 3
pub runs_stay_counted : RunsStayCounted
runs_stay_counted most bytes lent short safe =
    let m = message bytes in
    let sound = (safe_exactly most bytes (length lent) short).0 safe in
    let w = rows_whole bytes sound.whole in
    subst (AllRunsFollowed m)
    (sym (ap listed_rules (system_written most bytes lent safe) ∙ listed_system m.program m.tables lent))
    (all_runs_followed m sound.program.rows_fit w (past_the_end bytes)
    (row_head_low m.program (message_built bytes sound.program.rows_fit)) sound.closed sound.evidence)
