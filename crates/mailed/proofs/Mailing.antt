-- Refusal 22 from the first mail entry whose value is a function; 22 and then 9.
use Prim.Native.Nat.{ℕ, ◌+◌, ◌≤◌, ◌<◌}
use native.Mathlib.Omega.{arith}
use mathlib.Core.Path.{◌≡◌, sym, ap, ◌∙◌}
use mathlib.Core.Bool.{Bool, true, false, ◌||◌}
use mathlib.Core.List.{List}
use mathlib.Core.Option.{none}
use lib.ListN.{length}
use lib.Dec.{eqb}
use Rattle.std.proofs.Common.{Result, Ok, Err}
use borrow.Author.Tests.{eq-eqb, ne_eqb}
use Rattle.model.specs.declared.Sizes.{Sizes}
use Rattle.model.specs.declared.Verdict.{Verdict}
use Rattle.model.specs.declared.Verdict.TheVariants.{FunctionMailed}
use Rattle.model.specs.Limits.{present}
use Rattle.model.specs.Words.{columns, right}
use Rattle.model.specs.Verdict.{unless}
use Rattle.model.specs.Message.{tables_offset, ceilings_offset, weights_offset}
use Rattle.model.specs.Rows.{Program, program, tag}
use Rattle.model.specs.Heads.{is_function}
use Rattle.model.specs.Tables.{Tables, entries, tables, mailed_check_of}
use Rattle.model.specs.Counters.{counter_check_of}
use Rattle.model.specs.Verify.{outcome}
use Rattle.model.proofs.Index.{first_hit, first_miss, first_end}
use Rattle.model.proofs.Exact.Checks.{then_none}
use Rattle.model.proofs.Exact.Parts.{end_past}
use Rattle.model.proofs.Exact.Answer.{Refuses, then_refuses, mailed_refuses, counter_refuses}
use Rattle.model.proofs.Outcome.{stops_at, goes_on_to}
use Rattle.lists.specs.declared.Span.{Span}
use Rattle.lists.specs.Lists.{span_at, mail_span}
use Rattle.lists.specs.Ready.{Ready}
use Rattle.mailed.specs.Mailed.{does_mail_function, mails_from, mailed_then_counters}

-- v is the value of mail entry i and k its tag, as the code has read them
pub mails_read : (p : Program) (t : Tables) (i v k : ℕ) (b : Bool) → v ≡ right t.mail i → k ≡ tag p v → b ≡ (eqb k 3 || eqb k 11) → b ≡ does_mail_function p t i
mails_read p t i v k b ev ek eb = eb ∙ rw (ek, ev)

-- the loop: of the entries from i on the first is that of all
module _ (ws : List ℕ) (s : Sizes) (i : ℕ) (so_far : mails_from (program ws s) (tables ws s) 0 ≡ mails_from (program ws s) (tables ws s) i) where
  -- b is what the code has found of entry i
  module _ (more : i < s.mails) (b : Bool) (test : b ≡ does_mail_function (program ws s) (tables ws s) i) where
    pub mails_hit : b ≡ true → mails_from (program ws s) (tables ws s) 0 ≡ i
    unfolding mails_from tables entries columns
    mails_hit e = so_far ∙ first_hit i s.mails (does_mail_function (program ws s) (tables ws s)) more (sym test ∙ e)

    pub mails_miss : b ≡ false → mails_from (program ws s) (tables ws s) 0 ≡ mails_from (program ws s) (tables ws s) (i + 1)
    unfolding mails_from tables entries columns
    mails_miss e = so_far ∙ first_miss i s.mails (does_mail_function (program ws s) (tables ws s)) more (sym test ∙ e)

  pub mails_end : s.mails ≤ i → mails_from (program ws s) (tables ws s) 0 ≡ i
  unfolding mails_from tables entries columns
  mails_end h = so_far ∙ first_end i s.mails (does_mail_function (program ws s) (tables ws s)) h

-- the first column of mail lies in the words
pub mail_room : (ws : List ℕ) (s : Sizes) → Ready ws s → (l : Span) → l ≡ mail_span s → l.lefts + s.mails ≤ length ws
unfolding mail_span span_at tables_offset ceilings_offset weights_offset
mail_room ws s ready l e = let w = ready.held in let past = end_past s in let z = ap (λ x. x.lefts) e in omega arith

-- entry i is what the code has found
module _ (ws : List ℕ) (s : Sizes) (i : ℕ) (found : mails_from (program ws s) (tables ws s) 0 ≡ i) where
  pub mailed_refused : (l : Span) → l ≡ mail_span s → i < s.mails → Err (FunctionMailed (l.lefts + i)) ≡ outcome (mailed_check_of s (program ws s) (tables ws s))
  unfolding mailed_check_of mails_from is_function outcome unless tables entries columns mail_span span_at
  mailed_refused l e h =
      let z : l.lefts ≡ tables_offset s + 3 + s.flows = ap (λ x. x.lefts) e in
      rw (found, ne_eqb i s.mails (λ q. omega arith), z)

  pub mailed_passed : i ≡ s.mails → Ok tt ≡ outcome (mailed_check_of s (program ws s) (tables ws s))
  unfolding mailed_check_of mails_from is_function outcome unless tables entries columns
  mailed_passed h = rw (found, eq-eqb i s.mails h)

-- 22 and 9, one after the other
pub then_counters_refuse : (s : Sizes) (p : Program) (t : Tables) → Refuses (mailed_then_counters s p t)
unfolding mailed_then_counters
then_counters_refuse s p t = then_refuses _ _ (mailed_refuses s p t) (counter_refuses present s p t)

pub counters_fit : (s : Sizes) (p : Program) (t : Tables) → mailed_then_counters s p t ≡ none → counter_check_of present s p t ≡ none
unfolding mailed_then_counters
counters_fit s p t h = ((then_none _ _).0 h).1

-- m is what the code has found of 22
module _ (s : Sizes) (p : Program) (t : Tables) (m : Result Unit Verdict) (mailed : m ≡ outcome (mailed_check_of s p t)) where
  pub mailed_told : (v : Verdict) → m ≡ Err v → Err v ≡ outcome (mailed_then_counters s p t)
  unfolding mailed_then_counters
  mailed_told v h = stops_at _ _ m v mailed h

  pub counters_told : (k : Result Unit Verdict) → k ≡ outcome (counter_check_of present s p t) → m ≡ Ok tt → k ≡ outcome (mailed_then_counters s p t)
  unfolding mailed_then_counters
  counters_told k e h = goes_on_to _ _ m k mailed h e
