-- The demands, the table of refusals, what is kept of the former gate, that no function is mailed and no bad met, of what the entry gives back.
use Prim.Native.Nat.{ℕ, ◌≤◌}
use native.Mathlib.Omega.{arith}
use mathlib.Core.Path.{◌≡◌, refl, sym, ap, subst, ◌∙◌}
use mathlib.Core.List.{List, [], ◌∷◌}
use lib.ListN.{length}
use Rattle.model.specs.declared.Verdict.{Verdict}
use Rattle.model.specs.declared.Verdict.TheVariants.{Safe, Length, Size, Row, Name, Scope, Bad, Entry, Open, Counters, Ceiling, Start, Met, Leak, Space, FunctionMailed, Weights, Rise, Light}
use Rattle.model.specs.Verdict.{number, place}
use Rattle.model.specs.Limits.{present}
use Rattle.model.specs.Verify.{message, verdict, lent_after, part_handed}
use Rattle.model.specs.Listing.{listed_rules}
use Rattle.model.specs.Demands.{Bytes, AllRunsFollowed}
use Rattle.model.proofs.Demands as demands
use Rattle.model.proofs.Refusals.{refused_exactly}
use Rattle.model.proofs.Longer.{messages_kept, longer_turned_away}
use Rattle.model.proofs.Mailed.{no_function_mailed}
use Rattle.model.proofs.Sums.{no_run_meets_a_bad}
use Rattle.model.proofs.Demands.{safe_number}
use Rattle.verifier.specs.Promises.{RefusalChangesNothing, SafeExactlyWhenSound, SystemIsWritten, RunsAreFollowed, RefusedExactlyByTheTable, AsTheFormerGate, MailboxesHoldNoFunction, RunsMeetNoBad}

safe_zero : (v : Verdict) → v ≡ Safe → number v ≡ 0
unfolding number
safe_zero v h = ap number h

-- The answer is the verdict's number and place; the lent words and the part are those of the definitions.
module _ (bytes lent out part : List ℕ) (told at : ℕ) where
  abbrev v : Verdict
  v = verdict bytes (length lent)

  abbrev Promised : Type 0
  Promised =
      RefusalChangesNothing told lent out part ×
      (SafeExactlyWhenSound told bytes (length lent) ×
      (SystemIsWritten told bytes lent out ×
      (RunsAreFollowed told bytes out ×
      (RefusedExactlyByTheTable told at bytes (length lent) × (AsTheFormerGate told at bytes lent out part × (MailboxesHoldNoFunction told bytes × RunsMeetNoBad told bytes))))))

  module _ (is_number : told ≡ number v) (is_place : at ≡ place v) where
    safe : told ≡ 0 → v ≡ Safe
    safe z = safe_number v (sym is_number ∙ z)

    refused : (told ≡ 0 → ⊥) → v ≡ Safe → ⊥
    refused other s = other (is_number ∙ safe_zero v s)

    module _ (short : Bytes bytes) where
      sound_exactly : SafeExactlyWhenSound told bytes (length lent)
      sound_exactly =
          let sound = demands.safe_exactly present bytes (length lent) short in
          (λ z. sound.0 (safe z), λ s. is_number ∙ safe_zero v (sound.1 s))

      mailboxes : MailboxesHoldNoFunction told bytes
      mailboxes z = no_function_mailed present bytes (length lent) short (safe z)

      meets_none : RunsMeetNoBad told bytes
      meets_none z = no_run_meets_a_bad present bytes (length lent) short (safe z)

      by_the_table : RefusedExactlyByTheTable told at bytes (length lent)
      by_the_table =
          record {
            by_a_line = λ other. (v, (refused_exactly present bytes (length lent) short v).0 (refl, refused other), sym is_number, sym is_place);
            as_each_line = λ w line. let same = sym ((refused_exactly present bytes (length lent) short w).1 line).0 in
                (ap number same ∙ sym is_number, ap place same ∙ sym is_place);
          }

      module _ (words : out ≡ lent_after bytes lent) where
        nothing_changed : part ≡ part_handed bytes (length lent) → RefusalChangesNothing told lent out part
        nothing_changed h other =
            let d = demands.refusal_changes_nothing in
            (words ∙ d.lent_unchanged present bytes lent (refused other), h ∙ d.nothing_handed present bytes (length lent) (refused other))

        system_put : SystemIsWritten told bytes lent out
        system_put z = words ∙ demands.system_written present bytes lent (safe z)

        runs_followed : RunsAreFollowed told bytes out
        runs_followed z =
            subst (λ o. AllRunsFollowed (message bytes) (listed_rules o)) (sym words) (demands.runs_stay_counted present bytes lent short (safe z))

        former_kept : part ≡ part_handed bytes (length lent) → AsTheFormerGate told at bytes lent out part
        former_kept h =
            record {
              kept = λ other. let same = messages_kept bytes lent other in
                  (is_number ∙ same.number, is_place ∙ same.place, h ∙ same.part, words ∙ same.lent_words);
              turned_away = λ z. longer_turned_away bytes (length lent) (safe z);
            }

        pub promised : part ≡ part_handed bytes (length lent) → Promised
        promised h = (nothing_changed h, (sound_exactly, (system_put, (runs_followed, (by_the_table, (former_kept h, (mailboxes, meets_none)))))))

-- two numbers told
pub both : (a b x y : ℕ) → a ≡ x → b ≡ y → ◌≡◌ {A = List ℕ} (a ∷ b ∷ []) (x ∷ y ∷ [])
both a b x y e f = rw (e, f)

-- numbers are small
pub number_most : (v : Verdict) → number v ≤ 22
unfolding number
number_most Safe = omega arith
number_most (Length at) = omega arith
number_most (Size at) = omega arith
number_most (Row at) = omega arith
number_most (Name at) = omega arith
number_most (Scope at) = omega arith
number_most (Bad at) = omega arith
number_most (Entry at) = omega arith
number_most (Open at) = omega arith
number_most (Counters at) = omega arith
number_most (Ceiling at) = omega arith
number_most (Start at) = omega arith
number_most (Met at) = omega arith
number_most (Leak at) = omega arith
number_most (Space at) = omega arith
number_most (FunctionMailed at) = omega arith
number_most (Weights at) = omega arith
number_most (Rise at) = omega arith
number_most (Light at) = omega arith
