-- What a caller has of the entry, said of what it gives back: the verdict's number and place, the three demands, the
-- table of refusals, what a gate of the former limits answers, that no mailbox holds a function and no run meets a bad.
use Rattle.std.specs.Prelude.{ℕ, ◌↔◌, ◌≡◌, List, [], ◌∷◌, length, get_or}
use Rattle.model.specs.Limits.{former, present}
use Rattle.model.specs.declared.Verdict.{Verdict}
use Rattle.model.specs.Verdict.{number, place}
use Rattle.model.specs.Listing.{system_words, written, listed_rules}
use Rattle.model.specs.Verify.{message, verdict, verdict_within, lent_after_within, part_handed_within}
use Rattle.model.specs.Demands.{Sound, AllRunsFollowed}
use Rattle.model.specs.Refusals.{Refused}
use Rattle.model.specs.Longer.{ByLimit, Passes}
use Rattle.model.specs.Mailed.{NoMailboxHoldsFunction}
use Rattle.model.specs.Sums.{MeetsNoBad}

-- An answer is two numbers: the verdict's, and its place.
abbrev pub answer_to : List ℕ → ℕ → List ℕ
answer_to bytes lent = number (verdict bytes lent) ∷ place (verdict bytes lent) ∷ []

abbrev pub number_in : List ℕ → ℕ
number_in answer = get_or answer 0 0

abbrev pub place_in : List ℕ → ℕ
place_in answer = get_or answer 1 0

-- Demand 1: a refusal leaves the lent words as they came and hands on nothing.
abbrev pub RefusalChangesNothing : ℕ → List ℕ → List ℕ → List ℕ → Type 0
RefusalChangesNothing told before after part = (told ≡ 0 → ⊥) → (after ≡ before) × (part ≡ [])

-- Demand 2: safe exactly when the message is sound; the system written is then the one that the analysis defines.
abbrev pub SafeExactlyWhenSound : ℕ → List ℕ → ℕ → Type 0
SafeExactlyWhenSound told bytes lent = (told ≡ 0) ↔ Sound present bytes lent

abbrev pub SystemIsWritten : ℕ → List ℕ → List ℕ → List ℕ → Type 0
SystemIsWritten told bytes before after =
    told ≡ 0 → after ≡ written (system_words (message bytes).program (message bytes).tables) before

-- Demand 3: after safe, every run of the station has its run of the counters, by rules of the words written.
abbrev pub RunsAreFollowed : ℕ → List ℕ → List ℕ → Type 0
RunsAreFollowed told bytes after = told ≡ 0 → AllRunsFollowed (message bytes) (listed_rules after)

-- The table of refusals: a number other than 0 and its place are those of a line that holds, and each line that holds
-- has them.
pub record RefusedExactlyByTheTable (told at : ℕ) (bytes : List ℕ) (lent : ℕ) : Type 0 where
  pub by_a_line :
      (told ≡ 0 → ⊥) → (v : Verdict) × Refused present bytes lent v × (number v ≡ told) × (place v ≡ at)
  pub as_each_line : (v : Verdict) → Refused present bytes lent v → (number v ≡ told) × (place v ≡ at)

-- Document 02, (vi), for whoever has messages on file: where a gate of the former limits, handed the same bytes and
-- lent words, does not say 2 or 9, it says and leaves what this one does; and of the messages that are safe here it
-- turns away, with 2 or 9, exactly those of which R, S or the counters pass a limit of its own.
pub record AsTheFormerGate (told at : ℕ) (bytes before after part : List ℕ) : Type 0 where
  pub kept :
      (ByLimit (verdict_within former bytes (length before)) → ⊥) →
      (told ≡ number (verdict_within former bytes (length before))) ×
      (at ≡ place (verdict_within former bytes (length before))) ×
      (part ≡ part_handed_within former bytes (length before)) × (after ≡ lent_after_within former bytes before)
  pub turned_away :
      told ≡ 0 → Passes former (message bytes) ↔ ByLimit (verdict_within former bytes (length before))

-- Document 02, (x): after safe, in no run, after no number of any list, does a mailbox directly hold a function.
abbrev pub MailboxesHoldNoFunction : ℕ → List ℕ → Type 0
MailboxesHoldNoFunction told bytes = told ≡ 0 → NoMailboxHoldsFunction (message bytes).program

-- Document 02, (iv): after safe, in no run, after no number of any list, is a bad met as document 01 counts it in the
-- station, by class and place, whatever the processes return to.
abbrev pub RunsMeetNoBad : ℕ → List ℕ → Type 0
RunsMeetNoBad told bytes = told ≡ 0 → MeetsNoBad (message bytes)
