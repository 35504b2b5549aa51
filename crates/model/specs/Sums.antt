-- Document 02, (iv), "States know their return", and (viii), "Letters two deep": what is promised of counts, as types.
-- Those per class and place are the sums of those per triple, and those per class and constructor the sums of those per
-- letter, in the station and in the counters; so a bad says what it said.
use Rattle.std.specs.Prelude.{ℕ, zero, suc, ◌+◌, ◌<◌, ◌≡◌, true, false, ◌&&◌, List, [], ◌∷◌, eqb}
use Rattle.model.specs.declared.Verdict.TheVariants.{Safe}
use Rattle.model.specs.Limits.{Limits}
use Rattle.model.specs.Index.{total}
use Rattle.model.specs.Rows.{Program, size}
use Rattle.model.specs.Values.{Value, Processes}
use Rattle.model.specs.Run.{run}
use Rattle.model.specs.Tables.{state}
use Rattle.model.specs.Letters.{head_count, value_head, Letter, one_if, processes_at, messages_of}
use Rattle.model.specs.Bads.{letter_arity_of, Subject, at_head, of_letters, of_letter}
use Rattle.model.specs.Met.{AllMet}
use Rattle.model.specs.Counters.{state_of, letter_of}
use Rattle.model.specs.Markings.{Marking, count_in, sum_in}
use Rattle.model.specs.Verify.{Message, message, verdict_within}
use Rattle.model.specs.Demands.{Bytes, EqualCounts}

-- document 01: "A process counts under its class and place, ended and stopped ones too", wherever it returns to
unfoldable pub processes_in : Processes → ℕ → ℕ → ℕ
processes_in [] c r = 0
processes_in (q ∷ qs) c r = one_if (eqb q.class c && eqb q.location r) + processes_in qs c r

-- document 01: a message counts "under its letter", which was a constructor's number, C or C+1, "and the class of the
-- process whose mailbox holds it"
unfoldable pub numbers_in : Program → List Value → ℕ → ℕ
numbers_in p [] k = 0
numbers_in p (v ∷ vs) k = one_if (eqb (value_head p v) k) + numbers_in p vs k

unfoldable pub messages_in : Program → Processes → ℕ → ℕ → ℕ
messages_in p [] c k = 0
messages_in p (q ∷ qs) c k =
    elim (eqb q.class c) [ true ↦ numbers_in p q.mailbox k | false ↦ 0 ] + messages_in p qs c k

-- what an item of a bad counts in a station
unfoldable pub counted_in : Program → Processes → Subject → ℕ
counted_in p qs (at_head c r) = processes_in qs c r
counted_in p qs (of_letters c k) = messages_in p qs c k
counted_in p qs (of_letter c l) = messages_of p qs c l

-- "the sum over the third column": a third number is a row or R
unfoldable pub over_returns : Program → (ℕ → ℕ) → ℕ
over_returns p f = total 0 (size p + 1) f

-- the sum over a heads, each from 0 to C + 1
unfoldable pub over_heads : Program → ℕ → (List ℕ → ℕ) → ℕ
over_heads p zero f = f []
over_heads p (suc a) f = total 0 (head_count p) (λ h. over_heads p a (λ hs. f (h ∷ hs)))

-- "the sum": over the letters of a number
unfoldable pub over_letters : Program → ℕ → (Letter → ℕ) → ℕ
over_letters p k f = over_heads p (letter_arity_of p k) (λ hs. f (k ∷ hs))

-- of a station and of counters whose counts are equal
pub record Sums (m : Message) (qs : Processes) (counts : Marking) : Type 0 where
  pub in_station : (c r : ℕ) →
      processes_in qs c r ≡ over_returns m.program (λ b. processes_at m.program qs (state c r b))
  pub in_counters : (c r : ℕ) →
      sum_in m.program m.tables counts (at_head c r) ≡
      over_returns m.program (λ b. count_in m.program m.tables counts (state_of (state c r b)))
  pub letters_in_station : (c k : ℕ) →
      messages_in m.program qs c k ≡ over_letters m.program k (λ l. messages_of m.program qs c l)
  pub letters_in_counters : (c k : ℕ) →
      sum_in m.program m.tables counts (of_letters c k) ≡
      over_letters m.program k (λ l. count_in m.program m.tables counts (letter_of c l))
  pub alike : (k : Subject) → counted_in m.program qs k ≡ sum_in m.program m.tables counts k

abbrev pub CountsAreSums : Type 0
CountsAreSums =
    (most : Limits) (bytes : List ℕ) (lent : ℕ) → Bytes bytes → verdict_within most bytes lent ≡ Safe →
    (numbers : List ℕ) (counts : Marking) → EqualCounts (message bytes) (run (message bytes).program numbers) counts →
    Sums (message bytes) (run (message bytes).program numbers) counts

-- in no run, after no number of any list, is a bad met, as document 01 counts it in the station: by class and place,
-- and by class and constructor where its letter has no heads
abbrev pub MeetsNoBad : Message → Type 0
MeetsNoBad m =
    (numbers : List ℕ) (j : ℕ) → j < m.sizes.bads →
    AllMet (counted_in m.program (run m.program numbers)) m.bads j → ⊥

-- "so that a bad says what it said": of a safe message
abbrev pub NoRunMeetsABad : Type 0
NoRunMeetsABad =
    (most : Limits) (bytes : List ℕ) (lent : ℕ) → Bytes bytes → verdict_within most bytes lent ≡ Safe →
    MeetsNoBad (message bytes)
