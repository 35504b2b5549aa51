-- Document 02, (x), "Functions by mail retired": what is promised of mailboxes and of letter C, as types.
use Rattle.std.specs.Prelude.{ℕ, ◌≡◌}
use mathlib.Core.List.{List, ◌∷◌, Memᴰ}
use Rattle.std.proofs.Math.Option.{some, none}
use Rattle.std.proofs.Math.ListN.{get_elem?}
use Rattle.model.specs.declared.Verdict.TheVariants.{Safe}
use Rattle.model.specs.Limits.{Limits}
use Rattle.model.specs.Rows.{Program}
use Rattle.model.specs.Values.{closure, Bindings, Process}
use Rattle.model.specs.Run.{run}
use Rattle.model.specs.Tables.{Tables}
use Rattle.model.specs.Bads.{of_letters}
use Rattle.model.specs.Counters.{Counted, letter_of, counter_of}
use Rattle.model.specs.Markings.{Marking, count_in, sum_in}
use Rattle.model.specs.Verify.{message, verdict_within}
use Rattle.model.specs.Demands.{Bytes}
use Rattle.model.specs.Refusals.{Passed}

-- "no mailbox directly holds a function in any run": after any list of numbers, of any process, no message is a
-- function. (One inside a built value is held by that value.)
abbrev pub NoMailboxHoldsFunction : Program → Type 0
NoMailboxHoldsFunction p =
    (numbers : List ℕ) (i : ℕ) (q : Process) → get_elem? (run p numbers) i ≡ some q →
    (f : ℕ) (held : Bindings) → Memᴰ (closure f held) q.mailbox → ⊥

-- "A user may then rely on it that no mailbox directly holds a function in any run of a safe program."
abbrev pub NoFunctionMailed : Type 0
NoFunctionMailed =
    (most : Limits) (bytes : List ℕ) (lent : ℕ) → Bytes bytes → verdict_within most bytes lent ≡ Safe →
    NoMailboxHoldsFunction (message bytes).program

-- what has no counter, and "stands at 0" in any counts
pub record WithoutCounter (p : Program) (t : Tables) (k : Counted) : Type 0 where
  pub no_counter : counter_of p t k ≡ none
  pub stands_at_0 : (counts : Marking) → count_in p t counts k ≡ 0

-- letter C in a class's mailboxes: no letter of its number has a counter, with whatever heads, and an item (42, C)
-- counts nothing
pub record CUncounted (p : Program) (t : Tables) (c : ℕ) : Type 0 where
  pub letters : (hs : List ℕ) → WithoutCounter p t (letter_of c (p.constructors ∷ hs))
  pub item : (counts : Marking) → sum_in p t counts (of_letters c p.constructors) ≡ 0

-- "letter C keeps its number and has no counter": once 22 has passed, for no class. So no counts meet an item (42, C),
-- whose minimum is from 1.
abbrev pub LetterUncounted : Type 0
LetterUncounted =
    (most : Limits) (bytes : List ℕ) → Passed most bytes 9 → (c : ℕ) →
    CUncounted (message bytes).program (message bytes).tables c
