-- The ceilings in form, and where each begins.
use Rattle.std.specs.Prelude.{ℕ, ◌-◌, ◌≤◌, ◌<◌, ◌≡◌, List, length, get_or}
use Rattle.std.proofs.Math.Option.{none}
use Rattle.model.specs.declared.Sizes.{Sizes}
use Rattle.model.specs.Words.{Columns}
use Rattle.model.specs.Reader.{past, read, after, first_wrong_of}
use Rattle.model.specs.Ceilings.{ceiling_entries, ceiling_step, ceilings_ahead, ceiling_entry}

-- the entries are so many ceilings and nothing else
abbrev pub FormOf : ℕ → Columns → ℕ → Type 0
FormOf n entries count = first_wrong_of (ceiling_step n) entries (ceilings_ahead count) ≡ none

-- refusal 10 refuses nothing
abbrev pub InForm : List ℕ → Sizes → ℕ → Type 0
InForm ws s n = FormOf n (ceiling_entries ws s) s.ceilings

-- the first entries of the ceilings
pub record StartsTable (n : ℕ) (entries : Columns) (ceilings : ℕ) (starts : List ℕ) : Type 0 where
  pub room : ceilings ≤ length starts
  pub start : (k : ℕ) → k < ceilings → get_or starts k 0 ≡ ceiling_entry n entries k

-- the entry after the ceiling that stands at entry e
unfoldable pub ceiling_end : ℕ → Columns → ℕ → ℕ
ceiling_end n entries e = after (ceiling_step n) entries (ceilings_ahead 1) e

-- a ceiling stands at entry e
abbrev pub Stands : ℕ → Columns → ℕ → Type 0
Stands n entries e =
    read (ceiling_step n) entries (entries.size - e) (ceilings_ahead 1) e ≡ past (ceiling_end n entries e)
