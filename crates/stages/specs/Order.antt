-- The checks of a message whose parts are whole, in their order: each with all that come behind it.
use Rattle.std.specs.Prelude.{ℕ, true, false, List, eqb}
use Rattle.model.specs.declared.Sizes.{Sizes}
use Rattle.model.specs.Verdict.{Check, ◌>>◌}
use Rattle.model.specs.Rows.{program, row_check_of}
use Rattle.model.specs.Scopes.{name_check_of, scope_check_of}
use Rattle.model.specs.Bads.{bad_rows, bad_check_of}
use Rattle.model.specs.Tables.{tables, entry_check_of}
use Rattle.model.specs.Closed.{open_check}
use Rattle.model.specs.Counters.{counter_count}
use Rattle.model.specs.Rules.{rules}
use Rattle.model.specs.Ceilings.{ceilings_of, ceiling_check_of, start_check_of, met_check_of, leak_check_of}
use Rattle.model.specs.Weights.{lines_of, weight_check_of, rise_check_of, light_check_of}
use Rattle.model.specs.Listing.{space_check}
use Rattle.model.specs.Verify.{Message}
use Rattle.mailed.specs.Mailed.{mailed_then_counters}

-- the message of these words and sizes
unfoldable pub taken : List ℕ → Sizes → Message
taken ws s =
    record {
      words = ws;
      sizes = s;
      program = program ws s;
      bads = bad_rows ws s;
      tables = tables ws s;
      ceilings = ceilings_of ws s (counter_count (program ws s) (tables ws s));
      lines = lines_of ws s (counter_count (program ws s) (tables ws s));
    }

-- refusals 11 to 14 of a message of n counters, whose ceilings are in form
unfoldable pub below_ceilings : List ℕ → Sizes → ℕ → ℕ → Check
below_ceilings ws s n lent =
    start_check_of s (program ws s) (tables ws s) (ceilings_of ws s n) >> (
    met_check_of s (program ws s) (tables ws s) (ceilings_of ws s n) (bad_rows ws s) >> (
    leak_check_of ws s (ceilings_of ws s n) (rules (program ws s) (tables ws s)) >>
    space_check (program ws s) (tables ws s) lent))

-- refusals 17, 18 and 14 of a message of n counters, whose lines of weights are in form
unfoldable pub below_weights : List ℕ → Sizes → ℕ → ℕ → Check
below_weights ws s n lent =
    rise_check_of ws s (lines_of ws s n) (rules (program ws s) (tables ws s)) >> (
    light_check_of s (program ws s) (tables ws s) (lines_of ws s n) (bad_rows ws s) >>
    space_check (program ws s) (tables ws s) lent)

-- 10, or 16 where the message has lines of weights
unfoldable pub form_check : List ℕ → Sizes → ℕ → Check
form_check ws s n = elim (eqb s.lines 0) [ true ↦ ceiling_check_of ws s n | false ↦ weight_check_of ws s n ]

-- what follows it
unfoldable pub below_bounds : List ℕ → Sizes → ℕ → ℕ → Check
below_bounds ws s n lent =
    elim (eqb s.lines 0) [ true ↦ below_ceilings ws s n lent | false ↦ below_weights ws s n lent ]

module _ (ws : List ℕ) (s : Sizes) (lent : ℕ) where
  unfoldable pub from_11 : Check
  from_11 = below_bounds ws s (counter_count (program ws s) (tables ws s)) lent

  unfoldable pub from_10 : Check
  from_10 = form_check ws s (counter_count (program ws s) (tables ws s)) >> from_11

  -- 22 and 9: 22 is "between 8 and 9"
  unfoldable pub from_22 : Check
  from_22 = mailed_then_counters s (program ws s) (tables ws s) >> from_10

  unfoldable pub from_8 : Check
  from_8 = open_check s (program ws s) (tables ws s) >> from_22

  unfoldable pub from_7 : Check
  from_7 = entry_check_of s (program ws s) (tables ws s) >> from_8

  unfoldable pub from_6 : Check
  from_6 = bad_check_of ws s (program ws s) >> from_7

  unfoldable pub from_5 : Check
  from_5 = scope_check_of (program ws s) >> from_6

  unfoldable pub from_4 : Check
  from_4 = name_check_of (program ws s) >> from_5

  unfoldable pub from_3 : Check
  from_3 = row_check_of (program ws s) >> from_4
