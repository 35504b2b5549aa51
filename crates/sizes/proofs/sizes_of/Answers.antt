-- Each size is read where the model reads it; that a size is a word keeps every sum small.
use native.Mathlib.Omega.{arith}
use Rattle.sizes.proofs.Sized.{sized}
use Rattle.sizes.proofs.sizes_of.Goals as goal

pub returns : goal.returns
returns c = record {
  value = sized _ _ _ _ _ _ _ _ _ _ _ _ _ _ _ c.size_at-rows.ensures.value c.size_at.ensures.value c.size_at-2.ensures.value c.size_at-3.ensures.value c.size_at-4.ensures.value c.size_at-badrows.ensures.value c.size_at-flows.ensures.value c.size_at-mails.ensures.value c.size_at-states.ensures.value c.table_cells-cells.ensures c.size_at-ceilings.ensures.value c.size_at-entries.ensures.value c.fifth_size.ensures.value c.fifth_size-2.ensures.value;
  low_sizes = omega (arith, c.size_at-rows.ensures.upper_bound, c.size_at-badrows.ensures.upper_bound, c.size_at-flows.ensures.upper_bound, c.size_at-mails.ensures.upper_bound, c.size_at-states.ensures.upper_bound, c.size_at-ceilings.ensures.upper_bound, c.size_at-entries.ensures.upper_bound, c.fifth_size-2.ensures.upper_bound);
}
