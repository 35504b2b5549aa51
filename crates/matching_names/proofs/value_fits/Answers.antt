use mathlib.Core.Path.{sym, ◌∙◌}
use Rattle.model.specs.Words.{columns}
use Rattle.model.specs.Rows.{program}
use Rattle.matching_names.proofs.Naming.{fits_not, fits_class, fits_any}
use Rattle.matching_names.proofs.value_fits.Goals as goal

pub returns-then-not-holds : goal.returns-then-not-holds
unfolding program columns
returns-then-not-holds c = fits_not _ _ _ _ _ (rw c.requires.w_value.0 at c.holds.ensures) c.if-not-holds.true

pub returns-then-tag-eq-TAG_PATTERN_HELD : goal.returns-then-tag-eq-TAG_PATTERN_HELD
unfolding program columns
returns-then-tag-eq-TAG_PATTERN_HELD c = fits_class _ _ _ _ _ (rw c.requires.w_value.0 at c.holds.ensures) _ c.if-not-holds.false (sym c.tag.ensures ∙ c.if-tag-eq-TAG_PATTERN_HELD.true) c.is_class.ensures

pub returns : goal.returns
unfolding program columns
returns c = fits_any _ _ _ _ _ (rw c.requires.w_value.0 at c.holds.ensures) c.if-not-holds.false (λ y. c.if-tag-eq-TAG_PATTERN_HELD.false (c.tag.ensures ∙ y))
