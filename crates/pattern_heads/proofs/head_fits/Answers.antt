use native.Mathlib.Omega.{arith}
use mathlib.Core.Path.{sym, ◌∙◌}
use Rattle.pattern_heads.proofs.Fitting.{asked_held, fitting_room, fits_made, fits_bare, fits_other, fits_held, fits_function, fits_class, held_low, head_room}
use Rattle.pattern_heads.proofs.head_fits.Goals as goal

pub num-k-requires : goal.num-k-requires
num-k-requires c = c.requires.cases.ready.whole

pub tag-requires : goal.tag-requires
tag-requires c = c.requires.cases.ready.whole

pub returns-then-h-k : goal.returns-then-h-k
returns-then-h-k c = fits_other c.requires.cases _ _ _ c.requires.pattern c.requires.n_lt_names.0 (sym c.tag.ensures ∙ c.if-tag-eq-TAG_PATTERN_CONSTRUCTOR.true) _ c.num-k.ensures c.if-h-k.true

pub num-requires : goal.num-requires
num-requires c = c.requires.cases.ready.whole

pub returns-then-num-eq0 : goal.returns-then-num-eq0
returns-then-num-eq0 c = fits_bare c.requires.cases _ _ _ c.requires.pattern c.requires.n_lt_names.0 (sym c.tag.ensures ∙ c.if-tag-eq-TAG_PATTERN_CONSTRUCTOR.true) _ _ c.if-h-k.false c.num-k.ensures c.num.ensures c.if-num-eq0.true c.requires.h_value

pub holds-requires : goal.holds-requires
holds-requires c =
    let z = fitting_room c.requires.cases _ _ 0 c.requires.pattern c.requires.n_lt_names.0 in record { v_bound = z.0; row = z.1 }

pub returns-then-tag-eq-TAG_PATTERN_CONSTRUCTOR : goal.returns-then-tag-eq-TAG_PATTERN_CONSTRUCTOR
returns-then-tag-eq-TAG_PATTERN_CONSTRUCTOR c = fits_made c.requires.cases _ _ _ c.requires.pattern c.requires.n_lt_names.0 (sym c.tag.ensures ∙ c.if-tag-eq-TAG_PATTERN_CONSTRUCTOR.true) _ _ _ c.if-h-k.false c.num-k.ensures c.num.ensures c.if-num-eq0.false c.holds.ensures

pub holds-requires-then-h-s : goal.holds-requires-then-h-s
holds-requires-then-h-s c =
    let z = head_room c.requires.cases _ _ (omega (arith, c.num-k.ensures, held_low c.requires.cases _ _ 0 c.requires.pattern c.requires.n_lt_names.0 (asked_held _ _ _ c.tag.ensures c.if-tag-eq-TAG_PATTERN_CONSTRUCTOR.false c.requires.fact))) c.requires.n_lt_names.1 in record { v_bound = z.0; row = z.1 }

pub returns-then-h-s : goal.returns-then-h-s
returns-then-h-s c = fits_held c.requires.cases _ _ _ c.requires.pattern c.requires.n_lt_names.0 (asked_held _ _ _ c.tag.ensures c.if-tag-eq-TAG_PATTERN_CONSTRUCTOR.false c.requires.fact) _ _ c.requires.h_value c.if-h-s.true c.num-k.ensures c.holds-then-h-s.ensures

pub returns-then-h-s-2 : goal.returns-then-h-s-2
returns-then-h-s-2 c = fits_function c.requires.cases _ _ _ c.requires.pattern c.requires.n_lt_names.0 (asked_held _ _ _ c.tag.ensures c.if-tag-eq-TAG_PATTERN_CONSTRUCTOR.false c.requires.fact) c.if-h-s-2.true

pub holds-requires-2 : goal.holds-requires-2
holds-requires-2 c =
    let z = fitting_room c.requires.cases _ _ 0 c.requires.pattern c.requires.n_lt_names.0 in record { v_bound = z.0; row = z.1 }

pub returns : goal.returns
returns c = fits_class c.requires.cases _ _ _ c.requires.pattern c.requires.n_lt_names.0 (asked_held _ _ _ c.tag.ensures c.if-tag-eq-TAG_PATTERN_CONSTRUCTOR.false c.requires.fact) _ (omega (arith, c.requires.n_lt_names.1, c.if-h-s.false, c.if-h-s-2.false)) c.holds-2.ensures
