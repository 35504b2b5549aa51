use native.Mathlib.Omega.{arith}
use mathlib.Core.Path.{ap, ◌∙◌}
use Rattle.model.specs.Message.{bads_offset}
use Rattle.handed.proofs.Part.{empty_part, program_part_of, cut_length}
use Rattle.handed.proofs.part_of.Goals as goal

pub returns-then-not-is_safe : goal.returns-then-not-is_safe
returns-then-not-is_safe c =
    empty_part _ _ _ c.requires _ c.is_safe.ensures c.if-not-is_safe.true

pub overflow_mul-end : goal.overflow_mul-end
unfolding bads_offset
overflow_mul-end c =
    record { fits = omega (arith, c.sizes_of-s.ensures.low_sizes, c.bads_at-end.ensures) }

pub slice_bounds-result-end-2 : goal.slice_bounds-result-end-2
slice_bounds-result-end-2 c =
    cut_length _ _ _ c.requires _ c.is_safe.ensures c.if-not-is_safe.false _ _ (c.bads_at-end.ensures ∙ ap bads_offset c.sizes_of-s.ensures.value) (omega arith)

pub returns : goal.returns
returns c =
    program_part_of _ _ _ c.requires _ c.is_safe.ensures c.if-not-is_safe.false _ (c.bads_at-end.ensures ∙ ap bads_offset c.sizes_of-s.ensures.value)
