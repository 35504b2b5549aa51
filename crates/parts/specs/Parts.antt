-- Sizes that place the parts of a message.
use Rattle.std.specs.Prelude.{ℕ, ◌+◌, ◌^◌, ◌<◌}
use Rattle.model.specs.declared.Sizes.{Sizes}

-- sizes so small that no position reaches the end of the numbers: those that are words, and those within their limits
abbrev pub LowSizes : Sizes → Type 0
LowSizes s = s.rows + s.badrows + s.flows + s.mails + s.states + s.ceilings + s.entries + s.weights < 2 ^ 19
