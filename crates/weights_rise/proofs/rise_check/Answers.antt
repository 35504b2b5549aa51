use mathlib.Core.Path.{◌∙◌}
use Rattle.weights_rise.proofs.Rising.{rise_told}
use Rattle.weights_rise.proofs.rise_check.Goals as goal

pub raised_line-risen-requires : goal.raised_line-risen-requires
raised_line-risen-requires c =
    let r = c.requires.weights_ready in record { joined_tables = c.requires.joined_tables; weights_table = r.table; n_value = r.counted; rule_room = c.requires.rule_room }

pub verdict_at-raised-requires : goal.verdict_at-raised-requires
verdict_at-raised-requires c = record { within_limits = c.requires.joined_tables.ready.limits; line_le_lines = (c.raised_line-risen.ensures.line_le_lines, c.requires.weights_ready.begins.room) }

pub returns : goal.returns
returns c = record { value = c.verdict_at-raised.ensures ∙ rise_told _ _ _ _ c.requires.weights_ready.begins _ _ c.raised_line-risen.ensures.line_value c.raised_line-risen.ensures.line_le_lines; totalled = c.raised_line-risen.ensures.totalled }
