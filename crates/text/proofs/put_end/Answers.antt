use Rattle.text.specs.Text.{line_end}
use Rattle.text.proofs.put_end.Goals as goal

pub returns : goal.returns
unfolding line_end
returns c = record { out_after = c.put_byte.ensures.out_after; value = c.put_byte.ensures.value }
