use Rattle.system_totals.proofs.Lined.{two_rows, three_rows}
use Rattle.system_totals.proofs.row_total.Goals as goal

pub returns-in-None : goal.returns-in-None
returns-in-None c = two_rows c.args.n _ _ c.third_tag.ensures c.in-None.is

pub returns-in-Some : goal.returns-in-Some
returns-in-Some c = three_rows c.args.n _ _ _ c.third_tag.ensures c.in-Some.is
