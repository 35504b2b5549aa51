use Rattle.ceilings_form.proofs.Ceilings.{part_of, part_in}
use Rattle.ceilings.proofs.Filling.{limits_table}
use Rattle.ceilings.proofs.fill_limits.Goals as goal

pub ceilings_part-requires : goal.ceilings_part-requires
ceilings_part-requires c = c.requires.whole.0.limits

pub fill_bounds-requires : goal.fill_bounds-requires
fill_bounds-requires c =
    record { part_held = rw (c.ceilings_part.ensures, part_of) (part_in _ _ c.requires.whole.0, c.requires.whole.1); bounds_room = c.requires.bounds_room }

pub returns : goal.returns
returns c =
    let table = rw (c.ceilings_part.ensures, part_of) at c.fill_bounds.ensures.bounds_table in
    let begun = rw (c.ceilings_part.ensures, part_of) at c.fill_bounds.ensures.starts_table in
    record { limits_table = limits_table _ _ _ _ table; starts_table = begun }
