use Rattle.ceilings_sized.proofs.Laying.{limits_lent}
use Rattle.ceilings_sized.proofs.limits_over.Goals as goal

pub ceilings_on-requires : goal.ceilings_on-requires
ceilings_on-requires g c =
    let z = limits_lent _ _ _ _ _ _ _ _ _ _ _ _ _ _ _ _ c.requires.joined_tables.ready.limits c.requires.numbered.counted c.requires.limits_fit c.requires.lists_fit c.words16-limits.ensures c.words16-ceiling_at.ensures c.words32-sums.ensures c.words64-holders.ensures c.words64-group.ensures c.words64-near.ensures c.words16-tos.ensures c.words16-others.ensures in
    record { joined_tables = c.requires.joined_tables; numbered = c.requires.numbered; bounds_room = z.0; mask_room = z.1.0; rule_room = z.1.1 }
