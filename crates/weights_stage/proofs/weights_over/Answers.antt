use Rattle.weights_stage.proofs.Laying.{weights_lent}
use Rattle.weights_stage.proofs.weights_over.Goals as goal

pub weights_on-requires : goal.weights_on-requires
weights_on-requires g c =
    let z = weights_lent _ _ _ _ _ _ _ _ _ _ _ c.requires.joined_tables.ready.limits c.requires.lined.counted c.requires.weights_fit c.requires.lists_fit c.words16-weights.ensures c.words16-starts.ensures c.words16-counts.ensures c.words16-tos.ensures c.words16-others.ensures in
    record { joined_tables = c.requires.joined_tables; lined = c.requires.lined; bounds_room = z.0; rule_room = z.1 }
