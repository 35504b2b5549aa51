use borrow.Author.Rules.{rules}
use lib.Dec.{ltb}
use Rattle.std.proofs.lemmas.List.Sorted.{IsPartitionPoint-from_clause}
use Rattle.ascending.proofs.Numbers.{parted, part_placed}
use Rattle.ascending.proofs.place.Goals as goal

pub returns : goal.returns
returns c =
    let point = IsPartitionPoint-from_clause (λ y. ltb y c.args.x) _ _ c.partition_point.ensures.partitioned (parted c.args.codes.now c.requires.from_le_n.0 c.requires.from_le_n.2 c.args.x c.requires.rising) (λ a r q k. search rules) in
    part_placed c.args.codes.now c.requires.from_le_n.0 c.requires.from_le_n.2 c.args.x _ c.partition_point.ensures.bound point
