use Rattle.matching_names.proofs.Naming.{asks_made, asks_held, asks_none}
use Rattle.matching_names.proofs.asks_names.Goals as goal

pub returns-in-31 : goal.returns-in-31
returns-in-31 c = asks_made _ _ _ c.tag.ensures _ _ c.in-31.is c.num-made.ensures c.num.ensures

pub returns-in-33 : goal.returns-in-33
returns-in-33 c = asks_held _ _ _ c.tag.ensures c.in-33.is

pub returns-in_default : goal.returns-in_default
returns-in_default c = asks_none _ _ _ c.tag.ensures c.in_default.in_default-own.rest.0.1 c.in_default.in_default-own.rest.1
