use native.Mathlib.Omega.{arith}
use borrow.Author.Rules.{rules}
use Rattle.system_listing.proofs.Putting.{two_room, two_put, three_room, three_put}
use Rattle.system_listing.proofs.put_rule.Goals as goal

pub put-requires : goal.put-requires
put-requires c = record {
  x_lt_n = (omega (arith, (two_room _ _ _ _ _ _ _ c.requires.room).0), (two_room _ _ _ _ _ _ _ c.requires.room).1);
  number_bound = c.requires.from_bound.0;
}

pub overflow_add-second : goal.overflow_add-second
overflow_add-second c = let r = two_room _ _ _ _ _ _ _ c.requires.room in search rules

pub put-requires-2 : goal.put-requires-2
put-requires-2 c = record {
  x_lt_n = (omega (arith, (two_room _ _ _ _ _ _ _ c.requires.room).0), omega (arith, (two_room _ _ _ _ _ _ _ c.requires.room).1, c.put.auto.out));
  number_bound = c.requires.from_bound.1;
}

pub overflow_add-behind : goal.overflow_add-behind
overflow_add-behind c = let r = two_room _ _ _ _ _ _ _ c.requires.room in search rules

pub returns-in-None : goal.returns-in-None
returns-in-None c = two_put _ _ _ _ _ _ _ _ _ c.in-None.is c.put.ensures c.put-2.ensures

pub put-requires-in-Some : goal.put-requires-in-Some
put-requires-in-Some c = record {
  x_lt_n = (omega (arith, three_room _ _ _ _ _ _ _ _ c.requires.room c.in-Some.is), omega (arith, (two_room _ _ _ _ _ _ _ c.requires.room).1, c.put.auto.out, c.put-2.auto.out));
  number_bound = c.requires.from_bound.2;
}

pub overflow_add-result : goal.overflow_add-result
overflow_add-result c = let r = two_room _ _ _ _ _ _ _ c.requires.room in search rules

pub returns-in-Some : goal.returns-in-Some
returns-in-Some c = three_put _ _ _ _ _ _ _ _ _ _ _ c.in-Some.is c.put.ensures c.put-2.ensures c.put-in-Some.ensures
