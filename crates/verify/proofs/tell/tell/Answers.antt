use Rattle.std.proofs.Common.{refl}
use Rattle.verify.proofs.Telling.{tell_refused, tell_safe, system_inside, system_room}
use Rattle.verify.proofs.tell.tell.Goals as goal

pub returns-then-is_refused : goal.returns-then-is_refused
returns-then-is_refused c =
    let z = tell_refused _ _ refl _ c.verify.ensures.answer_after _ _ _ c.if-is_refused.true (c.put_line-at.ensures.out_after, c.put_line-at.ensures.value) c.requires in record { out_after = z.0; value = z.1.0; prefix_len = z.1.1 }

pub put_system-requires : goal.put_system-requires
put_system-requires c = record {
  ws_in_bounds = system_room _ _ refl _ c.verify.ensures.answer_after c.if-is_refused.false _ c.verify.ensures.lent_after _ _ _ (c.put_line-at.ensures.out_after, c.put_line-at.ensures.value) c.requires;
  ws_in_bounds_2 = system_inside _ _ refl _ c.verify.ensures.answer_after c.if-is_refused.false _ c.verify.ensures.lent_after;
}

pub returns : goal.returns
returns c =
    let z = tell_safe _ _ refl _ c.verify.ensures.answer_after c.if-is_refused.false _ c.verify.ensures.lent_after _ _ _ _ _ (c.put_line-at.ensures.out_after, c.put_line-at.ensures.value) (c.put_system.ensures.out_after, c.put_system.ensures.value) c.requires in record { out_after = z.0; value = z.1.0; prefix_len = z.1.1 }
