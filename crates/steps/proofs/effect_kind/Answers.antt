use borrow.Author.Rules.{rules}
use Rattle.steps.proofs.Stepping.{effect_send, effect_spawn, effect_receive, effect_quiet}
use Rattle.steps.proofs.effect_kind.Goals as goal

pub returns-then-tag-eq-TAG_SEND : goal.returns-then-tag-eq-TAG_SEND
returns-then-tag-eq-TAG_SEND c = record { value = effect_send _ (search rules); upper_bound = search rules }

pub returns-then-tag-eq-TAG_SPAWN : goal.returns-then-tag-eq-TAG_SPAWN
returns-then-tag-eq-TAG_SPAWN c = record { value = effect_spawn _ (search rules); upper_bound = search rules }

pub returns-then-tag-eq-TAG_RECEIVE : goal.returns-then-tag-eq-TAG_RECEIVE
returns-then-tag-eq-TAG_RECEIVE c = record { value = effect_receive _ (search rules); upper_bound = search rules }

pub returns-else-tag-eq-TAG_RECEIVE : goal.returns-else-tag-eq-TAG_RECEIVE
returns-else-tag-eq-TAG_RECEIVE c = record { value = effect_quiet _ c.if-tag-eq-TAG_SEND.false c.if-tag-eq-TAG_SPAWN.false c.if-tag-eq-TAG_RECEIVE.false; upper_bound = search rules }
