use native.Mathlib.Omega.{arith}
use mathlib.Core.Path.{sym, ◌∙◌}
use Rattle.ceilings_letters.proofs.one_more_by.Goals as goal

pub overflow_mul-second : goal.overflow_mul-second
overflow_mul-second c = record { fits = omega (arith, c.requires.x_lt_n) }

pub overflow_add-second : goal.overflow_add-second
overflow_add-second c = record { fits = omega (arith, c.requires.x_lt_n) }

pub load-requires : goal.load-requires
load-requires c = record { room = omega (arith, c.requires.one_more.near_room, c.requires.x_lt_n.0) }

pub returns-then-is_held : goal.returns-then-is_held
returns-then-is_held c = λ j h. c.load.ensures j h ∙ c.requires.one_more.some_held _ j c.requires.x_lt_n.0 (sym c.requires.is_held_value ∙ c.if-is_held.true) h

pub overflow_mul-first : goal.overflow_mul-first
overflow_mul-first c = record { fits = omega (arith, c.requires.x_lt_n) }

pub load-requires-2 : goal.load-requires-2
load-requires-2 c = record { room = omega (arith, c.requires.one_more.holders_room, c.requires.x_lt_n.0) }

pub returns : goal.returns
returns c = λ j h. c.load-2.ensures j h ∙ c.requires.one_more.not_held _ j c.requires.x_lt_n.0 (sym c.requires.is_held_value ∙ c.if-is_held.false) h
