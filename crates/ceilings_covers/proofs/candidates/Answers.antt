use native.Mathlib.Omega.{arith}
use Rattle.ceilings_covers.proofs.Covering.{taken_is, taken_within, adds_to, adds_it, exact_is}
use borrow.Author.Rules.{rules}
use Rattle.ceilings_covers.proofs.candidates.Goals as goal

pub by_taken-taken-requires : goal.by_taken-taken-requires
by_taken-taken-requires c =
    λ e. (record { room = omega (arith, c.requires.step_apart.from, c.requires.beside.room) }, record { room = omega (arith, (c.requires.step_apart.read e).0, c.requires.beside.room) })

pub by_added-to-requires : goal.by_added-to-requires
by_added-to-requires c = record {
  beside = c.requires.beside;
  step_apart = c.requires.step_apart;
  y_value = adds_to c.args.step;
  candidates = taken_is _ _ _ _ _ c.by_taken-taken.ensures _ _ _ _ _ c.requires.beside c.requires.step_apart c.requires.left c.requires.k_value;
}

pub returns-then-step-lt2 : goal.returns-then-step-lt2
returns-then-step-lt2 c = record {
  candidates = c.by_added-to.ensures.candidates_2;
  exact = exact_is _ _ _ _ _ _ _ _ _ c.requires.beside.held_by.few c.requires.step_apart.kind c.requires.left (taken_within _ _ _ _ _ c.by_taken-taken.ensures) c.by_added-to.ensures.raised (λ two. absurd (omega (arith, two, c.if-step-lt2.true))) (λ j h. h);
}

pub by_added-requires : goal.by_added-requires
by_added-requires c = record { beside = c.requires.beside; step_apart = c.requires.step_apart; y_value = adds_it c.args.step (search rules); candidates = c.by_added-to.ensures.candidates_2 }

pub returns : goal.returns
returns c = record {
  candidates = c.by_added.ensures.candidates_2;
  exact = exact_is _ _ _ _ _ _ _ _ _ c.requires.beside.held_by.few c.requires.step_apart.kind c.requires.left (taken_within _ _ _ _ _ c.by_taken-taken.ensures) c.by_added-to.ensures.raised (λ two. c.by_added.ensures.raised) c.by_added.ensures.raised.within;
}
