use native.Mathlib.Omega.{arith}
use mathlib.Core.Path.{sym, ◌∙◌}
use Rattle.model.proofs.Logic.{true_false, and_left, and_right}
use Rattle.masks.specs.Masks.{has}
use Rattle.ceilings_groups.proofs.narrowed.Goals as goal

pub returns-then-kind-lt2 : goal.returns-then-kind-lt2
returns-then-kind-lt2 c =
    let all = c.args.all in
    let to = c.open_at.result in
    record {
      by_index = λ k t. and_left (has all k) (has to k) (sym (c.and-at_to.ensures k) ∙ t);
      by_index_2 = λ k h t. (c.open_at.ensures k h (and_right (has all k) (has to k) (sym (c.and-at_to.ensures k) ∙ t)), λ two. absurd (omega (arith, two, c.if-kind-lt2.true)));
    }

pub returns-then-to-other : goal.returns-then-to-other
returns-then-to-other c = record { by_index = λ k t. true_false t (c.none.ensures k); by_index_2 = λ k h t. true_false t (c.none.ensures k) }

pub returns : goal.returns
returns c =
    let all = c.args.all in
    let to = c.open_at.result in
    let first = c.and-at_to.result in
    let other = c.open_at-2.result in
    record {
      by_index = λ k t. and_left (has all k) (has to k) (sym (c.and-at_to.ensures k) ∙ and_left (has first k) (has other k) (sym (c.and.ensures k) ∙ t));
      by_index_2 = λ k h t. (
        c.open_at.ensures k h (and_right (has all k) (has to k) (sym (c.and-at_to.ensures k) ∙ and_left (has first k) (has other k) (sym (c.and.ensures k) ∙ t))),
        λ two. (c.open_at-2.ensures k h (and_right (has first k) (has other k) (sym (c.and.ensures k) ∙ t)), c.if-to-other.false),
      );
    }
