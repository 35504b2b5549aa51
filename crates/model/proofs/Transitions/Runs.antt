-- The functions make the steps and runs that the relations have, and no others (`RunsExactly` of specs/Transitions.antt).
use Prim.Native.Nat.{ℕ}
use mathlib.Core.Path.{◌≡◌, refl, subst}
use mathlib.Core.List.{List, [], ◌∷◌}
use mathlib.Core.Option.{some, none}
use Rattle.model.specs.Rows.{Program}
use Rattle.model.specs.Values.{Processes}
use Rattle.model.specs.Run.{step_of, next, starting, run_from, run}
use Rattle.model.specs.Patterns.{MatchingExactly}
use Rattle.model.specs.Transitions.{Runs, at_end, steps, changes_nothing, RunsExactly}
use Rattle.model.proofs.Reader.{by_option}
use Rattle.model.proofs.Transitions.Equality.{equal_has, equal_gives}
use Rattle.model.proofs.Transitions.Exactly.{gives_none, has_none}
use Rattle.model.proofs.Transitions.Names.{value_exactly}
use Rattle.model.proofs.Transitions.Patterns.{match_exactly}
use Rattle.model.proofs.Transitions.Made.{step_has}
use Rattle.model.proofs.Transitions.Given.{step_gives}
use Rattle.model.proofs.Transitions.Reasons.{reason}
use Rattle.model.proofs.Transitions.Idle.{idle}

module _ (p : Program) where
  next_step : (qs : Processes) (i : ℕ) (qs' : Processes) → step_of p qs i ≡ some qs' → next p qs i ≡ qs'
  unfolding next
  next_step qs i qs' e = rw (e, next)

  next_none : (qs : Processes) (i : ℕ) → step_of p qs i ≡ none → next p qs i ≡ qs
  unfolding next
  next_none qs i e = rw (e, next)

  runs_from : (qs : Processes) (is : List ℕ) → Runs p qs is (run_from p qs is)
  unfolding run_from
  runs_from qs [] = at_end
  runs_from qs (i ∷ is) =
      by_option (step_of p qs i)
      (λ e. changes_nothing (reason p qs i e) (rw (next_none qs i e) (runs_from qs is)))
      (λ qs' e. steps (step_has p qs i qs' e) (rw (next_step qs i qs' e) (runs_from qs' is)))

  run_gives : {qs qs' : Processes} {is : List ℕ} → Runs p qs is qs' → run_from p qs is ≡ qs'
  unfolding run_from
  run_gives at_end = refl
  run_gives (steps {i = i} {qs = qs} {qs' = qs'} s k) = rw (next_step qs i qs' (step_gives s)) (run_gives k)
  run_gives (changes_nothing {i = i} {qs = qs} s k) = rw (next_none qs i (idle s)) (run_gives k)

matching_exactly : MatchingExactly
matching_exactly =
    record {
      equals = λ v w. (equal_has v w, equal_gives);
      values = λ p held n v. ((value_exactly p n held).has v, (value_exactly p n held).gives v);
      matches = λ p held held' q v. ((match_exactly p held q v).has held', (match_exactly p held q v).gives held');
      refuses = λ p held q v. (gives_none (match_exactly p held q v), has_none (match_exactly p held q v));
    }

pub runs_exactly : RunsExactly
unfolding run starting
runs_exactly =
    record {
      matching = matching_exactly;
      each_step = λ p qs qs' i. (step_has p qs i qs', step_gives);
      each_reason = λ p qs i. (reason p qs i, idle);
      each_run = λ p is qs. (λ e. subst (Runs p (starting p) is) e (runs_from p (starting p) is), run_gives p);
    }
