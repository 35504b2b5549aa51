-- No empty name (specs/NoEmptyName.antt): the invariant holds of every run, and what is promised follows.
use Prim.Native.Nat.{ℕ}
use mathlib.Core.Path.{refl, sym, subst}
use mathlib.Core.List.{List, Memᴰ}
use Rattle.model.specs.Rows.{Program}
use Rattle.model.specs.Heads.{is_function}
use Rattle.model.specs.Values.{Processes, empty}
use Rattle.model.specs.Run.{run}
use Rattle.model.specs.Transitions.{read_at, Stays, NoStep, with_reason, holds_nothing, nowhere, Runs, at_end, steps, changes_nothing}
use Rattle.model.specs.Verify.{message}
use Rattle.model.specs.Demands.{WellFormed}
use Rattle.model.specs.NoEmptyName.{Passes, in_expression, NoEmptyName}
use Rattle.model.proofs.Exact.Names.{program_none}
use Rattle.model.proofs.Exact.Parts.{parts_none}
use Rattle.model.proofs.Demands.{rows_whole}
use Rattle.model.proofs.Parse.Locations.{start_location, location_known}
use Rattle.model.proofs.Parse.Lengths.{ColumnsWhole}
use Rattle.model.proofs.Transitions.Runs.{runs_exactly}
use Rattle.model.proofs.NoEmptyName.Numbers.{passes_five}
use Rattle.model.proofs.NoEmptyName.Held.{covers_start, covers_global}
use Rattle.model.proofs.NoEmptyName.Values.{none_held}
use Rattle.model.proofs.NoEmptyName.Processes.{Each, no_more, and_then, each_at, FullProcess}
use Rattle.model.proofs.NoEmptyName.Steps.{step_full}
use Rattle.model.proofs.NoEmptyName.Kept.{outside_holds, reads_hold, no_name_empty}

module _ {p : Program} (passes : Passes p) where
  well_formed : WellFormed p
  well_formed = (program_none p).0 passes.checks

  columns : ColumnsWhole p
  columns = record { tags = passes.tags; numbers = passes.numbers }

  runs_full : {qs qs' : Processes} {is : List ℕ} → Each (FullProcess p) qs → Runs p qs is qs' → Each (FullProcess p) qs'
  runs_full gs at_end = gs
  runs_full gs (steps {i = i} s k) = runs_full (step_full well_formed.rows_fit columns gs i s) k
  runs_full gs (changes_nothing s k) = runs_full gs k

  -- the starting process, and so every run
  run_full : (is : List ℕ) → Each (FullProcess p) (run p is)
  run_full is =
      let fit = well_formed.rows_fit in
      runs_full (and_then (record {
        location = start_location fit;
        covers = covers_start fit empty;
        full = none_held;
        frames = no_more;
        mailbox = no_more;
      }) no_more)
      ((runs_exactly.each_run p is (run p is)).0 refl)

  -- of the reasons to make no step, the paper's are left
  stays : {qs : Processes} {i : ℕ} → Each (FullProcess p) qs → NoStep p qs i → Stays p qs i
  stays gs (with_reason s) = s
  stays {i = i} gs (holds_nothing {n = n} a there never) =
      let (v, h) = reads_hold well_formed (each_at i gs a.there) (in_expression (subst (λ x. Memᴰ n (read_at x)) (sym a.head) there)) in
      absurd (never v h)
  stays {i = i} gs (nowhere a) = absurd (location_known (each_at i gs a.there).location a.head)

pub no_empty_name : NoEmptyName
unfolding is_function message
no_empty_name =
    record {
      processes = λ p passes is i q there. no_name_empty (well_formed passes) (each_at i (run_full passes is) there);
      named_functions = λ p passes f m row n o. outside_holds (well_formed passes) row.below (rw row.tagged) (covers_global (well_formed passes).rows_fit empty f row.tagged) o;
      reasons = λ p passes is i. (
        λ e. stays passes (run_full passes is) ((runs_exactly.each_reason p (run p is) i).0 e),
        λ s. (runs_exactly.each_reason p (run p is) i).1 (with_reason s),
      );
      messages = λ most bytes lent passed.
          let (parts, checks) = passes_five most bytes lent passed in
          let w = rows_whole bytes ((parts_none most bytes).0 parts).0 in
          record { tags = w.tags; numbers = w.numbers; checks = checks };
    }
