-- A branch that takes a value, of a case or a receive: where it goes on is a state, and what it binds is covered.
use Prim.Native.Nat.{ℕ, ◌<◌}
use mathlib.Core.Path.{◌≡◌}
use mathlib.Core.List.{List, Memᴰ}
use mathlib.Core.Option.{some}
use Rattle.model.specs.Limits.{max_depth}
use Rattle.model.specs.Rows.{Program, size, tag}
use Rattle.model.specs.Heads.{branch_body_of}
use Rattle.model.specs.Values.{Value, Bindings, Process, process}
use Rattle.model.specs.Matching.{match}
use Rattle.model.specs.Tables.{Tables, onward}
use Rattle.model.specs.Letters.{head_count, row_head_of, value_letter, state_in}
use Rattle.model.specs.Rules.{letters_read}
use Rattle.model.specs.Wanted.{Closed, flow, state, MayMatch, MayTake, branch_name, branch_state, by_state}
use Rattle.model.proofs.Covering.{row_for, Covered}
use Rattle.model.proofs.Parse.Reached.{RowsFit}
use Rattle.model.proofs.Parse.Branches.{Branches, branch_in, branch_location}
use Rattle.model.proofs.Parse.Lengths.{ColumnsWhole}
use Rattle.model.proofs.Steps.Letters.{Classes}
use Rattle.model.proofs.Matched.{match_may, match_held, letter_read}
use Rattle.model.proofs.Invariant.{Mailed, Good}

module _ (p : Program) (t : Tables) (fit : RowsFit p) (w : ColumnsWhole p) (closed : Closed p t) (classes : List ℕ) (classed : Classes p classes) (q : Process) (g : Good p t classes q) (bs : List ℕ) (at : Branches p q.location bs g.location.below g.location.end) (b : ℕ) (listed : Memᴰ b bs) (v : Value) (covered : Covered p t classes v) (held : Bindings) (m : match p q.held b v ≡ some held) where
  pub branch_may : MayMatch p t max_depth b (row_for classes v)
  branch_may = match_may fit w t classes closed classed q.held g.held v held (branch_in at listed).pattern_stands.spans covered m

  -- and reads its letter
  pub branch_reads : tag p (size p) ≡ 0 → ((u : ℕ) → row_head_of p u < head_count p) → Memᴰ (value_letter p v) (letters_read p t b (row_for classes v))
  branch_reads past_end low = letter_read fit w t classes closed classed q.held g.held past_end low v held (branch_in at listed).pattern_stands.spans covered m

  pub branch_good : (vs : List Value) → MayTake p t (state_in p q) b (row_for classes v) → Mailed p t classes q.class vs → Good p t classes (process q.class (branch_body_of p b) held q.frames vs)
  branch_good vs take mailed =
      record {
        location = branch_location (branch_in at listed);
        class = g.class;
        present = closed (state (onward (state_in p q) (branch_body_of p b))) (by_state g.present (branch_state b (row_for classes v) take));
        held = match_held fit w t classes closed classed q.held g.held v held (branch_in at listed).pattern_stands.spans covered m
            (λ n u spot. closed (flow n u) (by_state g.present (branch_name b (row_for classes v) n u take spot)));
        frames = g.frames;
        mailbox = mailed;
      }
