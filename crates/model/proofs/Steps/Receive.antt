-- A receive takes a message that mail has, by a branch that may match it.
use Prim.Native.Nat.{ℕ, ◌+◌, ◌<◌}
use mathlib.Core.Path.{◌≡◌, sym, ◌∙◌, ap}
use mathlib.Core.List.{List, Memᴰ}
use mathlib.Core.Option.{some, some-injective}
use lib.ListN.{set}
use Rattle.model.specs.Rows.{Program, size, tag, num, kind}
use Rattle.model.specs.Rows.{receive}
use Rattle.model.specs.Heads.{branch_rows, branch_body_of}
use Rattle.model.specs.Letters.{head_count, row_head_of, value_letter, state_in}
use Rattle.model.specs.Values.{Value, Bindings, Process, process, Processes}
use Rattle.model.specs.Matching.{Received, receive_from}
use Rattle.model.specs.Run.{act}
use Rattle.model.specs.Tables.{Tables, onward}
use Rattle.model.specs.Rules.{reads, rules}
use Rattle.model.specs.Counters.{letters_allowed, letter_index}
use Rattle.model.specs.Wanted.{Member, Closed, by_receive}
use Rattle.model.proofs.Heads.{head_receive}
use Rattle.model.proofs.Acts.{act_receive}
use Rattle.model.proofs.Lookups.{bind_some}
use Rattle.model.proofs.Covering.{row_for}
use Rattle.model.proofs.Parse.Reached.{RowsFit}
use Rattle.model.proofs.Parse.Branches.{receive_branches}
use Rattle.model.proofs.Parse.Lengths.{ColumnsWhole}
use Rattle.model.proofs.Counting.Receives.{Chosen, chosen, Got, got}
use Rattle.model.proofs.Steps.Letters.{Classes, letter_allowed}
use Rattle.model.proofs.Steps.Branch.{branch_may, branch_reads, branch_good}
use Rattle.model.proofs.Invariant.{Good}
use Rattle.model.proofs.RuleAt.{moving, rule_receive}

-- process q has taken a message from its mailbox, by the rule that reads its letter
pub record Receives (p : Program) (t : Tables) (classes : List ℕ) (qs : Processes) (i : ℕ) (q : Process) (qs' : Processes) : Type 0 where
  pub to : ℕ
  pub held : Bindings
  pub branches : List ℕ
  pub received : Received
  pub taken : Got p q.held branches q.mailbox received
  pub result : qs' ≡ set qs i (process q.class to held q.frames received.mailbox)
  pub good : Good p t classes (process q.class to held q.frames received.mailbox)
  pub mailed : Member t.mail q.class (row_for classes taken.message) × Memᴰ (value_letter p taken.message) (letters_allowed p t (row_for classes taken.message))
  pub follows : Memᴰ (moving p t (state_in p q) (onward (state_in p q) to) (reads (letter_index p t q.class (value_letter p taken.message)))) (rules p t)

module _ (p : Program) (t : Tables) (fit : RowsFit p) (w : ColumnsWhole p) (past_end : tag p (size p) ≡ 0) (low : (v : ℕ) → row_head_of p v < head_count p) (closed : Closed p t) (classes : List ℕ) (classed : Classes p classes) (qs : Processes) (i : ℕ) (q : Process) (qs' : Processes) (g : Good p t classes q) (k : kind (tag p q.location) ≡ receive) where
  abbrev branches_here : List ℕ
  branches_here = branch_rows p (num p q.location) (q.location + 1)

  taken_from : (m : Received) (x : Got p q.held branches_here q.mailbox m) → Chosen p q.held branches_here x.message m.taken → qs' ≡ set qs i (process q.class m.taken.location m.taken.held q.frames m.mailbox) → Receives p t classes qs i q qs'
  taken_from m x ch e =
      let c : ℕ = q.class in
      let r : ℕ = q.location in
      let v : Value = x.message in
      let (mailed, covered) = g.mailbox v x.was_there in
      let at = receive_branches g.location (head_receive p r k) in
      let may = branch_may p t fit w closed classes classed q g branches_here at ch.branch ch.listed v covered m.taken.held ch.matches in
      let read = branch_reads p t fit w closed classes classed q g branches_here at ch.branch ch.listed v covered m.taken.held ch.matches past_end low in
      record {
        to = branch_body_of p ch.branch;
        held = m.taken.held;
        branches = branches_here;
        received = m;
        taken = x;
        result = e ∙ ap (λ (y : ℕ). set qs i (process c y m.taken.held q.frames m.mailbox)) ch.goes_on;
        good = branch_good p t fit w closed classes classed q g branches_here at ch.branch ch.listed v covered m.taken.held ch.matches m.mailbox
            (by_receive branches_here ch.branch (row_for classes v) (head_receive p r k) ch.listed mailed may)
            (λ u there. g.mailbox u (x.stays u there));
        mailed = (mailed, letter_allowed p t fit w past_end low classes classed v covered);
        follows = rule_receive p t (state_in p q) g.present ch.branch (row_for classes v) (value_letter p v) k ch.listed mailed read;
      }

  pub receive_step : act p qs i q ≡ some qs' → Receives p t classes qs i q qs'
  receive_step h =
      let b = bind_some (receive_from p q.held branches_here q.mailbox) (λ m. some (set qs i (process q.class m.taken.location m.taken.held q.frames m.mailbox))) qs' (sym (act_receive p qs i q k) ∙ h) in
      let x = got p q.held branches_here q.mailbox b.value b.given in
      taken_from b.value x (chosen p q.held branches_here x.message b.value.taken x.taken) (sym (some-injective (set qs i (process q.class b.value.taken.location b.value.taken.held q.frames b.value.mailbox)) qs' b.then))
