-- A send puts a message that mail wants into a mailbox of a class that the target may be.
use Prim.Native.Nat.{ℕ, ◌+◌, ◌<◌}
use mathlib.Core.Path.{◌≡◌, sym, ◌∙◌, ap, subst}
use mathlib.Core.Logic.{⊎_elim}
use mathlib.Core.List.Memᴰ
use mathlib.Core.List.{List, [], ◌∷◌, ◌++◌, Memᴰ}
use mathlib.Core.Option.{some}
use lib.ListN.{length, get_or, set}
use Rattle.model.specs.Rows.{Program, size, tag, num, kind}
use Rattle.model.specs.Rows.{send}
use Rattle.model.specs.Scopes.{rest}
use Rattle.model.specs.Letters.{head_count, row_head_of, value_letter, state_in}
use Rattle.model.specs.Values.{Value, Bindings, bind, value_of, Process, Processes, process_of}
use Rattle.model.specs.Run.{◌>>=◌, moved, deliver, act}
use Rattle.model.specs.Tables.{Tables, onward}
use Rattle.model.specs.Rules.{puts, rules}
use Rattle.model.specs.Counters.{letters_allowed, letter_index}
use Rattle.model.specs.Wanted.{Member, Closed, flow, mail, state, Sends, send_mail, send_name, send_rest, by_state}
use Rattle.model.proofs.Transitions.Callees.{process_of_some}
use Rattle.model.proofs.Heads.{head_send}
use Rattle.model.proofs.Acts.{act_send}
use Rattle.model.proofs.Lookups.{bind_some, value_held}
use Rattle.model.proofs.Covering.{row_for, Covered}
use Rattle.model.proofs.Steps.Letters.{Classes, letter_allowed}
use Rattle.model.proofs.Parse.Reached.{RowsFit}
use Rattle.model.proofs.Parse.Heads.{rest_of}
use Rattle.model.proofs.Parse.Lengths.{ColumnsWhole}
use Rattle.model.proofs.Steps.Quiet.{at_rest}
use Rattle.model.proofs.Invariant.{Mailed, Good}
use Rattle.model.proofs.RuleAt.{moving, rule_send}

-- process q has moved on and a message has been delivered, by the rule that puts its letter
pub record Sent (p : Program) (t : Tables) (classes : List ℕ) (qs : Processes) (i : ℕ) (q : Process) (qs' : Processes) : Type 0 where
  pub held : Bindings
  pub target : ℕ
  pub message : Value
  pub result : deliver (set qs i (moved q (rest p q.location) held)) target message ≡ some qs'
  pub good : Good p t classes (moved q (rest p q.location) held)
  pub there : target < length classes
  pub covered : Covered p t classes message
  pub mailed : Member t.mail (get_or classes target 0) (row_for classes message)
  pub allowed : Memᴰ (value_letter p message) (letters_allowed p t (row_for classes message))
  pub follows : Memᴰ (moving p t (state_in p q) (onward (state_in p q) (rest p q.location)) (puts (letter_index p t (get_or classes target 0) (value_letter p message)))) (rules p t)

module _ (p : Program) (t : Tables) (fit : RowsFit p) (w : ColumnsWhole p) (past_end : tag p (size p) ≡ 0) (low : (v : ℕ) → row_head_of p v < head_count p) (closed : Closed p t) (classes : List ℕ) (classed : Classes p classes) (qs : Processes) (i : ℕ) (q : Process) (qs' : Processes) (g : Good p t classes q) (k : kind (tag p q.location) ≡ send) where
  sent : (target v : Value) (j : ℕ) → value_of p q.held (num p (q.location + 1)) ≡ some target → process_of target ≡ some j → value_of p q.held (num p (q.location + 2)) ≡ some v → deliver (set qs i (moved q (rest p q.location) (bind (num p q.location) v q.held))) j v ≡ some qs' → Sent p t classes qs i q qs'
  unfolding row_for
  sent target v j to-whom is what e =
      let r : ℕ = q.location in
      let n : ℕ = num p r in
      let (addressee, there) = subst (λ (u : Value). Member t.flow (num p (r + 1)) (row_for classes u) × Covered p t classes u) (process_of_some target j is) (value_held p t closed classes q.held (num p (r + 1)) target g.held to-whom) in
      let (value, covered) = value_held p t closed classes q.held (num p (r + 2)) v g.held what in
      let d : ℕ = get_or classes j 0 in
      let allowed = letter_allowed p t fit w past_end low classes classed v covered in
      let sends : Sends p t r n (rest p r) d (row_for classes v) = record { target = num p (r + 1); message = num p (r + 2); sends_at = head_send p r k; to_class = addressee; class = classed j there; value = value } in
      record {
        held = bind n v q.held;
        target = j;
        message = v;
        result = e;
        good = at_rest p t fit w closed classes q (bind n v q.held) g (ap rest_of (head_send p r k)) (closed (state (onward (state_in p q) (rest p r))) (by_state g.present (send_rest n (rest p r) d (row_for classes v) sends)))
            (closed (flow n (row_for classes v)) (by_state g.present (send_name n (rest p r) d (row_for classes v) sends)), covered, g.held);
        there = there;
        covered = covered;
        mailed = closed (mail d (row_for classes v)) (by_state g.present (send_mail n (rest p r) d (row_for classes v) sends));
        allowed = allowed;
        follows = rule_send p t (state_in p q) g.present d (row_for classes v) (value_letter p v) k addressee (classed j there) value allowed;
      }

  pub send_step : act p qs i q ≡ some qs' → Sent p t classes qs i q qs'
  send_step h =
      let r : ℕ = q.location in
      let moved_with : Value → Processes = λ v. set qs i (moved q (rest p r) (bind (num p r) v q.held)) in
      let b = bind_some (value_of p q.held (num p (r + 1))) (λ target. ◌>>=◌ (process_of target) (λ j. ◌>>=◌ (value_of p q.held (num p (r + 2))) (λ v. deliver (moved_with v) j v))) qs' (sym (act_send p qs i q k) ∙ h) in
      let d = bind_some (process_of b.value) (λ j. ◌>>=◌ (value_of p q.held (num p (r + 2))) (λ v. deliver (moved_with v) j v)) qs' b.then in
      let e = bind_some (value_of p q.held (num p (r + 2))) (λ v. deliver (moved_with v) d.value v) qs' d.then in
      sent b.value e.value d.value b.given d.given e.given e.then

-- one message more, which mail has
pub mailed_more : (p : Program) (t : Tables) (classes : List ℕ) (c : ℕ) (vs : List Value) (v : Value) → Mailed p t classes c vs → Member t.mail c (row_for classes v) → Covered p t classes v → Mailed p t classes c (vs ++ (v ∷ []))
mailed_more p t classes c vs v h m covered w there =
    ⊎_elim (λ before. h w before)
    (λ last. let e = Memᴰ.eq_of_singleton last in
    (subst (λ (u : Value). Member t.mail c (row_for classes u)) (sym e) m, subst (Covered p t classes) (sym e) covered))
    (Memᴰ.append_cases vs there)
