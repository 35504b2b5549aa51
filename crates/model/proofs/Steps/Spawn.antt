-- A spawn adds a process of a class of its own, in a state that is wanted.
use Prim.Native.Nat.{ℕ, ◌+◌, ◌<◌}
use native.Mathlib.Omega.{arith}
use mathlib.Core.Path.{◌≡◌, sym, ◌∙◌, ap, subst}
use mathlib.Core.List.Memᴰ
use mathlib.Core.List.{List, [], ◌∷◌, ◌++◌, Memᴰ}
use mathlib.Core.Option.{some, some-injective}
use lib.ListN.{length, get_or, set, length-append}
use lib.Seq.{get_or-append_seam}
use lib.Dec.{eqb}
use borrow.Author.Tests.{eq-eqb}
use Rattle.model.specs.Rows.{Program, size, tag, num, kind}
use Rattle.model.specs.Rows.{spawn}
use Rattle.model.specs.Scopes.{rest}
use Rattle.model.specs.Heads.{body, is_class_of}
use Rattle.model.specs.Values.{Value, address, Bindings, bind, value_of, Process, Processes}
use Rattle.model.specs.Run.{◌>>=◌, moved, Function, function_of, spawned, act}
use Rattle.model.specs.Tables.{Tables, onward, state_index_of}
use Rattle.model.specs.Tables.{state as triple}
use Rattle.model.specs.Letters.{return_of, state_in}
use Rattle.model.specs.Rules.{starts, rules}
use Rattle.model.specs.Wanted.{Member, Closed, flow, state, Spawns, spawn_name, spawn_rest, spawn_body, by_state}
use Rattle.model.proofs.Logic.{or_left}
use Rattle.model.proofs.Heads.{tag_is, head_spawn}
use Rattle.model.proofs.Acts.{act_spawn}
use Rattle.model.proofs.Lookups.{bind_some, value_held}
use Rattle.model.proofs.Covering.{row_for, Covered}
use Rattle.model.proofs.Grow.{held_grown}
use Rattle.model.proofs.Parse.Reached.{RowsFit}
use Rattle.model.proofs.Parse.Heads.{rest_of}
use Rattle.model.proofs.Parse.Functions.{body_location}
use Rattle.model.proofs.Parse.Lengths.{ColumnsWhole, function_within}
use Rattle.model.proofs.Transitions.Callees.{function_of_some}
use Rattle.model.proofs.Steps.Quiet.{at_rest}
use Rattle.model.proofs.Invariant.{Good, good_grown}
use Rattle.model.proofs.RuleAt.{moving, rule_spawn}

-- process q has moved on, and a process of class `q.location` has come, by the rule that starts it; the classes are those after
pub record Spawned (p : Program) (t : Tables) (classes : List ℕ) (qs : Processes) (i : ℕ) (q : Process) (qs' : Processes) : Type 0 where
  pub held : Bindings
  pub function : Function
  pub result : qs' ≡ set qs i (moved q (rest p q.location) held) ++ (spawned p q.location function ∷ [])
  pub good : Good p t (classes ++ (q.location ∷ [])) (moved q (rest p q.location) held)
  pub new_good : Good p t (classes ++ (q.location ∷ [])) (spawned p q.location function)
  pub follows : Memᴰ (moving p t (state_in p q) (onward (state_in p q) (rest p q.location)) (starts (state_index_of t (triple q.location (body p function.row) (size p))))) (rules p t)

module _ (p : Program) (t : Tables) (fit : RowsFit p) (w : ColumnsWhole p) (closed : Closed p t) (classes : List ℕ) (qs : Processes) (sized : length qs ≡ length classes) (i : ℕ) (q : Process) (qs' : Processes) (g : Good p t classes q) (k : kind (tag p q.location) ≡ spawn) where
  come : (v : Value) (f : Function) → value_of p q.held (num p (q.location + 1)) ≡ some v → function_of p 0 v ≡ some f → qs' ≡ set qs i (moved q (rest p q.location) (bind (num p q.location) (address (length qs)) q.held)) ++ (spawned p q.location f ∷ []) → Spawned p t classes qs i q qs'
  unfolding row_for spawned is_class_of return_of
  come v f given is e =
      let r : ℕ = q.location in
      let n : ℕ = num p r in
      let (same, none-taken) = function_of_some p 0 v f is in
      let (may, covered) = subst (λ (u : Value). Member t.flow (num p (r + 1)) (row_for classes u) × Covered p t classes u) same (value_held p t closed classes q.held (num p (r + 1)) v g.held given) in
      let spawns : Spawns p t r n (rest p r) f.row = record { function = num p (r + 1); spawns_at = head_spawn p r k; may_be = may; no_parameters = none-taken } in
      let grown = good_grown p t classes (r ∷ []) q g in
      let own : get_or (classes ++ (r ∷ [])) (length qs) 0 ≡ r = rw sized (get_or-append_seam classes r [] 0) in
      let inside : length qs < length (classes ++ (r ∷ [])) = omega (arith, length-append classes (r ∷ [])) in
      record {
        held = bind n (address (length qs)) q.held;
        function = f;
        result = e;
        good = at_rest p t fit w closed (classes ++ (r ∷ [])) q (bind n (address (length qs)) q.held) grown (ap rest_of (head_spawn p r k)) (closed (state (onward (state_in p q) (rest p r))) (by_state g.present (spawn_rest n (rest p r) f.row spawns)))
            (subst (Member t.flow n) (sym own) (closed (flow n r) (by_state g.present (spawn_name n (rest p r) f.row spawns))), inside, grown.held);
        new_good = record {
          location = body_location fit f.row (function_within w f.row covered.0) covered.0;
          class = or_left (eqb (tag p r) 6) (eqb r (size p)) (eq-eqb (tag p r) 6 (tag_is (tag p r) spawn k));
          present = closed (state (triple r (body p f.row) (size p))) (by_state g.present (spawn_body n (rest p r) f.row spawns));
          held = held_grown p t classes (r ∷ []) f.held covered.1;
          frames = tt;
          mailbox = λ u there. absurd (Memᴰ.not-nil there);
        };
        follows = rule_spawn p t (state_in p q) g.present f.row k may none-taken;
      }

  pub spawn_step : act p qs i q ≡ some qs' → Spawned p t classes qs i q qs'
  spawn_step h =
      let r : ℕ = q.location in
      let after : Function → Processes = λ f. set qs i (moved q (rest p r) (bind (num p r) (address (length qs)) q.held)) ++ (spawned p r f ∷ []) in
      let b = bind_some (value_of p q.held (num p (r + 1))) (λ v. ◌>>=◌ (function_of p 0 v) (λ f. some (after f))) qs' (sym (act_spawn p qs i q k) ∙ h) in
      let d = bind_some (function_of p 0 b.value) (λ f. some (after f)) qs' b.then in
      come b.value d.value b.given d.given (sym (some-injective (after d.value) qs' d.then))
