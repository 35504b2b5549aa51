-- Steps that change one process and no mailbox: build, function, self, call, giving back, case.
use Prim.Native.Nat.{ℕ, ◌+◌, ◌<◌}
use native.Mathlib.Omega.{arith}
use mathlib.Core.Path.{◌≡◌, refl, sym, ◌∙◌, ap, subst}
use mathlib.Core.List.{List, [], ◌∷◌, Memᴰ}
use mathlib.Core.Option.{some, some-injective, none-ne-some}
use lib.ListN.{length, get_or, set, drop, length-take}
use Rattle.model.specs.Rows.{Program, tag, num, arity, kind}
use Rattle.model.specs.Rows.{give, build, function, call, self, case}
use Rattle.model.specs.Scopes.{rest}
use Rattle.model.specs.Heads.{nums, branch_rows, branch_body_of, call_at, head_at, gives, is_function, parameters, body}
use Rattle.model.specs.Values.{Value, closure, built, address, Bindings, bind, value_of, values_of, bind_all, Frame, Process, process, Processes}
use Rattle.model.specs.Matching.{Taken, first_branch}
use Rattle.model.specs.Run.{◌>>=◌, moved, Function, function_of, give_back, enter, act}
use Rattle.model.specs.Tables.{Tables, State, onward}
use Rattle.model.specs.Tables.{state as triple}
use Rattle.model.specs.Letters.{return_of, state_in}
use Rattle.model.specs.Rules.{quiet, rules}
use Rattle.model.specs.Wanted.{Member, ListedState, Closed, flow, state, build_name, build_rest, function_name, function_rest, self_name, self_rest, call_parameter, call_body, return_name, return_rest, by_state}
use Rattle.model.specs.Wanted.{Returns, MayCall, by_case}
use Rattle.model.proofs.Transitions.Callees.{function_of_some}
use Rattle.model.proofs.Heads.{tag_is, head_give, head_build, head_function, head_call, head_self, head_case}
use lib.Dec.{eqb}
use borrow.Author.Tests.{eq-eqb}
use Rattle.model.proofs.Logic.{or_left}
use Rattle.model.proofs.Acts.{act_give, act_build, act_function, act_call, act_self, act_case}
use Rattle.model.proofs.Covering.{row_for, names_of, Covered, Held}
use Rattle.model.proofs.Lookups.{bind_some, value_held, values_held, bind_all_held}
use Rattle.model.proofs.Parse.Reached.{RowsFit}
use Rattle.model.proofs.Parse.Heads.{rest_of}
use Rattle.model.proofs.Parse.Locations.{rest_location}
use Rattle.model.proofs.Parse.Functions.{body_location}
use Rattle.model.proofs.Parse.Branches.{case_branches}
use Rattle.model.proofs.Parse.Lengths.{ColumnsWhole, function_within}
use Rattle.model.proofs.Counting.Receives.{Chosen, chosen}
use Rattle.model.proofs.Steps.Letters.{Classes}
use Rattle.model.proofs.Steps.Branch.{branch_may, branch_good}
use Rattle.model.proofs.Invariant.{Frames, Good}
use Rattle.model.proofs.RuleAt.{moving, rule_build, rule_function, rule_self, rule_call, rule_give, rule_case}

-- process q has become another of the same class and mailbox, by a rule without an effect
pub record Quietly (p : Program) (t : Tables) (classes : List ℕ) (qs : Processes) (i : ℕ) (q : Process) (qs' : Processes) : Type 0 where
  pub to : ℕ
  pub held : Bindings
  pub frames : List Frame
  pub result : qs' ≡ set qs i (process q.class to held frames q.mailbox)
  pub good : Good p t classes (process q.class to held frames q.mailbox)
  pub follows : Memᴰ (moving p t (state_in p q) (triple q.class to (return_of p frames)) quiet) (rules p t)

by_frames {ℓ} : {A : Type ℓ} (l : List Frame) → (l ≡ [] → A) → ((f : Frame) (fs : List Frame) → l ≡ f ∷ fs → A) → A
by_frames [] a b = a refl
by_frames (f ∷ fs) a b = b f fs refl

-- a call has no more arguments than its count
few : (p : Program) (r : ℕ) (ns : List ℕ) → ns ≡ (call_at p r).arguments → (j : ℕ) → j < length ns → j < (call_at p r).count
unfolding call_at nums
few p r ns e j b =
    let l : List ℕ = drop (r + 3) p.rows.rights in
    omega (arith, length-take (num p (r + 2)) l, ap length e)

module _ (p : Program) (t : Tables) (fit : RowsFit p) (w : ColumnsWhole p) (closed : Closed p t) (classes : List ℕ) where
  -- at the rest, with one name more
  pub at_rest : (q : Process) (held : Bindings) → Good p t classes q → rest_of (head_at p q.location) ≡ some (rest p q.location) → ListedState t (onward (state_in p q) (rest p q.location)) → Held p t classes held → Good p t classes (moved q (rest p q.location) held)
  unfolding moved
  at_rest q held g k present h =
      record {
        location = rest_location g.location k;
        class = g.class;
        present = present;
        held = h;
        frames = g.frames;
        mailbox = g.mailbox;
      }

  module _ (qs : Processes) (i : ℕ) (q : Process) (qs' : Processes) (g : Good p t classes q) (h : act p qs i q ≡ some qs') where
    pub build_step : kind (tag p q.location) ≡ build → Quietly p t classes qs i q qs'
    unfolding moved row_for
    build_step k =
        let r : ℕ = q.location in
        let n : ℕ = num p r in
        let made : ℕ = num p (r + 1) in
        let ns : List ℕ = nums p (r + 2) (arity p made) in
        let wanted = head_build p r k in
        let b = bind_some (values_of p q.held ns) (λ vs. some (set qs i (moved q (rest p r) (bind n (built r made vs) q.held)))) qs' (sym (act_build p qs i q k) ∙ h) in
        let v = values_held p t closed classes q.held ns b.value g.held b.given in
        record {
          to = rest p r;
          held = bind n (built r made b.value) q.held;
          frames = q.frames;
          result = sym (some-injective _ qs' b.then);
          good = at_rest q (bind n (built r made b.value) q.held) g (ap rest_of wanted) (closed _ (by_state g.present (build_rest n made (rest p r) ns wanted)))
              (closed _ (by_state g.present (build_name n made (rest p r) ns wanted)), (tag_is (tag p r) build k, refl, v.0, v.1), g.held);
          follows = rule_build p t (state_in p q) g.present k;
        }

    pub function_step : kind (tag p q.location) ≡ function → Quietly p t classes qs i q qs'
    unfolding moved row_for is_function
    function_step k =
        let r : ℕ = q.location in
        let n : ℕ = num p r in
        let wanted = head_function p r k in
        let three = eq-eqb (tag p r) 3 (tag_is (tag p r) function k) in
        record {
          to = rest p r;
          held = bind n (closure r q.held) q.held;
          frames = q.frames;
          result = sym (some-injective _ qs' (sym (act_function p qs i q k) ∙ h));
          good = at_rest q (bind n (closure r q.held) q.held) g (ap rest_of wanted) (closed _ (by_state g.present (function_rest n (rest p r) wanted)))
              (closed _ (by_state g.present (function_name n (rest p r) wanted)), (or_left (eqb (tag p r) 3) (eqb (tag p r) 11) three, g.held), g.held);
          follows = rule_function p t (state_in p q) g.present k;
        }

    -- the process's own address stands for its class
    pub self_step : get_or classes i 0 ≡ q.class → i < length classes → kind (tag p q.location) ≡ self → Quietly p t classes qs i q qs'
    unfolding moved row_for
    self_step own there k =
        let r : ℕ = q.location in
        let n : ℕ = num p r in
        let wanted = head_self p r k in
        record {
          to = rest p r;
          held = bind n (address i) q.held;
          frames = q.frames;
          result = sym (some-injective _ qs' (sym (act_self p qs i q k) ∙ h));
          good = at_rest q (bind n (address i) q.held) g (ap rest_of wanted) (closed _ (by_state g.present (self_rest n (rest p r) wanted)))
              (subst (Member t.flow n) (sym own) (closed _ (by_state g.present (self_name n (rest p r) wanted))), there, g.held);
          follows = rule_self p t (state_in p q) g.present k;
        }

    module _ (k : kind (tag p q.location) ≡ call) (v : Value) (f : Function) (vs : Bindings) (callee : value_of p q.held (call_at p q.location).callee ≡ some v) (is : function_of p (call_at p q.location).count v ≡ some f) (given : values_of p q.held (call_at p q.location).arguments ≡ some vs) where
      known : Member t.flow (call_at p q.location).callee f.row × Covered p t classes (closure f.row f.held)
      unfolding row_for
      known =
          subst (λ (u : Value). Member t.flow (call_at p q.location).callee (row_for classes u) × Covered p t classes u)
          (function_of_some p (call_at p q.location).count v f is).0
          (value_held p t closed classes q.held (call_at p q.location).callee v g.held callee)

      may : MayCall p t (call_at p q.location) f.row
      may = (known.0, (function_of_some p (call_at p q.location).count v f is).1)

      -- "parameters hold the arguments' values"
      passed : Held p t classes (bind_all (parameters p f.row) vs f.held)
      passed =
          let (names, held) = values_held p t closed classes q.held (call_at p q.location).arguments vs g.held given in
          bind_all_held p t closed classes (parameters p f.row) vs f.held known.1.1 held
          (λ j w b m. closed (flow (get_or (parameters p f.row) j 0) w)
          (by_state g.present (call_parameter f.row j w (call_at p q.location) (head_call p q.location k) may
          (few p q.location (names_of vs) names j b) (subst (λ (l : List ℕ). Member t.flow (get_or l j 0) w) names m))))

      entered : qs' ≡ set qs i (enter p q f vs) → Quietly p t classes qs i q qs'
      unfolding enter return_of
      entered e =
          record {
            to = body p f.row;
            held = bind_all (parameters p f.row) vs f.held;
            frames = record { call = q.location; held = q.held } ∷ q.frames;
            result = e;
            good = record {
              location = body_location fit f.row (function_within w f.row known.1.0) known.1.0;
              class = g.class;
              present = closed (state (triple q.class (body p f.row) q.location)) (by_state g.present (call_body f.row (call_at p q.location) (head_call p q.location k) may));
              held = passed;
              frames = (
                record {
                  location = g.location;
                  is_call = tag_is (tag p q.location) call k;
                  present = g.present;
                  held = g.held;
                },
                g.frames,
              );
              mailbox = g.mailbox;
            };
            follows = rule_call p t (state_in p q) g.present f.row k may;
          }

    pub call_step : kind (tag p q.location) ≡ call → Quietly p t classes qs i q qs'
    call_step k =
        let call = call_at p q.location in
        let b = bind_some (value_of p q.held call.callee) (λ v. ◌>>=◌ (function_of p call.count v) (λ f. ◌>>=◌ (values_of p q.held call.arguments) (λ vs. some (set qs i (enter p q f vs))))) qs' (sym (act_call p qs i q k) ∙ h) in
        let d = bind_some (function_of p call.count b.value) (λ f. ◌>>=◌ (values_of p q.held call.arguments) (λ vs. some (set qs i (enter p q f vs)))) qs' b.then in
        let e = bind_some (values_of p q.held call.arguments) (λ vs. some (set qs i (enter p q d.value vs))) qs' d.then in
        entered k b.value d.value e.value b.given d.given e.given (sym (some-injective (set qs i (enter p q d.value e.value)) qs' e.then))

    -- giving back to the call that waits on top
    returned : (n : ℕ) (v : Value) (f : Frame) (fs : List Frame) → head_at p q.location ≡ gives n → kind (tag p q.location) ≡ give → Member t.flow n (row_for classes v) × Covered p t classes v → q.frames ≡ f ∷ fs → qs' ≡ set qs i (process q.class (call_at p f.call).rest (bind (call_at p f.call).name v f.held) fs q.mailbox) → Quietly p t classes qs i q qs'
    unfolding call_at kind return_of
    returned n v f fs head k known pushed e =
        let c : ℕ = q.class in
        let b : ℕ = return_of p fs in
        let s : State = triple c q.location f.call in
        let (x, xs) = subst (Frames p t classes c) pushed g.frames in
        let here : ListedState t s = subst (λ (l : List Frame). ListedState t (triple c q.location (return_of p l))) pushed g.present in
        let is_call : kind (tag p f.call) ≡ call = ap kind x.is_call in
        let returns : Returns p t s n b = record { gives_back = head; waits = x.present } in
        record {
          to = rest p f.call;
          held = bind (num p f.call) v f.held;
          frames = fs;
          result = e;
          good = record {
            location = rest_location x.location (ap rest_of (head_call p f.call is_call));
            class = g.class;
            present = closed (state (triple c (rest p f.call) b)) (by_state here (return_rest n b returns));
            held = (closed (flow (num p f.call) (row_for classes v)) (by_state here (return_name n b (row_for classes v) returns known.0)), known.1, x.held);
            frames = xs;
            mailbox = g.mailbox;
          };
          follows = subst (λ (l : List Frame). Memᴰ (moving p t (triple c q.location (return_of p l)) (triple c (rest p f.call) b) quiet) (rules p t)) (sym pushed)
              (rule_give p t s here b k x.present);
        }

    pub give_step : kind (tag p q.location) ≡ give → Quietly p t classes qs i q qs'
    unfolding give_back
    give_step k =
        let n : ℕ = num p q.location in
        let b = bind_some (value_of p q.held n) (λ v. ◌>>=◌ (give_back p q v q.frames) (λ q'. some (set qs i q'))) qs' (sym (act_give p qs i q k) ∙ h) in
        let d = bind_some (give_back p q b.value q.frames) (λ q'. some (set qs i q')) qs' b.then in
        let known = value_held p t closed classes q.held n b.value g.held b.given in
        by_frames q.frames
        (λ e. absurd (none-ne-some d.value (subst (λ (fs : List Frame). give_back p q b.value fs ≡ some d.value) e d.given)))
        (λ f fs e. returned n b.value f fs (head_give p q.location k) k known e
        (sym (ap (λ (x : Process). set qs i x) (some-injective _ d.value (subst (λ (l : List Frame). give_back p q b.value l ≡ some d.value) e d.given)) ∙ some-injective (set qs i d.value) qs' d.then)))

    -- a branch of a case, which may take the value
    taken : Classes p classes → kind (tag p q.location) ≡ case → (v : Value) (x : Taken) → value_of p q.held (num p q.location) ≡ some v → Chosen p q.held (branch_rows p (num p (q.location + 1)) (q.location + 2)) v x → qs' ≡ set qs i (moved q x.location x.held) → Quietly p t classes qs i q qs'
    unfolding moved
    taken classed k v x given ch e =
        let c : ℕ = q.class in
        let r : ℕ = q.location in
        let n : ℕ = num p r in
        let bs : List ℕ = branch_rows p (num p (r + 1)) (r + 2) in
        let (value, covered) = value_held p t closed classes q.held n v g.held given in
        let at = case_branches g.location (head_case p r k) in
        let may = branch_may p t fit w closed classes classed q g bs at ch.branch ch.listed v covered x.held ch.matches in
        record {
          to = branch_body_of p ch.branch;
          held = x.held;
          frames = q.frames;
          result = e ∙ ap (λ (y : ℕ). set qs i (process c y x.held q.frames q.mailbox)) ch.goes_on;
          good = branch_good p t fit w closed classes classed q g bs at ch.branch ch.listed v covered x.held ch.matches q.mailbox
              (by_case n bs ch.branch (row_for classes v) (head_case p r k) ch.listed value may) g.mailbox;
          follows = rule_case p t (state_in p q) g.present ch.branch (row_for classes v) k ch.listed value may;
        }

    pub case_step : Classes p classes → kind (tag p q.location) ≡ case → Quietly p t classes qs i q qs'
    case_step classed k =
        let r : ℕ = q.location in
        let n : ℕ = num p r in
        let bs : List ℕ = branch_rows p (num p (r + 1)) (r + 2) in
        let b = bind_some (value_of p q.held n) (λ v. ◌>>=◌ (first_branch p q.held bs v) (λ x. some (set qs i (moved q x.location x.held)))) qs' (sym (act_case p qs i q k) ∙ h) in
        let d = bind_some (first_branch p q.held bs b.value) (λ x. some (set qs i (moved q x.location x.held))) qs' b.then in
        taken classed k b.value d.value b.given (chosen p q.held bs b.value d.value d.given) (sym (some-injective (set qs i (moved q d.value.location d.value.held)) qs' d.then))
