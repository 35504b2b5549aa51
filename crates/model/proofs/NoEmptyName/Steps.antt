-- Each step keeps the invariant.
use Prim.Native.Nat.{ℕ, ◌+◌, ◌<◌}
use native.Mathlib.Omega.{arith}
use mathlib.Core.Path.{◌≡◌, refl, sym, ◌∙◌, ap, subst}
use mathlib.Core.Bool.{true}
use mathlib.Core.List.{List, ◌∷◌, ◌++◌, Memᴰ}
use mathlib.Core.Option.{some}
use lib.ListN.{length, set}
use Rattle.model.specs.Limits.{max_depth}
use Rattle.model.specs.Rows.{Program, size, num}
use Rattle.model.specs.Heads.{Call, Head, head_at, call_at, nums, builds, branch_body_of, is_function, parameters, body}
use Rattle.model.specs.Values.{Value, closure, built, address, Bindings, empty, bind, Frame, Process, process, Processes}
use Rattle.model.specs.Patterns.{HoldEach, FirstBranch}
use Rattle.model.specs.Transitions.{Acting, Takes, BoundTo, no_parameters, Step, builds_value, makes_function, yields_self, calls_function, gives_back, sends_message, spawns_process, takes_branch, takes_message}
use Rattle.model.proofs.Covering.{names_of}
use Rattle.model.proofs.Parse.Reached.{RowsFit, stands_row}
use Rattle.model.proofs.Parse.Heads
use Rattle.model.proofs.Parse.Heads.{rest_of, head_call, build_tag, call_tag}
use Rattle.model.proofs.Parse.Locations.{Location, rest_location}
use Rattle.model.proofs.Parse.Functions.{row_form, body_location}
use Rattle.model.proofs.Parse.Branches.{Branches, branch_in, branch_location, case_branches, receive_branches}
use Rattle.model.proofs.Parse.Lengths.{ColumnsWhole, call_length, build_length}
use Rattle.model.proofs.NoEmptyName.Held.{Covers, covers_rest, covers_body, covers_branch}
use Rattle.model.proofs.NoEmptyName.Values.{Full, full_function, full_built, full_address, AllFull, none_held, one_held, bound_full, bound_extends, holds_full, each_full, each_many}
use Rattle.model.proofs.NoEmptyName.Matched.{matched}
use Rattle.model.proofs.NoEmptyName.Parts.{name_at, parameters_hold}
use Rattle.model.proofs.NoEmptyName.Processes.{Each, no_more, and_then, each_at, each_set, each_append, each_without, FullFrame, FullProcess}

-- a function value, taken apart
function_full : {p : Program} {f : ℕ} {kept : Bindings} → Full p (closure f kept) → (f < size p) × (is_function p f ≡ true) × Covers p kept f × AllFull p kept
function_full (full_function below is covers full) = (below, is, covers, full)

frames_full : {p : Program} {f : Frame} {fs : List Frame} → Each (FullFrame p) (f ∷ fs) → FullFrame p f × Each (FullFrame p) fs
frames_full (and_then h hs) = (h, hs)

module _ {p : Program} (fit : RowsFit p) (w : ColumnsWhole p) where
  -- the rest of a head, with its name bound
  rest_full : {q : Process} {h : Head} {n r : ℕ} → FullProcess p q → head_at p q.location ≡ h → rest_of h ≡ some r → num p q.location ≡ n → (v : Value) → Full p v → FullProcess p (process q.class r (bind n v q.held) q.frames q.mailbox)
  rest_full {q} g e to named v f =
      let to' = ap rest_of e ∙ to in
      record {
        location = rest_location g.location to';
        covers = rw (← named) (covers_rest fit g.location to' v g.covers);
        full = one_held f g.full;
        frames = g.frames;
        mailbox = g.mailbox;
      }

  -- a branch taken
  branch_full : {q : Process} {bs : List ℕ} {v : Value} {b : ℕ} {held : Bindings} (g : FullProcess p q) → Branches p q.location bs g.location.below g.location.end → FirstBranch p q.held bs v b held → Full p v → (mailbox : List Value) → Each (Full p) mailbox → FullProcess p (process q.class (branch_body_of p b) held q.frames mailbox)
  branch_full {q} {bs} {v} {b} {held} g at first f mailbox ms =
      let listed : Memᴰ b bs = rw first.there (mathlib.Core.List.Memᴰ.append_right first.before (mathlib.Core.List.Memᴰ.head refl)) in
      let br = branch_in at listed in
      let (same, on) = matched first.matches.1 max_depth (branch_body_of p b) f g.full br.pattern_stands.spans in
      record {
        location = branch_location br;
        covers = covers_branch fit g.location at listed g.covers on.extends (λ k lo hi u. on.own k lo (omega arith) u);
        full = on.full;
        frames = g.frames;
        mailbox = ms;
      }

  -- a function entered
  entered : {f n : ℕ} {kept vs held : Bindings} → Full p (closure f kept) → Takes p n f → BoundTo kept (parameters p f) vs held → length (names_of vs) ≡ n → AllFull p vs → Location p (body p f) × Covers p held (body p f) × AllFull p held
  entered {f} x takes b many vs =
      let (below, is, covers, full) = function_full x in (
        body_location fit f below is,
        covers_body fit f below is covers (bound_extends b) (parameters_hold w (row_form fit f below is) b (many ∙ sym takes.1)),
        bound_full b full vs,
      )

  -- a function spawned has no parameters
  no_arguments_bound : (f : ℕ) (kept : Bindings) → num p (f + 1) ≡ 0 → BoundTo kept (parameters p f) empty kept
  unfolding parameters nums
  no_arguments_bound f kept z = rw z no_parameters

  build_full : {q : Process} {n k r : ℕ} {ns : List ℕ} {vs : Bindings} → FullProcess p q → head_at p q.location ≡ builds n k ns r → HoldEach p q.held ns vs → Full p (built q.location k vs)
  build_full {q} {n} {k} {r} {ns} g e h =
      let (t, made, names) = build_tag p q.location n k r ns e in
      let long = build_length w g.location t in
      full_built (each_many fit h ∙ ap length (sym names) ∙ rw made at long) (each_full fit h g.full)

  module _ {qs : Processes} (gs : Each (FullProcess p) qs) (i : ℕ) where
    acting : {q : Process} {h : Head} → Acting p qs i q h → FullProcess p q
    acting a = each_at i gs a.there

    -- the rest, where the head's name is bound to v
    went_on : {q : Process} {h : Head} {n r : ℕ} → Acting p qs i q h → rest_of h ≡ some r → num p q.location ≡ n → (v : Value) → Full p v → Each (FullProcess p) (set qs i (process q.class r (bind n v q.held) q.frames q.mailbox))
    went_on a to named v f = each_set i gs (rest_full (acting a) a.head to named v f)

    pub step_full : {qs' : Processes} → Step p qs i qs' → Each (FullProcess p) qs'
    unfolding call_at names_of
    step_full (builds_value {q = q} {n = n} {k = k} {r = r} {ns = ns} {vs = vs} a h) =
        went_on a refl (sym (name_at p q.location _ a.head)) (built q.location k vs) (build_full (acting a) a.head h)
    step_full (makes_function {q = q} {n = n} {r = r} a) =
        let g = acting a in
        went_on a refl (sym (name_at p q.location _ a.head)) (closure q.location q.held)
        (full_function (stands_row g.location.stands).within (Heads.makes_function p q.location n r a.head) g.covers g.full)
    step_full (yields_self {q = q} a) = went_on a refl (sym (name_at p q.location _ a.head)) (address i) full_address
    step_full (calls_function {q = q} {call = call} {vs = vs} a k takes ks b) =
        let g = acting a in
        let (t, same) = call_tag p q.location call a.head in
        let long = subst (λ (c : Call). length c.arguments ≡ c.count) same (call_length w g.location t) in
        let (location, covers, full) = entered (holds_full fit k g.full) takes b (each_many fit ks ∙ long) (each_full fit ks g.full) in
        each_set i gs (record {
          location = location;
          covers = covers;
          full = full;
          frames = and_then (record { location = g.location; is_call = t; covers = g.covers; full = g.full }) g.frames;
          mailbox = g.mailbox;
        })
    step_full (gives_back {q = q} {v = v} {pushed = pushed} {frames = frames} a k there) =
        let g = acting a in
        let (f, fs) = frames_full (subst (Each (FullFrame p)) there g.frames) in
        let to = ap rest_of (head_call p pushed.call f.is_call) in
        each_set i gs (record {
          location = rest_location f.location to;
          covers = covers_rest fit f.location to v f.covers;
          full = one_held (holds_full fit k g.full) f.full;
          frames = fs;
          mailbox = g.mailbox;
        })
    step_full (sends_message {q = q} {t = t} {j = j} {v = v} a to k same there) =
        let f = holds_full fit k (acting a).full in
        let sent = subst (Each (FullProcess p)) (sym same) (went_on a refl (sym (name_at p q.location _ a.head)) v f) in
        let g = each_at j sent there in
        each_set j sent (record {
          location = g.location;
          covers = g.covers;
          full = g.full;
          frames = g.frames;
          mailbox = each_append g.mailbox (and_then f no_more);
        })
    step_full (spawns_process {q = q} {f = f} {kept = kept} a k takes) =
        let x = holds_full fit k (acting a).full in
        let (location, covers, full) = entered x takes (no_arguments_bound f kept takes.1) refl none_held in
        each_append (went_on a refl (sym (name_at p q.location _ a.head)) (address (length qs)) full_address)
        (and_then (record { location = location; covers = covers; full = full; frames = no_more; mailbox = no_more }) no_more)
    step_full (takes_branch {q = q} a k first) =
        let g = acting a in
        each_set i gs (branch_full g (case_branches g.location a.head) first (holds_full fit k g.full) q.mailbox g.mailbox)
    step_full (takes_message before behind v a there never first) =
        let g = acting a in
        let (f, others) = each_without before v behind (subst (Each (Full p)) there g.mailbox) in
        each_set i gs (branch_full g (receive_branches g.location a.head) first f (before ++ behind) others)
