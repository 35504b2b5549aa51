-- Refusal 8: nothing is refused exactly where the tables are closed, with a way to want an entry for each sentence of the paper; and what is
-- refused lacks a wanted entry.
use Prim.Native.Nat.{ℕ, ◌<◌}
use native.Mathlib.Omega.{arith}
use mathlib.Core.Path.{◌≡◌, refl, sym, subst}
use mathlib.Core.Bool.{true, false, not}
use mathlib.Core.Logic.Iff
use mathlib.Core.Logic.{◌↔◌, ◌⊎◌, inl, inr, ⊎_elim}
use mathlib.Core.List.{List}
use mathlib.Core.Option.{none}
use lib.Dec.{eqb}
use borrow.Author.Tests.{not-true}
use Rattle.model.specs.declared.Sizes.{Sizes}
use Rattle.model.specs.Rows.{Program, program, size, tag, num}
use Rattle.model.specs.Heads.{Head, head_at, body, gives, builds, makes, calls, sends, spawns, selfs, cases, receives, no_head, start}
use Rattle.model.specs.Tables.{Tables, has, State, onward, state_at}
use Rattle.model.specs.Tables.{state as triple}
use Rattle.model.specs.Closed.{state_closed, start_state, is_opening_closed, open_check}
use Rattle.model.specs.Wanted.{ListedState, MayTake, Returns, Sends, Spawns, Entry, flow, mail, state, Present, by_case, by_receive, WantedFirst, global_name, first_state, WantedBy, build_name, build_rest, function_name, function_rest, self_name, self_rest, call_parameter, call_body, return_name, return_rest, send_mail, send_name, send_rest, spawn_name, spawn_rest, spawn_body, branch_name, branch_state, by_opening, by_state, Closed}
use Rattle.model.specs.Refusals.{Lacks}
use Rattle.model.proofs.Logic.{not_passes}
use Rattle.model.proofs.Rows.{tag_inside}
use Rattle.model.proofs.Exact.Tests.{eqb_iff, not_iff}
use Rattle.model.proofs.Exact.Checks.{then_iff, unless_iff, first_none}
use Rattle.model.proofs.Exact.Members.{states_iff}
use Rattle.model.proofs.Exact.Finds.{Finds, finds_map, finds_flow, finds_state, finds_and, finds_where, finds_all, found_iff, missing_iff}
use Rattle.model.proofs.Exact.States.{BranchAsks, ReturnAsks, Asks, finds_asked}

module _ (p : Program) (t : Tables) where
  module _ (s : State) where
    -- what a state wants, its head asks for
    at_head : (e : Entry) (h : Head) → head_at p s.location ≡ h → Asks p t s h e → Asks p t s (head_at p s.location) e
    at_head e h k x = subst (λ z. Asks p t s z e) (sym k) x

    given : (e : Entry) (n b : ℕ) → Returns p t s n b → ReturnAsks p t s n b e → Asks p t s (head_at p s.location) e
    given e n b r x = at_head e (gives n) r.gives_back (b, r.waits, x)

    taken : (e : Entry) (q v : ℕ) → MayTake p t s q v → BranchAsks p t s v q e → Asks p t s (head_at p s.location) e
    taken e q' v' (by_case n qs q v h i m y) x = at_head e (cases n qs) h (v, m, (q, i, (y, x)))
    taken e q' v' (by_receive qs q v h i m y) x = at_head e (receives qs) h (v, m, (q, i, (y, x)))

    sent : (e : Entry) (n r d v : ℕ) → Sends p t s.location n r d v → (e ≡ mail d v) ⊎ ((e ≡ flow n v) ⊎ (e ≡ state (onward s r))) → Asks p t s (head_at p s.location) e
    sent e n r d v w x = at_head e (sends n w.target w.message r) w.sends_at (d, w.to_class, (w.class, (v, w.value, x)))

    spawned : (e : Entry) (n r f : ℕ) → Spawns p t s.location n r f → (e ≡ flow n s.location) ⊎ ((e ≡ state (onward s r)) ⊎ (e ≡ state (triple s.location (body p f) (size p)))) → Asks p t s (head_at p s.location) e
    spawned e n r f w x = at_head e (spawns n w.function r) w.spawns_at (f, w.may_be, (w.no_parameters, x))

    asked : (e : Entry) → WantedBy p t s e → Asks p t s (head_at p s.location) e
    asked e (build_name n k r ns h) = at_head e (builds n k ns r) h (inl refl)
    asked e (build_rest n k r ns h) = at_head e (builds n k ns r) h (inr refl)
    asked e (function_name n r h) = at_head e (makes n r) h (inl refl)
    asked e (function_rest n r h) = at_head e (makes n r) h (inr refl)
    asked e (self_name n r h) = at_head e (selfs n r) h (inl refl)
    asked e (self_rest n r h) = at_head e (selfs n r) h (inr refl)
    asked e (call_parameter f i v call h x b y) = at_head e (calls call) h (f, x.0, (x.1, inl (i, b, (v, y, refl))))
    asked e (call_body f call h x) = at_head e (calls call) h (f, x.0, (x.1, inr refl))
    asked e (return_name n b v x y) = given e n b x (inl (v, y, refl))
    asked e (return_rest n b x) = given e n b x (inr refl)
    asked e (send_mail n r d v x) = sent e n r d v x (inl refl)
    asked e (send_name n r d v x) = sent e n r d v x (inr (inl refl))
    asked e (send_rest n r d v x) = sent e n r d v x (inr (inr refl))
    asked e (spawn_name n r f x) = spawned e n r f x (inl refl)
    asked e (spawn_rest n r f x) = spawned e n r f x (inr (inl refl))
    asked e (spawn_body n r f x) = spawned e n r f x (inr (inr refl))
    asked e (branch_name q v n w x y) = taken e q v x (inl (n, w, y, refl))
    asked e (branch_state q v x) = taken e q v x (inr refl)

    -- and what its head asks for, it wants
    module _ (e : Entry) where
      abbrev Wants : Type 0
      Wants = WantedBy p t s e

      same : (x : Entry) → WantedBy p t s x → e ≡ x → Wants
      same x w k = subst (WantedBy p t s) (sym k) w

      wanted_branch : (q v : ℕ) → MayTake p t s q v → BranchAsks p t s v q e → Wants
      wanted_branch q v x = ⊎_elim (λ y. let (n, w, z, k) = y in same _ (branch_name q v n w x z) k) (same _ (branch_state q v x))

      wanted : (h : Head) → head_at p s.location ≡ h → Asks p t s h e → Wants
      wanted (gives n) h x =
          let (b, waits, y) = x in
          let r : Returns p t s n b = record { gives_back = h; waits = waits } in
          ⊎_elim (λ z. let (v, m, k) = z in same _ (return_name n b v r m) k) (same _ (return_rest n b r)) y
      wanted (builds n k ns r) h x = ⊎_elim (same _ (build_name n k r ns h)) (same _ (build_rest n k r ns h)) x
      wanted (makes n r) h x = ⊎_elim (same _ (function_name n r h)) (same _ (function_rest n r h)) x
      wanted (calls call) h x =
          let (f, m, y) = x in
          ⊎_elim (λ z. let (i, b, u) = z in let (v, held, k) = u in same _ (call_parameter f i v call h (m, y.0) b held) k)
          (same _ (call_body f call h (m, y.0))) y.1
      wanted (sends n target message r) h x =
          let (d, m, y) = x in
          let (v, held, z) = y.1 in
          let w : Sends p t s.location n r d v = record { target = target; message = message; sends_at = h; to_class = m; class = y.0; value = held } in
          ⊎_elim (same _ (send_mail n r d v w)) (⊎_elim (same _ (send_name n r d v w)) (same _ (send_rest n r d v w))) z
      wanted (spawns n function r) h x =
          let (f, m, y) = x in
          let w : Spawns p t s.location n r f = record { function = function; spawns_at = h; may_be = m; no_parameters = y.0 } in
          ⊎_elim (same _ (spawn_name n r f w)) (⊎_elim (same _ (spawn_rest n r f w)) (same _ (spawn_body n r f w))) y.1
      wanted (selfs n r) h x = ⊎_elim (same _ (self_name n r h)) (same _ (self_rest n r h)) x
      wanted (cases n qs) h x = let (v, m, y) = x in let (q, i, z) = y in wanted_branch q v (by_case n qs q v h i m z.0) z.1
      wanted (receives qs) h x = let (v, m, y) = x in let (q, i, z) = y in wanted_branch q v (by_receive qs q v h i m z.0) z.1
      wanted no_head h x = absurd x

    -- "Then, for each state": the test finds what the state wants
    pub finds_wanted : Finds t (state_closed p t s) (WantedBy p t s)
    finds_wanted = finds_map t (λ e. wanted e (head_at p s.location) refl) asked (finds_asked p t s)

  -- a state has all that it wants, or lacks something
  abbrev pub Kept : State → Type 0
  Kept s = (e : Entry) → WantedBy p t s e → Present t e

  kept_iff : (i : ℕ) → (not (state_closed p t (state_at t i)) ≡ false) ↔ Kept (state_at t i)
  kept_iff i = Iff.trans (not_iff _) (found_iff t (finds_wanted (state_at t i)))

  pub lacks_iff : (i : ℕ) → (not (state_closed p t (state_at t i)) ≡ true) ↔ Lacks p t (state_at t i)
  lacks_iff i = Iff.trans (not-true _, not_passes _) (missing_iff t (finds_wanted (state_at t i)))

  all_closed : ((e : Entry) → WantedFirst p e → Present t e) → ((s : State) → ListedState t s → Kept s) → Closed p t
  all_closed o k e (by_opening x) = o e x
  all_closed o k e (by_state {s = s} m x) = k s m e x

  -- "Wanted first"
  module _ (below : (r : ℕ) → tag p r ≡ 11 → r < size p) where
    wanted_first : (e : Entry) → ((r : ℕ) × (r < size p) × ((tag p r ≡ 11) × (e ≡ flow (num p r) r))) ⊎ (e ≡ state (triple (size p) (start p) (size p))) → WantedFirst p e
    wanted_first e =
        ⊎_elim (λ x. let (r, b, y) = x in subst (WantedFirst p) (sym y.1) (global_name r y.0)) (λ k. subst (WantedFirst p) (sym k) first_state)

    first_wanted : (e : Entry) → WantedFirst p e → ((r : ℕ) × (r < size p) × ((tag p r ≡ 11) × (e ≡ flow (num p r) r))) ⊎ (e ≡ state (triple (size p) (start p) (size p)))
    first_wanted e (global_name r x) = inl (r, below r x, (x, refl))
    first_wanted e first_state = inr refl

    pub finds_first : Finds t (is_opening_closed p t) (WantedFirst p)
    unfolding is_opening_closed start_state
    finds_first =
        finds_map t wanted_first first_wanted
        (finds_and t _ _
        (finds_all t (size p) _ (λ r. finds_where t (eqb (tag p r) 11) (has t.flow (num p r) r) (eqb_iff (tag p r) 11) (finds_flow t (num p r) r)))
        (finds_state t (triple (size p) (start p) (size p))))

    -- Refusal 8, where no row past the end has the tag of a function
    pub open_none_of : (s : Sizes) → (open_check s p t ≡ none) ↔ Closed p t
    unfolding open_check
    open_none_of s =
        Iff.trans
        (then_iff _ _ (unless_iff _ _ (found_iff t finds_first))
        (Iff.trans (first_none t.states.size _ _ (λ i b. kept_iff i)) (states_iff t)))
        (λ h. all_closed h.0 h.1, λ w. (λ e x. w e (by_opening x), λ s m e x. w e (by_state m x)))

pub function_below : (ws : List ℕ) (s : Sizes) (r : ℕ) → tag (program ws s) r ≡ 11 → r < size (program ws s)
function_below ws s r h = tag_inside ws s r (omega arith)

-- Refusal 8 of a message
pub open_none : (ws : List ℕ) (s : Sizes) (t : Tables) → (open_check s (program ws s) t ≡ none) ↔ Closed (program ws s) t
open_none ws s t = open_none_of (program ws s) t (function_below ws s) s
