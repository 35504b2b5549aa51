-- What each state asks for, by its head: the test `state_closed` finds just that.
use Prim.Native.Nat.{ℕ, ◌<◌}
use mathlib.Core.Path.{◌≡◌, refl, sym, ◌∙◌, ap, subst}
use mathlib.Core.Bool.{true}
use mathlib.Core.Logic.Iff
use mathlib.Core.Logic.{◌↔◌, ◌⊎◌, inl, inr, ⊎_elim}
use mathlib.Core.List.Memᴰ
use mathlib.Core.List.{List, [], ◌∷◌, Memᴰ}
use lib.ListN.{get_or}
use lib.Dec.{eqb}
use Rattle.model.specs.Limits.{max_depth}
use Rattle.model.specs.Rows.{Program, size}
use Rattle.model.specs.Heads.{Call, call_at, Head, head_at, gives, builds, makes, calls, sends, spawns, selfs, cases, receives, no_head, branch_body_of, is_class_of, parameters, body, takes}
use Rattle.model.specs.Tables.{Tables, State, onward, state_at}
use Rattle.model.specs.Tables.{state as triple}
use Rattle.model.specs.Closed.{may_match, names_hold, may_take, branches_closed, passes, entered, is_call_closed, waits_for, resumed, is_give_closed, send_closed, begun, spawn_closed, state_closed}
use Rattle.model.specs.Wanted.{Member, ListedState, MayMatch, AtSpot, Entry, flow, mail, state}
use Rattle.model.proofs.Exact.Tests.{eqb_iff, and_iff}
use Rattle.model.proofs.Exact.Finds.{Finds, finds_map, finds_none, finds_flow, finds_mail, finds_state, finds_and, finds_where, finds_all, finds_each}
use Rattle.model.proofs.Exact.MayMatch.{Held, may_match_iff, finds_names}

module _ (p : Program) (t : Tables) (s : State) where
  -- the branch at row q, taken by v
  abbrev pub BranchAsks : ℕ → ℕ → Entry → Type 0
  BranchAsks v q e = Held (AtSpot p t max_depth q v) e ⊎ (e ≡ state (onward s (branch_body_of p q)))

  -- each branch that may match v
  abbrev pub BranchesAsk : List ℕ → ℕ → Entry → Type 0
  BranchesAsk qs v e = (q : ℕ) × Memᴰ q qs × (MayMatch p t max_depth q v × BranchAsks v q e)

  finds_branches : (qs : List ℕ) (v : ℕ) → Finds t (branches_closed p t s qs v) (BranchesAsk qs v)
  unfolding branches_closed may_take
  finds_branches [] v = finds_none t (λ e x. Memᴰ.not-nil x.1)
  finds_branches (q ∷ qs) v =
      finds_map t (λ e. ⊎_elim (λ x. (q, Memᴰ.head refl, x)) (λ x. let (r, m, y) = x in (r, Memᴰ.tail m, y)))
      (λ e x. let (r, m, y) = x in ⊎_elim (λ k. inl (subst (λ z. MayMatch p t max_depth z v × BranchAsks v z e) k y)) (λ n. inr (r, n, y)) (Memᴰ.cases_cons m))
      (finds_and t _ (branches_closed p t s qs v)
      (finds_where t (may_match p t max_depth q v) _ (may_match_iff p t max_depth q v)
      (finds_and t (names_hold p t max_depth q v) _ (finds_names p t max_depth q v) (finds_state t (onward s (branch_body_of p q)))))
      (finds_branches qs v))

  -- a call, where the callee may be f
  abbrev pub CallAsks : Call → ℕ → Entry → Type 0
  CallAsks call f e =
      (takes p f call.count ≡ true) ×
      (((i : ℕ) × (i < call.count) × ((v : ℕ) × Member t.flow (get_or call.arguments i 0) v × (e ≡ flow (get_or (parameters p f) i 0) v))) ⊎
      (e ≡ state (triple s.class (body p f) s.location)))

  finds_call : (call : Call) → Finds t (is_call_closed p t s call) (λ e. (f : ℕ) × Member t.flow call.callee f × CallAsks call f e)
  unfolding is_call_closed passes entered
  finds_call call =
      finds_each t t.flow call.callee _
      (λ f. finds_where t (takes p f call.count) _ Iff.rfl
      (finds_and t (passes t call (parameters p f)) _
      (finds_all t call.count _ (λ i. finds_each t t.flow (get_or call.arguments i 0) _ (finds_flow t (get_or (parameters p f) i 0))))
      (finds_state t (triple s.class (body p f) s.location))))

  -- giving the name n back behind the call, to a state that returns to b
  abbrev pub ReturnAsks : ℕ → ℕ → Entry → Type 0
  ReturnAsks n b e =
      ((v : ℕ) × Member t.flow n v × (e ≡ flow (call_at p s.return).name v)) ⊎
      (e ≡ state (triple s.class (call_at p s.return).rest b))

  -- for each state (c, call, b)
  abbrev pub GiveAsks : ℕ → Entry → Type 0
  GiveAsks n e = (b : ℕ) × ListedState t (triple s.class s.return b) × ReturnAsks n b e

  waits_for_iff : (w : State) → (waits_for w s ≡ true) ↔ (w ≡ triple s.class s.return w.return)
  unfolding waits_for
  waits_for_iff w =
      Iff.trans (and_iff (eqb w.class s.class) (eqb w.location s.return) (eqb_iff w.class s.class) (eqb_iff w.location s.return)) (
        λ h i. record { class = h.0 i; location = h.1 i; return = w.return },
        λ h. (ap (λ z. z.class) h, ap (λ z. z.location) h),
      )

  -- what the state with number i asks for, where it waits
  abbrev WaitingAsks : ℕ → ℕ → Entry → Type 0
  WaitingAsks n i e =
      (state_at t i ≡ triple s.class s.return (state_at t i).return) ×
      (((v : ℕ) × Member t.flow n v × (e ≡ flow (call_at p s.return).name v)) ⊎ (e ≡ state (resumed p (state_at t i))))

  gives_to : (n : ℕ) (e : Entry) → (i : ℕ) × (i < t.states.size) × WaitingAsks n i e → GiveAsks n e
  unfolding resumed
  gives_to n e x =
      let (i, b, y) = x in
      let w : State = state_at t i in (
        w.return,
        record { at = i; below = b; here = y.0 },
        ⊎_elim inl (λ k. inr (k ∙ ap (λ z. state (resumed p z)) y.0)) y.1,
      )

  gives_from : (n : ℕ) (e : Entry) → GiveAsks n e → (i : ℕ) × (i < t.states.size) × WaitingAsks n i e
  unfolding resumed
  gives_from n e x =
      let (b, m, y) = x in (
        m.at,
        m.below,
        (
          m.here ∙ ap (λ z. triple s.class s.return z.return) (sym m.here),
          ⊎_elim inl (λ k. inr (k ∙ ap (λ z. state (resumed p z)) (sym m.here))) y,
        ),
      )

  finds_give : (n : ℕ) → Finds t (is_give_closed p t s n) (GiveAsks n)
  unfolding is_give_closed
  finds_give n =
      finds_map t (gives_to n) (gives_from n)
      (finds_all t t.states.size _
      (λ i. finds_where t (waits_for (state_at t i) s) _ (waits_for_iff (state_at t i))
      (finds_and t _ _ (finds_each t t.flow n _ (finds_flow t (call_at p s.return).name)) (finds_state t (resumed p (state_at t i))))))

  -- what the state asks for, by its head
  abbrev pub Asks : Head → Entry → Type 0
  Asks (gives n) e = GiveAsks n e
  Asks (builds n k ns r) e = (e ≡ flow n s.location) ⊎ (e ≡ state (onward s r))
  Asks (makes n r) e = (e ≡ flow n s.location) ⊎ (e ≡ state (onward s r))
  Asks (calls call) e = (f : ℕ) × Member t.flow call.callee f × CallAsks call f e
  Asks (sends n target message r) e =
      (d : ℕ) × Member t.flow target d ×
      ((is_class_of p d ≡ true) × ((v : ℕ) × Member t.flow message v × ((e ≡ mail d v) ⊎ ((e ≡ flow n v) ⊎ (e ≡ state (onward s r))))))
  Asks (spawns n function r) e =
      (f : ℕ) × Member t.flow function f ×
      ((takes p f 0 ≡ true) × ((e ≡ flow n s.location) ⊎ ((e ≡ state (onward s r)) ⊎ (e ≡ state (triple s.location (body p f) (size p))))))
  Asks (selfs n r) e = (e ≡ flow n s.class) ⊎ (e ≡ state (onward s r))
  Asks (cases n qs) e = (v : ℕ) × Member t.flow n v × BranchesAsk qs v e
  Asks (receives qs) e = (v : ℕ) × Member t.mail s.class v × BranchesAsk qs v e
  Asks no_head e = ⊥

  by_head : (h : Head) → head_at p s.location ≡ h → Finds t (state_closed p t s) (Asks h)
  unfolding state_closed send_closed spawn_closed begun
  by_head (gives n) e = rw (e, state_closed) (finds_give n)
  by_head (builds n k ns r) e = rw (e, state_closed) (finds_and t _ _ (finds_flow t n s.location) (finds_state t (onward s r)))
  by_head (makes n r) e = rw (e, state_closed) (finds_and t _ _ (finds_flow t n s.location) (finds_state t (onward s r)))
  by_head (calls call) e = rw (e, state_closed) (finds_call call)
  by_head (sends n target message r) e =
      rw (e, state_closed)
      (finds_each t t.flow target _
      (λ d. finds_where t (is_class_of p d) _ Iff.rfl
      (finds_each t t.flow message _ (λ v. finds_and t _ _ (finds_mail t d v) (finds_and t _ _ (finds_flow t n v) (finds_state t (onward s r)))))))
  by_head (spawns n function r) e =
      rw (e, state_closed)
      (finds_each t t.flow function _
      (λ f. finds_where t (takes p f 0) _ Iff.rfl
      (finds_and t _ _ (finds_flow t n s.location) (finds_and t _ _ (finds_state t (onward s r)) (finds_state t (triple s.location (body p f) (size p)))))))
  by_head (selfs n r) e = rw (e, state_closed) (finds_and t _ _ (finds_flow t n s.class) (finds_state t (onward s r)))
  by_head (cases n qs) e = rw (e, state_closed) (finds_each t t.flow n _ (finds_branches qs))
  by_head (receives qs) e = rw (e, state_closed) (finds_each t t.mail s.class _ (finds_branches qs))
  by_head no_head e = rw (e, state_closed) (finds_none t (λ e x. x))

  pub finds_asked : Finds t (state_closed p t s) (Asks (head_at p s.location))
  finds_asked = by_head (head_at p s.location) refl
