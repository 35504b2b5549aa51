-- The rules of a head, as its loop gives them turn by turn.
use Prim.Native.Nat.{ℕ, zero, suc, ◌+◌, ◌-◌, ◌≤◌, ◌<◌}
use native.Mathlib.Omega.{arith}
use mathlib.Core.Path.{◌≡◌, refl, sym, ◌∙◌, ap}
use mathlib.Core.Bool.{Bool, true, false, not}
use mathlib.Core.List.{List, [], ◌∷◌}
use mathlib.Core.Logic.{⊎_elim}
use lib.ListN.{get_or}
use lib.Dec.{eqb}
use borrow.Author.Tests.{eqb-true, eq-eqb, le-leb, not-true, not-false}
use Rattle.model.specs.declared.Sizes.{Sizes}
use Rattle.model.specs.Index.{gather, only}
use Rattle.model.specs.Words.{left, right, columns}
use Rattle.model.specs.Rows.{Program, program, size, tag, num, kind, is_head_of, give, call, send, spawn, case, receive, other}
use Rattle.model.specs.Scopes.{rest}
use Rattle.model.specs.Heads.{call_at, is_function, body, takes, head_at, gives, calls, spawns}
use Rattle.model.specs.Tables.{Tables, tables, entries, state, state_at, state_index_of, onward}
use Rattle.model.specs.Closed.{entered, begun, waits_for, resumed}
use Rattle.model.specs.Rules.{quiet, starts, rule, state_rules_of}
use Rattle.model.proofs.Logic.{test, and_left, and_right}
use Rattle.model.proofs.Heads.{by_kind, tag_is, head_give, head_build, head_function, head_call, head_spawn, head_self, head_other}
use Rattle.model.proofs.Parse.Locations.{Location, head_range, location_known}
use Rattle.model.proofs.Parse.Lengths.{row_location, row_within}
use Rattle.lists.specs.Lists.{range_from, range_to, head_from, head_to}
use Rattle.lists.specs.Ready.{Ready}
use Rattle.lists.proofs.Facts.{rows_fit, columns_whole, flow_form, flow_rises, states_rise}
use Rattle.lists.proofs.Rising.{begins_within, heads_before, heads_within, heads_behind, heads_order, place_upto}
use Rattle.positions.proofs.Standing.{call_name, spawn_name, send_names}
use Rattle.values.proofs.Names.{flow_upto}
use Rattle.rules.proofs.Gather.{gather_none, gather_part, each_range}
use Rattle.rules.proofs.States.{location_low}
use Rattle.plain_rules.specs.Heads.{Plain, give_turn, call_turn, spawn_turn}

-- a rule that is there only where the test passes
pub only_same : {A : Type 0} (b : Bool) (x y : A) → (b ≡ true → x ≡ y) → only b x ≡ only b y
unfolding only
only_same true x y h = ap (λ z. z ∷ []) (h refl)
only_same false x y h = refl

pub only_both : {A : Type 0} (b c : Bool) (x y : A) → b ≡ c → (b ≡ true → x ≡ y) → only b x ≡ only c y
only_both b c x y e h = only_same b x y h ∙ ap (λ d. only d y) e

pub only_yes : {A : Type 0} (b : Bool) (x : A) → b ≡ true → only b x ≡ x ∷ []
unfolding only
only_yes b x e = rw e

pub only_no : {A : Type 0} (b : Bool) (x : A) → b ≡ false → only b x ≡ []
unfolding only
only_no b x e = rw e

-- a rule by the flag that the code tested, the other way round
pub skipped : {A : Type 0} (b c : Bool) (x : A) → b ≡ c → not b ≡ true → only c x ≡ []
skipped b c x e n = only_no c x (sym e ∙ not-true b n)

pub kept : {A : Type 0} (b c : Bool) (x y : A) → b ≡ c → not b ≡ false → (c ≡ true → x ≡ y) → only c x ≡ y ∷ []
kept b c x y e n f = let z = sym e ∙ not-false b n in only_yes c x z ∙ ap (λ v. v ∷ []) (f z)

-- a head by its tag
pub tag_head : (t k : ℕ) → t ≡ k → 1 ≤ k → k ≤ 9 → is_head_of t ≡ true
unfolding is_head_of
tag_head t k e a b = rw (e, le-leb 1 k a, le-leb k 9 b)

-- a function that takes so many arguments is one
pub takes_function : (p : Program) (f n : ℕ) → takes p f n ≡ true → is_function p f ≡ true
unfolding takes
takes_function p f n e = and_left (is_function p f) (eqb (num p (f + 1)) n) e

module _ {ws : List ℕ} {s : Sizes} (h : Ready ws s) where
  abbrev p : Program
  p = program ws s

  abbrev t : Tables
  t = tables ws s

  module _ (r : ℕ) (head : is_head_of (tag p r) ≡ true) where
    pub here : Location p r
    here = row_location (rows_fit h) (columns_whole h) r head

    pub here_low : r < s.rows
    unfolding program columns
    here_low = row_within (columns_whole h) r (head_range (tag p r) head).0

    known : kind (tag p r) ≡ other → ⊥
    known e = location_known here (head_other p r e)

  -- the values of a name ascend
  pub value_from : (a from j : ℕ) → from ≡ range_from t.flow a → from ≤ j → j < range_to t.flow a → (j - from ≤ right t.flow j) × (right t.flow j ≤ s.rows)
  unfolding range_from range_to program tables entries columns
  value_from a from j e l m =
      let upto = place_upto t.flow [] ((a + 1) ∷ 0 ∷ 0 ∷ []) in
      (climbs (j - from) j refl l m, flow_upto h j (omega arith))
    where
      climbs : (n j : ℕ) → n ≡ j - from → from ≤ j → j < range_to t.flow a → n ≤ right t.flow j
      climbs zero j x y z = omega arith
      climbs (suc n) j x y z =
          let upto = place_upto t.flow [] ((a + 1) ∷ 0 ∷ 0 ∷ []) in
          let below = climbs n (j - 1) (omega arith) (omega arith) (omega arith) in
          ⊎_elim (λ u. absurd (omega (arith, begins_within t.flow [] a (flow_rises h) (j - 1) (omega arith) (omega arith), begins_within t.flow [] a (flow_rises h) j (omega arith) z)))
          (λ u. ⊎_elim (λ v. omega arith) (λ v. absurd v.1) u.1)
          ((flow_form h).ascending (j - 1) j (omega arith) (omega arith))

  -- the turns
  pub call_kept : (x n j f q y e : ℕ) (b : Bool) → f ≡ right t.flow j → b ≡ takes p f n → not b ≡ false → q ≡ body p f → y ≡ state_index_of t (state (left t.states x) q (right t.states x)) → call_turn p t (state_at t x) n e j ≡ rule e y quiet ∷ []
  unfolding call_turn entered state_at
  call_kept x n j f q y e b same u m v w = rw (← same) (kept b _ _ _ u m (λ z. ap (λ k. rule e k quiet) (ap (λ k. state_index_of t (state (left t.states x) k (right t.states x))) (sym v) ∙ sym w)))

  pub call_skipped : (x n j f e : ℕ) (b : Bool) → f ≡ right t.flow j → b ≡ takes p f n → not b ≡ true → call_turn p t (state_at t x) n e j ≡ []
  unfolding call_turn
  call_skipped x n j f e b same u m = rw (← same) (skipped b _ _ u m)

  pub spawn_kept : (x next r j f q y e : ℕ) (b : Bool) → r ≡ right t.states x → f ≡ right t.flow j → b ≡ takes p f 0 → not b ≡ false → q ≡ body p f → y ≡ state_index_of t (state r q s.rows) → spawn_turn p t (state_at t x) next e j ≡ rule e next (starts y) ∷ []
  unfolding spawn_turn begun state_at program columns
  spawn_kept x next r j f q y e b row same u m v w = rw (← same) (kept b _ _ _ u m (λ z. ap (λ k. rule e next (starts k)) (ap (λ k. state_index_of t (state (right t.states x) k s.rows)) (sym v) ∙ (ap (λ k. state_index_of t (state k q s.rows)) (sym row) ∙ sym w))))

  pub spawn_skipped : (x next j f e : ℕ) (b : Bool) → f ≡ right t.flow j → b ≡ takes p f 0 → not b ≡ true → spawn_turn p t (state_at t x) next e j ≡ []
  unfolding spawn_turn
  spawn_skipped x next j f e b same u m = rw (← same) (skipped b _ _ u m)

  -- the names at a head
  pub call_low : (r a : ℕ) → tag p r ≡ 4 → a ≡ num p (r + 1) → a < s.names
  unfolding kind program
  call_low r a e u = let z = call_name (here r (tag_head (tag p r) 4 e (omega arith) (omega arith))) (rw e) in omega arith

  pub spawn_low : (r a : ℕ) → tag p r ≡ 6 → a ≡ num p (r + 1) → a < s.names
  unfolding kind program
  spawn_low r a e u = let z = spawn_name (here r (tag_head (tag p r) 6 e (omega arith) (omega arith))) (rw e) in omega arith

  pub send_low : (r a m : ℕ) → tag p r ≡ 5 → a ≡ num p (r + 1) → m ≡ num p (r + 2) → (a < s.names) × (m < s.names)
  unfolding kind program
  send_low r a m e u v = let (y, z) = send_names (here r (tag_head (tag p r) 5 e (omega arith) (omega arith))) (rw e) in (omega arith, omega arith)

  -- the rules of a give back from state x, of class c, which returns to row b
  module _ (x b c : ℕ) (same : tag p (right t.states x) ≡ 1) (return : b ≡ get_or t.returns x 0) (class : c ≡ left t.states x) where
    give_rules : (e : ℕ) → state_rules_of p t e (state_at t x) ≡ gather 0 t.states.size (λ j. only (waits_for (state_at t j) (state_at t x)) (rule e (state_index_of t (resumed p (state_at t j))) quiet))
    unfolding state_rules_of state_at kind
    give_rules e = let head : head_at p (right t.states x) ≡ gives (num p (right t.states x)) = head_give p (right t.states x) (rw same) in rw (head, state_rules_of)

    waits : (j : ℕ) → left t.states j ≡ c → right t.states j ≡ b → waits_for (state_at t j) (state_at t x) ≡ true
    unfolding waits_for state_at
    waits j u v = rw (eq-eqb (left t.states j) (left t.states x) (u ∙ class), eq-eqb (right t.states j) (get_or t.returns x 0) (v ∙ return))

    waits_not : (j : ℕ) → (left t.states j ≡ c → right t.states j ≡ b → ⊥) → waits_for (state_at t j) (state_at t x) ≡ false
    unfolding waits_for state_at
    waits_not j n = test (waits_for (state_at t j) (state_at t x))
        (λ z. absurd (n (eqb-true (left t.states j) (left t.states x) (and_left (eqb (left t.states j) (left t.states x)) _ z) ∙ sym class) (eqb-true (right t.states j) (get_or t.returns x 0) (and_right (eqb (left t.states j) (left t.states x)) _ z) ∙ sym return)))
        (λ z. z)

    -- nothing is pushed: no state stands at R
    pub give_nothing : b ≡ s.rows → (e : ℕ) → [] ≡ state_rules_of p t e (state_at t x)
    unfolding tables entries columns
    give_nothing end e = sym (give_rules e ∙ gather_none 0 t.states.size _ (λ j a l. only_no _ _ (waits_not j (λ u v. omega (arith, location_low h j l)))))

    module _ (from to : ℕ) (begin : from ≡ head_from t c b) (end : to ≡ head_to t c b) where
      pub give_range : (from ≤ to) × (to ≤ s.states)
      unfolding head_from head_to tables entries columns
      give_range = (omega (arith, heads_order t.states t.returns c b (states_rise h)), omega (arith, place_upto t.states t.returns (c ∷ (b + 1) ∷ 0 ∷ [])))

      pub give_gathered : (e : ℕ) → gather from to (give_turn p t e) ≡ state_rules_of p t e (state_at t x)
      unfolding head_from head_to give_turn
      give_gathered e =
          rw (begin, end) (sym (give_rules e ∙ gather_part (head_from t c b) (head_to t c b) t.states.size _ _
          (heads_order t.states t.returns c b (states_rise h)) (place_upto t.states t.returns (c ∷ (b + 1) ∷ 0 ∷ []))
          (λ j l. only_no _ _ (waits_not j (heads_before t.states t.returns c b j l)))
          (λ j l m. let (u, v) = heads_within t.states t.returns c b (states_rise h) j l m in only_yes _ _ (waits j u v))
          (λ j l m. only_no _ _ (waits_not j (heads_behind t.states t.returns c b (states_rise h) j l m)))))

      pub give_kept : (e j q y : ℕ) → from ≤ j → j < to → q ≡ rest p b → y ≡ state_index_of t (onward (state_at t j) q) → give_turn p t e j ≡ rule e y quiet ∷ []
      unfolding head_from head_to give_turn resumed call_at state_at
      give_kept e j q y l m u v =
          let (w, z) = heads_within t.states t.returns c b (states_rise h) j (omega arith) (omega arith) in
          ap (λ k. rule e k quiet ∷ []) (ap (λ k. state_index_of t (onward (state_at t j) (rest p k))) z ∙ (ap (λ k. state_index_of t (onward (state_at t j) k)) (sym u) ∙ sym v))

  -- the rules of a call
  pub call_gathered : (x r n a from to e : ℕ) → r ≡ right t.states x → tag p r ≡ 4 → a ≡ num p (r + 1) → n ≡ num p (r + 2) → from ≡ range_from t.flow a → to ≡ range_to t.flow a → gather from to (call_turn p t (state_at t x) n e) ≡ state_rules_of p t e (state_at t x)
  unfolding state_rules_of kind call_at call_turn state_at
  call_gathered x r n a from to e same is u v begin end =
      let head : head_at p (right t.states x) ≡ calls (call_at p r) = ap (head_at p) (sym same) ∙ head_call p r (rw is) in
      rw (head, state_rules_of, ← u, ← v, begin, end)
      (sym (each_range t.flow a (λ f. only (takes p f n) (rule e (state_index_of t (entered p (state_at t x) f)) quiet)) (flow_rises h)))

  -- the rules of a spawn
  pub spawn_gathered : (x r a next from to e : ℕ) → r ≡ right t.states x → tag p r ≡ 6 → a ≡ num p (r + 1) → next ≡ state_index_of t (onward (state_at t x) (rest p r)) → from ≡ range_from t.flow a → to ≡ range_to t.flow a → gather from to (spawn_turn p t (state_at t x) next e) ≡ state_rules_of p t e (state_at t x)
  unfolding state_rules_of kind spawn_turn state_at
  spawn_gathered x r a next from to e same is u on begin end =
      let head : head_at p (right t.states x) ≡ spawns (num p r) (num p (r + 1)) (rest p r) = ap (head_at p) (sym same) ∙ head_spawn p r (rw is) in
      rw (head, state_rules_of, ← u, on, begin, end)
      (sym (each_range t.flow a (λ f. only (takes p f 0) (rule e (state_index_of t (onward (state_at t x) (rest p r))) (starts (state_index_of t (begun p (state_at t x) f))))) (flow_rises h)))

  -- the rule of a build, a function or self
  pub plain_gathered : (x r next e : ℕ) → r ≡ right t.states x → Plain p r → next ≡ state_index_of t (onward (state_at t x) (rest p r)) → rule e next quiet ∷ [] ≡ state_rules_of p t e (state_at t x)
  unfolding state_rules_of state_at
  plain_gathered x r next e same g on =
      let row : head_at p (right t.states x) ≡ head_at p r = ap (head_at p) (sym same) in
      by_kind (kind (tag p r))
      (λ k. absurd (g.not_give (tag_is _ give k)))
      (λ k. rw (row ∙ head_build p r k, state_rules_of, on))
      (λ k. rw (row ∙ head_function p r k, state_rules_of, on))
      (λ k. absurd (g.not_call (tag_is _ call k)))
      (λ k. absurd (g.not_send (tag_is _ send k)))
      (λ k. absurd (g.not_spawn (tag_is _ spawn k)))
      (λ k. rw (row ∙ head_self p r k, state_rules_of, on))
      (λ k. absurd (g.not_case (tag_is _ case k)))
      (λ k. absurd (g.not_receive (tag_is _ receive k)))
      (λ k. absurd (known r g.head k))
