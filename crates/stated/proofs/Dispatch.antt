-- What is asked of a state, by the tag of its head.
use Prim.Native.Nat.{ℕ, ◌+◌, ◌*◌, ◌≤◌, ◌<◌}
use native.Mathlib.Omega.{arith}
use native.Mathlib.Decide.{ℕ_discrete}
use mathlib.Core.Path.{◌≡◌, refl, sym, ◌∙◌, ap}
use mathlib.Core.Bool.{Bool, true, false, not, ◌&&◌, ◌||◌}
use mathlib.Core.List.{List}
use mathlib.Core.Logic.Iff
use mathlib.Core.Logic.{◌⊎◌, inl, inr, ⊎_elim}
use lib.Dec.{eqb, leb}
use borrow.Author.Tests.{eq-eqb, ne_eqb, not-true, not-false, le-leb}
use Rattle.model.specs.declared.Sizes.{Sizes}
use Rattle.model.specs.Index.{implies}
use Rattle.model.specs.Words.{Columns, left, columns}
use Rattle.model.specs.Rows.{Program, program, size, tag, num, kind, self, is_head_of}
use Rattle.model.specs.Scopes.{rest}
use Rattle.model.specs.Heads.{call_at, branch_rows, is_class_of, parameters, takes}
use Rattle.model.specs.Tables.{Tables, tables, has, each, some_of, State, onward, state_at, has_state}
use Rattle.model.specs.Closed.{passes, is_call_closed, send_closed, begun, spawn_closed, is_give_closed, branches_closed, entered, state_closed}
use Rattle.model.proofs.Logic.{true_false, test, and_intro, both, and_joined}
use Rattle.model.proofs.Heads.{head_give, head_build, head_function, head_call, head_send, head_spawn, head_self, head_case, head_receive}
use Rattle.model.proofs.Exact.Members.{some_of_iff}
use Rattle.lists.specs.Ready.{Ready}
use Rattle.values.proofs.Names.{head_name, class_upto}
use Rattle.bits.specs.Bits.{member}
use Rattle.values.specs.Values.{width, mail_set_of, Values, FlowSets}
use Rattle.values.proofs.Gathered.{width_above}
use Rattle.values.proofs.Members.{each_at, at_each, each_same, each_none}
use Rattle.branches.specs.Taken.{lacks, code_closed, are_bodies_closed, IsTaken, BitsTold}
use Rattle.branches.proofs.Codes.{each_both}
use Rattle.asks.specs.Asks.{there_code, call_asks, does_send_ask, does_spawn_ask, asks, Asked}
use Rattle.asks.proofs.Rows.{head_here}
use Rattle.settled.specs.Settled.{Settled}
use Rattle.settled.proofs.Settling.{taken_told, told_most}
use Rattle.stated.specs.Stated.{callees_of, Here, Flagged, BitsOf, Stated}

-- a code's test
module _ (k : ℕ) (x : Bool) where
  pub code_none : k ≡ 0 → true ≡ code_closed k x
  unfolding code_closed
  code_none e = rw e

  pub code_lacks : (k ≡ 0 → ⊥) → (k ≡ 1 → ⊥) → false ≡ code_closed k x
  unfolding code_closed
  code_lacks e f = rw (ne_eqb k 0 e, ne_eqb k 1 f)

  pub code_there : (b : Bool) → k ≡ 1 → b ≡ x → b ≡ code_closed k x
  unfolding code_closed
  code_there b e f = rw e f

pub named_code : (k : ℕ) (a x : Bool) → k ≡ there_code a → (a && x) ≡ code_closed k x
unfolding code_closed there_code
named_code k true x e = rw e
named_code k false x e = rw e

-- the bits of branches, with the states at their expressions
module _ (p : Program) (t : Tables) (s : State) (qs : List ℕ) (k : ℕ) where
  pub here_lacks : k ≡ lacks → Here p t s qs k lacks
  here_lacks e = record { kept = λ ne. absurd (ne refl); lost = λ z ne. absurd (ne e) }

  pub here_kept : (b : Bool) → b ≡ are_bodies_closed p t s k qs → b ≡ true → (k ≡ lacks → ⊥) → Here p t s qs k k
  here_kept b e z ne = record { kept = λ m. (refl, sym e ∙ z); lost = λ w m. absurd (ne w) }

  pub here_lost : (b : Bool) → b ≡ are_bodies_closed p t s k qs → b ≡ false → Here p t s qs k lacks
  here_lost b e z = record { kept = λ m. absurd (m refl); lost = λ w m. sym e ∙ z }

-- a call
module _ (p : Program) (t : Tables) (s : State) (r : ℕ) where
  one_callee : (a b x : Bool) → implies a (b && x) ≡ (code_closed (elim a [ true ↦ elim b [ true ↦ 0 | false ↦ 2 ] | false ↦ 0 ]) true && implies a x)
  unfolding implies code_closed
  one_callee true true x = refl
  one_callee true false x = refl
  one_callee false b x = refl

  call_parts : tag p r ≡ 4 → is_call_closed p t s (call_at p r) ≡ (each t.flow (num p (r + 1)) (λ f. code_closed (asks p t r f) true) && callees_of p t s r)
  unfolding is_call_closed call_at callees_of asks call_asks
  call_parts e =
      each_same t.flow (num p (r + 1)) _ _ (λ f m. one_callee (takes p f (num p (r + 2))) (passes t (call_at p r) (parameters p f)) (has_state t (entered p s f))
      ∙ ap (λ z. code_closed z true && implies (takes p f (num p (r + 2))) (has_state t (entered p s f))) (by_four (eqb (tag p r) 4) _ _ (eq-eqb (tag p r) 4 e)))
      ∙ each_both t.flow (num p (r + 1)) (λ f. code_closed (asks p t r f) true) (λ f. implies (takes p f (num p (r + 2))) (has_state t (entered p s f)))
    where
      by_four : (b : Bool) (x y : ℕ) → b ≡ true → x ≡ elim b [ true ↦ x | false ↦ y ]
      by_four b x y e = rw e

  pub call_open : (k : ℕ) → tag p r ≡ 4 → Asked p t r k → 2 ≤ k → false ≡ is_call_closed p t s (call_at p r)
  call_open k e a l = sym (call_parts e ∙ ap (λ z. z && callees_of p t s r) (a.together true ∙ sym (code_lacks k true (λ z. omega arith) (λ z. omega arith))))

  pub call_left : (k : ℕ) (b : Bool) → tag p r ≡ 4 → Asked p t r k → k < 2 → b ≡ callees_of p t s r → b ≡ is_call_closed p t s (call_at p r)
  call_left k b e a l h = h ∙ sym (call_parts e ∙ ap (λ z. z && callees_of p t s r) (a.together true ∙ sym (fine k l)))
    where
      fine : (k : ℕ) → k < 2 → true ≡ code_closed k true
      fine k l = elim (ℕ_discrete k 0) [ yes z ↦ code_none k true z | no z ↦ code_there k true true (omega arith) refl ]

-- self
module _ (p : Program) (t : Tables) (i c r n : ℕ) (x : Bool) (class : c ≡ left t.states i) (name : n ≡ num p r) (held : x ≡ has t.flow n c) where
  there : has t.flow (num p r) (state_at t i).class ≡ x
  unfolding state_at
  there = sym (rw (name, class) at held)

  pub self_lacks : not x ≡ true → false ≡ (has t.flow (num p r) (state_at t i).class && has_state t (onward (state_at t i) (rest p r)))
  self_lacks z = ap (λ y. y && has_state t (onward (state_at t i) (rest p r))) (sym (there ∙ not-true x z))

  pub self_told : (b : Bool) → not x ≡ false → b ≡ code_closed 1 (has_state t (onward (state_at t i) (rest p r))) → b ≡ (has t.flow (num p r) (state_at t i).class && has_state t (onward (state_at t i) (rest p r)))
  unfolding code_closed
  self_told b z h = h ∙ ap (λ y. y && has_state t (onward (state_at t i) (rest p r))) (sym (there ∙ not-false x z))

pub self_name : {ws : List ℕ} {s : Sizes} → Ready ws s → (r n : ℕ) → tag (program ws s) r ≡ 7 → n ≡ num (program ws s) r → n < s.names
unfolding kind program
self_name h r n t e = let z = head_name self (head_here h r (omega arith) (omega arith)) (rw t) refl in omega arith

pub rest_told : (t : Tables) (i q m : ℕ) (b : Bool) → q ≡ m → b ≡ has_state t (onward (state_at t i) q) → b ≡ has_state t (onward (state_at t i) m)
rest_told t i q m b e h = h ∙ ap (λ x. has_state t (onward (state_at t i) x)) e

pub held_class : {ws : List ℕ} {s : Sizes} → Ready ws s → {flow : List ℕ} → FlowSets (program ws s) (tables ws s) flow → (n c w : ℕ) (x : Bool) → w ≡ width s.rows → n < s.names → is_class_of (program ws s) c ≡ true → x ≡ member flow w n c → x ≡ has (tables ws s).flow n c
unfolding program columns
held_class h sets n c w x e l class g = (rw e at g) ∙ (sets.of_name n l).holds c (width_above _ c (class_upto h c class))

-- what the others ask, by the code of the head
module _ (p : Program) (t : Tables) (s : State) where
  send_value : (class filled mailed held there : Bool) (e : Bool) → (class ≡ true → filled ≡ true → e ≡ ((mailed && held) && there)) → (filled ≡ false → e ≡ true) → implies class e ≡ code_closed (elim class [ true ↦ elim filled [ true ↦ there_code (mailed && held) | false ↦ 0 ] | false ↦ 0 ]) there
  unfolding implies code_closed there_code
  send_value true true true true there e f g = f refl refl
  send_value true true true false there e f g = f refl refl
  send_value true true false held there e f g = f refl refl
  send_value true false mailed held there e f g = g refl
  send_value false filled mailed held there e f g = refl

  send_each : (d m n : ℕ) (there : Bool) → some_of t.flow m (λ v. true) ≡ true → each t.flow m (λ v. has t.mail d v && (has t.flow n v && there)) ≡ ((each t.flow m (has t.mail d) && each t.flow m (has t.flow n)) && there)
  send_each d m n there filled =
      each_both t.flow m (has t.mail d) (λ v. has t.flow n v && there) ∙
      (ap (λ z. each t.flow m (has t.mail d) && z) (each_both t.flow m (has t.flow n) (λ v. there) ∙ ap (λ z. each t.flow m (has t.flow n) && z) (constant there)) ∙
      and_joined (each t.flow m (has t.mail d)) (each t.flow m (has t.flow n)) there)
    where
      constant : (b : Bool) → each t.flow m (λ v. b) ≡ b
      constant b = both (each t.flow m (λ v. b)) b
          (λ h. let (v, z, y) = (some_of_iff t.flow m (λ v. true) (λ w. Iff.rfl)).0 filled in each_at t.flow m (λ v. b) h v z)
          (λ h. at_each t.flow m (λ v. b) (λ v z. h))

  spawn_value : (called held first there : Bool) → implies called (held && (there && first)) ≡ code_closed (elim called [ true ↦ there_code (held && first) | false ↦ 0 ]) there
  unfolding implies code_closed there_code
  spawn_value true true true true = refl
  spawn_value true true true false = refl
  spawn_value true true false true = refl
  spawn_value true true false false = refl
  spawn_value true false first there = refl
  spawn_value false held first there = refl

  asks_is : (v : ℕ) → (tag p s.location ≡ 5 → asks p t s.location v ≡ does_send_ask p t s.location v) × (tag p s.location ≡ 6 → asks p t s.location v ≡ does_spawn_ask p t s.location v)
  unfolding asks
  asks_is v = (λ e. rw (ne_eqb (tag p s.location) 4 (λ z. omega arith), asks) (rw (eq-eqb (tag p s.location) 5 e)), λ e. rw (ne_eqb (tag p s.location) 4 (λ z. omega arith), asks) (rw (ne_eqb (tag p s.location) 5 (λ z. omega arith))))

  send_state : (k : ℕ) → tag p s.location ≡ 5 → Asked p t s.location k → state_closed p t s ≡ code_closed k (has_state t (onward s (rest p s.location)))
  unfolding state_closed kind send_closed does_send_ask
  send_state k e a =
      rw (head_send p s.location (rw e), state_closed)
      (each_same t.flow (num p (s.location + 1)) _ _ (λ d m. send_value (is_class_of p d) (some_of t.flow (num p (s.location + 2)) (λ v. true)) (each t.flow (num p (s.location + 2)) (has t.mail d)) (each t.flow (num p (s.location + 2)) (has t.flow (num p s.location))) (has_state t (onward s (rest p s.location))) _
      (λ u v. send_each d (num p (s.location + 2)) (num p s.location) (has_state t (onward s (rest p s.location))) v)
      (λ v. at_each t.flow (num p (s.location + 2)) _ (λ w z. true_false refl (each_none t.flow (num p (s.location + 2)) (λ i. true) v w z)))
      ∙ ap (λ z. code_closed z (has_state t (onward s (rest p s.location)))) (sym ((asks_is d).0 e)))
      ∙ a.together (has_state t (onward s (rest p s.location))))

  spawn_state : (k : ℕ) → tag p s.location ≡ 6 → Asked p t s.location k → state_closed p t s ≡ code_closed k (has_state t (onward s (rest p s.location)))
  unfolding state_closed kind spawn_closed does_spawn_ask begun
  spawn_state k e a =
      rw (head_spawn p s.location (rw e), state_closed)
      (each_same t.flow (num p (s.location + 1)) _ _ (λ f m. spawn_value (takes p f 0) (has t.flow (num p s.location) s.location) (has_state t (begun p s f)) (has_state t (onward s (rest p s.location)))
      ∙ ap (λ z. code_closed z (has_state t (onward s (rest p s.location)))) (sym ((asks_is f).1 e)))
      ∙ a.together (has_state t (onward s (rest p s.location))))

  build_state : (k : ℕ) → (tag p s.location ≡ 2) ⊎ (tag p s.location ≡ 3) → k ≡ there_code (has t.flow (num p s.location) s.location) → state_closed p t s ≡ code_closed k (has_state t (onward s (rest p s.location)))
  unfolding state_closed kind
  build_state k (inl e) h = rw (head_build p s.location (rw e), state_closed) (named_code k _ _ h)
  build_state k (inr e) h = rw (head_function p s.location (rw e), state_closed) (named_code k _ _ h)

-- a state's test by its tag
module _ (p : Program) (t : Tables) (s : State) (r x : ℕ) (stands : r ≡ s.location) (tagged : x ≡ tag p r) where
  tag_of : (n : ℕ) → x ≡ n → tag p s.location ≡ n
  tag_of n z = ap (tag p) (sym stands) ∙ (sym tagged ∙ z)

  -- without branches: closed or not
  flat : (b : Bool) (k : ℕ) → Flagged b k → b ≡ state_closed p t s → (tag p s.location ≡ 8 → ⊥) → (tag p s.location ≡ 9 → ⊥) → Stated p t s k
  flat b k f e n₈ n₉ = test b
      (λ z. let w = f.so z in record {
        most = omega arith;
        missing = λ y. absurd (omega arith);
        closed = λ y. sym e ∙ z;
        case_bits = λ y u. absurd (n₈ u);
        receive_bits = λ y u. absurd (n₉ u);
      })
      (λ z. let w = f.not_so z in record {
        most = omega arith;
        missing = λ y. sym e ∙ z;
        closed = λ y. absurd (y w);
        case_bits = λ y u. absurd (n₈ u);
        receive_bits = λ y u. absurd (n₉ u);
      })

  pub stated_give : (b : Bool) (k : ℕ) → x ≡ 1 → b ≡ is_give_closed p t s (num p r) → Flagged b k → Stated p t s k
  unfolding state_closed kind
  stated_give b k z h f = let e = tag_of 1 z in flat b k f (rw (head_give p s.location (rw e), state_closed) (rw stands at h)) (λ y. omega arith) (λ y. omega arith)

  pub stated_call : (b : Bool) (k : ℕ) → x ≡ 4 → b ≡ is_call_closed p t s (call_at p r) → Flagged b k → Stated p t s k
  unfolding state_closed kind
  stated_call b k z h f = let e = tag_of 4 z in flat b k f (rw (head_call p s.location (rw e), state_closed) (rw stands at h)) (λ y. omega arith) (λ y. omega arith)

  pub stated_self : (b : Bool) (k : ℕ) → x ≡ 7 → b ≡ (has t.flow (num p r) s.class && has_state t (onward s (rest p r))) → Flagged b k → Stated p t s k
  unfolding state_closed kind
  stated_self b k z h f = let e = tag_of 7 z in flat b k f (rw (head_self p s.location (rw e), state_closed) (rw stands at h)) (λ y. omega arith) (λ y. omega arith)

  -- with branches
  module _ (l : Columns) (a : ℕ) (qs : List ℕ) (k y : ℕ) (told : BitsTold p t l a qs k) (here : Here p t s qs k y) (low : k ≤ lacks) where
    same : (y ≡ lacks → ⊥) → (y ≡ k) × (k ≡ lacks → ⊥)
    same ne = let e = (here.kept ne).0 in (e, λ z. ne (e ∙ z))

    branched : y ≤ lacks
    branched = elim (ℕ_discrete y lacks) [ yes e ↦ omega arith | no e ↦ let z = (here.kept e).0 in omega arith ]

    open_branch : y ≡ lacks → each l a (branches_closed p t s qs) ≡ false
    open_branch e = elim (ℕ_discrete k lacks) [ yes z ↦ told.lacked z s | no z ↦ told.closed z s ∙ here.lost e z ]

    closed_branch : (y ≡ lacks → ⊥) → each l a (branches_closed p t s qs) ≡ true
    closed_branch ne = told.closed (same ne).1 s ∙ (here.kept ne).1

    bits_branch : (y ≡ lacks → ⊥) → BitsOf p t l a qs y
    bits_branch ne = let e = (same ne).0 in rw e (record { bits = told.bits (same ne).1; end = told.end (same ne).1 })

  pub stated_case : (n : ℕ) (k y : ℕ) → x ≡ 8 → n ≡ num p (r + 1) → BitsTold p t t.flow (num p r) (branch_rows p (num p (r + 1)) (r + 2)) k → k ≤ lacks → Here p t s (branch_rows p n (r + 2)) k y → Stated p t s y
  unfolding state_closed kind
  stated_case n k y z e told₀ low here =
      let h = rw (e, stands) at here in
      let told = rw stands at told₀ in
      let eight = tag_of 8 z in
      let q = branch_rows p (num p (s.location + 1)) (s.location + 2) in
      record {
        most = branched t.flow (num p s.location) q k y told h low;
        missing = λ w. rw (head_case p s.location (rw eight), state_closed) (open_branch t.flow (num p s.location) q k y told h low w);
        closed = λ w. rw (head_case p s.location (rw eight), state_closed) (closed_branch t.flow (num p s.location) q k y told h low w);
        case_bits = λ w u. bits_branch t.flow (num p s.location) q k y told h low w;
        receive_bits = λ w u. absurd (omega arith);
      }

  pub stated_receive : (n : ℕ) (k y : ℕ) → x ≡ 9 → n ≡ num p r → BitsTold p t t.mail s.class (branch_rows p n (r + 1)) k → k ≤ lacks → Here p t s (branch_rows p n (r + 1)) k y → Stated p t s y
  unfolding state_closed kind
  stated_receive n k y z e told₀ low here =
      let h = rw (e, stands) at here in
      let told = rw (e, stands) at told₀ in
      let nine = tag_of 9 z in
      let q = branch_rows p (num p s.location) (s.location + 1) in
      record {
        most = branched t.mail s.class q k y told h low;
        missing = λ w. rw (head_receive p s.location (rw nine), state_closed) (open_branch t.mail s.class q k y told h low w);
        closed = λ w. rw (head_receive p s.location (rw nine), state_closed) (closed_branch t.mail s.class q k y told h low w);
        case_bits = λ w u. absurd (omega arith);
        receive_bits = λ w u. bits_branch t.mail s.class q k y told h low w;
      }

  -- the others: by the code of the head
  pub stated_rest : (b : Bool) (k y : ℕ) → 2 ≤ x → x ≤ 6 → (x ≡ 4 → ⊥) → Settled p t r k → b ≡ code_closed k (has_state t (onward s (rest p r))) → Flagged b y → Stated p t s y
  stated_rest b k y lo hi n₄ st₀ h₀ f =
      let e = tag_of x refl in
      flat b y f ((rw stands at h₀) ∙ sym (by e (rw stands at st₀))) (λ z. omega arith) (λ z. omega arith)
    where
      by : tag p s.location ≡ x → Settled p t s.location k → state_closed p t s ≡ code_closed k (has_state t (onward s (rest p s.location)))
      by same st = elim (ℕ_discrete x 2) [
        | yes e ↦ build_state p t s k (inl (same ∙ e)) (st.named (inl (same ∙ e)))
        | no n₂ ↦ elim (ℕ_discrete x 3) [
          | yes e ↦ build_state p t s k (inr (same ∙ e)) (st.named (inr (same ∙ e)))
          | no n₃ ↦ elim (ℕ_discrete x 5) [
            | yes e ↦ send_state p t s k (same ∙ e) (st.asked (omega arith) (omega arith))
            | no n₅ ↦ elim (ℕ_discrete x 6) [
              | yes e ↦ spawn_state p t s k (same ∙ e) (st.asked (omega arith) (omega arith))
              | no n₆ ↦ absurd (n₄ (omega arith))
            ]
          ]
        ]
      ]

pub flag_so : (b : Bool) → b ≡ true → Flagged b 0
flag_so b e = record { so = λ z. refl; not_so = λ z. true_false e z }

pub flag_not : (b : Bool) → b ≡ false → Flagged b lacks
flag_not b e = record { so = λ z. true_false z e; not_so = λ z. refl }

-- a receive, with the bits of its branches and the mail of its class
pub stated_mail : (p : Program) (t : Tables) (mail : List ℕ) (s : State) (c r x n m k y : ℕ) → c ≡ s.class → r ≡ s.location → x ≡ tag p r → x ≡ 9 → n ≡ num p r → n ≤ 16 → m ≡ mail_set_of p c → IsTaken p t mail m (r + 1) n k → Values t.mail c (width (size p)) (mail_set_of p c) mail → Here p t s (branch_rows p n (r + 1)) k y → Stated p t s y
stated_mail p t mail s c r x n m k y class stands tagged nine e few em is of here =
    let told : BitsTold p t t.mail c (branch_rows p n (r + 1)) k = taken_told t.mail c (rw em at is) of few in
    stated_receive p t s r x stands tagged n k y nine e (rw class at told) (told_most n (r + 1) k few told) here
