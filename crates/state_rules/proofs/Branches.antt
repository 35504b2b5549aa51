-- The rules of a receive, branch by branch.
use Prim.Native.Nat.{ℕ, zero, suc, ◌+◌, ◌*◌, ◌-◌, ◌≤◌, ◌<◌}
use native.Mathlib.Nat.{suc-mul, mul-le-mul_right}
use native.Mathlib.Omega.{arith}
use mathlib.Core.Path.{◌≡◌, refl, sym, ◌∙◌, ap}
use mathlib.Core.Bool.{Bool, true, false, not}
use mathlib.Core.List.{List, []}
use lib.ListN.{length, get_or}
use Rattle.std.proofs.Common.{Option}
use lib.Dec.{eqb}
use borrow.Author.Tests.{eqb-true, not-true}
use Rattle.bits.specs.Bits.{bit}
use Rattle.model.specs.declared.Sizes.{Sizes}
use Rattle.model.specs.Index.{gather}
use Rattle.model.specs.Limits.{max_depth, max_branches, max_counters}
use Rattle.model.specs.Keys.{ascending}
use Rattle.model.specs.Words.{left, right, columns}
use Rattle.model.specs.Rows.{Program, program, tag, num, kind, step, expression_step, receive}
use Rattle.model.specs.Heads.{branch_rows, branch_body_of, head_at, receives}
use Rattle.model.specs.Tables.{Tables, tables, entries, some_of, state_at, state_index_of, onward}
use Rattle.model.specs.Closed.{may_take}
use Rattle.model.specs.Counters.{letter_count_of, counter_count}
use Rattle.model.specs.Rules.{reads, from_each, letters_read, state_rules_of}
use Rattle.model.proofs.Logic.{test}
use Rattle.model.proofs.Heads.{head_receive}
use Rattle.model.proofs.Parse.Grammar.{fits_some}
use Rattle.model.proofs.Parse.Reached.{stands_only}
use Rattle.model.proofs.Parse.Locations.{Location}
use Rattle.lists.specs.Ready.{Ready}
use Rattle.positions.specs.Positions.{branch_row, Run}
use Rattle.positions.specs.Branches.{BranchBits}
use Rattle.positions.proofs.Standing.{run_first, receive_run, rows_length}
use Rattle.values.proofs.Members.{each_none}
use Rattle.matching.specs.Patterns.{Pattern}
use Rattle.system_letters.specs.Letters.{ClassLetters, letter_width_of, Found}
use Rattle.rules.specs.Derived.{RuleRoom, LetterTables}
use Rattle.rules.specs.Within.{only_passing, AskedRow}
use Rattle.rules.specs.Listed.{kind_effect}
use Rattle.rules.proofs.States.{class_low}
use Rattle.rules.proofs.Gather.{gather_none, rows_range}
use Rattle.plain_rules.proofs.Heads.{tag_head, here}
use Rattle.plain_rules.proofs.Branches.{BranchAt, rows_at, counted}
use Rattle.lettered_rules.specs.Turns.{letter_rules, read_turn, ClassRoom}
use Rattle.lettered_rules.proofs.Letters.{class_order}
use Rattle.state_rules.specs.Heads.{receive_turn}
use Rattle.state_rules.proofs.Rooms.{class_room}

module _ {ws : List ℕ} {s : Sizes} (h : Ready ws s) where
  abbrev p : Program
  p = program ws s

  abbrev t : Tables
  t = tables ws s

  module _ (r : ℕ) (e : tag p r ≡ 9) where
    receive_here : Location p r
    receive_here = here h r (tag_head (tag p r) 9 e (omega arith) (omega arith))

    pub receive_count : num p r ≤ max_branches
    unfolding step expression_step kind
    receive_count =
        let (more, says, others) = stands_only receive_here.stands in
        counted (num p r) (fits_some _ _ more (rw e at says)).0

    pub receive_rows : Run p (r + 1) (num p r)
    unfolding kind
    receive_rows = receive_run receive_here (rw e)

  -- the rules of a receive
  pub receive_gathered : (x r m e : ℕ) → tag p r ≡ 9 → r ≡ right t.states x → m ≡ num p r → gather 0 m (receive_turn p t (state_at t x) (r + 1) e) ≡ state_rules_of p t e (state_at t x)
  unfolding state_rules_of kind receive_turn read_turn letter_rules state_at
  receive_gathered x r m e is same u =
      let head : head_at p (right t.states x) ≡ receives (branch_rows p m (r + 1)) = ap (head_at p) (sym same) ∙ (head_receive p r (rw is) ∙ ap (λ n. receives (branch_rows p n (r + 1))) (sym u)) in
      rw (head, state_rules_of)
      (sym (rows_range p m (r + 1) (λ q. letter_rules p t reads (state_index_of t (onward (state_at t x) (branch_body_of p q))) (left t.states x) (from_each t.mail (left t.states x) (letters_read p t q)) e)))

  -- a branch that may match nothing reads nothing
  reads_nothing : (c q : ℕ) → some_of t.mail c (may_take p t q) ≡ false → from_each t.mail c (letters_read p t q) ≡ []
  unfolding from_each letters_read
  reads_nothing c q none =
      gather_none 0 t.mail.size _
      (λ i a b. test (eqb (left t.mail i) c)
      (λ z. rw (z, each_none t.mail c (may_take p t q) none (right t.mail i) (record { at = i; below = b; first = eqb-true (left t.mail i) c z; second = refl }), letters_read))
      (λ z. rw z))

  module _ (x q₀ m b q e : ℕ) (a : BranchAt p q₀ m b q) where
    pub receive_skipped : (y : Bool) (bits : List ℕ) → BranchBits p t bits → (r : ℕ) → tag p r ≡ 9 → x < s.states → r ≡ right t.states x → m ≡ num p r → q₀ ≡ r + 1 → b < m → y ≡ bit (get_or bits x 0) b → not y ≡ true → receive_turn p t (state_at t x) q₀ e b ≡ []
    unfolding receive_turn read_turn letter_rules kind ascending tables entries columns state_at
    receive_skipped y bits g r is low same u begin less f n =
        let c = left t.states x in
        let head : head_at p (right t.states x) ≡ receives (branch_rows p m (r + 1)) = ap (head_at p) (sym same) ∙ (head_receive p r (rw is) ∙ ap (λ n. receives (branch_rows p n (r + 1))) (sym u)) in
        let bit' : bit (get_or bits x 0) b ≡ some_of t.mail c (may_take p t (branch_row p (r + 1) b)) = g.receive_bit x b (branch_rows p m (r + 1)) low head (omega (arith, rows_length p m (r + 1))) ∙ ap (λ q. some_of t.mail c (may_take p t q)) (rows_at p m (r + 1) b less) in
        rw (begin, reads_nothing c (branch_row p (r + 1) b) (sym bit' ∙ (sym f ∙ not-true y n)))

    pub receive_same : (f : ℕ → Bool) (c k to : ℕ) → c ≡ left t.states x → k ≡ branch_body_of p q → to ≡ state_index_of t (onward (state_at t x) k) → only_passing f (read_turn p t c q to e) ≡ only_passing f (receive_turn p t (state_at t x) q₀ e b)
    unfolding receive_turn state_at
    receive_same f c k to class u v = rw (a.at, ← u, ← v, ← class)

  -- the pattern of a branch
  pub branch_pattern : (q₀ m b q : ℕ) → BranchAt p q₀ m b q → b < m → Pattern p max_depth q
  branch_pattern q₀ m b q a low =
      let z : m - b ≡ suc (m - (b + 1)) = omega arith in
      let (x, front, tail, same, next) = run_first q (m - (b + 1)) (rw z at a.run) in
      record { end = branch_body_of p q; reads = front.reads }

  -- the room for a branch's letters
  next_most : (L b : ℕ) → (b + 1) * L ≡ b * L + L
  next_most L b = let z : b + 1 ≡ suc b = omega arith in rw z (suc-mul b L)

  pub receive_room : (starts letters : List ℕ) (g : LetterTables ws s starts letters) (within : Option (List ℕ)) (part found tos₀ others₀ tos others : List ℕ) → AskedRow within (letter_width_of p t) → length part ≡ 17 → length found ≡ 17 → RuleRoom ws s tos₀ others₀ → length tos ≡ length tos₀ → length others ≡ length others₀ → (n b m c : ℕ) → c ≤ s.rows → b < m → m ≤ max_branches → n ≤ b * letter_count_of p t → ClassRoom ws s starts within part found tos others n c
  unfolding program columns counter_count
  receive_room starts letters g within part found tos₀ others₀ tos others row u v room e f n b m c low l k most =
      let few = g.few in
      let less : b + 1 ≤ max_branches = omega arith in
      let all = mul-le-mul_right (letter_count_of p t) less in
      let next = next_most (letter_count_of p t) b in
      class_room h starts letters g within part found tos₀ others₀ tos others row u v room e f n c low (omega (arith, room.letters, class_order h starts g.class_letters c low)) (omega arith)

  pub receive_most : (starts : List ℕ) → ClassLetters p t starts → (n n' b c : ℕ) → c ≤ s.rows → n ≤ b * letter_count_of p t → n' + get_or starts c 0 ≤ n + get_or starts (c + 1) 0 → n' ≤ (b + 1) * letter_count_of p t
  unfolding program columns
  receive_most starts g n n' b c low most more = omega (arith, class_order h starts g c low, next_most (letter_count_of p t) b)

  pub most_kept : (n b : ℕ) → n ≤ b * letter_count_of p t → n ≤ (b + 1) * letter_count_of p t
  most_kept n b most = omega (arith, next_most (letter_count_of p t) b)

  pub receive_class : (i c : ℕ) → i < s.states → c ≡ left t.states i → c ≤ s.rows
  receive_class i c l e = omega (arith, class_low h i l)
