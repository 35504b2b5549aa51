-- The branches of a case and of a receive, one after the other, and the rules of a case.
use Prim.Native.Nat.{ℕ, zero, suc, ◌+◌, ◌-◌, ◌≤◌, ◌<◌}
use native.Mathlib.Numerals.{add-one}
use native.Mathlib.Omega.{arith}
use mathlib.Core.Path.{◌≡◌, refl, sym, ◌∙◌, ap}
use mathlib.Core.Bool.{Bool, true, false, not}
use mathlib.Core.List.{List, [], ◌∷◌}
use lib.ListN.{length, get_or}
use lib.Dec.{eqb, leb}
use borrow.Author.Tests.{leb-true}
use Rattle.bits.specs.Bits.{bit}
use Rattle.model.specs.declared.Sizes.{Sizes}
use Rattle.model.specs.Index.{gather, only}
use Rattle.model.specs.Limits.{max_branches}
use Rattle.model.specs.Words.{right, columns}
use Rattle.model.specs.Rows.{Program, program, size, tag, num, kind, branch, step, is_branch_count_of, past_items, case}
use Rattle.model.specs.Heads.{branch_rows, branch_body_of, head_at, cases}
use Rattle.model.specs.Tables.{Tables, tables, entries, some_of, state_at, state_index_of, onward}
use Rattle.model.specs.Closed.{may_take}
use Rattle.model.specs.Rules.{quiet, rule, state_rules_of}
use Rattle.model.proofs.Logic.{and_right}
use Rattle.model.proofs.Heads.{head_case}
use Rattle.model.proofs.Parse.Grammar.{fits_some}
use Rattle.model.proofs.Parse.Reached.{stands_only}
use Rattle.model.proofs.Parse.Locations.{Location, location_follows}
use Rattle.lists.specs.Ready.{Ready}
use Rattle.layout.specs.Tables.{Ends}
use Rattle.positions.specs.Positions.{branch_row, Run}
use Rattle.positions.specs.Branches.{BranchBits}
use Rattle.positions.proofs.Standing.{run_first, run_prefix, run_body, case_run, rows_length}
use Rattle.rules.proofs.Gather.{gather_same, rows_range}
use Rattle.plain_rules.specs.Heads.{case_turn}
use Rattle.plain_rules.proofs.Heads.{only_both, kept, tag_head, here}

pub rows_at : (p : Program) (m q b : ℕ) → b < m → get_or (branch_rows p m q) b 0 ≡ branch_row p q b
unfolding branch_rows branch_row
rows_at p zero q b l = absurd (omega arith)
rows_at p (suc m) q zero l = refl
rows_at p (suc m) q (suc b) l = rows_at p m (past_items p branch q) b (omega arith)

row_next : (p : Program) (q b : ℕ) → branch_row p q (suc b) ≡ past_items p branch (branch_row p q b)
unfolding branch_row
row_next p q zero = refl
row_next p q (suc b) = row_next p (past_items p branch q) b

-- "branches 1 to 16"
pub counted : (n : ℕ) → is_branch_count_of n ≡ true → n ≤ max_branches
unfolding is_branch_count_of
counted n e = leb-true n max_branches (and_right (leb 1 n) (leb n max_branches) e)

-- Branch b of those that stand from row q₀ stands at row q, and so many are left
pub record BranchAt (p : Program) (q₀ m b q : ℕ) : Type 0 where
  pub at : branch_row p q₀ b ≡ q
  pub run : Run p q (m - b)

pub branch_begin : (p : Program) (q m : ℕ) → Run p q m → BranchAt p q m 0 q
unfolding branch_row
branch_begin p q m r = record { at = refl; run = let z : m - 0 ≡ m = omega arith in rw z r }

pub one_run : (p : Program) (q₀ m b q : ℕ) → BranchAt p q₀ m b q → b < m → Run p q 1
one_run p q₀ m b q a low = run_prefix 1 (m - b) q (omega arith) a.run

module _ (p : Program) (afters : List ℕ) (ends : Ends p afters) (q₀ m b q : ℕ) (a : BranchAt p q₀ m b q) (low : b < m) where
  some_left : Run p q (suc (m - (b + 1)))
  some_left = let z : m - b ≡ suc (m - (b + 1)) = omega arith in rw z at a.run

  pub branch_here : (q < size p) × (get_or afters q 0 ≡ branch_body_of p q) × (branch_body_of p q < size p)
  branch_here = run_body p afters q ends (run_prefix 1 (m - b) q (omega arith) a.run)

  pub branch_next : (e q' : ℕ) → e ≡ get_or afters q 0 → q' ≡ get_or afters e 0 → BranchAt p q₀ m (b + 1) q'
  branch_next e q' f g =
      let (x, front, tail, same, next) = run_first q (m - (b + 1)) some_left in
      let z : q' ≡ x = g ∙ (ap (λ k. get_or afters k 0) (f ∙ branch_here.1) ∙ ends.after_expression (branch_body_of p q) x tail.reads) in
      record {
        at = ap (branch_row p q₀) (add-one b) ∙ (row_next p q₀ b ∙ (ap (past_items p branch) a.at ∙ (same ∙ sym z)));
        run = rw z next;
      }

module _ {ws : List ℕ} {s : Sizes} (h : Ready ws s) where
  abbrev p : Program
  p = program ws s

  abbrev t : Tables
  t = tables ws s

  module _ (r : ℕ) (e : tag p r ≡ 8) where
    case_here : Location p r
    case_here = here h r (tag_head (tag p r) 8 e (omega arith) (omega arith))

    pub case_count : num p (r + 1) ≤ max_branches
    unfolding step kind
    case_count =
        let k : kind (tag p r) ≡ case = rw e in
        let (more, says, others) = stands_only (rw k at (location_follows case_here)) in
        counted (num p (r + 1)) (and_right (eqb (tag p (r + 1)) 25) _ (fits_some _ _ more says).0)

    pub case_rows : Run p (r + 2) (num p (r + 1))
    unfolding kind
    case_rows = case_run case_here (rw e)

  -- the rules of a case
  pub case_gathered : (branches : List ℕ) → BranchBits p t branches → (x r m e : ℕ) → tag p r ≡ 8 → x < s.states → r ≡ right t.states x → m ≡ num p (r + 1) → gather 0 m (case_turn p t (state_at t x) (get_or branches x 0) (r + 2) e) ≡ state_rules_of p t e (state_at t x)
  unfolding state_rules_of kind case_turn tables entries columns state_at
  case_gathered branches bits x r m e is low same u =
      let head : head_at p (right t.states x) ≡ cases (num p r) (branch_rows p m (r + 2)) = ap (head_at p) (sym same) ∙ (head_case p r (rw is) ∙ ap (λ n. cases (num p r) (branch_rows p n (r + 2))) (sym u)) in
      rw (head, state_rules_of)
      (gather_same 0 m _ _ (λ b y z.
      let bit' : bit (get_or branches x 0) b ≡ some_of t.flow (num p r) (may_take p t (branch_row p (r + 2) b)) = bits.case_bit x (num p r) b (branch_rows p m (r + 2)) low head (omega (arith, rows_length p m (r + 2))) ∙ ap (λ q. some_of t.flow (num p r) (may_take p t q)) (rows_at p m (r + 2) b z) in
      only_both _ _ _ _ bit' (λ w. refl)) ∙
      sym (rows_range p m (r + 2) (λ q. only (some_of t.flow (num p r) (may_take p t q)) (rule e (state_index_of t (onward (state_at t x) (branch_body_of p q))) quiet))))

  pub case_kept : (branches : List ℕ) (x q₀ m b q f here e : ℕ) (y : Bool) → BranchAt p q₀ m b q → y ≡ bit (get_or branches x 0) b → not y ≡ false → f ≡ branch_body_of p q → here ≡ state_index_of t (onward (state_at t x) f) → case_turn p t (state_at t x) (get_or branches x 0) q₀ e b ≡ rule e here quiet ∷ []
  unfolding case_turn
  case_kept branches x q₀ m b q f here e y a g n u v = kept y _ _ _ g n (λ z. ap (λ k. rule e k quiet) (ap (λ k. state_index_of t (onward (state_at t x) (branch_body_of p k))) a.at ∙ (ap (λ k. state_index_of t (onward (state_at t x) k)) (sym u) ∙ sym v)))
