-- What is settled of a head, by its tag.
use Prim.Native.Nat.{ℕ, zero, suc, ◌+◌, ◌-◌, ◌^◌, ◌≤◌, ◌<◌}
use native.Mathlib.Omega.{arith}
use native.Mathlib.Decide.{ℕ_discrete}
use mathlib.Core.Path.{◌≡◌, refl, ◌∙◌, ap}
use mathlib.Core.Bool.{Bool, true, ◌&&◌}
use mathlib.Core.List.{List, [], ◌∷◌}
use mathlib.Core.Logic.{◌⊎◌, inl, inr, ⊎_elim}
use lib.Dec.{eqb, leb}
use lib.ListN.{length}
use borrow.Author.Tests.{leb-true}
use Rattle.model.specs.declared.Sizes.{Sizes}
use Rattle.model.specs.Words.{Columns}
use Rattle.model.specs.Limits.{max_branches}
use Rattle.model.specs.Rows.{Program, program, size, tag, num, kind, build, function, case, receive, branch, is_branch_count_of, expression, step, expression_step, past_items}
use Rattle.model.specs.Heads.{branch_rows}
use Rattle.model.specs.Tables.{Tables, has}
use Rattle.model.proofs.Logic.{and_right}
use Rattle.model.proofs.Parse.Reached.{stands_only, stands_row}
use Rattle.model.proofs.Parse.Grammar.{fits_some}
use Rattle.model.proofs.Parse.Locations.{Location, location_follows}
use Rattle.lists.specs.Ready.{Ready}
use Rattle.positions.specs.Positions.{Run}
use Rattle.positions.proofs.Standing.{case_run, receive_run, rows_length}
use Rattle.values.specs.Values.{width, Values, FlowReady}
use Rattle.values.proofs.Names.{head_name}
use Rattle.matching.specs.Patterns.{MatchReady}
use Rattle.branches.specs.Taken.{lacks, IsTaken, BitsTold, LayoutReady}
use Rattle.branches.proofs.Told.{bits_told}
use Rattle.branches.proofs.Walk.{power_low}
use Rattle.asks.specs.Asks.{MailReady, StartsReady, there_code, Asked}
use Rattle.asks.proofs.Rows.{head_here}
use Rattle.asks.proofs.Asking.{there_most}
use Rattle.settled.specs.Settled.{ClosureReady, Settled}

-- a case and a receive have at most 16 branches
case_few : {p : Program} {r : ℕ} → Location p r → tag p r ≡ 8 → num p (r + 1) ≤ max_branches
unfolding kind step is_branch_count_of
case_few {p} {r} l t =
    let k : kind (tag p r) ≡ case = rw t in
    let (more, says, others) = stands_only (rw k at (location_follows l)) in
    leb-true _ _ (and_right (leb 1 (num p (r + 1))) _ (and_right (eqb (tag p (r + 1)) 25) _ (fits_some _ _ more says).0))

receive_few : {p : Program} {r : ℕ} → Location p r → tag p r ≡ 9 → num p r ≤ max_branches
unfolding kind step expression_step is_branch_count_of
receive_few {p} {r} l t =
    let f = stands_row l.stands in
    leb-true _ _ (and_right (leb 1 (num p r)) _ (fits_some _ _ f.more (rw (t, expression_step) at f.says)).0)

-- the bits of at most 16 branches, told
pub taken_told : {p : Program} {t : Tables} {sets : List ℕ} {n q count k : ℕ} (l : Columns) (a : ℕ) → IsTaken p t sets n q count k → Values l a (width (size p)) n sets → count ≤ 16 → BitsTold p t l a (branch_rows p count q) k
taken_told {p} {t} {sets} {n} {q} {count} {k} l a is of few =
    bits_told p t l a (branch_rows p count q) k (is.of_list l a of) (rw (rows_length p count q) (power_low (16 - count) count (omega arith)))

pub told_most : {p : Program} {t : Tables} {l : Columns} {a : ℕ} (n q k : ℕ) → n ≤ 16 → BitsTold p t l a (branch_rows p n q) k → k ≤ lacks
told_most {p} n q k few b = elim (ℕ_discrete k lacks) [
  | yes e ↦ omega arith
  | no e ↦ let z = rw (rows_length p n q) at (b.end e) in let y = power_low (16 - n) n (omega arith) in omega arith
]

-- with all tables, each question has those that it goes by
module _ {ws : List ℕ} {s : Sizes} {afters starts flow mail may held : List ℕ} (h : ClosureReady ws s afters starts flow mail may held) where
  pub closure_match : MatchReady ws s afters flow may held 0
  closure_match = record { ready = h.ready; layout = h.layout; names = h.names; patterns = h.patterns }

  pub closure_flow : FlowReady ws s flow
  closure_flow = record { ready = h.ready; names = h.names }

  pub closure_mail : MailReady ws s flow mail
  closure_mail = record { ready = h.ready; names = h.names; classes = h.classes }

  pub closure_layout : LayoutReady ws s afters
  closure_layout = record { ready = h.ready; layout = h.layout }

  pub closure_starts : StartsReady ws s starts
  closure_starts = record { ready = h.ready; begins = h.begins }

module _ {ws : List ℕ} {s : Sizes} (h : Ready ws s) (r : ℕ) where
  pub case_here : tag (program ws s) r ≡ 8 → (n : ℕ) → n ≡ num (program ws s) (r + 1) → Run (program ws s) (r + 2) n × (n ≤ max_branches)
  unfolding kind
  case_here t n e = let l = head_here h r (omega arith) (omega arith) in (rw e (case_run l (rw t)), rw e (case_few l t))

  pub receive_here : tag (program ws s) r ≡ 9 → (n : ℕ) → n ≡ num (program ws s) r → Run (program ws s) (r + 1) n × (n ≤ max_branches)
  unfolding kind
  receive_here t n e = let l = head_here h r (omega arith) (omega arith) in (rw e (receive_run l (rw t)), rw e (receive_few l t))

  pub case_name : tag (program ws s) r ≡ 8 → (n : ℕ) → n ≡ num (program ws s) r → n < s.names
  unfolding kind program
  case_name t n e = let z = head_name case (head_here h r (omega arith) (omega arith)) (rw t) refl in omega arith

  pub bound_name : (tag (program ws s) r ≡ 2) ⊎ (tag (program ws s) r ≡ 3) → (n : ℕ) → n ≡ num (program ws s) r → n < s.names
  unfolding kind program
  bound_name (inl t) n e = let z = head_name build (head_here h r (omega arith) (omega arith)) (rw t) refl in omega arith
  bound_name (inr t) n e = let z = head_name function (head_here h r (omega arith) (omega arith)) (rw t) refl in omega arith

  pub tag_some : (tag (program ws s) r ≡ 2) ⊎ (tag (program ws s) r ≡ 3) → 1 ≤ tag (program ws s) r
  tag_some (inl t) = omega arith
  tag_some (inr t) = omega arith

pub two_three : (x y : ℕ) → x ≡ y → 2 ≤ x → x ≤ 3 → (y ≡ 2) ⊎ (y ≡ 3)
two_three x y e lo hi = elim (ℕ_discrete y 2) [ yes z ↦ inl z | no z ↦ inr (omega arith) ]

module _ (p : Program) (t : Tables) (r x k : ℕ) (tagged : x ≡ tag p r) where
  pub settled_named : (x ≡ 2) ⊎ (x ≡ 3) → k ≡ there_code (has t.flow (num p r) r) → Settled p t r k
  settled_named two e = record {
    most = let z = there_most (has t.flow (num p r) r) in omega arith;
    named = λ z. e;
    asked = λ lo hi. absurd (⊎_elim (λ y. omega arith) (λ y. omega arith) two);
    taken = λ z. absurd (⊎_elim (λ y. omega arith) (λ y. omega arith) two);
  }

  pub settled_asked : (4 ≤ x) × (x ≤ 6) → Asked p t r k → k ≤ 2 → Settled p t r k
  settled_asked (lo, hi) e l = record {
    most = omega arith;
    named = λ z. absurd (⊎_elim (λ y. omega arith) (λ y. omega arith) z);
    asked = λ a b. e;
    taken = λ z. absurd (omega arith);
  }

  pub settled_taken : x ≡ 8 → num p (r + 1) ≤ 16 → BitsTold p t t.flow (num p r) (branch_rows p (num p (r + 1)) (r + 2)) k → Settled p t r k
  settled_taken e few b = record {
    most = told_most (num p (r + 1)) (r + 2) k few b;
    named = λ z. absurd (⊎_elim (λ y. omega arith) (λ y. omega arith) z);
    asked = λ lo hi. absurd (omega arith);
    taken = λ z. b;
  }

  pub settled_none : k ≡ 0 → (2 ≤ x → x ≤ 6 → ⊥) → (x ≡ 8 → ⊥) → Settled p t r k
  settled_none e few n₈ = record {
    most = omega arith;
    named = λ z. absurd (⊎_elim (λ y. few (omega arith) (omega arith)) (λ y. few (omega arith) (omega arith)) z);
    asked = λ lo hi. absurd (few (omega arith) (omega arith));
    taken = λ z. absurd (n₈ (tagged ∙ z));
  }

pub there_told : (l : Columns) (n m r : ℕ) (x : Bool) (k : ℕ) → n ≡ m → x ≡ has l n r → k ≡ there_code x → k ≡ there_code (has l m r)
there_told l n m r x k e f g = g ∙ ap there_code (f ∙ ap (λ i. has l i r) e)

pub settled_case : (p : Program) (t : Tables) (flow : List ℕ) (r x n m : ℕ) {k : ℕ} → x ≡ tag p r → x ≡ 8 → n ≡ num p r → m ≡ num p (r + 1) → IsTaken p t flow n (r + 2) m k → Values t.flow n (width (size p)) n flow → m ≤ 16 → Settled p t r k
settled_case p t flow r x n m {k} tagged e en em is of few =
    settled_taken p t r x k tagged e (rw (← em) few) (rw (← em, ← en) (taken_told t.flow n is of few))
