-- Where the rest of a head, the body of a function and the branches stand, as sums of rows or through the table of ends.
use Prim.Native.Nat.{ℕ, zero, suc, ◌+◌, ◌-◌, ◌≤◌, ◌<◌}
use native.Mathlib.Omega.{arith}
use mathlib.Core.Path.{◌≡◌, refl, sym, ◌∙◌, ap}
use mathlib.Core.Bool.{true}
use mathlib.Core.List.{List, [], ◌∷◌, ◌++◌, append-nil, Memᴰ}
use mathlib.Core.Option.{some}
use lib.ListN.{length, get_or, replicate}
use lib.Dec.{eqb}
use borrow.Author.Tests.{ltb-true}
use Rattle.model.specs.Rows.{Program, size, tag, num, kind, Kind, build, function, call, send, spawn, case, receive, Item, header, parameter, expression, operand, pattern, branch, branch_items, lead, arity, is_name, step, past_items}
use Rattle.model.specs.Limits.{max_depth}
use Rattle.model.specs.Scopes.{rest}
use Rattle.model.specs.Heads.{branch_rows, branch_body_of, is_function, body}
use Rattle.model.proofs.Logic.{and_right}
use Rattle.model.proofs.Parse.Spans.{Spans, spans_past, spans_unique, spans_none, spans_takes, spans_first, spans_split, spans_join}
use Rattle.model.proofs.Parse.Reached.{RowsFit, Stands, stands_row, stands_only, stands_split}
use Rattle.model.proofs.Parse.Grammar.{fits_some, follows}
use Rattle.model.proofs.Parse.Locations.{Location, location_follows}
use Rattle.model.proofs.Parse.Functions.{row_form, form_body}
use Rattle.model.proofs.Parse.Lengths.{ColumnsWhole, function_within}
use Rattle.layout.specs.Tables.{Ends}
use Rattle.positions.specs.Positions.{branch_row, Run}

-- an operand and a parameter take a row each
operand_one : (p : Program) (t n : ℕ) (more : List Item) → step p operand t n ≡ some more → [] ≡ more
unfolding step
operand_one p t n more h = (fits_some _ _ more h).1

parameter_one : (p : Program) (t n : ℕ) (more : List Item) → step p parameter t n ≡ some more → [] ≡ more
unfolding step
parameter_one p t n more h = (fits_some _ _ more h).1

module _ {p : Program} where
  -- items that take a row each
  pub single : (x : Item) → ((t n : ℕ) (more : List Item) → step p x t n ≡ some more → [] ≡ more) → (n r : ℕ) {xs : List Item} {e : ℕ} → Spans p (replicate n x ++ xs) r e → Spans p xs (r + n) e
  single x one zero r s = let z : r ≡ r + zero = omega arith in rw z at s
  single x one (suc n) r {xs} {e} s =
      let f = spans_first s in
      let z : r + 1 + n ≡ r + suc n = omega arith in
      rw z at (single x one n (r + 1) (rw (← one (tag p r) (num p r) f.more f.says) at f.rest))

  -- an operand's name is a name
  operand_name : {xs below : List Item} {r e : ℕ} → Stands p (operand ∷ xs) below r e → num p r < p.names
  unfolding step is_name
  operand_name {r = r} s =
      let f = stands_row s in
      ltb-true (num p r) p.names (and_right (eqb (tag p r) 21) _ (fits_some _ _ f.more f.says).0)

  -- up to the end of such items
  ends_at : (x : Item) → ((t n : ℕ) (more : List Item) → step p x t n ≡ some more → [] ≡ more) → (n r : ℕ) {e : ℕ} → Spans p (replicate n x) r e → e ≡ r + n
  ends_at x one n r {e} s =
      let k : Spans p (replicate n x ++ []) r e = rw append-nil s in
      spans_unique (single x one n r k) (spans_none (r + n))

  -- a header and its parameters; what a build makes; the parts of a call, a send and a spawn
  header_end : {r e : ℕ} {below : List Item} → Stands p (header ∷ []) below r e → e ≡ r + 1 + num p r
  unfolding step
  header_end {r} {e} s =
      let (more, says, others) = stands_only s in
      ends_at parameter (parameter_one p) (num p r) (r + 1) (rw (← (fits_some _ _ more says).1) at others.spans)

  made_end : {r e : ℕ} {below : List Item} → Stands p (lead build) below r e → e ≡ r + 1 + arity p (num p r)
  unfolding step lead
  made_end {r} {e} s =
      let (more, says, others) = stands_only s in
      ends_at operand (operand_one p) (arity p (num p r)) (r + 1) (rw (← (fits_some _ _ more says).1) at others.spans)

  call_end : {r e : ℕ} {below : List Item} → Stands p (lead call) below r e → e ≡ r + 2 + num p (r + 1)
  unfolding step lead
  call_end {r} {e} s =
      let f = stands_row s in
      let (more, says, others) = stands_only (rw (← operand_one p (tag p r) (num p r) f.more f.says) at f.rest) in
      let z = ends_at operand (operand_one p) (num p (r + 1)) (r + 1 + 1) (rw (← (fits_some _ _ more says).1) at others.spans) in
      omega arith

  -- the lead of a head, and its rest
  pub lead_stands : {r : ℕ} (k : Kind) (l : Location p r) → kind (tag p r) ≡ k → follows k (num p r) ≡ lead k ++ expression ∷ [] → Stands p (lead k) (expression ∷ l.below) (r + 1) (rest p r) × (rest p r < size p)
  unfolding rest
  lead_stands {r} k l e f =
      let (m, front, others) = stands_split (lead k) (rw (e, f) at (location_follows l)) in
      let z : m ≡ past_items p (lead k) (r + 1) = sym (spans_past front.spans) in
      let w = spans_takes others.spans in
      (rw (e, ← z) front, rw (e, ← z) (omega arith))

  module _ {r : ℕ} (l : Location p r) where
    pub rest_build : kind (tag p r) ≡ build → (rest p r ≡ r + 2 + num p (num p (r + 1))) × (rest p r < size p)
    unfolding arity
    rest_build e = let (s, w) = lead_stands build l e refl in let z = made_end s in (omega arith, w)

    pub rest_call : kind (tag p r) ≡ call → (rest p r ≡ r + 3 + num p (r + 2)) × (rest p r < size p)
    rest_call e =
        let (s, w) = lead_stands call l e refl in
        let z = call_end s in
        let two : r + 1 + 1 ≡ r + 2 = omega arith in
        let y = ap (num p) two in
        (omega arith, w)

    -- the names read by a call, a send and a spawn are names
    pub call_name : kind (tag p r) ≡ call → num p (r + 1) < p.names
    unfolding lead
    call_name e = operand_name (lead_stands call l e refl).0

    pub spawn_name : kind (tag p r) ≡ spawn → num p (r + 1) < p.names
    unfolding lead
    spawn_name e = operand_name (lead_stands spawn l e refl).0

    pub send_names : kind (tag p r) ≡ send → (num p (r + 1) < p.names) × (num p (r + 2) < p.names)
    unfolding lead
    send_names e =
        let (s, w) = lead_stands send l e refl in
        let f = stands_row s in
        let two : r + 1 + 1 ≡ r + 2 = omega arith in
        let second = operand_name (rw (← operand_one p (tag p (r + 1)) (num p (r + 1)) f.more f.says) at f.rest) in
        (operand_name s, rw two at second)

    -- the branches of a case, and of a receive
    pub case_run : kind (tag p r) ≡ case → Run p (r + 2) (num p (r + 1))
    unfolding step
    case_run e =
        let (more, says, others) = stands_only (rw e at (location_follows l)) in
        let two : r + 1 + 1 ≡ r + 2 = omega arith in
        let s : Stands p (branch_items (num p (r + 1))) l.below (r + 2) l.end = rw (← (fits_some _ _ more says).1, two) at others in
        record { end = l.end; reads = s.spans.reads }

    pub receive_run : kind (tag p r) ≡ receive → Run p (r + 1) (num p r)
    receive_run e =
        let s : Stands p (branch_items (num p r)) l.below (r + 1) l.end = rw e at (location_follows l) in
        record { end = l.end; reads = s.spans.reads }

module _ {p : Program} (fit : RowsFit p) (w : ColumnsWhole p) where
  -- the body of a function
  pub body_row : (f : ℕ) → is_function p f ≡ true → (body p f ≡ f + 2 + num p (f + 1)) × (body p f < size p)
  body_row f h =
      let g = row_form fit f (function_within w f h) h in
      let (front, others) = form_body g in
      let z = header_end front in
      let v = spans_takes others.spans in
      (omega arith, omega arith)

-- The branches that stand from a row
module _ {p : Program} where
  -- the first of them, and the others
  pub run_first : (q n : ℕ) → Run p q (suc n) → (e : ℕ) × Spans p (pattern max_depth ∷ []) q (branch_body_of p q) × Spans p (expression ∷ []) (branch_body_of p q) e × (past_items p branch q ≡ e) × Run p e n
  unfolding branch_items branch_body_of
  run_first q n h =
      let whole : Spans p (branch ++ branch_items n) q h.end = record { reads = h.reads } in
      let (e, first, others) = spans_split branch whole in
      let (b, front, tail) = spans_split (pattern max_depth ∷ []) first in
      let z : b ≡ past_items p (pattern max_depth ∷ []) q = sym (spans_past front) in
      (e, rw z at front, rw z at tail, spans_past first, record { end = h.end; reads = others.reads })

  -- fewer of them
  pub run_prefix : (j n q : ℕ) → j ≤ n → Run p q n → Run p q j
  unfolding branch_items
  run_prefix zero n q l h = record { end = q; reads = (spans_none q).reads }
  run_prefix (suc j) zero q l h = absurd (omega arith)
  run_prefix (suc j) (suc n) q l h =
      let whole : Spans p (branch ++ branch_items n) q h.end = record { reads = h.reads } in
      let (e, first, others) = spans_split branch whole in
      let fewer = run_prefix j n e (omega arith) (record { end = h.end; reads = others.reads }) in
      let few : Spans p (branch_items j) e fewer.end = record { reads = fewer.reads } in
      record { end = fewer.end; reads = (spans_join first few).reads }

  -- the last of j + 1 branches
  pub run_last : (j q : ℕ) → Run p q (suc j) → Run p (branch_row p q j) 1
  unfolding branch_row
  run_last zero q h = h
  run_last (suc j) q h = let (e, front, tail, same, next) = run_first q (suc j) h in run_last j (past_items p branch q) (rw same next)

-- where the branch's expression begins
pub run_body : (p : Program) (afters : List ℕ) (q : ℕ) → Ends p afters → Run p q 1 → (q < size p) × (get_or afters q 0 ≡ branch_body_of p q) × (branch_body_of p q < size p)
run_body p afters q ends h =
    let (e, front, tail, same, next) = run_first q 0 h in
    let a = spans_takes front in
    let b = spans_takes tail in
    (omega arith, ends.after_pattern q max_depth (branch_body_of p q) front.reads, omega arith)

-- what is known at a branch with others behind it
pub record Passed (p : Program) (row left mid next : ℕ) : Type 0 where
  pub row_low : row < size p
  pub mid_low : mid < size p
  pub onward : branch_row p row left ≡ branch_row p next (left - 1)
  pub run : Run p next (left - 1 + 1)

pub run_pass : (p : Program) (afters : List ℕ) (row left mid next : ℕ) → Ends p afters → Run p row (left + 1) → 0 < left → mid ≡ branch_body_of p row → next ≡ get_or afters mid 0 → Passed p row left mid next
unfolding branch_row
run_pass p afters row zero mid next ends h l e f = absurd (omega arith)
run_pass p afters row (suc n) mid next ends h l e f =
    let z : suc n + 1 ≡ suc (suc n) = omega arith in
    let (q, front, tail, same, others) = run_first row (suc n) (rw z at h) in
    let a = spans_takes front in
    let b = spans_takes tail in
    let k : next ≡ q = f ∙ (ap (λ x. get_or afters x 0) e ∙ ends.after_expression (branch_body_of p row) q tail.reads) in
    let y : suc n - 1 ≡ n = omega arith in
    let x : n + 1 ≡ suc n = omega arith in
    record {
      row_low = omega arith;
      mid_low = omega arith;
      onward = rw (y, same, k);
      run = rw (y, x, k) others;
    }

-- the branch is reached
pub row_end : (p : Program) (x row left : ℕ) → left ≡ 0 → x ≡ branch_row p row left → row ≡ x
unfolding branch_row
row_end p x row left e h = sym (h ∙ rw e)

-- it is one of the rows of the branches
pub row_listed : (p : Program) (j n q : ℕ) → j < n → Memᴰ (branch_row p q j) (branch_rows p n q)
unfolding branch_row branch_rows
row_listed p j zero q h = absurd (omega arith)
row_listed p zero (suc n) q h = Memᴰ.head refl
row_listed p (suc j) (suc n) q h = Memᴰ.tail (row_listed p j n (past_items p branch q) (omega arith))

-- there are as many branches as are asked for
pub rows_length : (p : Program) (m q : ℕ) → length (branch_rows p m q) ≡ m
unfolding branch_rows
rows_length p zero q = refl
rows_length p (suc m) q = ap suc (rows_length p m (past_items p branch q))
