-- The branches of a case or receive.
use Prim.Native.Nat.{ℕ, zero, suc, ◌+◌, ◌≤◌, ◌<◌}
use native.Mathlib.Omega.{arith}
use mathlib.Core.Path.{◌≡◌, sym, ◌∙◌, ap}
use mathlib.Core.Bool.{false}
use mathlib.Core.List.Memᴰ
use mathlib.Core.List.{List, [], ◌∷◌, Memᴰ}
use mathlib.Core.Logic.{⊎_elim}
use native.Mathlib.Decide.{ℕ_discrete}
use Rattle.model.specs.Limits.{max_depth}
use Rattle.model.specs.Rows.{Program, tag, num, is_head_of, Item, expression, pattern, branch, branch_items, step}
use Rattle.model.specs.Scopes.{binds}
use Rattle.model.specs.Heads.{cases, receives, head_at, branch_rows, branch_body_of}
use Rattle.model.proofs.Heads.{head_case, head_receive}
use Rattle.model.proofs.Parse.Spans.{spans_past, spans_range}
use Rattle.model.proofs.Parse.Reached.{Stands, stands_only, stands_split}
use Rattle.model.proofs.Parse.Grammar.{fits_tag}
use Rattle.model.proofs.Parse.Heads.{known_kind, known_tag}
use Rattle.model.proofs.Parse.Locations.{Location, location_follows}

-- the branches of the head at row r stand from row `from` up to row e; no head's row is before them, and none that binds a name
pub record Branches (p : Program) (r : ℕ) (qs : List ℕ) (below : List Item) (e : ℕ) : Type 0 where
  pub count : ℕ
  pub from : ℕ
  pub rows : branch_rows p count from ≡ qs
  pub stands : Stands p (branch_items count) below from e
  pub behind : r < from
  pub no_head : (f : ℕ) → r < f → f < from → is_head_of (tag p f) ≡ false
  pub no_name : (f : ℕ) → r ≤ f → f < from → binds (tag p f) ≡ false

-- the branch whose pattern stands at row q, among branches that stand from row s up to row e
pub record Branch (p : Program) (s q e : ℕ) : Type 0 where
  pub below : List Item
  pub end : ℕ
  pub upto : end ≤ e
  pub from : s ≤ q
  pub pattern_stands : Stands p (pattern max_depth ∷ []) (expression ∷ below) q (branch_body_of p q)
  pub body_stands : Stands p (expression ∷ []) below (branch_body_of p q) end

-- of two rows from r on, the second
only_next : {r f : ℕ} → r ≤ f → (f ≡ r → ⊥) → f < r + 2 → f ≡ r + 1
only_next lo ne hi = omega arith

module _ {p : Program} where
  -- the first of the branches, and the others
  first_branch : {s m e : ℕ} {below : List Item} → Stands p branch below s m → m ≤ e → Branch p s s e
  unfolding branch_body_of
  first_branch {s} {m} {e} {below} h l =
      let (b, front, others) = stands_split (pattern max_depth ∷ []) h in
      let z : b ≡ branch_body_of p s = sym (spans_past front.spans) in
      record {
        below = below;
        end = m;
        upto = l;
        from = omega arith;
        pattern_stands = rw z at front;
        body_stands = rw z at others;
      }

  later_branch : {s m q e : ℕ} {below : List Item} → Stands p branch below s m → Branch p m q e → Branch p s q e
  later_branch {s} {m} {q} {e} h b =
      let v = spans_range h.spans in
      let l = b.from in
      record {
        below = b.below;
        end = b.end;
        upto = b.upto;
        from = omega arith;
        pattern_stands = b.pattern_stands;
        body_stands = b.body_stands;
      }

  -- each branch row has a branch
  row_branch : (n s q : ℕ) {e : ℕ} {below : List Item} → Stands p (branch_items n) below s e → Memᴰ q (branch_rows p n s) → Branch p s q e
  unfolding branch_items branch_rows
  row_branch zero s q h m = absurd (Memᴰ.not-nil m)
  row_branch (suc n) s q {e} {below} h m =
      let (a, front, others) = stands_split branch h in
      let z = spans_past front.spans in
      ⊎_elim (λ here. rw here (first_branch front (spans_range others.spans).0))
      (λ there. later_branch front (row_branch n a q others (rw z at there)))
      (Memᴰ.cases_cons m)

  -- a branch of the head at row r
  pub branch_in : {r q e : ℕ} {qs : List ℕ} {below : List Item} (b : Branches p r qs below e) → Memᴰ q qs → Branch p b.from q e
  branch_in {q} b m = row_branch b.count b.from q b.stands (rw b.rows m)

  -- its expression
  pub branch_location : {s q e : ℕ} → Branch p s q e → Location p (branch_body_of p q)
  branch_location b = record { below = b.below; end = b.end; stands = b.body_stands }

  -- the branches of a case, and of a receive
  pub case_branches : {r n : ℕ} {qs : List ℕ} (l : Location p r) → head_at p r ≡ cases n qs → Branches p r qs l.below l.end
  unfolding is_head_of binds step
  case_branches {r} {n} {qs} l h =
      let k = known_kind p r (cases n qs) h in
      let t : tag p r ≡ 8 = known_tag p r (cases n qs) h (omega arith) in
      let z : cases (num p r) (branch_rows p (num p (r + 1)) (r + 2)) ≡ cases n qs = sym (head_case p r k) ∙ h in
      let (more, says, others) = stands_only (rw k at (location_follows l)) in
      let (t', same) = fits_tag (tag p (r + 1)) 25 _ (branch_items (num p (r + 1))) more says in
      let two : r + 1 + 1 ≡ r + 2 = omega arith in
      record {
        count = num p (r + 1);
        from = r + 2;
        rows = cc;
        stands = rw (← same, two) at others;
        behind = omega arith;
        no_head = λ f lo hi. let z : f ≡ r + 1 = omega arith in ap (λ x. is_head_of (tag p x)) z ∙ ap is_head_of t';
        no_name = λ f lo hi. elim (ℕ_discrete f r) [
          | yes z ↦ ap (λ x. binds (tag p x)) z ∙ ap binds t
          | no z ↦ ap (λ x. binds (tag p x)) (only_next lo z hi) ∙ ap binds t'
        ];
      }

  pub receive_branches : {r : ℕ} {qs : List ℕ} (l : Location p r) → head_at p r ≡ receives qs → Branches p r qs l.below l.end
  unfolding binds
  receive_branches {r} {qs} l h =
      let k = known_kind p r (receives qs) h in
      let t : tag p r ≡ 9 = known_tag p r (receives qs) h (omega arith) in
      let z : receives (branch_rows p (num p r) (r + 1)) ≡ receives qs = sym (head_receive p r k) ∙ h in
      record {
        count = num p r;
        from = r + 1;
        rows = cc;
        stands = rw k at (location_follows l);
        behind = omega arith;
        no_head = λ f lo hi. absurd (omega arith);
        no_name = λ f lo hi. let z : f ≡ r = omega arith in ap (λ x. binds (tag p x)) z ∙ ap binds t;
      }
