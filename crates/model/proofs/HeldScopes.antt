-- A name in scope at a pattern's row is in scope at its case or receive, and the other way round (specs/Equality).
use Prim.Native.Nat.{ℕ, zero, suc, ◌+◌, ◌-◌, ◌≤◌, ◌<◌}
use native.Mathlib.Decide.{ℕ_discrete, dec_lt}
use native.Mathlib.Omega.{arith}
use mathlib.Core.Path.{◌≡◌, refl, sym, ◌∙◌, ap}
use mathlib.Core.Bool.{Bool, true, false, ◌&&◌, ◌||◌}
use mathlib.Core.List.{List, [], ◌∷◌, ◌++◌, Memᴰ}
use mathlib.Core.Logic.{◌⊎◌, inl, inr, ⊎_elim}
use mathlib.Core.Option.{some, none, none-ne-some}
use lib.Dec.{eqb, leb, ltb}
use lib.ListN.{replicate}
use borrow.Author.Tests.{eqb-true, leb-true, ltb-true, le-leb, lt-ltb}
use Rattle.model.specs.Limits.{max_depth}
use Rattle.model.specs.Index.{first}
use Rattle.model.specs.Rows.{Program, size, tag, num, arity, kind, Kind, lead, is_head_of, Item, expression, pattern, branches, branch, branch_items, past_items, step, row_check_of}
use Rattle.model.specs.Scopes.{binds, rest, next_head, is_held_in, in_scope}
use Rattle.model.specs.Heads.{head_at, cases, receives, branch_rows, branch_body_of}
use Rattle.model.specs.Equality.{HeldScopes}
use Rattle.model.proofs.Logic.{test, true_false, and_left, and_right, and_intro, or_cases, or_right, both}
use Rattle.model.proofs.Index.{first_is}
use Rattle.model.proofs.Heads.{by_kind, tag_is}
use Rattle.model.proofs.Parse.Spans.{spans_past, spans_range, spans_unique, spans_none}
use Rattle.model.proofs.Parse.Reached.{RowsFit, Stands, stands_row, stands_only, stands_inside, stands_split, stands_item, stands_within}
use Rattle.model.proofs.Parse.Grammar.{follows, expression_kind, pattern_made, pattern_leaf}
use Rattle.model.proofs.Parse.Heads.{known_kind, known_tag}
use Rattle.model.proofs.Parse.Locations.{Location, location_follows, location_head, head_location}
use Rattle.model.proofs.Parse.Branches.{Branches, branch_in, case_branches, receive_branches}
use Rattle.model.proofs.Exact.Rows.{row_none}

-- all of the items are patterns
data Patterns : List Item → Type 0 where
  none_left : Patterns []
  one_more : {d : ℕ} {xs : List Item} → Patterns xs → Patterns (pattern d ∷ xs)

replicated : (n d : ℕ) {xs : List Item} → Patterns xs → Patterns (replicate n (pattern d) ++ xs)
replicated zero d h = h
replicated (suc n) d h = one_more (replicated n d h)

step_patterns : (p : Program) (d r : ℕ) {xs more : List Item} → step p (pattern d) (tag p r) (num p r) ≡ some more → Patterns xs → Patterns (more ++ xs)
step_patterns p d r {xs} {more} says h =
    test (eqb (tag p r) 31)
    (λ e. rw (← (pattern_made p d (tag p r) (num p r) more e says).1) (replicated (arity p (num p r)) (d - 1) h))
    (λ e. rw (← (pattern_leaf p d (tag p r) (num p r) more e says).2) h)

module _ {p : Program} where
  -- no expression stands in a pattern's rows
  patterns_on : (n : ℕ) {xs below : List Item} {r s e : ℕ} → Patterns xs → s ≡ r + n → s < e → Stands p xs below r e → Location p s → ⊥
  patterns_on zero {r = r} none_left z l h loc = let w = spans_unique (spans_none r) h.spans in omega arith
  patterns_on zero {r = r} {s = s} (one_more {d} ps) z l h loc =
      let y : r ≡ s = omega arith in
      let x : pattern d ≡ expression = stands_item (rw y at h) loc.stands in
      let w : ◌≡◌ {A = ℕ} 0 1 = cc in omega arith
  patterns_on (suc n) {r = r} none_left z l h loc = let w = spans_unique (spans_none r) h.spans in omega arith
  patterns_on (suc n) {r = r} (one_more {d} ps) z l h loc =
      let f = stands_row h in
      patterns_on n (step_patterns p d r f.says ps) (omega arith) l f.rest loc

  -- an expression whose head is among these rows ends among them
  pub ends_within : {xs below : List Item} {r s e : ℕ} → r ≤ s → s < e → Stands p xs below r e → (loc : Location p s) → loc.end ≤ e
  ends_within {s = s} lo hi h loc = let k = stands_inside s lo hi h in stands_within loc.stands k.stands

  -- a branch is behind where the branches begin
  pub branch_behind : (n s q : ℕ) {e : ℕ} {below : List Item} → Stands p (branch_items n) below s e → Memᴰ q (branch_rows p n s) → s ≤ q
  unfolding branch_items branch_rows
  branch_behind zero s q h m = absurd (mathlib.Core.List.Memᴰ.not-nil m)
  branch_behind (suc n) s q h m =
      let (a, front, others) = stands_split branch h in
      let z = spans_past front.spans in
      let x = spans_range front.spans in
      ⊎_elim (λ here. omega arith) (λ there. let y = branch_behind n a q others (rw z at there) in omega arith) (mathlib.Core.List.Memᴰ.cases_cons m)

  -- of the branches before the one at row q, each expression ends before q
  pub before_branch : (n s q : ℕ) {e : ℕ} {below : List Item} → Stands p (branch_items n) below s e → Memᴰ q (branch_rows p n s) → (f : ℕ) → s ≤ f → f < q → (loc : Location p f) → loc.end ≤ q
  unfolding branch_items branch_rows
  before_branch zero s q h m f lo hi loc = absurd (mathlib.Core.List.Memᴰ.not-nil m)
  before_branch (suc n) s q h m f lo hi loc =
      let (a, front, others) = stands_split branch h in
      let z = spans_past front.spans in
      ⊎_elim (λ here. absurd (omega arith))
      (λ there. let there' : Memᴰ q (branch_rows p n a) = rw z at there in
      elim (dec_lt f a) [
        | yes l ↦ let x = ends_within lo l front loc in let y = branch_behind n a q others there' in omega arith
        | no l ↦ before_branch n a q others there' f (omega arith) hi loc
      ])
      (mathlib.Core.List.Memᴰ.cases_cons m)

-- the rows of an expression
unfoldable has_row : Program → ℕ → ℕ → Bool
has_row p f k = leb f k && ltb k (past_items p (expression ∷ []) f)

module _ {p : Program} {r : ℕ} (loc : Location p r) {qs : List ℕ} (at : Branches p r qs loc.below loc.end) (q k : ℕ) (listed : Memᴰ q qs) (lo : q ≤ k) (hi : k < branch_body_of p q) where
  -- the expression at f has the pattern's row k exactly where it has the case or receive
  row_of_both : {f : ℕ} (lf : Location p f) → has_row p f k ≡ has_row p f r
  unfolding has_row
  row_of_both {f} lf =
      let b = branch_in at listed in
      let behind = at.behind in
      let from = b.from in
      let upto = b.upto in
      let body = (spans_range b.body_stands.spans).0 in
      let end = spans_past lf.stands.spans in
      let told : (x : ℕ) → has_row p f x ≡ true → (f ≤ x) × (x < lf.end) = λ x h. (
        leb-true f x (and_left (leb f x) _ h),
        (let y = ltb-true x (past_items p (expression ∷ []) f) (and_right (leb f x) _ h) in omega arith),
      ) in
      let shut : (x : ℕ) → f ≤ x → x < lf.end → has_row p f x ≡ true = λ x y z. and_intro (leb f x) _ (le-leb f x y) (lt-ltb x (past_items p (expression ∷ []) f) (omega arith)) in
      both _ _
      (λ h. let (y, z) = told k h in
      elim (dec_lt r f) [
        | no l ↦ shut r (omega arith) (omega arith)
        | yes l ↦ elim (dec_lt f at.from) [
          | yes m ↦ absurd (true_false (location_head lf) (at.no_head f l m))
          | no m ↦ elim (dec_lt f q) [
            | yes o ↦ let x = before_branch at.count at.from q at.stands (rw at.rows listed) f (omega arith) o lf in absurd (omega arith)
            | no o ↦ absurd (patterns_on (f - q) (one_more none_left) (omega arith) (omega arith) b.pattern_stands lf)
          ]
        ]
      ])
      (λ h. let (y, z) = told r h in
      let x = ends_within y z lf.stands loc in
      shut k (omega arith) (omega arith))

-- the expression in which a name holds
ceiling_rest : {p : Program} {b : ℕ} (l : Location p b) (k : Kind) → kind (tag p b) ≡ k → follows k (num p b) ≡ lead k ++ expression ∷ [] → Location p (rest p b)
unfolding rest
ceiling_rest {p} {b} l k e f =
    let s : Stands p (lead k ++ expression ∷ []) l.below (b + 1) l.end = rw (e, f) at (location_follows l) in
    let (m, front, others) = stands_split (lead k) s in
    let z = spans_past front.spans in
    rw (e, z) (record { below = l.below; end = l.end; stands = others })

pub unbound : {A : Type 0} (t k : ℕ) → t ≡ k → binds k ≡ false → binds t ≡ true → A
unbound t k e n u = true_false u (ap binds e ∙ n)

head_holds : {p : Program} {b : ℕ} (l : Location p b) → binds (tag p b) ≡ true → Location p (rest p b)
unfolding binds
head_holds {p} {b} l u =
    by_kind (kind (tag p b))
    (λ e. unbound (tag p b) 1 (tag_is (tag p b) _ e) refl u)
    (λ e. ceiling_rest l _ e refl)
    (λ e. ceiling_rest l _ e refl)
    (λ e. ceiling_rest l _ e refl)
    (λ e. ceiling_rest l _ e refl)
    (λ e. ceiling_rest l _ e refl)
    (λ e. ceiling_rest l _ e refl)
    (λ e. unbound (tag p b) 8 (tag_is (tag p b) _ e) refl u)
    (λ e. unbound (tag p b) 9 (tag_is (tag p b) _ e) refl u)
    (λ e. let (more, says, s) = stands_only l.stands in absurd (expression_kind p (tag p b) (num p b) more says e))

module _ (p : Program) (fit : RowsFit p) {r : ℕ} (loc : Location p r) {qs : List ℕ} (at : Branches p r qs loc.below loc.end) (q k : ℕ) (listed : Memᴰ q qs) (lo : q ≤ k) (hi : k < branch_body_of p q) where
  -- where no head is left, no row is had
  none_there : (f x : ℕ) → x < size p → size p ≤ f → has_row p f x ≡ false
  unfolding has_row
  none_there f x l h = test (has_row p f x) (λ z. let y = leb-true f x (and_left (leb f x) _ z) in absurd (omega arith)) (λ z. z)

  holds_both : (b : ℕ) → b < size p → binds (tag p b) ≡ true → has_row p (is_held_in p b) k ≡ has_row p (is_held_in p b) r
  unfolding is_held_in next_head
  holds_both b l u =
      let br = branch_in at listed in
      let end = spans_range loc.stands.spans in
      let inside = spans_range br.body_stands.spans in
      let upto = br.upto in
      let here = (stands_row loc.stands).within in
      test (is_head_of (tag p b))
      (λ e. rw (e, is_held_in) (row_of_both loc at q k listed lo hi (head_holds (head_location fit l e) u)))
      (λ e. let f = first_is b (size p) (λ x. is_head_of (tag p x)) (omega arith) in
      rw (e, is_held_in) (elim (dec_lt (first b (size p) (λ x. is_head_of (tag p x))) (size p)) [
        | yes m ↦ row_of_both loc at q k listed lo hi (head_location fit m (f.passes m))
        | no m ↦ none_there _ k (omega arith) (omega arith) ∙ sym (none_there _ r here (omega arith))
      ]))

  scope_both : (b : ℕ) → b < size p → binds (tag p b) ≡ true → in_scope p b k ≡ in_scope p b r
  unfolding in_scope has_row
  scope_both b l u = ap (λ x. eqb (tag p b) 11 || x) (holds_both b l u)

pub held_scopes : HeldScopes
unfolding is_head_of
held_scopes p check r qs l head q k listed lo hi b below u =
    let fit = (row_none p).0 check in
    ⊎_elim
    (λ h. let loc = head_location fit l (ap is_head_of (known_tag p r (cases h.0 qs) h.1 (omega arith))) in
    scope_both p fit loc (case_branches loc h.1) q k listed lo hi b below u)
    (λ h. let loc = head_location fit l (ap is_head_of (known_tag p r (receives qs) h (omega arith))) in
    scope_both p fit loc (receive_branches loc h) q k listed lo hi b below u)
    head
