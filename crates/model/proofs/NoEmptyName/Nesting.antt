-- Which names are in scope where a process goes on: those in scope where it was, and those that are bound on the way.
use Prim.Native.Nat.{ℕ, zero, suc, ◌+◌, ◌≤◌, ◌<◌}
use native.Mathlib.Decide.{dec_lt}
use native.Mathlib.Omega.{arith}
use mathlib.Core.Path.{◌≡◌, ◌∙◌, ap}
use mathlib.Core.Bool.{true}
use mathlib.Core.List.{List, append-nil, Memᴰ}
use mathlib.Core.Logic.{◌⊎◌, inl, inr, ⊎_elim}
use mathlib.Core.Option.{some}
use Rattle.model.specs.Rows.{Program, size, tag, kind, lead, Item, branch, branch_items, body_form_of, past_items}
use Rattle.model.specs.Scopes.{binds, is_held_in, in_scope}
use Rattle.model.specs.Heads.{head_at, branch_rows, branch_body_of, is_function, body, start}
use Rattle.model.proofs.Logic.{true_false}
use Rattle.model.proofs.Heads.{function_tag}
use Rattle.model.proofs.Parse.Spans.{spans_past, spans_range, spans_takes}
use Rattle.model.proofs.Parse.Reached.{RowsFit, Stands, stands_split}
use Rattle.model.proofs.Parse.Heads.{rest_of}
use Rattle.model.proofs.Parse.Locations.{Location, location_head, rest_stands, start_stands}
use Rattle.model.proofs.Parse.Functions.{row_form, form_body}
use Rattle.model.proofs.Parse.Branches.{Branches, Branch, branch_in}
use Rattle.model.proofs.HeldScopes.{ends_within, branch_behind, before_branch}
use Rattle.model.proofs.NoEmptyName.Stacks.{Led, no_items, lead_led, branches_led}
use Rattle.model.proofs.NoEmptyName.Trails.{no_global, declarations_led}
use Rattle.model.proofs.NoEmptyName.Binders.{Binder, binder_at, scope_has, scope_gives}

-- row b binds a name that is no global's
pub record Local (p : Program) (b : ℕ) : Type 0 where
  pub below : b < size p
  pub binds_name : binds (tag p b) ≡ true
  pub no_global : tag p b ≡ 11 → ⊥

-- a name bound in a branch before the one at row q holds in an expression that begins before q
before_names : {p : Program} (n s q : ℕ) {e : ℕ} {below : List Item} → Stands p (branch_items n) below s e → Memᴰ q (branch_rows p n s) → {b t : ℕ} → Binder p b t → s ≤ b → b < q → t < q
unfolding branch_items branch_rows
before_names zero s q h m bd lo hi = absurd (mathlib.Core.List.Memᴰ.not-nil m)
before_names {p} (suc n) s q h m {b} {t} bd lo hi =
    let (a, front, others) = stands_split branch h in
    let z = spans_past front.spans in
    ⊎_elim (λ here. absurd (omega arith))
    (λ there. let there' : Memᴰ q (branch_rows p n a) = rw z at there in
    elim (dec_lt b a) [
      | yes l ↦ let x = bd.within (branches_led 1 no_items) front lo l in let y = branch_behind n a q others there' in omega arith
      | no l ↦ before_names n a q others there' bd (omega arith) hi
    ])
    (mathlib.Core.List.Memᴰ.cases_cons m)

module _ {p : Program} (fit : RowsFit p) {b : ℕ} (x : Local p b) where
  binder : Binder p b (is_held_in p b)
  binder = binder_at fit b x.below x.binds_name x.no_global

  -- the rows of the scope
  scope_rows : (r : ℕ) → in_scope p b r ≡ true → (is_held_in p b ≤ r) × (r < binder.location.end)
  scope_rows r h =
      let (lo, hi) = scope_has p b r h x.no_global in
      let end = spans_past binder.location.stands.spans in
      (lo, omega arith)

  rows_scope : (r : ℕ) → is_held_in p b ≤ r → r < binder.location.end → in_scope p b r ≡ true
  rows_scope r lo hi = let end = spans_past binder.location.stands.spans in scope_gives p b r lo (omega arith)

  -- at the start none but globals are in scope
  pub scope_start : in_scope p b (start p) ≡ true → ⊥
  scope_start h =
      let (lo, hi) = scope_rows (start p) h in
      let front = (start_stands fit).0 in
      let behind = binder.behind in
      elim (dec_lt (is_held_in p b) (start p)) [
        | yes l ↦ let z = ends_within (omega arith) l front binder.location in omega arith
        | no l ↦ let z = binder.within (declarations_led p) front (omega arith) (omega arith) in omega arith
      ]

  -- nor in the row of a global
  pub scope_global : (g : ℕ) → tag p g ≡ 11 → in_scope p b g ≡ true → ⊥
  scope_global g t h = let (lo, hi) = scope_rows g h in no_global g binder.location.stands lo hi t

  -- From row r to a later row s, where every expression between ends before s: what is in scope at s is so at r, or holds from s on.
  scope_moves : (r s : ℕ) → r < s → ((y : ℕ) → r < y → y < s → (l : Location p y) → l.end ≤ s) → in_scope p b s ≡ true → (in_scope p b r ≡ true) ⊎ (is_held_in p b ≡ s)
  scope_moves r s l ended h =
      let (lo, hi) = scope_rows s h in
      elim (dec_lt r (is_held_in p b)) [
        | no a ↦ inl (rows_scope r (omega arith) (omega arith))
        | yes a ↦ elim (dec_lt (is_held_in p b) s) [
          | yes c ↦ let z = ended (is_held_in p b) a c binder.location in absurd (omega arith)
          | no c ↦ inr (omega arith)
        ]
      ]

  -- at the rest of a head those at the head, and the head's own
  module _ {r r' : ℕ} (l : Location p r) (to : rest_of (head_at p r) ≡ some r') where
    own_rest : is_held_in p b ≡ r' → b ≡ r
    own_rest same =
        let (front, others) = rest_stands l to in
        let v = spans_range front.spans in
        let w = spans_takes others.spans in
        let behind = binder.behind in
        let led : Led (Unit {0}) (lead (kind (tag p r))) = rw append-nil at (lead_led {G = Unit {0}} (kind (tag p r)) no_items) in
        elim (dec_lt b r) [
          | yes a ↦ let z = binder.heads r a (omega arith) l in absurd (omega arith)
          | no a ↦ elim (dec_lt r b) [
            | yes c ↦ let z = binder.within led front (omega arith) (omega arith) in absurd (omega arith)
            | no c ↦ omega arith
          ]
        ]

    pub scope_rest : in_scope p b r' ≡ true → (in_scope p b r ≡ true) ⊎ (b ≡ r)
    scope_rest h =
        let (front, others) = rest_stands l to in
        let v = spans_range front.spans in
        ⊎_elim (λ e. inl e) (λ e. inr (own_rest e)) (scope_moves r r' (omega arith) (λ y lo hi k. ends_within (omega arith) hi front k) h)

  -- in the body of a function those in its row, and its parameters
  module _ (f : ℕ) (below : f < size p) (is : is_function p f ≡ true) where
    own_parameter : is_held_in p b ≡ body p f → (f < b) × (b < body p f)
    own_parameter same =
        let g = row_form fit f below is in
        let (front, others) = form_body g in
        let v = spans_takes front.spans in
        let w = spans_takes others.spans in
        let past = spans_past g.form.spans in
        let behind = binder.behind in
        elim (dec_lt f b) [
          | yes a ↦ (a, omega arith)
          | no a ↦ elim (dec_lt b f) [
            | yes c ↦ let z = binder.functions f c (omega arith) is in absurd (omega arith)
            | no c ↦
                let own : b ≡ f = omega arith in
                absurd (⊎_elim (λ t. let z = binder.own_form (ap (tag p) own ∙ t) in let y = ap (λ k. past_items p body_form_of (k + 1)) own in omega arith)
                (λ t. x.no_global (ap (tag p) own ∙ t)) (function_tag p f is))
          ]
        ]

    pub scope_body : in_scope p b (body p f) ≡ true → (in_scope p b f ≡ true) ⊎ ((f < b) × (b < body p f))
    scope_body h =
        let (front, others) = form_body (row_form fit f below is) in
        let v = spans_takes front.spans in
        ⊎_elim (λ e. inl e) (λ e. inr (own_parameter e)) (scope_moves f (body p f) (omega arith) (λ y lo hi k. ends_within (omega arith) hi front k) h)

  -- in a branch those at the case or receive, and those of its pattern
  module _ {r q : ℕ} {qs : List ℕ} (l : Location p r) (at : Branches p r qs l.below l.end) (listed : Memᴰ q qs) where
    -- where the branch stands
    br : Branch p at.from q l.end
    br = branch_in at listed

    listed_row : Memᴰ q (branch_rows p at.count at.from)
    listed_row = rw at.rows listed

    before_body : (y : ℕ) → r < y → y < branch_body_of p q → (k : Location p y) → k.end ≤ branch_body_of p q
    before_body y lo hi k =
        let from = br.from in
        let v = spans_takes br.pattern_stands.spans in
        elim (dec_lt y at.from) [
          | yes a ↦ true_false (location_head k) (at.no_head y lo a)
          | no a ↦ elim (dec_lt y q) [
            | yes c ↦ let z = before_branch at.count at.from q at.stands listed_row y (omega arith) c k in omega arith
            | no c ↦ ends_within (omega arith) hi br.pattern_stands k
          ]
        ]

    own_pattern : is_held_in p b ≡ branch_body_of p q → (q ≤ b) × (b < branch_body_of p q)
    own_pattern same =
        let from = br.from in
        let upto = br.upto in
        let first = at.behind in
        let v = spans_takes br.pattern_stands.spans in
        let w = spans_takes br.body_stands.spans in
        let behind = binder.behind in
        elim (dec_lt b r) [
          | yes a ↦ let z = binder.heads r a (omega arith) l in absurd (omega arith)
          | no a ↦ elim (dec_lt b at.from) [
            | yes c ↦ true_false x.binds_name (at.no_name b (omega arith) c)
            | no c ↦ elim (dec_lt b q) [
              | yes d ↦ let z = before_names at.count at.from q at.stands listed_row binder (omega arith) d in absurd (omega arith)
              | no d ↦ (omega arith, omega arith)
            ]
          ]
        ]

    pub scope_branch : in_scope p b (branch_body_of p q) ≡ true → (in_scope p b r ≡ true) ⊎ ((q ≤ b) × (b < branch_body_of p q))
    scope_branch h =
        let from = br.from in
        let first = at.behind in
        let v = spans_takes br.pattern_stands.spans in
        ⊎_elim (λ e. inl e) (λ e. inr (own_pattern e)) (scope_moves r (branch_body_of p q) (omega arith) before_body h)
