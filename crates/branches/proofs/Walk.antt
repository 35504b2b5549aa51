-- From one branch to the next, with the bits and what is asked of the expressions.
use Prim.Native.Nat.{ℕ, zero, suc, ◌+◌, ◌-◌, ◌*◌, ◌/◌, ◌%◌, ◌^◌, ◌≤◌, ◌<◌}
use native.Mathlib.Omega.{arith}
use mathlib.Core.Path.{◌≡◌, refl, sym, ◌∙◌, ap}
use mathlib.Core.Bool.{Bool, true, false, ◌&&◌, ◌||◌}
use mathlib.Core.List.{List, [], ◌∷◌, ◌++◌}
use lib.Dec.{ltb}
use lib.ListN.{get_or}
use borrow.Author.Tests.{eq-eqb, ne_eqb}
use Rattle.model.specs.declared.Sizes.{Sizes}
use Rattle.model.specs.Index.{implies}
use Rattle.model.specs.Words.{Columns, columns}
use Rattle.model.specs.Rows.{Program, size, pattern, branch, branch_items, past_items}
use Rattle.model.specs.Limits.{max_depth, max_branches}
use Rattle.model.specs.Heads.{branch_body_of, branch_rows}
use Rattle.model.specs.Tables.{Tables, tables, entries, State, onward, state_index_of, has_state}
use Rattle.model.proofs.Parse.Spans.{Spans, spans_past, spans_takes, spans_split}
use Rattle.bits.specs.Bits.{odd}
use Rattle.layout.specs.Tables.{Ends}
use Rattle.positions.specs.Positions.{Run}
use Rattle.values.specs.Values.{width, Values}
use Rattle.matching.specs.Patterns.{values_code, Pattern, IsValuesCode}
use Rattle.matching.proofs.Coding.{code_most}
use Rattle.branches.specs.Taken.{branch_code, lacking, code_bits, lacks, taken_bits, are_bodies_closed, IsTaken}

-- at a branch with `left` branches from it on
pub record BranchAt (p : Program) (afters : List ℕ) (row left : ℕ) : Type 0 where
  pub row_low : row < size p
  pub pattern : Pattern p max_depth row
  pub body : get_or afters row 0 ≡ branch_body_of p row
  pub body_low : branch_body_of p row < size p
  pub behind : get_or afters (branch_body_of p row) 0 ≡ past_items p branch row
  pub run : Run p (past_items p branch row) (left - 1)
  pub rows : branch_rows p left row ≡ row ∷ branch_rows p (left - 1) (past_items p branch row)

pub branch_at : {p : Program} {afters : List ℕ} → Ends p afters → (row left : ℕ) → Run p row left → 0 < left → BranchAt p afters row left
unfolding branch_items branch_body_of branch_rows
branch_at {p} ends row zero h l = absurd (omega arith)
branch_at {p} ends row (suc n) h l =
    let whole : Spans p (branch ++ branch_items n) row h.end = record { reads = h.reads } in
    let (e, first, others) = spans_split branch whole in
    let (b, front, tail) = spans_split (pattern max_depth ∷ []) first in
    let y : branch_body_of p row ≡ b = spans_past front in
    let z : past_items p branch row ≡ e = spans_past first in
    let u = spans_takes front in
    let v = spans_takes tail in
    let one : suc n - 1 ≡ n = omega arith in
    record {
      row_low = omega arith;
      pattern = record { end = b; reads = front.reads };
      body = ends.after_pattern row max_depth (branch_body_of p row) (rw y front.reads);
      body_low = omega arith;
      behind = rw (y, z) (ends.after_expression b e tail.reads);
      run = rw (z, one) (record { end = h.end; reads = others.reads });
      rows = rw one;
    }

pub behind_told : {p : Program} {afters : List ℕ} {row left : ℕ} → BranchAt p afters row left → (x y : ℕ) → x ≡ get_or afters row 0 → y ≡ get_or afters x 0 → y ≡ past_items p branch row
behind_told {p} {afters} b x y e f = f ∙ (ap (λ k. get_or afters k 0) (e ∙ b.body) ∙ b.behind)

-- the test of one body
pub body_asked : (k : ℕ) (x y : Bool) → k % 2 ≡ 1 → x ≡ y → x ≡ implies (odd k) y
unfolding odd implies
body_asked k x y e f = rw e f

pub body_free : (k : ℕ) (y : Bool) → (k % 2 ≡ 1 → ⊥) → true ≡ implies (odd k) y
unfolding odd implies
body_free k y e = rw (ne_eqb (k % 2) 1 e)

-- a state is there where its number is below their count
pub state_there : (ws : List ℕ) (s : Sizes) (st : State) (k : ℕ) → k ≡ state_index_of (tables ws s) st → ltb k s.states ≡ has_state (tables ws s) st
unfolding has_state tables entries columns
state_there ws s st k e = rw e

-- the weights of at most 16 branches
pub power_low : (n j : ℕ) → j + n ≡ 16 → 2 ^ j ≤ 65536
power_low zero j e = let z : j ≡ 16 = omega arith in rw z (omega arith)
power_low (suc n) j e = let z = power_low n (suc j) (omega arith) in omega arith

no_rows : (p : Program) (left row : ℕ) → left ≤ 0 → branch_rows p left row ≡ []
unfolding branch_rows
no_rows p zero row l = refl
no_rows p (suc n) row l = absurd (omega arith)

-- what lacks something, and bits
unfoldable pub picked : Bool → ℕ → ℕ
picked true k = lacks
picked false k = k

elim_picked : (b : Bool) (k : ℕ) → elim b [ true ↦ lacks | false ↦ k ] ≡ picked b k
unfolding picked
elim_picked true k = refl
elim_picked false k = refl

-- the bits of the branches qs, of which the first weighs w, behind those of others
unfoldable pub bits_left : (ℕ → ℕ) → ℕ → ℕ → List ℕ → ℕ
bits_left f bits w qs = picked (lacking f qs) (bits + code_bits f w qs)

left_all : (f : ℕ → ℕ) (qs : List ℕ) → taken_bits f qs ≡ bits_left f 0 1 qs
unfolding bits_left taken_bits
left_all f qs = let z : code_bits f 1 qs ≡ 0 + code_bits f 1 qs = omega arith in elim_picked (lacking f qs) (code_bits f 1 qs) ∙ ap (picked (lacking f qs)) z

left_none : (f : ℕ → ℕ) (bits w : ℕ) → bits_left f bits w [] ≡ bits
unfolding bits_left lacking code_bits picked
left_none f bits w = omega arith

left_lacks : (f : ℕ → ℕ) (bits w q : ℕ) (qs : List ℕ) → f q ≡ 2 → bits_left f bits w (q ∷ qs) ≡ lacks
unfolding bits_left lacking picked
left_lacks f bits w q qs e = ap (λ b. picked (b || lacking f qs) (bits + code_bits f w (q ∷ qs))) (eq-eqb (f q) 2 e)

left_next : (f : ℕ → ℕ) (bits w q : ℕ) (qs : List ℕ) → (f q ≡ 2 → ⊥) → bits_left f bits w (q ∷ qs) ≡ bits_left f (bits + f q * w) (w * 2) qs
unfolding bits_left lacking code_bits
left_next f bits w q qs ne =
    let z : bits + (f q * w + code_bits f (w * 2) qs) ≡ bits + f q * w + code_bits f (w * 2) qs = omega arith in
    ap (λ b. picked (b || lacking f qs) (bits + (f q * w + code_bits f (w * 2) qs))) (ne_eqb (f q) 2 ne) ∙ ap (picked (lacking f qs)) z

-- before the branches that are left: the bits of those before, and the weight of the next
pub record Taking (p : Program) (t : Tables) (sets : List ℕ) (n q count row left bits weight : ℕ) : Type 0 where
  pub run : Run p row left
  pub exponent : ℕ
  pub steps : exponent + left ≡ count
  pub few : count ≤ 16
  pub power : weight ≡ 2 ^ exponent
  pub low : bits < weight
  pub to_come : (l : Columns) (a : ℕ) → Values l a (width (size p)) n sets → taken_bits (branch_code p t l a) (branch_rows p count q) ≡ bits_left (branch_code p t l a) bits weight (branch_rows p left row)

module _ {p : Program} {t : Tables} {sets : List ℕ} {n q : ℕ} where
  pub taking_begin : (count : ℕ) → Run p q count → count ≤ max_branches → Taking p t sets n q count q count 0 1
  taking_begin count run few = record { run = run; exponent = 0; steps = omega arith; few = few; power = refl; low = omega arith; to_come = λ l a of. left_all (branch_code p t l a) (branch_rows p count q) }

  module _ {count row left bits weight : ℕ} (k : Taking p t sets n q count row left bits weight) where
    pub taking_over : left ≤ 0 → IsTaken p t sets n q count bits
    taking_over l = record { of_list = λ m a of. sym (k.to_come m a of ∙ (ap (bits_left (branch_code p t m a) bits weight) (no_rows p left row l) ∙ left_none (branch_code p t m a) bits weight)) }

    pub weight_low : 0 < left → weight * 2 ≤ 65536
    weight_low l = let z = power_low (16 - suc k.exponent) (suc k.exponent) (let a = k.steps in let b = k.few in omega arith) in let y = k.power in omega arith

    pub code_weight : (c : ℕ) → c < 2 → 0 < left → (c * weight ≤ weight) × (bits + c * weight < weight * 2)
    code_weight zero l m = let w = k.low in (omega arith, omega arith)
    code_weight (suc zero) l m = let w = k.low in (omega arith, omega arith)
    code_weight (suc (suc c)) l m = absurd (omega arith)

    module _ {afters : List ℕ} (b : BranchAt p afters row left) (more : 0 < left) (c : ℕ) (is : IsValuesCode p t sets n row c) where
      here : (l : Columns) (a : ℕ) → Values l a (width (size p)) n sets → c ≡ branch_code p t l a row
      unfolding branch_code
      here l a of = is.of_list l a max_depth of b.pattern

      code_low : (l : Columns) (a : ℕ) → branch_code p t l a row ≤ 2
      unfolding branch_code values_code
      code_low l a = code_most _ _

      pub taking_lacks : 2 ≤ c → IsTaken p t sets n q count lacks
      taking_lacks two = record {
        of_list = λ l a of.
            let x = here l a of in
            let y = code_low l a in
            sym (k.to_come l a of ∙ (ap (bits_left (branch_code p t l a) bits weight) b.rows ∙ left_lacks (branch_code p t l a) bits weight row _ (omega arith)));
      }

      pub taking_next : c < 2 → (bits' row' left' : ℕ) → bits' ≡ bits + c * weight → row' ≡ past_items p branch row → left' ≡ left - 1 → Taking p t sets n q count row' left' bits' (weight * 2)
      taking_next less bits' row' left' eb er el =
          let x = k.steps in
          let y = k.power in
          let w = (code_weight c less more).1 in
          record {
            run = rw (er, el) b.run;
            exponent = suc k.exponent;
            steps = omega arith;
            few = k.few;
            power = omega arith;
            low = omega arith;
            to_come = λ l a of.
                let e = here l a of in
                k.to_come l a of ∙ (ap (bits_left (branch_code p t l a) bits weight) b.rows ∙ (left_next (branch_code p t l a) bits weight row _ (λ u. omega arith)
                ∙ rw (← e, er, eb, el)));
          }

-- what is asked of the expressions of the branches that are left
pub record Bodies (p : Program) (t : Tables) (s : State) (count q bits row left more : ℕ) : Type 0 where
  pub run : Run p row left
  pub to_come : are_bodies_closed p t s bits (branch_rows p count q) ≡ are_bodies_closed p t s more (branch_rows p left row)

module _ {p : Program} {t : Tables} {s : State} {count q bits : ℕ} where
  module _ {row left more : ℕ} (k : Bodies p t s count q bits row left more) where
    pub bodies_over : left ≤ 0 → true ≡ are_bodies_closed p t s bits (branch_rows p count q)
    unfolding are_bodies_closed
    bodies_over l = sym (k.to_come ∙ ap (are_bodies_closed p t s more) (no_rows p left row l))

    module _ {afters : List ℕ} (b : BranchAt p afters row left) (body : ℕ) (at : body ≡ branch_body_of p row) (there : Bool) (is : there ≡ implies (odd more) (has_state t (onward s body))) where
      turn : are_bodies_closed p t s bits (branch_rows p count q) ≡ (there && are_bodies_closed p t s (more / 2) (branch_rows p (left - 1) (past_items p branch row)))
      unfolding are_bodies_closed
      turn = k.to_come ∙ (ap (are_bodies_closed p t s more) b.rows ∙ ap (λ x. x && are_bodies_closed p t s (more / 2) (branch_rows p (left - 1) (past_items p branch row))) (sym (is ∙ ap (λ x. implies (odd more) (has_state t (onward s x))) at)))

      pub bodies_fail : there ≡ false → false ≡ are_bodies_closed p t s bits (branch_rows p count q)
      bodies_fail e = sym (turn ∙ rw e)

      pub bodies_next : there ≡ true → (row' left' : ℕ) → row' ≡ past_items p branch row → left' ≡ left - 1 → Bodies p t s count q bits row' left' (more / 2)
      bodies_next e row' left' er el = record { run = rw (er, el) b.run; to_come = turn ∙ rw (e, er, el) }
