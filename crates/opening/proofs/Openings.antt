-- The start expression, by the layout; the opening entries.
use Prim.Native.Nat.{ℕ, zero, suc, ◌+◌, ◌-◌, ◌≤◌, ◌<◌}
use native.Mathlib.Omega.{arith}
use mathlib.Core.Path.{◌≡◌, refl, sym, ◌∙◌, ap}
use mathlib.Core.Bool.{Bool, true, false, ◌&&◌}
use mathlib.Core.List.{List, []}
use mathlib.Core.Option.{some}
use lib.ListN.{length, get_or, replicate}
use lib.Dec.{ltb}
use borrow.Author.Tests.{eq-eqb, ne_eqb}
use Rattle.model.specs.declared.Sizes.{Sizes}
use Rattle.model.specs.Index.{implies, all}
use Rattle.model.specs.Words.{columns}
use Rattle.model.specs.Rows.{Program, program, tag, num, Item, constructor, global, body_form_of, declarations, step}
use Rattle.model.specs.Heads.{is_function, body, start}
use Rattle.model.specs.Tables.{Tables, tables, has, entries, state, state_index_of, has_state}
use Rattle.model.specs.Closed.{start_state, is_opening_closed}
use Rattle.model.proofs.Index.{all_hit, all_miss, all_end}
use Rattle.model.proofs.Parse.Spans.{Spans, spans_unique, spans_none, spans_split, spans_first}
use Rattle.model.proofs.Parse.Grammar.{fits_tag}
use Rattle.model.proofs.Parse.Locations.{start_stands}
use Rattle.model.proofs.Parse.Functions.{row_form, form_body}
use Rattle.model.proofs.Parse.Lengths.{function_within}
use Rattle.lists.specs.Ready.{Ready}
use Rattle.lists.proofs.Facts.{rows_fit, columns_whole}
use Rattle.layout.specs.Tables.{Ends}
use Rattle.positions.proofs.Standing.{single, body_row}
use Rattle.opening.specs.Opening.{opening_row_of}

-- n functions stand from row q up to the start expression
pub record GlobalsLeft (p : Program) (n q : ℕ) : Type 0 where
  pub spans : Spans p (replicate n global) q (start p)

-- a constructor takes one row
constructor_one : (p : Program) (t n : ℕ) (more : List Item) → step p constructor t n ≡ some more → [] ≡ more
unfolding step
constructor_one p t n more h = (fits_tag t 10 _ [] more h).1

module _ {ws : List ℕ} {s : Sizes} (g : Ready ws s) where
  pub globals_begin : GlobalsLeft (program ws s) (s.functions - 0) s.constructors
  unfolding declarations program
  globals_begin =
      let z : 0 + s.constructors ≡ s.constructors = omega arith in
      let all : s.functions - 0 ≡ s.functions = omega arith in
      record { spans = rw all (rw z at (single constructor (constructor_one (program ws s)) s.constructors 0 (start_stands (rows_fit g)).0.spans)) }

  pub globals_over : (n q : ℕ) → n ≤ 0 → GlobalsLeft (program ws s) n q → q ≡ start (program ws s)
  globals_over zero q l h = spans_unique (spans_none q) h.spans
  globals_over (suc n) q l h = absurd (omega arith)

  pub global_here : (n q : ℕ) → 0 < n → GlobalsLeft (program ws s) n q → is_function (program ws s) q ≡ true
  unfolding is_function step
  global_here zero q l h = absurd (omega arith)
  global_here (suc n) q l h =
      let f = spans_first h.spans in
      let t = (fits_tag (tag (program ws s) q) 11 _ body_form_of f.more f.says).0 in
      rw t

  -- its body is one of the rows
  pub global_inside : {afters : List ℕ} → Ends (program ws s) afters → (b n q : ℕ) → 0 < n → b ≡ body (program ws s) q → GlobalsLeft (program ws s) n q → b < length afters
  global_inside y b n q l e h = let z = (body_row (rows_fit g) (columns_whole g) q (global_here n q l h)).1 in omega (arith, y.room)

  pub globals_next : {afters : List ℕ} → Ends (program ws s) afters → (b x n n' q : ℕ) → 0 < n → n' ≡ n - 1 → b ≡ body (program ws s) q → x ≡ get_or afters b 0 → GlobalsLeft (program ws s) n q → GlobalsLeft (program ws s) n' x
  unfolding step
  globals_next y b x zero n' q l less e f h = absurd (omega arith)
  globals_next {afters} y b x (suc n) n' q l less e found h =
      let f = spans_first h.spans in
      let same = (fits_tag (tag (program ws s) q) 11 _ body_form_of f.more f.says).1 in
      let (m, front, others) = spans_split body_form_of (rw (← same) at f.rest) in
      let here = global_here (suc n) q l h in
      let k = row_form (rows_fit g) q (function_within (columns_whole g) q here) here in
      let z : k.end ≡ m = spans_unique k.form.spans front in
      let one : n' ≡ n = omega arith in
      let after : x ≡ m = found ∙ rw e (y.after_expression (body (program ws s) q) k.end (form_body k).1.spans.reads) ∙ z in
      rw (one, after) (record { spans = others })

-- a row that is no function of tag 11, and one that is
module _ (p : Program) (t : Tables) (r k : ℕ) (tagged : k ≡ tag p r) where
  pub no_global : (k ≡ 11 → ⊥) → true ≡ opening_row_of p t r
  unfolding opening_row_of implies
  no_global ne = let z = ne_eqb (tag p r) 11 (λ y. ne (tagged ∙ y)) in rw z

  pub this_global : (n : ℕ) (x : Bool) → k ≡ 11 → n ≡ num p r → x ≡ has t.flow n r → x ≡ opening_row_of p t r
  unfolding opening_row_of implies
  this_global n x same e h = let z = eq-eqb (tag p r) 11 (sym tagged ∙ same) in rw (z, ← e) h

-- the rows, then the state of the start expression
module _ (ws : List ℕ) (s : Sizes) where
  abbrev pub OpeningsFrom : ℕ → Type 0
  OpeningsFrom r =
      is_opening_closed (program ws s) (tables ws s) ≡
      all r s.rows (opening_row_of (program ws s) (tables ws s)) && has_state (tables ws s) (start_state (program ws s))

  pub openings_begin : OpeningsFrom 0
  unfolding is_opening_closed opening_row_of program columns
  openings_begin = refl

  module _ (r : ℕ) (x : Bool) (below : r < s.rows) (said : x ≡ opening_row_of (program ws s) (tables ws s) r) (h : OpeningsFrom r) where
    pub openings_next : x ≡ true → OpeningsFrom (r + 1)
    openings_next z = h ∙ ap (λ b. b && has_state (tables ws s) (start_state (program ws s))) (all_hit r s.rows (opening_row_of (program ws s) (tables ws s)) below (sym said ∙ z))

    pub openings_fail : x ≡ false → false ≡ is_opening_closed (program ws s) (tables ws s)
    openings_fail z = sym (h ∙ rw (all_miss r s.rows (opening_row_of (program ws s) (tables ws s)) below (sym said ∙ z)))

  pub openings_over : (r q i : ℕ) → s.rows ≤ r → q ≡ start (program ws s) → i ≡ state_index_of (tables ws s) (state s.rows q s.rows) → OpeningsFrom r → ltb i s.states ≡ is_opening_closed (program ws s) (tables ws s)
  unfolding has_state start_state program tables entries columns
  openings_over r q i l e h k = sym (k ∙ rw (all_end r s.rows (opening_row_of (program ws s) (tables ws s)) l, ← e, ← h))
