-- The names and values of a message that is ready: which numbers they can be.
use Prim.Native.Nat.{ℕ, ◌+◌, ◌≤◌, ◌<◌}
use native.Mathlib.Omega.{arith}
use mathlib.Core.Path.{◌≡◌, refl, sym, ◌∙◌}
use mathlib.Core.Bool.{Bool, true, false, ◌||◌}
use mathlib.Core.List.{List}
use mathlib.Core.Option.{some}
use mathlib.Core.Logic.{◌⊎◌, inl, inr, ⊎_elim}
use lib.Dec.{eqb}
use borrow.Author.Tests.{eqb-true, eq-eqb, ne_eqb, ltb-true}
use Rattle.model.specs.declared.Sizes.{Sizes}
use Rattle.model.specs.Words.{left, right, columns}
use Rattle.model.specs.Rows.{Program, program, size, tag, num, Kind, kind, give, build, function, call, send, spawn, self, case, receive, other, Item, expression, is_name, is_head_of, step, expression_step}
use Rattle.model.specs.Scopes.{binds}
use Rattle.model.specs.Heads.{is_class_of, is_function}
use Rattle.model.specs.Tables.{tables, is_value_of}
use Rattle.model.proofs.Logic.{or_cases, true_false}
use Rattle.model.proofs.Exact.Names.{program_none}
use Rattle.model.proofs.Parse.Grammar.{fits_some, expression_kind}
use Rattle.model.proofs.Parse.Reached.{stands_row}
use Rattle.model.proofs.Parse.Locations.{Location}
use Rattle.model.proofs.Parse.Lengths.{row_within, row_location, function_within}
use Rattle.lists.specs.Ready.{Ready}
use Rattle.lists.proofs.Facts.{columns_whole, rows_fit, flow_form, mail_form}
use Rattle.values.specs.Values.{mail_set_of}

-- the number of a head's row is a name, but for a receive
abbrev pub numbers_name : Kind → Bool
numbers_name give = true
numbers_name build = true
numbers_name function = true
numbers_name call = true
numbers_name send = true
numbers_name spawn = true
numbers_name self = true
numbers_name case = true
numbers_name receive = false
numbers_name other = true

head_step : (p : Program) (k : Kind) (t n : ℕ) (more : List Item) → kind t ≡ k → numbers_name k ≡ true → step p expression t n ≡ some more → is_name p n ≡ true
unfolding step expression_step
head_step p give t n more e ne h = (fits_some _ _ more (rw (e, expression_step) at h)).0
head_step p build t n more e ne h = (fits_some _ _ more (rw (e, expression_step) at h)).0
head_step p function t n more e ne h = (fits_some _ _ more (rw (e, expression_step) at h)).0
head_step p call t n more e ne h = (fits_some _ _ more (rw (e, expression_step) at h)).0
head_step p send t n more e ne h = (fits_some _ _ more (rw (e, expression_step) at h)).0
head_step p spawn t n more e ne h = (fits_some _ _ more (rw (e, expression_step) at h)).0
head_step p self t n more e ne h = (fits_some _ _ more (rw (e, expression_step) at h)).0
head_step p case t n more e ne h = (fits_some _ _ more (rw (e, expression_step) at h)).0
head_step p receive t n more e ne h = true_false ne refl
head_step p other t n more e ne h = absurd (expression_kind p t n more h e)

pub head_name : {p : Program} (k : Kind) {r : ℕ} → Location p r → kind (tag p r) ≡ k → numbers_name k ≡ true → num p r < p.names
unfolding is_name
head_name {p} k {r} l e ne = let f = stands_row l.stands in ltb-true _ _ (head_step p k (tag p r) (num p r) f.more e ne f.says)

spawn_head : (t : ℕ) → t ≡ 6 → (is_head_of t ≡ true) × (kind t ≡ spawn) × (binds t ≡ true)
unfolding is_head_of kind binds
spawn_head t e = rw e (refl, refl, refl)

-- the sets of classes
module _ (ws : List ℕ) (s : Sizes) (c : ℕ) where
  pub set_start : c ≡ s.rows → s.names ≡ mail_set_of (program ws s) c
  unfolding mail_set_of program columns
  set_start e = rw (eq-eqb c s.rows e, mail_set_of)

  pub set_spawn : (n : ℕ) → (c ≡ s.rows → ⊥) → n ≡ num (program ws s) c → n ≡ mail_set_of (program ws s) c
  unfolding mail_set_of program columns
  set_spawn n ne e = rw (ne_eqb c s.rows ne, mail_set_of) e

module _ {ws : List ℕ} {s : Sizes} (h : Ready ws s) where
  abbrev p : Program
  p = program ws s

  -- a spawn row binds a name, which no other row binds
  pub spawn_row : (c : ℕ) → tag p c ≡ 6 → (c < size p) × (num p c < p.names)
  spawn_row c e =
      let (a, b, d) = spawn_head (tag p c) e in
      (row_within (columns_whole h) c (omega arith), head_name spawn (row_location (rows_fit h) (columns_whole h) c a) b refl)

  pub spawn_once : (c d : ℕ) → tag p c ≡ 6 → tag p d ≡ 6 → num p c ≡ num p d → c ≡ d
  spawn_once c d e f same =
      ((program_none p).0 h.well_formed).bound_once c d (spawn_row c e).0 (spawn_row d f).0 (spawn_head (tag p c) e).2 (spawn_head (tag p d) f).2 same

  -- a class is a spawn row or R
  pub class_cases : (c : ℕ) → is_class_of p c ≡ true → ((tag p c ≡ 6) × (c < size p)) ⊎ (c ≡ size p)
  unfolding is_class_of
  class_cases c e =
      ⊎_elim (λ a. let z = eqb-true (tag p c) 6 a in inl (z, (spawn_row c z).0)) (λ a. inr (eqb-true c (size p) a)) (or_cases (eqb (tag p c) 6) (eqb c (size p)) e)

  pub class_upto : (c : ℕ) → is_class_of p c ≡ true → c ≤ size p
  class_upto c e = ⊎_elim (λ a. let b = a.1 in omega arith) (λ a. omega arith) (class_cases c e)

  -- a value is a row or R
  pub value_upto : (v : ℕ) → is_value_of p v ≡ true → v ≤ size p
  unfolding is_value_of
  value_upto v e =
      ⊎_elim (λ a. let z = eqb-true (tag p v) 2 a in let w = row_within (columns_whole h) v (omega arith) in omega arith)
      (λ a. ⊎_elim (λ b. let w = function_within (columns_whole h) v b in omega arith) (λ b. class_upto v b) (or_cases (is_function p v) (is_class_of p v) a))
      (or_cases (eqb (tag p v) 2) (is_function p v || is_class_of p v) e)

  pub mail_set_below : (c : ℕ) → is_class_of p c ≡ true → mail_set_of p c < p.names + 1
  unfolding program columns
  mail_set_below c e =
      ⊎_elim (λ a. let z = set_spawn ws s c (num p c) (λ q. omega (arith, a.1)) refl in let y = (spawn_row c a.0).1 in omega arith) (λ a. let z = set_start ws s c a in omega arith) (class_cases c e)

  pub mail_set_once : (c d : ℕ) → is_class_of p c ≡ true → is_class_of p d ≡ true → mail_set_of p c ≡ mail_set_of p d → c ≡ d
  unfolding program columns
  mail_set_once c d e f same =
      ⊎_elim (λ a. let x = set_spawn ws s c (num p c) (λ q. omega (arith, a.1)) refl in let i = (spawn_row c a.0).1 in
      ⊎_elim (λ b. let y = set_spawn ws s d (num p d) (λ q. omega (arith, b.1)) refl in spawn_once c d a.0 b.0 (x ∙ (same ∙ sym y)))
      (λ b. let y = set_start ws s d b in absurd (omega arith)) (class_cases d f))
      (λ a. let x = set_start ws s c a in
      ⊎_elim (λ b. let y = set_spawn ws s d (num p d) (λ q. omega (arith, b.1)) refl in let i = (spawn_row d b.0).1 in absurd (omega arith))
      (λ b. omega arith) (class_cases d f))
      (class_cases c e)

  -- the entries of the lists
  pub flow_name : (k : ℕ) → k < (tables ws s).flow.size → left (tables ws s).flow k < p.names
  unfolding is_name
  flow_name k l = ltb-true _ _ ((flow_form h).in_range k l).0

  pub flow_upto : (k : ℕ) → k < (tables ws s).flow.size → right (tables ws s).flow k ≤ size p
  flow_upto k l = value_upto _ ((flow_form h).in_range k l).1

  pub mail_upto : (k : ℕ) → k < (tables ws s).mail.size → right (tables ws s).mail k ≤ size p
  mail_upto k l = value_upto _ ((mail_form h).in_range k l).1
