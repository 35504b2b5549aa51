-- The names with a value that fits a pattern, entry by entry and row by row.
use Prim.Native.Nat.{ℕ, ◌+◌, ◌*◌, ◌≤◌, ◌<◌}
use native.Mathlib.Decide.{ℕ_discrete}
use native.Mathlib.Omega.{arith}
use mathlib.Core.Path.{◌≡◌, refl, sym, ◌∙◌, ap, ap₂}
use mathlib.Core.Bool.{Bool, true, false, not, ◌&&◌, ◌||◌}
use mathlib.Core.List.{List}
use mathlib.Core.Logic.Iff
use mathlib.Core.Logic.{inl, inr}
use lib.Dec.{eqb, ltb}
use lib.ListN.{length}
use borrow.Author.Tests.{eqb-true, eq-eqb, ne_eqb, lt-ltb}
use Rattle.model.specs.declared.Sizes.{Sizes}
use Rattle.model.specs.Index.{any, implies}
use Rattle.model.specs.Words.{Columns, left, right, columns}
use Rattle.model.specs.Rows.{Program, program, size, tag, num, arity}
use Rattle.model.specs.Heads.{is_class_of}
use Rattle.model.specs.Tables.{Tables, tables, entries, some_of}
use Rattle.model.specs.Closed.{may_match}
use Rattle.model.specs.Wanted.{Member}
use Rattle.model.proofs.Logic.{true_false, and_none, and_true, or_none, both, eqb_flip}
use Rattle.model.proofs.Index.{any_end}
use Rattle.model.proofs.Exact.Members.{some_of_iff}
use Rattle.bits.specs.Bits.{member, Put}
use Rattle.lists.specs.declared.Span.{Span}
use Rattle.lists.specs.Lists.{flow_span, listed}
use Rattle.lists.specs.Ready.{Ready}
use Rattle.lists.proofs.Facts.{flow_listed}
use Rattle.values.specs.Values.{width, Empty, Room}
use Rattle.values.proofs.Gathered.{width_above}
use Rattle.values.proofs.Names.{flow_upto}
use Rattle.matching.specs.Patterns.{Matches}
use Rattle.matching_sets.specs.Sets.{Joined}
use Rattle.matching_names.specs.Names.{does_ask_names, does_value_fit, FittingBefore, FittingSets}
use Rattle.matching_sets.proofs.Joining.{any_last, joined_same, joined_more, joined_there, joined_put, joined_others}

-- which rows ask, by what the code finds of the tag
module _ (p : Program) (q x : ℕ) (e : x ≡ tag p q) where
  pub asks_made : (k a : ℕ) → x ≡ 31 → k ≡ num p q → a ≡ num p k → ltb 0 a ≡ does_ask_names p q
  unfolding does_ask_names arity
  asks_made k a z f g = rw (does_ask_names, eq-eqb (tag p q) 31 (sym e ∙ z)) (ap (ltb 0) (g ∙ ap (num p) f))

  pub asks_held : x ≡ 33 → true ≡ does_ask_names p q
  unfolding does_ask_names
  asks_held z = rw (does_ask_names, ne_eqb (tag p q) 31 (λ y. omega arith), eq-eqb (tag p q) 33 (sym e ∙ z))

  pub asks_none : (x ≡ 31 → ⊥) → (x ≡ 33 → ⊥) → false ≡ does_ask_names p q
  unfolding does_ask_names
  asks_none a b = rw (does_ask_names, ne_eqb (tag p q) 31 (λ y. a (e ∙ y)), ne_eqb (tag p q) 33 (λ y. b (e ∙ y)))

-- one value
module _ (p : Program) (may : List ℕ) (q v : ℕ) (m : Bool) (holds : m ≡ member may (width (size p)) q v) where
  pub fits_not : m ≡ false → false ≡ does_value_fit p may q v
  unfolding does_value_fit
  fits_not z = rw (sym holds ∙ z)

  pub fits_class : (b : Bool) → m ≡ true → tag p q ≡ 33 → b ≡ is_class_of p v → b ≡ does_value_fit p may q v
  unfolding does_value_fit implies
  fits_class b z t f = f ∙ rw (sym holds ∙ z, eq-eqb (tag p q) 33 t)

  pub fits_any : m ≡ true → (tag p q ≡ 33 → ⊥) → true ≡ does_value_fit p may q v
  unfolding does_value_fit implies
  fits_any z t = rw (sym holds ∙ z, ne_eqb (tag p q) 33 t)

-- the entries before i, of which those whose values pass have put their names into set q
module _ (c : Columns) (f : ℕ → Bool) (w q : ℕ) where
  unfoldable pub names_before : ℕ → ℕ → Bool
  names_before i n = any 0 i (λ k. eqb (left c k) n && f (right c k))

  pub names_begin : (u : List ℕ) → Joined w q (names_before 0) u u
  unfolding names_before
  names_begin u = joined_there (names_before 0) (λ v l z. true_false z (any_end 0 0 _ (omega arith)))

  pub names_skip : {u t : List ℕ} (i v : ℕ) (b : Bool) → Joined w q (names_before i) u t → v ≡ right c i → b ≡ f v → b ≡ false → Joined w q (names_before (i + 1)) u t
  unfolding names_before
  names_skip i v b j e g z = joined_same (names_before (i + 1))
      (λ n l. sym (any_last i _ ∙ (ap (λ x. any 0 i (λ k. eqb (left c k) n && f (right c k)) || (eqb (left c i) n && x)) (ap f (sym e) ∙ (sym g ∙ z)) ∙
      (ap (λ x. any 0 i (λ k. eqb (left c k) n && f (right c k)) || x) (and_none (eqb (left c i) n)) ∙ or_none _)))) j

  pub names_next : {u t t' : List ℕ} (i v n : ℕ) (b : Bool) → Joined w q (names_before i) u t → v ≡ right c i → b ≡ f v → b ≡ true → n ≡ left c i → Put w q n t t' → Joined w q (names_before (i + 1)) u t'
  unfolding names_before
  names_next i v n b j e g z same r = joined_same (names_before (i + 1))
      (λ m l. sym (any_last i _ ∙ ap (λ x. any 0 i (λ k. eqb (left c k) m && f (right c k)) || x)
      (ap (λ x. eqb (left c i) m && x) (ap f (sym e) ∙ (sym g ∙ z)) ∙ (and_true (eqb (left c i) m) ∙ (ap (λ x. eqb x m) (sym same) ∙ eqb_flip n m)))))
      (joined_more j (joined_put n r))

-- ... all of them
pub names_done : (ws : List ℕ) (s : Sizes) {u t : List ℕ} (l : Span) (w q i : ℕ) (f : ℕ → Bool) → l ≡ flow_span s → w ≡ width s.names → i ≡ s.flows → Joined w q (names_before (listed ws l) f w q i) u t → Joined (width s.names) q (λ n. some_of (tables ws s).flow n f) u t
unfolding names_before some_of tables entries columns
names_done ws s l w q i f el ew e j = rw (el, ew, e, flow_listed ws s) at j

-- row after row
module _ {p : Program} {t : Tables} {may : List ℕ} where
  pub fitting_none : (u : List ℕ) → Empty (width p.names) u → FittingBefore p t may u 0
  fitting_none u e = record { told = λ q n l a b. absurd (omega arith); to_come = λ q n l a. e.none q n }

  pub fitting_skip : {u : List ℕ} {x : ℕ} {b : Bool} → FittingBefore p t may u x → b ≡ does_ask_names p x → b ≡ false → FittingBefore p t may u (x + 1)
  fitting_skip {x = x} f e z = record {
    told = λ q n l a b. elim (ℕ_discrete q x) [ yes y ↦ true_false a (ap (does_ask_names p) y ∙ (sym e ∙ z)) | no y ↦ f.told q n (omega arith) a b ];
    to_come = λ q n l a. f.to_come q n (omega arith) a;
  }

  pub fitting_next : {u u' : List ℕ} {x : ℕ} → FittingBefore p t may u x → Joined (width p.names) x (λ n. some_of t.flow n (does_value_fit p may x)) u u' → FittingBefore p t may u' (x + 1)
  fitting_next {x = x} f j = record {
    told = λ q n l a b. elim (ℕ_discrete q x) [
      | yes y ↦ rw y (j.members x n b ∙ ap₂ (λ m k. m || (k && some_of t.flow n (does_value_fit p may x))) (f.to_come x n (omega arith) b) (eq-eqb x x refl))
      | no y ↦ joined_others j q n b y ∙ f.told q n (omega arith) a b
    ];
    to_come = λ q n l a. joined_others j q n a (λ y. omega arith) ∙ f.to_come q n (omega arith) a;
  }

  pub fitting_upto : {u : List ℕ} {x y : ℕ} → FittingBefore p t may u x → x ≡ y → FittingBefore p t may u y
  fitting_upto f e = rw e at f

-- the same test of the values of a name
some_same : (l : Columns) (a : ℕ) (f g : ℕ → Bool) → ((v : ℕ) → Member l a v → f v ≡ g v) → some_of l a f ≡ some_of l a g
some_same l a f g h = both (some_of l a f) (some_of l a g)
    (λ z. let (v, m, y) = (some_of_iff l a f (λ x. Iff.rfl)).0 z in (some_of_iff l a g (λ x. Iff.rfl)).1 (v, m, sym (h v m) ∙ y))
    (λ z. let (v, m, y) = (some_of_iff l a g (λ x. Iff.rfl)).0 z in (some_of_iff l a f (λ x. Iff.rfl)).1 (v, m, h v m ∙ y))

-- of tables that were filled
module _ {ws : List ℕ} {s : Sizes} (h : Ready ws s) where
  abbrev p' : Program
  p' = program ws s

  abbrev t' : Tables
  t' = tables ws s

  value_low : (n v : ℕ) → Member t'.flow n v → v < 64 * width (size p')
  value_low n v m = width_above (size p') v (let z = flow_upto h m.at m.below in let y = m.second in omega arith)

  pub fitting_sets_of : {may held fitting : List ℕ} (u : List ℕ) → Room (width s.names) s.rows u → length fitting ≡ length u → Matches p' t' may held 0 → FittingBefore p' t' may fitting s.rows → FittingSets p' t' fitting
  unfolding does_ask_names does_value_fit implies program columns
  fitting_sets_of {may} u room same m f = record {
    row = λ q l. let r = (room.row q l).room in record { room = omega arith };
    made = λ d q n l kind some stands low.
        f.told q n l (rw (does_ask_names, eq-eqb (tag p' q) 31 kind) (lt-ltb 0 _ some)) (width_above s.names n (omega arith)) ∙
        some_same t'.flow n (does_value_fit p' may q) (may_match p' t' d q)
        (λ v k. rw (does_value_fit, ne_eqb (tag p' q) 33 (λ y. omega arith)) (and_true (member may (width s.rows) q v) ∙ (m.at q (omega arith) l).may_set d v (inl kind) stands (value_low n v k)));
    held = λ d q n l kind stands low.
        f.told q n l (rw (does_ask_names, ne_eqb (tag p' q) 31 (λ y. omega arith), eq-eqb (tag p' q) 33 kind)) (width_above s.names n (omega arith)) ∙
        some_same t'.flow n (does_value_fit p' may q) (λ v. may_match p' t' d q v && is_class_of p' v)
        (λ v k. rw (does_value_fit, eq-eqb (tag p' q) 33 kind) (ap (λ b. b && is_class_of p' v) ((m.at q (omega arith) l).may_set d v (inr kind) stands (value_low n v k))));
  }
