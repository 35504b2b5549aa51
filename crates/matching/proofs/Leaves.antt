-- The code of a pattern that is no constructor's, from the values that the code reads.
use Prim.Native.Nat.{ℕ, ◌*◌}
use native.Mathlib.Omega.{arith}
use mathlib.Core.Path.{◌≡◌, sym, ◌∙◌}
use mathlib.Core.Bool.{Bool, true, false, not, ◌&&◌}
use mathlib.Core.List.{List}
use mathlib.Core.Logic.{inl}
use lib.Dec.{eqb}
use borrow.Author.Tests.{ne_eqb}
use Rattle.model.specs.declared.Sizes.{Sizes}
use Rattle.model.specs.Index.{implies, any, all}
use Rattle.model.specs.Words.{columns}
use Rattle.model.specs.Rows.{program, tag, num}
use Rattle.model.specs.Tables.{tables}
use Rattle.bits.specs.Bits.{member, Row, shared, common_code}
use Rattle.values.specs.Values.{width, Values, FlowReady}
use Rattle.matching.specs.Patterns.{code, Standing, IsValuesCode, Matched}
use Rattle.matching.proofs.Subpatterns.{pattern_name}
use Rattle.matching.proofs.Valued.{common_values, equal_values, no_values, any_values, named_values}

pub held_code : (b : Bool) → b ≡ true → 1 ≡ code true b
unfolding code
held_code b e = rw e

pub lack_code : (b : Bool) → b ≡ false → 2 ≡ code true b
unfolding code
lack_code b e = rw e

pub leaf_row : (sets : List ℕ) (w x k : ℕ) → w ≡ x → Row sets x k → Row sets w k
leaf_row sets w x k e r = rw e r

module _ (ws : List ℕ) (s : Sizes) (sets : List ℕ) (k q w : ℕ) (ew : w ≡ width s.rows) {kind : ℕ} (tagged : (kind ≡ tag (program ws s) q) × (kind ≡ 31 → ⊥) × (kind ≡ 33 → ⊥)) (b : Bool)
    (met : b ≡ any 0 (64 * w) (λ v. member sets w k v && member sets w k v)) where
  other : eqb (tag (program ws s) q) 31 ≡ false
  other = ne_eqb _ 31 (λ z. tagged.1 (tagged.0 ∙ z))

  unheld : eqb (tag (program ws s) q) 33 ≡ false
  unheld = ne_eqb _ 33 (λ z. tagged.2 (tagged.0 ∙ z))

  pub leaf_none : not b ≡ true → IsValuesCode (program ws s) (tables ws s) sets k q 0
  unfolding program columns
  leaf_none f = record { of_list = λ l a d of h. no_values (tables ws s) other of h unheld b (rw ew at met) f }

  pub leaf_any : not b ≡ false → (kind ≡ 30 → ⊥) → IsValuesCode (program ws s) (tables ws s) sets k q 1
  unfolding program columns
  leaf_any f ne = record { of_list = λ l a d of h. any_values (tables ws s) other of h unheld b (rw ew at met) f (λ z. ne (tagged.0 ∙ z)) }

module _ {ws : List ℕ} {s : Sizes} {flow : List ℕ} (h : FlowReady ws s flow) (q name : ℕ) (stands : Standing (program ws s) q) {kind : ℕ} (tagged : (kind ≡ tag (program ws s) q) × (kind ≡ 31 → ⊥) × (kind ≡ 33 → ⊥)) (bound : kind ≡ 30)
    (named : name ≡ num (program ws s) q) where
  pub leaf_flow : Values (tables ws s).flow name (width s.rows) name flow
  unfolding program columns
  leaf_flow = rw named (h.names.of_name (num (program ws s) q) (pattern_name stands (inl (sym tagged.0 ∙ bound))))

  pub leaf_name : (sets : List ℕ) (k w : ℕ) → w ≡ width s.rows → (b : Bool) → b ≡ any 0 (64 * w) (λ v. member sets w k v && member sets w k v) → not b ≡ false
      → (c : Bool) → c ≡ all 0 (64 * w) (λ v. implies (member sets w k v) (member flow w name v)) → (x : ℕ) → x ≡ code true c → IsValuesCode (program ws s) (tables ws s) sets k q x
  unfolding program columns
  leaf_name sets k w ew b met f c lies x e = record {
    of_list = λ l a d of h. e ∙ named_values (tables ws s) (ne_eqb _ 31 (λ z. tagged.1 (tagged.0 ∙ z))) of h (ne_eqb _ 33 (λ z. tagged.2 (tagged.0 ∙ z))) flow (rw named at leaf_flow) b c (rw ew at met) f (sym tagged.0 ∙ bound) (rw (ew, named) at lies);
  }

pub made_values : (ws : List ℕ) (s : Sizes) (may held sets : List ℕ) (k q w kind : ℕ) → w ≡ width s.rows → Matched (program ws s) (tables ws s) may held q → kind ≡ tag (program ws s) q → kind ≡ 31 → (c : ℕ) → c ≡ common_code sets may held w k q → IsValuesCode (program ws s) (tables ws s) sets k q c
unfolding program columns
made_values ws s may held sets k q w kind ew m e f c g = record { of_list = λ l a d of h. common_values m (sym e ∙ f) of h c (rw ew at g) }

pub held_values : (ws : List ℕ) (s : Sizes) (may held sets : List ℕ) (k q w kind : ℕ) → w ≡ width s.rows → Matched (program ws s) (tables ws s) may held q → kind ≡ tag (program ws s) q → kind ≡ 33 → (c : ℕ) → c ≡ code (any 0 (64 * w) (shared sets may w k q)) true → IsValuesCode (program ws s) (tables ws s) sets k q c
unfolding program columns
held_values ws s may held sets k q w kind ew m e f c g = record { of_list = λ l a d of h. equal_values (tables ws s) (ne_eqb (tag (program ws s) q) 31 (λ z. omega arith)) of h m (sym e ∙ f) c (rw ew at g) }

pub met_code : (b : Bool) (x : Bool) → b ≡ x → b ≡ true → 1 ≡ code x true
unfolding code
met_code b x e f = rw (sym e ∙ f)

pub unmet_code : (b : Bool) (x : Bool) → b ≡ x → b ≡ false → 0 ≡ code x true
unfolding code
unmet_code b x e f = rw (sym e ∙ f)
