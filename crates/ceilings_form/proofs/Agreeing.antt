-- Two grammars that say the same to every row read the same; so limits, which are never above the largest word, and weights in form are read as ceilings
-- are.
use Prim.Native.Nat.{ℕ, zero, suc, ◌+◌, ◌-◌, ◌≤◌}
use mathlib.Core.Path.{◌≡◌, sym, ◌∙◌, ap}
use mathlib.Core.List.{List, [], ◌∷◌, ◌++◌}
use borrow.Author.Tests.{le-leb}
use Rattle.model.specs.Words.{Columns, left, right}
use Rattle.model.specs.Reader.{Grammar, row_of, read, after, complete, first_wrong_of}
use Rattle.model.specs.Ceilings.{Ahead, ceiling_step}
use Rattle.model.specs.Weights.{bound_step}
use Rattle.model.proofs.Reader.{by_option, read_none, read_end, read_stop, read_go}

module _ {Item : Type 0} (f g : Grammar Item) (rows : Columns) (agree : (item : Item) (r : ℕ) → f item (left rows r) (right rows r) ≡ g item (left rows r) (right rows r)) where
  read_same : (n r : ℕ) (items : List Item) → read f rows n items r ≡ read g rows n items r
  read_same zero r [] = read_none f rows zero r ∙ sym (read_none g rows zero r)
  read_same (suc n) r [] = read_none f rows (suc n) r ∙ sym (read_none g rows (suc n) r)
  read_same zero r (item ∷ items) = read_end f rows item items r ∙ sym (read_end g rows item items r)
  read_same (suc n) r (item ∷ items) =
      by_option (g item (left rows r) (right rows r))
      (λ e. read_stop f rows n r item items (agree item r ∙ e) ∙ sym (read_stop g rows n r item items e))
      (λ more e.
      read_go f rows n r item items more (agree item r ∙ e) ∙
      (read_same n (r + 1) (more ++ items) ∙ sym (read_go g rows n r item items more e)))

  pub after_same : (items : List Item) (r : ℕ) → after f rows items r ≡ after g rows items r
  unfolding after
  after_same items r = ap row_of (read_same (rows.size - r) r items)

  pub first_wrong_same : (items : List Item) → first_wrong_of f rows items ≡ first_wrong_of g rows items
  unfolding first_wrong_of
  first_wrong_same items = ap (complete rows.size) (read_same rows.size 0 items)

module _ (n most : ℕ) (entries : Columns) where
  -- entries whose numbers are small enough are those of a ceiling
  pub as_ceilings : ((e : ℕ) → right entries e ≤ most) → (ahead : Ahead) (e : ℕ) → bound_step n most ahead (left entries e) (right entries e) ≡ ceiling_step n ahead (left entries e) (right entries e)
  unfolding bound_step
  as_ceilings small ahead e = rw (le-leb (right entries e) most (small e), bound_step)
