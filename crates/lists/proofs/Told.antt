-- What was read from a span, and where a key has its place in it, are those of the tables' lists.
use Prim.Native.Nat.{ℕ}
use mathlib.Core.Path.{◌≡◌, ◌∙◌}
use mathlib.Core.List.{List, []}
use lib.ListN.{get_or}
use Rattle.model.specs.declared.Sizes.{Sizes}
use Rattle.model.specs.Keys.{Key}
use Rattle.model.specs.Words.{left, right}
use Rattle.model.specs.Tables.{tables}
use Rattle.lists.specs.declared.Span.{Span}
use Rattle.lists.specs.Lists.{flow_span, mail_span, state_span, listed, thirds, place}
use Rattle.lists.proofs.Facts.{flow_listed, mail_listed, mail_thirds, states_listed, states_thirds}

-- what was read from a span
module _ (ws : List ℕ) (s : Sizes) (l : Span) (j v : ℕ) (same : v ≡ right (listed ws l) j) where
  pub flow_told : l ≡ flow_span s → v ≡ right (tables ws s).flow j
  flow_told e = same ∙ rw (e, flow_listed ws s)

  pub mail_told : l ≡ mail_span s → v ≡ right (tables ws s).mail j
  mail_told e = same ∙ rw (e, mail_listed ws s)

  pub states_told : l ≡ state_span s → v ≡ right (tables ws s).states j
  states_told e = same ∙ rw (e, states_listed ws s)

pub class_told : (ws : List ℕ) (s : Sizes) (l : Span) (j v : ℕ) → v ≡ left (listed ws l) j → l ≡ state_span s → v ≡ left (tables ws s).states j
class_told ws s l j v same e = same ∙ rw (e, states_listed ws s)

pub return_told : (ws : List ℕ) (s : Sizes) (l : Span) (j v : ℕ) → v ≡ get_or (thirds ws l) j 0 → l ≡ state_span s → v ≡ get_or (tables ws s).returns j 0
return_told ws s l j v same e = same ∙ rw (e, states_thirds ws s)

-- where a key has its place in a span
module _ (ws : List ℕ) (s : Sizes) (l : Span) (k : Key) (i : ℕ) (same : i ≡ place (listed ws l) (thirds ws l) k) where
  pub mail_placed : l ≡ mail_span s → i ≡ place (tables ws s).mail [] k
  mail_placed e = same ∙ rw (e, mail_listed ws s, mail_thirds ws s)

  pub states_placed : l ≡ state_span s → i ≡ place (tables ws s).states (tables ws s).returns k
  states_placed e = same ∙ rw (e, states_listed ws s, states_thirds ws s)
