-- A function and a relation that say the same: what the function gives, the relation has, and the other way round.
use mathlib.Core.Path.{◌≡◌, sym, ◌∙◌}
use mathlib.Core.Option.{Option, some, none, none-ne-some}
use Rattle.model.proofs.Reader.{by_option}

pub record Exactly {A : Type 0} (o : Option A) (R : A → Type 0) : Type 0 where
  pub has : (a : A) → o ≡ some a → R a
  pub gives : (a : A) → R a → o ≡ some a

module _ {A : Type 0} {o : Option A} {R : A → Type 0} (x : Exactly o R) where
  -- so where the function gives nothing, the relation has nothing, and the other way round
  pub gives_none : o ≡ none → (a : A) → R a → ⊥
  gives_none e a r = none-ne-some a (sym e ∙ x.gives a r)

  pub has_none : ((a : A) → R a → ⊥) → o ≡ none
  has_none never = by_option o (λ e. e) (λ a e. absurd (never a (x.has a e)))
