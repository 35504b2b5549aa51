-- What a verdict says by its number: only safe has 0, and what is so after safe is not so after a refusal.
use mathlib.Core.Path.{◌≡◌}
use mathlib.Core.Bool.{true, false}
use borrow.Author.Tests.{eqb-true}
use Rattle.model.specs.declared.Verdict.{Verdict}
use Rattle.model.specs.declared.Verdict.TheVariants.{Safe}
use Rattle.model.specs.Verdict.{number}
use Rattle.model.specs.Verify.{if_safe}
use Rattle.model.proofs.Demands.{safe_number}
use Rattle.answers.specs.Safe.{is_safe_of}

-- only safe has the number 0
pub safe_only : (v : Verdict) → is_safe_of v ≡ true → v ≡ Safe
unfolding is_safe_of
safe_only v h = safe_number v (eqb-true (number v) 0 h)

-- what is so after a refusal
pub else_is : {A : Type 0} (v : Verdict) (a b : A) → is_safe_of v ≡ false → if_safe v a b ≡ b
unfolding is_safe_of if_safe
else_is v a b h = rw (h, if_safe)
