-- Refusal 14: the words needed against those lent.
use Prim.Native.Nat.{ℕ, ◌≤◌, ◌<◌}
use native.Mathlib.Omega.{arith}
use mathlib.Core.Path.{◌≡◌, refl, subst, sym}
use mathlib.Core.List.{List}
use lib.ListN.{length}
use lib.Dec.{leb}
use borrow.Author.Tests.{le-leb, lt-leb}
use Rattle.model.specs.declared.Sizes.{Sizes}
use Rattle.std.proofs.Common.{Ok, Err}
use Rattle.model.specs.declared.Verdict.TheVariants.{Space}
use Rattle.model.specs.Verdict.{unless, number}
use Rattle.model.specs.Rows.{program}
use Rattle.model.specs.Tables.{tables}
use Rattle.model.specs.Listing.{system_words, written, space_check}
use Rattle.model.specs.Verify.{outcome}
use Rattle.system_space.specs.Space.{words_after}

module _ (ws : List ℕ) (s : Sizes) (lent : List ℕ) where
  abbrev needed : ℕ
  needed = length (system_words (program ws s) (tables ws s))

  pub too_long : (n : ℕ) → n ≡ needed → length lent < n → (Err (Space n) ≡ outcome (space_check (program ws s) (tables ws s) (length lent))) × (lent ≡ words_after (Err (Space n)) ws s lent)
  unfolding space_check unless outcome words_after number
  too_long n e h =
      (subst (λ k. Err (Space k) ≡ outcome (unless (leb needed (length lent)) (Space needed))) (sym e) (rw (lt-leb needed (length lent) (omega arith))), refl)

  pub fits : (out : List ℕ) → needed ≤ length lent → out ≡ written (system_words (program ws s) (tables ws s)) lent → (Ok tt ≡ outcome (space_check (program ws s) (tables ws s) (length lent))) × (out ≡ words_after (Ok tt) ws s lent)
  unfolding space_check unless outcome words_after number
  fits out h e = (rw (le-leb needed (length lent) h), e)
