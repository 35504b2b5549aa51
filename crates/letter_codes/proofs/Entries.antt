-- The letters that the values of some mail entries allow, entry by entry.
use Prim.Native.Nat.{ℕ, ◌+◌, ◌≤◌, ◌<◌}
use native.Mathlib.Decide.{ℕ_discrete}
use native.Mathlib.Omega.{arith}
use mathlib.Core.Path.{◌≡◌, sym, subst}
use mathlib.Core.List.{List}
use mathlib.Core.Logic.{inl, inr}
use Rattle.model.specs.declared.Sizes.{Sizes}
use Rattle.model.specs.Words.{right, columns}
use Rattle.model.specs.Rows.{Program, program}
use Rattle.model.specs.Tables.{Tables, tables, entries}
use Rattle.lists.specs.Ready.{Ready}
use Rattle.lists.proofs.Facts.{mail_form}
use Rattle.values.proofs.Names.{value_upto}
use Rattle.ascending.specs.Numbers.{Room, Added}
use Rattle.value_letters.specs.Letters.{Allowed}
use Rattle.letter_codes.specs.Codes.{AllowedIn}
use Rattle.ascending.proofs.Numbers.{added_none, added_then}

-- the value of a mail entry is a row or a class
pub mail_value_low : {ws : List ℕ} {s : Sizes} → Ready ws s → (j v : ℕ) → j < s.mails → v ≡ right (tables ws s).mail j → v < 65536
unfolding program columns tables entries
mail_value_low {ws} {s} h j v l e = omega (arith, value_upto h (right (tables ws s).mail j) ((mail_form h).in_range j l).1, h.limits.rows)

module _ (p : Program) (t : Tables) (from : ℕ) where
  pub entries_none : {most a n : ℕ} {old : List ℕ} → Room most a n old → Added (AllowedIn p t from from) most a n old n old
  entries_none r = added_none r.rising r.upto (λ z x e. absurd (omega (arith, e.behind, e.below)))

  pub entries_next : {most a n m k v : ℕ} {old mid new : List ℕ} (j : ℕ) → from ≤ j → v ≡ right t.mail j → Added (AllowedIn p t from j) most a n old m mid → Added (Allowed p t v) most a m mid k new → Added (AllowedIn p t from (j + 1)) most a n old k new
  entries_next {v} j l e d f =
      added_then d f
      (λ x z. record { entry = z.entry; behind = z.behind; below = omega (arith, z.below); allowed = z.allowed })
      (λ x z. record { entry = j; behind = l; below = omega arith; allowed = subst (λ u. Allowed p t u x) e z })
      (λ x z. elim (ℕ_discrete z.entry j) [
        | yes y ↦ inr (subst (λ u. Allowed p t u x) (sym e) (subst (λ i. Allowed p t (right t.mail i) x) y z.allowed))
        | no y ↦ inl (record { entry = z.entry; behind = z.behind; below = omega (arith, z.below); allowed = z.allowed })
      ])

  pub entries_all : {most a n m j : ℕ} {old new : List ℕ} (to : ℕ) → j ≡ to → Added (AllowedIn p t from j) most a n old m new → Added (AllowedIn p t from to) most a n old m new
  entries_all to e d = rw e at d
