-- Guesses noted one after another.
use Prim.Native.Nat.{ℕ, ◌+◌, ◌<◌}
use native.Mathlib.Decide.{ℕ_discrete}
use native.Mathlib.Omega.{arith}
use mathlib.Core.Path.{refl, ◌∙◌, ap}
use mathlib.Core.List.{List}
use mathlib.Core.Logic.{inl, inr, ⊎_elim}
use lib.ListN.{length, get_or, set, length-set}
use lib.Seq.{get_or-set_same, get_or-set_other}
use Rattle.onward.specs.Guesses.{Guessed}

pub guessed_none : (n : ℕ) (t : List ℕ) → Guessed n t t
guessed_none n t = record { long = refl; word = λ k. inl refl }

pub guessed_one : (t : List ℕ) (r i : ℕ) → r < length t → Guessed (i + 1) t (set t r i)
guessed_one t r i h = record {
  long = length-set t r i;
  word = λ k. elim (ℕ_discrete k r) [
    | yes e ↦ inr (omega (arith, ap (λ j. get_or (set t r i) j 0) e, get_or-set_same t r i 0 h))
    | no ne ↦ inl (get_or-set_other t r k i 0 ne)
  ];
}

-- one more, of a lower number
pub guessed_then : (n i : ℕ) (u t v : List ℕ) → Guessed n u t → Guessed (i + 1) t v → i < n → Guessed n u v
guessed_then n i u t v a b l = record {
  long = b.long ∙ a.long;
  word = λ k. ⊎_elim (λ e. ⊎_elim (λ f. inl (e ∙ f)) (λ f. inr (omega arith)) (a.word k)) (λ e. inr (omega arith)) (b.word k);
}
