-- The tests of src/entries.rt: each way out of the code gives what the model's definition gives.
use Prim.Native.Nat.{ℕ, ◌+◌, ◌-◌, ◌≤◌, ◌<◌}
use mathlib.Core.Path.{◌≡◌, sym, ◌∙◌}
use mathlib.Core.Bool.{Bool, true, false, not}
use mathlib.Core.List.{List, [], ◌∷◌}
use lib.ListN.{get_or}
use borrow.Author.Tests.{ne_eqb}
use Rattle.model.specs.Keys.{below}
use Rattle.model.specs.Words.{Columns, left, right}
use Rattle.model.specs.Rows.{Program}
use Rattle.model.proofs.Logic.{not_passes, not_fails, and_first, and_second}
use Rattle.model.proofs.Index.{first_hit, first_miss, first_end}
use Rattle.lists.specs.Lists.{key_at}
use Rattle.evidence.specs.declared.entries.Table.{Table}
use Rattle.evidence.specs.Ranges.{legal_left, legal_rest, legal, ascends, in_place, misplaced}

-- t is the list that the match has told; x is what the code gives
module _ (p : Program) (t u : Table) (told : t ≡ u) (a b d : ℕ) (x : Bool) where
  pub legal_pass : legal_left p u a ≡ true → x ≡ legal_rest p u b d → x ≡ legal p t a b d
  unfolding legal
  legal_pass h e = rw told (e ∙ and_second (legal_left p u a) (legal_rest p u b d) h)

  pub legal_fail : x ≡ legal_left p u a → legal_left p u a ≡ false → x ≡ legal p t a b d
  unfolding legal
  legal_fail e h = rw told (e ∙ and_first (legal_left p u a) (legal_rest p u b d) h)

pub ascends_first : (c : Columns) (ts : List ℕ) (i : ℕ) → i ≡ 0 → true ≡ ascends c ts i
unfolding ascends
ascends_first c ts i e = rw e

-- v tells whether the entry before is below the numbers of entry i
pub ascends_later : (c : Columns) (ts : List ℕ) (i a b d : ℕ) (v : Bool) → (i ≡ 0 → ⊥) → a ≡ left c i → b ≡ right c i → d ≡ get_or ts i 0 → v ≡ below (key_at c ts (i - 1)) (a ∷ b ∷ d ∷ []) → v ≡ ascends c ts i
unfolding ascends key_at
ascends_later c ts i a b d v later first second third h = rw (ne_eqb i 0 later, ← first, ← second, ← third) h

module _ (p : Program) (t : Table) (c : Columns) (ts : List ℕ) (i a b d : ℕ) (left_is : a ≡ left c i) (right_is : b ≡ right c i) (third-is : d ≡ get_or ts i 0) (x : Bool) (range : x ≡ legal p t a b d) where
  pub place_pass : (y : Bool) → x ≡ true → y ≡ ascends c ts i → y ≡ in_place p t c ts i
  unfolding in_place
  place_pass y h e = rw (← left_is, ← right_is, ← third-is) (e ∙ and_second (legal p t a b d) (ascends c ts i) (sym range ∙ h))

  pub place_fail : x ≡ false → x ≡ in_place p t c ts i
  unfolding in_place
  place_fail h = rw (← left_is, ← right_is, ← third-is) (range ∙ and_first (legal p t a b d) (ascends c ts i) (sym range ∙ h))

-- the loop: what is left gives what the whole gives
module _ (p : Program) (t : Table) (c : Columns) (ts : List ℕ) (i : ℕ) (x : Bool) (placed : x ≡ in_place p t c ts i) where
  pub misplaced_hit : i < c.size → x ≡ false → misplaced p t c ts i ≡ i
  unfolding misplaced
  misplaced_hit h e = first_hit i c.size (λ k. not (in_place p t c ts k)) h (not_passes (in_place p t c ts i) (sym placed ∙ e))

  pub misplaced_miss : i < c.size → x ≡ true → misplaced p t c ts i ≡ misplaced p t c ts (i + 1)
  unfolding misplaced
  misplaced_miss h e = first_miss i c.size (λ k. not (in_place p t c ts k)) h (not_fails (in_place p t c ts i) (sym placed ∙ e))

pub misplaced_end : (p : Program) (t : Table) (c : Columns) (ts : List ℕ) (i : ℕ) → c.size ≤ i → misplaced p t c ts i ≡ i
unfolding misplaced
misplaced_end p t c ts i h = first_end i c.size (λ k. not (in_place p t c ts k)) h
