-- Sets of letters: what is found so far, one mail entry after the other.
use Prim.Native.Nat.{ℕ, ◌+◌, ◌*◌, ◌≤◌, ◌<◌}
use native.Mathlib.Omega.{arith}
use mathlib.Core.Path.{◌≡◌, sym, ◌∙◌}
use mathlib.Core.Bool.{Bool, true, false, ◌||◌}
use mathlib.Core.List.Memᴰ
use mathlib.Core.List.{List, [], ◌++◌, Memᴰ}
use mathlib.Core.Logic.{◌↔◌, ⊎_elim}
use lib.ListN.{length}
use Rattle.bits.specs.Bits.{member, Row, SetIs}
use Rattle.model.specs.declared.Sizes.{Sizes}
use Rattle.model.specs.Index.{gather}
use Rattle.model.specs.Words.{Columns, left, right}
use Rattle.model.specs.Rows.{Program, program}
use Rattle.model.specs.Letters.{Letter, head_count}
use Rattle.model.specs.Tables.{Tables}
use Rattle.model.specs.Counters.{letters_allowed, letter_count_of}
use Rattle.model.specs.Rules.{from_each}
use Rattle.model.proofs.Logic.{true_false, or_cases, or_left, or_right}
use Rattle.model.proofs.Index.{gather_end}
use Rattle.lists.specs.Lists.{Ascending, range_from, range_to}
use Rattle.rules.proofs.Gather.{gather_last, each_range}
use Rattle.system_letters.specs.Letters.{class_at, letter_at_of, letter_width_of, digits, allowed_set, LetterSets, Found}

-- a set that keeps its length has its row
pub row_kept : (w n : ℕ) (u u' : List ℕ) → Row u w n → length u' ≡ length u → Row u' w n
row_kept w n u u' r e = record { room = omega (arith, r.room) }

pub wide_row : (w w' : ℕ) (u : List ℕ) → w ≡ w' → Row u w' 0 → Row u w 0
wide_row w w' u e r = rw e r

module _ (p : Program) (t : Tables) where
  -- a letter has its bit
  pub letter_inside : (y : ℕ) → y < letter_count_of p t → y < 64 * letter_width_of p t
  unfolding letter_width_of
  letter_inside y l = omega arith

  -- what is found
  module _ (c : ℕ) where
    found_none : (w : ℕ) (u u' : List ℕ) → w ≡ letter_width_of p t → Row u (letter_width_of p t) 0 → SetIs w 0 (λ v. false) u u' → Found p t c [] u'
    found_none w u u' e r is = record {
      row = row_kept (letter_width_of p t) 0 u u' r is.long;
      has = λ y l. (
        λ h. true_false h (rw e at (is.here y (rw e (letter_inside y l)))),
        λ h. absurd (Memᴰ.not-nil h.1),
      );
    }

    pub found_start : (from w : ℕ) (f : ℕ → List Letter) (u u' : List ℕ) → w ≡ letter_width_of p t → Row u (letter_width_of p t) 0 → SetIs w 0 (λ v. false) u u' → Found p t c (gather from from f) u'
    found_start from w f u u' e r is = rw (gather_end from from f (omega arith)) (found_none w u u' e r is)

    -- all entries that begin with a
    pub found_end : (l : Columns) → Ascending l [] → (a from to i : ℕ) (f : ℕ → List Letter) (u : List ℕ) → from ≡ range_from l a → to ≡ range_to l a → i ≡ to → Found p t c (gather from i (λ k. f (right l k))) u → Found p t c (from_each l a f) u
    found_end l rising a from to i f u x y z g = rw (each_range l a f rising) (rw (x, z, y) at g)

    pub found_join : (ls ms : List Letter) (w : ℕ) (g : ℕ → Bool) (u u' : List ℕ) → w ≡ letter_width_of p t → Found p t c ls u → ((y : ℕ) → y < letter_count_of p t → (g y ≡ true) ↔ ((class_at p t y ≡ c) × Memᴰ (letter_at_of p t y) ms)) → SetIs w 0 (λ v. member u w 0 v || g v) u u' → Found p t c (ls ++ ms) u'
    found_join ls ms w g u u' e f k is = record {
      row = row_kept (letter_width_of p t) 0 u u' f.row is.long;
      has = λ y l.
          let here : member u' (letter_width_of p t) 0 y ≡ (member u (letter_width_of p t) 0 y || g y) = rw e at (is.here y (rw e (letter_inside y l))) in (
            λ h. ⊎_elim
                (λ z. let (a, b) = (f.has y l).0 z in (a, Memᴰ.append_left ms b))
                (λ z. let (a, b) = (k y l).0 z in (a, Memᴰ.append_right ls b))
                (or_cases (member u (letter_width_of p t) 0 y) (g y) (sym here ∙ h)),
            λ h. here ∙ ⊎_elim
                (λ m. or_left (member u (letter_width_of p t) 0 y) (g y) ((f.has y l).1 (h.0, m)))
                (λ m. or_right (member u (letter_width_of p t) 0 y) (g y) ((k y l).1 (h.0, m)))
                (Memᴰ.append_cases ls h.1),
          );
    }

    -- the letters of one mail entry
    module _ (letters : List ℕ) (sets : LetterSets p t letters) (w set j v : ℕ) (e : w ≡ letter_width_of p t) (at : set ≡ allowed_set p j) (low : j < t.mail.size) (class : left t.mail j ≡ c) (value : right t.mail j ≡ v) where
      pub entry_has : (y : ℕ) → y < letter_count_of p t → (member letters w set y ≡ true) ↔ ((class_at p t y ≡ c) × Memᴰ (letter_at_of p t y) (letters_allowed p t v))
      entry_has y l = rw (e, at, ← class, ← value) (sets.allowed j y low l)

      pub entry_room : Row letters w set
      unfolding allowed_set
      entry_room = rw (e, at) (sets.room (allowed_set p j) (omega arith))

      pub found_sent : (from i : ℕ) (f : ℕ → List Letter) (u u' : List ℕ) → from ≤ i → f i ≡ letters_allowed p t v → Found p t c (gather from i f) u → SetIs w 0 (λ y. member u w 0 y || member letters w set y) u u' → Found p t c (gather from (i + 1) f) u'
      found_sent from i f u u' a b g is = rw (gather_last from i f a, b) (found_join (gather from i f) (letters_allowed p t v) w (member letters w set) u u' e g entry_has is)

-- the number of the set of a mail entry, as the code has it
pub entry_number : (ws : List ℕ) (s : Sizes) (j n : ℕ) → n ≡ digits * (s.constructors + 2) + j → n ≡ allowed_set (program ws s) j
unfolding allowed_set head_count program
entry_number ws s j n e = e
