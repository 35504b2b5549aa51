-- Laws of the rules for the letters of a class.
use Prim.Native.Nat.{ℕ, ◌+◌, ◌*◌, ◌≤◌, ◌<◌}
use native.Mathlib.Omega.{arith}
use mathlib.Core.Path.{◌≡◌, refl, sym, ◌∙◌, ap}
use mathlib.Core.Bool.{Bool, true, false, not, ◌&&◌}
use mathlib.Core.List.{List, [], ◌∷◌}
use lib.ListN.{length, get_or}
use Rattle.std.proofs.Common.{Option, Some, None}
use borrow.Author.Tests.{not-true}
use Rattle.bits.specs.Bits.{member, Row}
use Rattle.model.specs.Index.{any}
use Rattle.model.specs.Rules.{Effect, rule}
use Rattle.model.proofs.Logic.{test, true_false, and_intro}
use Rattle.model.proofs.Index.{any_intro}
use Rattle.rules.specs.Within.{is_asked}
use Rattle.rules.proofs.Gather.{gather_same, gather_none}
use Rattle.plain_rules.proofs.Heads.{only_no, only_both, skipped, kept}
use Rattle.class_rules.specs.Asked.{letter_turn, class_turn, asked_of, class_asked, LetterRoom}

-- the turns of the letters
pub letter_skipped : (states : ℕ) (has : ℕ → Bool) (effect : ℕ → Effect) (to i y : ℕ) (b : Bool) → b ≡ has y → not b ≡ true → letter_turn states has effect to i y ≡ []
unfolding letter_turn
letter_skipped states has effect to i y b e n = skipped b _ _ e n

pub letter_kept : (states : ℕ) (has : ℕ → Bool) (effect : ℕ → Effect) (to i y x : ℕ) (b : Bool) → b ≡ has y → not b ≡ false → x ≡ states + y → letter_turn states has effect to i y ≡ rule i to (effect x) ∷ []
unfolding letter_turn
letter_kept states has effect to i y x b e n u = kept b _ _ _ e n (λ z. ap (λ k. rule i to (effect k)) (sym u))

-- what the sets hold after `keep_within`
pub wide_kept : (w : ℕ) (within : Option (List ℕ)) (found : List ℕ) (y : ℕ) → within ≡ None → member found w 0 y ≡ asked_of w within found y
unfolding asked_of is_asked
wide_kept w within found y n = rw n (kept_so (member found w 0 y))
  where
    kept_so : (a : Bool) → a ≡ (a && true)
    kept_so true = refl
    kept_so false = refl

pub narrow_kept : (w : ℕ) (within : Option (List ℕ)) (set found : List ℕ) (y : ℕ) (p q r : Bool) → within ≡ Some set → p ≡ member found w 0 y → q ≡ (p && not (member set w 0 y)) → r ≡ (member found w 0 y && not q) → r ≡ asked_of w within found y
unfolding asked_of is_asked
narrow_kept w within set found y p q r n u v z = rw n (z ∙ (ap (λ x. member found w 0 y && not x) (v ∙ ap (λ x. x && not (member set w 0 y)) u) ∙ both (member found w 0 y) (member set w 0 y)))
  where
    both : (a b : Bool) → (a && not (a && not b)) ≡ (a && b)
    both true true = refl
    both true false = refl
    both false b = refl

-- whether a class is asked for
pub wide_class : (w : ℕ) (within : Option (List ℕ)) (from to : ℕ) → within ≡ None → true ≡ class_asked w within from to
unfolding class_asked
wide_class w within from to n = rw n

pub narrow_class : (w : ℕ) (within : Option (List ℕ)) (set : List ℕ) (from to : ℕ) (b : Bool) → within ≡ Some set → b ≡ any from to (member set w 0) → b ≡ class_asked w within from to
unfolding class_asked
narrow_class w within set from to b n e = rw n e

module _ (states : ℕ) (letter_at : List ℕ) (w d : ℕ) (inside : get_or letter_at (d + 1) 0 ≤ 64 * w) (effect : ℕ → Effect) (to : ℕ) where
  -- tests that are alike for the letters that a set may have give the same rules
  pub class_same : (has has' : ℕ → Bool) → ((y : ℕ) → y < 64 * w → has y ≡ has' y) → (e : ℕ) → class_turn states letter_at has effect to d e ≡ class_turn states letter_at has' effect to d e
  unfolding class_turn letter_turn
  class_same has has' same e = gather_same (get_or letter_at d 0) (get_or letter_at (d + 1) 0) _ _ (λ y l m. only_both _ _ _ _ (same y (omega arith)) (λ z. refl))

  -- a set that meets itself nowhere is empty, and gives no rules
  pub class_none : (found : List ℕ) (b : Bool) → b ≡ any 0 (64 * w) (λ v. member found w 0 v && member found w 0 v) → not b ≡ true → (e : ℕ) → class_turn states letter_at (member found w 0) effect to d e ≡ []
  unfolding class_turn letter_turn
  class_none found b is none e =
      gather_none (get_or letter_at d 0) (get_or letter_at (d + 1) 0) _
      (λ y l m.
      only_no _ _ (test (member found w 0 y)
      (λ z. true_false (is ∙ any_intro 0 (64 * w) y (λ v. member found w 0 v && member found w 0 v) (omega arith) (omega arith) (and_intro _ _ z z)) (not-true b none))
      (λ z. z)))

-- the room that is left once the set is another of the same length
pub same_room : {states : ℕ} {letter_at found tos others : List ℕ} {w n d : ℕ} → LetterRoom states letter_at found tos others w n d → (found' : List ℕ) → length found' ≡ length found → LetterRoom states letter_at found' tos others w n d
same_room h found' e =
    record {
      class = h.class;
      starts = h.starts;
      order = h.order;
      row = record { room = omega (arith, h.row.room) };
      inside = h.inside;
      counters = h.counters;
      tos_room = h.tos_room;
      others_room = h.others_room;
      low = h.low;
    }

-- what is known where the rule of letter y is put behind e rules
pub record PutRoom (states y e : ℕ) (tos others : List ℕ) : Type 0 where
  pub tos_room : e < length tos
  pub others_room : e < length others
  pub counter : states + y < 65536
  pub low : e < 131072

pub put_room : {states : ℕ} {letter_at found tos₀ others₀ : List ℕ} {w n d : ℕ} → LetterRoom states letter_at found tos₀ others₀ w n d → (from to y e : ℕ) (tos others : List ℕ) → from ≡ get_or letter_at d 0 → to ≡ get_or letter_at (d + 1) 0 → from ≤ y → y < to → e + from ≤ n + y → length tos ≡ length tos₀ → length others ≡ length others₀ → PutRoom states y e tos others
put_room h from to y e tos others begin end lo hi most u v =
    record { tos_room = omega arith; others_room = omega arith; counter = omega arith; low = omega arith }
