-- Cleared tables hold empty sets, with room for a message of these sizes.
use Prim.Native.Nat.{ℕ, ◌+◌, ◌*◌, ◌/◌, ◌%◌, ◌^◌, ◌≤◌, ◌<◌}
use native.Mathlib.Nat.{mul-le-mul_left, mul-le-mul_right}
use native.Mathlib.Omega.{arith}
use mathlib.Core.Path.{ap, ◌∙◌}
use mathlib.Core.List.{List}
use Rattle.model.specs.declared.Sizes.{Sizes}
use Rattle.model.specs.Limits.{max_constructors, present}
use Rattle.model.specs.Demands.{WithinLimits}
use Rattle.bits.specs.Bits.{bit, member}
use Rattle.bits.proofs.Bits.{bit_zero}
use Rattle.rooms.specs.Cleared.{Cleared}
use Rattle.values.specs.Values.{width, Empty, Room}
use Rattle.closure.specs.Lent.{OpenScratch}

-- a cleared table holds empty sets
pub empty_sets : (n w : ℕ) (t : List ℕ) → Cleared n t → Empty w t
unfolding member
empty_sets n w t h = record { none = λ k v. ap (λ x. bit x (v % 64)) (h.zero (k * w + v / 64)) ∙ bit_zero (v % 64) }

-- a product of no more than these is no more
pub product_most : (a b x y : ℕ) → a ≤ x → b ≤ y → a * b ≤ x * y
product_most a b x y h k = omega (arith, mul-le-mul_right b h, mul-le-mul_left x k)

-- so many words of so many bytes are few
pub words_fit : (n b : ℕ) → n < 2 ^ 32 → b ≤ 8 → n * b < 9223372036854775808
words_fit n b l m = let z = product_most n b (2 ^ 32) 8 (omega arith) m in omega arith

-- so many sets of no more than so many words have room
pub sets_fit : (k w K W n : ℕ) (t : List ℕ) → Cleared n t → k ≤ K → w ≤ W → K * W ≤ n → Room w k t
sets_fit k w K W n t h a b c =
    record { row = λ j l. record { room = let z = product_most (j + 1) w K W (omega arith) b in let y = h.room in omega arith } }

-- the width of a set of a message of no more than so many rows
pub width_most : (r R : ℕ) → r ≤ R → width r ≤ width R
unfolding width
width_most r R h = omega arith

-- the sets of a message of no more than so many rows and names fit where those of the most do
pub sets_most : (s : Sizes) (R N : ℕ) → s.rows ≤ R → s.names ≤ N → ((s.names + 1) * width s.rows ≤ (N + 1) * width R) × (s.rows * width s.rows ≤ R * width R)
sets_most s R N r n =
    let w = width_most s.rows R r in
    (product_most (s.names + 1) (width s.rows) (N + 1) (width R) (omega arith) w, product_most s.rows (width s.rows) R (width R) r w)

-- what refusal 8 asks of cleared tables: room for the sets and words of the message
pub lends : (s : Sizes) (a b d e : ℕ) (flow mail firsts nexts may held codes : List ℕ) → WithinLimits present s → Cleared a flow → Cleared a mail → Cleared b firsts → Cleared d nexts → Cleared e may → Cleared e held → Cleared d codes → (s.names + 1) * width s.rows ≤ a → max_constructors ≤ b → s.rows * width s.rows ≤ e → s.rows ≤ d → OpenScratch s flow mail firsts nexts may held codes
lends s a b d e flow mail firsts nexts may held codes limits l m f x y z o am bc er rd = record {
  indexed = record {
    constructors = let q = f.room in omega (arith, limits.constructors);
    rows = let q = x.room in omega arith;
  };
  cleared = record {
    flow_empty = empty_sets a _ flow l;
    flow_room = sets_fit s.names _ (s.names + 1) (width s.rows) a flow l (omega arith) (omega arith) am;
    mail_empty = empty_sets a _ mail m;
    mail_room = sets_fit (s.names + 1) _ (s.names + 1) (width s.rows) a mail m (omega arith) (omega arith) am;
    patterns = record {
      may_room = sets_fit s.rows _ s.rows (width s.rows) e may y (omega arith) (omega arith) er;
      held_room = sets_fit s.rows _ s.rows (width s.rows) e held z (omega arith) (omega arith) er;
      may_empty = empty_sets e _ may y;
      held_empty = empty_sets e _ held z;
    };
  };
  unsettled = record { room = let q = o.room in omega arith; none = o.zero };
}
