-- Document 02, (v), "Weights as the other evidence": what is promised of the two numbers that are tested, as types. The
-- change of a rule is what it does to the weighed sum of any counts, and a bad's weight is the least of all counts that
-- meet it.
use Rattle.std.specs.Prelude.{ℕ, ◌+◌, ◌≤◌, ◌≡◌, true, false, pos, ◌+ℤ◌}
use mathlib.Core.List.{List, Memᴰ}
use Rattle.model.specs.Rows.{Program}
use Rattle.model.specs.Tables.{Tables}
use Rattle.model.specs.Bads.{Item, met}
use Rattle.model.specs.Counters.{counter_count}
use Rattle.model.specs.Rules.{Rule, rules}
use Rattle.model.specs.Markings.{Marking, usable, fire, sum_in}
use Rattle.model.specs.Weights.{Line, weighed, change, least_weight_of, without_counter}
use Rattle.model.specs.Verify.{Message, message}
use Rattle.model.specs.Demands.{line_sum}

-- "The change a rule makes to a weighed sum is a signed number": of each line of a message, and of each of its rules
-- wherever that can be used
abbrev pub ChangeExactly : Type 0
ChangeExactly =
    (bytes : List ℕ) (k : ℕ) (ρ : Rule) → Memᴰ ρ (rules (message bytes).program (message bytes).tables) →
    (counts : Marking) → usable ρ counts ≡ true →
    pos (line_sum (message bytes) k (fire ρ counts)) ≡
    pos (line_sum (message bytes) k counts) +ℤ change ((message bytes).lines.weight k) ρ

-- "items on overlapping counters are weighed once, at the least total that meets them all": of all counts that meet the
-- items none weighs less, and where each item has a counter some weigh as much
pub record IsLeast (p : Program) (t : Tables) (w : Line) (is : List Item) : Type 0 where
  pub least :
      (counts : Marking) → met (sum_in p t counts) is ≡ true →
      least_weight_of p t w is ≤ weighed (counter_count p t) w counts
  pub reached :
      without_counter p t is ≡ false →
      (counts : Marking) × (met (sum_in p t counts) is ≡ true) ×
      (weighed (counter_count p t) w counts ≡ least_weight_of p t w is)
  -- "An item without a counter settles its bad": no counts meet it, since a minimum is from 1
  pub without :
      without_counter p t is ≡ true → ((i : Item) → Memᴰ i is → 1 ≤ i.minimum) → (counts : Marking) →
      met (sum_in p t counts) is ≡ true → ⊥

-- for every program, well formed or not, every tables, every line and all items
abbrev pub LeastWeights : Type 0
LeastWeights = (p : Program) (t : Tables) (w : Line) (is : List Item) → IsLeast p t w is
