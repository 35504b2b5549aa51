-- Document 02, (v), "Weights as the other evidence": lines of weights; refusals 16 (weights), 17 (rise) and 18 (light).
use Rattle.std.specs.Prelude.{ℕ, zero, suc, ◌+◌, ◌-◌, ◌*◌, Bool, true, false, not, ◌&&◌, ◌||◌, List, [], ◌∷◌, leb, ltb, eqb, ℤ, pos, negsuc}
use Rattle.std.proofs.Math.Option.{none, map}
use Rattle.std.proofs.Math.IntN.{sub_ℕ}
use Rattle.model.specs.declared.Sizes.{Sizes}
use Rattle.model.specs.declared.Verdict.TheVariants.{Weights, Rise, Light}
use Rattle.model.specs.Limits.{max_weight}
use Rattle.model.specs.Index.{implies, any, all, first, total}
use Rattle.model.specs.Words.{Columns, columns}
use Rattle.model.specs.Verdict.{Check, unless}
use Rattle.model.specs.Message.{bads_offset, weights_offset}
use Rattle.model.specs.Reader.{Grammar, after, first_wrong_of}
use Rattle.model.specs.Rows.{Program}
use Rattle.model.specs.Tables.{Tables}
use Rattle.model.specs.Bads.{Subject, at_head, of_letters, of_letter, Item, bad_row_of, items}
use Rattle.model.specs.Counters.{counter_count, counts}
use Rattle.model.specs.Rules.{Effect, quiet, reads, puts, starts, Rule}
use Rattle.model.specs.Markings.{Marking, initial, sum_in}
use Rattle.model.specs.Ceilings.{Ahead, ceiling_step, ceilings_ahead, limit_from}

-- "sizes W lines (1 to 16) and E entries (to 8,192), counter numbers, weights"
unfoldable pub weight_entries : List ℕ → Sizes → Columns
weight_entries ws s = columns ws s.weights (weights_offset s + 2) (weights_offset s + 2 + s.weights)

-- an entry of a ceiling whose number is at most so much
unfoldable pub bound_step : ℕ → ℕ → Grammar Ahead
bound_step counters most ahead x number =
    elim (leb number most) [ true ↦ ceiling_step counters ahead x number | false ↦ none ]

-- "weights 1 to 1,000, closed as ceilings are": an entry of a line is one of a ceiling whose number is at most 1,000
abbrev pub weight_step : ℕ → Grammar Ahead
weight_step counters = bound_step counters max_weight

-- so many lines are to come, each from counter 0 on
abbrev pub lines_ahead : ℕ → List Ahead
lines_ahead = ceilings_ahead

-- 16: "for form or not W lines, placed as 10 is"
unfoldable pub weight_check_of : List ℕ → Sizes → ℕ → Check
weight_check_of ws s counters =
    map (λ e. Weights (weights_offset s + 2 + e))
    (first_wrong_of (weight_step counters) (weight_entries ws s) (lines_ahead s.lines))

-- the first entry of line number k
unfoldable pub line_entry : ℕ → Columns → ℕ → ℕ
line_entry counters entries k = after (weight_step counters) entries (lines_ahead k) 0

-- a line gives each counter its weight
abbrev pub Line : Type 0
Line = ℕ → ℕ

-- the lines of a message: how many, and the weights of each; as a ceiling's limits are found, so that absent counters
-- weigh 0
pub record Lines : Type 0 where
  pub size : ℕ
  pub counters : ℕ
  pub weight : ℕ → Line

unfoldable pub lines_of : List ℕ → Sizes → ℕ → Lines
lines_of ws s counters =
    let entries : Columns = weight_entries ws s in
    record {
      size = s.lines;
      counters = counters;
      weight = λ k x.
          let e : ℕ = line_entry counters entries k in limit_from counters entries (entries.size - e) e x;
    }

-- the weighed sum of counts
unfoldable pub weighed : ℕ → Line → Marking → ℕ
weighed counters w m = total 0 counters (λ x. w x * m x)

-- The weights that a rule puts and those that it takes: "It takes one from each of these, and then adds one to its to
-- counter and to the letter counter put or new state, if any"
unfoldable pub effect_put : Line → Effect → ℕ
effect_put w quiet = 0
effect_put w (reads x) = 0
effect_put w (puts x) = w x
effect_put w (starts x) = w x

unfoldable pub effect_took : Line → Effect → ℕ
effect_took w quiet = 0
effect_took w (reads x) = w x
effect_took w (puts x) = 0
effect_took w (starts x) = 0

unfoldable pub weight_put_of : Line → Rule → ℕ
weight_put_of w ρ = w ρ.to + effect_put w ρ.effect

unfoldable pub weight_taken_of : Line → Rule → ℕ
weight_taken_of w ρ = w ρ.from + effect_took w ρ.effect

-- "The change a rule makes to a weighed sum is a signed number": weights put minus weights taken
unfoldable pub change : Line → Rule → ℤ
change w ρ = sub_ℕ (weight_put_of w ρ) (weight_taken_of w ρ)

-- "and it must not be above zero"
unfoldable pub above_zero : ℤ → Bool
above_zero (pos zero) = false
above_zero (pos (suc n)) = true
above_zero (negsuc n) = false

-- some rule raises the line's sum
unfoldable pub raised : Line → List Rule → Bool
raised w [] = false
raised w (ρ ∷ ρs) = above_zero (change w ρ) || raised w ρs

-- 17: "placed at the first entry of the first line that a rule raises"
unfoldable pub rise_check_of : List ℕ → Sizes → Lines → List Rule → Check
rise_check_of ws s ls ρs =
    let k : ℕ = first 0 ls.size (λ i. raised (ls.weight i) ρs) in
    unless (eqb k ls.size) (Rise (weights_offset s + 2 + line_entry ls.counters (weight_entries ws s) k))

-- The least counts that meet a bad. What an item still lacks is put on the lightest of its counters; items on a single
-- letter go first, since a sum may count what these ask for: "items on overlapping counters are weighed once, at the
-- least total that meets them all".
unfoldable pub lightest : Program → Tables → Line → Subject → ℕ
lightest p t w k =
    let n : ℕ = counter_count p t in
    first 0 n (λ x. counts p t k x && all 0 n (λ y. implies (counts p t k y) (leb (w x) (w y))))

-- one item: what the counts lack of its minimum, put on its lightest counter
unfoldable pub fill : Program → Tables → Line → Item → Marking → Marking
fill p t w i m x =
    elim (eqb x (lightest p t w i.subject)) [
      | true ↦ m x + (i.minimum - sum_in p t m i.subject)
      | false ↦ m x
    ]

-- Items are single letters, or groups: a head over its third numbers, a constructor over its heads. Two groups count
-- the same or are apart; a letter lies in a group or is apart from it.
unfoldable pub is_single_of : Subject → Bool
is_single_of (at_head c r) = false
is_single_of (of_letters c k) = false
is_single_of (of_letter c l) = true

-- the items that pass, one after the other
unfoldable pub fill_those : Program → Tables → Line → (Subject → Bool) → List Item → Marking → Marking
fill_those p t w which [] m = m
fill_those p t w which (i ∷ is) m =
    fill_those p t w which is (elim (which i.subject) [ true ↦ fill p t w i m | false ↦ m ])

unfoldable pub least_counts : Program → Tables → Line → List Item → Marking
least_counts p t w is =
    fill_those p t w (λ k. not (is_single_of k)) is (fill_those p t w is_single_of is (λ x. 0))

-- what a bad weighs in a line
unfoldable pub least_weight_of : Program → Tables → Line → List Item → ℕ
least_weight_of p t w is = weighed (counter_count p t) w (least_counts p t w is)

-- what the start weighs in a line
unfoldable pub start_weight : Program → Tables → Line → ℕ
start_weight p t w = weighed (counter_count p t) w (initial p t)

-- "An item without a counter settles its bad"
unfoldable pub without_counter : Program → Tables → List Item → Bool
without_counter p t [] = false
without_counter p t (i ∷ is) =
    not (any 0 (counter_count p t) (counts p t i.subject)) || without_counter p t is

-- "For each bad, some line must weigh its minimums above the start."
unfoldable pub is_settled_of : Program → Tables → Lines → List Item → Bool
is_settled_of p t ls is =
    without_counter p t is ||
    any 0 ls.size (λ k. ltb (start_weight p t (ls.weight k)) (least_weight_of p t (ls.weight k) is))

-- 18: "placed at the first tag of the first unsettled bad"
unfoldable pub light_check_of : Sizes → Program → Tables → Lines → Columns → Check
light_check_of s p t ls rows =
    let j : ℕ = first 0 s.bads (λ i. not (is_settled_of p t ls (items p rows i))) in
    unless (eqb j s.bads) (Light (bads_offset s + 2 + bad_row_of p rows j))
