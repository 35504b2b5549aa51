-- Document 01, "The system": the counters' run.
use Rattle.std.specs.Prelude.{ℕ, ◌+◌, ◌-◌, Bool, true, false, ◌&&◌, List, [], ◌∷◌, leb, eqb}
use Rattle.std.proofs.Math.Option.{Option, some, none}
use Rattle.model.specs.Index.{total}
use Rattle.model.specs.Rows.{Program}
use Rattle.model.specs.Tables.{Tables, state_index_of}
use Rattle.model.specs.Closed.{start_state}
use Rattle.model.specs.Bads.{Subject}
use Rattle.model.specs.Counters.{counter_count, Counted, counter_of, counts}
use Rattle.model.specs.Rules.{Effect, quiet, reads, puts, starts, Rule}

-- counts: "a whole number without limit for each counter"
abbrev pub Marking : Type 0
Marking = ℕ → ℕ

-- one less, or one more, of counter x
unfoldable pub taking : ℕ → Marking → Marking
taking x m y = elim (eqb y x) [ true ↦ m y - 1 | false ↦ m y ]

unfoldable pub adding : ℕ → Marking → Marking
adding x m y = elim (eqb y x) [ true ↦ m y + 1 | false ↦ m y ]

-- "A rule can be used only where its from counter, and the letter counter it reads if any, are at least 1"
unfoldable pub readable : Effect → Marking → Bool
readable quiet m = true
readable (reads x) m = leb 1 (m x)
readable (puts x) m = true
readable (starts x) m = true

unfoldable pub usable : Rule → Marking → Bool
usable ρ m = leb 1 (m ρ.from) && readable ρ.effect m

-- "It takes one from each of these, and then adds one to its to counter and to the letter counter put or new state, if
-- any"
unfoldable pub effect_taken : Effect → Marking → Marking
effect_taken quiet m = m
effect_taken (reads x) m = taking x m
effect_taken (puts x) m = m
effect_taken (starts x) m = m

unfoldable pub effect_added : Effect → Marking → Marking
effect_added quiet m = m
effect_added (reads x) m = m
effect_added (puts x) m = adding x m
effect_added (starts x) m = adding x m

unfoldable pub fire : Rule → Marking → Marking
fire ρ m = effect_added ρ.effect (adding ρ.to (effect_taken ρ.effect (taking ρ.from m)))

-- "at first 1 for state (R, start), 0 for the others"
unfoldable pub initial : Program → Tables → Marking
initial p t x = elim (eqb x (state_index_of t (start_state p))) [ true ↦ 1 | false ↦ 0 ]

-- "fed rules of the written system, one after another ... a list with a rule that can't be used in its turn is no run"
unfoldable pub fire_all : List Rule → Marking → Option Marking
fire_all [] m = some m
fire_all (ρ ∷ ρs) m = elim (usable ρ m) [ true ↦ fire_all ρs (fire ρ m) | false ↦ none ]

-- "A state or letter without a counter stands at 0"
unfoldable pub standing : Marking → Option ℕ → ℕ
standing m none = 0
standing m (some x) = m x

unfoldable pub count_in : Program → Tables → Marking → Counted → ℕ
count_in p t m k = standing m (counter_of p t k)

-- what an item of a bad counts: the sum over its counters
unfoldable pub sum_in : Program → Tables → Marking → Subject → ℕ
sum_in p t m k = total 0 (counter_count p t) (λ x. elim (counts p t k x) [ true ↦ m x | false ↦ 0 ])
