-- The rules of each state as one: the ceilings that are open at every counter to which one of them adds.
use Rattle.std.specs.Prelude.{ℕ, ◌+◌, ◌*◌, ◌≤◌, ◌<◌, ◌≡◌, Bool, true, not, ◌&&◌, ◌||◌, ◌⊎◌, length, get_or, eqb}
use mathlib.Core.List.{List, Memᴰ}
use Rattle.model.specs.Limits.{omega_limit}
use Rattle.model.specs.Rows.{Program}
use Rattle.model.specs.Tables.{Tables, state_at}
use Rattle.model.specs.Rules.{Rule, state_rules_of}
use Rattle.model.specs.Markings.{Marking, usable, fire}
use Rattle.model.specs.Ceilings.{Ceilings, allowed, under_some}
use Rattle.bits.specs.Bits.{member}
use Rattle.steps.specs.declared.Step.{Step}
use Rattle.steps.specs.Steps.{one_less_if}
use Rattle.masks.specs.Masks.{has}
use Rattle.ceilings.specs.Table.{held}
use Rattle.ceilings_masks.specs.declared.Over.{Over}

-- the ceilings that the table of limits holds
abbrev pub table_ceilings : ℕ → ℕ → List ℕ → Ceilings
table_ceilings ceilings n limits = record { size = ceilings; counters = n; limit = held limits ceilings }

-- the rule can be used at the counts and leads out of all ceilings
unfoldable pub escapes : Ceilings → Rule → Marking → Bool
escapes bs ρ m = usable ρ m && not (under_some bs (fire ρ m))

-- ceiling k is open from `low` on at counter y: it has no bound there if y is below `low`, and else holds one
pub record OpenAt (limits : List ℕ) (ceilings low k y : ℕ) : Type 0 where
  pub no_bound : y < low → allowed (held limits ceilings k y) omega_limit ≡ true
  pub one : low ≤ y → allowed (held limits ceilings k y) 1 ≡ true

-- the same where y is one of the n counters
abbrev pub AllowedAt : List ℕ → ℕ → ℕ → ℕ → ℕ → ℕ → Type 0
AllowedAt limits ceilings n low k y = y < n → OpenAt limits ceilings low k y

-- ceiling k is open from `low` on where a rule of this kind adds: where it leads, and what it puts or starts; and these
-- are two counters
abbrev pub OpenStep : List ℕ → ℕ → ℕ → ℕ → ℕ → ℕ → ℕ → ℕ → Type 0
OpenStep limits ceilings n low k kind to other =
    AllowedAt limits ceilings n low k to ×
    (2 ≤ kind → AllowedAt limits ceilings n low k other × (to ≡ other → ⊥))

-- the ceilings of a set are open from `low` on where each of m rules adds, all of one kind
abbrev pub OpenAll : List ℕ → ℕ → ℕ → ℕ → ℕ → List ℕ → List ℕ → ℕ → (ℕ → Bool) → Type 0
OpenAll limits ceilings n low kind tos others m f =
    (k j : ℕ) → k < 256 → j < m → f k ≡ true →
    OpenStep limits ceilings n low k kind (get_or tos j 0) (get_or others j 0)

-- the ceilings of three sets are open so: of the first from behind all counters on, of the second from behind the
-- states on, and of the third from the first counter on
pub record SetsOpen (limits : List ℕ) (ceilings states n kind : ℕ) (tos others : List ℕ) (m : ℕ)
    (first second third : ℕ → Bool) : Type 0 where
  pub opens : OpenAll limits ceilings n n kind tos others m first
  pub opens_letters : OpenAll limits ceilings n states kind tos others m second
  pub opens_one : OpenAll limits ceilings n 0 kind tos others m third

-- the three sets of state i, by its m rules, are put into the table; the sets before them stay
pub record GroupPut (limits : List ℕ) (ceilings states n kind : ℕ) (tos others : List ℕ) (m i : ℕ)
    (group group' : List ℕ) : Type 0 where
  pub sets :
      SetsOpen limits ceilings states n kind tos others m (member group' 4 (3 * i)) (member group' 4 (3 * i + 1))
      (member group' 4 (3 * i + 2))
  pub stays : (x k : ℕ) → x < 3 * i → k < 256 → member group' 4 x k ≡ member group 4 x k
  pub long : length group' ≡ length group

-- each counter gets one at most by the rule, and ceiling k is open there from `low` on; or it gets nothing
abbrev pub OpenTo : List ℕ → ℕ → ℕ → ℕ → ℕ → Rule → Type 0
OpenTo limits ceilings n low k ρ =
    (m :
    Marking) (y : ℕ) → y < n →
    (OpenAt limits ceilings low k y × (fire ρ m y ≤ m y + 1)) ⊎
    (fire ρ m y ≤ one_less_if (eqb y ρ.from) (m y))

-- the rules of state i are open to the ceilings of a set, from `low` on
abbrev pub RulesOpen : Program → Tables → List ℕ → ℕ → ℕ → ℕ → ℕ → (ℕ → Bool) → Type 0
RulesOpen p t limits ceilings n low i f =
    (k : ℕ) (ρ : Rule) → k < 256 → f k ≡ true → Memᴰ ρ (state_rules_of p t i (state_at t i)) →
    OpenTo limits ceilings n low k ρ

-- What is known of the states below e: their rules leave them; and are open to the ceilings of their three sets: of the
-- first without a bound, of the second without a bound at states and with one at letters, of the third with one.
pub record GroupsUpto (p : Program) (t : Tables) (limits : List ℕ) (ceilings states n e : ℕ)
    (group : List ℕ) : Type 0 where
  pub leaves : (i : ℕ) (ρ : Rule) → i < e → Memᴰ ρ (state_rules_of p t i (state_at t i)) → ρ.from ≡ i
  pub opens : (i : ℕ) → i < e → RulesOpen p t limits ceilings n n i (member group 4 (3 * i))
  pub opens_letters : (i : ℕ) → i < e → RulesOpen p t limits ceilings n states i (member group 4 (3 * i + 1))
  pub opens_one : (i : ℕ) → i < e → RulesOpen p t limits ceilings n 0 i (member group 4 (3 * i + 2))

-- ceiling k is in the first set of state i; or in the second, and in `letters`; or in the third, and in `above`
unfoldable pub in_sets : Over → List ℕ → ℕ → ℕ → Bool
in_sets over group i k =
    member group 4 (3 * i) k ||
    (has over.letters k && member group 4 (3 * i + 1) k || has over.above k && member group 4 (3 * i + 2) k)

abbrev pub step : ℕ → ℕ → ℕ → ℕ → Step
step from to kind other = record { from = from; to = to; kind = kind; other = other }
