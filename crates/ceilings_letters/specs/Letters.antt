-- The letters under a ceiling, as sets: those that it holds, and those whose rules have to be looked at.
use Rattle.std.specs.Prelude.{ℕ, ◌+◌, ◌*◌, ◌≤◌, ◌<◌, ◌≡◌, Bool, true, false, not, ◌&&◌, length, eqb, leb}
use mathlib.Core.List.{List, Memᴰ}
use Rattle.bits.specs.Bits.{member, Row}
use Rattle.masks.specs.declared.Mask.{Mask}
use Rattle.masks.specs.Masks.{has}
use Rattle.model.specs.Limits.{max_counters}
use Rattle.model.specs.declared.Sizes.{Sizes}
use Rattle.model.specs.Index.{any}
use Rattle.model.specs.Rows.{Program, program}
use Rattle.model.specs.Tables.{Tables, tables, state_at}
use Rattle.model.specs.Counters.{counter_count}
use Rattle.system_letters.specs.Letters.{letter_width_of}
use Rattle.model.specs.Rules.{Rule, state_rules_of}
use Rattle.model.specs.Ceilings.{highest}
use Rattle.state_rules.specs.Within.{letter_passes, AskedLetters}
use Rattle.ceilings.specs.Table.{held}
use Rattle.ceilings_masks.specs.declared.Over.{Over}
use Rattle.ceilings_masks.specs.Compared.{takes_more, Beside}
use Rattle.ceilings_covers.specs.Covers.{Left}
use Rattle.ceilings_groups.specs.Groups.{table_ceilings, escapes}

-- what the letters of ceiling k are looked up in, and the set for them: a bit for each counter behind the states
pub record LettersRoom (s : Sizes) (n k words : ℕ) (limits within : List ℕ) : Type 0 where
  pub ceiling : k < s.ceilings
  pub table : n * s.ceilings ≤ length limits
  pub few : n ≤ max_counters
  pub bits : n ≤ s.states + 64 * words
  pub row : Row within words 0

-- ceiling k holds counter x
abbrev pub is_held_of : List ℕ → ℕ → ℕ → ℕ → Bool
is_held_of limits ceilings k x = not (eqb (held limits ceilings k x) 0)

-- the set has the letters that ceiling k holds; letters are the counters behind the states
abbrev pub HeldSet : List ℕ → ℕ → ℕ → ℕ → ℕ → ℕ → List ℕ → Type 0
HeldSet limits ceilings n k states words within =
    (y : ℕ) → states + y < n → member within words 0 y ≡ is_held_of limits ceilings k (states + y)

-- state i under ceiling k of the n counters: what is known of ceiling k beside the others, which are left after one
-- less at i, and, where it is wanted, the letters that ceiling k holds
pub record Under (ws : List ℕ) (s : Sizes) (n k i words : ℕ) (limits holders : List ℕ) (over : Over) (near : List ℕ)
    (left : Mask) (wanted : Bool) (within : List ℕ) : Type 0 where
  pub counted : n ≡ counter_count (program ws s) (tables ws s)
  pub state : i < s.states
  pub width : words ≡ letter_width_of (program ws s) (tables ws s)
  pub beside : Beside limits s.ceilings n k holders over near
  pub remains : Left limits s.ceilings n k i left
  pub row : Row within words 0
  pub holds : wanted ≡ true → HeldSet limits s.ceilings n k s.states words within

-- the ceilings that hold one more than ceiling k at each of n counters stand in two tables, by whether it holds the
-- counter
pub record OneMore (limits : List ℕ) (ceilings n k : ℕ) (holders near : List ℕ) : Type 0 where
  pub holders_room : n * 12 ≤ length holders
  pub near_room : n * 8 ≤ length near
  pub not_held :
      (x j : ℕ) → x < n → is_held_of limits ceilings k x ≡ false → j < 256 →
      member holders 4 (3 * x) j ≡ takes_more limits ceilings k x j
  pub some_held :
      (x j : ℕ) → x < n → is_held_of limits ceilings k x ≡ true → j < 256 →
      member near 4 (2 * x + 1) j ≡ takes_more limits ceilings k x j

-- counter x is a letter, and a ceiling of the mask holds one more than ceiling k there
unfoldable pub more_in : List ℕ → ℕ → ℕ → ℕ → Mask → ℕ → Bool
more_in limits ceilings states k mask x =
    leb states x && any 0 256 (λ j. has mask j && takes_more limits ceilings k x j)

-- the set has the letters at which none does
abbrev pub OpenSet : List ℕ → ℕ → ℕ → ℕ → ℕ → ℕ → Mask → List ℕ → Type 0
OpenSet limits ceilings n k states words mask rest =
    (y : ℕ) → states + y < n → member rest words 0 y ≡ not (more_in limits ceilings states k mask (states + y))

-- Where it is wanted, the set has the letters that pass; and the rules of state i whose letter does not pass lead out
-- of nothing from the highest counts of ceiling k.
pub record Narrowed (p : Program) (t : Tables) (limits : List ℕ) (ceilings n k i : ℕ) (wanted : Bool)
    (asked : List ℕ) : Type 0 where
  pub passes : ℕ → Bool
  pub letters : wanted ≡ true → AskedLetters p t true asked passes
  pub harmless :
      (ρ : Rule) → Memᴰ ρ (state_rules_of p t i (state_at t i)) → letter_passes passes ρ.effect ≡ false →
      escapes (table_ceilings ceilings n limits) ρ (highest (held limits ceilings k)) ≡ false
