-- Ceilings compared at a counter, and what the masks of a ceiling say of the others.
use Rattle.std.specs.Prelude.{ℕ, ◌+◌, ◌*◌, ◌-◌, ◌/◌, ◌≤◌, ◌<◌, ◌≡◌, Bool, true, not, ◌&&◌, ◌||◌, List, length, leb, ltb}
use Rattle.model.specs.Limits.{max_ceilings, omega_limit}
use Rattle.model.specs.Index.{count}
use Rattle.model.specs.Ceilings.{allowed, highest}
use Rattle.bits.specs.Bits.{member}
use Rattle.masks.specs.declared.Mask.{Mask}
use Rattle.masks.specs.Masks.{has}
use Rattle.ceilings.specs.Table.{held}
use Rattle.ceilings_masks.specs.declared.Over.{Over}

-- ceiling k is one of so many, and its limit at counter x is `least` or more
unfoldable pub reaches : List ℕ → ℕ → ℕ → ℕ → ℕ → Bool
reaches limits ceilings x least k = ltb k ceilings && leb least (held limits ceilings k x)

-- ceiling k is one of so many, and allows this count at counter x
unfoldable pub allows : List ℕ → ℕ → ℕ → ℕ → ℕ → Bool
allows limits ceilings x n k = ltb k ceilings && allowed (held limits ceilings k x) n

-- t is u with the two sets of number i anew, one behind the other
pub record TwoPut (i : ℕ) (f g : ℕ → Bool) (u t : List ℕ) : Type 0 where
  pub long : length t ≡ length u
  pub first : (k : ℕ) → k < 256 → member t 4 (2 * i) k ≡ f k
  pub second : (k : ℕ) → k < 256 → member t 4 (2 * i + 1) k ≡ g k
  pub others : (y k : ℕ) → k < 256 → (y / 2 ≡ i → ⊥) → member t 4 y k ≡ member u 4 y k

-- t is u with the three sets of number i anew, one behind the other
pub record ThreePut (i : ℕ) (f g h : ℕ → Bool) (u t : List ℕ) : Type 0 where
  pub long : length t ≡ length u
  pub first : (k : ℕ) → k < 256 → member t 4 (3 * i) k ≡ f k
  pub second : (k : ℕ) → k < 256 → member t 4 (3 * i + 1) k ≡ g k
  pub third : (k : ℕ) → k < 256 → member t 4 (3 * i + 2) k ≡ h k
  pub others : (y k : ℕ) → k < 256 → (y / 3 ≡ i → ⊥) → member t 4 y k ≡ member u 4 y k

-- the limits of n counters under so many ceilings, and for each counter three sets, one behind the other: of the
-- ceilings that hold it at all, of those that hold two of it, and of those where it is unbounded
pub record Holders (limits : List ℕ) (ceilings n : ℕ) (holders : List ℕ) : Type 0 where
  pub few : ceilings ≤ max_ceilings
  pub table : n * ceilings ≤ length limits
  pub room : n * 12 ≤ length holders
  pub holder : (x k : ℕ) → x < n → k < 256 → member holders 4 (3 * x) k ≡ reaches limits ceilings x 1 k
  pub holder_of_two : (x k : ℕ) → x < n → k < 256 → member holders 4 (3 * x + 1) k ≡ reaches limits ceilings x 2 k
  pub no_bound :
      (x k : ℕ) → x < n → k < 256 → member holders 4 (3 * x + 2) k ≡ reaches limits ceilings x omega_limit k

-- the highest count of counter x under ceiling k
abbrev pub most : List ℕ → ℕ → ℕ → ℕ → ℕ
most limits ceilings k x = highest (held limits ceilings k) x

-- at counter x the highest count of ceiling k exceeds the limit of ceiling k'
unfoldable pub exceeds : List ℕ → ℕ → ℕ → ℕ → ℕ → Bool
exceeds limits ceilings k k' x = not (allowed (held limits ceilings k' x) (most limits ceilings k x))

-- it exceeds that, but one less does not
unfoldable pub exceeds_by_one : List ℕ → ℕ → ℕ → ℕ → ℕ → Bool
exceeds_by_one limits ceilings k x k' = allows limits ceilings x (most limits ceilings k x - 1) k' &&
    not (allows limits ceilings x (most limits ceilings k x) k')

-- one more than it does not exceed that
unfoldable pub takes_more : List ℕ → ℕ → ℕ → ℕ → ℕ → Bool
takes_more limits ceilings k x k' = allows limits ceilings x (most limits ceilings k x + 1) k'

-- at how many counters below e the highest counts of ceiling k exceed the limits of ceiling k'
abbrev pub exceeded : List ℕ → ℕ → ℕ → ℕ → ℕ → ℕ
exceeded limits ceilings e k k' = count 0 e (exceeds limits ceilings k k')

-- the ceilings that ceiling k exceeds at one, two and three counters below e
pub record Counted (limits : List ℕ) (ceilings e k : ℕ) (over : Over) : Type 0 where
  pub once : (k' : ℕ) → k' < ceilings → has over.once k' ≡ leb 1 (exceeded limits ceilings e k k')
  pub twice : (k' : ℕ) → k' < ceilings → has over.twice k' ≡ leb 2 (exceeded limits ceilings e k k')
  pub thrice : (k' : ℕ) → k' < ceilings → has over.thrice k' ≡ leb 3 (exceeded limits ceilings e k k')

-- each ceiling of the mask holds one more at each counter from `low` up to e with a limit from 1 under ceiling k
unfoldable pub MoreFrom : List ℕ → ℕ → ℕ → ℕ → ℕ → Mask → Type 0
MoreFrom limits ceilings low e k mask =
    (x k' : ℕ) → low ≤ x → x < e → 1 ≤ held limits ceilings k x → k' < 256 → has mask k' ≡ true →
    takes_more limits ceilings k x k' ≡ true

-- the ceilings after counter x are those before it that hold one more at x, where x is a counter from `low` on; else
-- all of them
unfoldable pub MoreAt : ℕ → ℕ → Mask → Mask → Mask → Type 0
MoreAt low x above next r = (k' : ℕ) → has r k' ≡ (has above k' && (ltb x low || has next k'))

-- none but ceilings that hold one more than ceiling k at each counter below e; and at each letter below e: the letters
-- are the counters behind the states
pub record Above (limits : List ℕ) (ceilings states e k : ℕ) (over : Over) : Type 0 where
  pub above : MoreFrom limits ceilings 0 e k over.above
  pub letters : MoreFrom limits ceilings states e k over.letters

-- for each counter below e with a limit from 1 under ceiling k two sets, one behind the other: of the ceilings that it
-- exceeds by one there, and of those that hold one more
pub record Neighbours (limits : List ℕ) (ceilings e k : ℕ) (near : List ℕ) : Type 0 where
  pub by_one :
      (x k' : ℕ) → x < e → 1 ≤ held limits ceilings k x → k' < 256 →
      member near 4 (2 * x) k' ≡ exceeds_by_one limits ceilings k x k'
  pub one_more :
      (x k' : ℕ) → x < e → 1 ≤ held limits ceilings k x → k' < 256 →
      member near 4 (2 * x + 1) k' ≡ takes_more limits ceilings k x k'

-- the tables of one ceiling beside all others
pub record Beside (limits : List ℕ) (ceilings n k : ℕ) (holders : List ℕ) (over : Over) (near : List ℕ) : Type 0 where
  pub ceiling : k < ceilings
  pub held_by : Holders limits ceilings n holders
  pub counted : Counted limits ceilings n k over
  pub room : n * 8 ≤ length near
  pub neighbours : Neighbours limits ceilings n k near
