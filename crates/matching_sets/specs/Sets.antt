-- Sets of values that others are put into, and those of patterns as they are filled.
use Rattle.std.specs.Prelude.{ℕ, ◌+◌, ◌*◌, ◌<◌, ◌≡◌, Bool, true, false, ◌&&◌, ◌||◌, List, eqb, length}
use Rattle.model.specs.declared.Sizes.{Sizes}
use Rattle.model.specs.Rows.{Program, program, tag, num}
use Rattle.model.specs.Heads.{is_class_of}
use Rattle.model.specs.Tables.{tables}
use Rattle.layout.specs.Tables.{Ends}
use Rattle.bits.specs.Bits.{member, Row}
use Rattle.lists.specs.Ready.{Ready}
use Rattle.values.specs.Values.{width, Empty, Room, FlowSets}
use Rattle.matching.specs.Patterns.{is_build, Builds, Matches}

-- nothing is in the sets before x
pub record Clear (w x : ℕ) (sets : List ℕ) : Type 0 where
  pub none : (n v : ℕ) → n < x → v < 64 * w → member sets w n v ≡ false

-- t is u, and value v is in set n where b says so
pub record PutIf (w n v : ℕ) (b : Bool) (u t : List ℕ) : Type 0 where
  pub long : length t ≡ length u
  pub members : (n2 v2 : ℕ) → v2 < 64 * w → member t w n2 v2 ≡ (member u w n2 v2 || (b && (eqb n2 n && eqb v2 v)))

-- t is u, and the values that pass are in set n besides
pub record Joined (w n : ℕ) (f : ℕ → Bool) (u t : List ℕ) : Type 0 where
  pub long : length t ≡ length u
  pub members : (n2 v : ℕ) → v < 64 * w → member t w n2 v ≡ (member u w n2 v || (eqb n2 n && f v))

-- set n has with a build row all those of its constructor
pub record Alike (p : Program) (w n : ℕ) (sets : List ℕ) : Type 0 where
  pub alike : (a b : ℕ) → a < 64 * w → b < 64 * w → is_class_of p a ≡ false → tag p a ≡ 2 → member sets w n a ≡ true →
      is_build p (num p (a + 1)) b ≡ true → member sets w n b ≡ true

-- what the sets of patterns are filled from: the checks before refusal 8 found nothing, and the layout, the sets of
-- names and the chains of builds are there
pub record FillReady (ws : List ℕ) (s : Sizes) (afters flow firsts nexts : List ℕ) : Type 0 where
  pub ready : Ready ws s
  pub layout : Ends (program ws s) afters
  pub names : FlowSets (program ws s) (tables ws s) flow
  pub builds : Builds (program ws s) firsts nexts

-- two empty sets for each row
pub record Unfilled (s : Sizes) (may held : List ℕ) : Type 0 where
  pub may_room : Room (width s.rows) s.rows may
  pub held_room : Room (width s.rows) s.rows held
  pub may_empty : Empty (width s.rows) may
  pub held_empty : Empty (width s.rows) held

-- the sets of the patterns from row x on are filled, and nothing is in those before
pub record FilledFrom (ws : List ℕ) (s : Sizes) (may held : List ℕ) (x : ℕ) : Type 0 where
  pub may_room : Room (width s.rows) s.rows may
  pub held_room : Room (width s.rows) s.rows held
  pub may_clear : Clear (width s.rows) x may
  pub held_clear : Clear (width s.rows) x held
  pub patterns : Matches (program ws s) (tables ws s) may held x

-- a held name stands at row q; the sets of names tell its values, and its own set is there, with nothing in it
pub record HeldName (ws : List ℕ) (s : Sizes) (flow may : List ℕ) (q : ℕ) : Type 0 where
  pub names : FlowSets (program ws s) (tables ws s) flow
  pub row : Row may (width s.rows) q
  pub clear : Clear (width s.rows) (q + 1) may
  pub held : tag (program ws s) q ≡ 33
  pub low : q < s.rows

-- the values that may be equal to u can be put into set q, which has all builds of a constructor or none
pub record EqualsRoom (ws : List ℕ) (s : Sizes) (u : ℕ) (sets : List ℕ) (q : ℕ) : Type 0 where
  pub low : u < 64 * width s.rows
  pub row : Row sets (width s.rows) q
  pub alike : Alike (program ws s) (width s.rows) q sets
