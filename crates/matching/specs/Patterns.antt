-- The codes of patterns of any depth; for each constructor pattern the set of values that it may match, and of those
-- that find its names' values there; for each held name the set of values that it may match.
use Rattle.std.specs.Prelude.{ℕ, ◌+◌, ◌*◌, ◌-◌, ◌≤◌, ◌<◌, ◌≡◌, Bool, true, false, ◌&&◌, List, [], ◌∷◌, ◌⊎◌, eqb, length, get_or}
use Rattle.model.specs.Index.{implies, first}
use Rattle.model.specs.declared.Sizes.{Sizes}
use Rattle.model.specs.Words.{Columns}
use Rattle.model.specs.Reader.{past, read}
use Rattle.model.specs.Rows.{Program, program, size, tag, num, pattern, step}
use Rattle.model.specs.Tables.{Tables, tables, each, some_of}
use Rattle.model.specs.Closed.{is_same_constructor, may_equal, may_match, names_hold}
use Rattle.layout.specs.Tables.{Ends}
use Rattle.bits.specs.Bits.{member, Row}
use Rattle.lists.specs.Ready.{Ready}
use Rattle.values.specs.Values.{width, Values, FlowSets}

-- 0: may not match; 1: may match, and the names hold what they are to; 2: may match, and some name does not
unfoldable pub code : Bool → Bool → ℕ
code false held = 0
code true true = 1
code true false = 2

-- of the pattern at row q, which may be d levels deep, and one value
unfoldable pub pattern_code : Program → Tables → ℕ → ℕ → ℕ → ℕ
pattern_code p t d q v = code (may_match p t d q v) (names_hold p t d q v)

-- ... and all values that the list pairs with a
unfoldable pub values_code : Program → Tables → Columns → ℕ → ℕ → ℕ → ℕ
values_code p t c a d q =
    code (some_of c a (may_match p t d q)) (each c a (λ v. implies (may_match p t d q v) (names_hold p t d q v)))

-- a pattern of at most d levels stands at row q
pub record Pattern (p : Program) (d q : ℕ) : Type 0 where
  pub end : ℕ
  pub reads : read (step p) p.rows (size p - q) (pattern d ∷ []) q ≡ past end

-- a pattern stands there
pub record Standing (p : Program) (q : ℕ) : Type 0 where
  pub depth : ℕ
  pub stands : Pattern p depth q

-- c is the code of the pattern at row q with the value v, however deep it may be
pub record IsCode (p : Program) (t : Tables) (q v c : ℕ) : Type 0 where
  pub at_depth : (d : ℕ) → Pattern p d q → c ≡ pattern_code p t d q v

-- c is the code of the pattern at row q with the values of set k, whatever list they are of
pub record IsValuesCode (p : Program) (t : Tables) (sets : List ℕ) (k q c : ℕ) : Type 0 where
  pub of_list :
      (l : Columns) (a d : ℕ) → Values l a (width (size p)) k sets → Pattern p d q → c ≡ values_code p t l a d q

-- row v builds a value of the constructor k
unfoldable pub is_build : Program → ℕ → ℕ → Bool
is_build p k v = eqb (tag p v) 2 && eqb (num p (v + 1)) k

-- The rows that build values of a constructor, as a chain: the first of each constructor, and the next behind each; R
-- where there is none.
pub record Builds (p : Program) (firsts nexts : List ℕ) : Type 0 where
  pub first_room : p.constructors ≤ length firsts
  pub next_room : size p ≤ length nexts
  pub first_build : (k : ℕ) → k < p.constructors → get_or firsts k 0 ≡ first 0 (size p) (is_build p k)
  pub next_build :
      (v : ℕ) → v < size p → tag p v ≡ 2 → get_or nexts v 0 ≡ first (v + 1) (size p) (is_build p (num p (v + 1)))

-- where the pattern at row q is a constructor's or a held name, set q of `may` has the values that it may match; where
-- it is a constructor's, set q of `held` has those of them whose parts its names hold. (A held name binds nothing.)
pub record Matched (p : Program) (t : Tables) (may held : List ℕ) (q : ℕ) : Type 0 where
  pub may_row : Row may (width (size p)) q
  pub held_row : Row held (width (size p)) q
  pub may_set : (d v : ℕ) → (tag p q ≡ 31) ⊎ (tag p q ≡ 33) → Pattern p d q → v < 64 * width (size p) →
      member may (width (size p)) q v ≡ may_match p t d q v
  pub held_set : (d v : ℕ) → tag p q ≡ 31 → Pattern p d q → v < 64 * width (size p) →
      member held (width (size p)) q v ≡ (may_match p t d q v && names_hold p t d q v)

-- ... of each row from x on
pub record Matches (p : Program) (t : Tables) (may held : List ℕ) (x : ℕ) : Type 0 where
  pub at : (q : ℕ) → x ≤ q → q < size p → Matched p t may held q

-- what a pattern at or behind row x is compared by: the checks before refusal 8 found nothing, and the layout, the sets
-- of names and those of the patterns from there on are filled
pub record MatchReady (ws : List ℕ) (s : Sizes) (afters flow may held : List ℕ) (x : ℕ) : Type 0 where
  pub ready : Ready ws s
  pub layout : Ends (program ws s) afters
  pub names : FlowSets (program ws s) (tables ws s) flow
  pub patterns : Matches (program ws s) (tables ws s) may held x

-- the builds of each constructor are found one after the other, in a message that the checks before refusal 8 let pass
pub record BuildReady (ws : List ℕ) (s : Sizes) (firsts nexts : List ℕ) : Type 0 where
  pub ready : Ready ws s
  pub builds : Builds (program ws s) firsts nexts

-- the values of set k may be asked of the pattern at row q: both are there
pub record PatternAsked (ws : List ℕ) (s : Sizes) (sets : List ℕ) (k q : ℕ) : Type 0 where
  pub row : Row sets (width s.rows) k
  pub stands : Standing (program ws s) q

-- a constructor pattern stands at row q, and v is a value of its constructor
pub record SameMade (p : Program) (q v : ℕ) : Type 0 where
  pub stands : Standing p q
  pub made : tag p q ≡ 31
  pub same : is_same_constructor p q v ≡ true

-- Document 02, (iii): the value v may match the held name n
unfoldable pub does_equal_some : Program → Tables → ℕ → ℕ → Bool
does_equal_some p t n v = some_of t.flow n (may_equal p v)
