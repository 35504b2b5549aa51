-- The values of names and of classes as sets of bits, and where each name's entries begin.
use Rattle.std.specs.Prelude.{ℕ, ◌+◌, ◌*◌, ◌/◌, ◌<◌, ◌≡◌, true, false, List, eqb}
use Rattle.model.specs.declared.Sizes.{Sizes}
use Rattle.model.specs.Words.{Columns, right}
use Rattle.model.specs.Rows.{Program, program, size, num}
use Rattle.model.specs.Heads.{is_class_of}
use Rattle.model.specs.Tables.{Tables, tables, has}
use Rattle.bits.specs.Bits.{member, Row}
use Rattle.lists.specs.Ready.{Ready}

-- how many words a set has, where there are r rows: a bit for each row, and one for the class of the start
unfoldable pub width : ℕ → ℕ
width r = r / 64 + 1

-- the number of the set of a class: that of the name that its spawn row binds, which no other row binds; the one
-- behind all names for the start
unfoldable pub mail_set_of : Program → ℕ → ℕ
mail_set_of p c = elim (eqb c (size p)) [ true ↦ p.names | false ↦ num p c ]

-- nothing is in any set
pub record Empty (w : ℕ) (sets : List ℕ) : Type 0 where
  pub none : (n v : ℕ) → member sets w n v ≡ false

-- k sets of w words stand in the table
pub record Room (w k : ℕ) (sets : List ℕ) : Type 0 where
  pub row : (n : ℕ) → n < k → Row sets w n

-- set k has the values that the list pairs with a
pub record Values (c : Columns) (a w k : ℕ) (sets : List ℕ) : Type 0 where
  pub row : Row sets w k
  pub below : (i : ℕ) → i < c.size → right c i < 64 * w
  pub holds : (v : ℕ) → v < 64 * w → member sets w k v ≡ has c a v

-- set n has the values of the name n
pub record FlowSets (p : Program) (t : Tables) (flow : List ℕ) : Type 0 where
  pub of_name : (n : ℕ) → n < p.names → Values t.flow n (width (size p)) n flow

-- the set of a class has its mail
pub record MailSets (p : Program) (t : Tables) (mail : List ℕ) : Type 0 where
  pub of_class : (c : ℕ) → is_class_of p c ≡ true → Values t.mail c (width (size p)) (mail_set_of p c) mail

-- what a question about the values of names stands on: the checks before refusal 8 found nothing, and the sets of names
-- are filled
pub record FlowReady (ws : List ℕ) (s : Sizes) (flow : List ℕ) : Type 0 where
  pub ready : Ready ws s
  pub names : FlowSets (program ws s) (tables ws s) flow
