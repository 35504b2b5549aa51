-- Which branches of a case or receive may match, as bits: filled with refusal 8, read by the rules.
use Rattle.std.specs.Prelude.{ℕ, ◌^◌, ◌≤◌, ◌<◌, ◌≡◌, List, length, get_or}
use Rattle.bits.specs.Bits.{bit}
use Rattle.model.specs.Words.{left, right}
use Rattle.model.specs.Rows.{Program}
use Rattle.model.specs.Heads.{head_at, cases, receives}
use Rattle.model.specs.Tables.{Tables, some_of}
use Rattle.model.specs.Closed.{may_take}

-- Word i is of state i. Where it is at a case, bit b says whether branch b may match some value of the case's name; at
-- a receive, some value of its class's mail. No bit is set from the number of branches on.
pub record BranchBits (p : Program) (t : Tables) (branches : List ℕ) : Type 0 where
  pub room : t.states.size ≤ length branches
  pub case_bit :
      (i n b : ℕ) (qs : List ℕ) → i < t.states.size → head_at p (right t.states i) ≡ cases n qs → b < length qs →
      bit (get_or branches i 0) b ≡ some_of t.flow n (may_take p t (get_or qs b 0))
  pub case_end : (i n : ℕ) (qs : List ℕ) → i < t.states.size → head_at p (right t.states i) ≡ cases n qs →
      get_or branches i 0 < 2 ^ length qs
  pub receive_bit :
      (i b : ℕ) (qs : List ℕ) → i < t.states.size → head_at p (right t.states i) ≡ receives qs → b < length qs →
      bit (get_or branches i 0) b ≡ some_of t.mail (left t.states i) (may_take p t (get_or qs b 0))
  pub receive_end : (i : ℕ) (qs : List ℕ) → i < t.states.size → head_at p (right t.states i) ≡ receives qs →
      get_or branches i 0 < 2 ^ length qs
