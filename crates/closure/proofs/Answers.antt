-- The verdict, and the bits of the branches where it is safe.
use Prim.Native.Nat.{ℕ, ◌+◌, ◌≤◌, ◌<◌}
use native.Mathlib.Omega.{arith}
use mathlib.Core.Path.{◌≡◌, refl, sym, ◌∙◌}
use mathlib.Core.Bool.{Bool, true, false}
use mathlib.Core.List.{List}
use mathlib.Core.Option.{some, some-ne-none}
use Rattle.std.proofs.Common.{Result, Ok, Err}
use lib.ListN.{length, get_or}
use borrow.Author.Tests.{eq-eqb, ne_eqb}
use Rattle.model.specs.declared.Sizes.{Sizes}
use Rattle.model.specs.declared.Verdict.{Verdict}
use Rattle.model.specs.declared.Verdict.TheVariants.{Open}
use Rattle.model.specs.Words.{left, right, columns}
use Rattle.model.specs.Message.{tables_offset}
use Rattle.model.specs.Rows.{Program, program, num}
use Rattle.model.specs.Heads.{head_at, cases, receives, branch_rows}
use Rattle.model.specs.Tables.{Tables, entries, tables, state_at}
use Rattle.model.specs.Verdict.{◌>>◌, unless}
use Rattle.model.specs.Closed.{is_opening_closed, open_check}
use Rattle.model.specs.Verify.{outcome}
use Rattle.model.proofs.Outcome.{nothing_found, passes_unless, refuses_unless}
use Rattle.model.proofs.Heads.{head_case, head_receive}
use Rattle.model.proofs.Parse.Heads.{known_kind, known_tag}
use Rattle.positions.specs.Branches.{BranchBits}
use Rattle.codes.specs.Codes.{Codes}
use Rattle.codes.proofs.Kept.{codes_none}
use Rattle.stated.specs.Stated.{BitsOf}
use Rattle.closure.specs.Lent.{Unsettled}
use Rattle.closure.specs.Told.{first_open_of, Told, open_state, states_check}

-- a refusal is not nothing
pub err_not_ok : {A : Type 0} (v : Verdict) → ◌≡◌ {A = Result Unit Verdict} (Err v) (Ok tt) → A
unfolding outcome
err_not_ok v e = absurd (some-ne-none v (nothing_found (some v) (Err v) refl e))

-- the states before the first one that lacks something
pub told_first : {p : Program} {t : Tables} {branches : List ℕ} {i : ℕ} → first_open_of p t ≡ i → Told p t branches i → Told p t branches (first_open_of p t)
told_first e h = rw e h

-- state i is the first that lacks something, or none does
module _ (s : Sizes) (p : Program) (t : Tables) (i : ℕ) (first_is : first_open_of p t ≡ i) where
  pub state_lacks : i < t.states.size → (v : Verdict) → v ≡ open_state s i → Err v ≡ outcome (states_check s p t)
  unfolding states_check
  state_lacks l v e = rw (e, first_is) (refuses_unless _ _ (ne_eqb i t.states.size (λ z. omega arith)))

  pub none_lacks : i ≡ t.states.size → Ok tt ≡ outcome (states_check s p t)
  unfolding states_check
  none_lacks e = rw first_is (passes_unless _ _ (eq-eqb i t.states.size e))

-- an opening entry is missing, or not
module _ (ws : List ℕ) (s : Sizes) (x : Bool) (opened : x ≡ is_opening_closed (program ws s) (tables ws s)) where
  pub opening_missing : (b : ℕ) → b ≡ tables_offset s → x ≡ false → Err (Open b) ≡ outcome (open_check s (program ws s) (tables ws s))
  unfolding open_check unless ◌>>◌ outcome
  opening_missing b base z = rw (← opened, z, ← base)

  pub opening_there : (r : Result Unit Verdict) → x ≡ true → r ≡ outcome (states_check s (program ws s) (tables ws s)) → r ≡ outcome (open_check s (program ws s) (tables ws s))
  unfolding open_check unless ◌>>◌ states_check open_state first_open_of tables entries columns
  opening_there r so said = rw (← opened, so) said

-- nothing is settled yet
pub none-settled : (ws : List ℕ) (s : Sizes) (codes : List ℕ) → Unsettled s codes → Codes (program ws s) (tables ws s) codes
unfolding program columns
none-settled ws s codes h = codes_none codes h.room h.none

module _ {p : Program} {t : Tables} where
  -- where each state has its bits, a case's and a receive's have those of their branches
  case_told : {branches : List ℕ} {i : ℕ} → Told p t branches i → (k n : ℕ) (qs : List ℕ) → k < i → head_at p (right t.states k) ≡ cases n qs → BitsOf p t t.flow n qs (get_or branches k 0)
  unfolding state_at
  case_told h k n qs l e =
      let r = right t.states k in
      let z : cases (num p r) (branch_rows p (num p (r + 1)) (r + 2)) ≡ cases n qs = sym (head_case p r (known_kind p r (cases n qs) e)) ∙ e in
      let name : num p r ≡ n = cc in
      let rows : branch_rows p (num p (r + 1)) (r + 2) ≡ qs = cc in
      rw (name, rows) at ((h.at k l).case_bits (h.low k l) (known_tag p r (cases n qs) e (omega arith)))

  receive-told : {branches : List ℕ} {i : ℕ} → Told p t branches i → (k : ℕ) (qs : List ℕ) → k < i → head_at p (right t.states k) ≡ receives qs → BitsOf p t t.mail (left t.states k) qs (get_or branches k 0)
  unfolding state_at
  receive-told h k qs l e =
      let r = right t.states k in
      let z : receives (branch_rows p (num p r) (r + 1)) ≡ receives qs = sym (head_receive p r (known_kind p r (receives qs) e)) ∙ e in
      let rows : branch_rows p (num p r) (r + 1) ≡ qs = cc in
      rw rows at ((h.at k l).receive_bits (h.low k l) (known_tag p r (receives qs) e (omega arith)))

  pub bits_told : (branches : List ℕ) → t.states.size ≤ length branches → Told p t branches t.states.size → BranchBits p t branches
  bits_told branches room h = record {
    room = room;
    case_bit = λ k n b qs l e. (case_told h k n qs (omega arith) e).bits b;
    case_end = λ k n qs l e. (case_told h k n qs (omega arith) e).end;
    receive_bit = λ k b qs l e. (receive-told h k qs (omega arith) e).bits b;
    receive_end = λ k qs l e. (receive-told h k qs (omega arith) e).end;
  }
