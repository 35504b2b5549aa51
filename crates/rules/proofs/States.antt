-- What is so of the states of a message that is ready: their numbers, classes, heads and returns.
use Prim.Native.Nat.{ℕ, ◌≤◌, ◌<◌}
use native.Mathlib.Omega.{arith}
use mathlib.Core.Path.{◌≡◌, ◌∙◌}
use mathlib.Core.Bool.{true}
use mathlib.Core.List.{List}
use mathlib.Core.Logic.{⊎_elim}
use lib.ListN.{get_or}
use Rattle.model.specs.declared.Sizes.{Sizes}
use Rattle.model.specs.Words.{left, right, columns}
use Rattle.model.specs.Rows.{Program, program, tag, is_head_of}
use Rattle.model.specs.Tables.{Tables, tables, entries, State, state_index_of}
use Rattle.model.proofs.Index.{first_is}
use Rattle.model.proofs.Numbering.Counters.{tag_inside}
use Rattle.system_letters.proofs.Tables.{class_at_most}
use Rattle.model.proofs.Parse.Locations.{head_range}
use Rattle.model.proofs.Parse.Lengths.{row_within}
use Rattle.lists.specs.Ready.{Ready}
use Rattle.lists.proofs.Facts.{columns_whole, states_form}

module _ {ws : List ℕ} {s : Sizes} (h : Ready ws s) where
  abbrev p : Program
  p = program ws s

  abbrev t : Tables
  t = tables ws s

  -- the number of a state
  index_most : (x : State) → state_index_of t x ≤ s.states
  unfolding state_index_of tables entries columns
  index_most x = (first_is 0 s.states _ (omega arith)).upto

  pub index_small : (k : ℕ) (x : State) → k ≡ state_index_of t x → k < 65536
  index_small k x e = omega (arith, index_most x, h.limits.states)

  pub class_low : (j : ℕ) → j < s.states → left t.states j ≤ s.rows
  unfolding tables entries columns program
  class_low j l = class_at_most p (λ r u. tag_inside ws s r (omega arith)) (left t.states j) ((states_form h).in_range j l).class

  pub state_head : (j : ℕ) → j < s.states → is_head_of (tag p (right t.states j)) ≡ true
  unfolding tables entries columns
  state_head j l = ((states_form h).in_range j l).head

  pub location_low : (j : ℕ) → j < s.states → right t.states j < s.rows
  unfolding program columns
  location_low j l = row_within (columns_whole h) (right t.states j) (head_range (tag p (right t.states j)) (state_head j l)).0

  -- a state that returns to anything returns to a call
  pub return_call : (j b : ℕ) → j < s.states → b ≡ get_or t.returns j 0 → (b ≡ s.rows → ⊥) → tag p b ≡ 4
  unfolding tables entries columns program
  return_call j b l e n = rw e (⊎_elim (λ z. z) (λ z. absurd (n (e ∙ z))) ((states_form h).in_range j l).return)
