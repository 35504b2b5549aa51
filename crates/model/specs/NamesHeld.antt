-- Document 02, (xi): the promise of NoEmptyName.antt as a test of a process.
use Rattle.std.specs.Prelude.{ℕ, ◌+◌, ◌↔◌, ◌≡◌, Bool, true, false, not, ◌&&◌, List, [], ◌∷◌, eqb, ltb}
use Rattle.std.proofs.Math.Option.{some, none}
use Rattle.model.specs.Tags.{tag_pattern_held}
use Rattle.model.specs.Index.{implies, any, all}
use Rattle.model.specs.Rows.{Program, size, tag, num, body_form_of, past_items}
use Rattle.model.specs.Scopes.{uses, binds_name}
use Rattle.model.specs.Heads.{head_at, branch_body_of}
use Rattle.model.specs.Values.{Value, closure, built, address, Bindings, empty, bind, value_of, Process}
use Rattle.model.specs.Transitions.{read_at}
use Rattle.model.specs.NoEmptyName.{branches_at, NoNameEmpty}

-- each element passes
unfoldable pub each_passes : {A : Type 0} → (A → Bool) → List A → Bool
each_passes f [] = true
each_passes f (x ∷ xs) = f x && each_passes f xs

-- the name holds something
unfoldable pub holds_some : Program → Bindings → ℕ → Bool
holds_some p held n = elim (value_of p held n) [ none ↦ false | some v ↦ true ]

-- each held name of the pattern at row b does
unfoldable pub pattern_held : Program → Bindings → ℕ → Bool
pattern_held p held b =
    all b (branch_body_of p b)
    (λ k. implies (ltb k (size p) && eqb (tag p k) tag_pattern_held) (holds_some p held (num p k)))

-- each name that a process at row r reads does
unfoldable pub reads_held : Program → Bindings → ℕ → Bool
reads_held p held r =
    each_passes (holds_some p held) (read_at (head_at p r)) &&
    each_passes (pattern_held p held) (branches_at (head_at p r))

-- each name that the function at row f reads from outside does
unfoldable pub outside_held : Program → ℕ → Bindings → Bool
outside_held p f kept =
    let end : ℕ = past_items p body_form_of (f + 1) in
    all (f + 1) end
    (λ k. implies (uses (tag p k) && not (any (f + 1) end (binds_name p (num p k)))) (holds_some p kept (num p k)))

-- so it is of every function in a value, and in bindings
unfoldable mutual
  pub value_held : Program → Value → Bool
  value_held p (closure f kept) = outside_held p f kept && bindings_held p kept
  value_held p (built r k vs) = bindings_held p vs
  value_held p (address i) = true

  pub bindings_held : Program → Bindings → Bool
  bindings_held p empty = true
  bindings_held p (bind n v held) = value_held p v && bindings_held p held

-- of a process
unfoldable pub names_held : Program → Process → Bool
names_held p q =
    reads_held p q.held q.location &&
    (bindings_held p q.held &&
    (each_passes (λ f. bindings_held p f.held) q.frames && each_passes (value_held p) q.mailbox))

-- The test passes exactly where the promise holds.
abbrev pub NamesHeldExactly : Type 0
NamesHeldExactly = (p : Program) (q : Process) → (names_held p q ≡ true) ↔ NoNameEmpty p q
