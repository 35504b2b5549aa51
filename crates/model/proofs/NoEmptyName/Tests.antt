-- The promise of a process and the test of it (specs/NamesHeld.antt) say the same.
use Prim.Native.Nat.{ℕ, ◌+◌, ◌≤◌, ◌<◌}
use native.Mathlib.Omega.{arith}
use mathlib.Core.Path.{◌≡◌, refl, sym, subst}
use mathlib.Core.Bool.{Bool, true, not, ◌&&◌}
use mathlib.Core.List.Memᴰ
use mathlib.Core.List.{List, [], ◌∷◌, Memᴰ}
use mathlib.Core.Logic.Iff
use mathlib.Core.Logic.{◌↔◌, ⊎_elim}
use lib.Dec.{eqb, ltb}
use borrow.Author.Tests.{not-true}
use Rattle.model.specs.Index.{any}
use Rattle.model.specs.Rows.{Program, size, tag, num, body_form_of, past_items}
use Rattle.model.specs.Scopes.{uses, binds_name}
use Rattle.model.specs.Heads.{head_at, branch_body_of}
use Rattle.model.specs.Values.{Value, closure, built, address, Bindings, empty, bind, value_of, Frame, Process}
use Rattle.model.specs.Transitions.{read_at}
use Rattle.model.specs.NoEmptyName.{HoldsSomething, branches_at, Reads, in_expression, in_pattern, ReadsFromOutside, Keeps, the_function, in_bindings, in_arguments, SomeKeeps, the_newest, an_older, KeptIn, bound, pushed, mailed, NoNameEmpty}
use Rattle.model.specs.NamesHeld.{each_passes, holds_some, pattern_held, reads_held, outside_held, value_held, bindings_held, names_held, NamesHeldExactly}
use Rattle.model.proofs.Logic.{test, true_false, and_left, and_right, and_intro, implies_elim, implies_intro, not_passes}
use Rattle.model.proofs.Index.{all_elim, all_intro, any_none, none_any}
use Rattle.model.proofs.Reader.{by_option}
use Rattle.model.proofs.Exact.Tests.{and_iff, eqb_iff, ltb_iff}
use Rattle.model.proofs.Transitions.Names.{value_exactly}

-- each element of a list
each_iff : {A : Type 0} (f : A → Bool) (P : A → Type 0) → ((a : A) → (f a ≡ true) ↔ P a) → (xs : List A) → (each_passes f xs ≡ true) ↔ ((a : A) → Memᴰ a xs → P a)
unfolding each_passes
each_iff f P e [] = (λ h a m. absurd (Memᴰ.not-nil m), λ h. refl)
each_iff f P e (x ∷ xs) = (
  λ h a m. ⊎_elim (λ (z : a ≡ x). subst P (sym z) ((e x).0 (and_left (f x) _ h))) (λ k. (each_iff f P e xs).0 (and_right (f x) _ h) a k) (Memᴰ.cases_cons m),
  λ h. and_intro (f x) _ ((e x).1 (h x (Memᴰ.head refl))) ((each_iff f P e xs).1 (λ a m. h a (Memᴰ.tail m))),
)

module _ (p : Program) where
  some_iff : (held : Bindings) (n : ℕ) → (holds_some p held n ≡ true) ↔ HoldsSomething p held n
  unfolding holds_some
  some_iff held n = (
    λ h. by_option (value_of p held n) (λ e. true_false h (rw (e, holds_some))) (λ v e. (v, (value_exactly p n held).has v e)),
    λ h. rw ((value_exactly p n held).gives h.0 h.1, holds_some),
  )

  -- the held names of a pattern
  abbrev PatternHeld : Bindings → ℕ → Type 0
  PatternHeld held b = (k : ℕ) → b ≤ k → k < branch_body_of p b → k < size p → tag p k ≡ 33 → HoldsSomething p held (num p k)

  pattern_iff : (held : Bindings) (b : ℕ) → (pattern_held p held b ≡ true) ↔ PatternHeld held b
  unfolding pattern_held
  pattern_iff held b = (
    λ h k lo hi below t. (some_iff held (num p k)).0
        (implies_elim (ltb k (size p) && eqb (tag p k) 33) _ (all_elim b (branch_body_of p b) k _ h lo hi)
        (and_intro (ltb k (size p)) (eqb (tag p k) 33) ((ltb_iff k (size p)).1 below) ((eqb_iff (tag p k) 33).1 t))),
    λ h. all_intro b (branch_body_of p b) _ (λ k lo hi. implies_intro (ltb k (size p) && eqb (tag p k) 33) _
        (λ x. (some_iff held (num p k)).1 (h k lo hi ((ltb_iff k (size p)).0 (and_left (ltb k (size p)) _ x)) ((eqb_iff (tag p k) 33).0 (and_right (ltb k (size p)) _ x))))),
  )

  reads_iff : (held : Bindings) (r : ℕ) → (reads_held p held r ≡ true) ↔ ((n : ℕ) → Reads p r n → HoldsSomething p held n)
  unfolding reads_held
  reads_iff held r =
      Iff.trans
      (and_iff _ _ (each_iff (holds_some p held) (HoldsSomething p held) (some_iff held) (read_at (head_at p r)))
      (each_iff (pattern_held p held) (PatternHeld held) (pattern_iff held) (branches_at (head_at p r)))) (
        λ h n x. read h n x,
        λ h. (λ n m. h n (in_expression m), λ b m k lo hi below t. h (num p k) (in_pattern m lo hi (record { below = below; tagged = t; numbered = refl }))),
      )
    where
      read : ((n : ℕ) → Memᴰ n (read_at (head_at p r)) → HoldsSomething p held n) × ((b : ℕ) → Memᴰ b (branches_at (head_at p r)) → PatternHeld held b) → (n : ℕ) → Reads p r n → HoldsSomething p held n
      read h n (in_expression m) = h.0 n m
      read h n (in_pattern {b = b} {k = k} m lo hi row) = subst (HoldsSomething p held) row.numbered (h.1 b m k lo hi row.below row.tagged)

  -- what a function reads from outside
  module _ (f : ℕ) where
    abbrev end : ℕ
    end = past_items p body_form_of (f + 1)

    abbrev outside : ℕ → Bool
    outside k = uses (tag p k) && not (any (f + 1) end (binds_name p (num p k)))

    outside_has : (n : ℕ) (o : ReadsFromOutside p f n) → outside o.row ≡ true
    outside_has n o =
        and_intro (uses (tag p o.row)) _ o.reads (not_passes _ (none_any (f + 1) end (binds_name p (num p o.row))
        (λ b lo hi. test (binds_name p (num p o.row) b) (λ t. absurd (o.unbound b (omega arith) hi (subst (λ m. binds_name p m b ≡ true) o.named t))) (λ t. t))))

    outside_gives : (k : ℕ) → f < k → k < end → outside k ≡ true → ReadsFromOutside p f (num p k)
    outside_gives k lo hi h =
        record {
          row = k;
          from = lo;
          upto = hi;
          reads = and_left (uses (tag p k)) _ h;
          named = refl;
          unbound = λ b l u t. true_false t (any_none (f + 1) end b (binds_name p (num p k)) (not-true _ (and_right (uses (tag p k)) _ h)) (omega arith) u);
        }

    outside_iff : (kept : Bindings) → (outside_held p f kept ≡ true) ↔ ((n : ℕ) → ReadsFromOutside p f n → HoldsSomething p kept n)
    unfolding outside_held
    outside_iff kept = (
      λ h n o. let lo = o.from in
          subst (HoldsSomething p kept) o.named ((some_iff kept (num p o.row)).0
          (implies_elim (outside o.row) _ (all_elim (f + 1) end o.row _ h (omega arith) o.upto) (outside_has n o))),
      λ h. all_intro (f + 1) end _ (λ k lo hi. implies_intro (outside k) _ (λ x. (some_iff kept (num p k)).1 (h (num p k) (outside_gives k (omega arith) hi x)))),
    )

  -- every function in a value, and in bindings
  abbrev ValueHeld : Value → Type 0
  ValueHeld v = (f : ℕ) (kept : Bindings) → Keeps f kept v → (n : ℕ) → ReadsFromOutside p f n → HoldsSomething p kept n

  abbrev BindingsHeld : Bindings → Type 0
  BindingsHeld held = (f : ℕ) (kept : Bindings) → SomeKeeps f kept held → (n : ℕ) → ReadsFromOutside p f n → HoldsSomething p kept n

  function_held : (g : ℕ) (held : Bindings) → ((n : ℕ) → ReadsFromOutside p g n → HoldsSomething p held n) → BindingsHeld held → ValueHeld (closure g held)
  function_held g held h k f kept the_function = h
  function_held g held h k f kept (in_bindings x) = k f kept x

  built_held : (r c : ℕ) (vs : Bindings) → BindingsHeld vs → ValueHeld (built r c vs)
  built_held r c vs h f kept (in_arguments x) = h f kept x

  address_held : (i : ℕ) → ValueHeld (address i)
  address_held i f kept x = elim x [ ]

  bound_held : (n : ℕ) (v : Value) (held : Bindings) → ValueHeld v → BindingsHeld held → BindingsHeld (bind n v held)
  bound_held n v held h k f kept (the_newest x) = h f kept x
  bound_held n v held h k f kept (an_older x) = k f kept x

  none_held : BindingsHeld empty
  none_held f kept x = elim x [ ]

  mutual
    unfolding value_held bindings_held

    value_iff : (v : Value) → (value_held p v ≡ true) ↔ ValueHeld v
    value_iff (closure g held) =
        Iff.trans (and_iff _ _ (outside_iff g held) (bindings_iff held))
        (λ h. function_held g held h.0 h.1, λ h. (h g held the_function, λ f kept x. h f kept (in_bindings x)))
    value_iff (built r c vs) = Iff.trans (bindings_iff vs) (built_held r c vs, λ h f kept x. h f kept (in_arguments x))
    value_iff (address i) = (λ h. address_held i, λ h. refl)

    bindings_iff : (held : Bindings) → (bindings_held p held ≡ true) ↔ BindingsHeld held
    bindings_iff empty = (λ h. none_held, λ h. refl)
    bindings_iff (bind n v held) =
        Iff.trans (and_iff _ _ (value_iff v) (bindings_iff held))
        (λ h. bound_held n v held h.0 h.1, λ h. (λ f kept x. h f kept (the_newest x), λ f kept x. h f kept (an_older x)))

  process_iff : (q : Process) → (names_held p q ≡ true) ↔ NoNameEmpty p q
  unfolding names_held
  process_iff q =
      Iff.trans
      (and_iff _ _ (reads_iff q.held q.location)
      (and_iff _ _ (bindings_iff q.held)
      (and_iff _ _ (each_iff (λ (f : Frame). bindings_held p f.held) (λ f. BindingsHeld f.held) (λ f. bindings_iff f.held) q.frames) (each_iff (value_held p) ValueHeld value_iff q.mailbox)))) (
        λ h. record { next_act = h.0; functions = kept_held h.1.0 h.1.1.0 h.1.1.1 },
        λ h. (h.next_act, (λ f kept x. h.functions f kept (bound x), (λ frame m f kept x. h.functions f kept (pushed m x), λ v m f kept x. h.functions f kept (mailed m x)))),
      )
    where
      kept_held : BindingsHeld q.held → ((f : Frame) → Memᴰ f q.frames → BindingsHeld f.held) → ((v : Value) → Memᴰ v q.mailbox → ValueHeld v) → (f : ℕ) (kept : Bindings) → KeptIn q f kept → (n : ℕ) → ReadsFromOutside p f n → HoldsSomething p kept n
      kept_held a b c f kept (bound x) = a f kept x
      kept_held a b c f kept (pushed {frame = frame} m x) = b frame m f kept x
      kept_held a b c f kept (mailed {v = v} m x) = c v m f kept x

pub names_held_exactly : NamesHeldExactly
names_held_exactly = process_iff
