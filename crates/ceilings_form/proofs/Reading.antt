-- One pass over entries of ceilings or of lines: the first wrong entry from entry e on, by the least counter number allowed and the closing entries that are
-- left.
use Prim.Native.Nat.{ℕ, zero, suc, ◌+◌, ◌-◌, ◌^◌, ◌≤◌, ◌<◌, zero-le}
use native.Mathlib.Omega.{arith}
use mathlib.Core.Path.{◌≡◌, refl, sym, ◌∙◌, ap}
use mathlib.Core.Bool.{Bool, true, false, ◌&&◌}
use mathlib.Core.List.{List, [], ◌∷◌}
use mathlib.Core.Option.{Option, some, none}
use lib.Dec.{leb, ltb}
use borrow.Author.Tests.{eq-eqb, ne_eqb, le-leb, lt-leb, lt-ltb, le-ltb, leb-true, ltb-true}
use Rattle.model.specs.Limits.{present}
use Rattle.model.specs.declared.Sizes.{Sizes}
use Rattle.model.specs.Words.{Columns, left, right}
use Rattle.model.specs.Message.{ceilings_offset}
use Rattle.model.specs.Reader.{Read, fits, read, complete, first_wrong_of}
use Rattle.model.specs.Ceilings.{Ahead, from_counter, ceiling_step, ceilings_ahead}
use Rattle.model.specs.Demands.{WithinLimits}
use Rattle.model.proofs.Logic.{test, true_false, and_left, and_right}
use Rattle.model.proofs.Reader.{read_none, read_end, read_stop, read_go, none_complete, some_complete}
use Rattle.std.proofs.Common.{Some, None}
use Rattle.ceilings_form.specs.Parts.{told}
use Rattle.model.specs.Weights.{bound_step}
use Rattle.ceilings_form.specs.Bounds.{is_in_bound}

without_last : (a b c d : Bool) → d ≡ true → (a && (b && (c && d))) ≡ false → (a && (b && c)) ≡ false
without_last false b c d t h = refl
without_last true false c d t h = refl
without_last true true false d t h = refl
without_last true true true d t h = true_false t h

module _ (n most least x number : ℕ) where
  -- the test by its parts, one after the other
  pub in_bound_most : least ≤ x → x < n → 1 ≤ number → leb number most ≡ is_in_bound n most least x number
  unfolding is_in_bound
  in_bound_most a b o = rw (le-leb least x a, lt-ltb x n b, le-leb 1 number o)

  pub in_bound_number : least ≤ x → x < n → number < 1 → leb 1 number ≡ is_in_bound n most least x number
  unfolding is_in_bound
  in_bound_number a b o = rw (le-leb least x a, lt-ltb x n b, lt-leb 1 number o)

  pub in_bound_counter : least ≤ x → n ≤ x → ltb x n ≡ is_in_bound n most least x number
  unfolding is_in_bound
  in_bound_counter a b = rw (le-leb least x a, le-ltb x n b)

  pub in_bound_least : x < least → leb least x ≡ is_in_bound n most least x number
  unfolding is_in_bound
  in_bound_least a = rw (lt-leb least x a)

  pub in_bound_below : is_in_bound n most least x number ≡ true → (least ≤ x) × (x < n) × (1 ≤ number) × (number ≤ most)
  unfolding is_in_bound
  in_bound_below h =
      let rest = and_right (leb least x) _ h in
      let last = and_right (ltb x n) _ rest in
      (leb-true _ _ (and_left (leb least x) _ h), ltb-true _ _ (and_left (ltb x n) _ rest), leb-true _ _ (and_left (leb 1 number) _ last), leb-true _ _ (and_right (leb 1 number) _ last))

  -- what an entry says: it closes, or goes on, or is wrong
  pub entry_closes : x ≡ n → number ≡ 0 → bound_step n most (from_counter least) x number ≡ some []
  unfolding bound_step ceiling_step fits
  entry_closes e z = rw (le-leb number most (omega (arith, z)), bound_step) (rw (eq-eqb x n e, ceiling_step) (rw (eq-eqb number 0 z)))

  pub entry_open : x ≡ n → (number ≡ 0 → ⊥) → bound_step n most (from_counter least) x number ≡ none
  unfolding bound_step ceiling_step fits
  entry_open e z = test (leb number most) (λ t. rw (t, bound_step) (rw (eq-eqb x n e, ceiling_step) (rw (ne_eqb number 0 z)))) (λ f. rw (f, bound_step))

  pub entry_fits : (x ≡ n → ⊥) → is_in_bound n most least x number ≡ true → bound_step n most (from_counter least) x number ≡ some (from_counter (x + 1) ∷ [])
  unfolding bound_step ceiling_step fits
  entry_fits e h =
      let (a, b, c, d) = in_bound_below h in
      rw (le-leb number most d, bound_step) (rw (ne_eqb x n e, ceiling_step) (rw (le-leb least x a, lt-ltb x n b, le-leb 1 number c)))

  pub entry_wrong : (x ≡ n → ⊥) → is_in_bound n most least x number ≡ false → bound_step n most (from_counter least) x number ≡ none
  unfolding bound_step ceiling_step fits is_in_bound
  entry_wrong e h =
      test (leb number most)
      (λ t. rw (t, bound_step) (rw (ne_eqb x n e, ceiling_step) (rw (without_last (leb least x) (ltb x n) (leb 1 number) (leb number most) t h))))
      (λ f. rw (f, bound_step))

-- what is to come: what stands open, and those behind it
stack : ℕ → ℕ → List Ahead
stack zero least = []
stack (suc count) least = from_counter least ∷ ceilings_ahead count

whole_stack : (k : ℕ) → stack k 0 ≡ ceilings_ahead k
unfolding stack
whole_stack zero = refl
whole_stack (suc k) = refl

-- the part of ceilings stands low among the numbers
pub begins_low : (s : Sizes) → WithinLimits present s → ceilings_offset s + 2 + s.entries < 2 ^ 32
unfolding ceilings_offset
begins_low s h = omega arith

pub fewer_left : (n i : ℕ) → i < n → n - (i + 1) < n - i
fewer_left n i h = omega arith

sub_none : (k : ℕ) → k ≡ k - 0
sub_none k = omega arith

module _ (n most : ℕ) (entries : Columns) where
  abbrev size : ℕ
  size = entries.size

  turn : (e : ℕ) → e < size → size - e ≡ suc (size - (e + 1))
  turn e h = omega arith

  reading : ℕ → List Ahead → ℕ → Read
  reading e items rows = read (bound_step n most) entries rows items e

  -- the first wrong entry from entry e on
  pub wrong_from : ℕ → ℕ → ℕ → Option ℕ
  wrong_from e least count = complete size (reading e (stack count least) (size - e))

  pub wrong_whole : (count : ℕ) → wrong_from 0 0 count ≡ first_wrong_of (bound_step n most) entries (ceilings_ahead count)
  unfolding wrong_from reading first_wrong_of
  wrong_whole count =
      let z : size - 0 ≡ size = omega arith in
      rw (whole_stack count, z)

  -- an entry after the last that closes
  wrong_behind : (e least count : ℕ) → e < size → count ≡ 0 → wrong_from e least count ≡ some e
  unfolding wrong_from reading stack
  wrong_behind e least count h z = rw (z, stack) (ap (complete size) (read_none (bound_step n most) entries (size - e) e) ∙ some_complete size e h)

  wrong_none : (e least count : ℕ) → e ≡ size → count ≡ 0 → wrong_from e least count ≡ none
  unfolding wrong_from reading stack
  wrong_none e least count z c = rw (c, stack) (ap (complete size) (read_none (bound_step n most) entries (size - e) e) ∙ rw z (none_complete size))

  module _ (e least count : ℕ) where
    -- what is open says to entry e
    abbrev said : Option (List Ahead)
    said = bound_step n most (from_counter least) (left entries e) (right entries e)

    wrong_here : e < size → said ≡ none → wrong_from e least (suc count) ≡ some e
    unfolding wrong_from reading stack complete
    wrong_here h z = rw (turn e h) (ap (complete size) (read_stop (bound_step n most) entries _ e (from_counter least) (ceilings_ahead count) z))

    wrong_closed : e < size → said ≡ some [] → wrong_from e least (suc count) ≡ wrong_from (e + 1) 0 count
    unfolding wrong_from reading stack
    wrong_closed h z =
        rw (turn e h) (ap (complete size) (read_go (bound_step n most) entries _ e (from_counter least) (ceilings_ahead count) [] z ∙ rw (whole_stack count)))

    wrong_next : (x : ℕ) → e < size → said ≡ some (from_counter x ∷ []) → wrong_from e least (suc count) ≡ wrong_from (e + 1) x (suc count)
    unfolding wrong_from reading stack
    wrong_next x h z = rw (turn e h) (ap (complete size) (read_go (bound_step n most) entries _ e (from_counter least) (ceilings_ahead count) _ z))

    -- entries that end early
    wrong_early : e ≡ size → wrong_from e least (suc count) ≡ some e
    unfolding wrong_from reading stack complete
    wrong_early z =
        let t : size - e ≡ zero = omega arith in
        rw t (ap (complete size) (read_end (bound_step n most) entries (from_counter least) (ceilings_ahead count) e))

-- the pass as the code makes it, with its values: `closed` entries of the `count` wanted close before entry e
module _ (n most : ℕ) (entries : Columns) (count : ℕ) where
  abbrev whole : Option ℕ
  whole = first_wrong_of (bound_step n most) entries (ceilings_ahead count)

  abbrev pub so_far : ℕ → ℕ → ℕ → Type 0
  so_far e least closed = (whole ≡ wrong_from n most entries e least (count - closed)) × (closed ≤ count) × (e ≤ entries.size)

  pub at_first : so_far 0 0 0
  at_first = (sym (wrong_whole n most entries count) ∙ ap (wrong_from n most entries 0 0) (sub_none count), zero-le, zero-le)

  module _ (e least closed : ℕ) (h : so_far e least closed) where
    pub passed_all : entries.size ≤ e → count ≤ closed → told None ≡ whole
    unfolding told
    passed_all a b = sym (h.0 ∙ wrong_none n most entries e least _ (omega (arith, a, h.2)) (omega (arith, b)))

    pub refused_behind : e < entries.size → closed ≡ count → told (Some e) ≡ whole
    unfolding told
    refused_behind a b = sym (h.0 ∙ wrong_behind n most entries e least _ a (omega (arith, b)))

    one_more : closed < count → count - closed ≡ suc (count - (closed + 1))
    one_more b = omega arith

    pub refused_early : entries.size ≤ e → closed < count → told (Some entries.size) ≡ whole
    unfolding told
    refused_early a b =
        let z : e ≡ entries.size = omega (arith, a, h.2) in
        sym (h.0 ∙ rw (one_more b) (wrong_early n most entries e least (count - (closed + 1)) z ∙ ap some z))

    module _ (more : closed ≡ count → ⊥) (inside : e < entries.size) (x number : ℕ) (counter : x ≡ left entries e) (value : number ≡ right entries e) where
      still : closed < count
      still = omega (arith, more, h.1)

      -- what entry e says, as the code reads it
      says : (o : Option (List Ahead)) → bound_step n most (from_counter least) x number ≡ o → said n most entries e least (count - (closed + 1)) ≡ o
      says o g = rw (counter, value) at g

      refused_here : bound_step n most (from_counter least) x number ≡ none → told (Some e) ≡ whole
      unfolding told
      refused_here g = sym (h.0 ∙ rw (one_more still) (wrong_here n most entries e least (count - (closed + 1)) inside (says none g)))

      pub refused_open : x ≡ n → (number ≡ 0 → ⊥) → told (Some e) ≡ whole
      refused_open a b = refused_here (entry_open n most least x number a b)

      pub refused_wrong : (x ≡ n → ⊥) → is_in_bound n most least x number ≡ false → told (Some e) ≡ whole
      refused_wrong a b = refused_here (entry_wrong n most least x number a b)

      pub closed_so_far : x ≡ n → number ≡ 0 → (least' closed' : ℕ) → least' ≡ 0 → closed' ≡ closed + 1 → so_far (e + 1) least' closed'
      closed_so_far a b least' closed' p q =
          rw (p, q)
          (h.0 ∙ (ap (wrong_from n most entries e least) (one_more still) ∙ wrong_closed n most entries e least (count - (closed + 1)) inside (says _ (entry_closes n most least x number a b))), omega (arith, still), omega (arith, inside))

      pub next_so_far : (x ≡ n → ⊥) → is_in_bound n most least x number ≡ true → (least' closed' : ℕ) → least' ≡ x + 1 → closed' ≡ closed → so_far (e + 1) least' closed'
      next_so_far a b least' closed' p q =
          rw (p, q)
          (h.0 ∙ rw (one_more still) (wrong_next n most entries e least (count - (closed + 1)) (x + 1) inside (says _ (entry_fits n most least x number a b))), h.1, omega (arith, inside))
