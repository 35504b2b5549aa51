-- The letter of a value is one that the row which stands for it allows.
use Prim.Native.Nat.{ℕ, zero, suc, ◌+◌, ◌-◌, ◌<◌}
use native.Mathlib.Omega.{arith}
use mathlib.Core.Path.{◌≡◌, refl, sym, ◌∙◌, ap, subst}
use mathlib.Core.Bool.{Bool, true, false}
use mathlib.Core.Logic.{⊎_elim}
use mathlib.Core.List.Memᴰ
use mathlib.Core.List.{List, [], ◌∷◌, map, Memᴰ}
use lib.ListN.{length, get_or}
use lib.Dec.{eqb}
use borrow.Author.Tests.{eq-eqb, ne_eqb}
use Rattle.model.specs.Index.{gather_between, gather}
use Rattle.model.specs.Rows.{Program, size, tag, num, arity, is_head_of}
use Rattle.model.specs.Heads.{is_function, is_class_of}
use Rattle.model.specs.Letters.{constructed, functional, addressed, head, head_count, row_shape, row_head_of, value_shape, value_head, heads_of, argument_heads, value_letter}
use Rattle.model.specs.Values.{Value, closure, built, address, Bindings, empty, bind}
use Rattle.model.specs.Tables.{Tables}
use Rattle.model.specs.Closed.{argument}
use Rattle.model.specs.Counters.{name_heads, heads_each, choices, letters_where, letters_allowed, any_argument}
use Rattle.model.specs.Wanted.{Member}
use Rattle.model.proofs.Logic.{or_false}
use Rattle.model.proofs.Heads.{function_tag, class_tag}
use Rattle.model.proofs.Covering.{row_for, names_of, Covered, Held}
use Rattle.model.proofs.Numbering.Choices.{Chosen, chosen_in, name_has, letters_built, letters_plain}
use Rattle.model.proofs.Parse.Reached.{RowsFit}
use Rattle.model.proofs.Parse.Lengths.{ColumnsWhole, row_location, nums_at, build_length}
use Rattle.model.proofs.Index.{turned}

module _ (p : Program) where
  -- a row with another tag is no build row, and no function
  not_tag : (r a b : ℕ) → tag p r ≡ a → (a ≡ b → ⊥) → eqb (tag p r) b ≡ false
  not_tag r a b e n = ne_eqb (tag p r) b (λ z. n (sym e ∙ z))

  not_function : (f : ℕ) → is_function p f ≡ true → eqb (tag p f) 2 ≡ false
  not_function f h =
      ⊎_elim (λ e. not_tag f 3 2 e (λ z. omega arith)) (λ e. not_tag f 11 2 e (λ z. omega arith)) (function_tag p f h)

  functional_shape : (f : ℕ) → is_function p f ≡ true → row_shape p f ≡ functional
  unfolding row_shape
  functional_shape f h =
      rw (not_function f h, row_shape) (rw h)

  not_address : (c : ℕ) → tag p (size p) ≡ 0 → is_class_of p c ≡ true → eqb (tag p c) 2 ≡ false
  not_address c zero-past h =
      ⊎_elim (λ e. not_tag c 6 2 e (λ z. omega arith)) (λ e. not_tag c 0 2 (ap (tag p) e ∙ zero-past) (λ z. omega arith)) (class_tag p c h)

  addressed_shape : (c : ℕ) → tag p (size p) ≡ 0 → is_class_of p c ≡ true → row_shape p c ≡ addressed
  unfolding row_shape is_function
  addressed_shape c zero-past h =
      ⊎_elim (λ e. six 6 e (λ z. omega arith) (λ z. omega arith) (λ z. omega arith))
      (λ e. six 0 (ap (tag p) e ∙ zero-past) (λ z. omega arith) (λ z. omega arith) (λ z. omega arith)) (class_tag p c h)
    where
      six : (a : ℕ) → tag p c ≡ a → (a ≡ 2 → ⊥) → (a ≡ 3 → ⊥) → (a ≡ 11 → ⊥) → row_shape p c ≡ addressed
      six a e x y z = rw (not_tag c a 2 e x, row_shape) (rw (or_false (eqb (tag p c) 3) (eqb (tag p c) 11) (not_tag c a 3 e y) (not_tag c a 11 e z)))

  -- every process has a class
  abbrev pub Classes : List ℕ → Type 0
  Classes classes = (i : ℕ) → i < length classes → is_class_of p (get_or classes i 0) ≡ true

  shape_kept : (t : Tables) (classes : List ℕ) (v : Value) → tag p (size p) ≡ 0 → Classes classes → Covered p t classes v → row_shape p (row_for classes v) ≡ value_shape v
  unfolding row_for value_shape row_shape
  shape_kept t classes (closure f held) z cs h = functional_shape f h.0
  shape_kept t classes (built r k vs) z cs h = rw (eq-eqb (tag p r) 2 h.0, row_shape) (ap constructed h.1)
  shape_kept t classes (address i) z cs h = addressed_shape (get_or classes i 0) z (cs i h)

  pub head_kept : (t : Tables) (classes : List ℕ) (v : Value) → tag p (size p) ≡ 0 → Classes classes → Covered p t classes v → row_head_of p (row_for classes v) ≡ value_head p v
  unfolding row_head_of value_head
  head_kept t classes v z cs h = ap (head p) (shape_kept t classes v z cs h)

-- What passes, of a value's arguments
module _ (classes : List ℕ) where
  -- argument i, and each behind it, passes
  abbrev pub Fits : (ℕ → ℕ → Bool) → ℕ → Bindings → Type 0
  Fits passes i empty = Unit {0}
  Fits passes i (bind n v vs) = (passes i (row_for classes v) ≡ true) × Fits passes (i + 1) vs

  pub all_fit : (passes : ℕ → ℕ → Bool) → ((i u : ℕ) → passes i u ≡ true) → (i : ℕ) (vs : Bindings) → Fits passes i vs
  all_fit passes h i empty = tt
  all_fit passes h i (bind n v vs) = (h i (row_for classes v), all_fit passes h (i + 1) vs)

  -- of a value that is built, each argument
  abbrev pub ArgumentsFit : (ℕ → ℕ → Bool) → Value → Type 0
  ArgumentsFit passes (closure f held) = Unit {0}
  ArgumentsFit passes (built r k vs) = Fits passes 0 vs
  ArgumentsFit passes (address i) = Unit {0}

  pub any_fit : (v : Value) → ArgumentsFit any_argument v
  any_fit (closure f held) = tt
  any_fit (built r k vs) = all_fit any_argument (λ i u. refl) 0 vs
  any_fit (address i) = tt

-- The letter of a covered value is one of its row's, where each argument passes.
module _ (p : Program) (t : Tables) (fit : RowsFit p) (w : ColumnsWhole p) (past_end : tag p (size p) ≡ 0) (low : (v : ℕ) → row_head_of p v < head_count p) (classes : List ℕ) (classed : Classes p classes) where
  -- held values under the names of a row's arguments: the head of each is among those of its name
  heads_chosen : (passes : ℕ → ℕ → Bool) (r a i : ℕ) (vs : Bindings) → length (names_of vs) ≡ a → ((j : ℕ) → j < a → get_or (names_of vs) j 0 ≡ argument p r (i + j)) → Held p t classes vs → Fits classes passes i vs → Chosen (heads_of p vs) (gather_between a i (λ k. name_heads p t (passes k) (argument p r k) ∷ []))
  unfolding names_of heads_of gather_between
  heads_chosen passes r zero i empty l e h f = tt
  heads_chosen passes r zero i (bind n v vs) l e h f = absurd (omega arith)
  heads_chosen passes r (suc a) i empty l e h f = absurd (omega arith)
  heads_chosen passes r (suc a) i (bind n v vs) l e h f =
      let (m, c, hs) = h in
      let z : i + 0 ≡ i = omega arith in
      let q : n ≡ argument p r i = e 0 (omega arith) ∙ ap (argument p r) z in (
        subst (λ x. Memᴰ x (name_heads p t (passes i) (argument p r i))) (head_kept p t classes v past_end classed c)
            (name_has p t (passes i) (argument p r i) (row_for classes v) (low (row_for classes v)) (subst (λ x. Member t.flow x (row_for classes v)) q m) f.0),
        heads_chosen passes r a (i + 1) vs (omega arith) (λ j b. e (suc j) (omega arith) ∙ ap (argument p r) (turned i j)) hs f.1,
      )

  pub letter_there : (passes : ℕ → ℕ → Bool) (v : Value) → Covered p t classes v → ArgumentsFit classes passes v → Memᴰ (value_letter p v) (letters_where p t passes (row_for classes v))
  unfolding row_for value_letter argument_heads value_head value_shape row_head_of heads_each gather argument is_head_of
  letter_there passes (closure f held) c h =
      rw (letters_plain p t passes f (not_function p f c.0), ap (head p) (functional_shape p f c.0)) (Memᴰ.head refl)
  letter_there passes (built r k vs) c h =
      let (builds, made, names, held) = c in
      let loc = row_location fit w r (rw builds) in
      let len : length (names_of vs) ≡ arity p k = ap length names ∙ rw made at (build_length w loc builds) in
      let chosen = heads_chosen passes r (arity p k) 0 vs len (λ j b. ap (λ ns. get_or ns j 0) names ∙ (nums_at p (r + 2) (arity p k) j b ∙ ap (λ x. num p (r + 2 + x)) (plus j))) held h in
      let n : arity p (num p (r + 1)) - 0 ≡ arity p k = ap (λ x. arity p x - 0) made ∙ minus (arity p k) in
      rw (letters_built p t passes r builds)
      (subst (λ x. Memᴰ (x ∷ heads_of p vs) (map (λ hs. row_head_of p r ∷ hs) (choices (heads_each p t passes r)))) (head_kept p t classes (built r k vs) past_end classed c)
      (Memᴰ.map (λ hs. row_head_of p r ∷ hs) (chosen_in (heads_of p vs) (heads_each p t passes r) (rw n chosen))))
    where
      minus : (n : ℕ) → n - 0 ≡ n
      minus n = omega arith

      plus : (j : ℕ) → j ≡ 0 + j
      plus j = omega arith
  letter_there passes (address i) c h =
      rw (letters_plain p t passes (get_or classes i 0) (not_address p (get_or classes i 0) past_end (classed i c)), ap (head p) (addressed_shape p (get_or classes i 0) past_end (classed i c))) (Memᴰ.head refl)

  pub letter_allowed : (v : Value) → Covered p t classes v → Memᴰ (value_letter p v) (letters_allowed p t (row_for classes v))
  unfolding letters_allowed
  letter_allowed v c = letter_there any_argument v c (any_fit classes v)
