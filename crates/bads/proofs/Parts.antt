-- The reader of bads (src/lib.rt): each way out of the code gives what the model's grammar gives. e is what is expected; the match has told which.
use Prim.Native.Nat.{ℕ, zero, suc, ◌-◌, ◌≤◌, ◌<◌}
use native.Mathlib.Omega.{arith}
use mathlib.Core.Path.{◌≡◌, refl, sym, ◌∙◌, ap}
use mathlib.Core.Bool.{true, false, ◌&&◌}
use mathlib.Core.List.{List, ◌∷◌, ◌++◌}
use mathlib.Core.Option.{Option, none, map}
use lib.ListN.{replicate}
use lib.Dec.{ltb, eqb}
use borrow.Author.Tests.{ne_eqb, lt-ltb, le-ltb, le-leb, lt-leb}
use Rattle.model.specs.Reader.{fits}
use Rattle.model.specs.Rows.{Program, tag, arity, is_head_of}
use Rattle.model.specs.Heads.{is_class_of}
use Rattle.model.specs.Letters.{head_count}
use Rattle.model.specs.Bads.{Part, bad, minimum, further, item, letter_arity_of, subject_step, detail_step, bad_step}
use Rattle.bads.specs.declared.Expected.{Expected}
use Rattle.bads.specs.declared.Expected.TheVariants.{Bads, Subject, Minimum, Detail, Further}
use Rattle.std.proofs.Common.{Some, None}
use Rattle.bads.specs.Reading.{row_step}
use Rattle.bads.specs.Stacks.{stack, stacks, item_step, no_more}

-- the heads that a letter has
module _ (p : Program) (n : ℕ) where
  pub arity_of : n < p.constructors → arity p n ≡ letter_arity_of p n
  unfolding letter_arity_of
  arity_of h = rw (lt-ltb n p.constructors h, letter_arity_of)

  pub arity_none : p.constructors ≤ n → 0 ≡ letter_arity_of p n
  unfolding letter_arity_of
  arity_none h = rw (le-ltb n p.constructors h, letter_arity_of)

module _ (p : Program) (t n : ℕ) where
  -- what an item counts, behind which k bads begin
  module _ (k : ℕ) where
    abbrev behind_class : Option (List Part)
    behind_class = row_step (bad_step p) (stack (Subject k)) t n

    pub subject_head : t ≡ 41 → is_head_of (tag p n) ≡ true → stacks (Some (Minimum 0 k)) ≡ behind_class
    unfolding stack stacks row_step bad_step subject_step fits
    subject_head e h = rw (e, h)

    pub subject_no_head : t ≡ 41 → is_head_of (tag p n) ≡ false → stacks None ≡ behind_class
    unfolding stack stacks row_step bad_step subject_step fits
    subject_no_head e h = rw (e, h)

    pub subject_letter : t ≡ 42 → ltb n (head_count p) ≡ true → (a : ℕ) → a ≡ letter_arity_of p n → stacks (Some (Minimum a k)) ≡ behind_class
    unfolding stack stacks row_step bad_step subject_step fits
    subject_letter e h a z = rw (e, h, z)

    pub subject_no_letter : t ≡ 42 → ltb n (head_count p) ≡ false → stacks None ≡ behind_class
    unfolding stack stacks row_step bad_step subject_step fits
    subject_no_letter e h = rw (e, h)

    pub no_subject : (t ≡ 41 → ⊥) → (t ≡ 42 → ⊥) → stacks None ≡ behind_class
    unfolding stack stacks row_step bad_step subject_step fits
    no_subject a b = ap (map (λ more. more ++ further ∷ replicate k bad)) (sym none_fits)
      where
        none_fits : subject_step p t n ≡ none
        none_fits = rw (ne_eqb t 41 a, ne_eqb t 42 b, subject_step)

  -- so many heads, then the minimum
  module _ (a k : ℕ) where
    abbrev behind_letter : Option (List Part)
    behind_letter = row_step (bad_step p) (stack (Detail a k)) t n

    pub minimum_fits : a ≡ 0 → t ≡ 43 → 1 ≤ n → stacks (Some (Further k)) ≡ behind_letter
    unfolding stack stacks row_step bad_step detail_step fits
    minimum_fits z e h = rw (z, e, le-leb 1 n h)

    pub minimum_zero : a ≡ 0 → t ≡ 43 → n < 1 → stacks None ≡ behind_letter
    unfolding stack stacks row_step bad_step detail_step fits
    minimum_zero z e h = rw (z, e, lt-leb 1 n h)

    pub no_minimum : a ≡ 0 → (t ≡ 43 → ⊥) → stacks None ≡ behind_letter
    unfolding stack stacks row_step bad_step detail_step fits
    no_minimum z h = rw (z, ne_eqb t 43 h)

    -- one more head is to come
    more : (a ≡ 0 → ⊥) → a ≡ suc (a - 1)
    more h = omega arith

    pub does_head_fit : (a ≡ 0 → ⊥) → t ≡ 45 → ltb n (head_count p) ≡ true → stacks (Some (Detail (a - 1) k)) ≡ behind_letter
    unfolding stack stacks row_step bad_step detail_step fits
    does_head_fit z e h = one_less (a - 1) (more z)
      where
        one_less : (b : ℕ) → a ≡ suc b → stacks (Some (Detail b k)) ≡ behind_letter
        one_less b y = rw (y, e, h)

    pub head_high : (a ≡ 0 → ⊥) → t ≡ 45 → ltb n (head_count p) ≡ false → stacks None ≡ behind_letter
    unfolding stack stacks row_step bad_step detail_step fits
    head_high z e h = rw (more z, e, h)

    pub no_head : (a ≡ 0 → ⊥) → (t ≡ 45 → ⊥) → stacks None ≡ behind_letter
    unfolding stack stacks row_step bad_step detail_step fits
    no_head z h = rw (more z, ne_eqb t 45 h)

  pub item_class : (k : ℕ) → t ≡ 40 → is_class_of p n ≡ true → stacks (Some (Subject k)) ≡ item_step p k t n
  unfolding item_step stacks stack fits
  item_class k e h = rw (e, h)

  pub item_no_class : (k : ℕ) → t ≡ 40 → is_class_of p n ≡ false → stacks None ≡ item_step p k t n
  unfolding item_step stacks fits
  item_no_class k e h = rw (e, h)

  pub no_item : (k : ℕ) → (t ≡ 40 → ⊥) → stacks None ≡ item_step p k t n
  unfolding item_step stacks fits
  no_item k h = rw (ne_eqb t 40 h)

  begins : (k : ℕ) → item_step p k t n ≡ row_step (bad_step p) (stack (Bads (suc k))) t n
  unfolding stack row_step bad_step item_step
  begins k = refl

  goes_on : (k : ℕ) → (t ≡ 44 → ⊥) → item_step p k t n ≡ row_step (bad_step p) (stack (Further k)) t n
  unfolding stack row_step bad_step item_step
  goes_on k h = ap (map (λ more. more ++ replicate k bad)) (sym other)
    where
      other : bad_step p further t n ≡ fits (eqb t 40 && is_class_of p n) item
      other = rw (ne_eqb t 44 h, bad_step)

  module _ (e : Expected) (k : ℕ) where
    abbrev after : Option (List Part)
    after = row_step (bad_step p) (stack e) t n

    pub bads_over : e ≡ Bads k → k ≡ 0 → stacks None ≡ after
    unfolding stack stacks row_step
    bads_over told z = rw (told, z)

    pub bad_begins : e ≡ Bads k → (k ≡ 0 → ⊥) → (x : Option (List Part)) → x ≡ item_step p (k - 1) t n → x ≡ after
    bad_begins told h x i =
        let z : k ≡ suc (k - 1) = omega arith in
        i ∙ (begins (k - 1) ∙ ap (λ y. row_step (bad_step p) (stack y) t n) (sym (told ∙ ap Bads z)))

    pub behind_item : e ≡ Subject k → (x : Option (List Part)) → x ≡ row_step (bad_step p) (stack (Subject k)) t n → x ≡ after
    behind_item told x i = i ∙ ap (λ y. row_step (bad_step p) (stack y) t n) (sym told)

    module _ (a : ℕ) where
      pub in_detail : e ≡ Detail a k → (x : Option (List Part)) → x ≡ row_step (bad_step p) (stack (Detail a k)) t n → x ≡ after
      in_detail told x i = i ∙ ap (λ y. row_step (bad_step p) (stack y) t n) (sym told)

      -- the first head, or the minimum alone
      pub heads_begin : e ≡ Minimum a k → t ≡ 45 → (x : Option (List Part)) → x ≡ row_step (bad_step p) (stack (Detail a k)) t n → x ≡ after
      unfolding stack row_step bad_step
      heads_begin told h x i = rw (told, h) (rw h at i)

      pub no_heads : e ≡ Minimum a k → (t ≡ 45 → ⊥) → (x : Option (List Part)) → x ≡ row_step (bad_step p) (stack (Detail 0 k)) t n → x ≡ after
      unfolding stack row_step bad_step
      no_heads told h x i = i ∙ (ap (map (λ more. more ++ further ∷ replicate k bad)) alone ∙ ap (λ y. row_step (bad_step p) (stack y) t n) (sym told))
        where
          alone : detail_step p 0 t n ≡ bad_step p (minimum a) t n
          alone = rw (ne_eqb t 45 h, bad_step)

    pub bad_ends : e ≡ Further k → t ≡ 44 → n ≡ 0 → stacks (Some (Bads k)) ≡ after
    unfolding stack stacks row_step bad_step fits
    bad_ends told et z = rw (told, et, z)

    pub end_number : e ≡ Further k → t ≡ 44 → (n ≡ 0 → ⊥) → stacks None ≡ after
    unfolding stack stacks row_step bad_step fits
    end_number told et h = rw (told, et, ne_eqb n 0 h)

    pub further_item : e ≡ Further k → (t ≡ 44 → ⊥) → (x : Option (List Part)) → x ≡ item_step p k t n → x ≡ after
    further_item told h x i = i ∙ (goes_on k h ∙ ap (λ y. row_step (bad_step p) (stack y) t n) (sym told))

pub done_bads : (e : Expected) (k : ℕ) → e ≡ Bads k → eqb k 0 ≡ no_more (stack e)
unfolding stack no_more
done_bads e k told = by_count k ∙ ap (λ x. no_more (stack x)) (sym told)
  where
    by_count : (k : ℕ) → eqb k 0 ≡ no_more (replicate k bad)
    by_count zero = refl
    by_count (suc k) = ne_eqb (suc k) 0 (λ z. omega arith)

pub not_done : (e : Expected) (part : Part) (parts : List Part) → stack e ≡ part ∷ parts → false ≡ no_more (stack e)
unfolding no_more
not_done e part parts h = rw h
