-- Every row of a program whose rows fit is read by an item; what its tag then says of the item and of the number.
use Prim.Native.Nat.{ℕ, zero, suc, ◌+◌, ◌-◌, ◌≤◌, ◌<◌}
use native.Mathlib.Omega.{arith}
use mathlib.Core.Path.{◌≡◌, refl, sym, ◌∙◌, ap}
use mathlib.Core.Bool.{Bool, true, false, ◌&&◌, ◌||◌}
use mathlib.Core.List.{List, [], ◌∷◌, ◌++◌}
use mathlib.Core.Logic.{⊎_elim}
use mathlib.Core.Option.{some, none, map, some-ne-none, none-ne-some}
use lib.Dec.{leb, eqb}
use borrow.Author.Tests.{eqb-true, ltb-true}
use Rattle.model.specs.Reader.{past, fits, first_wrong_of}
use Rattle.model.specs.Rows.{Program, size, tag, num, kind, is_head_of, Item, constructor, global, header, parameter, expression, made, operand, arguments, branches, pattern, is_name, whole, past_items, row_check_of, step, expression_step, pattern_step}
use Rattle.model.specs.Scopes.{binds, uses}
use Rattle.model.proofs.Logic.{test, true_false, and_left, and_right, or_cases, or_left, or_right}
use Rattle.model.proofs.Reader.{past_wrong, past_row, after_past, by_read, by_option, first_wrong_none}
use Rattle.program.specs.Rows.{from}
use Rattle.program.proofs.Reading.{from_none, from_stop, from_go, from_append, from_append_wrong}

module _ (p : Program) where
  -- the item that reads row k, where reading goes on to row e
  pub record Visited (k e : ℕ) : Type 0 where
    pub item : Item
    pub more : List Item
    pub behind : List Item
    pub says : step p item (tag p k) (num p k) ≡ some more
    pub reads : from p (item ∷ behind) k ≡ past e

  visit : (d r k e : ℕ) (items : List Item) → k ≡ r + d → k < e → e ≤ size p → from p items r ≡ past e → Visited k e
  visit zero r k e [] z a b h = let w = past_row r e (sym (from_none p r) ∙ h) in absurd (omega arith)
  visit zero r k e (item ∷ items) z a b h =
      let w : k ≡ r = omega arith in
      by_option (step p item (tag p r) (num p r)) (λ n. past_wrong e r (sym h ∙ from_stop p item items r n))
      (λ more f. rw w (record { item = item; more = more; behind = items; says = f; reads = h }))
  visit (suc d) r k e [] z a b h = let w = past_row r e (sym (from_none p r) ∙ h) in absurd (omega arith)
  visit (suc d) r k e (item ∷ items) z a b h =
      by_option (step p item (tag p r) (num p r)) (λ n. past_wrong e r (sym h ∙ from_stop p item items r n))
      (λ more f. visit d (r + 1) k e (more ++ items) (omega arith) a b (sym (from_go p item items more r (omega arith) f) ∙ h))

  -- refusal 3 does not stand: the whole program is read, to its end
  pub whole_read : row_check_of p ≡ none → from p (whole p) 0 ≡ past (size p)
  unfolding row_check_of from
  whole_read h =
      let z : size p - 0 ≡ size p = omega arith in
      rw z
      (by_option (first_wrong_of (step p) p.rows (whole p)) (first_wrong_none (step p) p.rows (whole p))
      (λ r e. absurd (some-ne-none _ (sym (ap (map _) e) ∙ h))))

  pub visited : (k : ℕ) → row_check_of p ≡ none → k < size p → Visited k (size p)
  visited k h a = visit k 0 k (size p) (whole p) (omega arith) a (omega arith) (whole_read h)

  -- the model's row after items, where they are read
  pub past_is : (items : List Item) (r q : ℕ) → from p items r ≡ past q → past_items p items r ≡ q
  unfolding past_items from
  past_is items r q h = after_past (step p) p.rows r q items h

  -- items, and then others: both are read
  pub record Parted (xs ys : List Item) (r e : ℕ) : Type 0 where
    pub at : ℕ
    pub first : from p xs r ≡ past at
    pub second : from p ys at ≡ past e

  pub parted : (xs ys : List Item) (r e : ℕ) → from p (xs ++ ys) r ≡ past e → Parted xs ys r e
  parted xs ys r e h =
      by_read (from p xs r) (λ m f. record { at = m; first = f; second = sym (from_append p xs ys r m f) ∙ h })
      (λ m f. past_wrong e m (sym h ∙ from_append_wrong p xs ys r m f))

  fits_some : (b : Bool) (xs ys : List Item) → fits b xs ≡ some ys → b ≡ true
  unfolding fits
  fits_some true xs ys h = refl
  fits_some false xs ys h = absurd (none-ne-some ys h)

  -- an item that takes one tag only: a test that this tag fails, the row fails
  one_tag : {A : Type 0} (f : ℕ → Bool) (t k : ℕ) (b : Bool) (xs ys : List Item) → fits (eqb t k && b) xs ≡ some ys → f k ≡ false → f t ≡ true → A
  one_tag f t k b xs ys h fails passes =
      true_false passes (ap f (eqb-true t k (and_left (eqb t k) b (fits_some (eqb t k && b) xs ys h))) ∙ fails)

  -- a pattern's tags are four
  pattern_tag : {A : Type 0} (d t n : ℕ) (more : List Item) → step p (pattern d) t n ≡ some more → (t ≡ 31 → A) → (t ≡ 30 → is_name p n ≡ true → A) → (t ≡ 32 → A) → (t ≡ 33 → is_name p n ≡ true → A) → A
  unfolding step pattern_step
  pattern_tag d t n more h f g k l =
      test (eqb t 31) (λ e. f (eqb-true t 31 e))
      (λ e. let c = and_right (leb 1 d) _ (fits_some _ _ more (rw (e, pattern_step) at h)) in
      ⊎_elim (λ z. g (eqb-true t 30 (and_left (eqb t 30) (is_name p n) z)) (and_right (eqb t 30) (is_name p n) z))
      (λ y. ⊎_elim (λ z. k (eqb-true t 32 (and_left (eqb t 32) (eqb n 0) z)))
      (λ z. l (eqb-true t 33 (and_left (eqb t 33) (is_name p n) z)) (and_right (eqb t 33) (is_name p n) z))
      (or_cases (eqb t 32 && eqb n 0) (eqb t 33 && is_name p n) y))
      (or_cases (eqb t 30 && is_name p n) (eqb t 32 && eqb n 0 || eqb t 33 && is_name p n) c))

  -- a row with a head's tag is read by an expression
  head_item : (item : Item) (t n : ℕ) (more : List Item) → step p item t n ≡ some more → is_head_of t ≡ true → item ≡ expression
  unfolding step is_head_of pattern_step
  head_item constructor t n more h e = one_tag is_head_of t 10 _ _ more h refl e
  head_item global t n more h e = one_tag is_head_of t 11 _ _ more h refl e
  head_item header t n more h e = one_tag is_head_of t 22 _ _ more h refl e
  head_item parameter t n more h e = one_tag is_head_of t 23 _ _ more h refl e
  head_item expression t n more h e = refl
  head_item made t n more h e = one_tag is_head_of t 20 _ _ more h refl e
  head_item operand t n more h e = one_tag is_head_of t 21 _ _ more h refl e
  head_item arguments t n more h e = one_tag is_head_of t 22 _ _ more h refl e
  head_item branches t n more h e = one_tag is_head_of t 25 _ _ more h refl e
  head_item (pattern d) t n more h e =
      pattern_tag d t n more h (λ z. true_false e (ap is_head_of z)) (λ z m. true_false e (ap is_head_of z)) (λ z. true_false e (ap is_head_of z)) (λ z m. true_false e (ap is_head_of z))

  -- a row with a head's tag begins an expression, which is read
  pub head_read : (k : ℕ) → row_check_of p ≡ none → k < size p → is_head_of (tag p k) ≡ true → (q : ℕ) × (from p (expression ∷ []) k ≡ past q)
  head_read k h a t =
      let v = visited k h a in
      let i : v.item ≡ expression = head_item v.item (tag p k) (num p k) v.more v.says t in
      let w = parted (expression ∷ []) v.behind k (size p) (rw i at v.reads) in
      (w.at, w.first)

  -- the rows whose number is a name
  abbrev named : ℕ → Bool
  named t = binds t || uses t

  named_item : (item : Item) (t n : ℕ) (more : List Item) → step p item t n ≡ some more → named t ≡ true → is_name p n ≡ true
  unfolding step binds uses pattern_step expression_step kind fits
  named_item constructor t n more h e = one_tag named t 10 _ _ more h refl e
  named_item global t n more h e = and_right (eqb t 11) (is_name p n) (fits_some _ _ more h)
  named_item header t n more h e = one_tag named t 22 _ _ more h refl e
  named_item parameter t n more h e = and_right (eqb t 23) (is_name p n) (fits_some _ _ more h)
  named_item expression zero n more h e = absurd (none-ne-some more h)
  named_item expression (suc zero) n more h e = fits_some _ _ more h
  named_item expression (suc (suc zero)) n more h e = fits_some _ _ more h
  named_item expression (suc (suc (suc zero))) n more h e = fits_some _ _ more h
  named_item expression (suc (suc (suc (suc zero)))) n more h e = fits_some _ _ more h
  named_item expression (suc (suc (suc (suc (suc zero))))) n more h e = fits_some _ _ more h
  named_item expression (suc (suc (suc (suc (suc (suc zero)))))) n more h e = fits_some _ _ more h
  named_item expression (suc (suc (suc (suc (suc (suc (suc zero))))))) n more h e = fits_some _ _ more h
  named_item expression (suc (suc (suc (suc (suc (suc (suc (suc zero)))))))) n more h e = fits_some _ _ more h
  named_item expression (suc (suc (suc (suc (suc (suc (suc (suc (suc zero))))))))) n more h e = true_false e refl
  named_item expression (suc (suc (suc (suc (suc (suc (suc (suc (suc (suc t)))))))))) n more h e = absurd (none-ne-some more h)
  named_item made t n more h e = one_tag named t 20 _ _ more h refl e
  named_item operand t n more h e = and_right (eqb t 21) (is_name p n) (fits_some _ _ more h)
  named_item arguments t n more h e = one_tag named t 22 _ _ more h refl e
  named_item branches t n more h e = one_tag named t 25 _ _ more h refl e
  named_item (pattern d) t n more h e =
      pattern_tag d t n more h (λ z. true_false e (ap named z)) (λ z m. m) (λ z. true_false e (ap named z)) (λ z m. m)

  -- a name that is bound or read is below the number of names
  name_below : (k : ℕ) → row_check_of p ≡ none → k < size p → named (tag p k) ≡ true → num p k < p.names
  unfolding is_name
  name_below k h a t =
      let v = visited k h a in
      ltb-true (num p k) p.names (named_item v.item (tag p k) (num p k) v.more v.says t)

  pub bound_below : (k : ℕ) → row_check_of p ≡ none → k < size p → binds (tag p k) ≡ true → num p k < p.names
  bound_below k h a t = name_below k h a (or_left (binds (tag p k)) (uses (tag p k)) t)

  pub used_below : (k : ℕ) → row_check_of p ≡ none → k < size p → uses (tag p k) ≡ true → num p k < p.names
  used_below k h a t = name_below k h a (or_right (binds (tag p k)) (uses (tag p k)) t)
