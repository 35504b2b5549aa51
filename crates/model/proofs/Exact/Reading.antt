-- Reading by a grammar gives the relations of specs/Refusals.antt: which items are still to come, and which row is the first wrong one.
use Prim.Native.Nat.{ℕ, zero, suc, ◌+◌, ◌-◌, ◌≤◌, ◌<◌}
use native.Mathlib.Decide.{ℕ_discrete}
use native.Mathlib.Omega.{arith}
use mathlib.Core.Path.{◌≡◌, refl, sym, ◌∙◌, ap, ap₂, subst}
use mathlib.Core.Bool.{false}
use mathlib.Core.Logic.{◌↔◌, ◌⊎◌, inl, inr, ⊎_elim}
use mathlib.Core.List.{List, [], ◌∷◌, ◌++◌, append_assoc, append-nil}
use mathlib.Core.Option.{some, none, some-injective, none-ne-some}
use lib.Dec.{eqb}
use borrow.Author.Tests.{eqb-false, ne_eqb}
use Rattle.model.specs.Words.{Columns, left, right}
use Rattle.model.specs.Reader.{Read, past, wrong, Grammar, read, complete, first_wrong_of}
use Rattle.model.specs.Refusals.{Ahead, at_first, after_row, Wrong, unfit, behind, early}
use Rattle.model.proofs.Logic.{test}
use Rattle.model.proofs.Reader.{past_wrong, past_row, wrong_row, by_option, read_none, read_end, read_stop, read_go, read_range, first_wrong_none, none_first_wrong, some_complete}

-- row k is taken by an item
pub record Taken {Item : Type 0} (step : Grammar Item) (rows : Columns) (k : ℕ) : Type 0 where
  pub item : Item
  pub more : List Item
  pub said : step item (left rows k) (right rows k) ≡ some more

complete_some : (size r : ℕ) (x : Read) → complete size x ≡ some r → (x ≡ wrong r) ⊎ ((x ≡ past r) × (r ≡ size → ⊥))
unfolding complete
complete_some size r (past q) h =
    test (eqb q size) (λ e. absurd (none-ne-some r (rw (e, complete) at h)))
    (λ e. let z : q ≡ r = some-injective q r (rw (e, complete) at h) in
    inr (ap past z, λ w. eqb-false q size e (z ∙ w)))
complete_some size r (wrong q) h = inl (ap wrong (some-injective q r h))

module _ {Item : Type 0} (step : Grammar Item) (rows : Columns) (whole : List Item) where
  -- before a row at most one list of items is ahead
  pub ahead_unique : (r r' : ℕ) (xs ys : List Item) → r ≡ r' → Ahead step rows whole r xs → Ahead step rows whole r' ys → xs ≡ ys
  ahead_unique r r' xs ys z at_first at_first = refl
  ahead_unique r r' xs ys z at_first (after_row q item items more a e) = absurd (omega arith)
  ahead_unique r r' xs ys z (after_row q item items more a e) at_first = absurd (omega arith)
  ahead_unique r r' xs ys z (after_row q item items more a e) (after_row q' item' items' more' a' e') =
      let w : q ≡ q' = omega arith in
      let same = ahead_unique q q' (item ∷ items) (item' ∷ items') w a a' in
      let front : item ≡ item' = cc in
      let back : items ≡ items' = cc in
      let said : some more ≡ some more' = sym e ∙ (ap₂ (λ i k. step i (left rows k) (right rows k)) front w ∙ e') in
      ap₂ (λ m is. m ++ is) (some-injective more more' said) back

  -- where items end, what is below them is ahead
  pub ahead_past : (n r q : ℕ) (items below : List Item) → Ahead step rows whole r (items ++ below) → read step rows n items r ≡ past q → Ahead step rows whole q below
  ahead_past zero r q [] below a h = subst (λ k. Ahead step rows whole k below) (past_row r q (sym (read_none step rows zero r) ∙ h)) a
  ahead_past zero r q (item ∷ items) below a h = past_wrong q r (sym h ∙ read_end step rows item items r)
  ahead_past (suc n) r q [] below a h = subst (λ k. Ahead step rows whole k below) (past_row r q (sym (read_none step rows (suc n) r) ∙ h)) a
  ahead_past (suc n) r q (item ∷ items) below a h =
      by_option (step item (left rows r) (right rows r)) (λ e. past_wrong q r (sym h ∙ read_stop step rows n r item items e))
      (λ more e. ahead_past n (r + 1) q (more ++ items) below (rw append_assoc (after_row r item (items ++ below) more a e))
      (sym (read_go step rows n r item items more e) ∙ h))

  -- ... and where all end, nothing
  ahead_end : (n q : ℕ) → read step rows n whole 0 ≡ past q → Ahead step rows whole q []
  ahead_end n q h = ahead_past n 0 q whole [] (rw append-nil at_first) h

  ahead_wrong : (n r q : ℕ) (items : List Item) → r + n ≡ rows.size → Ahead step rows whole r items → read step rows n items r ≡ wrong q → Wrong step rows whole q
  ahead_wrong zero r q [] s a h = past_wrong r q (sym (read_none step rows zero r) ∙ h)
  ahead_wrong zero r q (item ∷ items) s a h =
      let z : r ≡ rows.size = omega arith in
      let w = wrong_row r q (sym (read_end step rows item items r) ∙ h) in
      subst (Wrong step rows whole) (sym z ∙ w) (early item items (subst (λ k. Ahead step rows whole k (item ∷ items)) z a))
  ahead_wrong (suc n) r q [] s a h = past_wrong r q (sym (read_none step rows (suc n) r) ∙ h)
  ahead_wrong (suc n) r q (item ∷ items) s a h =
      by_option (step item (left rows r) (right rows r))
      (λ e. subst (Wrong step rows whole) (wrong_row r q (sym (read_stop step rows n r item items e) ∙ h)) (unfit r item items a (omega arith) e))
      (λ more e. ahead_wrong n (r + 1) q (more ++ items) (omega arith) (after_row r item items more a e) (sym (read_go step rows n r item items more e) ∙ h))

  -- the first wrong row is the one that is told
  wrong_first : (r : ℕ) → first_wrong_of step rows whole ≡ some r → Wrong step rows whole r
  unfolding first_wrong_of
  wrong_first r h =
      ⊎_elim (λ e. ahead_wrong rows.size 0 r whole (omega arith) at_first e)
      (λ x. let (e, ne) = x in
      let (a, b) = read_range step rows rows.size 0 r whole e in
      behind r (ahead_end rows.size r e) (omega arith))
      (complete_some rows.size r (read step rows rows.size whole 0) h)

  -- what is ahead is what is left to read
  ahead_read : (r : ℕ) (items : List Item) → Ahead step rows whole r items → r ≤ rows.size → read step rows rows.size whole 0 ≡ read step rows (rows.size - r) items r
  ahead_read r items at_first b = let z : rows.size - 0 ≡ rows.size = omega arith in rw z
  ahead_read r' items' (after_row r item items more a e) b =
      let z : rows.size - r ≡ suc (rows.size - (r + 1)) = omega arith in
      ahead_read r (item ∷ items) a (omega arith) ∙ (ap (λ n. read step rows n (item ∷ items) r) z ∙ read_go step rows (rows.size - (r + 1)) r item items more e)

  wrong_told : (r : ℕ) → Wrong step rows whole r → first_wrong_of step rows whole ≡ some r
  unfolding first_wrong_of complete
  wrong_told r (unfit q item items a b e) =
      let z : rows.size - q ≡ suc (rows.size - (q + 1)) = omega arith in
      ap (complete rows.size) (ahead_read q (item ∷ items) a (omega arith) ∙ (ap (λ n. read step rows n (item ∷ items) q) z ∙ read_stop step rows (rows.size - (q + 1)) q item items e))
  wrong_told r (behind q a b) =
      ap (complete rows.size) (ahead_read q [] a (omega arith) ∙ read_none step rows (rows.size - q) q) ∙ some_complete rows.size q b
  wrong_told r (early item items a) =
      let z : rows.size - rows.size ≡ 0 = omega arith in
      ap (complete rows.size) (ahead_read rows.size (item ∷ items) a (omega arith) ∙ (ap (λ n. read step rows n (item ∷ items) rows.size) z ∙ read_end step rows item items rows.size))

  pub first_wrong_some : (r : ℕ) → (first_wrong_of step rows whole ≡ some r) ↔ Wrong step rows whole r
  first_wrong_some r = (wrong_first r, wrong_told r)

  -- no row is wrong exactly where all are taken, and nothing is ahead then
  pub first_wrong_iff : (first_wrong_of step rows whole ≡ none) ↔ Ahead step rows whole rows.size []
  first_wrong_iff = (
    λ h. ahead_end rows.size rows.size (first_wrong_none step rows whole h),
    λ a. none_first_wrong step rows whole (ahead_read rows.size [] a (omega arith) ∙ read_none step rows (rows.size - rows.size) rows.size),
  )

  -- where no row is wrong, what is ahead takes the next row
  pub record Next (item : Item) (items : List Item) (r : ℕ) : Type 0 where
    pub within : r < rows.size
    pub more : List Item
    pub said : step item (left rows r) (right rows r) ≡ some more
    pub ahead : Ahead step rows whole (r + 1) (more ++ items)

  pub ahead_next : first_wrong_of step rows whole ≡ none → (r : ℕ) (item : Item) (items : List Item) → r ≤ rows.size → Ahead step rows whole r (item ∷ items) → Next item items r
  ahead_next fit r item items b a = elim (ℕ_discrete r rows.size) [
    | yes z ↦ refuted rows.size (early item items (subst (λ k. Ahead step rows whole k (item ∷ items)) z a))
    | no z ↦ by_option (step item (left rows r) (right rows r)) (λ e. refuted r (unfit r item items a (omega arith) e))
        (λ more e. record { within = omega arith; more = more; said = e; ahead = after_row r item items more a e })
  ]
    where
      refuted : (q : ℕ) → Wrong step rows whole q → Next item items r
      refuted q w = absurd (none-ne-some q (sym fit ∙ wrong_told q w))

  -- each row before is taken
  pub ahead_taken : (r : ℕ) (items : List Item) (k : ℕ) → Ahead step rows whole r items → k < r → Taken step rows k
  ahead_taken r items k at_first b = absurd (omega arith)
  ahead_taken r' items' k (after_row r item items more a e) b = elim (ℕ_discrete k r) [
    | yes z ↦ record { item = item; more = more; said = ap (λ i. step item (left rows i) (right rows i)) z ∙ e }
    | no z ↦ ahead_taken r (item ∷ items) k a (omega arith)
  ]
