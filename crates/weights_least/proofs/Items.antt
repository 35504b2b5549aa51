-- The items of a bad put one after the other, by the code's values.
use Prim.Native.Nat.{ℕ, ◌+◌, ◌-◌, ◌*◌, ◌≤◌, ◌<◌}
use native.Mathlib.Decide.{ℕ_discrete}
use native.Mathlib.Omega.{arith}
use native.Mathlib.Nat.{mul-le-mul_right, mul-zero}
use mathlib.Core.Path.{◌≡◌, refl, sym, ◌∙◌, ap}
use mathlib.Core.Bool.{Bool, true, false, not, ◌&&◌, ◌||◌}
use mathlib.Core.List.{List, ◌∷◌}
use lib.ListN.{length, get_or}
use lib.Dec.{eqb}
use borrow.Author.Tests.{eq-eqb, ne_eqb, not-false}
use Rattle.model.specs.declared.Sizes.{Sizes}
use Rattle.model.specs.Index.{any}
use Rattle.model.specs.Words.{Columns, left, right}
use Rattle.model.specs.Rows.{Program, program}
use Rattle.model.specs.Tables.{Tables, tables}
use Rattle.model.specs.Letters.{Letter}
use Rattle.model.specs.Bads.{bad_rows, Subject, at_head, of_letters, of_letter, past_heads_of, subject_at, Item, item_at}
use Rattle.model.specs.Counters.{counter_count, counts}
use Rattle.model.specs.Markings.{Marking}
use Rattle.model.specs.Weights.{Line, lines_of, weighed, is_single_of, fill, fill_those, least_counts, least_weight_of, without_counter}
use Rattle.model.proofs.Logic.{true_false, or_false_left, or_false_right}
use Rattle.model.proofs.Index.{any_elim, total_none}
use Rattle.ceilings.specs.Table.{held}
use Rattle.bads_rows.specs.Items.{Range, subject_from, item_from, items_at}
use Rattle.bads_rows.proofs.BadRows.{items_next, items_over}
use Rattle.bads_rows.proofs.Walking.{inside, row_range}
use Rattle.weights_least.specs.Least.{counters_of, line_of, Weighable, counts_in, PutLacking, in_pass, HasCounter, AllCounted, Grown}
use Rattle.weights_least.proofs.Lightest.{in_range}
use Rattle.weights_least.proofs.Filling.{filled_in, grown}

-- Which items are on a single letter, by their rows
single_by : (a b : Bool) (c n : ℕ) (l : Letter) → is_single_of (elim a [ true ↦ at_head c n | false ↦ elim b [ true ↦ of_letters c n | false ↦ of_letter c l ] ]) ≡ (not b && not a)
unfolding is_single_of
single_by true true c n l = refl
single_by true false c n l = refl
single_by false true c n l = refl
single_by false false c n l = refl

module _ (rows : Columns) (r next : ℕ) (next_is : next ≡ past_heads_of rows (r + 2) + 1) where
  single_is : is_single_of (subject_from rows r) ≡ (not (eqb (past_heads_of rows (r + 2)) (r + 2)) && not (eqb (left rows (r + 1)) 41))
  unfolding subject_from subject_at
  single_is = single_by (eqb (left rows (r + 1)) 41) (eqb (past_heads_of rows (r + 2)) (r + 2)) _ _ _

  single_rows : is_single_of (subject_from rows r) ≡ (not (eqb next (r + 3)) && not (eqb (left rows (r + 1)) 41))
  single_rows = single_is ∙ ap (λ b. not b && not (eqb (left rows (r + 1)) 41)) same
    where
      same : eqb (past_heads_of rows (r + 2)) (r + 2) ≡ eqb next (r + 3)
      same = elim (ℕ_discrete next (r + 3)) [
        | yes e ↦ eq-eqb (past_heads_of rows (r + 2)) (r + 2) (omega arith) ∙ sym (eq-eqb next (r + 3) e)
        | no e ↦ ne_eqb (past_heads_of rows (r + 2)) (r + 2) (λ z. e (omega arith)) ∙ sym (ne_eqb next (r + 3) e)
      ]

  pub single_tag : (tag : ℕ) → (next ≡ r + 3 → ⊥) → tag ≡ left rows (r + 1) → not (eqb tag 41) ≡ is_single_of (subject_from rows r)
  single_tag tag h e = rw (e, single_rows, ne_eqb next (r + 3) h) refl

  pub single_none : next ≡ r + 3 → not (eqb next (r + 3)) ≡ is_single_of (subject_from rows r)
  single_none h = rw (single_rows, eq-eqb next (r + 3) h) refl

-- the items of a pass
pub pass_of : (single b : Bool) (k : Subject) → b ≡ is_single_of k → (single ≡ true → b ≡ in_pass single k) × (single ≡ false → not b ≡ in_pass single k)
unfolding in_pass
pass_of true b k h = (λ e. h, λ e. true_false refl e)
pass_of false b k h = (λ e. true_false e refl, λ e. ap not h)

module _ (ws : List ℕ) (s : Sizes) where
  abbrev p : Program
  p = program ws s

  abbrev t : Tables
  t = tables ws s

  abbrev rows : Columns
  rows = bad_rows ws s

  abbrev n : ℕ
  n = counters_of ws s

  -- One item
  module _ (weights froms tos : List ℕ) (ready : Weighable ws s weights froms tos) (r : ℕ) (low : r < s.badrows) where
    range : Range p t (subject_from rows r) (get_or froms r 0) (get_or tos r 0)
    range = row_range ws s froms tos ready.items_table r low

    module _ (from to : ℕ) (from_is : from ≡ get_or froms r 0) (to_is : to ≡ get_or tos r 0) where
      pub range_low : to ≤ n
      range_low = omega (arith, range.upto)

      pub range_some : HasCounter ws s r → from < to
      range_some h = let (x, w, c) = any_elim 0 n (counts p t (subject_from rows r)) h in omega (arith, in_range p t (subject_from rows r) _ _ x range w.1 c)

      -- the weights of the range stand in the table
      pub weights_room : to * s.lines ≤ length weights
      unfolding lines_of
      weights_room = omega (arith, ready.weights_table.room, mul-le-mul_right s.lines range_low)

      -- what was put fills the item in
      module _ (k : ℕ) (below : k < s.lines) (minimum next : ℕ) (next_is : next ≡ past_heads_of rows (r + 2) + 1) (minimum-is : minimum ≡ right rows (next - 1)) (before after : List ℕ) (weight : ℕ) (put : PutLacking (held weights s.lines k) from to minimum before after weight) where
        same : (x : ℕ) → x < n → held weights s.lines k x ≡ line_of ws s k x
        unfolding lines_of
        same x h = ready.weights_table.weight k x below h

        same_within : (x : ℕ) → from ≤ x → x < to → held weights s.lines k x ≡ line_of ws s k x
        same_within x lo hi = same x (omega (arith, range_low))

        item_range : Range p t (item_from rows r).subject from to
        unfolding item_from item_at subject_from
        item_range = rw (from_is, to_is) range

        item_put : PutLacking (held weights s.lines k) from to (item_from rows r).minimum before after weight
        unfolding item_from item_at
        item_put = let e : next - 1 ≡ past_heads_of rows (r + 2) = omega arith in rw (minimum-is, e) at put

        pub item_filled : counts_in n after ≡ fill p t (line_of ws s k) (item_from rows r) (counts_in n before)
        item_filled = filled_in p t _ (line_of ws s k) (item_from rows r) from to item_range same_within before after weight item_put

        pub item_grown : Grown n (line_of ws s k) (counts_in n before) (counts_in n after) weight
        item_grown = grown p t _ (line_of ws s k) (item_from rows r) from to item_range same_within before after weight item_put

  -- one item more
  fill_first : (w : Line) (which : Subject → Bool) (i : Item) (is : List Item) (m : Marking) (b : Bool) → which i.subject ≡ b → fill_those p t w which (i ∷ is) m ≡ fill_those p t w which is (elim b [ true ↦ fill p t w i m | false ↦ m ])
  unfolding fill_those
  fill_first w which i is m b h = rw (h, fill_those) refl

  -- The items from row i on
  module _ (i tag : ℕ) (tag_is : tag ≡ left rows i) where
    module _ (w : Line) (which : Subject → Bool) (m : Marking) where
      pub those_over : (tag ≡ 40 → ⊥) → fill_those p t w which (items_at rows i) m ≡ m
      unfolding fill_those
      those_over h = rw (items_over rows (inside ws s) i (λ z. h (tag_is ∙ z))) refl

      module _ (is-item : tag ≡ 40) (next : ℕ) (next_is : next ≡ past_heads_of rows (i + 2) + 1) where
        those_next : fill_those p t w which (items_at rows i) m ≡ fill_those p t w which (item_from rows i ∷ items_at rows next) m
        those_next = ap (λ is. fill_those p t w which is m) (items_next rows (inside ws s) i (sym tag_is ∙ is-item) ∙ rw next_is refl)

        pub those_in : which (subject_from rows i) ≡ true → fill_those p t w which (items_at rows i) m ≡ fill_those p t w which (items_at rows next) (fill p t w (item_from rows i) m)
        unfolding item_from item_at subject_from
        those_in h = those_next ∙ fill_first w which (item_from rows i) (items_at rows next) m true h

        pub those_out : which (subject_from rows i) ≡ false → fill_those p t w which (items_at rows i) m ≡ fill_those p t w which (items_at rows next) m
        unfolding item_from item_at subject_from
        those_out h = those_next ∙ fill_first w which (item_from rows i) (items_at rows next) m false h

    -- whether one of them has no counter
    pub without_over : (tag ≡ 40 → ⊥) → without_counter p t (items_at rows i) ≡ false
    unfolding without_counter
    without_over h = ap (without_counter p t) (items_over rows (inside ws s) i (λ z. h (tag_is ∙ z)))

    module _ (is-item : tag ≡ 40) (next : ℕ) (next_is : next ≡ past_heads_of rows (i + 2) + 1) where
      abbrev none_here : Bool
      none_here = not (any 0 n (counts p t (subject_from rows i)))

      abbrev none_later : Bool
      none_later = without_counter p t (items_at rows next)

      pub without_item : without_counter p t (items_at rows i) ≡ (none_here || none_later)
      unfolding without_counter item_from item_at subject_from
      without_item =
          let e : items_at rows i ≡ item_from rows i ∷ items_at rows next = rw next_is (items_next rows (inside ws s) i (sym tag_is ∙ is-item)) in
          ap (without_counter p t) e

      module _ (counted : AllCounted ws s i) where
        pub item_counted : HasCounter ws s i
        item_counted = not-false _ (or_false_left none_here none_later (sym without_item ∙ counted))

        pub rest_counted : AllCounted ws s next
        rest_counted = or_false_right none_here none_later (sym without_item ∙ counted)

-- Both passes, from no counts
module _ (p : Program) (t : Tables) (w : Line) (is : List Item) where
  abbrev all : ℕ
  all = counter_count p t

  nothing : weighed all w (λ x. 0) ≡ 0
  unfolding weighed
  nothing = total_none 0 all (λ x. w x * 0) (λ x lo hi. mul-zero (w x))

  pub least_found : (m₀ m₁ m₂ : Marking) (a b : ℕ) → m₀ ≡ (λ x. 0) → m₁ ≡ fill_those p t w (in_pass true) is m₀ → m₂ ≡ fill_those p t w (in_pass false) is m₁ → Grown all w m₀ m₁ a → Grown all w m₁ m₂ b → a + b ≡ least_weight_of p t w is
  unfolding in_pass least_weight_of least_counts
  least_found m₀ m₁ m₂ a b e₀ e₁ e₂ g h =
      let z = ap (weighed all w) e₀ ∙ nothing in
      let l : m₂ ≡ least_counts p t w is = e₂ ∙ ap (fill_those p t w (λ k. not (is_single_of k)) is) (e₁ ∙ ap (fill_those p t w is_single_of is) e₀) in
      let x = ap (weighed all w) l in
      omega (arith, g, h, z, x)
