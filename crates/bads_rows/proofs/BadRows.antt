-- The rows of bads: items one after the other, then the end; and a bad met item by item.
use Prim.Native.Nat.{ℕ, zero, suc, ◌+◌, ◌-◌, ◌≤◌, ◌<◌}
use native.Mathlib.Decide.{ℕ_discrete, dec_lt}
use native.Mathlib.Omega.{arith}
use mathlib.Core.Path.{◌≡◌, refl, sym, ◌∙◌, ap}
use mathlib.Core.Bool.{Bool, true, not, ◌&&◌}
use mathlib.Core.List.{List, [], ◌∷◌, ◌++◌}
use mathlib.Core.Option.{some}
use lib.ListN.{take, drop, length-take, get_or-eq_default}
use lib.Dec.{leb, eqb}
use borrow.Author.Tests.{eq-eqb, ne_eqb, eqb-true}
use Rattle.model.specs.declared.Sizes.{Sizes}
use Rattle.model.specs.Words.{Columns, left, right, columns}
use Rattle.model.specs.Message.{bads_offset}
use Rattle.model.specs.Reader.{past, Grammar, read}
use Rattle.model.specs.Rows.{Program}
use Rattle.model.specs.Bads.{Part, bad, subject, minimum, detail, further, item, subject_step, detail_step, bad_step, bad_rows, Subject, past_heads_of, Item, item_at, items_from, met}
use Rattle.model.proofs.Logic.{test, and_left}
use Rattle.model.proofs.Index.{first_end, first_hit, first_miss, first_is}
use Rattle.model.proofs.Reader.{fits_some, by_option, past_wrong, past_row, read_none, read_end, read_stop, read_go}
use Rattle.bads_rows.specs.Items.{subject_from, item_from, items_at}

module _ {Item : Type 0} (step : Grammar Item) (rows : Columns) where
  -- what is read to its end begins with a row that fits
  record Fitting (m r q : ℕ) (x : Item) (xs : List Item) : Type 0 where
    pub rest : ℕ
    pub turn : m ≡ suc rest
    pub more : List Item
    pub said : step x (left rows r) (right rows r) ≡ some more
    pub goes_on : read step rows rest (more ++ xs) (r + 1) ≡ past q

  fitting : (m r q : ℕ) (x : Item) (xs : List Item) → read step rows m (x ∷ xs) r ≡ past q → Fitting m r q x xs
  fitting zero r q x xs h = past_wrong q r (sym h ∙ read_end step rows x xs r)
  fitting (suc m) r q x xs h =
      by_option (step x (left rows r) (right rows r)) (λ e. past_wrong q r (sym h ∙ read_stop step rows m r x xs e))
      (λ more e. record { rest = m; turn = refl; more = more; said = e; goes_on = sym (read_go step rows m r x xs more e) ∙ h })

-- the heads of an item
module _ (rows : Columns) where
  abbrev no_head : ℕ → Bool
  no_head i = not (eqb (left rows i) 45)

  pub heads_over : (r : ℕ) → (left rows r ≡ 45 → ⊥) → past_heads_of rows r ≡ r
  unfolding past_heads_of
  heads_over r h = elim (dec_lt r rows.size) [
    | yes below ↦ first_hit r rows.size no_head below (rw (ne_eqb (left rows r) 45 h))
    | no beyond ↦ first_end r rows.size no_head (omega arith)
  ]

  pub heads_next : (r : ℕ) → r < rows.size → left rows r ≡ 45 → past_heads_of rows r ≡ past_heads_of rows (r + 1)
  unfolding past_heads_of
  heads_next r b h = first_miss r rows.size no_head b (rw (eq-eqb (left rows r) 45 h))

  -- the row behind them is not before the first, and is past the rows only where that is
  pub heads_bounds : (r : ℕ) → (r ≤ past_heads_of rows r) × (past_heads_of rows r ≤ r + (rows.size - r))
  unfolding past_heads_of
  heads_bounds r = elim (dec_lt r rows.size) [
    | yes below ↦ let w = first_is r rows.size no_head (omega arith) in (w.from, omega (arith, w.upto))
    | no beyond ↦ let e = first_end r rows.size no_head (omega arith) in (omega arith, omega arith)
  ]

module _ (p : Program) (rows : Columns) (inside : (r : ℕ) → 0 < left rows r → r < rows.size) where
  abbrev reading : ℕ → List Part → ℕ → ℕ → Type 0
  reading m parts i q = read (bad_step p) rows m parts i ≡ past q

  -- two parts that say the same to a row read alike from it
  read_alike : (m i q : ℕ) (x y : Part) (xs : List Part) → bad_step p x (left rows i) (right rows i) ≡ bad_step p y (left rows i) (right rows i) → reading m (x ∷ xs) i q → reading m (y ∷ xs) i q
  read_alike m i q x y xs e h =
      let a = fitting (bad_step p) rows m i q x xs h in
      rw a.turn (read_go (bad_step p) rows a.rest i y xs a.more (sym e ∙ a.said) ∙ a.goes_on)

  -- so many heads and the minimum
  detail_rows : (a m i q : ℕ) → reading m (detail a ∷ further ∷ []) i q → (l : ℕ) × reading l (further ∷ []) (past_heads_of rows i + 1) q
  unfolding bad_step detail_step
  detail_rows zero m i q h =
      let b = fitting (bad_step p) rows m i q (detail zero) (further ∷ []) h in
      let (fit, None-more) = fits_some _ [] b.more b.said in
      let tag = eqb-true (left rows i) 43 (and_left _ _ fit) in
      let e = heads_over rows i (λ z. omega arith) in
      (b.rest, rw e (rw (sym None-more) at b.goes_on))
  detail_rows (suc a) m i q h =
      let b = fitting (bad_step p) rows m i q (detail (suc a)) (further ∷ []) h in
      let (fit, one_more) = fits_some _ (detail a ∷ []) b.more b.said in
      let tag = eqb-true (left rows i) 45 (and_left _ _ fit) in
      let e = heads_next rows i (inside i (omega arith)) tag in
      rw e (detail_rows a b.rest (i + 1) q (rw (sym one_more) at b.goes_on))

  minimum_rows : (a m i q : ℕ) → reading m (minimum a ∷ further ∷ []) i q → (l : ℕ) × reading l (further ∷ []) (past_heads_of rows i + 1) q
  unfolding bad_step
  minimum_rows a m i q h = test (eqb (left rows i) 45)
      (λ z. detail_rows a m i q (read_alike m i q (minimum a) (detail a) (further ∷ []) (rw (z, bad_step)) h))
      (λ z. detail_rows 0 m i q (read_alike m i q (minimum a) (detail 0) (further ∷ []) (rw (z, bad_step)) h))

  -- a subject is a row by itself, before a minimum
  subject_more : (t n : ℕ) (more : List Part) → bad_step p subject t n ≡ some more → (a : ℕ) × (more ≡ minimum a ∷ [])
  unfolding bad_step subject_step
  subject_more t n more e =
      test (eqb t 41) (λ z. (_, sym (fits_some _ (minimum 0 ∷ []) more (rw (z, subject_step) at e)).1))
      (λ z. (_, sym (fits_some _ _ more (rw (z, subject_step) at e)).1))

  -- an item's first row
  first_item : (t n : ℕ) (more : List Part) → bad_step p bad t n ≡ some more → more ≡ item
  unfolding bad_step
  first_item t n more e = sym (fits_some _ item more e).1

  further_item : (t n : ℕ) (more : List Part) → t ≡ 40 → bad_step p further t n ≡ some more → more ≡ item
  unfolding bad_step
  further_item t n more z e = sym (fits_some _ item more (rw z at e)).1

  -- the last row
  no_further : (t n : ℕ) (more : List Part) → (t ≡ 40 → ⊥) → bad_step p further t n ≡ some more → more ≡ []
  unfolding bad_step
  no_further t n more z e =
      test (eqb t 44) (λ y. sym (fits_some _ [] more (rw (y, bad_step) at e)).1)
      (λ y. absurd (z (eqb-true t 40 (and_left _ _ (fits_some _ item more (rw (y, bad_step) at e)).0))))

  -- the rows of an item, by its first
  item_rows : (m i q : ℕ) (x : Part) → reading m (x ∷ []) i q → ((more : List Part) → bad_step p x (left rows i) (right rows i) ≡ some more → more ≡ item) → (l : ℕ) × reading l (further ∷ []) (past_heads_of rows (i + 2) + 1) q
  item_rows m i q x h is-item =
      let a = fitting (bad_step p) rows m i q x [] h in
      let b = fitting (bad_step p) rows a.rest (i + 1) q subject (further ∷ []) (rw (is-item a.more a.said) at a.goes_on) in
      let (heads, one_more) = subject_more _ _ b.more b.said in
      let e : i + 1 + 1 ≡ i + 2 = omega arith in
      minimum_rows heads b.rest (i + 2) q (rw (one_more, e) at b.goes_on)

  pub bad_first : (m r q i : ℕ) → i ≡ past_heads_of rows (r + 2) + 1 → reading m (bad ∷ []) r q → (l : ℕ) × reading l (further ∷ []) i q
  bad_first m r q i e h = rw e (item_rows m r q bad h (λ more. first_item _ _ more))

  pub bad_next : (m i q j : ℕ) → j ≡ past_heads_of rows (i + 2) + 1 → reading m (further ∷ []) i q → left rows i ≡ 40 → (l : ℕ) × reading l (further ∷ []) j q
  bad_next m i q j e h z = rw e (item_rows m i q further h (λ more. further_item _ _ more z))

  pub bad_last : (m i q : ℕ) → reading m (further ∷ []) i q → (left rows i ≡ 40 → ⊥) → q ≡ i + 1
  bad_last m i q h z =
      let a = fitting (bad_step p) rows m i q further [] h in
      sym (past_row (i + 1) q (sym (read_none (bad_step p) rows a.rest (i + 1)) ∙ (rw (no_further _ _ a.more z a.said) at a.goes_on)))

-- past the rows there is no tag
pub bad_inside : (ws : List ℕ) (s : Sizes) (r t : ℕ) → t ≡ left (bad_rows ws s) r → 0 < t → r < s.badrows
unfolding bad_rows left columns
bad_inside ws s r t e h = elim (dec_lt r s.badrows) [
  | yes below ↦ below
  | no beyond ↦
      let l = length-take s.badrows (drop (bads_offset s + 2) ws) in
      let z = get_or-eq_default (take s.badrows (drop (bads_offset s + 2) ws)) 0 {n = r} (omega arith) in
      absurd (omega arith)
]

-- The items from a row on: the one that stands there and those behind it, or none
module _ (rows : Columns) (inside : (r : ℕ) → 0 < left rows r → r < rows.size) where
  -- the row behind the item whose first row is r
  abbrev pub row_behind : ℕ → ℕ
  row_behind r = past_heads_of rows (r + 2) + 1

  items_turn : (m r : ℕ) → left rows r ≡ 40 → items_from rows (suc m) r ≡ item_from rows r ∷ items_from rows m (row_behind r)
  unfolding items_from item_from
  items_turn m r h = rw (eq-eqb _ _ h, items_from)

  items_rest : (m r : ℕ) → (left rows r ≡ 40 → ⊥) → items_from rows m r ≡ []
  unfolding items_from
  items_rest zero r h = refl
  items_rest (suc m) r h = rw (ne_eqb _ _ h, items_from)

  -- as many rows as there are left, or more
  items_fuel : (m m' r : ℕ) → rows.size ≤ r + m → rows.size ≤ r + m' → items_from rows m r ≡ items_from rows m' r
  items_fuel zero m' r a b = let past : left rows r ≡ 40 → ⊥ = λ h. let w = inside r (omega arith) in omega arith in items_rest zero r past ∙ sym (items_rest m' r past)
  items_fuel (suc m) zero r a b = let past : left rows r ≡ 40 → ⊥ = λ h. let w = inside r (omega arith) in omega arith in items_rest (suc m) r past ∙ sym (items_rest zero r past)
  items_fuel (suc m) (suc m') r a b = elim (ℕ_discrete (left rows r) 40) [
    | yes e ↦
        let w = (heads_bounds rows (r + 2)).0 in
        items_turn m r e ∙ (ap (λ is. item_from rows r ∷ is) (items_fuel m m' (row_behind r) (omega arith) (omega arith)) ∙ sym (items_turn m' r e))
    | no e ↦ items_rest (suc m) r e ∙ sym (items_rest (suc m') r e)
  ]

  pub items_next : (r : ℕ) → left rows r ≡ 40 → items_at rows r ≡ item_from rows r ∷ items_at rows (row_behind r)
  unfolding items_at
  items_next r h =
      let t : rows.size - r ≡ suc (rows.size - (r + 1)) = let w = inside r (omega arith) in omega arith in
      let w = (heads_bounds rows (r + 2)).0 in
      ap (λ m. items_from rows m r) t ∙ (items_turn (rows.size - (r + 1)) r h ∙ ap (λ is. item_from rows r ∷ is) (items_fuel _ _ (row_behind r) (omega arith) (omega arith)))

  pub items_over : (r : ℕ) → (left rows r ≡ 40 → ⊥) → items_at rows r ≡ []
  unfolding items_at
  items_over r h = items_rest (rows.size - r) r h

  -- a bad met item by item
  module _ (counts : Subject → ℕ) where
    pub met_item : (r : ℕ) → left rows r ≡ 40 → met counts (items_at rows r) ≡ (leb (right rows (past_heads_of rows (r + 2))) (counts (subject_from rows r)) && met counts (items_at rows (row_behind r)))
    unfolding met item_from item_at subject_from
    met_item r h = ap (met counts) (items_next r h)

    pub met_over : (r : ℕ) → (left rows r ≡ 40 → ⊥) → met counts (items_at rows r) ≡ true
    unfolding met
    met_over r h = ap (met counts) (items_over r h)
