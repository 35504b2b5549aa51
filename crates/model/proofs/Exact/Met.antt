-- A bad is met, as specs/Met.antt says it, exactly where the test over its rows passes.
use Prim.Native.Nat.{ℕ, zero, suc, ◌+◌, ◌-◌, ◌≤◌, ◌<◌}
use native.Mathlib.Decide.{ℕ_discrete, dec_lt}
use native.Mathlib.Omega.{arith}
use mathlib.Core.Path.{◌≡◌, refl, sym, ◌∙◌, ap, subst}
use mathlib.Core.Bool.{true, not}
use mathlib.Core.Logic.Iff
use mathlib.Core.Logic.{◌↔◌, ◌⊎◌, inl, inr, ⊎_elim}
use mathlib.Core.List.Memᴰ
use mathlib.Core.List.{List, [], ◌∷◌, ◌++◌, Memᴰ}
use mathlib.Core.Option.{none}
use lib.ListN.{replicate}
use lib.Dec.{eqb}
use borrow.Author.Tests.{eq-eqb, ne_eqb}
use Rattle.model.specs.Words.{Columns, left, right}
use Rattle.model.specs.Reader.{first_wrong_of}
use Rattle.model.specs.Rows.{Program}
use Rattle.model.specs.Bads.{Part, bad, subject, minimum, detail, further, item, bad_step, bad_row_of, Subject, at_head, of_letters, of_letter, past_heads_of, numbers, subject_at, item_at, items_from, items, met}
use Rattle.model.specs.Bads.{Item as Bad-item}
use Rattle.model.specs.Met.{Item, of_states, of_sum, of_one, closed_before, AllMet, MetExactly}
use Rattle.model.specs.Refusals.{Ahead}
use Rattle.model.proofs.Logic.{not_passes, not_fails}
use Rattle.model.proofs.Index.{first_unique}
use Rattle.model.proofs.Exact.Tests.{leb_iff, and_iff}
use Rattle.model.proofs.Exact.Bads.{Taken, first_item, another, closing, taken_subject, taken_alone, taken_minimum, taken_last, taken_next, closed_on, closed_same, closed_rises, stands, Takes, takes, minimum_from_one}

-- The rows of the item whose first row is r: its minimum stands in row e, and between there are heads.
record ItemRows (rows : Columns) (r e : ℕ) : Type 0 where
  first : left rows r ≡ 40
  second : ((left rows (r + 1) ≡ 41) × (e ≡ r + 2)) ⊎ (left rows (r + 1) ≡ 42)
  behind : r + 2 ≤ e
  heads : (i : ℕ) → r + 2 ≤ i → i < e → left rows i ≡ 45
  last : left rows e ≡ 43

-- the first row that is no head is the minimum's
past_is : (rows : Columns) (r e : ℕ) → e < rows.size → ItemRows rows r e → past_heads_of rows (r + 2) ≡ e
unfolding past_heads_of
past_is rows r e b i =
    first_unique (r + 2) rows.size e (λ j. not (eqb (left rows j) 45)) (omega (arith, i.behind)) (record {
      from = i.behind;
      upto = omega arith;
      passes = λ z. not_passes (eqb (left rows e) 45) (ne_eqb (left rows e) 45 (λ w. omega (arith, i.last)));
      before = λ j lo hi. not_fails (eqb (left rows j) 45) (eq-eqb (left rows j) 45 (i.heads j lo hi));
    })

-- an item's first tag, what it counts and its minimum
item_tag : (rows : Columns) (r : ℕ) (k : Subject) (n : ℕ) → Item rows r k n → left rows r ≡ 40
item_tag rows r k n (of_states a b c) = a
item_tag rows r k n (of_sum a b c) = a
item_tag rows r k n (of_one e l a b h c) = a

subject_states : (rows : Columns) (r e : ℕ) → left rows (r + 1) ≡ 41 → subject_at rows r e ≡ at_head (right rows r) (right rows (r + 1))
unfolding subject_at
subject_states rows r e a = rw (eq-eqb (left rows (r + 1)) 41 a, subject_at)

subject_sum : (rows : Columns) (r e : ℕ) → left rows (r + 1) ≡ 42 → e ≡ r + 2 → subject_at rows r e ≡ of_letters (right rows r) (right rows (r + 1))
unfolding subject_at
subject_sum rows r e a z = rw (ne_eqb (left rows (r + 1)) 41 (λ w. omega arith), eq-eqb e (r + 2) z, subject_at)

subject_one : (rows : Columns) (r e : ℕ) → left rows (r + 1) ≡ 42 → r + 2 < e → subject_at rows r e ≡ of_letter (right rows r) (right rows (r + 1) ∷ numbers rows (r + 2) e)
unfolding subject_at
subject_one rows r e a l = rw (ne_eqb (left rows (r + 1)) 41 (λ w. omega arith), ne_eqb e (r + 2) (λ w. omega arith), subject_at)

-- where the minimum is told by two ways, it is one
one_end : (rows : Columns) (r e d : ℕ) → ItemRows rows r e → r + 2 ≤ d → ((i : ℕ) → r + 2 ≤ i → i < d → left rows i ≡ 45) → left rows d ≡ 43 → e ≡ d
one_end rows r e d i lo heads last = elim (dec_lt e d) [
  | yes z ↦ absurd (omega (arith, heads e i.behind z, i.last))
  | no z ↦ elim (dec_lt d e) [
    | yes y ↦ absurd (omega (arith, i.heads d lo y))
    | no y ↦ omega arith
  ]
]

item_subject : (rows : Columns) (r e : ℕ) (k : Subject) (n : ℕ) → ItemRows rows r e → Item rows r k n → (subject_at rows r e ≡ k) × (right rows e ≡ n)
item_subject rows r e k n i (of_states a b c) =
    let z = one_end rows r e (r + 2) i (omega arith) (λ j lo hi. absurd (omega arith)) c in
    (subject_states rows r e b, ap (right rows) z)
item_subject rows r e k n i (of_sum a b c) =
    let z = one_end rows r e (r + 2) i (omega arith) (λ j lo hi. absurd (omega arith)) c in
    (subject_sum rows r e b z, ap (right rows) z)
item_subject rows r e k n i (of_one d l a b h c) =
    let z = one_end rows r e d i (omega arith) h c in
    (subject_one rows r e b (omega arith) ∙ ap (λ x. of_letter (right rows r) (right rows (r + 1) ∷ numbers rows (r + 2) x)) z, ap (right rows) z)

item_there : (rows : Columns) (r e : ℕ) → ItemRows rows r e → Item rows r (subject_at rows r e) (right rows e)
item_there rows r e i =
    ⊎_elim
    (λ h. rw (subject_states rows r e h.0, h.1) (of_states i.first h.0 (rw h.1 at i.last)))
    (λ h. elim (ℕ_discrete e (r + 2)) [
      | yes z ↦ rw (subject_sum rows r e h z, z) (of_sum i.first h (rw z at i.last))
      | no z ↦
          let b = i.behind in
          let l : r + 2 < e = omega arith in
          rw (subject_one rows r e h l) (of_one e l i.first h i.heads i.last)
    ])
    i.second

module _ (p : Program) (rows : Columns) (bads : ℕ) (fit : first_wrong_of (bad_step p) rows (replicate bads bad) ≡ none) where
  abbrev Before : ℕ → List Part → Type 0
  Before r items = Ahead (bad_step p) rows (replicate bads bad) r items

  abbrev closed : ℕ → ℕ
  closed r = closed_before rows r

  -- the row behind a bad's opening, or behind one of its items, begins an item or closes the bad
  data Opens : Part → Type 0 where
    opens_bad : Opens bad
    opens_further : Opens further

  -- heads from row q on, then the minimum
  record Ends (q : ℕ) (items : List Part) : Type 0 where
    at : ℕ
    from : q ≤ at
    heads : (i : ℕ) → q ≤ i → i < at → left rows i ≡ 45
    last : left rows at ≡ 43
    upto : at + 1 ≤ rows.size
    rest : Before (at + 1) (further ∷ items)

  ends_here : {q : ℕ} {x : Part} {items : List Part} (h : Takes p rows bads fit q x (further ∷ items)) → (left rows q ≡ 43) × ([] ≡ h.more) → (d : Ends q items) × (d.at ≡ q)
  ends_here {q} h (e, same) = (
    record { at = q; from = omega arith; heads = λ i lo hi. absurd (omega arith); last = e; upto = h.within; rest = h.rest [] same },
    refl,
  )

  ends_behind : {q : ℕ} {items : List Part} → left rows q ≡ 45 → Ends (q + 1) items → Ends q items
  ends_behind {q} e d =
      record {
        at = d.at;
        from = omega (arith, d.from);
        heads = λ i lo hi. elim (ℕ_discrete i q) [ yes z ↦ rw z e | no z ↦ d.heads i (omega arith) hi ];
        last = d.last;
        upto = d.upto;
        rest = d.rest;
      }

  ends_detail : (a q : ℕ) (items : List Part) → q ≤ rows.size → Before q (detail a ∷ further ∷ items) → Ends q items
  ends_detail zero q items b before =
      let h = takes p rows bads fit q (detail zero) (further ∷ items) b before in (ends_here h (taken_last h.row)).0
  ends_detail (suc a) q items b before =
      let h = takes p rows bads fit q (detail (suc a)) (further ∷ items) b before in
      let (e, same) = taken_next h.row in
      ends_behind e (ends_detail a (q + 1) items h.within (h.rest (detail a ∷ []) same))

  -- the minimum alone, and heads before it
  ends_alone : (q : ℕ) (items : List Part) → q ≤ rows.size → Before q (minimum 0 ∷ further ∷ items) → (d : Ends q items) × (d.at ≡ q)
  ends_alone q items b before = let h = takes p rows bads fit q (minimum 0) (further ∷ items) b before in ends_here h (taken_alone h.row)

  ends_minimum : (a q : ℕ) (items : List Part) → q ≤ rows.size → Before q (minimum a ∷ further ∷ items) → Ends q items
  ends_minimum zero q items b before = (ends_alone q items b before).0
  ends_minimum (suc a) q items b before =
      let h = takes p rows bads fit q (minimum (suc a)) (further ∷ items) b before in
      ⊎_elim (λ z. (ends_here h z).0) (λ z. ends_behind z.0 (ends_detail a (q + 1) items h.within (h.rest (detail a ∷ []) z.1))) (taken_minimum h.row)

  record NextItem (r : ℕ) (items : List Part) : Type 0 where
    at : ℕ
    here : ItemRows rows r at
    upto : at + 1 ≤ rows.size
    rest : Before (at + 1) (further ∷ items)

  next_item : (r : ℕ) (items : List Part) → left rows r ≡ 40 → (d : Ends (r + 2) items) → ((left rows (r + 1) ≡ 41) × (d.at ≡ r + 2)) ⊎ (left rows (r + 1) ≡ 42) → NextItem r items
  next_item r items e d second =
      record {
        at = d.at;
        here = record { first = e; second = second; behind = d.from; heads = d.heads; last = d.last };
        upto = d.upto;
        rest = d.rest;
      }

  begins_item : (r : ℕ) (items : List Part) → left rows r ≡ 40 → r + 1 ≤ rows.size → Before (r + 1) (item ++ items) → NextItem r items
  begins_item r items e b a =
      let h = takes p rows bads fit (r + 1) subject (further ∷ items) b a in
      let y : r + 1 + 1 ≡ r + 2 = omega arith in
      let within : r + 2 ≤ rows.size = rw y at h.within in
      ⊎_elim
      (λ z. let (d, alone) = ends_alone (r + 2) items within (rw y at (h.rest (minimum 0 ∷ []) z.1)) in next_item r items e d (inl (z.0, alone)))
      (λ z. let (n, (u, same)) = z in next_item r items e (ends_minimum n (r + 2) items within (rw y at (h.rest (minimum n ∷ []) same))) (inr u))
      (taken_subject h.row)

  opened : (r : ℕ) (x : Part) (items : List Part) → Opens x → Takes p rows bads fit r x items → NextItem r items ⊎ (left rows r ≡ 44)
  opened r x items opens_bad h = by_row h.row
    where
      by_row : Taken (left rows r) h.more bad → NextItem r items ⊎ (left rows r ≡ 44)
      by_row (first_item e q) = inl (begins_item r items e h.within (h.rest item q))
  opened r x items opens_further h = by_row h.row
    where
      by_row : Taken (left rows r) h.more further → NextItem r items ⊎ (left rows r ≡ 44)
      by_row (another e q) = inl (begins_item r items e h.within (h.rest item q))
      by_row (closing e q) = inr e

  -- the items from an item on
  items_next : (n r e : ℕ) → left rows r ≡ 40 → past_heads_of rows (r + 2) ≡ e → items_from rows (suc n) r ≡ item_at rows r e ∷ items_from rows n (e + 1)
  unfolding items_from
  items_next n r e z past = rw (eq-eqb _ 40 z, items_from, past)

  -- the minimum of each is from 1
  low_there : (n r : ℕ) (x : Part) (items : List Part) → Opens x → r ≤ rows.size → rows.size ≤ r + n → Before r (x ∷ items) → (i : Bad-item) → Memᴰ i (items_from rows n r) → 1 ≤ i.minimum
  unfolding items_from item_at
  low_there zero r x items o b l a i m = absurd (Memᴰ.not-nil m)
  low_there (suc n) r x items o b l a i m =
      ⊎_elim
      (λ y. let past = past_is rows r y.at (omega (arith, y.upto)) y.here in
      ⊎_elim
      (λ e. subst (λ (u : Bad-item). 1 ≤ u.minimum) (sym e) (minimum_from_one p rows bads fit y.at (omega (arith, y.upto)) y.here.last))
      (λ j. low_there n (y.at + 1) further items opens_further y.upto (omega (arith, y.here.behind)) y.rest i j)
      (Memᴰ.cases_cons (subst (λ (is : List Bad-item). Memᴰ i is) (items_next n r y.at y.here.first past) m)))
      (λ e. absurd (Memᴰ.not-nil (rw (ne_eqb (left rows r) 40 (λ z. omega arith), items_from) at m)))
      (opened r x items o (takes p rows bads fit r x items b a))

  pub items_low : (j : ℕ) → j < bads → (i : Bad-item) → Memᴰ i (items p rows j) → 1 ≤ i.minimum
  unfolding items
  items_low j b =
      let s = stands p rows bads fit j (bads - (j + 1)) (omega arith) in
      low_there (rows.size - bad_row_of p rows j) (bad_row_of p rows j) bad _ opens_bad s.within (omega (arith, s.within)) s.ahead

  module _ (counts : Subject → ℕ) where
    -- the items of the same bad from row r on are met
    abbrev MetFrom : ℕ → Type 0
    MetFrom r = (q : ℕ) → r ≤ q → q < rows.size → closed q ≡ closed r → (k : Subject) (n : ℕ) → Item rows q k n → n ≤ counts k

    abbrev MetAt : ℕ → ℕ → Type 0
    MetAt r e = right rows e ≤ counts (subject_at rows r e)

    test_item : (n r e : ℕ) → left rows r ≡ 40 → past_heads_of rows (r + 2) ≡ e → (met counts (items_from rows (suc n) r) ≡ true) ↔ (MetAt r e × (met counts (items_from rows n (e + 1)) ≡ true))
    unfolding items_from item_at met
    test_item n r e z past = rw (eq-eqb _ 40 z, items_from, past) (and_iff _ _ (leb_iff (right rows e) (counts (subject_at rows r e))) Iff.rfl)

    no_item : (q r : ℕ) (k : Subject) (n : ℕ) {A : Type 0} → q ≡ r → (left rows r ≡ 40 → ⊥) → Item rows q k n → A
    no_item q r k n same out i = absurd (out (sym (ap (left rows) same) ∙ item_tag rows q k n i))

    -- no row from r up to q closes a bad
    closed_flat : (n r : ℕ) → ((i : ℕ) → r ≤ i → i < r + n → left rows i ≡ 44 → ⊥) → closed (r + n) ≡ closed r
    closed_flat zero r h = let z : r + 0 ≡ r = omega arith in ap closed z
    closed_flat (suc n) r h =
        let z : r + suc n ≡ r + n + 1 = omega arith in
        ap closed z ∙ (closed_same rows (r + n) (h (r + n) (omega arith) (omega arith)) ∙ closed_flat n r (λ i lo hi. h i lo (omega arith)))

    -- the tags of an item's rows, behind the first
    item_tags : (r e : ℕ) → ItemRows rows r e → (i : ℕ) → r < i → i ≤ e → (left rows i ≡ 40 → ⊥) × (left rows i ≡ 44 → ⊥)
    item_tags r e i j lo hi = elim (ℕ_discrete j (r + 1)) [
      | yes z ↦
          let same = ap (left rows) z in (
            λ w. ⊎_elim (λ (u : (left rows (r + 1) ≡ 41) × (e ≡ r + 2)). omega (arith, u.0)) (λ (u : left rows (r + 1) ≡ 42). omega arith) i.second,
            λ w. ⊎_elim (λ (u : (left rows (r + 1) ≡ 41) × (e ≡ r + 2)). omega (arith, u.0)) (λ (u : left rows (r + 1) ≡ 42). omega arith) i.second,
          )
      | no z ↦ elim (ℕ_discrete j e) [
        | yes y ↦ let same = ap (left rows) y in (λ w. omega (arith, i.last), λ w. omega (arith, i.last))
        | no y ↦ let h = i.heads j (omega arith) (omega arith) in (λ w. omega arith, λ w. omega arith)
      ]
    ]

    closed_behind : (r e : ℕ) → ItemRows rows r e → closed (e + 1) ≡ closed r
    closed_behind r e i =
        let b = i.behind in
        let z : r + (e + 1 - r) ≡ e + 1 = omega arith in
        sym (ap closed z) ∙ closed_flat (e + 1 - r) r
        (λ j lo hi w. elim (ℕ_discrete j r) [ yes y ↦ (let same = ap (left rows) y in omega (arith, i.first)) | no y ↦ (item_tags r e i j (omega arith) (omega arith)).1 w ])

    item_and_rest : (r : ℕ) (items : List Part) (i : NextItem r items) → (MetAt r i.at × MetFrom (i.at + 1)) ↔ MetFrom r
    item_and_rest r items i = (
      λ h q a b c k n it. elim (dec_lt i.at q) [
        | yes z ↦ h.1 q (omega arith) b (c ∙ sym (closed_behind r i.at i.here)) k n it
        | no z ↦ elim (ℕ_discrete q r) [
          | yes w ↦ this q k n w h.0 it
          | no w ↦ no_item q q k n refl (item_tags r i.at i.here q (omega arith) (omega arith)).0 it
        ]
      ],
      λ h. (
        h r (omega arith) (omega (arith, i.upto, i.here.behind)) refl _ _ (item_there rows r i.at i.here),
        λ q a b c. h q (omega (arith, i.here.behind)) b (c ∙ closed_behind r i.at i.here),
      ),
    )
      where
        this : (q : ℕ) (k : Subject) (n : ℕ) → q ≡ r → MetAt r i.at → Item rows q k n → n ≤ counts k
        this q k n same h it =
            let (u, v) = item_subject rows r i.at k n i.here (subst (λ x. Item rows x k n) same it) in
            let w : counts (subject_at rows r i.at) ≡ counts k = ap counts u in
            omega arith

    closed_met : (r : ℕ) → left rows r ≡ 44 → MetFrom r
    closed_met r e q a b same k n it = elim (ℕ_discrete q r) [
      | yes z ↦ no_item q r k n z (λ w. omega arith) it
      | no z ↦ absurd (omega (arith, closed_on rows r e, closed_rises rows (r + 1) q (omega arith)))
    ]

    met_there : (n r : ℕ) (x : Part) (items : List Part) → Opens x → r ≤ rows.size → rows.size ≤ r + n → Before r (x ∷ items) → (met counts (items_from rows n r) ≡ true) ↔ MetFrom r
    unfolding items_from met
    met_there zero r x items o b l a = (λ h q c d. absurd (omega arith), λ h. refl)
    met_there (suc n) r x items o b l a =
        ⊎_elim
        (λ i. Iff.trans (test_item n r i.at i.here.first (past_is rows r i.at (omega (arith, i.upto)) i.here))
        (Iff.trans (Iff.and Iff.rfl (met_there n (i.at + 1) further items opens_further i.upto (omega (arith, i.here.behind)) i.rest)) (item_and_rest r items i)))
        (λ e. (λ h. closed_met r e, λ h. rw (ne_eqb (left rows r) 40 (λ z. omega arith), items_from)))
        (opened r x items o (takes p rows bads fit r x items b a))

    met_iff : (j : ℕ) → j < bads → (met counts (items p rows j) ≡ true) ↔ AllMet counts rows j
    unfolding items
    met_iff j b =
        let s = stands p rows bads fit j (bads - (j + 1)) (omega arith) in
        Iff.trans (met_there (rows.size - bad_row_of p rows j) (bad_row_of p rows j) bad _ opens_bad s.within (omega (arith, s.within)) s.ahead) (
          λ h r c e k n i. elim (dec_lt r (bad_row_of p rows j)) [
            | yes z ↦ absurd (omega (arith, s.before r z))
            | no z ↦ h r (omega arith) c (e ∙ sym s.number) k n i
          ],
          λ h q a c e k n i. h q c (e ∙ s.number) k n i,
        )

pub met_exactly : MetExactly
met_exactly = met_iff
