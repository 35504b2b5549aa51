-- The rows of bads that are in form: what takes each row, and where bad number j stands.
use Prim.Native.Nat.{ℕ, zero, suc, ◌+◌, ◌-◌, ◌≤◌, ◌<◌}
use native.Mathlib.Omega.{arith}
use mathlib.Core.Path.{◌≡◌, refl, sym, ◌∙◌, ap, subst}
use mathlib.Core.Bool.{true, false, ◌&&◌}
use mathlib.Core.Logic.{◌⊎◌, inl, inr, ⊎_elim}
use mathlib.Core.List.{List, [], ◌∷◌, ◌++◌}
use mathlib.Core.Option.{some, none}
use lib.ListN.{length, replicate, length-replicate, replicate-append-replicate}
use lib.Dec.{leb, eqb}
use borrow.Author.Tests.{leb-true, eqb-true, eq-eqb, ne_eqb}
use Rattle.model.specs.Words.{Columns, left, right}
use Rattle.model.specs.Reader.{past, read, first_wrong_of}
use Rattle.model.specs.Rows.{Program}
use Rattle.model.specs.Bads.{Part, bad, subject, minimum, detail, further, item, letter_arity_of, subject_step, detail_step, bad_step, bad_row_of}
use Rattle.model.specs.Met.{closed_before}
use Rattle.model.specs.Refusals.{Ahead, at_first, after_row}
use Rattle.model.proofs.Logic.{test, and_right}
use Rattle.model.proofs.Index.{count_end, count_split, count_last, count_last_miss}
use Rattle.model.proofs.Reader.{read_range, read_split, after_past, first_wrong_none, fits_some}
use Rattle.model.proofs.Parse.Grammar.{fits_tag}
use Rattle.model.proofs.Exact.Reading.{ahead_past, ahead_next, ahead_taken, first_wrong_iff}

-- a row that a part takes: its tag, and what follows it
pub data Taken (t : ℕ) (more : List Part) : Part → Type 0 where
  first_item : t ≡ 40 → item ≡ more → Taken t more bad
  of_head : t ≡ 41 → minimum 0 ∷ [] ≡ more → Taken t more subject
  of_number : (a : ℕ) → t ≡ 42 → minimum a ∷ [] ≡ more → Taken t more subject
  least : {a : ℕ} → t ≡ 43 → [] ≡ more → Taken t more (minimum a)
  first_detail : {a : ℕ} → t ≡ 45 → detail a ∷ [] ≡ more → Taken t more (minimum (suc a))
  detailed_least : t ≡ 43 → [] ≡ more → Taken t more (detail 0)
  next_detail : {a : ℕ} → t ≡ 45 → detail a ∷ [] ≡ more → Taken t more (detail (suc a))
  another : t ≡ 40 → item ≡ more → Taken t more further
  closing : t ≡ 44 → [] ≡ more → Taken t more further

-- a part that is heads and then the minimum
taken_detail : (p : Program) (a t n : ℕ) (more : List Part) → detail_step p a t n ≡ some more → Taken t more (detail a)
unfolding detail_step
taken_detail p zero t n more h = let (e, q) = fits_tag t 43 _ _ more h in detailed_least e q
taken_detail p (suc a) t n more h = let (e, q) = fits_tag t 45 _ _ more h in next_detail e q

-- or the minimum alone
taken_least : (a t : ℕ) (more : List Part) → eqb t 45 ≡ false → Taken t more (detail 0) → Taken t more (minimum a)
taken_least a t more n (detailed_least e q) = least e q

taken_first : (a t : ℕ) (more : List Part) → eqb t 45 ≡ true → Taken t more (detail a) → Taken t more (minimum a)
taken_first zero t more n (detailed_least e q) = absurd (omega (arith, eqb-true t 45 n))
taken_first (suc a) t more n (next_detail e q) = first_detail e q

pub taken : (p : Program) (x : Part) (t n : ℕ) (more : List Part) → bad_step p x t n ≡ some more → Taken t more x
unfolding bad_step subject_step
taken p bad t n more h = let (e, q) = fits_tag t 40 _ _ more h in first_item e q
taken p subject t n more h =
    test (eqb t 41)
    (λ e. of_head (eqb-true t 41 e) (fits_some _ (minimum 0 ∷ []) more (rw (e, bad_step, subject_step) at h)).1)
    (λ e. let (z, q) = fits_tag t 42 _ _ more (rw (e, bad_step, subject_step) at h) in of_number (letter_arity_of p n) z q)
taken p (minimum a) t n more h =
    test (eqb t 45)
    (λ e. taken_first a t more e (taken_detail p a t n more (rw (e, bad_step) at h)))
    (λ e. taken_least a t more e (taken_detail p 0 t n more (rw (e, bad_step) at h)))
taken p (detail a) t n more h = taken_detail p a t n more h
taken p further t n more h =
    test (eqb t 44) (λ e. closing (eqb-true t 44 e) (fits_some _ [] more (rw (e, bad_step) at h)).1)
    (λ e. let (z, q) = fits_tag t 40 _ _ more (rw (e, bad_step) at h) in another z q)

-- the same by the part
pub taken_subject : {t : ℕ} {more : List Part} → Taken t more subject → ((t ≡ 41) × (minimum 0 ∷ [] ≡ more)) ⊎ ((a : ℕ) × ((t ≡ 42) × (minimum a ∷ [] ≡ more)))
taken_subject (of_head e q) = inl (e, q)
taken_subject (of_number a e q) = inr (a, (e, q))

pub taken_alone : {t : ℕ} {more : List Part} → Taken t more (minimum 0) → (t ≡ 43) × ([] ≡ more)
taken_alone (least e q) = (e, q)

pub taken_minimum : {a t : ℕ} {more : List Part} → Taken t more (minimum (suc a)) → ((t ≡ 43) × ([] ≡ more)) ⊎ ((t ≡ 45) × (detail a ∷ [] ≡ more))
taken_minimum (least e q) = inl (e, q)
taken_minimum (first_detail e q) = inr (e, q)

pub taken_last : {t : ℕ} {more : List Part} → Taken t more (detail 0) → (t ≡ 43) × ([] ≡ more)
taken_last (detailed_least e q) = (e, q)

pub taken_next : {a t : ℕ} {more : List Part} → Taken t more (detail (suc a)) → (t ≡ 45) × (detail a ∷ [] ≡ more)
taken_next (next_detail e q) = (e, q)

-- a minimum that is taken is from 1
minimum_least : (p : Program) (t n : ℕ) (more : List Part) → detail_step p 0 t n ≡ some more → 1 ≤ n
unfolding detail_step
minimum_least p t n more h = leb-true 1 n (and_right (eqb t 43) (leb 1 n) (fits_some (eqb t 43 && leb 1 n) [] more h).0)

minimum_taken : (p : Program) (x : Part) (t n : ℕ) (more : List Part) → t ≡ 43 → bad_step p x t n ≡ some more → 1 ≤ n
unfolding bad_step
minimum_taken p bad t n more e h = other (taken p bad t n more h)
  where
    other : Taken t more bad → 1 ≤ n
    other (first_item z q) = absurd (omega arith)
minimum_taken p subject t n more e h = ⊎_elim (λ z. absurd (omega (arith, z.0))) (λ z. absurd (omega (arith, z.1.0))) (taken_subject (taken p subject t n more h))
minimum_taken p (minimum a) t n more e h = minimum_least p t n more (rw (ne_eqb t 45 (λ z. omega arith), bad_step) at h)
minimum_taken p (detail zero) t n more e h = minimum_least p t n more h
minimum_taken p (detail (suc a)) t n more e h = absurd (omega (arith, (taken_next (taken p (detail (suc a)) t n more h)).0))
minimum_taken p further t n more e h = other (taken p further t n more h)
  where
    other : Taken t more further → 1 ≤ n
    other (another z q) = absurd (omega arith)
    other (closing z q) = absurd (omega arith)

-- how many bads are closed before a row: one more behind a closing row, as many behind any other
module _ (rows : Columns) where
  pub closed_on : (r : ℕ) → left rows r ≡ 44 → closed_before rows (r + 1) ≡ closed_before rows r + 1
  unfolding closed_before
  closed_on r e = count_last 0 r _ (omega arith) (eq-eqb (left rows r) 44 e)

  pub closed_same : (r : ℕ) → (left rows r ≡ 44 → ⊥) → closed_before rows (r + 1) ≡ closed_before rows r
  unfolding closed_before
  closed_same r n = count_last_miss 0 r _ (omega arith) (ne_eqb (left rows r) 44 n)

  pub closed_rises : (q r : ℕ) → q ≤ r → closed_before rows q ≤ closed_before rows r
  unfolding closed_before
  closed_rises q r l = omega (arith, count_split 0 q r (λ i. eqb (left rows i) 44) (omega arith) l)

module _ (p : Program) (rows : Columns) (bads : ℕ) (fit : first_wrong_of (bad_step p) rows (replicate bads bad) ≡ none) where
  abbrev Before : ℕ → List Part → Type 0
  Before r items = Ahead (bad_step p) rows (replicate bads bad) r items

  -- the parts of a bad that is begun
  data Begun : List Part → Type 0 where
    at_subject : Begun (subject ∷ further ∷ [])
    at_minimum : {a : ℕ} → Begun (minimum a ∷ further ∷ [])
    at_detail : {a : ℕ} → Begun (detail a ∷ further ∷ [])
    at_further : Begun (further ∷ [])

  -- Before each row either so many bads are to come, and every row before is of a closed one, or one of them is begun.
  data Standing (r : ℕ) (items : List Part) : Type 0 where
    between : (k : ℕ) → items ≡ replicate k bad → closed_before rows r + k ≡ bads → ((q : ℕ) → q < r → closed_before rows q < closed_before rows r) → Standing r items
    inside : (x : Part) (front : List Part) (k : ℕ) → Begun (x ∷ front) → items ≡ (x ∷ front) ++ replicate k bad → closed_before rows r + suc k ≡ bads → Standing r items

  -- a row that closes nothing, behind which the bad is begun
  begun : (r k : ℕ) (x : Part) (front items : List Part) → Begun (x ∷ front) → items ≡ (x ∷ front) ++ replicate k bad → closed_before rows r + suc k ≡ bads → (left rows r ≡ 44 → ⊥) → Standing (r + 1) items
  begun r k x front items g e c n = inside x front k g e (omega (arith, closed_same rows r n))

  goes_on : (r k : ℕ) (x : Part) (front more : List Part) → Begun (x ∷ front) → Taken (left rows r) more x → closed_before rows r + suc k ≡ bads → Standing (r + 1) (more ++ (front ++ replicate k bad))
  goes_on r k x front more at_subject (of_head e q) c =
      begun r k (minimum 0) (further ∷ []) _ at_minimum (ap (λ m. m ++ further ∷ replicate k bad) (sym q)) c (λ z. omega arith)
  goes_on r k x front more at_subject (of_number a e q) c =
      begun r k (minimum a) (further ∷ []) _ at_minimum (ap (λ m. m ++ further ∷ replicate k bad) (sym q)) c (λ z. omega arith)
  goes_on r k x front more at_minimum (least e q) c =
      begun r k further [] _ at_further (ap (λ m. m ++ further ∷ replicate k bad) (sym q)) c (λ z. omega arith)
  goes_on r k x front more at_minimum (first_detail {a = a} e q) c =
      begun r k (detail a) (further ∷ []) _ at_detail (ap (λ m. m ++ further ∷ replicate k bad) (sym q)) c (λ z. omega arith)
  goes_on r k x front more at_detail (detailed_least e q) c =
      begun r k further [] _ at_further (ap (λ m. m ++ further ∷ replicate k bad) (sym q)) c (λ z. omega arith)
  goes_on r k x front more at_detail (next_detail {a = a} e q) c =
      begun r k (detail a) (further ∷ []) _ at_detail (ap (λ m. m ++ further ∷ replicate k bad) (sym q)) c (λ z. omega arith)
  goes_on r k x front more at_further (another e q) c =
      begun r k subject (further ∷ []) _ at_subject (ap (λ m. m ++ replicate k bad) (sym q)) c (λ z. omega arith)
  goes_on r k x front more at_further (closing e q) c =
      let rises = closed_on rows r e in
      between k (ap (λ m. m ++ replicate k bad) (sym q)) (omega arith) (λ i b. omega (arith, closed_rises rows i r (omega arith)))

  begins : (r k : ℕ) (more : List Part) → Taken (left rows r) more bad → closed_before rows r + suc k ≡ bads → Standing (r + 1) (more ++ replicate k bad)
  begins r k more (first_item e q) c =
      begun r k subject (further ∷ []) _ at_subject (ap (λ m. m ++ replicate k bad) (sym q)) c (λ z. omega arith)

  standing_next : (r : ℕ) (x : Part) (items more : List Part) → Standing r (x ∷ items) → Taken (left rows r) more x → Standing (r + 1) (more ++ items)
  standing_next r x items more (between zero e c b) h = absurd (omega (arith, ap length e))
  standing_next r x items more (between (suc k) e c b) h =
      let front : x ≡ bad = cc in
      let back : items ≡ replicate k bad = cc in
      subst (λ is. Standing (r + 1) (more ++ is)) (sym back) (begins r k more (subst (Taken (left rows r) more) front h) c)
  standing_next r x items more (inside y front k g e c) h =
      let same : x ≡ y = cc in
      let back : items ≡ front ++ replicate k bad = cc in
      subst (λ is. Standing (r + 1) (more ++ is)) (sym back) (goes_on r k y front more g (subst (Taken (left rows r) more) same h) c)

  standing : (r : ℕ) (items : List Part) → Before r items → Standing r items
  unfolding closed_before
  standing r items at_first =
      let z : closed_before rows 0 ≡ 0 = count_end 0 0 _ (omega arith) in
      between bads refl (omega arith) (λ q b. absurd (omega arith))
  standing r' items' (after_row r x items more a e) = standing_next r x items more (standing r (x ∷ items) a) (taken p x _ _ more e)

  -- where bad number j stands, behind which k are to come
  pub record Stands (j k : ℕ) : Type 0 where
    pub ahead : Before (bad_row_of p rows j) (bad ∷ replicate k bad)
    pub within : bad_row_of p rows j ≤ rows.size
    pub number : closed_before rows (bad_row_of p rows j) ≡ j
    pub before : (q : ℕ) → q < bad_row_of p rows j → closed_before rows q < j

  no_bad_begun : (x : Part) (front items below : List Part) → Begun (x ∷ front) → bad ∷ items ≡ (x ∷ front) ++ below → ⊥
  no_bad_begun x front items below at_subject e = let z : ◌≡◌ {A = ℕ} 0 1 = cc in omega arith
  no_bad_begun x front items below at_minimum e = let z : ◌≡◌ {A = ℕ} 0 1 = cc in omega arith
  no_bad_begun x front items below at_detail e = let z : ◌≡◌ {A = ℕ} 0 1 = cc in omega arith
  no_bad_begun x front items below at_further e = let z : ◌≡◌ {A = ℕ} 0 1 = cc in omega arith

  stands_between : (r j k : ℕ) → j + suc k ≡ bads → Standing r (replicate (suc k) bad) → (closed_before rows r ≡ j) × ((q : ℕ) → q < r → closed_before rows q < j)
  stands_between r j k z (inside x front i g e c) = absurd (no_bad_begun x front _ _ g e)
  stands_between r j k z (between i e c b) =
      let same : suc k ≡ i = sym (length-replicate (suc k) bad) ∙ (ap length e ∙ length-replicate i bad) in
      let number : closed_before rows r ≡ j = omega arith in
      (number, λ q l. let below = b q l in omega arith)

  pub stands : (j k : ℕ) → j + suc k ≡ bads → Stands j k
  unfolding bad_row_of
  stands j k z =
      let all : replicate j bad ++ replicate (suc k) bad ≡ replicate bads bad = replicate-append-replicate j (suc k) bad ∙ ap (λ n. replicate n bad) z in
      let reads = subst (λ xs. read (bad_step p) rows rows.size xs 0 ≡ past rows.size) (sym all) (first_wrong_none (bad_step p) rows (replicate bads bad) fit) in
      let half = read_split (bad_step p) rows rows.size 0 rows.size (replicate j bad) (replicate (suc k) bad) reads in
      let size : rows.size - 0 ≡ rows.size = omega arith in
      let row : bad_row_of p rows j ≡ half.at = after_past (bad_step p) rows 0 half.at (replicate j bad) (rw size half.first) in
      let ahead = ahead_past (bad_step p) rows (replicate bads bad) rows.size 0 half.at (replicate j bad) (replicate (suc k) bad) (rw all at_first) half.first in
      let (number, before) = stands_between half.at j k z (standing half.at _ ahead) in
      record {
        ahead = rw row ahead;
        within = omega (arith, read_range (bad_step p) rows rows.size 0 half.at (replicate j bad) half.first);
        number = rw row number;
        before = rw row before;
      }

  -- the part on top takes its row
  pub record Takes (r : ℕ) (x : Part) (items : List Part) : Type 0 where
    pub within : r + 1 ≤ rows.size
    pub more : List Part
    pub row : Taken (left rows r) more x
    pub rest : (xs : List Part) → xs ≡ more → Before (r + 1) (xs ++ items)

  pub takes : (r : ℕ) (x : Part) (items : List Part) → r ≤ rows.size → Before r (x ∷ items) → Takes r x items
  takes r x items b a =
      let n = ahead_next (bad_step p) rows (replicate bads bad) fit r x items b a in
      record {
        within = omega (arith, n.within);
        more = n.more;
        row = taken p x (left rows r) (right rows r) n.more n.said;
        rest = λ xs q. subst (λ ys. Before (r + 1) (ys ++ items)) (sym q) n.ahead;
      }

  -- "(43, minimum from 1)": every minimum is
  pub minimum_from_one : (r : ℕ) → r < rows.size → left rows r ≡ 43 → 1 ≤ right rows r
  minimum_from_one r b e =
      let x = ahead_taken (bad_step p) rows (replicate bads bad) rows.size [] r ((first_wrong_iff (bad_step p) rows (replicate bads bad)).0 fit) b in
      minimum_taken p x.item (left rows r) (right rows r) x.more e x.said
