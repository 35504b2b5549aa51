-- Laws of reading by a grammar (specs/Reader.antt): one turn, and items one after the other.
use Prim.Native.Nat.{ℕ, zero, suc, ◌+◌, ◌-◌, ◌≤◌, ◌<◌}
use native.Mathlib.Omega.{arith}
use mathlib.Core.Path.{◌≡◌, refl, sym, ◌∙◌, ap}
use mathlib.Core.Bool.{Bool, true, false}
use mathlib.Core.List.{List, [], ◌∷◌, ◌++◌, append_assoc}
use mathlib.Core.Option.{Option, some, none, some-injective, none-ne-some, some-ne-none}
use lib.Dec.{eqb}
use borrow.Author.Tests.{eqb-true, eq-eqb, ne_eqb}
use Rattle.model.specs.Words.{Columns, left, right}
use Rattle.model.proofs.Logic.{test}
use Rattle.model.specs.Reader.{Read, past, wrong, row_of, fits, Grammar, read, after, complete, first_wrong_of}

-- `past` and `wrong` are told apart, and tell their row
pub past_wrong : {A : Type 0} (q r : ℕ) → past q ≡ wrong r → A
past_wrong q r h = let z : ◌≡◌ {A = ℕ} 0 1 = cc in absurd (omega arith)

pub past_row : (q r : ℕ) → past q ≡ past r → q ≡ r
past_row q r h = cc

pub wrong_row : (q r : ℕ) → wrong q ≡ wrong r → q ≡ r
wrong_row q r h = cc

-- by what a reading gives
pub by_read {ℓ} : {A : Type ℓ} (x : Read) → ((q : ℕ) → x ≡ past q → A) → ((q : ℕ) → x ≡ wrong q → A) → A
by_read (past q) f g = f q refl
by_read (wrong q) f g = g q refl

-- by what an item says
pub by_option {ℓ} : {I : Type 0} {A : Type ℓ} (x : Option I) → (x ≡ none → A) → ((i : I) → x ≡ some i → A) → A
by_option none f g = f refl
by_option (some i) f g = g i refl

-- what fits passes its test
pub fits_some : {I : Type 0} (b : Bool) (items more : List I) → fits b items ≡ some more → (b ≡ true) × (items ≡ more)
unfolding fits
fits_some true items more h = (refl, some-injective items more h)
fits_some false items more h = absurd (none-ne-some more h)

complete_none : (size : ℕ) (x : Read) → complete size x ≡ none → x ≡ past size
unfolding complete
complete_none size (past r) h =
    test (eqb r size) (λ e. ap past (eqb-true r size e))
    (λ e. absurd (some-ne-none r (rw (e, complete) at h)))
complete_none size (wrong r) h = absurd (some-ne-none r h)

pub none_complete : (size : ℕ) → complete size (past size) ≡ none
unfolding complete
none_complete size = rw (eq-eqb size size refl, complete)

pub some_complete : (size r : ℕ) → r < size → complete size (past r) ≡ some r
unfolding complete
some_complete size r b = let e : eqb r size ≡ false = ne_eqb r size (λ z. omega arith) in rw (e, complete)

module _ {Item : Type 0} (step : Grammar Item) (rows : Columns) where
  -- what the item says to row r
  abbrev said : Item → ℕ → Option (List Item)
  said item r = step item (left rows r) (right rows r)

  pub read_none : (n r : ℕ) → read step rows n [] r ≡ past r
  unfolding read
  read_none zero r = refl
  read_none (suc n) r = refl

  pub read_end : (item : Item) (items : List Item) (r : ℕ) → read step rows zero (item ∷ items) r ≡ wrong r
  unfolding read
  read_end item items r = refl

  pub read_stop : (n r : ℕ) (item : Item) (items : List Item) → said item r ≡ none → read step rows (suc n) (item ∷ items) r ≡ wrong r
  unfolding read
  read_stop n r item items h = rw (h, read)

  pub read_go : (n r : ℕ) (item : Item) (items more : List Item) → said item r ≡ some more → read step rows (suc n) (item ∷ items) r ≡ read step rows n (more ++ items) (r + 1)
  unfolding read
  read_go n r item items more h = rw (h, read)

  -- where the items end lies between where they begin and the end of the rows
  pub read_range : (n r q : ℕ) (items : List Item) → read step rows n items r ≡ past q → (r ≤ q) × (q ≤ r + n)
  read_range zero r q [] h = let z = past_row r q (sym (read_none zero r) ∙ h) in (omega arith, omega arith)
  read_range zero r q (item ∷ items) h = past_wrong q r (sym h ∙ read_end item items r)
  read_range (suc n) r q [] h = let z = past_row r q (sym (read_none (suc n) r) ∙ h) in (omega arith, omega arith)
  read_range (suc n) r q (item ∷ items) h =
      by_option (said item r) (λ e. past_wrong q r (sym h ∙ read_stop n r item items e))
      (λ more e. let w = read_range n (r + 1) q (more ++ items) (sym (read_go n r item items more e) ∙ h) in
      (omega arith, omega arith))

  -- an item takes a row at least
  pub read_takes : (n r q : ℕ) (item : Item) (items : List Item) → read step rows n (item ∷ items) r ≡ past q → (r < q) × (q ≤ r + n)
  read_takes zero r q item items h = past_wrong q r (sym h ∙ read_end item items r)
  read_takes (suc n) r q item items h =
      by_option (said item r) (λ e. past_wrong q r (sym h ∙ read_stop n r item items e))
      (λ more e. let w = read_range n (r + 1) q (more ++ items) (sym (read_go n r item items more e) ∙ h) in
      (omega arith, omega arith))

  -- a wrong row lies there too
  pub read_wrong_range : (n r q : ℕ) (items : List Item) → read step rows n items r ≡ wrong q → (r ≤ q) × (q ≤ r + n)
  read_wrong_range zero r q [] h = past_wrong r q (sym (read_none zero r) ∙ h)
  read_wrong_range zero r q (item ∷ items) h = let z = wrong_row r q (sym (read_end item items r) ∙ h) in (omega arith, omega arith)
  read_wrong_range (suc n) r q [] h = past_wrong r q (sym (read_none (suc n) r) ∙ h)
  read_wrong_range (suc n) r q (item ∷ items) h =
      by_option (said item r)
      (λ e. let z = wrong_row r q (sym (read_stop n r item items e) ∙ h) in (omega arith, omega arith))
      (λ more e. let w = read_wrong_range n (r + 1) q (more ++ items) (sym (read_go n r item items more e) ∙ h) in
      (omega arith, omega arith))

  -- items, and then others: from where the first end
  pub read_append : (n r q : ℕ) (xs ys : List Item) → read step rows n xs r ≡ past q → read step rows n (xs ++ ys) r ≡ read step rows (n - (q - r)) ys q
  read_append zero r q [] ys h =
      let z = past_row r q (sym (read_none zero r) ∙ h) in
      let w : zero - (q - r) ≡ zero = omega arith in
      rw (w, ← z)
  read_append zero r q (x ∷ xs) ys h = past_wrong q r (sym h ∙ read_end x xs r)
  read_append (suc n) r q [] ys h =
      let z = past_row r q (sym (read_none (suc n) r) ∙ h) in
      let w : suc n - (q - r) ≡ suc n = omega arith in
      rw (w, ← z)
  read_append (suc n) r q (x ∷ xs) ys h =
      by_option (said x r) (λ e. past_wrong q r (sym h ∙ read_stop n r x xs e))
      (λ more e.
      let k : read step rows n (more ++ xs) (r + 1) ≡ past q = sym (read_go n r x xs more e) ∙ h in
      let b = read_range n (r + 1) q (more ++ xs) k in
      let w : suc n - (q - r) ≡ n - (q - (r + 1)) = omega arith in
      read_go n r x (xs ++ ys) more e ∙ (ap (λ l. read step rows n l (r + 1)) (sym (append_assoc more xs ys)) ∙
      (read_append n (r + 1) q (more ++ xs) ys k ∙ ap (λ m. read step rows m ys q) (sym w))))

  -- a wrong row among the first items is the wrong row of all
  pub read_append_wrong : (n r q : ℕ) (xs ys : List Item) → read step rows n xs r ≡ wrong q → read step rows n (xs ++ ys) r ≡ wrong q
  read_append_wrong zero r q [] ys h = past_wrong r q (sym (read_none zero r) ∙ h)
  read_append_wrong zero r q (x ∷ xs) ys h = read_end x (xs ++ ys) r ∙ (sym (read_end x xs r) ∙ h)
  read_append_wrong (suc n) r q [] ys h = past_wrong r q (sym (read_none (suc n) r) ∙ h)
  read_append_wrong (suc n) r q (x ∷ xs) ys h =
      by_option (said x r)
      (λ e. read_stop n r x (xs ++ ys) e ∙ (sym (read_stop n r x xs e) ∙ h))
      (λ more e.
      let k : read step rows n (more ++ xs) (r + 1) ≡ wrong q = sym (read_go n r x xs more e) ∙ h in
      read_go n r x (xs ++ ys) more e ∙ (ap (λ l. read step rows n l (r + 1)) (sym (append_assoc more xs ys)) ∙
      read_append_wrong n (r + 1) q (more ++ xs) ys k))

  -- where items and then others are read to their end, the first end somewhere, and the others are read from there
  pub record Halfway (n r q : ℕ) (xs ys : List Item) : Type 0 where
    pub at : ℕ
    pub first : read step rows n xs r ≡ past at
    pub second : read step rows (n - (at - r)) ys at ≡ past q

  pub read_split : (n r q : ℕ) (xs ys : List Item) → read step rows n (xs ++ ys) r ≡ past q → Halfway n r q xs ys
  read_split n r q xs ys h =
      by_read (read step rows n xs r)
      (λ m e. record { at = m; first = e; second = sym (read_append n r m xs ys e) ∙ h })
      (λ m e. past_wrong q m (sym h ∙ read_append_wrong n r m xs ys e))

  -- `after` where the items are read to their end
  pub after_past : (r q : ℕ) (items : List Item) → read step rows (rows.size - r) items r ≡ past q → after step rows items r ≡ q
  unfolding after row_of
  after_past r q items h = rw h

  -- rows with no wrong one are read to their end, and the other way round
  pub first_wrong_none : (items : List Item) → first_wrong_of step rows items ≡ none → read step rows rows.size items 0 ≡ past rows.size
  unfolding first_wrong_of
  first_wrong_none items h = complete_none rows.size (read step rows rows.size items 0) h

  pub none_first_wrong : (items : List Item) → read step rows rows.size items 0 ≡ past rows.size → first_wrong_of step rows items ≡ none
  unfolding first_wrong_of
  none_first_wrong items h = ap (complete rows.size) h ∙ none_complete rows.size
