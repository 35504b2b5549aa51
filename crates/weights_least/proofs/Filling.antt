-- What filling in an item does to counts: by what they weigh, and by the words that hold them.
use Prim.Native.Nat.{ℕ, ◌+◌, ◌-◌, ◌*◌, ◌≤◌, ◌<◌}
use native.Mathlib.Decide.{ℕ_discrete, dec_lt}
use native.Mathlib.Omega.{arith}
use native.Mathlib.Nat.{mul-add, mul-zero, mul-le-mul_left, mul-le-mul_right}
use mathlib.Core.Path.{◌≡◌, refl, sym, ◌∙◌, ap}
use mathlib.Core.Bool.{Bool, true, false}
use mathlib.Core.List.{List}
use mathlib.Core.List.{◌++◌}
use lib.ListN.{length, get_or, set, replicate, get_or-append}
use Rattle.std.proofs.lemmas.List.{get_or-replicate, length-replicate}
use lib.Seq.{get_or-set_same, get_or-set_other}
use lib.Dec.{eqb}
use borrow.Author.Tests.{lt-ltb, le-ltb, eqb-true, eq-eqb, ne_eqb}
use Rattle.model.specs.Index.{total}
use Rattle.model.specs.Rows.{Program}
use Rattle.model.specs.Tables.{Tables}
use Rattle.model.specs.Bads.{Item}
use Rattle.model.specs.Counters.{counter_count}
use Rattle.model.specs.Markings.{Marking, sum_in}
use Rattle.model.specs.Weights.{Line, weighed, lightest, fill}
use Rattle.model.proofs.Logic.{test}
use Rattle.model.proofs.Index.{total_same, total_plus, total_turn}
use Rattle.model.proofs.Weighed.Least.{pick, only_at, total_at}
use Rattle.bads_rows.specs.Items.{Range}
use Rattle.ceilings_met.proofs.Sums.{total_split, range_sum}
use Rattle.weights_least.specs.Least.{counts_in, LightestIn, lacking, PutLacking, most_put}
use Rattle.weights_least.proofs.Lightest.{lightest_is}

-- "each at its lightest counter": the weighed sum grows by the lightest weight for each that was lacking
module _ (p : Program) (t : Tables) (w : Line) (i : Item) (m : Marking) (y : ℕ) (at : lightest p t w i.subject ≡ y) (below : y < counter_count p t) where
  abbrev n : ℕ
  n = counter_count p t

  abbrev lack : ℕ
  lack = i.minimum - sum_in p t m i.subject

  one_more : (b : Bool) (u v : ℕ) → pick b (u + v) u ≡ u + pick b v 0
  one_more true u v = refl
  one_more false u v = omega arith

  fill_plus : (x : ℕ) → fill p t w i m x ≡ m x + only_at y lack x
  unfolding fill
  fill_plus x = rw (at, fill) (one_more (eqb x y) (m x) lack)

  scaled : (x : ℕ) → w x * only_at y lack x ≡ only_at y (w y * lack) x
  scaled x =
      test (eqb x y)
      (λ e. let z = eqb-true x y e in rw (e, z) refl)
      (λ e. rw e (mul-zero (w x)))

  pub fill_weighs : weighed n w m + w y * lack ≡ weighed n w (fill p t w i m)
  unfolding weighed
  fill_weighs =
      let a = total_same 0 n (λ x. w x * fill p t w i m x) (λ x. w x * m x + only_at y (w y * lack) x) (λ x lo hi. ap (λ z. w x * z) (fill_plus x) ∙ (mul-add (w x) (m x) (only_at y lack x) ∙ ap (λ z. w x * m x + z) (scaled x))) in
      let b = total_plus 0 n (λ x. w x * m x) (only_at y (w y * lack)) in
      let c = total_at n y (w y * lack) below in
      omega (arith, a, b, c)

-- the words that hold counts
module _ (n : ℕ) (counts : List ℕ) where
  pub count_at : (x : ℕ) → x < n → counts_in n counts x ≡ get_or counts x 0
  unfolding counts_in
  count_at x h = rw (lt-ltb x n h, counts_in)

  pub count_past : (x : ℕ) → n ≤ x → counts_in n counts x ≡ 0
  unfolding counts_in
  count_past x h = rw (le-ltb x n h, counts_in)

  pub none_counted : ((x : ℕ) → x < n → get_or counts x 0 ≡ 0) → counts_in n counts ≡ (λ x. 0)
  none_counted h j x = none x j
    where
      none : (x : ℕ) → counts_in n counts x ≡ 0
      none x = elim (dec_lt x n) [ yes b ↦ count_at x b ∙ h x b | no b ↦ count_past x (omega arith) ]

  -- by as many, where their number is another's
  pub none_of_all : (all : ℕ) → n ≡ all → counts_in n counts ≡ (λ x. 0) → counts_in all counts ≡ (λ x. 0)
  none_of_all all e h = rw e at h

  pub words_total : (from to : ℕ) → to ≤ n → total from to (λ x. get_or counts x 0) ≡ total from to (counts_in n counts)
  words_total from to h = total_same from to (λ x. get_or counts x 0) (counts_in n counts) (λ x lo hi. sym (count_at x (omega arith)))

-- a word is part of the sum over its range
pub part_of : (f : ℕ → ℕ) (from to y : ℕ) → from ≤ y → y < to → f y ≤ total from to f
part_of f from to y lo hi = omega (arith, total_split from y to f lo (omega arith), total_turn y to f hi)

-- What is lacking put on the lightest, by the code's values
module _ (w : Line) (from to minimum : ℕ) (counts : List ℕ) (y sum : ℕ) (light : LightestIn w from to y) (sum_is_lem : sum ≡ total from to (λ x. get_or counts x 0)) where
  pub put_none : minimum ≤ sum → PutLacking w from to minimum counts counts 0
  unfolding lacking
  put_none h =
      let z : minimum - total from to (λ x. get_or counts x 0) ≡ 0 = omega arith in
      record {
        at = y;
        lightest = light;
        there = omega arith;
        others = λ x e. refl;
        weighs = rw z (sym (mul-zero (w y)));
      }

  module _ (lack more : ℕ) (lack-is : lack ≡ minimum - sum) (more-is : more ≡ get_or counts y 0 + lack) where
    -- a count stays a word: it is part of the sum
    pub put_fits : sum < minimum → more ≤ minimum
    put_fits h = omega (arith, part_of (λ x. get_or counts x 0) from to y light.above light.below)

    pub put_some : (weight : ℕ) → to ≤ length counts → weight ≡ w y * lack → PutLacking w from to minimum counts (set counts y more) weight
    unfolding lacking
    put_some weight room e =
        let z : lack ≡ minimum - total from to (λ x. get_or counts x 0) = omega arith in
        record {
          at = y;
          lightest = light;
          there = get_or-set_same counts y more 0 (omega (arith, light.below)) ∙ (more-is ∙ ap (λ v. get_or counts y 0 + v) z);
          others = λ x o. get_or-set_other counts y x more 0 o;
          weighs = e ∙ ap (λ v. w y * v) z;
        }

-- two words
pub words_product : (a b : ℕ) → a ≤ 65535 → b ≤ 65535 → a * b ≤ most_put
words_product a b x y = omega (arith, mul-le-mul_right b x, mul-le-mul_left 65535 y)

-- What the counters of an item lack, put on the lightest of them, is the item filled in
module _ (p : Program) (t : Tables) (w w' : Line) (i : Item) (from to : ℕ) (range : Range p t i.subject from to) (same : (x : ℕ) → from ≤ x → x < to → w x ≡ w' x) (before after : List ℕ) (weight : ℕ) (put : PutLacking w from to i.minimum before after weight) where
  abbrev all : ℕ
  all = counter_count p t

  abbrev y : ℕ
  y = put.at

  y_below : y < all
  y_below = omega (arith, put.lightest.below, range.upto)

  y_is : lightest p t w' i.subject ≡ y
  y_is = lightest_is p t i.subject from to range w w' same y put.lightest

  lacks : lacking before from to i.minimum ≡ i.minimum - sum_in p t (counts_in all before) i.subject
  unfolding lacking
  lacks =
      let a = words_total all before from to range.upto in
      let b = range_sum p t i.subject from to range (counts_in all before) in
      omega (arith, a, b)

  filled_at : (x : ℕ) → counts_in all after x ≡ fill p t w' i (counts_in all before) x
  filled_at x =
      fill_at x ∙ sym (fill_plus p t w' i (counts_in all before) y y_is y_below x)
    where
      fill_at : (x : ℕ) → counts_in all after x ≡ counts_in all before x + only_at y (i.minimum - sum_in p t (counts_in all before) i.subject) x
      fill_at x = elim (ℕ_discrete x y) [
        | yes e ↦
            let here = eq-eqb x y e in
            let a = count_at all after y y_below in
            let b = count_at all before y y_below in
            rw (here, e) (omega (arith, put.there, lacks, a, b))
        | no e ↦
            let other = ne_eqb x y e in
            rw other (elim (dec_lt x all) [
              | yes l ↦ omega (arith, count_at all after x l, count_at all before x l, put.others x e)
              | no l ↦ omega (arith, count_past all after x (omega arith), count_past all before x (omega arith))
            ])
      ]

  pub filled_in : counts_in all after ≡ fill p t w' i (counts_in all before)
  filled_in j x = filled_at x j

  pub grown : weighed all w' (counts_in all before) + weight ≡ weighed all w' (counts_in all after)
  grown =
      let a = fill_weighs p t w' i (counts_in all before) y y_is y_below in
      let b : weight ≡ w' y * (i.minimum - sum_in p t (counts_in all before) i.subject) = put.weighs ∙ rw (same y put.lightest.above put.lightest.below, lacks) refl in
      rw b (a ∙ ap (weighed all w') (sym filled_in))

-- words filled with 0, and those behind them
pub none_filled : (filled rest : List ℕ) (k m : ℕ) → length filled ≡ k → filled ≡ replicate m 0 → (x : ℕ) → x < k → get_or (filled ++ rest) x 0 ≡ 0
none_filled filled rest k m l e x h =
    let low : x < m = omega (arith, h, l, ap length e, length-replicate {A = ℕ} m 0) in
    get_or-append filled rest 0 x (omega (arith, h, l)) ∙ (ap (λ t. get_or t x 0) e ∙ get_or-replicate m x 0 0 low)
