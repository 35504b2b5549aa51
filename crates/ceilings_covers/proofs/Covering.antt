-- The candidates for a step are all ceilings that cover the counts after it; of them those cover that allow what the named counters have.
use Prim.Native.Nat.{ℕ, ◌+◌, ◌-◌, ◌≤◌, ◌<◌}
use native.Mathlib.Decide.{ℕ_discrete}
use native.Mathlib.Omega.{arith}
use mathlib.Core.Path.{◌≡◌, refl, sym, ◌∙◌, ap, subst}
use mathlib.Core.Bool.{Bool, true, false, not, ◌&&◌, ◌||◌}
use mathlib.Core.Logic.{◌⊎◌, inl, inr, ⊎_elim}
use mathlib.Core.List.{List}
use lib.Dec.{leb, ltb, eqb}
use lib.ListN.{get_or}
use borrow.Author.Tests.{eq-eqb, ne_eqb, eqb-true, leb-true, le-leb, lt-ltb, le-ltb, ltb-true, not-false}
use Rattle.model.specs.Limits.{omega_limit}
use Rattle.model.specs.Index.{all}
use Rattle.model.specs.Markings.{Marking, readable, usable, fire}
use Rattle.model.specs.Ceilings.{allowed, highest, under}
use Rattle.model.proofs.Logic.{test, true_false, and_left, and_right, and_intro, or_cases, or_left, or_right, not_passes, not_fails}
use Rattle.model.proofs.Index.{all_intro, all_elim}
use Rattle.masks.specs.declared.Mask.{Mask}
use Rattle.masks.specs.Masks.{has}
use Rattle.steps.specs.declared.Step.{Step}
use Rattle.steps.specs.Steps.{effect_of, rule_of_step, does_take_other, does_add_other, one_less_if, more_if}
use Rattle.steps.proofs.Stepping.{fire_alone, fire_untouched, fire_held, fire_less, fire_raised, fire_fewer, fire_stages, less_pass, less_fail, less_small, more_fail, more_small, takes_none, takes_apart, takes_it}
use Rattle.ceilings_form.proofs.Limited.{highest_limit}
use Rattle.ceilings.specs.Table.{held}
use Rattle.ceilings_masks.specs.declared.Over.{Over}
use Rattle.ceilings_masks.specs.Compared.{allows, most, exceeds, exceeds_by_one, takes_more, Counted, Beside}
use Rattle.ceilings_masks.proofs.Turning.{more_as}
use Rattle.steps.specs.Steps.{raised, limit_after_step}
use Rattle.steps.proofs.Raising.{as_limit_below, stepped_decides}
use Rattle.ceilings_covers.specs.Covers.{covers, moved, passes, Left, Candidates, Raised, Exact, sure, StepApart, Taken, reading, named}
use Rattle.ceilings_covers.proofs.Exceeding.{none_others, others_none, one_others, others_one, two_others, others_two}

-- a limit that allows a count allows a lower one
pub allowed_lower : (limit a b : ℕ) → allowed limit a ≡ true → b ≤ a → allowed limit b ≡ true
unfolding allowed
allowed_lower limit a b h le =
    ⊎_elim (λ e. or_left (eqb limit omega_limit) _ e) (λ e. let l = leb-true a limit e in or_right (eqb limit omega_limit) _ (le-leb b limit (omega arith))) (or_cases (eqb limit omega_limit) (leb a limit) h)

and_not : (a b : Bool) → (a && not b) ≡ true → b ≡ false
and_not true true h = true_false h refl
and_not true false h = refl
and_not false b h = true_false h refl

module _ (limits : List ℕ) (ceilings n k : ℕ) where
  abbrev counts : Marking
  counts = highest (held limits ceilings k)

  abbrev E : ℕ → ℕ → Bool
  E j y = exceeds limits ceilings k j y

  pub fits_not : (j y : ℕ) → E j y ≡ false → allowed (held limits ceilings j y) (most limits ceilings k y) ≡ true
  unfolding exceeds
  fits_not j y h = not-false _ h

  not_fits : (j y : ℕ) → allowed (held limits ceilings j y) (most limits ceilings k y) ≡ true → E j y ≡ false
  unfolding exceeds
  not_fits j y h = not_fails _ h

  -- by one: it exceeds, and one less is allowed
  by_one_exceeds : (x j : ℕ) → j < ceilings → exceeds_by_one limits ceilings k x j ≡ true → (E j x ≡ true) × (allowed (held limits ceilings j x) (most limits ceilings k x - 1) ≡ true)
  unfolding exceeds exceeds_by_one allows
  by_one_exceeds x j h e =
      let inside = lt-ltb j ceilings h in
      let fewer : Bool = allows limits ceilings x (most limits ceilings k x - 1) j in
      let same : Bool = allows limits ceilings x (most limits ceilings k x) j in
      let a = and_left fewer (not same) e in
      let b = and_not fewer same e in
      (not_passes _ (subst (λ z. (z && allowed (held limits ceilings j x) (most limits ceilings k x)) ≡ false) inside b), and_right (ltb j ceilings) _ a)

  by_one_intro : (x j : ℕ) → j < ceilings → E j x ≡ true → allowed (held limits ceilings j x) (most limits ceilings k x - 1) ≡ true → exceeds_by_one limits ceilings k x j ≡ true
  unfolding exceeds exceeds_by_one allows
  by_one_intro x j h e a = rw (lt-ltb j ceilings h, a) e

  by_one_low : (x j : ℕ) → exceeds_by_one limits ceilings k x j ≡ true → j < ceilings
  unfolding exceeds_by_one allows
  by_one_low x j e = ltb-true j ceilings (and_left (ltb j ceilings) _ (and_left (allows limits ceilings x (most limits ceilings k x - 1) j) _ e))

  -- the ceilings that hold the highest counts with one less at counter i
  module _ (over : Over) (few : ceilings ≤ 256) (counted : Counted limits ceilings n k over) where
    module _ (i : ℕ) (inside : i < n) (r : Mask) (is : (j : ℕ) → j < 256 → has r j ≡ (ltb j ceilings && not (has over.once j) || exceeds_by_one limits ceilings k i j && not (has over.twice j))) where
      pub left_is : Left limits ceilings n k i r
      left_is =
          record {
            few = λ j l h. ⊎_elim
                (λ a. ltb-true j ceilings (and_left (ltb j ceilings) _ a))
                (λ a. by_one_low i j (and_left _ (not (has over.twice j)) a)) (cases j l h);
            others = λ j y l h b d. ⊎_elim
                (λ a. none_others n (E j) (sym (counted.once j l) ∙ and_not (ltb j ceilings) _ a) y b)
                (λ a. one_others n (E j) i inside (by_one_exceeds i j l (and_left _ (not (has over.twice j)) a)).0 (sym (counted.twice j l) ∙ and_not (exceeds_by_one limits ceilings k i j) (has over.twice j) a) y b d) (cases j (omega arith) h);
            here = λ j l h. ⊎_elim
                (λ a. allowed_lower (held limits ceilings j i) (most limits ceilings k i) _ (fits_not j i (none_others n (E j) (sym (counted.once j l) ∙ and_not (ltb j ceilings) _ a) i inside)) (omega arith))
                (λ a. (by_one_exceeds i j l (and_left _ (not (has over.twice j)) a)).1) (cases j (omega arith) h);
            all = λ j l others one. is j (omega arith) ∙ test (E j i)
                (λ t. or_right (ltb j ceilings && not (has over.once j)) _ (and_intro _ _ (by_one_intro i j l t one) (not_passes _ (counted.twice j l ∙ others_one n (E j) i inside others))))
                (λ t. or_left _ _ (and_intro _ _ (lt-ltb j ceilings l) (not_passes _ (counted.once j l ∙ others_none n (E j) (λ y b. elim (ℕ_discrete y i) [ yes e ↦ ap (E j) e ∙ t | no e ↦ others y b e ])))));
          }
        where
          cases : (j : ℕ) → j < 256 → has r j ≡ true → ((ltb j ceilings && not (has over.once j)) ≡ true) ⊎ ((exceeds_by_one limits ceilings k i j && not (has over.twice j)) ≡ true)
          cases j l h = or_cases _ _ (sym (is j l) ∙ h)

  module _ (σ : Step) (shape : StepApart n σ) where
    -- a counter that passes and loses nothing did not exceed
    kept_fits : (j y : ℕ) → passes limits ceilings k j σ y ≡ true → (y ≡ σ.from → ⊥) → does_take_other σ y ≡ false → E j y ≡ false
    unfolding passes
    kept_fits j y h a b = not_fits j y (allowed_lower (held limits ceilings j y) _ (counts y) h (fire_held σ counts y shape.kind a b))

    -- one that passes and loses one allows one less
    less_fits : (j y : ℕ) → passes limits ceilings k j σ y ≡ true → (y ≡ σ.from → does_take_other σ y ≡ false) → allowed (held limits ceilings j y) (most limits ceilings k y - 1) ≡ true
    unfolding passes
    less_fits j y h a = allowed_lower (held limits ceilings j y) _ (counts y - 1) h (fire_less σ counts y shape.kind a)

    from_apart : does_take_other σ σ.from ≡ false
    from_apart = elim (ℕ_discrete σ.kind 1) [
      | yes e ↦ takes_apart σ σ.from (λ z. (shape.read e).1 (sym z))
      | no e ↦ takes_none σ σ.from e
    ]

    pub taken_quiet : (left : Mask) → (σ.kind ≡ 1 → ⊥) → Left limits ceilings n k σ.from left → Candidates limits ceilings n k σ left
    taken_quiet left quiet l =
        record {
          few = l.few;
          others = λ j y b h inside a t. l.others j y b h inside a;
          all = λ j b pass. l.all j b (λ y inside a. kept_fits j y (pass y inside) a (takes_none σ y quiet)) (less_fits j σ.from (pass σ.from shape.from) (λ z. from_apart));
        }

    module _ (over : Over) (few : ceilings ≤ 256) (counted : Counted limits ceilings n k over) (left : Mask) (l : Left limits ceilings n k σ.from left) (reads : σ.kind ≡ 1) (r : Mask) (is : (j : ℕ) → j < 256 → has r j ≡ reading (has left) (has over.twice) (has over.thrice) (exceeds_by_one limits ceilings k σ.from) (exceeds_by_one limits ceilings k σ.other) j) where
      abbrev i : ℕ
      i = σ.from

      abbrev x : ℕ
      x = σ.other

      abbrev A : ℕ → Bool
      A j = exceeds_by_one limits ceilings k x j && not (has over.twice j)

      abbrev B : ℕ → Bool
      B j = (exceeds_by_one limits ceilings k i j && exceeds_by_one limits ceilings k x j) && not (has over.thrice j)

      three : (j : ℕ) → j < 256 → has r j ≡ true → (has left j ≡ true) ⊎ ((A j ≡ true) ⊎ (B j ≡ true))
      unfolding reading
      three j b h = ⊎_elim (λ a. ⊎_elim (λ z. inl z) (λ z. inr (inl z)) (or_cases (has left j) (A j) a)) (λ a. inr (inr a)) (or_cases (has left j || A j) (B j) (sym (is j b) ∙ h))

      apart_other : (y : ℕ) → does_take_other σ y ≡ false → y ≡ x → ⊥
      apart_other y t e = true_false (takes_it σ y reads e) t

      pub taken_reading : Candidates limits ceilings n k σ r
      unfolding reading
      taken_reading =
          record {
            few = λ j b h. ⊎_elim (λ a. l.few j b a) (λ w. ⊎_elim (λ a. by_one_low x j (and_left _ (not (has over.twice j)) a)) (λ a. by_one_low i j (and_left _ (exceeds_by_one limits ceilings k x j) (and_left _ (not (has over.thrice j)) a))) w) (three j b h);
            others = λ j y b h inside a t. ⊎_elim
                (λ e. l.others j y b e inside a)
                (λ w. ⊎_elim
                (λ e. one_others n (E j) x (shape.read reads).0 (by_one_exceeds x j b (and_left _ (not (has over.twice j)) e)).0 (sym (counted.twice j b) ∙ and_not (exceeds_by_one limits ceilings k x j) (has over.twice j) e) y inside (apart_other y t))
                (λ e. let both = and_left _ (not (has over.thrice j)) e in
                two_others n (E j) i shape.from x (shape.read reads).0 (shape.read reads).1 (by_one_exceeds i j b (and_left _ (exceeds_by_one limits ceilings k x j) both)).0 (by_one_exceeds x j b (and_right (exceeds_by_one limits ceilings k i j) _ both)).0 (sym (counted.thrice j b) ∙ and_not (exceeds_by_one limits ceilings k i j && exceeds_by_one limits ceilings k x j) (has over.thrice j) e) y inside a (apart_other y t)) w) (three j (omega arith) h);
            all = λ j b pass.
                let others : (y : ℕ) → y < n → (y ≡ i → ⊥) → (y ≡ x → ⊥) → E j y ≡ false = λ y inside a d. kept_fits j y (pass y inside) a (takes_apart σ y d) in
                let at_i : allowed (held limits ceilings j i) (most limits ceilings k i - 1) ≡ true = less_fits j i (pass i shape.from) (λ z. from_apart) in
                let at_x : allowed (held limits ceilings j x) (most limits ceilings k x - 1) ≡ true = less_fits j x (pass x (shape.read reads).0) (λ z. absurd ((shape.read reads).1 z)) in
                is j (omega arith) ∙ test (E j x)
                (λ t. test (E j i)
                (λ u. or_right (has left j || A j) (B j) (and_intro _ _ (and_intro _ _ (by_one_intro i j b u at_i) (by_one_intro x j b t at_x)) (not_passes _ (counted.thrice j b ∙ others_two n (E j) i shape.from x (shape.read reads).0 (shape.read reads).1 others))))
                (λ u. or_left (has left j || A j) (B j) (or_right (has left j) (A j) (and_intro _ _ (by_one_intro x j b t at_x) (not_passes _ (counted.twice j b ∙ others_one n (E j) x (shape.read reads).0 (λ y inside d. elim (ℕ_discrete y i) [ yes e ↦ ap (E j) e ∙ u | no e ↦ others y inside e d ])))))))
                (λ t. or_left (has left j || A j) (B j) (or_left (has left j) (A j) (l.all j b (λ y inside d. elim (ℕ_discrete y x) [ yes e ↦ ap (E j) e ∙ t | no e ↦ others y inside d e ]) at_i)));
          }

    -- of these candidates those that hold one more at a counter to which the step adds
    pub added_is : (y : ℕ) (m more r : Mask) → y < n → ceilings ≤ 256 → (y ≡ σ.from → ⊥) → does_take_other σ y ≡ false → (eqb y σ.to || does_add_other σ y) ≡ true → ((j : ℕ) → j < 256 → has more j ≡ takes_more limits ceilings k y j) → ((j : ℕ) → has r j ≡ (has m j && has more j)) → Candidates limits ceilings n k σ m → Candidates limits ceilings n k σ r
    unfolding takes_more allows passes
    added_is y m more r inside few a b adds is and c =
        record {
          few = λ j l h. c.few j l (and_left (has m j) (has more j) (sym (and j) ∙ h));
          others = λ j x l h. c.others j x l (and_left (has m j) (has more j) (sym (and j) ∙ h));
          all = λ j l pass. and j ∙ and_intro _ _ (c.all j l pass) (is j (omega arith) ∙ and_intro _ _ (lt-ltb j ceilings l) (allowed_lower (held limits ceilings j y) _ (counts y + 1) (pass y inside) (fire_raised σ counts y shape.kind (ne_eqb y σ.from a) b adds)));
        }

    -- a candidate that allows what the named counters have covers
    pub candidate_covers : (m : Mask) (j : ℕ) → j < ceilings → has m j ≡ true → Candidates limits ceilings n k σ m → ((b : ℕ) → b < 3 → named σ b < n → passes limits ceilings k j σ (named σ b) ≡ true) → covers limits ceilings n k (rule_of_step σ) j ≡ true
    unfolding covers under passes named exceeds
    candidate_covers m j l h c pass =
        all_intro 0 n _
        (λ y low inside. elim (ℕ_discrete y σ.to) [
          | yes e ↦ rw e (pass 0 (omega arith) (omega arith))
          | no e ↦ elim (ℕ_discrete y σ.from) [
            | yes f ↦ rw f (pass 1 (omega arith) (omega arith))
            | no f ↦ elim (ℕ_discrete y σ.other) [
              | yes g ↦ rw g (pass 2 (omega arith) (omega arith))
              | no g ↦ ap (allowed (held limits ceilings j y)) (fire_untouched σ counts y shape.kind f e g) ∙ fits_not j y (c.others j y l h inside f (takes_apart σ y g))
            ]
          ]
        ])

  -- a counter that is not allowed
  pub covers_not : (σ : Step) (j y : ℕ) → y < n → passes limits ceilings k j σ y ≡ false → covers limits ceilings n k (rule_of_step σ) j ≡ false
  unfolding covers under passes
  covers_not σ j y h f = test (covers limits ceilings n k (rule_of_step σ) j) (λ t. true_false (all_elim 0 n y _ t (omega arith) h) f) (λ z. z)

  pub covers_pass : (σ : Step) (j : ℕ) → covers limits ceilings n k (rule_of_step σ) j ≡ true → (y : ℕ) → y < n → passes limits ceilings k j σ y ≡ true
  unfolding covers under passes
  covers_pass σ j t y h = all_elim 0 n y _ t (omega arith) h

  pub pass_covers : (σ : Step) (j : ℕ) → ((y : ℕ) → y < n → passes limits ceilings k j σ y ≡ true) → covers limits ceilings n k (rule_of_step σ) j ≡ true
  unfolding covers under passes
  pass_covers σ j h = all_intro 0 n _ (λ y low inside. h y inside)

-- the ceilings that are left and hold one more where a step leads, by the code's values
pub moved_none : (limits : List ℕ) (ceilings states k i to : ℕ) (left r : Mask) → (to ≡ i) ⊎ (states ≤ to) → ((j : ℕ) → has r j ≡ false) → (j : ℕ) → j < 256 → has r j ≡ moved limits ceilings states k i to left j
unfolding moved
moved_none limits ceilings states k i to left r e none j l =
    none j ∙ ⊎_elim (λ z. rw (eq-eqb to i z)) (λ z. rw (le-ltb to states z) (shut (not (eqb to i)) (has left j && takes_more limits ceilings k to j))) e
  where
    shut : (a b : Bool) → false ≡ ((a && false) && b)
    shut true b = refl
    shut false b = refl

pub moved_both : (limits : List ℕ) (ceilings states k i to : ℕ) (left more r : Mask) → (to ≡ i → ⊥) → to < states → ((j : ℕ) → j < 256 → has more j ≡ takes_more limits ceilings k to j) → ((j : ℕ) → has r j ≡ (has left j && has more j)) → (j : ℕ) → j < 256 → has r j ≡ moved limits ceilings states k i to left j
unfolding moved
moved_both limits ceilings states k i to left more r apart low is both j l =
    both j ∙ rw (ne_eqb to i apart, lt-ltb to states low, is j l)

-- by the code's values
module _ (limits : List ℕ) (ceilings k : ℕ) where
  pub passes_is : (k' : ℕ) (σ : Step) (y h count l : ℕ) (b : Bool) → σ.kind ≤ 3 → h ≡ highest (held limits ceilings k) y → count ≡ fire (rule_of_step σ) (λ _. h) y → l ≡ held limits ceilings k' y → b ≡ allowed l count → b ≡ passes limits ceilings k k' σ y
  unfolding passes
  passes_is k' σ y h count l b small e f g r = r ∙ rw (g, f, fire_alone σ (λ _. h) (highest (held limits ceilings k)) y small e)

  -- passes by the limit after the step, where the limit of the other ceiling is a limit
  pub passes_stepped : (k' : ℕ) (σ : Step) (y h after l : ℕ) (b : Bool) → σ.kind ≤ 3 → h ≡ highest (held limits ceilings k) y → after ≡ limit_after_step h σ y → l ≡ held limits ceilings k' y → l ≤ omega_limit → b ≡ allowed l after → b ≡ passes limits ceilings k k' σ y
  passes_stepped k' σ y h after l b small e f g bound r =
      passes_is k' σ y h (fire (rule_of_step σ) (λ _. h) y) l b small e refl g (r ∙ rw f (stepped_decides σ l y h small bound))

  -- what is held once at least
  held_one : (x : ℕ) → 1 ≤ highest (held limits ceilings k) x → 1 ≤ held limits ceilings k x
  held_one x h = elim (ℕ_discrete (held limits ceilings k x) 0) [
    | yes z ↦ let w = highest_limit (held limits ceilings k) x 0 (sym z) (λ u. omega arith) in absurd (omega arith)
    | no z ↦ omega arith
  ]

  pub usable_from : (σ : Step) → usable (rule_of_step σ) (highest (held limits ceilings k)) ≡ true → 1 ≤ held limits ceilings k σ.from
  unfolding usable rule_of_step
  usable_from σ u = held_one σ.from (leb-true 1 _ (and_left (leb 1 (highest (held limits ceilings k) σ.from)) _ u))

  pub usable_read : (σ : Step) → σ.kind ≡ 1 → usable (rule_of_step σ) (highest (held limits ceilings k)) ≡ true → 1 ≤ held limits ceilings k σ.other
  unfolding usable rule_of_step readable effect_of
  usable_read σ e u =
      held_one σ.other
      (leb-true 1 _
      (subst (λ z. readable (effect_of z σ.other) (highest (held limits ceilings k)) ≡ true) e (and_right (leb 1 (highest (held limits ceilings k) σ.from)) _ u)))

  -- one more than none
  pub more_none : (y : ℕ) (m : Mask) (high : ℕ) → held limits ceilings k y ≡ 0 → high ≡ raised 0 → ((i : ℕ) → get_or limits i 0 < 65536) → ((j : ℕ) → j < 256 → has m j ≡ allows limits ceilings y high j) → (j : ℕ) → j < 256 → has m j ≡ takes_more limits ceilings k y j
  more_none y m high z e =
      more_as limits ceilings k y 0 (highest_limit (held limits ceilings k) y 0 (sym z) (λ u. omega arith)) m high
      (e ∙ ap raised (sym (as_limit_below 0 (omega arith))))

pub reading_as : (left twice thrice a b c d : ℕ → Bool) (j : ℕ) → a j ≡ c j → b j ≡ d j → reading left twice thrice a b j ≡ reading left twice thrice c d j
unfolding reading
reading_as left twice thrice a b c d j e f = rw (e, f)

pub reading_is : (left near pair first once : Mask) (t h : Mask) (r s : Mask) (a b : ℕ → Bool) (j : ℕ) → has near j ≡ b j → has first j ≡ a j → has once j ≡ (has near j && not (has t j)) → has pair j ≡ (has first j && has near j) → has s j ≡ (has pair j && not (has h j)) → (o : Mask) → has o j ≡ (has left j || has once j) → has r j ≡ (has o j || has s j) → has r j ≡ reading (has left) (has t) (has h) a b j
unfolding reading
reading_is left near pair first once t h r s a b j n f x p y o u v = rw (v, u, x, y, p, n, f)

-- the candidates by the counters that a step takes from
module _ (over : Over) (near : List ℕ) (left : Mask) (σ : Step) (r : Mask) (taken : Taken over near left σ r) where
  pub taken_within : (σ.kind ≡ 1 → ⊥) → (j : ℕ) → has r j ≡ true → has left j ≡ true
  taken_within quiet j h = subst (λ m. has m j ≡ true) (taken.quiet quiet) h

  pub taken_is : (limits : List ℕ) (ceilings n k : ℕ) (holders : List ℕ) → Beside limits ceilings n k holders over near → StepApart n σ → Left limits ceilings n k σ.from left → usable (rule_of_step σ) (highest (held limits ceilings k)) ≡ true → Candidates limits ceilings n k σ r
  taken_is limits ceilings n k holders b shape l u = elim (ℕ_discrete σ.kind 1) [
    | yes e ↦ taken_reading limits ceilings n k σ shape over b.held_by.few b.counted left l e r
        (λ j h. taken.reads e j h ∙ reading_as _ _ _ _ _ _ _ j
        (b.neighbours.by_one σ.from j shape.from (usable_from limits ceilings k σ u) h)
        (b.neighbours.by_one σ.other j (shape.read e).0 (usable_read limits ceilings k σ e u) h))
    | no e ↦ subst (λ m. Candidates limits ceilings n k σ m) (sym (taken.quiet e)) (taken_quiet limits ceilings n k σ shape left e l)
  ]

-- a step adds to where it leads, and to what it puts or starts
pub adds_to : (σ : Step) → (eqb σ.to σ.to || does_add_other σ σ.to) ≡ true
adds_to σ = or_left (eqb σ.to σ.to) _ (eq-eqb σ.to σ.to refl)

pub adds_it : (σ : Step) → 2 ≤ σ.kind → (eqb σ.other σ.to || does_add_other σ σ.other) ≡ true
unfolding does_add_other
adds_it σ h = or_right (eqb σ.other σ.to) _ (rw (le-leb 2 σ.kind h) (eq-eqb σ.other σ.other refl))

-- whether a step is sure, by its parts
module _ (σ : Step) where
  pub sure_reads : σ.kind ≡ 1 → false ≡ sure σ
  unfolding sure
  sure_reads e = rw (eq-eqb σ.kind 1 e)

  module _ (quiet : σ.kind ≡ 1 → ⊥) where
    pub sure_stays : σ.to ≡ σ.from → false ≡ sure σ
    unfolding sure
    sure_stays e = rw (ne_eqb σ.kind 1 quiet, eq-eqb σ.to σ.from e)

    module _ (leaves : σ.to ≡ σ.from → ⊥) where
      pub sure_moves : σ.kind < 2 → true ≡ sure σ
      unfolding sure
      sure_moves h = rw (ne_eqb σ.kind 1 quiet, ne_eqb σ.to σ.from leaves, lt-ltb σ.kind 2 h)

      pub sure_back : 2 ≤ σ.kind → σ.other ≡ σ.from → false ≡ sure σ
      unfolding sure
      sure_back h e = rw (ne_eqb σ.kind 1 quiet, ne_eqb σ.to σ.from leaves, le-ltb σ.kind 2 h, eq-eqb σ.other σ.from e)

      pub sure_adds : 2 ≤ σ.kind → (σ.other ≡ σ.from → ⊥) → not (eqb σ.other σ.to) ≡ sure σ
      unfolding sure
      sure_adds h d = rw (ne_eqb σ.kind 1 quiet, ne_eqb σ.to σ.from leaves, le-ltb σ.kind 2 h, ne_eqb σ.other σ.from d)

  -- the counters of a sure step differ
  record ApartAll : Type 0 where
    quiet : σ.kind ≡ 1 → ⊥
    leaves : σ.to ≡ σ.from → ⊥
    not_from : 2 ≤ σ.kind → σ.other ≡ σ.from → ⊥
    not_to : 2 ≤ σ.kind → σ.other ≡ σ.to → ⊥

  sure_apart : sure σ ≡ true → ApartAll
  sure_apart t =
      let quiet : σ.kind ≡ 1 → ⊥ = λ e. true_false t (sym (sure_reads e)) in
      let leaves : σ.to ≡ σ.from → ⊥ = λ e. true_false t (sym (sure_stays quiet e)) in
      let not_from : 2 ≤ σ.kind → σ.other ≡ σ.from → ⊥ = λ h e. true_false t (sym (sure_back quiet leaves h e)) in
      record {
        quiet = quiet;
        leaves = leaves;
        not_from = not_from;
        not_to = λ h e. true_false (sure_adds quiet leaves h (not_from h) ∙ t) (not_fails _ (eq-eqb σ.other σ.to e));
      }

  pub adds_elim : (y : ℕ) → does_add_other σ y ≡ true → (2 ≤ σ.kind) × (y ≡ σ.other)
  unfolding does_add_other
  adds_elim y t = (leb-true 2 σ.kind (and_left (leb 2 σ.kind) _ t), eqb-true y σ.other (and_right (leb 2 σ.kind) _ t))

  pub adds_apart : (y : ℕ) → (2 ≤ σ.kind → y ≡ σ.other → ⊥) → does_add_other σ y ≡ false
  adds_apart y h = test (does_add_other σ y) (λ t. absurd (let (a, b) = adds_elim y t in h a b)) (λ t. t)

  -- a counter to which not both parts of the step add has one more at most
  pub fire_once : (m : Marking) (y : ℕ) → σ.kind ≤ 3 → (eqb y σ.to ≡ false) ⊎ (does_add_other σ y ≡ false) → fire (rule_of_step σ) m y ≤ m y + 1
  fire_once m y h once =
      let first : ℕ = one_less_if (eqb y σ.from) (m y) in
      let left : ℕ = one_less_if (does_take_other σ y) first in
      let moved : ℕ = more_if (eqb y σ.to) left in
      let a = less_small (eqb y σ.from) (m y) first refl in
      let b = less_small (does_take_other σ y) first left refl in
      ⊎_elim
      (λ e. let u = more_fail (eqb y σ.to) left e in let v = more_small (does_add_other σ y) moved _ refl in omega (arith, fire_stages σ m y h))
      (λ e. let u = more_small (eqb y σ.to) left moved refl in let v = more_fail (does_add_other σ y) moved e in omega (arith, fire_stages σ m y h)) once

-- a ceiling that holds one more
pub more_allows : (limits : List ℕ) (ceilings k y j : ℕ) → takes_more limits ceilings k y j ≡ true → allowed (held limits ceilings j y) (most limits ceilings k y + 1) ≡ true
unfolding takes_more allows
more_allows limits ceilings k y j h = and_right (ltb j ceilings) _ h

module _ (limits : List ℕ) (ceilings n k : ℕ) (σ : Step) where
  -- those that hold one more at a counter, of a mask, or the mask itself where the step takes from the counter or it is none of the n
  pub raised_kept : (y : ℕ) (m : Mask) → (y < n → (y ≡ σ.from → ⊥) → does_take_other σ y ≡ false → ⊥) → Raised limits ceilings n k σ y m m
  raised_kept y m none = record { within = λ j h. h; more = λ j l h a b t. absurd (none a b t) }

  pub raised_and : (y : ℕ) (m more r : Mask) → ((j : ℕ) → j < 256 → has more j ≡ takes_more limits ceilings k y j) → ((j : ℕ) → has r j ≡ (has m j && has more j)) → Raised limits ceilings n k σ y m r
  raised_and y m more r is and =
      record {
        within = λ j h. and_left (has m j) (has more j) (sym (and j) ∙ h);
        more = λ j l h a b t. sym (is j l) ∙ and_right (has m j) (has more j) (sym (and j) ∙ h);
      }

  passes_lower : (j y a : ℕ) → allowed (held limits ceilings j y) a ≡ true → fire (rule_of_step σ) (highest (held limits ceilings k)) y ≤ a → passes limits ceilings k j σ y ≡ true
  unfolding passes
  passes_lower j y a h le = allowed_lower (held limits ceilings j y) a _ h le

  -- A ceiling that is left and holds one more where a sure step adds covers: where the step takes, where it adds, and elsewhere.
  pub exact_at : (left : Mask) (j : ℕ) → j < ceilings → σ.kind ≤ 3 → Left limits ceilings n k σ.from left → has left j ≡ true → (σ.to < n → takes_more limits ceilings k σ.to j ≡ true) → (2 ≤ σ.kind → σ.other < n → takes_more limits ceilings k σ.other j ≡ true) → sure σ ≡ true → (y : ℕ) → y < n → passes limits ceilings k j σ y ≡ true
  exact_at left j low small l in_left a b t y inside =
      let u = sure_apart σ t in
      let counts : Marking = highest (held limits ceilings k) in
      elim (ℕ_discrete y σ.from) [
        | yes e ↦
            let less = less_pass (eqb y σ.from) (counts y) (eq-eqb y σ.from e) in
            let fewer = fire_fewer σ counts y small (ne_eqb y σ.to (λ z. u.leaves (sym z ∙ e))) (adds_apart σ y (λ two z. u.not_from two (sym z ∙ e))) in
            passes_lower j y (counts y - 1) (rw e (l.here j low in_left)) (omega (arith, less, fewer))
        | no d ↦ elim (ℕ_discrete y σ.to) [
          | yes e ↦
              passes_lower j y (counts y + 1)
              (more_allows limits ceilings k y j (rw e (a (rw (← e) inside))))
              (fire_once σ counts y small (inr (adds_apart σ y (λ two z. u.not_to two (sym z ∙ e)))))
          | no f ↦ test (does_add_other σ y)
              (λ g. let (two, e) = adds_elim σ y g in
              passes_lower j y (counts y + 1)
              (more_allows limits ceilings k y j (rw e (b two (rw (← e) inside))))
              (fire_once σ counts y small (inl (ne_eqb y σ.to f))))
              (λ g. let less = less_fail (eqb y σ.from) (counts y) (ne_eqb y σ.from d) in
              let fewer = fire_fewer σ counts y small (ne_eqb y σ.to f) g in
              passes_lower j y (counts y) (fits_not limits ceilings n k j y (l.others j y low in_left inside d)) (omega (arith, less, fewer)))
        ]
      ]

  -- so the candidates of a sure step cover
  pub exact_is : (left taken to r : Mask) → ceilings ≤ 256 → σ.kind ≤ 3 → Left limits ceilings n k σ.from left → ((σ.kind ≡ 1 → ⊥) → (j : ℕ) → has taken j ≡ true → has left j ≡ true) → Raised limits ceilings n k σ σ.to taken to → (2 ≤ σ.kind → Raised limits ceilings n k σ σ.other to r) → ((j : ℕ) → has r j ≡ true → has to j ≡ true) → Exact limits ceilings n k σ r
  exact_is left taken to r few small l w a b s t j y low h inside =
      let u = sure_apart σ t in
      let in-to = s j h in
      exact_at left j low small l (w u.quiet j (a.within j in-to))
      (λ z. a.more j (omega arith) in-to z u.leaves (takes_none σ σ.to u.quiet))
      (λ two z. (b two).more j (omega arith) h z (u.not_from two) (takes_none σ σ.other u.quiet))
      t y inside
