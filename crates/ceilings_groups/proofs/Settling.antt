-- A ceiling that is left, and open to a rule, covers the counts after it.
use Prim.Native.Nat.{ℕ, ◌+◌, ◌*◌, ◌-◌, ◌≤◌, ◌<◌}
use native.Mathlib.Decide.{ℕ_discrete, dec_lt}
use native.Mathlib.Omega.{arith}
use mathlib.Core.Path.{◌≡◌, refl, sym, ◌∙◌, ap}
use mathlib.Core.Bool.{Bool, true, false, not, ◌&&◌, ◌||◌}
use mathlib.Core.Logic.{inl, inr, ⊎_elim}
use mathlib.Core.List.{List, Memᴰ}
use lib.Dec.{eqb, leb, ltb}
use lib.ListN.{get_or}
use borrow.Author.Tests.{eq-eqb, ne_eqb, eqb-true, leb-true, le-leb, lt-ltb}
use Rattle.model.specs.Limits.{omega_limit}
use Rattle.model.specs.Index.{any, all}
use Rattle.model.specs.Rows.{Program}
use Rattle.model.specs.Tables.{Tables, state_at}
use Rattle.model.specs.Rules.{Rule, state_rules_of}
use Rattle.model.specs.Markings.{Marking, usable, fire}
use Rattle.model.specs.Ceilings.{allowed, highest, under, under_some, leads_out}
use Rattle.model.proofs.Logic.{test, and_left, and_right, and_intro, or_left, or_right, or_cases, and_none, not_not, both}
use Rattle.model.proofs.Index.{any_elim, any_intro, all_intro, all_elim}
use Rattle.bits.specs.Bits.{member}
use Rattle.masks.specs.declared.Mask.{Mask}
use Rattle.masks.specs.Masks.{has}
use Rattle.steps.specs.declared.Step.{Step}
use Rattle.steps.specs.Steps.{rule_of_step, does_add_other}
use Rattle.steps.proofs.Stepping.{fire_fewer, less_pass, less_fail}
use Rattle.ceilings.specs.Table.{held}
use Rattle.ceilings_form.proofs.Limited.{highest_limit}
use Rattle.ceilings_masks.specs.declared.Over.{Over}
use Rattle.ceilings_masks.specs.Compared.{ThreePut, reaches, most, MoreFrom, Above}
use Rattle.ceilings_covers.specs.Covers.{Left}
use Rattle.ceilings_covers.proofs.Covering.{allowed_lower, fits_not, adds_elim, adds_apart, fire_once, more_allows}
use Rattle.ceilings_groups.specs.Groups.{table_ceilings, escapes, OpenAt, OpenStep, OpenAll, OpenTo, SetsOpen, GroupsUpto, GroupPut, in_sets}
use Rattle.ceilings_groups.proofs.Leading.{any_same, leads_none}

-- a limit that reaches more than the count allows it
pub reached_allows : (limits : List ℕ) (ceilings y least count k : ℕ) → count ≤ least → reaches limits ceilings y least k ≡ true → allowed (held limits ceilings k y) count ≡ true
unfolding allowed reaches
reached_allows limits ceilings y least count k low h =
    let l : ℕ = held limits ceilings k y in
    let z = leb-true least l (and_right (ltb k ceilings) _ h) in
    or_right (eqb l omega_limit) _ (le-leb count l (omega arith))

-- a step is open to a ceiling that is open where it adds
pub step_open : (limits : List ℕ) (ceilings n low k : ℕ) (σ : Step) → σ.kind ≤ 3 → OpenStep limits ceilings n low k σ.kind σ.to σ.other → OpenTo limits ceilings n low k (rule_of_step σ)
unfolding rule_of_step
step_open limits ceilings n low k σ small (to, other) m y h =
    test (eqb y σ.to)
    (λ e. let z = eqb-true y σ.to e in
    inl (rw z (to (omega arith)), fire_once σ m y small (inr (adds_apart σ y (λ two w. (other two).1 (sym z ∙ w))))))
    (λ e. test (does_add_other σ y)
    (λ f. let (two, z) = adds_elim σ y f in
    inl (rw z ((other two).0 (omega arith)), fire_once σ m y small (inl e)))
    (λ f. inr (fire_fewer σ m y small e f)))

-- a limit that allows 65,535 allows every count
unbounded_allows : (l c : ℕ) → l < 65536 → allowed l omega_limit ≡ true → allowed l c ≡ true
unfolding allowed
unbounded_allows l c small h =
    or_left (eqb l omega_limit) _
    (⊎_elim (λ e. e) (λ e. eq-eqb l omega_limit (let z = leb-true omega_limit l e in omega arith)) (or_cases (eqb l omega_limit) _ h))

module _ (limits : List ℕ) (ceilings n k i : ℕ) (left : Mask) (l : Left limits ceilings n k i left) (words : (z : ℕ) → get_or limits z 0 < 65536) where
  -- where a ceiling is open it allows one more than the highest: below `low` it has no bound; behind it ceiling k has no
  -- limit, and one more is one, or the ceiling is of those that hold one more
  open_more : (low : ℕ) (mask : Mask) → MoreFrom limits ceilings low n k mask → (j y : ℕ) → j < 256 → y < n → has mask j ≡ true → OpenAt limits ceilings low j y → allowed (held limits ceilings j y) (most limits ceilings k y + 1) ≡ true
  unfolding MoreFrom
  open_more low mask up j y few inside h o = elim (dec_lt y low) [
    | yes b ↦ unbounded_allows _ _ (words (y * ceilings + j)) (o.no_bound b)
    | no b ↦ elim (ℕ_discrete (held limits ceilings k y) 0) [
      | yes z ↦
          let none = highest_limit (held limits ceilings k) y 0 (sym z) (λ w. omega arith) in
          allowed_lower (held limits ceilings j y) 1 _ (o.one (omega arith)) (omega (arith, none))
      | no z ↦ more_allows limits ceilings k y j (up y j (omega arith) inside (omega arith) few h)
    ]
  ]

  -- a ceiling that is left and open to the rule, where it then allows one more than the highest
  open_covers : (ρ : Rule) (j low : ℕ) → j < ceilings → has left j ≡ true → ρ.from ≡ i → OpenTo limits ceilings n low j ρ → ((y : ℕ) → y < n → OpenAt limits ceilings low j y → allowed (held limits ceilings j y) (most limits ceilings k y + 1) ≡ true) → under n (held limits ceilings j) (fire ρ (highest (held limits ceilings k))) ≡ true
  unfolding under
  open_covers ρ j low b h from opens more =
      all_intro 0 n _
      (λ y start inside. ⊎_elim
      (λ e. allowed_lower (held limits ceilings j y) (highest (held limits ceilings k) y + 1) _ (more y inside e.0) e.1)
      (λ e. elim (ℕ_discrete y i) [
        | yes z ↦
            let less = less_pass (eqb y ρ.from) (highest (held limits ceilings k) y) (eq-eqb y ρ.from (z ∙ sym from)) in
            allowed_lower (held limits ceilings j y) (highest (held limits ceilings k) y - 1) _ (rw z (l.here j b h)) (omega (arith, e, less))
        | no z ↦
            let less = less_fail (eqb y ρ.from) (highest (held limits ceilings k) y) (ne_eqb y ρ.from (λ w. z (w ∙ from))) in
            allowed_lower (held limits ceilings j y) (highest (held limits ceilings k) y) _ (fits_not limits ceilings n k j y (l.others j y b h inside z)) (omega (arith, e, less))
      ]) (opens (highest (held limits ceilings k)) y inside))

  covered_in : (ρ : Rule) (j : ℕ) → j < ceilings → under n (held limits ceilings j) (fire ρ (highest (held limits ceilings k))) ≡ true → escapes (table_ceilings ceilings n limits) ρ (highest (held limits ceilings k)) ≡ false
  unfolding escapes under_some
  covered_in ρ j b u =
      ap (λ z. usable ρ (highest (held limits ceilings k)) && not z) (any_intro 0 ceilings j (λ x. under n (held limits ceilings x) (fire ρ (highest (held limits ceilings k)))) (omega arith) b u) ∙
      and_none (usable ρ (highest (held limits ceilings k)))

  -- a ceiling that is left, of those that hold one more from `low` on, and open from there on to the rule
  set_covers : (low : ℕ) (mask : Mask) → MoreFrom limits ceilings low n k mask → (ρ : Rule) (j : ℕ) → j < 256 → has left j ≡ true → has mask j ≡ true → ρ.from ≡ i → OpenTo limits ceilings n low j ρ → escapes (table_ceilings ceilings n limits) ρ (highest (held limits ceilings k)) ≡ false
  set_covers low mask up ρ j few h of from opens =
      let b = l.few j few h in
      covered_in ρ j b (open_covers ρ j low b h from opens (λ y inside. open_more low mask up j y few inside of))

  -- no counter is from n on
  more_none : (mask : Mask) → MoreFrom limits ceilings n n k mask
  unfolding MoreFrom
  more_none mask x j from inside = absurd (omega arith)

  pub settles : (states : ℕ) (over : Over) → Above limits ceilings states n k over → (p : Program) (t : Tables) (S : ℕ) (group : List ℕ) → i < S → GroupsUpto p t limits ceilings states n S group → any 0 256 (λ j. has left j && in_sets over group i j) ≡ true → leads_out (table_ceilings ceilings n limits) (state_rules_of p t i (state_at t i)) (highest (held limits ceilings k)) ≡ false
  unfolding in_sets
  settles states over up p t S group inside g some =
      let (j, w, e) = any_elim 0 256 (λ j. has left j && in_sets over group i j) some in
      let h = and_left (has left j) _ e in
      leads_none (table_ceilings ceilings n limits) (highest (held limits ceilings k)) _
      (λ ρ r. ⊎_elim
      (λ a. set_covers n left (more_none left) ρ j w.1 h h (g.leaves i ρ inside r) (g.opens i inside j ρ w.1 a r))
      (λ a. ⊎_elim
      (λ d. set_covers states over.letters up.letters ρ j w.1 h (and_left (has over.letters j) _ d) (g.leaves i ρ inside r) (g.opens_letters i inside j ρ w.1 (and_right (has over.letters j) _ d) r))
      (λ d. set_covers 0 over.above up.above ρ j w.1 h (and_left (has over.above j) _ d) (g.leaves i ρ inside r) (g.opens_one i inside j ρ w.1 (and_right (has over.above j) _ d) r))
      (or_cases (has over.letters j && member group 4 (3 * i + 1) j) _ a))
      (or_cases (member group 4 (3 * i) j) _ (and_right (has left j) _ e)))

-- the rules before number j are open to the ceilings of the mask
unfoldable pub OpenUpto : List ℕ → ℕ → ℕ → ℕ → ℕ → List ℕ → List ℕ → ℕ → Mask → Type 0
OpenUpto limits ceilings n low kind tos others j m = OpenAll limits ceilings n low kind tos others j (has m)

module _ (limits : List ℕ) (ceilings n low kind : ℕ) (tos others : List ℕ) where
  pub open_start : (m : Mask) → OpenUpto limits ceilings n low kind tos others 0 m
  unfolding OpenUpto
  open_start m k a h l = absurd (omega arith)

  pub open_next : (j : ℕ) (m r : Mask) → OpenUpto limits ceilings n low kind tos others j m → ((k : ℕ) → has r k ≡ true → has m k ≡ true) × ((k : ℕ) → k < 256 → has r k ≡ true → OpenStep limits ceilings n low k kind (get_or tos j 0) (get_or others j 0)) → OpenUpto limits ceilings n low kind tos others (j + 1) r
  unfolding OpenUpto
  open_next j m r o (kept, here) k a h l t = elim (ℕ_discrete a j) [ yes e ↦ rw e (here k h t) | no e ↦ o k a h (omega arith) (kept k t) ]

  pub open_all : (j m : ℕ) (r : Mask) → m ≤ j → OpenUpto limits ceilings n low kind tos others j r → OpenAll limits ceilings n low kind tos others m (has r)
  unfolding OpenUpto
  open_all j m r all o k a h l = o k a h (omega arith)

-- a bit of the masks by which a state is settled
pub settled_bit : (over : Over) (group : List ℕ) (i k : ℕ) (l first second third lettered raised held_by either all : Bool) → all ≡ (l && either) → either ≡ (first || held_by) → held_by ≡ (lettered || raised) → first ≡ member group 4 (3 * i) k → lettered ≡ (has over.letters k && second) → second ≡ member group 4 (3 * i + 1) k → raised ≡ (has over.above k && third) → third ≡ member group 4 (3 * i + 2) k → all ≡ (l && in_sets over group i k)
unfolding in_sets
settled_bit over group i k l first second third lettered raised held_by either all e f g h i₁ i₂ j₁ j₂ = e ∙ rw (f, g, h, i₁, i₂, j₁, j₂)

-- the mask has the ceilings that have no bound at the counters before x
unfoldable pub BoundlessUpto : List ℕ → ℕ → Mask → Type 0
BoundlessUpto holders x m = (k : ℕ) → k < 256 → has m k ≡ all 0 x (λ y. member holders 4 (3 * y + 2) k)

all_more : (x : ℕ) (f : ℕ → Bool) → (all 0 x f && f x) ≡ all 0 (x + 1) f
all_more x f =
    both _ _
    (λ t. all_intro 0 (x + 1) f (λ y a b. elim (ℕ_discrete y x) [ yes e ↦ rw e (and_right (all 0 x f) (f x) t) | no e ↦ all_elim 0 x y f (and_left (all 0 x f) (f x) t) a (omega arith) ]))
    (λ t. and_intro _ _ (all_intro 0 x f (λ y a b. all_elim 0 (x + 1) y f t a (omega arith))) (all_elim 0 (x + 1) x f t (omega arith) (omega arith)))

module _ (holders : List ℕ) where
  pub boundless_start : (m : Mask) → ((k : ℕ) → k < 256 → has m k ≡ ltb k 256) → BoundlessUpto holders 0 m
  unfolding BoundlessUpto
  boundless_start m is k h = is k h ∙ (lt-ltb k 256 h ∙ sym (all_intro 0 0 (λ y. member holders 4 (3 * y + 2) k) (λ y a b. absurd (omega arith))))

  pub boundless_next : (x : ℕ) (m next r : Mask) → BoundlessUpto holders x m → ((k : ℕ) → k < 256 → has next k ≡ member holders 4 (3 * x + 2) k) → ((k : ℕ) → has r k ≡ (has m k && has next k)) → BoundlessUpto holders (x + 1) r
  unfolding BoundlessUpto
  boundless_next x m next r b is and k h = and k ∙ (rw (b k h, is k h) (all_more x (λ y. member holders 4 (3 * y + 2) k)))

  pub boundless_some : (n x : ℕ) (m : Mask) (r : Bool) → x ≡ n → BoundlessUpto holders x m → r ≡ not (any 0 256 (has m)) → not r ≡ any 0 256 (λ k. all 0 n (λ y. member holders 4 (3 * y + 2) k))
  unfolding BoundlessUpto
  boundless_some n x m r e b is = ap not is ∙ (not_not _ ∙ (any_same 0 256 _ _ b ∙ rw e))

-- the sets of one state, one behind the other
pub sets_put : (limits : List ℕ) (ceilings states n kind : ℕ) (tos others : List ℕ) (m i : ℕ) (group group' : List ℕ) (f g h : ℕ → Bool) → SetsOpen limits ceilings states n kind tos others m f g h → ThreePut i f g h group group' → GroupPut limits ceilings states n kind tos others m i group group'
sets_put limits ceilings states n kind tos others m i group group' f g h sets put =
    record {
      sets = record {
        opens = λ k j l b t. sets.opens k j l b (sym (put.first k l) ∙ t);
        opens_letters = λ k j l b t. sets.opens_letters k j l b (sym (put.second k l) ∙ t);
        opens_one = λ k j l b t. sets.opens_one k j l b (sym (put.third k l) ∙ t);
      };
      stays = λ x k low l. put.others x k l (λ e. omega arith);
      long = put.long;
    }
