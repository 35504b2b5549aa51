-- Demand 3 from its parts: every list of process numbers has its rules, a longer list's go on from a shorter one's, and the counts agree all along.
use Prim.Native.Nat.{ℕ, zero, suc, ◌+◌, ◌<◌, ◌≤◌}
use native.Mathlib.Decide.{dec_lt}
use native.Mathlib.Omega.{arith}
use mathlib.Core.Path.{◌≡◌, refl, ◌∙◌, ap}
use mathlib.Core.Bool.{true}
use mathlib.Core.List.Memᴰ
use mathlib.Core.List.{List, [], ◌∷◌, ◌++◌}
use mathlib.Core.Option.{Option, some, none, some-injective, none-ne-some}
use lib.ListN.{length, get_or, take}
use Rattle.model.specs.Rows.{Program, size, tag}
use lib.Dec.{eqb}
use borrow.Author.Tests.{eq-eqb}
use Rattle.model.specs.Heads.{start, is_class_of}
use Rattle.model.specs.Letters.{head_count, row_head_of, return_of}
use Rattle.model.specs.Values.{Processes}
use Rattle.model.specs.Run.{step_of, starting, next, run_from, run}
use Rattle.model.specs.Tables.{Tables}
use Rattle.model.specs.Tables.{state as triple}
use Rattle.model.specs.Closed.{start_state}
use Rattle.model.specs.Rules.{Rule, rules}
use Rattle.model.specs.Markings.{Marking, usable, fire, initial, fire_all}
use Rattle.model.specs.Verify.{Message}
use Rattle.model.specs.Wanted.{Closed, state, first_state, by_opening}
use Rattle.model.specs.Demands.{ByCeilings, ByWeights, Met, line_sum, UnderOne, Evidence, Matches, made, not_made, used, EqualCounts, AllRunsFollowed}
use Rattle.model.proofs.Logic.{test, or_right}
use Rattle.model.proofs.Reader.{by_option}
use Rattle.model.proofs.Follow.Changes.{rule_of}
use Rattle.model.proofs.Follow.Fire.{fire_follows, equal_start}
use Rattle.model.proofs.Invariant.{classes_of, AllGood}
use Rattle.model.proofs.Parse.Reached.{RowsFit}
use Rattle.model.proofs.Parse.Locations.{start_location}
use Rattle.model.proofs.Parse.Lengths.{ColumnsWhole}
use Rattle.model.proofs.Stepped.{step_stepped}

-- counts that agree with a station, under one ceiling, or weighing no more than the start
pub record Agrees (m : Message) (qs : Processes) (counts : Marking) : Type 0 where
  pub equal : EqualCounts m qs counts
  pub bounded : ByCeilings m → UnderOne m.ceilings counts
  pub not_above : ByWeights m → (l : ℕ) → l < m.lines.size → line_sum m l counts ≤ line_sum m l (initial m.program m.tables)

-- some rules lead from counts to counts that agree, and raise no line's sum
pub record Leads (m : Message) (ρs : List Rule) (counts : Marking) (qs : Processes) : Type 0 where
  pub counts' : Marking
  pub is_run : fire_all ρs counts ≡ some counts'
  pub agrees : Agrees m qs counts'
  pub not_risen : ByWeights m → (l : ℕ) → l < m.lines.size → line_sum m l counts' ≤ line_sum m l counts

-- one number: the rule for it, the invariant after it, and the counts that follow
pub record Turn (m : Message) (qs : Processes) (i : ℕ) : Type 0 where
  pub option : Option Rule
  pub good : AllGood m.program m.tables (classes_of (next m.program qs i)) (next m.program qs i)
  pub matches : Matches (rules m.program m.tables) (step_of m.program qs i) option
  pub leads : (counts : Marking) → Agrees m qs counts → Leads m (used (option ∷ [])) counts (next m.program qs i)

fire_one : (ρ : Rule) (counts : Marking) → usable ρ counts ≡ true → fire_all (ρ ∷ []) counts ≡ some (fire ρ counts)
unfolding fire_all
fire_one ρ counts h = rw (h, fire_all)

fire_append : (ρs σs : List Rule) (counts counts' : Marking) → fire_all ρs counts ≡ some counts' → fire_all (ρs ++ σs) counts ≡ fire_all σs counts'
unfolding fire_all
fire_append [] σs counts counts' h = ap (fire_all σs) (some-injective counts counts' h)
fire_append (ρ ∷ ρs) σs counts counts' h =
    test (usable ρ counts) (λ e. rw (e, fire_all) (fire_append ρs σs (fire ρ counts) counts' (rw (e, fire_all) at h)))
    (λ e. absurd (none-ne-some counts' (rw (e, fire_all) at h)))

one_less : (k n : ℕ) → suc k ≤ suc n → k ≤ n
one_less k n h = omega arith

used_more : (o : Option Rule) (os : List (Option Rule)) → used (o ∷ os) ≡ used (o ∷ []) ++ used os
unfolding used
used_more none os = refl
used_more (some ρ) os = refl

module _ (m : Message) (fit : RowsFit m.program) (w : ColumnsWhole m.program) (past_end : tag m.program (size m.program) ≡ 0) (low : (v : ℕ) → row_head_of m.program v < head_count m.program) (closed : Closed m.program m.tables) (evidence : Evidence m) where
  abbrev p : Program
  p = m.program

  abbrev t : Tables
  t = m.tables

  abbrev Kept : Processes → Type 0
  Kept qs = AllGood p t (classes_of qs) qs

  turn : (qs : Processes) → Kept qs → (i : ℕ) → Turn m qs i
  unfolding next used fire_all
  turn qs g i =
      by_option (step_of p qs i)
      (λ e. record {
        option = none;
        good = rw (e, next) g;
        matches = rw e not_made;
        leads = λ counts a. record { counts' = counts; is_run = refl; agrees = rw (e, next) a; not_risen = λ w l b. omega arith };
      })
      (λ qs' e. let s = step_stepped p t fit w past_end low closed qs g i qs' e in
      let ρ : Rule = rule_of p t s.from s.to s.change in
      record {
        option = some ρ;
        good = rw (e, next) s.good;
        matches = rw e (made qs' ρ s.is_rule);
        leads = λ counts a.
            let (can, equal) = fire_follows m qs qs' counts s.from s.to s.change a.equal s.moves s.from_there s.to_there s.known in
            let lower : ByWeights m → (l : ℕ) → l < m.lines.size → line_sum m l (fire ρ counts) ≤ line_sum m l counts =
            λ w l b. (evidence.weighed w).never_rise l b counts ρ s.is_rule can in
            record {
              counts' = fire ρ counts;
              is_run = fire_one ρ counts can;
              agrees = rw (e, next) (record {
                equal = equal;
                bounded = λ c. (evidence.bounded c).kept counts ρ (a.bounded c) s.is_rule can;
                not_above = λ w l b. omega (arith, lower w l b, a.not_above w l b);
              });
              not_risen = lower;
            };
      })

  options : (qs : Processes) → Kept qs → List ℕ → List (Option Rule)
  options qs g [] = []
  options qs g (i ∷ is) = let x = turn qs g i in x.option ∷ options (next p qs i) x.good is

  -- as many as there are numbers
  options_length : (qs : Processes) (g : Kept qs) (is : List ℕ) → length (options qs g is) ≡ length is
  unfolding options
  options_length qs g [] = refl
  options_length qs g (i ∷ is) = ap suc (options_length (next p qs i) (turn qs g i).good is)

  -- a longer list's go on from a shorter one's
  options_append : (qs : Processes) (g : Kept qs) (is more : List ℕ) → take (length is) (options qs g (is ++ more)) ≡ options qs g is
  unfolding options
  options_append qs g [] more = refl
  options_append qs g (i ∷ is) more = ap {B = List (Option Rule)} (λ l. (turn qs g i).option ∷ l) (options_append (next p qs i) (turn qs g i).good is more)

  -- each number's rule is for its step
  options_match : (qs : Processes) (g : Kept qs) (is : List ℕ) (k : ℕ) → k < length is → Matches (rules p t) (step_of p (run_from p qs (take k is)) (get_or is k 0)) (get_or (options qs g is) k none)
  unfolding options run_from
  options_match qs g [] k h = absurd (omega arith)
  options_match qs g (i ∷ is) zero h = (turn qs g i).matches
  options_match qs g (i ∷ is) (suc k) h = options_match (next p qs i) (turn qs g i).good is k (omega arith)

  -- after each number the counts agree
  options_lead : (qs : Processes) (g : Kept qs) (counts : Marking) → Agrees m qs counts → (is : List ℕ) (k : ℕ) → k ≤ length is → Leads m (used (take k (options qs g is))) counts (run_from p qs (take k is))
  unfolding options run_from used fire_all
  options_lead qs g counts a [] zero h = record { counts' = counts; is_run = refl; agrees = a; not_risen = λ w l b. omega arith }
  options_lead qs g counts a [] (suc k) h = absurd (omega arith)
  options_lead qs g counts a (i ∷ is) zero h = record { counts' = counts; is_run = refl; agrees = a; not_risen = λ w l b. omega arith }
  options_lead qs g counts a (i ∷ is) (suc k) h =
      let x = turn qs g i in
      let l = x.leads counts a in
      let r = options_lead (next p qs i) x.good l.counts' l.agrees is k (one_less k (length is) h) in
      record {
        counts' = r.counts';
        is_run = ap (λ (ρs : List Rule). fire_all ρs counts) (used_more x.option (take k (options (next p qs i) x.good is))) ∙
            (fire_append (used (x.option ∷ [])) (used (take k (options (next p qs i) x.good is))) counts l.counts' l.is_run ∙ r.is_run);
        agrees = r.agrees;
        not_risen = λ w l' b. omega (arith, r.not_risen w l' b, l.not_risen w l' b);
      }

  -- after more numbers no line's sum is higher
  options_lower :
      ByWeights m → (qs : Processes) (g : Kept qs) (counts : Marking) (a : Agrees m qs counts) (is : List ℕ) (j k : ℕ) → j ≤ k → (hj : j ≤ length is) (hk : k ≤ length is) → (l : ℕ) → l < m.lines.size →
      line_sum m l (options_lead qs g counts a is k hk).counts' ≤ line_sum m l (options_lead qs g counts a is j hj).counts'
  unfolding options_lead
  options_lower w qs g counts a [] zero k le hj hk l b = (options_lead qs g counts a [] k hk).not_risen w l b
  options_lower w qs g counts a [] (suc j) k le hj hk l b = absurd (omega arith)
  options_lower w qs g counts a (i ∷ is) zero k le hj hk l b = (options_lead qs g counts a (i ∷ is) k hk).not_risen w l b
  options_lower w qs g counts a (i ∷ is) (suc j) zero le hj hk l b = absurd (omega arith)
  options_lower w qs g counts a (i ∷ is) (suc j) (suc k) le hj hk l b =
      let x = turn qs g i in
      let y = x.leads counts a in
      options_lower w (next p qs i) x.good y.counts' y.agrees is j k (omega arith) (one_less j (length is) hj) (one_less k (length is) hk) l b

  start_good : Kept (starting p)
  unfolding starting classes_of is_class_of return_of
  start_good = (
    record {
      location = start_location fit;
      class = or_right (eqb (tag p (size p)) 6) (eqb (size p) (size p)) (eq-eqb (size p) (size p) refl);
      present = closed (state (triple (size p) (start p) (size p))) (by_opening first_state);
      held = tt;
      frames = tt;
      mailbox = λ v there. absurd (Memᴰ.not-nil there);
    },
    tt,
  )

  -- the invariant holds of every run
  kept_on : (qs : Processes) → Kept qs → (is : List ℕ) → Kept (run_from p qs is)
  unfolding run_from
  kept_on qs g [] = g
  kept_on qs g (i ∷ is) = kept_on (next p qs i) (turn qs g i).good is

  pub run_good : (is : List ℕ) → Kept (run p is)
  unfolding run
  run_good is = kept_on (starting p) start_good is

  start_agrees : Agrees m (starting p) (initial p t)
  unfolding start_state
  start_agrees =
      record {
        equal = equal_start m (closed (state (triple (size p) (start p) (size p))) (by_opening first_state));
        bounded = λ c. (evidence.bounded c).contain_start;
        not_above = λ w l b. omega arith;
      }

  -- counts that agree meet no bad: they lie under a ceiling, or weigh no more than the start
  meet_no_bad : (qs : Processes) (counts : Marking) → Agrees m qs counts → (j : ℕ) → j < m.sizes.bads → Met m counts j → ⊥
  meet_no_bad qs counts a j b met = elim (dec_lt 0 m.sizes.lines) [
    | yes w ↦
        let (l, below, above) = (evidence.weighed w).settled j b in
        omega (arith, above counts met, a.not_above w l below)
    | no w ↦ let c : ByCeilings m = omega arith in (evidence.bounded c).meet_no_bad counts j (a.bounded c) b met
  ]

  pub all_runs_followed : AllRunsFollowed m (rules p t)
  unfolding run
  all_runs_followed =
      record {
        rules_for = options (starting p) start_good;
        goes_on = options_append (starting p) start_good;
        followed = λ numbers. record {
          as_long = options_length (starting p) start_good numbers;
          each_step = options_match (starting p) start_good numbers;
          throughout = λ k h.
              let l = options_lead (starting p) start_good (initial p t) start_agrees numbers k h in
              record {
                counts = l.counts';
                is_run = l.is_run;
                equal = l.agrees.equal;
                bounded = l.agrees.bounded;
                not_above = l.agrees.not_above;
                no_bad = meet_no_bad (run p (take k numbers)) l.counts' l.agrees;
              };
          never_risen = λ w j k le before now l b. options_lower w (starting p) start_good (initial p t) start_agrees numbers j k le before now l b;
        };
      }
