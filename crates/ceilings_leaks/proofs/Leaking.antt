-- The leak test loop by loop: what the whole gives is what is left gives.
use Prim.Native.Nat.{ℕ, ◌+◌, ◌*◌, ◌≤◌, ◌<◌}
use native.Mathlib.Decide.{ℕ_discrete}
use native.Mathlib.Omega.{arith}
use mathlib.Core.Path.{◌≡◌, refl, sym, ◌∙◌, ap, subst}
use mathlib.Core.Logic.{⊎_elim}
use mathlib.Core.Bool.{Bool, true, false, not, ◌&&◌, ◌||◌}
use mathlib.Core.List.{List, [], ◌∷◌, Memᴰ}
use Rattle.std.proofs.Common.{Ok, Err}
use lib.ListN.{get_or}
use borrow.Author.Tests.{eq-eqb, ne_eqb}
use Rattle.model.specs.Limits.{present}
use Rattle.model.specs.declared.Sizes.{Sizes}
use Rattle.model.specs.Demands.{WithinLimits}
use Rattle.parts.specs.Parts.{LowSizes}
use Rattle.model.specs.declared.Verdict.TheVariants.{Leak}
use Rattle.model.specs.Index.{any, first}
use Rattle.model.specs.Words.{left, right, columns}
use Rattle.model.specs.Message.{ceilings_offset}
use Rattle.model.specs.Rows.{Program, program, tag, Kind, kind}
use Rattle.model.specs.Tables.{Tables, tables, entries, state_at}
use Rattle.model.specs.Counters.{counter_count}
use Rattle.model.specs.Rules.{Rule, state_rules_of, rules}
use Rattle.model.specs.Markings.{Marking, usable}
use Rattle.model.specs.Verdict.{unless}
use Rattle.model.specs.Ceilings.{Ceilings, ceilings_of, ceiling_entries, highest, under_some, leads_out, leak_check_of}
use Rattle.model.specs.Verify.{outcome}
use Rattle.model.proofs.Logic.{test, and_left, and_right, and_intro, and_none, both}
use Rattle.model.proofs.Outcome.{passes_unless}
use Rattle.model.proofs.Index.{any_end, any_hit, any_miss, any_elim, any_intro, none_any, first_is, first_hit, first_miss, first_end, first_unique, gather_intro, gather_elim}
use Rattle.model.proofs.Bounded.Fire.{Shaped, Apart}
use Rattle.model.proofs.Bounded.Shaped.{rules_shaped}
use Rattle.lists.specs.Ready.{Ready}
use Rattle.masks.specs.declared.Mask.{Mask}
use Rattle.masks.specs.Masks.{has}
use Rattle.steps.specs.declared.Step.{Step}
use Rattle.steps.specs.Steps.{effect_of, rule_of_step, effect_kind_of}
use Rattle.rules.specs.Listed.{StateRules, listed_rule, listed_rules}
use Rattle.rules.proofs.Stepped.{listed_step}
use Rattle.ceilings_form.specs.Parts.{Whole}
use Rattle.ceilings_form.specs.Limits.{StartsTable}
use Rattle.ceilings_form.proofs.Limited.{highest_limit}
use Rattle.ceilings.specs.Table.{held, LimitsTable}
use Rattle.ceilings.proofs.Ahead.{Ahead, CounterHere, ahead_counter, ahead_none}
use Rattle.ceilings_masks.specs.declared.Over.{Over}
use Rattle.ceilings_masks.specs.Compared.{Above, Beside}
use Rattle.ceilings_covers.specs.Covers.{covers, passes, named, Candidates, Exact, sure, StepApart}
use Rattle.ceilings_covers.proofs.Covering.{covers_pass, pass_covers}
use Rattle.ceilings_groups.specs.Groups.{table_ceilings, escapes, OpenAll, RulesOpen, GroupsUpto, GroupPut, step}
use Rattle.ceilings_groups.proofs.Settling.{step_open}
use Rattle.bits.specs.Bits.{member}
use Rattle.ceilings_letters.proofs.Holding.{leads_asked, asked_member}
use Rattle.ceilings_leaks.specs.Leaks.{RulesSeen}
use Rattle.ceilings_groups.proofs.Leading.{any_skip, leads_none, leads_states, leads_listed, leads_same, listed_member}

-- sizes within their limits are low enough to place the parts
pub low_sizes : (s : Sizes) → WithinLimits present s → LowSizes s
low_sizes s h = omega arith

shaped_step : (n : ℕ) (σ : Step) → σ.kind ≤ 3 → Shaped n (rule_of_step σ) → StepApart n σ
unfolding rule_of_step effect_of
shaped_step n σ small s = record { from = s.0; kind = small; read = λ e. subst (λ z. Apart n σ.from (effect_of z σ.other)) e s.1 }

pub first_low : (a r : ℕ) (f : ℕ → Bool) → a ≤ 256 → r ≡ first a 256 f → a ≤ r
first_low a r f h e = let z = (first_is a 256 f h).from in omega arith

-- one ceiling beside the others, by another name of its number
pub beside_at : (limits : List ℕ) (ceilings n k k₀ : ℕ) (holders : List ℕ) (over : Over) (near : List ℕ) → k ≡ k₀ → Beside limits ceilings n k₀ holders over near → Beside limits ceilings n k holders over near
beside_at limits ceilings n k k₀ holders over near e b = rw e b

pub above_at : (limits : List ℕ) (ceilings states n k k₀ : ℕ) (over : Over) → k ≡ k₀ → Above limits ceilings states n k₀ over → Above limits ceilings states n k over
above_at limits ceilings states n k k₀ over e c = rw e c

-- the counters that a step names, one more
pub named_next : (limits : List ℕ) (ceilings n k k' : ℕ) (σ : Step) (b y : ℕ) → y ≡ named σ b → (y < n → passes limits ceilings k k' σ y ≡ true) → ((x : ℕ) → x < b → named σ x < n → passes limits ceilings k k' σ (named σ x) ≡ true) → (x : ℕ) → x < b + 1 → named σ x < n → passes limits ceilings k k' σ (named σ x) ≡ true
named_next limits ceilings n k k' σ b y e h before x below = elim (ℕ_discrete x b) [
  | yes z ↦ rw (z, ← e) h
  | no z ↦ before x (omega arith)
]

module _ (ws : List ℕ) (s : Sizes) (n : ℕ) (limits : List ℕ) where
  abbrev p : Program
  p = program ws s

  abbrev t : Tables
  t = tables ws s

  -- the highest counts of ceiling k
  abbrev counts : ℕ → Marking
  counts k = highest (held limits s.ceilings k)

  abbrev tb : Ceilings
  tb = table_ceilings s.ceilings n limits

  -- ceiling k leaks; it does by a rule of state i; by a step
  pub leaks : ℕ → Bool
  leaks k = leads_out tb (rules p t) (counts k)

  pub by_state : ℕ → ℕ → Bool
  by_state k i = leads_out tb (state_rules_of p t i (state_at t i)) (counts k)

  pub by_step : ℕ → Step → Bool
  by_step k σ = escapes tb (rule_of_step σ) (counts k)

  -- rule j of state i, as its lists have it
  abbrev pub step_at : ℕ → ℕ → List ℕ → List ℕ → ℕ → Step
  step_at i kind tos others j = step i (get_or tos j 0) kind (get_or others j 0)

  size_is : t.states.size ≡ s.states
  unfolding tables entries columns
  size_is = refl

  pub leaks_states : (k : ℕ) → leaks k ≡ any 0 s.states (by_state k)
  unfolding leaks by_state tables entries columns
  leaks_states k = leads_states tb (counts k) p t

  -- the states of ceiling k from entry e on are to come
  pub record Walk (k end e : ℕ) : Type 0 where
    pub least : ℕ
    pub ahead : Ahead n (ceiling_entries ws s) (held limits s.ceilings k) end e least
    pub so_far : leaks k ≡ any least s.states (by_state k)

  -- the candidates of a step from number a on are to come
  pub record LeftOf (k : ℕ) (σ : Step) (mask : Mask) (a : ℕ) : Type 0 where
    pub low : a ≤ 256
    pub in_mask : a < 256 → has mask a ≡ true
    pub so_far : any 0 s.ceilings (covers limits s.ceilings n k (rule_of_step σ)) ≡ any a 256 (λ x. has mask x && covers limits s.ceilings n k (rule_of_step σ) x)

  -- the states, entry by entry
  module _ (group : List ℕ) (g : GroupsUpto p t limits s.ceilings s.states n s.states group) (k : ℕ) where
    -- a state without a limit
    blank_state : (i : ℕ) → i < s.states → held limits s.ceilings k i ≡ 0 → by_state k i ≡ false
    unfolding by_state escapes usable
    blank_state i h z =
        leads_none tb (counts k) _
        (λ ρ m. let none : counts k ρ.from ≡ 0 = ap (counts k) (g.leaves i ρ h m) ∙ sym (highest_limit (held limits s.ceilings k) i 0 (sym z) (λ w. omega arith)) in
        rw (none))

    pub walk_start : (end e : ℕ) → Ahead n (ceiling_entries ws s) (held limits s.ceilings k) end e 0 → Walk k end e
    walk_start end e a = record { least = 0; ahead = a; so_far = leaks_states k }

    module _ (end e : ℕ) (w : Walk k end e) (few : s.states ≤ n) where
      -- no state is left
      pub walk_end : s.states ≤ left (ceiling_entries ws s) e → leaks k ≡ false
      walk_end h =
          w.so_far ∙ none_any w.least s.states (by_state k)
          (λ y l b. blank_state y b (elim (ℕ_discrete (left (ceiling_entries ws s) e) n) [
            | yes z ↦ ahead_none n _ _ end e _ w.ahead z y l (omega arith)
            | no z ↦ (ahead_counter n _ _ end e _ w.ahead z).gap y l (omega arith)
          ]))

      module _ (i : ℕ) (is : i ≡ left (ceiling_entries ws s) e) (h : i < s.states) where
        apart : left (ceiling_entries ws s) e ≡ n → ⊥
        apart z = omega arith

        here : CounterHere n (ceiling_entries ws s) (held limits s.ceilings k) end e w.least
        here = ahead_counter n _ _ end e _ w.ahead apart

        pub walk_limit : 1 ≤ held limits s.ceilings k i
        walk_limit = let a = here.is in let b = here.from_one in rw is (omega arith)

        pub walk_here : leaks k ≡ any i s.states (by_state k)
        walk_here =
            w.so_far ∙ any_skip w.least i s.states (by_state k) (let a = here.low in omega arith) (omega arith)
            (λ y l b. blank_state y (omega arith) (here.gap y l (omega arith)))

        pub walk_next : leaks k ≡ any (i + 1) s.states (by_state k) → Walk k end (e + 1)
        walk_next so = record { least = i + 1; ahead = rw is here.next; so_far = so }

        -- the state leads out nowhere
        pub walk_settled : by_state k i ≡ false → Walk k end (e + 1)
        walk_settled z = walk_next (walk_here ∙ any_miss i s.states (by_state k) h z)

        -- its rules, one by one
        module _ (a m kd : ℕ) (tos others : List ℕ) (r : RulesSeen p t limits s.ceilings n k i tos others a m) (is-kind : kd ≡ effect_kind_of (tag p (right t.states i))) where
          abbrev out : ℕ → Bool
          out j = by_step k (step_at i kd tos others j)

          by_rules : by_state k i ≡ any a m out
          unfolding by_state by_step
          by_rules = ⊎_elim (λ e. ap (λ ρs. leads_out tb ρs (counts k)) (sym e)) (λ e. sym (leads_asked r.passes tb (counts k) _ r.harmless) ∙ ap (λ ρs. leads_out tb ρs (counts k)) (sym e)) r.asked.rules ∙ (leads_listed tb (counts k) (tag p (right t.states i)) i tos others a m ∙ rw is-kind)

          pub rules_start : leaks k ≡ (any a m out || any (i + 1) s.states (by_state k))
          rules_start = walk_here ∙ test (by_state k i)
              (λ z. rw (← by_rules, z) (any_hit i s.states (by_state k) h z))
              (λ z. rw (← by_rules, z) (any_miss i s.states (by_state k) h z))

          pub rules_turn : (j : ℕ) → j < m → leaks k ≡ (any j m out || any (i + 1) s.states (by_state k)) → out j ≡ false → leaks k ≡ (any (j + 1) m out || any (i + 1) s.states (by_state k))
          rules_turn j b so z = so ∙ ap (λ x. x || any (i + 1) s.states (by_state k)) (any_miss j m out b z)

          pub rules_leak : (j : ℕ) → j < m → leaks k ≡ (any j m out || any (i + 1) s.states (by_state k)) → out j ≡ true → leaks k ≡ true
          rules_leak j b so z = so ∙ ap (λ x. x || any (i + 1) s.states (by_state k)) (any_hit j m out b z)

          pub rules_done : (j : ℕ) → m ≤ j → leaks k ≡ (any j m out || any (i + 1) s.states (by_state k)) → Walk k end (e + 1)
          rules_done j b so = walk_next (so ∙ ap (λ x. x || any (i + 1) s.states (by_state k)) (any_end j m out b))

  -- a step, by the ceilings that cover
  module _ (k : ℕ) (σ : Step) where
    abbrev cover : ℕ → Bool
    cover = covers limits s.ceilings n k (rule_of_step σ)

    pub unused : usable (rule_of_step σ) (counts k) ≡ false → by_step k σ ≡ false
    unfolding by_step escapes
    unused u = rw u

    pub covered : usable (rule_of_step σ) (counts k) ≡ true → any 0 s.ceilings cover ≡ true → by_step k σ ≡ false
    unfolding by_step escapes under_some covers
    covered u h = rw (u, h)

    pub led_out : usable (rule_of_step σ) (counts k) ≡ true → any 0 s.ceilings cover ≡ false → by_step k σ ≡ true
    unfolding by_step escapes under_some covers
    led_out u h = rw (u, h)

    module _ (mask : Mask) (c : Candidates limits s.ceilings n k σ mask) (few : s.ceilings ≤ 256) where
      abbrev either : ℕ → Bool
      either x = has mask x && cover x

      skip : (a : ℕ) → a ≤ 256 → any a 256 either ≡ any (first a 256 (has mask)) 256 either
      skip a h =
          let f = first_is a 256 (has mask) h in
          any_skip a (first a 256 (has mask)) 256 either f.from f.upto (λ y l b. ap (λ x. x && cover y) (f.before y l b))

      from_first : (a r : ℕ) → a ≤ 256 → r ≡ first a 256 (has mask) → any 0 s.ceilings cover ≡ any a 256 either → LeftOf k σ mask r
      from_first a r h e so =
          let f = first_is a 256 (has mask) h in
          rw e (record { low = f.upto; in_mask = f.passes; so_far = so ∙ skip a h })

      pub left_start : (r : ℕ) → r ≡ first 0 256 (has mask) → LeftOf k σ mask r
      left_start r e =
          from_first 0 r (omega arith) e
          (both _ _
          (λ u. let (x, w, z) = any_elim 0 s.ceilings cover u in
          any_intro 0 256 x either (omega arith) (let b = w.1 in omega arith) (and_intro (has mask x) (cover x) (c.all x w.1 (covers_pass limits s.ceilings n k σ x z)) z))
          (λ u. let (x, w, z) = any_elim 0 256 either u in
          any_intro 0 s.ceilings x cover (omega arith) (c.few x w.1 (and_left (has mask x) (cover x) z)) (and_right (has mask x) (cover x) z)))

      -- each candidate of a sure step covers
      pub left_surely : Exact limits s.ceilings n k σ mask → (sure σ && any 0 256 (has mask)) ≡ true → any 0 s.ceilings cover ≡ true
      left_surely exact h =
          let (j, w, z) = any_elim 0 256 (has mask) (and_right (sure σ) _ h) in
          let low = c.few j w.1 z in
          any_intro 0 s.ceilings j cover (omega arith) low (pass_covers limits s.ceilings n k σ j (λ y inside. exact (and_left (sure σ) _ h) j y low z inside))

      module _ (a : ℕ) (l : LeftOf k σ mask a) (b : a < 256) where
        pub left_low : a < s.ceilings
        left_low = c.few a b (l.in_mask b)

        pub left_next : (r : ℕ) → r ≡ first (a + 1) 256 (has mask) → cover a ≡ false → LeftOf k σ mask r
        left_next r e z = from_first (a + 1) r (omega arith) e (l.so_far ∙ any_miss a 256 either b (ap (λ x. has mask a && x) z ∙ and_none (has mask a)))

        pub left_covers : cover a ≡ true → any 0 s.ceilings cover ≡ true
        left_covers z = any_intro 0 s.ceilings a cover (omega arith) left_low z

      pub left_none : (a : ℕ) → LeftOf k σ mask a → 256 ≤ a → any 0 s.ceilings cover ≡ false
      left_none a l h = l.so_far ∙ any_end a 256 either h

  -- a ceiling that does not leak
  pub ceiling_turn : (k k₀ : ℕ) → first 0 s.ceilings leaks ≡ first k₀ s.ceilings leaks → k ≡ k₀ → k₀ < s.ceilings → leaks k ≡ false → first 0 s.ceilings leaks ≡ first (k + 1) s.ceilings leaks
  ceiling_turn k k₀ so e h z = so ∙ rw (← e) (first_miss k s.ceilings leaks (omega arith) z)

  -- the ceilings
  module _ (ready : Ready ws s) (counted : n ≡ counter_count p t) (table : LimitsTable (ceilings_of ws s n) limits) where
    pub states_few : s.states ≤ n
    unfolding counter_count tables entries columns
    states_few = omega (arith, counted)

    shaped_all : (ρ : Rule) → Memᴰ ρ (rules p t) → Shaped (counter_count p t) ρ
    shaped_all = rules_shaped p t

    leaks_here : (k : ℕ) → k < s.ceilings → leads_out (ceilings_of ws s n) (rules p t) (highest ((ceilings_of ws s n).limit k)) ≡ leaks k
    unfolding leaks ceilings_of
    leaks_here k h =
        leads_same (ceilings_of ws s n) limits table k h (rules p t)
        (λ ρ m. rw counted (shaped_all ρ m))

    first_leak : first 0 s.ceilings (λ k. leads_out (ceilings_of ws s n) (rules p t) (highest ((ceilings_of ws s n).limit k))) ≡ first 0 s.ceilings leaks
    first_leak =
        let a = first_is 0 s.ceilings leaks (omega arith) in
        first_unique 0 s.ceilings (first 0 s.ceilings leaks) _ (omega arith)
        (record {
          from = a.from;
          upto = a.upto;
          passes = λ l. leaks_here _ l ∙ a.passes l;
          before = λ j x y. leaks_here j (let z = a.upto in omega arith) ∙ a.before j x y;
        })

    -- the rules of a state are of the message's, so what their steps take from are counters, and not one twice
    pub step_shape : (k i a m kd : ℕ) (tos others : List ℕ) (j : ℕ) → i < s.states → RulesSeen p t limits s.ceilings n k i tos others a m → kd ≡ effect_kind_of (tag p (right t.states i)) → kd ≤ 3 → a ≤ j → j < m → StepApart n (step_at i kd tos others j)
    unfolding rules tables entries columns
    step_shape k i a m kd tos others j h r is small low below =
        let tg : ℕ = tag p (right t.states i) in
        let here = listed_member (kind tg) i tos others a m j low below in
        let there : Memᴰ (listed_rule (kind tg) i tos others j) (state_rules_of p t i (state_at t i)) = ⊎_elim (λ e. subst (λ ρs. Memᴰ (listed_rule (kind tg) i tos others j) ρs) e here) (λ e. asked_member r.passes _ _ (subst (λ ρs. Memᴰ (listed_rule (kind tg) i tos others j) ρs) e here)) r.asked.rules in
        let shape : Shaped n (listed_rule (kind tg) i tos others j) = rw counted (shaped_all _ (gather_intro 0 t.states.size i (λ x. state_rules_of p t x (state_at t x)) _ (omega arith) h there)) in
        let same : listed_rule (kind tg) i tos others j ≡ rule_of_step (step_at i kd tos others j) = rw is (listed_step tg i tos others j) in
        shaped_step n (step_at i kd tos others j) small (subst (λ ρ. Shaped n ρ) same shape)

    pub leak_safe : (k : ℕ) → s.ceilings ≤ k → k ≤ s.ceilings → first 0 s.ceilings leaks ≡ first k s.ceilings leaks → Ok tt ≡ outcome (leak_check_of ws s (ceilings_of ws s n) (rules p t))
    unfolding leak_check_of ceilings_of
    leak_safe k h l so =
        passes_unless _ _ (eq-eqb _ s.ceilings (first_leak ∙ (so ∙ (first_end k s.ceilings leaks h ∙ let z : k ≡ s.ceilings = omega arith in z))))

    pub leak_refused : (k at entry : ℕ) (starts : List ℕ) → StartsTable n (ceiling_entries ws s) s.ceilings starts → k < s.ceilings → first 0 s.ceilings leaks ≡ first k s.ceilings leaks → leaks k ≡ true → at ≡ ceilings_offset s → entry ≡ get_or starts k 0 → Err (Leak (at + 2 + entry)) ≡ outcome (leak_check_of ws s (ceilings_of ws s n) (rules p t))
    unfolding leak_check_of outcome unless ceilings_of
    leak_refused k at entry starts begins h so out e is =
        let found = first_leak ∙ (so ∙ first_hit k s.ceilings leaks h out) in
        let z = is ∙ begins.start k h in
        rw (found, ne_eqb k s.ceilings (λ y. omega arith)) (rw (e, z))

-- what the readers ask of the words
pub whole_of : (ws : List ℕ) (s : Sizes) → Ready ws s → Whole ws s
whole_of ws s h = record { limits = h.limits; held = h.held }

-- the lists of a state's rules keep their lengths
pub state_none : (ws : List ℕ) (s : Sizes) (n : ℕ) (limits : List ℕ) (k i : ℕ) → leads_out (table_ceilings s.ceilings n limits) (state_rules_of (program ws s) (tables ws s) i (state_at (tables ws s) i)) (highest (held limits s.ceilings k)) ≡ false → by_state ws s n limits k i ≡ false
unfolding by_state
state_none ws s n limits k i h = h

pub leak_refused_at : (ws : List ℕ) (s : Sizes) (n : ℕ) (limits : List ℕ) → Ready ws s → n ≡ counter_count (program ws s) (tables ws s) → LimitsTable (ceilings_of ws s n) limits → (k k₀ at entry : ℕ) (starts : List ℕ) → StartsTable n (ceiling_entries ws s) s.ceilings starts → k ≡ k₀ → k₀ < s.ceilings → first 0 s.ceilings (leaks ws s n limits) ≡ first k₀ s.ceilings (leaks ws s n limits) → leaks ws s n limits k ≡ true → at ≡ ceilings_offset s → entry ≡ get_or starts k₀ 0 → Err (Leak (at + 2 + entry)) ≡ outcome (leak_check_of ws s (ceilings_of ws s n) (rules (program ws s) (tables ws s)))
leak_refused_at ws s n limits ready counted table k k₀ at entry starts begins e h so out z is =
    leak_refused ws s n limits ready counted table k₀ at entry starts begins h so (rw (← e) out) z is

-- one state more: its rules leave it, and are open to the ceilings of its sets
listed_elim : (h : Kind) (i : ℕ) (tos others : List ℕ) (m : ℕ) (ρ : Rule) → Memᴰ ρ (listed_rules h i tos others m) → (j : ℕ) × (j < m) × (ρ ≡ listed_rule h i tos others j)
unfolding listed_rules
listed_elim h i tos others m ρ r =
    let (j, w, e) = gather_elim 0 m (λ k. listed_rule h i tos others k ∷ []) ρ r in
    (j, w.1, mathlib.Core.List.Memᴰ.eq_of_singleton e)

module _ (ws : List ℕ) (s : Sizes) (n : ℕ) (limits : List ℕ) where
  pub groups_start : (group : List ℕ) → GroupsUpto (program ws s) (tables ws s) limits s.ceilings s.states n 0 group
  groups_start group =
      record {
        leaves = λ i ρ h. absurd (omega arith);
        opens = λ i h. absurd (omega arith);
        opens_letters = λ i h. absurd (omega arith);
        opens_one = λ i h. absurd (omega arith);
      }

  module _ (i m kd : ℕ) (tos others : List ℕ) (rs : StateRules (program ws s) (tables ws s) i tos others m) where
    abbrev tg : ℕ
    tg = tag (program ws s) (right (tables ws s).states i)

    found : (ρ : Rule) → Memᴰ ρ (state_rules_of (program ws s) (tables ws s) i (state_at (tables ws s) i)) → (j : ℕ) × (j < m) × (ρ ≡ listed_rule (kind tg) i tos others j)
    found ρ w = listed_elim (kind tg) i tos others m ρ (subst (λ ρs. Memᴰ ρ ρs) (sym rs.rules) w)

    rules_leave : (ρ : Rule) → Memᴰ ρ (state_rules_of (program ws s) (tables ws s) i (state_at (tables ws s) i)) → ρ.from ≡ i
    unfolding listed_rule
    rules_leave ρ w = let (j, b, e) = found ρ w in ap (λ σ. σ.from) e

    module _ (is : kd ≡ effect_kind_of tg) (small : kd ≤ 3) where
      rules_open : (low : ℕ) (f : ℕ → Bool) → OpenAll limits s.ceilings n low kd tos others m f → RulesOpen (program ws s) (tables ws s) limits s.ceilings n low i f
      rules_open low f opens k ρ l x w =
          let (j, b, e) = found ρ w in
          let same : ρ ≡ rule_of_step (step i (get_or tos j 0) kd (get_or others j 0)) = e ∙ (listed_step tg i tos others j ∙ ap (λ y. rule_of_step (step i (get_or tos j 0) y (get_or others j 0))) (sym is)) in
          rw same (step_open limits s.ceilings n low k (step i (get_or tos j 0) kd (get_or others j 0)) small (opens k j l b x))

      -- the sets of one more state, which stand at a place of their own
      set_next : (low : ℕ) (at : ℕ → ℕ) (group group' : List ℕ) → ((x : ℕ) → x < i → at x < 3 * i) → ((x k : ℕ) → x < 3 * i → k < 256 → member group' 4 x k ≡ member group 4 x k) → OpenAll limits s.ceilings n low kd tos others m (member group' 4 (at i)) → ((x : ℕ) → x < i → RulesOpen (program ws s) (tables ws s) limits s.ceilings n low x (member group 4 (at x))) → (x : ℕ) → x < i + 1 → RulesOpen (program ws s) (tables ws s) limits s.ceilings n low x (member group' 4 (at x))
      set_next low at group group' before stays here g x h k ρ l u w = elim (ℕ_discrete x i) [
        | yes z ↦ rules_open low (member group' 4 (at i)) here k ρ l (ap (λ y. member group' 4 (at y) k) (sym z) ∙ u) (rw (← z) w)
        | no z ↦ g x (omega arith) k ρ l (sym (stays (at x) k (before x (omega arith)) l) ∙ u) w
      ]

      pub groups_next : (group group' : List ℕ) → GroupPut limits s.ceilings s.states n kd tos others m i group group' → GroupsUpto (program ws s) (tables ws s) limits s.ceilings s.states n i group → GroupsUpto (program ws s) (tables ws s) limits s.ceilings s.states n (i + 1) group'
      groups_next group group' put g =
          record {
            leaves = λ x ρ h w. elim (ℕ_discrete x i) [
              | yes z ↦ rw z (rules_leave ρ (rw (← z) w))
              | no z ↦ g.leaves x ρ (omega arith) w
            ];
            opens = set_next n (λ x. 3 * x) group group' (λ x h. omega arith) put.stays put.sets.opens g.opens;
            opens_letters = set_next s.states (λ x. 3 * x + 1) group group' (λ x h. omega arith) put.stays put.sets.opens_letters g.opens_letters;
            opens_one = set_next 0 (λ x. 3 * x + 2) group group' (λ x h. omega arith) put.stays put.sets.opens_one g.opens_one;
          }

  pub groups_all : (i : ℕ) (group : List ℕ) → s.states ≤ i → GroupsUpto (program ws s) (tables ws s) limits s.ceilings s.states n i group → GroupsUpto (program ws s) (tables ws s) limits s.ceilings s.states n s.states group
  groups_all i group h g =
      record {
        leaves = λ x ρ l. g.leaves x ρ (omega arith);
        opens = λ x l. g.opens x (omega arith);
        opens_letters = λ x l. g.opens_letters x (omega arith);
        opens_one = λ x l. g.opens_one x (omega arith);
      }
