-- Rules that lead out, one by one and state by state; by the message's ceilings and by the table's.
use Prim.Native.Nat.{ℕ, zero, suc, ◌+◌, ◌-◌, ◌≤◌, ◌<◌}
use native.Mathlib.Omega.{arith}
use mathlib.Core.Path.{◌≡◌, refl, sym, ◌∙◌, ap, ap₂}
use mathlib.Core.Bool.{Bool, true, false, not, ◌&&◌, ◌||◌}
use mathlib.Core.List.{List, [], ◌∷◌, ◌++◌, Memᴰ}
use lib.Dec.{leb}
use lib.ListN.{get_or}
use Rattle.model.specs.declared.Sizes.{Sizes}
use Rattle.model.specs.Index.{any, all, gather}
use Rattle.model.specs.Rows.{Program, Kind, kind}
use Rattle.model.specs.Tables.{Tables, state_at}
use Rattle.model.specs.Rules.{Effect, quiet, reads, puts, starts, Rule, rule, state_rules_of, rules}
use Rattle.model.specs.Markings.{Marking, readable, usable, fire}
use Rattle.model.specs.Ceilings.{Ceilings, ceilings_of, allowed, highest, under, under_some, leads_out}
use Rattle.model.proofs.Logic.{test, or_false, or_none, both, or_joined}
use Rattle.model.proofs.Index.{any_end, any_hit, any_miss, any_elim, any_intro, none_any, all_intro, all_elim, gather_end, gather_turn, gather_intro}
use Rattle.model.proofs.Bounded.Fire.{Shaped}
use Rattle.bits.proofs.Loops.{any_split}
use Rattle.steps.specs.declared.Step.{Step}
use Rattle.steps.specs.Steps.{effect_of, rule_of_step, effect_kind_of}
use Rattle.steps.proofs.Stepping.{fire_alone}
use Rattle.rules.specs.Listed.{listed_rule}
use Rattle.rules.proofs.Stepped.{listed_step}
use Rattle.ceilings_form.proofs.Limited.{highest_same}
use Rattle.ceilings.specs.Table.{held, LimitsTable}
use Rattle.ceilings_groups.specs.Groups.{table_ceilings, escapes, step}

-- loops whose tests agree
all_same : (e : ℕ) (f g : ℕ → Bool) → ((k : ℕ) → k < e → f k ≡ g k) → all 0 e f ≡ all 0 e g
all_same e f g h =
    both _ _
    (λ t. all_intro 0 e g (λ k a b. sym (h k b) ∙ all_elim 0 e k f t a b))
    (λ t. all_intro 0 e f (λ k a b. h k b ∙ all_elim 0 e k g t a b))

pub any_same : (a e : ℕ) (f g : ℕ → Bool) → ((k : ℕ) → k < e → f k ≡ g k) → any a e f ≡ any a e g
any_same a e f g h =
    both _ _
    (λ t. let (k, w, p) = any_elim a e f t in any_intro a e k g w.0 w.1 (sym (h k w.1) ∙ p))
    (λ t. let (k, w, p) = any_elim a e g t in any_intro a e k f w.0 w.1 (h k w.1 ∙ p))

-- nothing passes from a up to b
pub any_skip : (a b e : ℕ) (f : ℕ → Bool) → a ≤ b → b ≤ e → ((y : ℕ) → a ≤ y → y < b → f y ≡ false) → any a e f ≡ any b e f
any_skip a b e f l h none = any_split a b e f l h ∙ rw (none_any a b f none)

module _ (bs : Ceilings) (m : Marking) where
  leads_one : (ρ : Rule) → leads_out bs (ρ ∷ []) m ≡ escapes bs ρ m
  unfolding leads_out escapes
  leads_one ρ = or_none _

  leads_append : (xs ys : List Rule) → leads_out bs (xs ++ ys) m ≡ leads_out bs xs m || leads_out bs ys m
  unfolding leads_out escapes
  leads_append [] ys = refl
  leads_append (x ∷ xs) ys =
      ap (λ b. escapes bs x m || b) (leads_append xs ys) ∙ or_joined (escapes bs x m) (leads_out bs xs m) (leads_out bs ys m)

  -- none of them does
  pub leads_none : (ρs : List Rule) → ((ρ : Rule) → Memᴰ ρ ρs → escapes bs ρ m ≡ false) → leads_out bs ρs m ≡ false
  unfolding leads_out escapes
  leads_none [] h = refl
  leads_none (ρ ∷ ρs) h = or_false (escapes bs ρ m) _ (h ρ (Memᴰ.head refl)) (leads_none ρs (λ σ i. h σ (Memᴰ.tail i)))

  -- lists of rules, one for each index
  leads_turns : (d a e : ℕ) (f : ℕ → List Rule) → e - a ≡ d → leads_out bs (gather a e f) m ≡ any a e (λ i. leads_out bs (f i) m)
  unfolding leads_out
  leads_turns zero a e f z = rw (gather_end a e f (omega arith)) (sym (any_end a e (λ i. leads_out bs (f i) m) (omega arith)))
  leads_turns (suc d) a e f z =
      let below : a < e = omega arith in
      let rest = leads_turns d (a + 1) e f (omega arith) in
      ap (λ ρs. leads_out bs ρs m) (gather_turn a e f below) ∙
      (leads_append (f a) (gather (a + 1) e f) ∙ test (leads_out bs (f a) m)
      (λ t. rw t (sym (any_hit a e (λ i. leads_out bs (f i) m) below t)))
      (λ t. rw t (rest ∙ sym (any_miss a e (λ i. leads_out bs (f i) m) below t))))

  pub leads_gather : (a e : ℕ) (f : ℕ → List Rule) → leads_out bs (gather a e f) m ≡ any a e (λ i. leads_out bs (f i) m)
  leads_gather a e f = leads_turns (e - a) a e f refl

  pub leads_states : (p : Program) (t : Tables) → leads_out bs (rules p t) m ≡ any 0 t.states.size (λ i. leads_out bs (state_rules_of p t i (state_at t i)) m)
  unfolding rules
  leads_states p t = leads_gather 0 t.states.size (λ i. state_rules_of p t i (state_at t i))

pub leads_listed : (bs : Ceilings) (m : Marking) (tag i : ℕ) (tos others : List ℕ) (a e : ℕ) → leads_out bs (gather a e (λ k. listed_rule (kind tag) i tos others k ∷ [])) m ≡ any a e (λ j. escapes bs (rule_of_step (step i (get_or tos j 0) (effect_kind_of tag) (get_or others j 0))) m)
leads_listed bs m tag i tos others a e =
    leads_gather bs m a e (λ k. listed_rule (kind tag) i tos others k ∷ []) ∙
    any_same a e _ _ (λ j h. leads_one bs m (listed_rule (kind tag) i tos others j) ∙ ap (λ ρ. escapes bs ρ m) (listed_step tag i tos others j))

-- a listed rule is one of the state's
pub listed_member : (h : Kind) (i : ℕ) (tos others : List ℕ) (a e j : ℕ) → a ≤ j → j < e → Memᴰ (listed_rule h i tos others j) (gather a e (λ k. listed_rule h i tos others k ∷ []))
listed_member h i tos others a e j low l = gather_intro a e j (λ k. listed_rule h i tos others k ∷ []) _ low l (Memᴰ.head refl)

-- what a rule does to a counter depends on that counter alone
fire_rule : (from to : ℕ) (e : Effect) (m m' : Marking) (y : ℕ) → m y ≡ m' y → fire (rule from to e) m y ≡ fire (rule from to e) m' y
unfolding rule_of_step effect_of
fire_rule from to quiet m m' y h = fire_alone (step from to 0 0) m m' y (omega arith) h
fire_rule from to (reads x) m m' y h = fire_alone (step from to 1 x) m m' y (omega arith) h
fire_rule from to (puts x) m m' y h = fire_alone (step from to 2 x) m m' y (omega arith) h
fire_rule from to (starts x) m m' y h = fire_alone (step from to 3 x) m m' y (omega arith) h

usable_rule : (n from to : ℕ) (e : Effect) (m m' : Marking) → Shaped n (rule from to e) → ((x : ℕ) → x < n → m x ≡ m' x) → usable (rule from to e) m ≡ usable (rule from to e) m'
unfolding usable readable
usable_rule n from to quiet m m' s h = rw (h from s.0)
usable_rule n from to (reads x) m m' s h = rw (h from s.0, h x s.1.0)
usable_rule n from to (puts x) m m' s h = rw (h from s.0)
usable_rule n from to (starts x) m m' s h = rw (h from s.0)

module _ (bs : Ceilings) (limits : List ℕ) (table : LimitsTable bs limits) (k : ℕ) (below : k < bs.size) where
  abbrev theirs : Marking
  theirs = highest (bs.limit k)

  abbrev ours : Marking
  ours = highest (held limits bs.size k)

  counts_same : (x : ℕ) → x < bs.counters → ours x ≡ theirs x
  counts_same x h = highest_same (held limits bs.size k) (bs.limit k) x (table.limit k x below h)

  under_same : (ρ : Rule) (k' : ℕ) → k' < bs.size → under bs.counters (held limits bs.size k') (fire ρ ours) ≡ under bs.counters (bs.limit k') (fire ρ theirs)
  unfolding under
  under_same ρ k' h =
      all_same bs.counters _ _
      (λ x b. ap₂ allowed (table.limit k' x h b) (fire_rule ρ.from ρ.to ρ.effect ours theirs x (counts_same x b)))

  escapes_same : (ρ : Rule) → Shaped bs.counters ρ → escapes bs ρ theirs ≡ escapes (table_ceilings bs.size bs.counters limits) ρ ours
  unfolding escapes under_some
  escapes_same ρ s =
      sym (ap₂ (λ a b. a && not b)
      (usable_rule bs.counters ρ.from ρ.to ρ.effect ours theirs s counts_same)
      (any_same 0 bs.size _ _ (under_same ρ)))

  pub leads_same : (ρs : List Rule) → ((ρ : Rule) → Memᴰ ρ ρs → Shaped bs.counters ρ) → leads_out bs ρs theirs ≡ leads_out (table_ceilings bs.size bs.counters limits) ρs ours
  unfolding leads_out escapes
  leads_same [] h = refl
  leads_same (ρ ∷ ρs) h = ap₂ (λ a b. a || b) (escapes_same ρ (h ρ (Memᴰ.head refl))) (leads_same ρs (λ σ i. h σ (Memᴰ.tail i)))
