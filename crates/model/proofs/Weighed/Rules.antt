-- No rule leads to, puts or starts what is past the counters: the number of an absent state or letter is at most how many there are.
use Prim.Native.Nat.{ℕ, suc, ◌+◌, ◌≤◌, ◌<◌}
use native.Mathlib.Omega.{arith}
use mathlib.Core.Path.{◌≡◌, refl}
use mathlib.Core.Bool.{Bool, true, false}
use mathlib.Core.List.{List, [], ◌∷◌, map, Memᴰ}
use lib.ListN.{length}
use Rattle.model.specs.Index.{first}
use Rattle.model.specs.Keys.{Key, same_key, ascending, position}
use Rattle.model.specs.Rows.{Program}
use Rattle.model.specs.Heads.{Head, head_at, gives, builds, makes, calls, sends, spawns, selfs, cases, receives, no_head, is_class_of, branch_body_of}
use Rattle.model.specs.Letters.{Letter}
use Rattle.model.specs.Tables.{Tables, State, state_at, onward, same_state, state_index_of}
use Rattle.model.specs.Closed.{begun}
use Rattle.model.specs.Counters.{letter_keys, letter_count_of, counter_count, letters_allowed, letter_index}
use Rattle.model.specs.Rules.{Effect, quiet, reads, puts, starts, Rule, rule, from_each, letters_read, state_rules_of, rules}
use Rattle.model.proofs.Logic.{test}
use Rattle.model.proofs.Index.{first_is}
use Rattle.model.proofs.Bounded.Shaped.{Each, each_none, each_one, each_only, each_where, each_gather, each_from_each, each_from_all, each_map}

position_upto : (k : Key) (ks : List Key) → position k ks ≤ length ks
unfolding position
position_upto k [] = omega arith
position_upto k (x ∷ xs) = test (same_key k x) (λ e. rw (e, position) (omega arith)) (λ e. rw (e, position) (omega (arith, position_upto k xs)))

-- what an effect adds to
abbrev pub Upto : ℕ → Effect → Type 0
Upto n quiet = Unit {0}
Upto n (reads x) = Unit {0}
Upto n (puts x) = x ≤ n
Upto n (starts x) = x ≤ n

abbrev pub Low : ℕ → Rule → Type 0
Low n ρ = (ρ.to ≤ n) × Upto n ρ.effect

module _ (p : Program) (t : Tables) where
  abbrev n : ℕ
  n = counter_count p t

  state_upto : (s : State) → state_index_of t s ≤ n
  unfolding state_index_of counter_count
  state_upto s = omega (arith, (first_is 0 t.states.size (λ i. same_state (state_at t i) s) (omega arith)).upto)

  letter_upto : (c : ℕ) (l : Letter) → letter_index p t c l ≤ n
  unfolding letter_index counter_count letter_count_of
  letter_upto c l = omega (arith, position_upto (c ∷ l) (letter_keys p t))

  module _ (i : ℕ) (s : State) where
    abbrev Good : Rule → Type 0
    Good = Low n

    -- by the head at which the state stands
    head_low : (h : Head) → head_at p s.location ≡ h → Each Good (state_rules_of p t i s)
    unfolding state_rules_of
    head_low (gives m) e =
        rw (e, state_rules_of) (each_gather Good 0 t.states.size _ (λ j w. each_only Good _ _ (λ v. (state_upto _, tt))))
    head_low (builds m k ns r) e = rw (e, state_rules_of) (each_one Good _ (state_upto _, tt))
    head_low (makes m r) e = rw (e, state_rules_of) (each_one Good _ (state_upto _, tt))
    head_low (calls call) e =
        rw (e, state_rules_of) (each_from_each Good t.flow call.callee _ (λ f. each_only Good _ _ (λ v. (state_upto _, tt))))
    head_low (sends m target message r) e =
        rw (e, state_rules_of)
        (each_from_each Good t.flow target _
        (λ d. each_where Good (is_class_of p d) _ (each_map Good (ascending (from_each t.flow message (letters_allowed p t))) (λ l. rule i (state_index_of t (onward s r)) (puts (letter_index p t d l))) (λ l v. (state_upto (onward s r), letter_upto d l)))))
    head_low (spawns m function r) e =
        rw (e, state_rules_of) (each_from_each Good t.flow function _ (λ f. each_only Good _ _ (λ v. (state_upto (onward s r), state_upto (begun p s f)))))
    head_low (selfs m r) e = rw (e, state_rules_of) (each_one Good _ (state_upto _, tt))
    head_low (cases m qs) e = rw (e, state_rules_of) (each_from_all Good qs _ (λ q. each_only Good _ _ (λ v. (state_upto _, tt))))
    head_low (receives qs) e =
        rw (e, state_rules_of)
        (each_from_all Good qs _
        (λ q. each_map Good (ascending (from_each t.mail s.class (letters_read p t q))) (λ l. rule i (state_index_of t (onward s (branch_body_of p q))) (reads (letter_index p t s.class l)))
        (λ l v. (state_upto (onward s (branch_body_of p q)), tt))))
    head_low no_head e = rw (e, state_rules_of) (each_none Good)

  pub rules_low : (ρ : Rule) → Memᴰ ρ (rules p t) → Low n ρ
  unfolding rules
  rules_low =
      each_gather (Low n) 0 t.states.size (λ i. state_rules_of p t i (state_at t i))
      (λ i below. head_low i (state_at t i) (head_at p (state_at t i).location) refl)
