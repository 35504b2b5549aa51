-- Laws of rules added to the two lists.
use Prim.Native.Nat.{ℕ, ◌+◌, ◌≤◌, ◌<◌}
use native.Mathlib.Omega.{arith}
use mathlib.Core.Path.{◌≡◌, refl, sym, ◌∙◌, ap, ap₂}
use mathlib.Core.List.{List, [], ◌∷◌, ◌++◌, append-nil, append_assoc}
use lib.ListN.{length, get_or, set, length-set}
use lib.Seq.{get_or-set_same, get_or-set_other}
use Rattle.model.specs.Index.{gather_between, gather}
use Rattle.model.specs.Words.{right}
use Rattle.model.specs.Rows.{Program, Kind, tag, kind}
use Rattle.model.specs.Tables.{Tables, state_at}
use Rattle.model.specs.Rules.{quiet, Rule, rule, state_rules_of}
use Rattle.model.proofs.Index.{gather_end}
use Rattle.rules.specs.Listed.{kind_effect, listed_rule, listed_rules, StateRules}
use Rattle.rules.specs.Added.{Added}
use Rattle.rules.proofs.Gather.{gather_same, gather_last}

module _ (h : Kind) where
  -- no rule
  pub listed_none : (i : ℕ) (tos others : List ℕ) → listed_rules h i tos others 0 ≡ []
  unfolding listed_rules
  listed_none i tos others = gather_end 0 0 _ (omega arith)

  -- one rule more
  listed_next : (i n x y : ℕ) (tos others : List ℕ) → n < length tos → n < length others → listed_rules h i (set tos n x) (set others n y) (n + 1) ≡ listed_rules h i tos others n ++ (rule i x (kind_effect h y) ∷ [])
  unfolding listed_rules listed_rule
  listed_next i n x y tos others l m =
      gather_last 0 n (λ k. listed_rule h i (set tos n x) (set others n y) k ∷ []) (omega arith) ∙
      ap₂ (λ xs ys. xs ++ ys)
      (gather_same 0 n (λ k. listed_rule h i (set tos n x) (set others n y) k ∷ []) (λ k. listed_rule h i tos others k ∷ []) (λ k a b. rw (get_or-set_other tos n k x 0 (λ e. omega arith), get_or-set_other others n k y 0 (λ e. omega arith))))
      (rw (get_or-set_same tos n x 0 l, get_or-set_same others n y 0 m))

  -- the other counters do not matter to rules without one
  listed_quiet : (i n : ℕ) (tos others others' : List ℕ) → ((y : ℕ) → kind_effect h y ≡ quiet) → listed_rules h i tos others n ≡ listed_rules h i tos others' n
  unfolding listed_rules listed_rule
  listed_quiet i n tos others others' q =
      gather_same 0 n (λ k. listed_rule h i tos others k ∷ []) (λ k. listed_rule h i tos others' k ∷ []) (λ k a b. rw (q (get_or others k 0), q (get_or others' k 0)))

  quiet_next : (i n x : ℕ) (tos others : List ℕ) → ((y : ℕ) → kind_effect h y ≡ quiet) → n < length tos → listed_rules h i (set tos n x) others (n + 1) ≡ listed_rules h i tos others n ++ (rule i x quiet ∷ [])
  unfolding listed_rules listed_rule
  quiet_next i n x tos others q l =
      gather_last 0 n (λ k. listed_rule h i (set tos n x) others k ∷ []) (omega arith) ∙
      ap₂ (λ xs ys. xs ++ ys)
      (gather_same 0 n (λ k. listed_rule h i (set tos n x) others k ∷ []) (λ k. listed_rule h i tos others k ∷ []) (λ k a b. rw (get_or-set_other tos n k x 0 (λ e. omega arith))))
      (rw (get_or-set_same tos n x 0 l, q (get_or others n 0)))

  module _ (tos₀ others₀ : List ℕ) (n₀ : ℕ) where
    pub added_none : (a : ℕ) (f : ℕ → ℕ → List Rule) → n₀ ≤ length tos₀ → Added h tos₀ others₀ n₀ tos₀ others₀ n₀ (λ i. gather a a (f i))
    added_none a f l = record {
      rules = λ i. sym (ap (λ xs. listed_rules h i tos₀ others₀ n₀ ++ xs) (gather_end a a (f i) (omega arith)) ∙ append-nil (listed_rules h i tos₀ others₀ n₀));
      low = l;
      tos_long = refl;
      others_long = refl;
    }

    pub added_nothing : n₀ ≤ length tos₀ → Added h tos₀ others₀ n₀ tos₀ others₀ n₀ (λ i. [])
    added_nothing l = record { rules = λ i. sym (append-nil (listed_rules h i tos₀ others₀ n₀)); low = l; tos_long = refl; others_long = refl }

    pub added_same : (tos others : List ℕ) (n : ℕ) (f g : ℕ → List Rule) → Added h tos₀ others₀ n₀ tos others n f → ((i : ℕ) → f i ≡ g i) → Added h tos₀ others₀ n₀ tos others n g
    added_same tos others n f g d e = record {
      rules = λ i. d.rules i ∙ ap (λ xs. listed_rules h i tos₀ others₀ n₀ ++ xs) (e i);
      low = d.low;
      tos_long = d.tos_long;
      others_long = d.others_long;
    }

    module _ (tos others : List ℕ) (n a k : ℕ) (f : ℕ → ℕ → List Rule) (d : Added h tos₀ others₀ n₀ tos others n (λ i. gather a k (f i))) (l : a ≤ k) where
      -- the rules of one index more
      pub added_more : (tos' others' : List ℕ) (m : ℕ) → Added h tos others n tos' others' m (λ i. f i k) → Added h tos₀ others₀ n₀ tos' others' m (λ i. gather a (k + 1) (f i))
      added_more tos' others' m e = record {
        rules = λ i. e.rules i ∙
            (ap (λ xs. xs ++ f i k) (d.rules i) ∙
            (append_assoc (listed_rules h i tos₀ others₀ n₀) (gather a k (f i)) (f i k) ∙
            ap (λ xs. listed_rules h i tos₀ others₀ n₀ ++ xs) (sym (gather_last a k (f i) l))));
        low = e.low;
        tos_long = e.tos_long ∙ d.tos_long;
        others_long = e.others_long ∙ d.others_long;
      }

      pub added_kept : ((i : ℕ) → f i k ≡ []) → Added h tos₀ others₀ n₀ tos others n (λ i. gather a (k + 1) (f i))
      added_kept none = added_more tos others n (record {
        rules = λ i. sym (ap (λ xs. listed_rules h i tos others n ++ xs) (none i) ∙ append-nil (listed_rules h i tos others n));
        low = d.low;
        tos_long = refl;
        others_long = refl;
      })

      pub added_one : (x y : ℕ) → n < length tos → n < length others → ((i : ℕ) → f i k ≡ rule i x (kind_effect h y) ∷ []) → Added h tos₀ others₀ n₀ (set tos n x) (set others n y) (n + 1) (λ i. gather a (k + 1) (f i))
      added_one x y p q same = added_more (set tos n x) (set others n y) (n + 1) (record {
        rules = λ i. listed_next i n x y tos others p q ∙ ap (λ xs. listed_rules h i tos others n ++ xs) (sym (same i));
        low = simp length-set (omega arith);
        tos_long = length-set tos n x;
        others_long = length-set others n y;
      })

      pub added_quiet : (x : ℕ) → ((y : ℕ) → kind_effect h y ≡ quiet) → n < length tos → ((i : ℕ) → f i k ≡ rule i x quiet ∷ []) → Added h tos₀ others₀ n₀ (set tos n x) others (n + 1) (λ i. gather a (k + 1) (f i))
      added_quiet x q p same = added_more (set tos n x) others (n + 1) (record {
        rules = λ i. quiet_next i n x tos others q p ∙ ap (λ xs. listed_rules h i tos others n ++ xs) (sym (same i));
        low = simp length-set (omega arith);
        tos_long = length-set tos n x;
        others_long = refl;
      })

-- rules without another counter are alike for all kinds
listed_alike : (h h' : Kind) (i n : ℕ) (tos others : List ℕ) → ((y : ℕ) → kind_effect h y ≡ quiet) → ((y : ℕ) → kind_effect h' y ≡ quiet) → listed_rules h i tos others n ≡ listed_rules h' i tos others n
unfolding listed_rules listed_rule
listed_alike h h' i n tos others q q' =
    gather_same 0 n (λ k. listed_rule h i tos others k ∷ []) (λ k. listed_rule h' i tos others k ∷ []) (λ k a b. rw (q (get_or others k 0), q' (get_or others k 0)))

pub added_alike : (h h' : Kind) (tos others : List ℕ) (n : ℕ) (tos' others' : List ℕ) (m : ℕ) (g : ℕ → List Rule) → ((y : ℕ) → kind_effect h y ≡ quiet) → ((y : ℕ) → kind_effect h' y ≡ quiet) → Added h tos others n tos' others' m g → Added h' tos others n tos' others' m g
added_alike h h' tos others n tos' others' m g q q' d = record {
  rules = λ i. sym (listed_alike h h' i m tos' others' q q') ∙ (d.rules i ∙ ap (λ xs. xs ++ g i) (listed_alike h h' i n tos others q q'));
  low = d.low;
  tos_long = d.tos_long;
  others_long = d.others_long;
}

one : (xs : List Rule) → gather 0 1 (λ k. xs) ≡ xs
unfolding gather gather_between
one xs = append-nil xs

-- one rule without another counter, the first of all
pub added_alone : (h : Kind) (tos others : List ℕ) (x : ℕ) → ((y : ℕ) → kind_effect h y ≡ quiet) → 0 < length tos → (g : ℕ → List Rule) → ((i : ℕ) → rule i x quiet ∷ [] ≡ g i) → Added h tos others 0 (set tos 0 x) others 1 g
added_alone h tos others x q l g same =
    added_same h tos others 0 (set tos 0 x) others 1 _ g
    (added_quiet h tos others 0 tos others 0 0 0 (λ i k. rule i x quiet ∷ []) (added_none h tos others 0 0 (λ i k. rule i x quiet ∷ []) (omega arith)) (omega arith) x q l (λ i. refl))
    (λ i. one (rule i x quiet ∷ []) ∙ same i)

-- the rules of a state
module _ (p : Program) (t : Tables) (i m : ℕ) (tos others tos' others' : List ℕ) (alike : length others ≡ length tos) where
  pub state_added : (h : Kind) → kind (tag p (right t.states i)) ≡ h → Added h tos others 0 tos' others' m (λ k. state_rules_of p t k (state_at t i)) → StateRules p t i tos' others' m
  state_added h e d = record {
    tos_room = d.low;
    others_room = omega (arith, d.low, d.tos_long, d.others_long);
    rules = rw e (d.rules i ∙ ap (λ xs. xs ++ state_rules_of p t i (state_at t i)) (listed_none h i tos others));
  }

  -- without other counters
  pub state_quiet : (h : Kind) → kind (tag p (right t.states i)) ≡ h → ((y : ℕ) → kind_effect h y ≡ quiet) → Added h tos [] 0 tos' [] m (λ k. state_rules_of p t k (state_at t i)) → length others' ≡ length others → StateRules p t i tos' others' m
  state_quiet h e q d same = record {
    tos_room = d.low;
    others_room = omega (arith, d.low, d.tos_long);
    rules = rw e (listed_quiet h i m tos' others' [] q ∙ (d.rules i ∙ ap (λ xs. xs ++ state_rules_of p t i (state_at t i)) (listed_none h i tos [])));
  }
