-- Laws of the rows of rules: of appended rules, of the rules of one state, and of the sums over states.
use Prim.Native.Nat.{ℕ, zero, suc, ◌+◌, ◌*◌, ◌≤◌, ◌<◌}
use native.Mathlib.Nat.{suc-mul}
use native.Mathlib.Numerals.{add-one}
use native.Mathlib.Omega.{arith}
use mathlib.Core.Path.{◌≡◌, refl, sym, ◌∙◌, ap}
use mathlib.Core.List.{List, [], ◌∷◌, ◌++◌, append_assoc, append-nil}
use Rattle.std.proofs.Common.{Option, Some, None}
use lib.ListN.{length, get_or, length-append}
use Rattle.model.specs.Limits.{max_states}
use Rattle.model.specs.Index.{gather, from_all}
use Rattle.model.specs.Words.{right}
use Rattle.model.specs.Rows.{Program, tag, Kind, kind, give, build, function, call, send, spawn, self, case, receive, other}
use Rattle.model.specs.Tables.{Tables, state_at}
use Rattle.model.specs.Rules.{Rule, rule, state_rules_of, rules}
use Rattle.model.specs.Listing.{line, effect_lines, rule_lines, system_words}
use Rattle.model.proofs.Index.{gather_end}
use Rattle.model.proofs.Listed.{length_system}
use Rattle.rules.specs.Listed.{kind_effect, listed_rule, listed_rules, StateRules}
use Rattle.rules.proofs.Gather.{gather_last}
use Rattle.rules.proofs.Adding.{listed_none}
use Rattle.system_totals.specs.declared.Totals.{Totals}
use Rattle.system_totals.specs.Lines.{lines, counted, Totalled, third_tag_of, third_lines, row_count}

abbrev pub totals : ℕ → ℕ → Totals
totals rules rows = record { rules = rules; rows = rows }

-- the rows of appended rules
pub lines_append : (xs ys : List Rule) → lines (xs ++ ys) ≡ lines xs ++ lines ys
unfolding lines from_all
lines_append [] ys = refl
lines_append (ρ ∷ xs) ys = ap (λ ls. rule_lines ρ ++ ls) (lines_append xs ys) ∙ sym (append_assoc (rule_lines ρ) (lines xs) (lines ys))

-- by the tag of the head
pub no_third : (t : ℕ) → ¬ (t ≡ 5) → ¬ (t ≡ 6) → ¬ (t ≡ 9) → None ≡ third_tag_of (kind t)
unfolding third_tag_of kind
no_third zero a b c = refl
no_third (suc zero) a b c = refl
no_third (suc (suc zero)) a b c = refl
no_third (suc (suc (suc zero))) a b c = refl
no_third (suc (suc (suc (suc zero)))) a b c = refl
no_third (suc (suc (suc (suc (suc zero))))) a b c = absurd (a refl)
no_third (suc (suc (suc (suc (suc (suc zero)))))) a b c = absurd (b refl)
no_third (suc (suc (suc (suc (suc (suc (suc zero))))))) a b c = refl
no_third (suc (suc (suc (suc (suc (suc (suc (suc zero)))))))) a b c = refl
no_third (suc (suc (suc (suc (suc (suc (suc (suc (suc zero))))))))) a b c = absurd (c refl)
no_third (suc (suc (suc (suc (suc (suc (suc (suc (suc (suc t)))))))))) a b c = refl

-- the third row, by the kind
third_effect : (h : Kind) (x : ℕ) → effect_lines (kind_effect h x) ≡ third_lines (third_tag_of h) x
unfolding effect_lines kind_effect third_lines third_tag_of
third_effect give x = refl
third_effect build x = refl
third_effect function x = refl
third_effect call x = refl
third_effect send x = refl
third_effect spawn x = refl
third_effect self x = refl
third_effect case x = refl
third_effect receive x = refl
third_effect other x = refl

third_length : (h : Kind) (x : ℕ) → length (third_lines (third_tag_of h) x) + 2 ≡ row_count (third_tag_of h)
unfolding third_lines third_tag_of row_count
third_length give x = refl
third_length build x = refl
third_length function x = refl
third_length call x = refl
third_length send x = refl
third_length spawn x = refl
third_length self x = refl
third_length case x = refl
third_length receive x = refl
third_length other x = refl

-- the rows of one rule at a head of this kind
pub one_lines : (h : Kind) (from to x : ℕ) → lines (rule from to (kind_effect h x) ∷ []) ≡ line 50 from ∷ line 51 to ∷ third_lines (third_tag_of h) x
unfolding lines from_all rule_lines
one_lines h from to x = ap (λ ls. line 50 from ∷ line 51 to ∷ ls) (append-nil (effect_lines (kind_effect h x)) ∙ third_effect h x)

pub one_length : (h : Kind) (from to x : ℕ) → length (lines (rule from to (kind_effect h x) ∷ [])) ≡ row_count (third_tag_of h)
one_length h from to x = let e = ap length (one_lines h from to x) in let z = third_length h x in omega arith

module _ (a : ℕ) (f : ℕ → List Rule) where
  pub rules_more : (k : ℕ) → a ≤ k → length (gather a (k + 1) f) ≡ length (gather a k f) + length (f k)
  rules_more k h = ap length (gather_last a k f h) ∙ length-append (gather a k f) (f k)

  pub rows_more : (k : ℕ) → a ≤ k → length (lines (gather a (k + 1) f)) ≡ length (lines (gather a k f)) + length (lines (f k))
  rows_more k h = ap (λ ρs. length (lines ρs)) (gather_last a k f h) ∙ (ap length (lines_append (gather a k f) (f k)) ∙ length-append (lines (gather a k f)) (lines (f k)))

module _ (h : Kind) (i : ℕ) (tos others : List ℕ) where
  listed_length : (n : ℕ) → length (listed_rules h i tos others n) ≡ n
  unfolding listed_rules
  listed_length zero = ap length (listed_none h i tos others)
  listed_length (suc n) =
      rw (← add-one n) (rules_more 0 (λ k. listed_rule h i tos others k ∷ []) n (omega arith) ∙ ap (λ m. m + 1) (listed_length n))

  listed_rows : (n : ℕ) → length (lines (listed_rules h i tos others n)) ≡ n * row_count (third_tag_of h)
  unfolding listed_rules listed_rule lines from_all
  listed_rows zero = let z : 0 * row_count (third_tag_of h) ≡ 0 = omega arith in ap (λ ρs. length (lines ρs)) (listed_none h i tos others) ∙ sym z
  listed_rows (suc n) =
      let m = rows_more 0 (λ k. listed_rule h i tos others k ∷ []) n (omega arith) in
      let one = one_length h i (get_or tos n 0) (get_or others n 0) in
      rw (← add-one n) (omega (arith, listed_rows n, suc-mul n (row_count (third_tag_of h))))

module _ (p : Program) (t : Tables) where
  -- the rules of state i
  abbrev pub of_state : ℕ → List Rule
  of_state i = state_rules_of p t i (state_at t i)

  -- how many rules and rows it has, from the two lists
  pub state_counted : (i n r head : ℕ) (tos others : List ℕ) → StateRules p t i tos others n → head ≡ tag p (right t.states i) → r ≡ n * row_count (third_tag_of (kind head)) → (n ≡ length (of_state i)) × (r ≡ length (lines (of_state i)))
  state_counted i n r head tos others h e f =
      let k : Kind = kind (tag p (right t.states i)) in (
        sym (listed_length k i tos others n) ∙ ap length h.rules,
        f ∙ (ap (λ x. n * row_count (third_tag_of (kind x))) e ∙ (sym (listed_rows k i tos others n) ∙ ap (λ ρs. length (lines ρs)) h.rules)),
      )

  -- Sums over the states below i: of rules, and of rows. No state has more than 65,536 rules.
  pub record Summed (i rules rows : ℕ) : Type 0 where
    pub rules_so_far : rules ≡ length (gather 0 i of_state)
    pub rows_so_far : rows ≡ length (lines (gather 0 i of_state))
    pub rules_low : rules ≤ 65536 * i
    pub rows_low : rows ≤ 196608 * i

  pub summed_none : Summed 0 0 0
  unfolding lines from_all
  summed_none = record {
    rules_so_far = rw (gather_end 0 0 of_state (omega arith));
    rows_so_far = rw (gather_end 0 0 of_state (omega arith));
    rules_low = omega arith;
    rows_low = omega arith;
  }

  -- one state more
  pub summed_more : (i rules rows n r head : ℕ) (tos others : List ℕ) → Summed i rules rows → StateRules p t i tos others n → n ≤ 65536 → head ≡ tag p (right t.states i) → r ≡ n * row_count (third_tag_of (kind head)) → r ≤ 3 * n → Summed (i + 1) (rules + n) (rows + r)
  summed_more i rules rows n r head tos others s h l e f m =
      let (x, y) = state_counted i n r head tos others h e f in
      record {
        rules_so_far = omega (arith, s.rules_so_far, rules_more 0 of_state i (omega arith));
        rows_so_far = omega (arith, s.rows_so_far, rows_more 0 of_state i (omega arith));
        rules_low = omega (arith, s.rules_low);
        rows_low = omega (arith, s.rows_low);
      }

  -- at the end
  pub summed_all : (i a b : ℕ) → Summed i a b → i ≡ t.states.size → i ≤ max_states → Totalled p t (totals a b)
  unfolding counted rules
  summed_all i a b s same low =
      let here : totals a b ≡ counted (gather 0 i of_state) = λ d. record { rules = s.rules_so_far d; rows = s.rows_so_far d } in
      record {
        told = here ∙ ap (λ n. counted (gather 0 n of_state)) same;
        few_rules = omega (arith, s.rules_low);
        few_rows = omega (arith, s.rows_low);
      }

-- the rows of n rules, by the third tag
pub two_rows : (n : ℕ) (third tag : Option ℕ) → third ≡ tag → third ≡ None → (n * 2 ≡ n * row_count tag) × (n * 2 ≤ 3 * n)
unfolding row_count
two_rows n third tag e z = (rw (← e, z), omega arith)

pub three_rows : (n k : ℕ) (third tag : Option ℕ) → third ≡ tag → third ≡ Some k → (n * 3 ≡ n * row_count tag) × (n * 3 ≤ 3 * n)
unfolding row_count
three_rows n k third tag e z = (rw (← e, z), omega arith)

-- the words of the listing
pub words_told : (p : Program) (t : Tables) (n : Totals) → n ≡ counted (rules p t) → 4 + 2 * n.rows ≡ length (system_words p t)
unfolding counted lines
words_told p t n e = let x : n.rows ≡ length (lines (rules p t)) = ap (λ m. m.rows) e in let y = length_system p t in omega arith
