-- The values of a name as a range of entries; codes of several values together.
use Prim.Native.Nat.{ℕ, zero, suc, ◌+◌, ◌≤◌, ◌<◌, max}
use native.Mathlib.Decide.{dec_lt}
use native.Mathlib.Omega.{arith}
use mathlib.Core.Path.{◌≡◌, refl, sym, ◌∙◌, ap}
use mathlib.Core.Bool.{Bool, true, false, ◌&&◌}
use mathlib.Core.List.{List, [], ◌∷◌}
use lib.Dec.{eqb}
use lib.ListN.{get_or}
use borrow.Author.Tests.{eqb-true, eq-eqb}
use Rattle.model.specs.declared.Sizes.{Sizes}
use Rattle.model.specs.Index.{implies, all}
use Rattle.model.specs.Words.{Columns, left, right, columns}
use Rattle.model.specs.Rows.{program}
use Rattle.model.specs.Tables.{tables, entries, each}
use Rattle.model.proofs.Logic.{test, implies_elim, implies_intro, both, and_joined, and_true, and_none, and_twice}
use Rattle.model.proofs.Index.{all_elim, all_intro, all_hit, all_miss, all_end}
use Rattle.matching.proofs.Coding.{by_code}
use Rattle.lists.specs.Lists.{Ascending, place, range_from, range_to, Starts}
use Rattle.lists.specs.Ready.{Ready}
use Rattle.lists.proofs.Facts.{flow_rises}
use Rattle.lists.proofs.Rising.{begins_before, begins_within, begins_behind, place_upto}
use Rattle.branches.specs.Taken.{code_closed}

pub each_range : (c : Columns) (a : ℕ) (f : ℕ → Bool) → Ascending c [] → each c a f ≡ all (range_from c a) (range_to c a) (λ j. f (right c j))
unfolding each range_from range_to
each_range c a f rising = both (each c a f) (all (place c [] (a ∷ 0 ∷ 0 ∷ [])) (place c [] ((a + 1) ∷ 0 ∷ 0 ∷ [])) (λ j. f (right c j)))
    (λ h. all_intro (place c [] (a ∷ 0 ∷ 0 ∷ [])) (place c [] ((a + 1) ∷ 0 ∷ 0 ∷ [])) (λ j. f (right c j)) (λ j lo hi.
    implies_elim (eqb (left c j) a) (f (right c j))
    (all_elim 0 c.size j (λ i. implies (eqb (left c i) a) (f (right c i))) h (omega arith) (let z = place_upto c [] ((a + 1) ∷ 0 ∷ 0 ∷ []) in omega arith))
    (eq-eqb (left c j) a (begins_within c [] a rising j lo hi))))
    (λ h. all_intro 0 c.size (λ i. implies (eqb (left c i) a) (f (right c i))) (λ i lo hi.
    implies_intro (eqb (left c i) a) (f (right c i)) (λ e. let same = eqb-true (left c i) a e in
    elim (dec_lt i (place c [] (a ∷ 0 ∷ 0 ∷ []))) [
      | yes l ↦ absurd (begins_before c [] a i l same)
      | no l ↦ elim (dec_lt i (place c [] ((a + 1) ∷ 0 ∷ 0 ∷ []))) [
        | yes k ↦ all_elim (place c [] (a ∷ 0 ∷ 0 ∷ [])) (place c [] ((a + 1) ∷ 0 ∷ 0 ∷ [])) i (λ j. f (right c j)) h (omega arith) k
        | no k ↦ absurd (begins_behind c [] a rising i (omega arith) hi same)
      ]
    ])))

-- the range as the table of starts has it
pub starts_range : {ws : List ℕ} {s : Sizes} → Ready ws s → {starts : List ℕ} → Starts (tables ws s).flow s.names starts → (n from to : ℕ) → n < s.names → from ≡ get_or starts n 0 → to ≡ get_or starts (n + 1) 0
    → (f : ℕ → Bool) → (each (tables ws s).flow n f ≡ all from to (λ j. f (right (tables ws s).flow j))) × (to ≤ s.flows)
unfolding program tables entries columns range_to range_from
starts_range {ws} {s} h {starts} st n from to l e g f =
    let a : from ≡ place (tables ws s).flow [] (n ∷ 0 ∷ 0 ∷ []) = e ∙ st.start n (omega arith) in
    let b : to ≡ place (tables ws s).flow [] ((n + 1) ∷ 0 ∷ 0 ∷ []) = g ∙ st.start (n + 1) (omega arith) in
    let z = place_upto (tables ws s).flow [] ((n + 1) ∷ 0 ∷ 0 ∷ []) in
    (rw (a, b) (each_range (tables ws s).flow n f (flow_rises h)), omega arith)

-- the worse of two codes asks for what both do
pub closed_worse : (a b : ℕ) (x : Bool) → a ≤ 2 → b ≤ 2 → code_closed (max a b) x ≡ (code_closed a x && code_closed b x)
unfolding code_closed
closed_worse a b x la lb = by_code a la
    (λ e. by_code b lb (λ g. rw (e, g)) (λ g. rw (e, g)) (λ g. rw (e, g)))
    (λ e. by_code b lb (λ g. rw (e, g) (sym (and_true x))) (λ g. rw (e, g) (sym (and_twice x))) (λ g. rw (e, g) (sym (and_none x))))
    (λ e. by_code b lb (λ g. rw (e, g)) (λ g. rw (e, g)) (λ g. rw (e, g)))

all_turn : (i e : ℕ) (f : ℕ → Bool) → i < e → all i e f ≡ (f i && all (i + 1) e f)
all_turn i e f h = test (f i) (λ t. all_hit i e f h t ∙ ap (λ z. z && all (i + 1) e f) (sym t)) (λ t. all_miss i e f h t ∙ ap (λ z. z && all (i + 1) e f) (sym t))

-- the codes of the entries from j on, with the worst of those before
pub record Worst (whole : Bool → Bool) (f : ℕ → ℕ) (to j worst : ℕ) : Type 0 where
  pub most : worst ≤ 2
  pub to_come : (there : Bool) → whole there ≡ (code_closed worst there && all j to (λ i. code_closed (f i) there))

module _ {whole : Bool → Bool} {f : ℕ → ℕ} where
  pub worst_begin : (from to : ℕ) → ((there : Bool) → whole there ≡ all from to (λ i. code_closed (f i) there)) → Worst whole f to from 0
  unfolding code_closed
  worst_begin from to h = record { most = omega arith; to_come = h }

  pub worst_next : (to j worst k y : ℕ) → Worst whole f to j worst → j < to → k ≡ f j → k ≤ 2 → y ≡ max worst k → Worst whole f to (j + 1) y
  worst_next to j worst k y w l e m g = record {
    most = let z = w.most in omega arith;
    to_come = λ there. w.to_come there ∙
        (ap (λ z. code_closed worst there && z) (all_turn j to (λ i. code_closed (f i) there) l) ∙
        (ap (λ z. code_closed worst there && (code_closed z there && all (j + 1) to (λ i. code_closed (f i) there))) (sym e) ∙
        (and_joined (code_closed worst there) (code_closed k there) _ ∙
        ap (λ z. z && all (j + 1) to (λ i. code_closed (f i) there)) (sym (ap (λ z. code_closed z there) g ∙ closed_worse worst k there w.most m)))));
  }

  pub worst_over : (to j worst : ℕ) → Worst whole f to j worst → to ≤ j → (there : Bool) → whole there ≡ code_closed worst there
  worst_over to j worst w l there = w.to_come there ∙ (ap (λ z. code_closed worst there && z) (all_end j to (λ i. code_closed (f i) there) l) ∙ and_true (code_closed worst there))
