-- What the bits of branches say.
use Prim.Native.Nat.{ℕ, zero, suc, ◌+◌, ◌*◌, ◌/◌, ◌%◌, ◌^◌, ◌≤◌, ◌<◌}
use native.Mathlib.Omega.{arith}
use mathlib.Core.Path.{◌≡◌, refl, sym, ◌∙◌, ap, ap₂}
use mathlib.Core.Bool.{Bool, true, false, not, ◌&&◌, ◌||◌}
use mathlib.Core.List.{List, [], ◌∷◌}
use lib.Dec.{eqb}
use lib.ListN.{length, get_or}
use borrow.Author.Tests.{eqb-true, eqb-false, eq-eqb, ne_eqb}
use Rattle.model.specs.Index.{implies}
use Rattle.model.specs.Words.{Columns}
use Rattle.model.specs.Rows.{Program}
use Rattle.model.specs.Heads.{branch_body_of}
use Rattle.model.specs.Tables.{Tables, some_of, State, onward, has_state}
use Rattle.model.specs.Closed.{may_take}
use Rattle.model.proofs.Logic.{true_false, test, or_false_left, or_false_right, and_none}
use Rattle.bits.specs.Bits.{odd, bit}
use Rattle.bits.proofs.Bits.{bit_suc}
use Rattle.matching.specs.Patterns.{values_code}
use Rattle.matching.proofs.Coding.{code_some, code_most}
use Rattle.branches.specs.Taken.{branch_code, code_closed, codes_closed, lacking, code_bits, lacks, taken_bits, are_bodies_closed, BitsTold}
use Rattle.branches.proofs.Codes.{codes_each}

double : (n : ℕ) → 2 ^ suc n ≡ 2 * 2 ^ n
double n = omega arith

-- the first of the bits, and the others
even : (x : ℕ) → bit (0 + 2 * x) 0 ≡ false
unfolding bit odd
even x = ne_eqb ((0 + 2 * x) / 1 % 2) 1 (λ z. omega arith)

uneven : (x : ℕ) → bit (1 + 2 * x) 0 ≡ true
unfolding bit odd
uneven x = eq-eqb ((1 + 2 * x) / 1 % 2) 1 (omega arith)

half : (x y k : ℕ) → x ≡ k + 2 * y → k ≤ 1 → x / 2 ≡ y
half x y k e l = omega arith

none_asked : (x y k : ℕ) (there : Bool) → x ≡ k + 2 * y → k ≡ 0 → (eqb k 0 || eqb k 1 && there) ≡ implies (odd x) there
unfolding odd implies
none_asked x y k there e z = let r : x % 2 ≡ 0 = omega arith in rw (z, r)

one_asked : (x y k : ℕ) (there : Bool) → x ≡ k + 2 * y → k ≡ 1 → (eqb k 0 || eqb k 1 && there) ≡ implies (odd x) there
unfolding odd implies
one_asked x y k there e z = let r : x % 2 ≡ 1 = omega arith in rw (z, r)

-- a code that is at most 2, and not 2
by_two : {A : Type 0} (k : ℕ) → k ≤ 2 → eqb k 2 ≡ false → (k ≡ 0 → A) → (k ≡ 1 → A) → A
by_two zero h e f g = f refl
by_two (suc zero) h e f g = g refl
by_two (suc (suc k)) h e f g = let z = eqb-false (suc (suc k)) 2 e in absurd (z (omega arith))

module _ (f : ℕ → ℕ) (most : (q : ℕ) → f q ≤ 2) where
  -- twice the weight is twice the bits
  twice : (w : ℕ) (qs : List ℕ) → lacking f qs ≡ false → code_bits f (w * 2) qs ≡ 2 * code_bits f w qs
  unfolding lacking code_bits
  twice w [] e = refl
  twice w (q ∷ qs) e =
      let rest = twice (w * 2) qs (or_false_right (eqb (f q) 2) _ e) in
      by_two (f q) (most q) (or_false_left (eqb (f q) 2) _ e)
      (λ z. rw z (omega arith))
      (λ z. rw z (sum (code_bits f (w * 2 * 2) qs) (code_bits f (w * 2) qs) w rest))
    where
      sum : (x y w : ℕ) → x ≡ 2 * y → 1 * (w * 2) + x ≡ 2 * (1 * w + y)
      sum x y w e = omega arith

  first_bit : (q : ℕ) (qs : List ℕ) → lacking f (q ∷ qs) ≡ false → code_bits f 1 (q ∷ qs) ≡ f q + 2 * code_bits f 1 qs
  unfolding lacking code_bits
  first_bit q qs e = let z = twice 1 qs (or_false_right (eqb (f q) 2) _ e) in omega arith

  bits_low : (qs : List ℕ) → lacking f qs ≡ false → code_bits f 1 qs < 2 ^ length qs
  unfolding lacking code_bits
  bits_low [] e = omega arith
  bits_low (q ∷ qs) e =
      let x = bits_low qs (or_false_right (eqb (f q) 2) _ e) in
      let y = first_bit q qs e in
      let w : 2 ^ length (q ∷ qs) ≡ 2 * 2 ^ length qs = double (length qs) in
      by_two (f q) (most q) (or_false_left (eqb (f q) 2) _ e) (λ z. omega arith) (λ z. omega arith)

  bits_at : (qs : List ℕ) (b : ℕ) → lacking f qs ≡ false → b < length qs → bit (code_bits f 1 qs) b ≡ not (eqb (f (get_or qs b 0)) 0)
  unfolding lacking
  bits_at [] b e l = absurd (omega arith)
  bits_at (q ∷ qs) zero e l = rw (first_bit q qs e) (by_two (f q) (most q) (or_false_left (eqb (f q) 2) _ e) (λ z. rw z (even (code_bits f 1 qs))) (λ z. rw z (uneven (code_bits f 1 qs))))
  bits_at (q ∷ qs) (suc b) e l =
      let y = first_bit q qs e in
      bit_suc (code_bits f 1 (q ∷ qs)) b ∙
      (ap (λ x. bit x b) (by_two (f q) (most q) (or_false_left (eqb (f q) 2) _ e) (λ z. half (code_bits f 1 (q ∷ qs)) (code_bits f 1 qs) (f q) y (omega arith)) (λ z. half (code_bits f 1 (q ∷ qs)) (code_bits f 1 qs) (f q) y (omega arith)))
      ∙ bits_at qs b (or_false_right (eqb (f q) 2) _ e) (omega arith))

  module _ (p : Program) (t : Tables) (s : State) where
    lacking_open : (qs : List ℕ) → lacking f qs ≡ true → codes_closed p t s f qs ≡ false
    unfolding lacking codes_closed code_closed
    lacking_open [] e = true_false e refl
    lacking_open (q ∷ qs) e = test (eqb (f q) 2)
        (λ z. let two = eqb-true (f q) 2 z in rw two)
        (λ z. ap (λ x. code_closed (f q) (has_state t (onward s (branch_body_of p q))) && x) (lacking_open qs (rw z at e)) ∙ and_none (code_closed (f q) (has_state t (onward s (branch_body_of p q)))))

    bodies_codes : (qs : List ℕ) → lacking f qs ≡ false → codes_closed p t s f qs ≡ are_bodies_closed p t s (code_bits f 1 qs) qs
    unfolding lacking codes_closed are_bodies_closed code_closed
    bodies_codes [] e = refl
    bodies_codes (q ∷ qs) e =
        let y = first_bit q qs e in
        let rest = bodies_codes qs (or_false_right (eqb (f q) 2) _ e) in
        by_two (f q) (most q) (or_false_left (eqb (f q) 2) _ e)
        (λ z. ap₂ ◌&&◌ (none_asked (code_bits f 1 (q ∷ qs)) (code_bits f 1 qs) (f q) (has_state t (onward s (branch_body_of p q))) y z) (rest ∙ ap (λ x. are_bodies_closed p t s x qs) (sym (half (code_bits f 1 (q ∷ qs)) (code_bits f 1 qs) (f q) y (omega arith)))))
        (λ z. ap₂ ◌&&◌ (one_asked (code_bits f 1 (q ∷ qs)) (code_bits f 1 qs) (f q) (has_state t (onward s (branch_body_of p q))) y z) (rest ∙ ap (λ x. are_bodies_closed p t s x qs) (sym (half (code_bits f 1 (q ∷ qs)) (code_bits f 1 qs) (f q) y (omega arith)))))

-- the bits of branches, told
module _ (p : Program) (t : Tables) (l : Columns) (a : ℕ) (qs : List ℕ) (k : ℕ) (same : k ≡ taken_bits (branch_code p t l a) qs) (few : 2 ^ length qs ≤ lacks) where
  most : (q : ℕ) → branch_code p t l a q ≤ 2
  unfolding branch_code values_code
  most q = code_most _ _

  found : lacking (branch_code p t l a) qs ≡ true → k ≡ lacks
  unfolding taken_bits
  found e = same ∙ rw (e, taken_bits)

  clear : lacking (branch_code p t l a) qs ≡ false → k ≡ code_bits (branch_code p t l a) 1 qs
  unfolding taken_bits
  clear e = same ∙ rw (e, taken_bits)

  none_lacks : (k ≡ lacks → ⊥) → lacking (branch_code p t l a) qs ≡ false
  none_lacks ne = test (lacking (branch_code p t l a) qs) (λ e. absurd (ne (found e))) (λ e. e)

  lacks_some : k ≡ lacks → lacking (branch_code p t l a) qs ≡ true
  lacks_some z = test (lacking (branch_code p t l a) qs) (λ e. e) (λ e. let x = clear e in let y = bits_low (branch_code p t l a) most qs e in absurd (omega arith))

  some_code : (q : ℕ) → not (eqb (branch_code p t l a q) 0) ≡ some_of l a (may_take p t q)
  unfolding branch_code values_code may_take
  some_code q = code_some _ _

  pub bits_told : BitsTold p t l a qs k
  bits_told = record {
    lacked = λ z s. codes_each p t s l a qs ∙ lacking_open (branch_code p t l a) most p t s qs (lacks_some z);
    closed = λ ne s. codes_each p t s l a qs ∙ (bodies_codes (branch_code p t l a) most p t s qs (none_lacks ne) ∙ ap (λ x. are_bodies_closed p t s x qs) (sym (clear (none_lacks ne))));
    bits = λ ne b h. ap (λ x. bit x b) (clear (none_lacks ne)) ∙ (bits_at (branch_code p t l a) most qs b (none_lacks ne) h ∙ some_code (get_or qs b 0));
    end = λ ne. let x = clear (none_lacks ne) in let y = bits_low (branch_code p t l a) most qs (none_lacks ne) in omega arith;
  }
