-- The numbers of a value's letters, digit by digit (`Extended` of specs/Letters.antt).
use Prim.Native.Nat.{ℕ, zero, suc, ◌+◌, ◌-◌, ◌*◌, ◌^◌, ◌≤◌, ◌<◌}
use native.Mathlib.Decide.{ℕ_discrete, dec_lt}
use native.Mathlib.Nat.{add-mul, mul_assoc, pow-le-pow_right}
use native.Mathlib.Omega.{arith}
use mathlib.Core.Path.{◌≡◌, refl, sym, ◌∙◌, ap, subst}
use mathlib.Core.Bool.{true, false}
use mathlib.Core.List.Memᴰ
use mathlib.Core.List.{List, [], ◌∷◌, map, Memᴰ}
use mathlib.Core.Logic.{◌⊎◌, inl, inr, ⊎_elim}
use lib.ListN.{get_or}
use lib.Dec.{eqb}
use borrow.Author.Tests.{eqb-true}
use Rattle.bits.specs.Bits.{member}
use Rattle.model.specs.declared.Sizes.{Sizes}
use Rattle.model.specs.Limits.{max_arity}
use Rattle.model.specs.Index.{gather}
use Rattle.model.specs.Rows.{Program, program, tag, num, arity}
use Rattle.model.specs.Letters.{head_count, row_head_of}
use Rattle.model.specs.Tables.{Tables, tables}
use Rattle.model.specs.Closed.{argument}
use Rattle.model.specs.Counters.{name_heads, heads_each, choices, any_argument, letters_allowed}
use Rattle.model.proofs.Logic.{test, true_false}
use Rattle.model.proofs.Index.{gather_end, gather_turn, from_all_intro, from_all_elim}
use Rattle.model.proofs.Numbering.Choices.{head_of_name, chosen_of, gather_chosen, letters_built, letters_plain}
use Rattle.lists.specs.Ready.{Ready}
use Rattle.system_letters.proofs.Tables.{head_low}
use Rattle.value_letters.specs.Letters.{HeadsKnown, digits_code, letter_code, value_arity_of, Arguments, Allowed, Extended, Lacking}
use Rattle.ascending.specs.Numbers.{Room, Added}
use Rattle.ascending.proofs.Numbers.{added_none, added_then, added_same, added_within}
use Rattle.value_letters.proofs.Values.{member_head}

-- one digit more
power : (i : ℕ) → i < max_arity → 128 ^ (max_arity - i) ≡ 128 * 128 ^ (max_arity - (i + 1))
power i l = let z : max_arity - i ≡ suc (max_arity - (i + 1)) = omega arith in rw z (omega arith)

digit : (i prefix h : ℕ) → i < max_arity → (prefix * 128 + h) * 128 ^ (max_arity - (i + 1)) ≡ prefix * 128 ^ (max_arity - i) + h * 128 ^ (max_arity - (i + 1))
digit i prefix h l =
    add-mul (prefix * 128) h (128 ^ (max_arity - (i + 1))) ∙
    ap (λ z. z + h * 128 ^ (max_arity - (i + 1))) (mul_assoc prefix 128 (128 ^ (max_arity - (i + 1))) ∙ ap (λ z. prefix * z) (sym (power i l)))

no_digit : (i prefix : ℕ) → i < max_arity → prefix * 128 * 128 ^ (max_arity - (i + 1)) ≡ prefix * 128 ^ (max_arity - i)
no_digit i prefix l = mul_assoc prefix 128 (128 ^ (max_arity - (i + 1))) ∙ ap (λ z. prefix * z) (sym (power i l))

code_cons : (i h : ℕ) (hs : List ℕ) → i < max_arity → digits_code (max_arity - i) (h ∷ hs) ≡ h * 128 ^ (max_arity - (i + 1)) + digits_code (max_arity - (i + 1)) hs
unfolding digits_code
code_cons i h hs l = let z : max_arity - i ≡ suc (max_arity - (i + 1)) = omega arith in rw z refl

code_nil : (n : ℕ) → digits_code n [] ≡ 0
unfolding digits_code
code_nil zero = refl
code_nil (suc n) = refl

pub within_arity : {i : ℕ} → i ≤ max_arity → (i ≡ max_arity → ⊥) → i < max_arity
within_arity {i} l n = elim (ℕ_discrete i max_arity) [ yes z ↦ absurd (n z) | no z ↦ omega arith ]

-- there is room for another digit
pub longer_fits : (i prefix : ℕ) → i < max_arity → prefix < 128 ^ (i + 1) → prefix * 128 + 127 < 18446744073709551616
longer_fits i prefix l b = let z = pow-le-pow_right {n = 128} (omega arith) {i = i + 1} {j = 8} (omega arith) in omega arith

pub longer_low : (i prefix h : ℕ) → h < 128 → prefix < 128 ^ (i + 1) → prefix * 128 + h < 128 ^ (i + 1 + 1)
longer_low i prefix h l b = let z : i + 1 + 1 ≡ suc (i + 1) = omega arith in rw z (omega arith)

pub longer_none : (i prefix : ℕ) → prefix < 128 ^ (i + 1) → prefix * 128 < 128 ^ (i + 1 + 1)
longer_none i prefix b = omega (arith, longer_low i prefix 0 (omega arith) b)

module _ (p : Program) (t : Tables) (v n : ℕ) where
  abbrev heads_of : ℕ → List (List ℕ)
  heads_of k = name_heads p t (any_argument k) (argument p v k) ∷ []

  -- all digits are there
  pub extended_end : (i prefix x : ℕ) → n ≤ max_arity → i ≡ max_arity → Extended p t v n i prefix x → x ≡ prefix
  unfolding choices digits_code
  extended_end i prefix x few e g =
      let none : max_arity - i ≡ 0 = omega arith in
      let is = g.is in
      let z = ap (λ k. prefix * 128 ^ k + digits_code k g.heads) none in
      omega arith

  pub end_extended : (i prefix x : ℕ) → n ≤ max_arity → i ≡ max_arity → x ≡ prefix → Extended p t v n i prefix x
  unfolding choices digits_code
  end_extended i prefix x few e is =
      let none : max_arity - i ≡ 0 = omega arith in
      let z = ap (λ k. prefix * 128 ^ k + digits_code k []) none in
      record {
        heads = [];
        chosen = rw (gather_end i n heads_of (omega arith)) (Memᴰ.head refl);
        is = omega arith;
      }

  -- behind the arguments the digits are 0
  pub extended_skip : (i prefix x : ℕ) → n ≤ i → i < max_arity → Extended p t v n (i + 1) (prefix * 128) x → Extended p t v n i prefix x
  unfolding choices
  extended_skip i prefix x behind l g =
      let hs : g.heads ≡ [] = Memᴰ.eq_of_singleton (rw (gather_end (i + 1) n heads_of (omega arith)) at g.chosen) in
      let low = ap (digits_code (max_arity - (i + 1))) hs ∙ code_nil (max_arity - (i + 1)) in
      record {
        heads = [];
        chosen = rw (gather_end i n heads_of behind) (Memᴰ.head refl);
        is = omega (arith, g.is, no_digit i prefix l, code_nil (max_arity - i));
      }

  pub skip_extended : (i prefix x : ℕ) → n ≤ i → i < max_arity → Extended p t v n i prefix x → Extended p t v n (i + 1) (prefix * 128) x
  unfolding choices
  skip_extended i prefix x behind l g =
      let hs : g.heads ≡ [] = Memᴰ.eq_of_singleton (rw (gather_end i n heads_of behind) at g.chosen) in
      let low = ap (digits_code (max_arity - i)) hs ∙ code_nil (max_arity - i) in
      record {
        heads = [];
        chosen = rw (gather_end (i + 1) n heads_of (omega arith)) (Memᴰ.head refl);
        is = omega (arith, g.is, no_digit i prefix l, code_nil (max_arity - (i + 1)));
      }

  -- the next digit is a head of argument i, and one below e
  pub record Turned (i prefix e x : ℕ) : Type 0 where
    pub head : ℕ
    pub below : head < e
    pub there : Memᴰ head (name_heads p t (any_argument i) (argument p v i))
    pub rest : Extended p t v n (i + 1) (prefix * 128 + head) x

  pub extended_turned : (i prefix x : ℕ) → i < n → n ≤ max_arity → Extended p t v n i prefix x → Turned i prefix (head_count p) x
  unfolding choices
  extended_turned i prefix x l few g =
      let (h, there, m) = from_all_elim (name_heads p t (any_argument i) (argument p v i)) (λ y. map (λ ys. y ∷ ys) (choices (gather (i + 1) n heads_of))) g.heads (rw (gather_turn i n heads_of l) at g.chosen) in
      let (hs, o, e) = Memᴰ.of_map (λ ys. h ∷ ys) (choices (gather (i + 1) n heads_of)) m in
      let code = ap (digits_code (max_arity - i)) (sym e) ∙ code_cons i h hs (omega arith) in
      record {
        head = h;
        below = (head_of_name p t (any_argument i) (argument p v i) h there).0;
        there = there;
        rest = record {
          heads = hs;
          chosen = o;
          is = omega (arith, g.is, digit i prefix h (omega arith));
        };
      }

  pub turned_extended : (i prefix e x : ℕ) → i < n → n ≤ max_arity → Turned i prefix e x → Extended p t v n i prefix x
  unfolding choices
  turned_extended i prefix e x l few g =
      record {
        heads = g.head ∷ g.rest.heads;
        chosen =
            rw (gather_turn i n heads_of l)
            (from_all_intro (name_heads p t (any_argument i) (argument p v i)) g.head (λ y. map (λ ys. y ∷ ys) (choices (gather (i + 1) n heads_of))) (g.head ∷ g.rest.heads) g.there (Memᴰ.map (λ ys. g.head ∷ ys) g.rest.chosen));
        is = omega (arith, g.rest.is, digit i prefix g.head (omega arith), code_cons i g.head g.rest.heads (omega arith));
      }

  pub turned_none : (i prefix x : ℕ) → Turned i prefix 0 x → ⊥
  turned_none i prefix x g = omega (arith, g.below)

  pub turned_more : (i prefix e x : ℕ) → Turned i prefix e x → Turned i prefix (e + 1) x
  turned_more i prefix e x g = record { head = g.head; below = omega (arith, g.below); there = g.there; rest = g.rest }

  pub turned_last : (i prefix e x : ℕ) → Turned i prefix (e + 1) x → Turned i prefix e x ⊎ (Memᴰ e (name_heads p t (any_argument i) (argument p v i)) × Extended p t v n (i + 1) (prefix * 128 + e) x)
  turned_last i prefix e x g = elim (ℕ_discrete g.head e) [
    | yes z ↦ inr (subst (λ k. Memᴰ k (name_heads p t (any_argument i) (argument p v i))) z g.there, subst (λ k. Extended p t v n (i + 1) (prefix * 128 + k) x) z g.rest)
    | no z ↦ inl (record { head = g.head; below = omega (arith, g.below); there = g.there; rest = g.rest })
  ]

-- the numbers of a value's letters are those that begin with its head and go on with a head of each argument
module _ (p : Program) (t : Tables) (v : ℕ) where
  code_built : (hs : List ℕ) → row_head_of p v * 128 ^ (max_arity - 0) + digits_code (max_arity - 0) hs ≡ letter_code (row_head_of p v ∷ hs)
  unfolding letter_code digits_code
  code_built hs = refl

  pub extended_allowed : (n x : ℕ) → n ≡ value_arity_of p v → Extended p t v n 0 (row_head_of p v) x → Allowed p t v x
  unfolding value_arity_of heads_each letters_allowed choices
  extended_allowed n x e g =
      test (eqb (tag p v) 2)
      (λ b.
      let is : n ≡ arity p (num p (v + 1)) = e ∙ rw (b, value_arity_of) in
      record {
        letter = row_head_of p v ∷ g.heads;
        allows = rw (letters_built p t any_argument v (eqb-true (tag p v) 2 b)) (Memᴰ.map (λ hs. row_head_of p v ∷ hs) (subst (λ k. Memᴰ g.heads (choices (gather 0 k (heads_of p t v n)))) is g.chosen));
        is = g.is ∙ code_built g.heads;
      })
      (λ b.
      let is : n ≡ 0 = e ∙ rw (b, value_arity_of) in
      let none : g.heads ≡ [] = Memᴰ.eq_of_singleton (rw (gather_end 0 n (heads_of p t v n) (omega arith)) at g.chosen) in
      record {
        letter = row_head_of p v ∷ g.heads;
        allows = rw (letters_plain p t any_argument v b) (Memᴰ.head (ap (λ hs. row_head_of p v ∷ hs) none));
        is = g.is ∙ code_built g.heads;
      })

  pub allowed_extended : (n x : ℕ) → n ≡ value_arity_of p v → Allowed p t v x → Extended p t v n 0 (row_head_of p v) x
  unfolding value_arity_of heads_each letters_allowed choices
  allowed_extended n x e g =
      test (eqb (tag p v) 2)
      (λ b.
      let is : n ≡ arity p (num p (v + 1)) = e ∙ rw (b, value_arity_of) in
      let (hs, there, same) = Memᴰ.of_map (λ hs. row_head_of p v ∷ hs) (choices (heads_each p t any_argument v)) (rw (letters_built p t any_argument v (eqb-true (tag p v) 2 b)) at g.allows) in
      record {
        heads = hs;
        chosen = subst (λ k. Memᴰ hs (choices (gather 0 k (heads_of p t v n)))) (sym is) there;
        is = g.is ∙ (ap letter_code (sym same) ∙ sym (code_built hs));
      })
      (λ b.
      let is : n ≡ 0 = e ∙ rw (b, value_arity_of) in
      let same = Memᴰ.eq_of_singleton (rw (letters_plain p t any_argument v b) at g.allows) in
      record {
        heads = [];
        chosen = rw (gather_end 0 n (heads_of p t v n) (omega arith)) (Memᴰ.head refl);
        is = g.is ∙ (ap letter_code same ∙ sym (code_built []));
      })

-- the heads of the arguments as the table has them
module _ {ws : List ℕ} {s : Sizes} {names : List ℕ} (g : HeadsKnown ws s names) {v n : ℕ} (a : Arguments (program ws s) v n) where
  abbrev p : Program
  p = program ws s

  abbrev t : Tables
  t = tables ws s

  -- where an argument has no head there is no number
  pub lacking_none : Lacking p v n names → (prefix x : ℕ) → Extended p t v n 0 prefix x → ⊥
  unfolding gather argument head_count program
  lacking_none k prefix x e =
      let (_, each) = gather_chosen (n - 0) 0 (λ i. name_heads p t (any_argument i) (argument p v i)) e.heads (chosen_of e.heads _ e.chosen) in
      let z : 0 + k.at ≡ k.at = omega arith in
      let there = rw z at (each k.at (omega (arith, k.below))) in
      let low = (head_of_name p t (any_argument k.at) (argument p v k.at) (get_or e.heads k.at 0) there).0 in
      true_false ((member_head g a k.at (num p (v + 2 + k.at)) (get_or e.heads k.at 0) refl k.below low).1 there) (k.none (get_or e.heads k.at 0) (omega (arith, g.ready.limits.constructors)))

  heads_told : s.constructors + 2 ≡ head_count p
  unfolding head_count program
  heads_told = refl

  module _ (i prefix : ℕ) {most from n0 : ℕ} {old : List ℕ} where
    -- there are more than the most already
    pub extended_stop : Room most from n0 old → most < n0 → Added (Extended p t v n i prefix) most from n0 old n0 old
    extended_stop r l = added_none r.rising r.upto (λ z x e. absurd (omega arith))

    pub extended_put : {m : ℕ} {new : List ℕ} → i ≡ max_arity → Added (λ y. y ≡ prefix) (n0 + 1) from n0 old m new → m ≤ n0 + 1 → n0 ≤ most → Added (Extended p t v n i prefix) most from n0 old m new
    extended_put e d l few = added_same (added_within d l few) (λ x z. end_extended p t v n i prefix x a.few e z) (λ x z. extended_end p t v n i prefix x a.few e z)

    pub extended_on : {m : ℕ} {new : List ℕ} → n ≤ i → i < max_arity → Added (Extended p t v n (i + 1) (prefix * 128)) most from n0 old m new → Added (Extended p t v n i prefix) most from n0 old m new
    extended_on l few d = added_same d (λ x z. extended_skip p t v n i prefix x l few z) (λ x z. skip_extended p t v n i prefix x l few z)

    -- head by head
    pub turned_begin : Room most from n0 old → Added (Turned p t v n i prefix 0) most from n0 old n0 old
    turned_begin r = added_none r.rising r.upto (λ z x e. absurd (turned_none p t v n i prefix x e))

    pub turned_hit : {m k y : ℕ} {mid new : List ℕ} (name : ℕ) → name ≡ num p (v + 2 + i) → i < n → y < s.constructors + 2 → member names 2 name y ≡ true → Added (Turned p t v n i prefix y) most from n0 old m mid → Added (Extended p t v n (i + 1) (prefix * 128 + y)) most from m mid k new → Added (Turned p t v n i prefix (y + 1)) most from n0 old k new
    turned_hit {y} name e l low has d f =
        added_then d f (λ x z. turned_more p t v n i prefix y x z)
        (λ x z. record { head = y; below = omega arith; there = (member_head g a i name y e l (omega (arith, heads_told))).0 has; rest = z })
        (λ x z. ⊎_elim (λ u. inl u) (λ u. inr u.1) (turned_last p t v n i prefix y x z))

    -- heads that the name's values lack
    pub turned_gap : {m k r : ℕ} {new : List ℕ} (name : ℕ) → name ≡ num p (v + 2 + i) → i < n → k ≤ r → ((y : ℕ) → k ≤ y → y < r → member names 2 name y ≡ false) → Added (Turned p t v n i prefix k) most from n0 old m new → Added (Turned p t v n i prefix r) most from n0 old m new
    unfolding head_count program
    turned_gap {k} {r} name e l up lacks d =
        added_same d (λ x z. record { head = z.head; below = omega (arith, z.below); there = z.there; rest = z.rest })
        (λ x z.
        let low = (head_of_name p t (any_argument i) (argument p v i) z.head z.there).0 in
        elim (dec_lt z.head k) [
          | yes b ↦ record { head = z.head; below = b; there = z.there; rest = z.rest }
          | no b ↦ true_false ((member_head g a i name z.head e l low).1 z.there) (lacks z.head (omega arith) z.below)
        ])

    pub turned_all : {m y : ℕ} {new : List ℕ} → i < n → s.constructors + 2 ≤ y → Added (Turned p t v n i prefix y) most from n0 old m new → Added (Extended p t v n i prefix) most from n0 old m new
    turned_all {y} l up d =
        added_same d (λ x z. turned_extended p t v n i prefix y x l a.few z)
        (λ x z.
        let w = extended_turned p t v n i prefix x l a.few z in
        record { head = w.head; below = omega (arith, w.below, heads_told); there = w.there; rest = w.rest })

  -- the letters of the value: none where an argument has no head
  pub value_none : {most from n0 : ℕ} {old : List ℕ} → n ≡ value_arity_of p v → Lacking p v n names → Room most from n0 old → Added (Allowed p t v) most from n0 old n0 old
  value_none e k r = added_none r.rising r.upto (λ z x y. absurd (lacking_none k (row_head_of p v) x (allowed_extended p t v n x e y)))

  pub value_extended : {most from n0 m : ℕ} {old new : List ℕ} (prefix : ℕ) → n ≡ value_arity_of p v → prefix ≡ row_head_of p v → Added (Extended p t v n 0 prefix) most from n0 old m new → Added (Allowed p t v) most from n0 old m new
  value_extended prefix e f d =
      added_same d (λ x z. extended_allowed p t v n x e (subst (λ k. Extended p t v n 0 k x) f z))
      (λ x z. subst (λ k. Extended p t v n 0 k x) (sym f) (allowed_extended p t v n x e z))

pub head_digit : {ws : List ℕ} {s : Sizes} → Ready ws s → (v x : ℕ) → x ≡ row_head_of (program ws s) v → x < 128 ^ 1
unfolding head_count program
head_digit h v x e = omega (arith, head_low h v, h.limits.constructors)
