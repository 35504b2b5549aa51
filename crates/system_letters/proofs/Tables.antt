-- The heads of values, which of them the values of a name have, and how many letters there are.
use Prim.Native.Nat.{ℕ, zero, suc, ◌+◌, ◌*◌, ◌/◌, ◌%◌, ◌≤◌, ◌<◌}
use native.Mathlib.Numerals.{add-one}
use native.Mathlib.Omega.{arith}
use mathlib.Core.Path.{◌≡◌, sym, ◌∙◌, ap}
use mathlib.Core.Bool.{Bool, true, ◌&&◌, ◌||◌}
use mathlib.Core.List.{List, []}
use mathlib.Core.Logic.{◌⊎◌, inl, inr, ⊎_elim}
use lib.ListN.{length, get_or}
use lib.Dec.{eqb}
use borrow.Author.Tests.{eq-eqb, ne_eqb, lt-ltb, ltb-true}
use Rattle.bits.specs.Bits.{member, Row, Put}
use Rattle.bits.proofs.Bits.{bit_zero}
use Rattle.bits.proofs.Loops.{any_split}
use Rattle.model.specs.declared.Sizes.{Sizes}
use Rattle.model.specs.Index.{any, count}
use Rattle.model.specs.Words.{left, right, columns}
use Rattle.model.specs.Rows.{Program, program, size, tag, num, is_name}
use Rattle.model.specs.Heads.{is_function, is_class_of}
use Rattle.model.specs.Letters.{head, head_count, row_shape, row_head_of}
use Rattle.model.specs.Tables.{Tables, tables, entries, some_of}
use Rattle.model.specs.Counters.{letter_keys, letter_count_of}
use Rattle.model.proofs.Logic.{test, eqb_flip}
use Rattle.model.proofs.Keys.{getD_there}
use Rattle.model.proofs.Heads.{class_tag}
use Rattle.model.proofs.Index.{any_end, any_hit, any_miss, count_end, count_last}
use Rattle.model.proofs.Numbering.Letters.{key_from}
use Rattle.model.proofs.Numbering.Counters.{row_head_low, tag_inside}
use Rattle.model.proofs.Parse.Lengths.{built_below}
use Rattle.lists.specs.declared.Span.{Span}
use Rattle.lists.specs.Lists.{flow_span, listed}
use Rattle.lists.proofs.Facts.{rows_fit, flow_listed, flow_form, mail_form}
use Rattle.lists.specs.Ready.{Ready}
use Rattle.system_letters.specs.Letters.{NameHeads, class_at, letters_before, ClassLetters, letter_width_of}

-- the head of a value, by its row's tag
module _ (p : Program) (v x : ℕ) (same : x ≡ tag p v) where
  pub head_built : x ≡ 2 → num p (v + 1) ≡ row_head_of p v
  unfolding row_head_of row_shape head
  head_built e = rw (eq-eqb (tag p v) 2 (sym same ∙ e), row_shape)

  pub head_function : (x ≡ 3) ⊎ (x ≡ 11) → p.constructors ≡ row_head_of p v
  unfolding row_head_of row_shape head is_function
  head_function (inl e) = rw (sym same ∙ e, row_shape) (rw (sym same ∙ e))
  head_function (inr e) = rw (sym same ∙ e, row_shape) (rw (sym same ∙ e))

  pub head_address : (x ≡ 2 → ⊥) → ((x ≡ 3) ⊎ (x ≡ 11) → ⊥) → p.constructors + 1 ≡ row_head_of p v
  unfolding row_head_of row_shape head is_function
  head_address a b =
      rw (ne_eqb (tag p v) 2 (λ e. a (same ∙ e)), row_shape)
      (rw (ne_eqb (tag p v) 3 (λ e. b (inl (same ∙ e))), ne_eqb (tag p v) 11 (λ e. b (inr (same ∙ e)))))

-- a class is R or a row
pub class_at_most : (p : Program) → ((r : ℕ) → tag p r ≡ 6 → r < size p) → (c : ℕ) → is_class_of p c ≡ true → c ≤ size p
class_at_most p inside c h = ⊎_elim (λ e. let b = inside c e in omega arith) (λ e. omega arith) (class_tag p c h)

module _ {ws : List ℕ} {s : Sizes} (h : Ready ws s) where
  abbrev p : Program
  p = program ws s

  abbrev t : Tables
  t = tables ws s

  -- a build is of a constructor
  pub built_low : (v : ℕ) → tag p v ≡ 2 → num p (v + 1) < p.constructors
  built_low v e = built_below p (rows_fit h) v (tag_inside ws s v (omega arith)) e

  pub head_low : (v : ℕ) → row_head_of p v < head_count p
  head_low = row_head_low p built_low

  pub head_small : (v x : ℕ) → x ≡ row_head_of p v → x < s.constructors + 2
  unfolding head_count program
  head_small v x e = omega (arith, head_low v)

  -- the class of mail entry i, and of letter y
  pub class_low : (i : ℕ) → i < t.mail.size → left t.mail i ≤ size p
  class_low i l = class_at_most p (λ r u. tag_inside ws s r (omega arith)) (left t.mail i) ((mail_form h).in_range i l).0

  pub letter_class_low : (y : ℕ) → y < letter_count_of p t → class_at p t y ≤ size p
  unfolding class_at letter_count_of
  letter_class_low y l =
      let a = key_from p t (get_or (letter_keys p t) y []) (getD_there (letter_keys p t) y l) in
      let m = a.mailed in
      let same : get_or (get_or (letter_keys p t) y []) 0 0 ≡ a.class = sym (ap (λ k. get_or k 0 0) a.same) in
      omega (arith, class_low m.at m.below, m.first)

-- where each passes, all are counted
pub count_each : (e : ℕ) (f : ℕ → Bool) → ((k : ℕ) → k < e → f k ≡ true) → count 0 e f ≡ e
count_each zero f h = count_end 0 0 f (omega arith)
count_each (suc e) f h = omega (arith, rw (add-one e) at (count_last 0 e f (omega arith) (h e (omega arith))), count_each e f (λ k l. h k (omega arith)))

-- the number of letters
module _ {ws : List ℕ} {s : Sizes} (h : Ready ws s) (starts : List ℕ) (g : ClassLetters (program ws s) (tables ws s) starts) where
  pub last_inside : s.rows + 1 < length starts
  unfolding program columns
  last_inside = g.room

  pub count_told : (n : ℕ) → n ≡ get_or starts (s.rows + 1) 0 → n ≡ letter_count_of (program ws s) (tables ws s)
  unfolding letters_before program columns
  count_told n e =
      e ∙ (g.start (s.rows + 1) (omega arith) ∙
      count_each _ _ (λ y l. lt-ltb (class_at (program ws s) (tables ws s) y) (s.rows + 1) (omega (arith, letter_class_low h y l))))

  pub width_told : (n : ℕ) → n ≡ letter_count_of (program ws s) (tables ws s) → n / 64 + 1 ≡ letter_width_of (program ws s) (tables ws s)
  unfolding letter_width_of
  width_told n e = ap (λ k. k / 64 + 1) e

-- the heads of the values of each name, from the first i entries of the flow list
module _ (ws : List ℕ) (s : Sizes) where
  abbrev name_head : ℕ → ℕ → ℕ → Bool
  name_head n l j = eqb (left (tables ws s).flow j) n && eqb (row_head_of (program ws s) (right (tables ws s).flow j)) l

  pub record Headed (i : ℕ) (names : List ℕ) : Type 0 where
    pub room : s.names * 2 ≤ length names
    pub has : (n l : ℕ) → n < s.names → l < s.constructors + 2 → member names 2 n l ≡ any 0 i (name_head n l)

module _ {ws : List ℕ} {s : Sizes} (h : Ready ws s) where
  pub headed_none : (names : List ℕ) (k : ℕ) → k ≡ s.names * 2 → ((i : ℕ) → i < k → get_or names i 0 ≡ 0) → k ≤ length names → Headed ws s 0 names
  unfolding member
  headed_none names k e f r = record {
    room = omega arith;
    has = λ n l a b. rw (f (n * 2 + l / 64) (omega (arith, h.limits.constructors))) (bit_zero (l % 64) ∙ sym (any_end 0 0 (name_head ws s n l) (omega arith)));
  }

  pub flow_name : (l : Span) (i n : ℕ) → l ≡ flow_span s → i < s.flows → n ≡ left (listed ws l) i → (n ≡ left (tables ws s).flow i) × (n < s.names)
  unfolding is_name program tables entries columns
  flow_name l i n e b same =
      let z : n ≡ left (tables ws s).flow i = same ∙ rw (e, flow_listed ws s) in
      let low = ltb-true (left (tables ws s).flow i) s.names ((flow_form h).in_range i b).0 in
      (z, omega arith)

  pub name_room : (i n l : ℕ) (names : List ℕ) → Headed ws s i names → n < s.names → l < s.constructors + 2 → (l < 64 * 2) × Row names 2 n
  name_room i n l names g a b = (omega (arith, h.limits.constructors), record { room = omega (arith, g.room) })

  pub headed_next : (i n v l : ℕ) (names names' : List ℕ) → Headed ws s i names → i < s.flows → n ≡ left (tables ws s).flow i → v ≡ right (tables ws s).flow i → l ≡ row_head_of (program ws s) v → Put 2 n l names names' → Headed ws s (i + 1) names'
  headed_next i n v l names names' g b e f k put = record {
    room = omega (arith, g.room, put.long);
    has = λ n2 l2 a c.
        put.members n2 l2 (omega (arith, h.limits.constructors)) ∙
        (ap (λ x. x || (eqb n2 n && eqb l2 l)) (g.has n2 l2 a c) ∙
        (ap (λ x. any 0 i (name_head ws s n2 l2) || x) (turned n2 l2) ∙ sym (any_split 0 i (i + 1) (name_head ws s n2 l2) (omega arith) (omega arith))));
  }
    where
      turned : (n2 l2 : ℕ) → (eqb n2 n && eqb l2 l) ≡ any i (i + 1) (name_head ws s n2 l2)
      turned n2 l2 = test (name_head ws s n2 l2 i)
          (λ z. (rw (e, k, f, eqb_flip n2 (left (tables ws s).flow i), eqb_flip l2 (row_head_of (program ws s) (right (tables ws s).flow i))) z) ∙ sym (any_hit i (i + 1) (name_head ws s n2 l2) (omega arith) z))
          (λ z. (rw (e, k, f, eqb_flip n2 (left (tables ws s).flow i), eqb_flip l2 (row_head_of (program ws s) (right (tables ws s).flow i))) z) ∙ sym (any_miss i (i + 1) (name_head ws s n2 l2) (omega arith) z ∙ any_end (i + 1) (i + 1) (name_head ws s n2 l2) (omega arith)))

  pub headed_all : (i : ℕ) (names : List ℕ) → Headed ws s i names → i ≡ s.flows → NameHeads (program ws s) (tables ws s) names
  unfolding some_of program head_count tables entries columns
  headed_all i names g e = record { room = g.room; has = λ n l a b. g.has n l a b ∙ ap (λ k. any 0 k (name_head ws s n l)) e }
