-- Ceilings compared at a counter, bit by bit.
use Prim.Native.Nat.{ℕ, zero, suc, ◌+◌, ◌*◌, ◌/◌, ◌%◌, ◌^◌, ◌≤◌, ◌<◌}
use native.Mathlib.Decide.{ℕ_discrete, dec_lt}
use native.Mathlib.Nat.{suc-mul}
use native.Mathlib.Omega.{arith}
use mathlib.Core.Path.{◌≡◌, refl, sym, ◌∙◌, ap, subst}
use mathlib.Core.Bool.{Bool, true, false, ◌&&◌, ◌||◌}
use mathlib.Core.List.{List}
use lib.Bits.{bit_or}
use lib.Dec.{eqb, leb, ltb}
use lib.ListN.{get_or, length}
use borrow.Author.Tests.{eq-eqb, ne_eqb, le-leb, lt-leb, lt-ltb, le-ltb, leb-true, leb-false}
use Rattle.model.specs.Limits.{max_ceilings, omega_limit}
use Rattle.model.specs.Ceilings.{allowed}
use Rattle.model.proofs.Logic.{test, and_none, or_none}
use Rattle.bits.specs.Bits.{bit, member, Row, SetIs}
use Rattle.bits.proofs.Bits.{bit_or_lem, bit_one, bit_zero}
use Rattle.masks.specs.declared.Mask.{Mask}
use Rattle.masks.specs.Masks.{words, has}
use Rattle.ceilings.specs.Table.{held}
use Rattle.ceilings_masks.specs.Compared.{reaches, allows, TwoPut, ThreePut, Holders}

-- the first e bits of a word are what f says, and no other is set
pub record WordUpto (w e : ℕ) (f : ℕ → Bool) : Type 0 where
  pub set : (j : ℕ) → j < e → bit w j ≡ f j
  pub unset : (j : ℕ) → e ≤ j → bit w j ≡ false

pub word_start : (f : ℕ → Bool) → WordUpto 0 0 f
word_start f = record { set = λ j h. absurd (omega arith); unset = λ j h. bit_zero j }

and_always : (a b : Bool) → b ≡ true → a ≡ (a && b)
and_always true b h = sym h
and_always false b h = refl

-- one bit more, set or not
pub word_hit : (w e : ℕ) (f : ℕ → Bool) → WordUpto w e f → e < 64 → f e ≡ true → WordUpto (bit_or w (1 * 2 ^ e % 2 ^ 64)) (e + 1) f
word_hit w e f u h t =
    let is : (j : ℕ) → bit (bit_or w (1 * 2 ^ e % 2 ^ 64)) j ≡ (bit w j || eqb j e) = λ j. bit_or_lem w _ j ∙ ap (λ b. bit w j || b) (bit_one e j h) in
    record {
      set = λ j l. elim (ℕ_discrete j e) [
        | yes z ↦ is j ∙ rw (z, u.unset e (omega arith), eq-eqb e e refl) (sym t)
        | no z ↦ is j ∙ rw (u.set j (omega arith), ne_eqb j e z) (or_none (f j))
      ];
      unset = λ j l. is j ∙ rw (u.unset j (omega arith), ne_eqb j e (λ z. omega arith));
    }

pub word_miss : (w e : ℕ) (f : ℕ → Bool) → WordUpto w e f → f e ≡ false → WordUpto w (e + 1) f
word_miss w e f u t =
    record {
      set = λ j l. elim (ℕ_discrete j e) [
        | yes z ↦ rw z (u.unset e (omega arith) ∙ sym t)
        | no z ↦ u.set j (omega arith)
      ];
      unset = λ j l. u.unset j (omega arith);
    }

module _ (limits : List ℕ) (ceilings x least : ℕ) where
  pub reaches_in : (k l : ℕ) → k < ceilings → l ≡ held limits ceilings k x → least ≤ l → reaches limits ceilings x least k ≡ true
  unfolding reaches
  reaches_in k l h e z = rw (lt-ltb k ceilings h, ← e, le-leb least l z)

  pub reaches_low : (k l : ℕ) → l ≡ held limits ceilings k x → l < least → reaches limits ceilings x least k ≡ false
  unfolding reaches
  reaches_low k l e z = rw (← e, lt-leb least l z) (and_none (ltb k ceilings))

  pub reaches_past : (k : ℕ) → ceilings ≤ k → reaches limits ceilings x least k ≡ false
  unfolding reaches
  reaches_past k h = rw (le-ltb k ceilings h)

  -- all bits of word i
  pub word_over : (i w e : ℕ) → WordUpto w e (λ j. reaches limits ceilings x least (64 * i + j)) → ((j : ℕ) → e ≤ j → j < 64 → ceilings ≤ 64 * i + j) → (j : ℕ) → j < 64 → bit w j ≡ reaches limits ceilings x least (64 * i + j)
  word_over i w e u past j h = elim (dec_lt j e) [
    | yes l ↦ u.set j l
    | no l ↦ u.unset j (omega arith) ∙ sym (reaches_past (64 * i + j) (past j (omega arith) h))
  ]

-- a mask by its four words
pub mask_of : (m : Mask) (f : ℕ → Bool) → ((j : ℕ) → j < 64 → bit m.a j ≡ f (64 * 0 + j)) → ((j : ℕ) → j < 64 → bit m.b j ≡ f (64 * 1 + j)) → ((j : ℕ) → j < 64 → bit m.c j ≡ f (64 * 2 + j)) → ((j : ℕ) → j < 64 → bit m.d j ≡ f (64 * 3 + j)) → (k : ℕ) → k < 256 → has m k ≡ f k
unfolding has words
mask_of m f a b c d k h =
    let r : k % 64 < 64 = omega arith in
    let at : (i : ℕ) → k / 64 ≡ i → 64 * i + k % 64 ≡ k = λ i e. omega arith in
    elim (dec_lt k 64) [
      | yes l ↦ let e : k / 64 ≡ 0 = omega arith in rw e (a (k % 64) r ∙ ap f (at 0 e))
      | no l ↦ elim (dec_lt k 128) [
        | yes l' ↦ let e : k / 64 ≡ 1 = omega arith in rw e (b (k % 64) r ∙ ap f (at 1 e))
        | no l' ↦ elim (dec_lt k 192) [
          | yes q ↦ let e : k / 64 ≡ 2 = omega arith in rw e (c (k % 64) r ∙ ap f (at 2 e))
          | no q ↦ let e : k / 64 ≡ 3 = omega arith in rw e (d (k % 64) r ∙ ap f (at 3 e))
        ]
      ]
    ]

-- a count from 1 on is allowed where the limit reaches it; one from the unbounded limit on where the limit reaches that
allowed_reached : (l n : ℕ) → n ≤ omega_limit → leb n l ≡ allowed l n
unfolding allowed
allowed_reached l n h = elim (ℕ_discrete l omega_limit) [
  | yes e ↦ rw (eq-eqb l omega_limit e) (le-leb n l (omega arith))
  | no e ↦ rw (ne_eqb l omega_limit e)
]

allowed_unbounded : (l n : ℕ) → l ≤ omega_limit → omega_limit ≤ n → leb omega_limit l ≡ allowed l n
unfolding allowed
allowed_unbounded l n h f = elim (ℕ_discrete l omega_limit) [
  | yes e ↦ rw (eq-eqb l omega_limit e) (le-leb omega_limit l (omega arith))
  | no e ↦ rw (ne_eqb l omega_limit e, lt-leb omega_limit l (omega arith)) (sym (lt-leb n l (omega arith)))
]

module _ (limits : List ℕ) (ceilings x n k : ℕ) where
  pub allows_none : n ≡ 0 → ltb k ceilings ≡ allows limits ceilings x n k
  unfolding allows
  allows_none z =
      and_always (ltb k ceilings) _ (le-leb n (held limits ceilings k x) (omega arith)) ∙
      ap (λ b. ltb k ceilings && b) (allowed_reached (held limits ceilings k x) n (omega arith))

  pub allows_reached : n ≤ omega_limit → reaches limits ceilings x n k ≡ allows limits ceilings x n k
  unfolding allows reaches
  allows_reached h = ap (λ b. ltb k ceilings && b) (allowed_reached (held limits ceilings k x) n h)

  pub allows_one : n ≡ 1 → reaches limits ceilings x 1 k ≡ allows limits ceilings x n k
  unfolding allows reaches
  allows_one e = rw e (ap (λ b. ltb k ceilings && b) (allowed_reached (held limits ceilings k x) 1 (omega arith)))

  pub allows_two : n ≡ 2 → reaches limits ceilings x 2 k ≡ allows limits ceilings x n k
  allows_two e = ap (λ z. reaches limits ceilings x z k) (sym e) ∙ allows_reached (omega arith)

  pub allows_unbounded : ((z : ℕ) → get_or limits z 0 < 65536) → omega_limit ≤ n → reaches limits ceilings x omega_limit k ≡ allows limits ceilings x n k
  unfolding allows reaches
  allows_unbounded words h = ap (λ b. ltb k ceilings && b) (allowed_unbounded (held limits ceilings k x) n (let z = words (x * ceilings + k) in omega arith) h)

-- sets stored one behind the other
pub two_put : (i : ℕ) (a b : Mask) (f g : ℕ → Bool) (u v t : List ℕ) → SetIs 4 (2 * i) (has a) u v → SetIs 4 (2 * i + 1) (has b) v t → ((k : ℕ) → k < 256 → has a k ≡ f k) → ((k : ℕ) → k < 256 → has b k ≡ g k) → TwoPut i f g u t
two_put i a b f g u v t one two p q =
    record {
      long = two.long ∙ one.long;
      first = λ k l. two.others (2 * i) k l (λ e. omega arith) ∙ (one.here k l ∙ p k l);
      second = λ k l. two.here k l ∙ q k l;
      others = λ y k l n. two.others y k l (λ e. n (omega arith)) ∙ one.others y k l (λ e. n (omega arith));
    }

pub three_put : (i : ℕ) (f g h : ℕ → Bool) (u v w t : List ℕ) → SetIs 4 (3 * i) f u v → SetIs 4 (3 * i + 1) g v w → SetIs 4 (3 * i + 2) h w t → ThreePut i f g h u t
three_put i f g h u v w t one two three =
    record {
      long = three.long ∙ (two.long ∙ one.long);
      first = λ k l. three.others (3 * i) k l (λ e. omega arith) ∙ (two.others (3 * i) k l (λ e. omega arith) ∙ one.here k l);
      second = λ k l. three.others (3 * i + 1) k l (λ e. omega arith) ∙ two.here k l;
      third = three.here;
      others = λ y k l n. three.others y k l (λ e. n (omega arith)) ∙ (two.others y k l (λ e. n (omega arith)) ∙ one.others y k l (λ e. n (omega arith)));
    }

-- the sets of no counter, those of one counter more, and those of all
module _ (limits : List ℕ) (ceilings : ℕ) where
  pub holders_none : (t : List ℕ) → ceilings ≤ max_ceilings → Holders limits ceilings 0 t
  holders_none t few =
      record {
        few = few;
        table = omega arith;
        room = omega arith;
        holder = λ y k h. absurd (omega arith);
        holder_of_two = λ y k h. absurd (omega arith);
        no_bound = λ y k h. absurd (omega arith);
      }

  pub holders_next : (x : ℕ) (one two all : Mask) (u t : List ℕ) → Holders limits ceilings x u → Row limits ceilings x → ThreePut x (has one) (has two) (has all) u t → x * 12 + 12 ≤ length u → ((k : ℕ) → k < 256 → has one k ≡ reaches limits ceilings x 1 k) → ((k : ℕ) → k < 256 → has two k ≡ reaches limits ceilings x 2 k) → ((k : ℕ) → k < 256 → has all k ≡ reaches limits ceilings x omega_limit k) → Holders limits ceilings (x + 1) t
  holders_next x one two all u t s row p room a b c =
      record {
        few = s.few;
        table = omega (arith, suc-mul x ceilings, row.room);
        room = omega (arith, p.long, room);
        holder = λ y k h l. elim (ℕ_discrete y x) [
          | yes z ↦ rw z (p.first k l ∙ a k l)
          | no z ↦ p.others (3 * y) k l (λ e. z (omega arith)) ∙ s.holder y k (omega arith) l
        ];
        holder_of_two = λ y k h l. elim (ℕ_discrete y x) [
          | yes z ↦ rw z (p.second k l ∙ b k l)
          | no z ↦ p.others (3 * y + 1) k l (λ e. z (omega arith)) ∙ s.holder_of_two y k (omega arith) l
        ];
        no_bound = λ y k h l. elim (ℕ_discrete y x) [
          | yes z ↦ rw z (p.third k l ∙ c k l)
          | no z ↦ p.others (3 * y + 2) k l (λ e. z (omega arith)) ∙ s.no_bound y k (omega arith) l
        ];
      }

  pub holders_all : (n x : ℕ) (t : List ℕ) → x ≡ n → Holders limits ceilings x t → Holders limits ceilings n t
  holders_all n x t e s = subst (λ z. Holders limits ceilings z t) e s
