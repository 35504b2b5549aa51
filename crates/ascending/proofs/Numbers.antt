-- Numbers that ascend in some words of a table: where one stands or belongs, and what is there after others were put among them.
use Prim.Native.Nat.{ℕ, ◌+◌, ◌-◌, ◌≤◌, ◌<◌}
use native.Mathlib.Decide.{ℕ_discrete, dec_lt}
use native.Mathlib.Omega.{arith}
use mathlib.Core.Path.{◌≡◌, refl, sym, ◌∙◌, ap}
use mathlib.Core.Bool.{true, false}
use mathlib.Core.List.{List}
use mathlib.Core.Logic.{◌⊎◌, inl, inr, ⊎_elim}
use lib.Dec.{ltb}
use lib.ListN.{length, get_or, set, take, drop, length-set}
use lib.Seq.{get_or-set_same, get_or-set_other}
use borrow.Author.Tests.{ltb-true, ltb-false, lt-ltb}
use Rattle.std.specs.List.{CopiedTo, SameBelow}
use Rattle.std.specs.List.Sorted.{IsPartitionedBy, IsPartitionPoint}
use Rattle.std.proofs.lemmas.List.{length-take, length-drop, get_or-take, get_or-drop, get_or_default}
use Rattle.ascending.specs.Numbers.{Rising, Has, Placed, Shifted, Room, Added}

-- a part of the words, by itself
module _ {from n : ℕ} (words : List ℕ) (order : from ≤ n) (held : n ≤ length words) where
  part_long : length (take (n - from) (drop from words)) ≡ n - from
  part_long = omega (arith, length-take (n - from) (drop from words), length-drop from words)

  part_word : (k d : ℕ) → k < n - from → get_or (take (n - from) (drop from words)) k d ≡ get_or words (from + k) 0
  part_word k d l =
      get_or-take (n - from) (drop from words) k d l ∙
      (get_or-drop from words k d ∙ get_or_default words (from + k) d 0 (omega arith))

  -- the words below x stand before those that are not
  module _ (x : ℕ) (rising : Rising from n words) where
    pub parted : IsPartitionedBy (λ y. ltb y x) (take (n - from) (drop from words))
    parted i j d l h u = elim (ℕ_discrete i j) [
      | yes e ↦ rw e u
      | no e ↦
          let hj : j < n - from = omega (arith, part_long) in
          let v = ltb-true (get_or words (from + j) 0) x (rw (part_word j d hj) at u) in
          let w = rising.order (from + i) (from + j) (omega arith) (omega arith) (omega arith) in
          rw (part_word i d (omega arith)) (lt-ltb (get_or words (from + i) 0) x (omega arith))
    ]

  pub part_placed : (x e : ℕ) → e ≤ length (take (n - from) (drop from words)) → IsPartitionPoint (λ y. ltb y x ≡ true) (λ y. ltb y x ≡ false) (take (n - from) (drop from words)) e → Placed from n words x (from + e)
  part_placed x e l point =
      let long = part_long in
      record {
        behind = omega arith;
        upto = omega arith;
        less = λ i a c.
            let at : from + (i - from) ≡ i = omega arith in
            rw at at (ltb-true (get_or words (from + (i - from)) 0) x (rw (part_word (i - from) 0 (omega arith)) at (point.0 (i - from) 0 (omega arith) (omega arith))));
        more = λ i a c.
            let at : from + (i - from) ≡ i = omega arith in
            rw at at (ltb-false (get_or words (from + (i - from)) 0) x (rw (part_word (i - from) 0 (omega arith)) at (point.1 (i - from) 0 (omega arith) (omega arith))));
      }

-- the words at..n are copied one place further up
pub shifted_copy : {at n : ℕ} {old new : List ℕ} → length new ≡ length old → at ≤ n → CopiedTo old new at (at + 1) (n - at) → SameBelow old new (at + 1) → Shifted at n old new
shifted_copy {at} {n} {old} {new} long order copied same =
    record {
      long = long;
      below = λ i l. same i 0 (omega arith);
      moved = λ i a b.
          let from : at + (i + 1 - (at + 1)) ≡ i = omega arith in
          rw from at (copied (i + 1) 0 (omega arith) (omega arith));
    }

-- nothing is put
pub added_none : {New : ℕ → Type 0} {most from n : ℕ} {words : List ℕ} → Rising from n words → n ≤ most + 1 → (n ≤ most → (x : ℕ) → New x → Has from n words x) → Added New most from n words n words
added_none r l h =
    record {
      long = refl;
      grows = omega arith;
      upto = l;
      below = λ i b. refl;
      rising = r;
      sound = λ x k. inl k;
      kept = λ m x k. k;
      complete = h;
    }

-- one and then others
pub added_then : {A B C : ℕ → Type 0} {most from n m k : ℕ} {us vs ws : List ℕ} → Added A most from n us m vs → Added B most from m vs k ws → ((x : ℕ) → A x → C x) → ((x : ℕ) → B x → C x) → ((x : ℕ) → C x → A x ⊎ B x) → Added C most from n us k ws
added_then a b l r c =
    record {
      long = b.long ∙ a.long;
      grows = omega (arith, a.grows, b.grows);
      upto = b.upto;
      below = λ i h. b.below i h ∙ a.below i h;
      rising = b.rising;
      sound = λ x h. ⊎_elim (λ k. ⊎_elim (λ z. inl z) (λ z. inr (l x z)) (a.sound x k)) (λ k. inr (r x k)) (b.sound x h);
      kept = λ h x k. b.kept h x (a.kept (omega (arith, b.grows)) x k);
      complete = λ h x k. ⊎_elim (λ z. b.kept h x (a.complete (omega (arith, b.grows)) x z)) (λ z. b.complete h x z) (c x k);
    }

-- the same numbers told otherwise
pub added_same : {A C : ℕ → Type 0} {most from n m : ℕ} {us vs : List ℕ} → Added A most from n us m vs → ((x : ℕ) → A x → C x) → ((x : ℕ) → C x → A x) → Added C most from n us m vs
added_same a f g =
    record {
      long = a.long;
      grows = a.grows;
      upto = a.upto;
      below = a.below;
      rising = a.rising;
      sound = λ x h. ⊎_elim (λ k. inl k) (λ k. inr (f x k)) (a.sound x h);
      kept = a.kept;
      complete = λ h x k. a.complete h x (g x k);
    }

-- what holds of one more than there were holds below the most
pub added_within : {A : ℕ → Type 0} {most from n m : ℕ} {us vs : List ℕ} → Added A (n + 1) from n us m vs → m ≤ n + 1 → n ≤ most → Added A most from n us m vs
added_within a l h =
    record {
      long = a.long;
      grows = a.grows;
      upto = omega arith;
      below = a.below;
      rising = a.rising;
      sound = a.sound;
      kept = λ k x z. a.kept l x z;
      complete = λ k x z. a.complete l x z;
    }

-- the room after others were put
pub added_room : {A : ℕ → Type 0} {most from n m : ℕ} {us vs : List ℕ} → Room most from n us → Added A most from n us m vs → Room most from m vs
added_room g a =
    record {
      limit = g.limit;
      long = omega (arith, g.long, a.long);
      begun = omega (arith, g.begun, a.grows);
      upto = a.upto;
      rising = a.rising;
    }

pub strictly : {x w : ℕ} → x ≤ w → (w ≡ x → ⊥) → x < w
strictly {x} {w} l n = elim (ℕ_discrete w x) [ yes z ↦ absurd (n z) | no z ↦ omega arith ]

-- x is there already
pub placed_there : {from n x e w : ℕ} {words : List ℕ} → Rising from n words → Placed from n words x e → e < n → w ≡ get_or words e 0 → w ≡ x → Added (λ y. y ≡ x) (n + 1) from n words n words
placed_there {from} {n} {x} {e} {w} {words} r p l same is =
    added_none r (omega arith) (λ h y z. record { at = e; behind = p.behind; below = l; is = sym same ∙ (is ∙ sym z) })

-- x is written where it belongs, in front of the words that moved
module _ {from n x e : ℕ} {old mid : List ℕ} (r : Rising from n old) (p : Placed from n old x e) (fresh : e < n → x < get_or old e 0) (s : Shifted e n old mid) (room : n < length old) where
  abbrev new : List ℕ
  new = set mid e x

  here : get_or new e 0 ≡ x
  here = get_or-set_same mid e x 0 (omega (arith, s.long, p.upto))

  low : (i : ℕ) → i < e → get_or new i 0 ≡ get_or old i 0
  low i l = get_or-set_other mid e i x 0 (λ z. omega arith) ∙ s.below i l

  high : (i : ℕ) → e ≤ i → i < n → get_or new (i + 1) 0 ≡ get_or old i 0
  high i a b = get_or-set_other mid e (i + 1) x 0 (λ z. omega arith) ∙ s.moved i a b

  -- the words from e on are above x
  above : (i : ℕ) → e ≤ i → i < n → x < get_or old i 0
  above i a b = elim (ℕ_discrete i e) [
    | yes z ↦ let y = ap (λ k. get_or old k 0) z in omega (arith, fresh (omega arith))
    | no z ↦ omega (arith, fresh (omega arith), r.order e i p.behind (omega arith) b)
  ]

  -- the word at j is x, an old word, or an old word that moved
  at_new : (j : ℕ) → from ≤ j → j < n + 1 → (j < e) ⊎ ((j ≡ e) ⊎ ((i : ℕ) × ((j ≡ i + 1) × ((e ≤ i) × (i < n)))))
  at_new j a b = elim (dec_lt j e) [
    | yes l ↦ inl l
    | no l ↦ elim (ℕ_discrete j e) [
      | yes z ↦ inr (inl z)
      | no z ↦ inr (inr (j - 1, (omega arith, (omega arith, omega arith))))
    ]
  ]

  new_at : (j i : ℕ) → j ≡ i → get_or new j 0 ≡ get_or new i 0
  new_at j i z = ap (λ k. get_or new k 0) z

  rises : (i j : ℕ) → from ≤ i → i < j → j < n + 1 → get_or new i 0 < get_or new j 0
  rises i j a l b =
      ⊎_elim
      (λ (u : i < e). ⊎_elim
      (λ (v : j < e). omega (arith, low i u, low j v, r.order i j a l (omega (arith, p.upto))))
      (⊎_elim
      (λ (v : j ≡ e). omega (arith, low i u, new_at j e v, here, p.less i a u))
      (λ (v : (k : ℕ) × ((j ≡ k + 1) × ((e ≤ k) × (k < n)))).
      let (k, (z, (c, d))) = v in
      omega (arith, low i u, new_at j (k + 1) z, high k c d, p.less i a u, above k c d)))
      (at_new j (omega arith) b))
      (⊎_elim
      (λ (u : i ≡ e). ⊎_elim
      (λ (v : j < e). absurd (omega arith))
      (⊎_elim
      (λ (v : j ≡ e). absurd (omega arith))
      (λ (v : (k : ℕ) × ((j ≡ k + 1) × ((e ≤ k) × (k < n)))).
      let (k, (z, (c, d))) = v in
      omega (arith, new_at i e u, here, new_at j (k + 1) z, high k c d, above k c d)))
      (at_new j (omega arith) b))
      (λ (u : (k : ℕ) × ((i ≡ k + 1) × ((e ≤ k) × (k < n)))).
      let (q, (y, (f, g))) = u in
      let z : j ≡ j - 1 + 1 = omega arith in
      omega (arith, new_at i (q + 1) y, high q f g, new_at j (j - 1 + 1) z, high (j - 1) (omega arith) (omega arith), r.order q (j - 1) (omega (arith, p.behind)) (omega arith) (omega arith))))
      (at_new i a (omega arith))

  pub placed_new : Added (λ y. y ≡ x) (n + 1) from n old (n + 1) new
  placed_new =
      record {
        long = length-set mid e x ∙ s.long;
        grows = omega arith;
        upto = omega arith;
        below = λ i l. low i (omega (arith, p.behind));
        rising = record { order = rises };
        sound = λ y h.
            ⊎_elim
            (λ (u : h.at < e). inl (record { at = h.at; behind = h.behind; below = omega (arith, p.upto); is = sym (low h.at u) ∙ h.is }))
            (⊎_elim
            (λ (u : h.at ≡ e). inr (sym h.is ∙ (new_at h.at e u ∙ here)))
            (λ (u : (k : ℕ) × ((h.at ≡ k + 1) × ((e ≤ k) × (k < n)))).
            let (k, (z, (c, d))) = u in
            inl (record { at = k; behind = omega (arith, p.behind); below = d; is = sym (high k c d) ∙ (sym (new_at h.at (k + 1) z) ∙ h.is) })))
            (at_new h.at h.behind h.below);
        kept = λ l y h. elim (dec_lt h.at e) [
          | yes u ↦ record { at = h.at; behind = h.behind; below = omega (arith, h.below); is = low h.at u ∙ h.is }
          | no u ↦ record { at = h.at + 1; behind = omega (arith, h.behind); below = omega (arith, h.below); is = high h.at (omega arith) h.below ∙ h.is }
        ];
        complete = λ l y z. record { at = e; behind = p.behind; below = omega (arith, p.upto); is = here ∙ sym z };
      }
