-- A law for the crates above: what a send or a receive does for each of some letters, ascending, is what it does for each counter of the class
-- that is one of theirs, by number. So rules can be made from sets of counters.
use Prim.Native.Nat.{ℕ, ◌≤◌, ◌<◌}
use native.Mathlib.Omega.{arith}
use mathlib.Core.Path.{◌≡◌, refl, sym, ◌∙◌, ap, subst}
use mathlib.Core.Bool.{Bool, true}
use mathlib.Core.Logic.{◌↔◌, inr, ⊎_elim}
use mathlib.Core.List.Memᴰ
use mathlib.Core.List.{List, [], ◌∷◌, map, map-map, Memᴰ}
use Rattle.model.specs.Index.{gather, only}
use Rattle.model.specs.Keys.{ascending}
use Rattle.model.specs.Rows.{Program}
use Rattle.model.specs.Letters.{head_count, row_head_of, Letter}
use Rattle.model.specs.Tables.{Tables}
use Rattle.model.specs.Counters.{counter_count, has_letter, letter_index}
use Rattle.model.specs.Demands.{Below}
use Rattle.model.proofs.Index.{gather_intro, gather_elim, only_intro, only_elim}
use Rattle.model.proofs.Keys.{Ascends, ascending_has, ascending_from, ascending_ascends}
use Rattle.model.proofs.Numbering.Letters.{key_at, index_key, index_at, letter_index_behind, letter_index_below}
use Rattle.model.proofs.Numbering.Counters.{letter_counter}
use Rattle.model.proofs.Numbering.Choices.{Rises, passing_rise}
use Rattle.model.proofs.OneDeep.{map_passing}
use Rattle.model.proofs.TwoDeep.{ordered_iff}

-- numbers that rise and have the same members are the same
rises_unique : (xs ys : List ℕ) → Rises xs → Rises ys → ((z : ℕ) → Memᴰ z xs → Memᴰ z ys) → ((z : ℕ) → Memᴰ z ys → Memᴰ z xs) → xs ≡ ys
rises_unique [] [] a b f g = refl
rises_unique [] (y ∷ ys) a b f g = absurd (Memᴰ.not-nil (g y (Memᴰ.head refl)))
rises_unique (x ∷ xs) [] a b f g = absurd (Memᴰ.not-nil (f x (Memᴰ.head refl)))
rises_unique (x ∷ xs) (y ∷ ys) a b f g =
    let e = first in
    let r = rises_unique xs ys a.1 b.1
    (λ z m. let l = a.0 z m in behind y ys z (omega arith) (f z (Memᴰ.tail m)))
    (λ z m. let l = b.0 z m in behind x xs z (omega arith) (g z (Memᴰ.tail m))) in
    cc
  where
    behind : (u : ℕ) (us : List ℕ) (z : ℕ) → u < z → Memᴰ z (u ∷ us) → Memᴰ z us
    behind u us z l m = ⊎_elim (λ e. absurd (omega arith)) (λ n. n) (Memᴰ.cases_cons m)

    first : x ≡ y
    first =
        ⊎_elim (λ e. e)
        (λ (m : Memᴰ x ys). ⊎_elim (λ e. sym e) (λ (n : Memᴰ y xs). absurd (omega (arith, a.0 y n, b.0 x m))) (Memᴰ.cases_cons (g y (Memᴰ.head refl))))
        (Memᴰ.cases_cons (f x (Memᴰ.head refl)))

module _ (p : Program) (t : Tables) (low : (v : ℕ) → row_head_of p v < head_count p) (d : ℕ) (ls : List Letter) (has : (l : Letter) → Memᴰ l ls → has_letter p t d l ≡ true) where
  -- the counters of letters in order rise
  counters_rise : (ks : List Letter) → ((l : Letter) → Memᴰ l ks → has_letter p t d l ≡ true) → Ascends ks → Rises (map (letter_index p t d) ks)
  counters_rise [] h a = tt
  counters_rise (k ∷ ks) h a = (
    λ z m.
        let (l, n, e) = Memᴰ.of_map (letter_index p t d) ks m in
        let less = (ordered_iff p t low d k d l (letter_index p t d k) (letter_index p t d l) (letter_counter p t d k (h k (Memᴰ.head refl))) (letter_counter p t d l (h l (Memᴰ.tail n)))).0 (inr (refl, a.0 l n)) in
        omega arith,
    counters_rise ks (λ l m. h l (Memᴰ.tail m)) a.1,
  )

  -- x is the counter of one of the letters
  abbrev pub OneOf : ℕ → Type 0
  OneOf x = (l : Letter) × (Memᴰ l ls × (key_at p t x ≡ d ∷ l))

  module _ (passes : ℕ → Bool) (exactly : (x : ℕ) → t.states.size ≤ x → x < counter_count p t → (passes x ≡ true) ↔ OneOf x) where
    counters_are : map (letter_index p t d) (ascending ls) ≡ gather t.states.size (counter_count p t) (λ x. only (passes x) x)
    unfolding counter_count
    counters_are =
        let s : ℕ = t.states.size in
        let n : ℕ = counter_count p t in
        rises_unique _ (gather s n (λ x. only (passes x) x)) (counters_rise (ascending ls) (λ l m. has l (ascending_from l ls m)) (ascending_ascends ls)) (passing_rise n s n passes (omega arith))
        (λ z m.
        let (l, there, e) = Memᴰ.of_map (letter_index p t d) (ascending ls) m in
        let k = has l (ascending_from l ls there) in
        let lo = letter_index_behind p t d l in
        let hi = letter_index_below p t d l k in
        let x : ℕ = letter_index p t d l in
        let one : passes x ≡ true = (exactly x lo hi).1 (l, (ascending_from l ls there, index_key p t d l k)) in
        subst (λ u. Memᴰ u (gather s n (λ y. only (passes y) y))) e (gather_intro s n x (λ y. only (passes y) y) x lo hi (only_intro (passes x) x one)))
        (λ z m.
        let (x, w, o) = gather_elim s n (λ y. only (passes y) y) z m in
        let (e, same) = only_elim (passes x) x z o in
        let (l, (there, key)) = (exactly x w.0 w.1).0 e in
        let index = index_at p t x d l w.0 w.1 (sym key) in
        subst (λ u. Memᴰ u (map (letter_index p t d) (ascending ls))) (index ∙ sym same) (Memᴰ.map (letter_index p t d) (ascending_has l ls there)))

    pub by_counter : {A : Type 0} (f : ℕ → A) → map (λ l. f (letter_index p t d l)) (ascending ls) ≡ gather t.states.size (counter_count p t) (λ x. only (passes x) (f x))
    unfolding counter_count
    by_counter f =
        sym (map-map f (letter_index p t d) (ascending ls)) ∙
        (ap (map f) counters_are ∙ map_passing (counter_count p t) t.states.size (counter_count p t) passes (λ x. x) f (omega arith))
