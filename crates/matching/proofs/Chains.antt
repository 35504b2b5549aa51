-- The chains of builds, filled from the last row to the first.
use Prim.Native.Nat.{ℕ, ◌+◌, ◌≤◌, ◌<◌}
use native.Mathlib.Decide.{ℕ_discrete}
use native.Mathlib.Omega.{arith}
use mathlib.Core.Path.{◌≡◌, sym, ◌∙◌, ap}
use mathlib.Core.Bool.{true, false}
use mathlib.Core.List.{List}
use lib.Dec.{eqb}
use mathlib.Core.List.{◌++◌}
use lib.ListN.{length, get_or, set, length-set, replicate}
use Rattle.std.proofs.Math.ListN.{get_or-append}
use Rattle.std.proofs.lemmas.List.{get_or-replicate, length-append, length-replicate}
use lib.Seq.{get_or-set_same, get_or-set_other}
use borrow.Author.Tests.{eqb-true, eq-eqb, ne_eqb}
use Rattle.model.specs.declared.Sizes.{Sizes}
use Rattle.model.specs.Index.{first}
use Rattle.model.specs.Rows.{Program, program, size, tag, num}
use Rattle.model.proofs.Logic.{and_intro, and_left, and_right}
use Rattle.model.proofs.Index.{first_end, first_hit, first_miss, first_is}
use Rattle.model.proofs.Parse.Lengths.{built_below, row_within}
use Rattle.lists.specs.Ready.{Ready}
use Rattle.lists.proofs.Facts.{rows_fit, columns_whole}
use Rattle.matching.specs.Patterns.{is_build, Builds}

-- the rows from x on are chained
pub record Chained (p : Program) (firsts nexts : List ℕ) (x : ℕ) : Type 0 where
  pub first_room : p.constructors ≤ length firsts
  pub next_room : size p ≤ length nexts
  pub upto : x ≤ size p
  pub firsts_at : (k : ℕ) → k < p.constructors → get_or firsts k 0 ≡ first x (size p) (is_build p k)
  pub nexts_at : (v : ℕ) → x ≤ v → v < size p → tag p v ≡ 2 → get_or nexts v 0 ≡ first (v + 1) (size p) (is_build p (num p (v + 1)))

module _ (p : Program) where
  -- every constructor's first build is R to begin with
  blank_begin : (n : ℕ) (rest nexts : List ℕ) → p.constructors ≤ n → size p ≤ length nexts → Chained p (replicate n (size p) ++ rest) nexts (size p)
  blank_begin n rest nexts l room = record {
    first_room = simp length-append (simp length-replicate (omega arith));
    next_room = room;
    upto = omega arith;
    firsts_at = λ j less.
        let inside : j < length (replicate n (size p)) = simp length-replicate (omega arith) in
        get_or-append (replicate n (size p)) rest 0 j inside ∙ (get_or-replicate n j (size p) 0 (omega arith) ∙ sym (first_end (size p) (size p) (is_build p j) (omega arith)));
    nexts_at = λ v from below. absurd (omega arith);
  }

  pub chained_begin : (front rest nexts : List ℕ) (n x : ℕ) → front ≡ replicate n x → x ≡ size p → p.constructors ≤ n → size p ≤ length nexts → Chained p (front ++ rest) nexts x
  chained_begin front rest nexts n x filled e l room = rw (filled, e) (blank_begin n rest nexts l room)

  build_yes : (k v : ℕ) → tag p v ≡ 2 → num p (v + 1) ≡ k → is_build p k v ≡ true
  unfolding is_build
  build_yes k v e f = and_intro (eqb (tag p v) 2) _ (eq-eqb (tag p v) 2 e) (eq-eqb (num p (v + 1)) k f)

  pub build_no : (k v : ℕ) → (tag p v ≡ 2 → ⊥) → is_build p k v ≡ false
  unfolding is_build
  build_no k v e = rw (ne_eqb (tag p v) 2 e)

  build_other : (k v : ℕ) → tag p v ≡ 2 → (num p (v + 1) ≡ k → ⊥) → is_build p k v ≡ false
  unfolding is_build
  build_other k v e f = rw (eq-eqb (tag p v) 2 e, ne_eqb (num p (v + 1)) k f)

  module _ (firsts nexts : List ℕ) (r x : ℕ) (down : r + 1 ≡ x) (c : Chained p firsts nexts x) where
    pub chained_skip : (k : ℕ) → k ≡ tag p r → (k ≡ 2 → ⊥) → Chained p firsts nexts r
    chained_skip k e ne =
        let upto = c.upto in
        record {
          first_room = c.first_room;
          next_room = c.next_room;
          upto = omega arith;
          firsts_at = λ j l. c.firsts_at j l ∙ (ap (λ y. first y (size p) (is_build p j)) (sym down) ∙ sym (first_miss r (size p) (is_build p j) (omega arith) (build_no j r (λ z. ne (e ∙ z)))));
          nexts_at = λ v l below two. elim (ℕ_discrete v r) [
            | yes z ↦ absurd (ne (e ∙ (ap (tag p) (sym z) ∙ two)))
            | no z ↦ c.nexts_at v (omega arith) below two
          ];
        }

    pub chained_link : (made y z : ℕ) → tag p r ≡ 2 → made ≡ num p (r + 1) → made < p.constructors → y ≡ get_or firsts made 0 → z ≡ r → Chained p (set firsts made z) (set nexts r y) r
    chained_link made y z two e below ey ez =
        let upto = c.upto in
        let room = c.first_room in
        let room' = c.next_room in
        record {
          first_room = simp length-set (omega arith);
          next_room = simp length-set (omega arith);
          upto = omega arith;
          firsts_at = λ j l. elim (ℕ_discrete j made) [
            | yes same ↦ ap (λ i. get_or (set firsts made z) i 0) same ∙ (get_or-set_same firsts made z 0 (omega arith) ∙ (ez ∙ sym (first_hit r (size p) (is_build p j) (omega arith) (build_yes j r two (sym e ∙ sym same)))))
            | no other ↦ get_or-set_other firsts made j z 0 other ∙ (c.firsts_at j l ∙ (ap (λ i. first i (size p) (is_build p j)) (sym down) ∙ sym (first_miss r (size p) (is_build p j) (omega arith) (build_other j r two (λ q. other (sym q ∙ sym e))))))
          ];
          nexts_at = λ v l less w. elim (ℕ_discrete v r) [
            | yes same ↦ ap (λ i. get_or (set nexts r y) i 0) same ∙ (get_or-set_same nexts r y 0 (omega arith) ∙ (ey ∙ (c.firsts_at made below ∙ (ap (λ i. first i (size p) (is_build p made)) (sym down) ∙ (ap (λ i. first (r + 1) (size p) (is_build p i)) e ∙ ap (λ i. first (i + 1) (size p) (is_build p (num p (i + 1)))) (sym same))))))
            | no other ↦ get_or-set_other nexts r v y 0 other ∙ c.nexts_at v (omega arith) less w
          ];
        }

  pub chained_over : (firsts nexts : List ℕ) (x : ℕ) → x ≡ 0 → Chained p firsts nexts x → Builds p firsts nexts
  chained_over firsts nexts x e c = record {
    first_room = c.first_room;
    next_room = c.next_room;
    first_build = λ k l. c.firsts_at k l ∙ ap (λ i. first i (size p) (is_build p k)) e;
    next_build = λ v l two. c.nexts_at v (omega arith) l two;
  }

-- what a build makes is a constructor
pub made_low : {ws : List ℕ} {s : Sizes} → Ready ws s → (r x k : ℕ) → x ≡ tag (program ws s) r → x ≡ 2 → k ≡ num (program ws s) (r + 1) → k < (program ws s).constructors
made_low {ws} {s} h r x k e f g =
    let a = row_within (columns_whole h) r (omega arith) in
    let b = built_below (program ws s) (rows_fit h) r a (sym e ∙ f) in
    omega arith

-- the build behind v, of the same constructor
pub build_next : {p : Program} {firsts nexts : List ℕ} → Builds p firsts nexts → (k v y : ℕ) → v < size p → is_build p k v ≡ true → y ≡ get_or nexts v 0 → (y ≡ first (v + 1) (size p) (is_build p k)) × (v < y)
unfolding is_build
build_next {p} b k v y l e f =
    let two = eqb-true (tag p v) 2 (and_left (eqb (tag p v) 2) _ e) in
    let same = eqb-true (num p (v + 1)) k (and_right (eqb (tag p v) 2) _ e) in
    let z : y ≡ first (v + 1) (size p) (is_build p k) = f ∙ (b.next_build v l two ∙ ap (λ i. first (v + 1) (size p) (is_build p i)) same) in
    let x = (first_is (v + 1) (size p) (is_build p k) (omega arith)).from in
    (z, omega arith)

pub build_first : {p : Program} {firsts nexts : List ℕ} → Builds p firsts nexts → (k m v : ℕ) → m ≡ k → k < p.constructors → v ≡ get_or firsts m 0 → v ≡ first 0 (size p) (is_build p k)
build_first {p} {firsts} b k m v e l f = f ∙ (ap (λ i. get_or firsts i 0) e ∙ b.first_build k l)
