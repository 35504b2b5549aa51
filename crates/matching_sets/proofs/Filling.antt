-- The sets of a constructor pattern, filled build by build.
use Prim.Native.Nat.{ℕ, zero, suc, ◌+◌, ◌-◌, ◌*◌, ◌≤◌, ◌<◌}
use native.Mathlib.Decide.{ℕ_discrete, dec_lt}
use native.Mathlib.Omega.{arith}
use mathlib.Core.Path.{◌≡◌, refl, sym, ◌∙◌, ap, ap₂}
use mathlib.Core.Bool.{Bool, true, false, not, ◌&&◌, ◌||◌}
use mathlib.Core.List.{List}
use mathlib.Core.Logic.{⊎_elim}
use lib.Dec.{eqb}
use lib.ListN.{length}
use borrow.Author.Tests.{eq-eqb, ne_eqb}
use Rattle.model.specs.declared.Sizes.{Sizes}
use Rattle.model.specs.Index.{implies, first}
use Rattle.model.specs.Words.{columns}
use Rattle.model.specs.Rows.{Program, program, size, tag, num}
use Rattle.model.specs.Tables.{Tables, tables}
use Rattle.model.specs.Closed.{is_same_constructor, may_match, names_hold}
use Rattle.model.proofs.Logic.{and_none, and_true, or_none}
use Rattle.model.proofs.Index.{first_is}
use Rattle.model.proofs.Parse.Lengths.{row_within, ColumnsWhole}
use Rattle.bits.specs.Bits.{member, Put}
use Rattle.values.specs.Values.{width, Empty, Room}
use Rattle.values.proofs.Gathered.{room_row}
use Rattle.matching.specs.Patterns.{pattern_code, Pattern, IsCode, is_build, Matched, Matches, does_equal_some, MatchReady, BuildReady}
use Rattle.matching_sets.specs.Sets.{Clear, PutIf, Joined, FillReady, Unfilled, FilledFrom}
use Rattle.matching.proofs.Chains.{build_no}
use Rattle.matching.proofs.Coding.{code_zero, code_some, code_held, unmade_code}
use Rattle.matching_sets.proofs.Joining.{joined_others, joined_here}
use Rattle.matching.proofs.Subpatterns.{pattern_deep}

-- put, or not
pub put_taken : (w n v : ℕ) (b : Bool) (u t : List ℕ) → b ≡ true → Put w n v u t → PutIf w n v b u t
put_taken w n v b u t e r = record { long = r.long; members = λ n2 v2 h. r.members n2 v2 h ∙ ap (λ x. member u w n2 v2 || (x && (eqb n2 n && eqb v2 v))) (sym e) }

pub put_left : (w n v : ℕ) (b : Bool) (u : List ℕ) → b ≡ false → PutIf w n v b u u
put_left w n v b u e = record { long = refl; members = λ n2 v2 h. sym (ap (λ x. member u w n2 v2 || (x && (eqb n2 n && eqb v2 v))) e ∙ or_none (member u w n2 v2)) }

module _ {w q v : ℕ} {b : Bool} {u t : List ℕ} (r : PutIf w q v b u t) where
  none : (n x : ℕ) → x < 64 * w → (eqb n q && eqb x v) ≡ false → member t w n x ≡ member u w n x
  none n x h e = r.members n x h ∙ (ap (λ y. member u w n x || (b && y)) e ∙ (ap (λ y. member u w n x || y) (and_none b) ∙ or_none (member u w n x)))

  put_other : (n x : ℕ) → x < 64 * w → (x ≡ v → ⊥) → member t w n x ≡ member u w n x
  put_other n x h ne = none n x h (and_no (eqb n q) (eqb x v) (ne_eqb x v ne))
    where
      and_no : (a b : Bool) → b ≡ false → (a && b) ≡ false
      and_no true b e = e
      and_no false b e = refl

  put_apart : (n x : ℕ) → x < 64 * w → (n ≡ q → ⊥) → member t w n x ≡ member u w n x
  put_apart n x h ne = none n x h (ap (λ y. y && eqb x v) (ne_eqb n q ne))

  put_here : v < 64 * w → member u w q v ≡ false → member t w q v ≡ b
  put_here h e = r.members q v h ∙ (ap₂ (λ x y. x || (b && y)) e (ap₂ ◌&&◌ (eq-eqb q q refl) (eq-eqb v v refl)) ∙ and_true b)

-- the builds before v are in the sets of the pattern at row q, and nothing behind is; the other sets are as they were
pub record Filling (p : Program) (t : Tables) (w q : ℕ) (may₀ held₀ may held : List ℕ) (v : ℕ) : Type 0 where
  pub may_long : length may ≡ length may₀
  pub held_long : length held ≡ length held₀
  pub may_others : (n x : ℕ) → x < 64 * w → (n ≡ q → ⊥) → member may w n x ≡ member may₀ w n x
  pub held_others : (n x : ℕ) → x < 64 * w → (n ≡ q → ⊥) → member held w n x ≡ member held₀ w n x
  pub may_done : (d x : ℕ) → Pattern p d q → x < v → x < 64 * w → member may w q x ≡ may_match p t d q x
  pub held_done : (d x : ℕ) → Pattern p d q → x < v → x < 64 * w → member held w q x ≡ (may_match p t d q x && names_hold p t d q x)
  pub may_to_come : (x : ℕ) → v ≤ x → x < 64 * w → member may w q x ≡ false
  pub held_to_come : (x : ℕ) → v ≤ x → x < 64 * w → member held w q x ≡ false
  pub upto : v ≤ size p
  pub here : v < size p → is_build p (num p q) v ≡ true

module _ (p : Program) (t : Tables) (w q : ℕ) (made : tag p q ≡ 31) where
  -- no value of another constructor matches
  unlike : (d x : ℕ) → Pattern p d q → is_build p (num p q) x ≡ false → may_match p t d q x ≡ false
  unfolding is_build is_same_constructor pattern_code
  unlike zero x h e = let z = pattern_deep h in absurd (omega arith)
  unlike (suc d) x h e = code_zero _ _ (sym (unmade_code p t d q x (eq-eqb (tag p q) 31 made) e))

  pub filling_begin : (may held : List ℕ) (v : ℕ) → Clear w (q + 1) may → Clear w (q + 1) held → v ≡ first 0 (size p) (is_build p (num p q)) → Filling p t w q may held may held v
  filling_begin may held v a b e =
      let f = first_is 0 (size p) (is_build p (num p q)) (omega arith) in
      let unbuilt : (x : ℕ) → x < v → is_build p (num p q) x ≡ false = λ x l. f.before x (omega arith) (omega arith) in
      record {
        may_long = refl;
        held_long = refl;
        may_others = λ n x h ne. refl;
        held_others = λ n x h ne. refl;
        may_done = λ d x h l m. a.none q x (omega arith) m ∙ sym (unlike d x h (unbuilt x l));
        held_done = λ d x h l m. b.none q x (omega arith) m ∙ ap (λ y. y && names_hold p t d q x) (sym (unlike d x h (unbuilt x l)));
        may_to_come = λ x l m. a.none q x (omega arith) m;
        held_to_come = λ x l m. b.none q x (omega arith) m;
        upto = let z = f.upto in omega arith;
        here = λ l. rw e (f.passes (omega arith));
      }

  module _ (may₀ held₀ may held may' held' : List ℕ) (v c : ℕ) (f : Filling p t w q may₀ held₀ may held v) (is : IsCode p t q v c) (low : v < 64 * w)
      (a : PutIf w q v (not (eqb c 0)) may may') (b : PutIf w q v (eqb c 1) held held') where
    pub filling_next : (y : ℕ) → v < size p → y ≡ first (v + 1) (size p) (is_build p (num p q)) → Filling p t w q may₀ held₀ may' held' y
    unfolding pattern_code
    filling_next y less e =
        let g = first_is (v + 1) (size p) (is_build p (num p q)) (omega arith) in
        let from = g.from in
        let unbuilt : (x : ℕ) → v < x → x < y → is_build p (num p q) x ≡ false = λ x l m. g.before x (omega arith) (omega arith) in
        record {
          may_long = a.long ∙ f.may_long;
          held_long = b.long ∙ f.held_long;
          may_others = λ n x h ne. put_apart a n x h ne ∙ f.may_others n x h ne;
          held_others = λ n x h ne. put_apart b n x h ne ∙ f.held_others n x h ne;
          may_done = λ d x h l m. elim (ℕ_discrete x v) [
            | yes z ↦ ap (member may' w q) z ∙ (put_here a low (f.may_to_come v (omega arith) low) ∙ (ap (λ i. not (eqb i 0)) (is.at_depth d h) ∙ (code_some _ _ ∙ ap (may_match p t d q) (sym z))))
            | no z ↦ put_other a q x m z ∙ elim (dec_lt x v) [
              | yes k ↦ f.may_done d x h k m
              | no k ↦ f.may_to_come x (omega arith) m ∙ sym (unlike d x h (unbuilt x (omega arith) l))
            ]
          ];
          held_done = λ d x h l m. elim (ℕ_discrete x v) [
            | yes z ↦ ap (member held' w q) z ∙ (put_here b low (f.held_to_come v (omega arith) low) ∙ (ap (λ i. eqb i 1) (is.at_depth d h) ∙ (code_held _ _ ∙ ap (λ i. may_match p t d q i && names_hold p t d q i) (sym z))))
            | no z ↦ put_other b q x m z ∙ elim (dec_lt x v) [
              | yes k ↦ f.held_done d x h k m
              | no k ↦ f.held_to_come x (omega arith) m ∙ ap (λ i. i && names_hold p t d q x) (sym (unlike d x h (unbuilt x (omega arith) l)))
            ]
          ];
          may_to_come = λ x l m. put_other a q x m (λ z. omega arith) ∙ f.may_to_come x (omega arith) m;
          held_to_come = λ x l m. put_other b q x m (λ z. omega arith) ∙ f.held_to_come x (omega arith) m;
          upto = let z = g.upto in omega arith;
          here = λ l. rw e (g.passes (omega arith));
        }

  -- other sets are still right
  kept : (may₀ held₀ may held : List ℕ) (v : ℕ) → w ≡ width (size p) → Filling p t w q may₀ held₀ may held v → (n : ℕ) → (n ≡ q → ⊥) → Matched p t may₀ held₀ n → Matched p t may held n
  kept may₀ held₀ may held v ew f n ne m =
      let a = m.may_row.room in
      let b = m.held_row.room in
      let la = f.may_long in
      let lb = f.held_long in
      record {
        may_row = record { room = omega arith };
        held_row = record { room = omega arith };
        may_set = λ d x e h l. (rw ew at (f.may_others n x (rw ew l) ne)) ∙ m.may_set d x e h l;
        held_set = λ d x e h l. (rw ew at (f.held_others n x (rw ew l) ne)) ∙ m.held_set d x e h l;
      }

  pub still : (may₀ held₀ may held : List ℕ) (v : ℕ) → w ≡ width (size p) → Filling p t w q may₀ held₀ may held v → Matches p t may₀ held₀ (q + 1) → Matches p t may held (q + 1)
  still may₀ held₀ may held v ew f m = record { at = λ n l b. kept may₀ held₀ may held v ew f n (λ z. omega arith) (m.at n l b) }

  module _ (whole : ColumnsWhole p) (may₀ held₀ may held : List ℕ) (v : ℕ) (f : Filling p t w q may₀ held₀ may held v) (over : size p ≤ v) (ew : w ≡ width (size p)) where
    past : (x : ℕ) → v ≤ x → is_build p (num p q) x ≡ false
    past x l = build_no p (num p q) x (λ z. let y = row_within whole x (omega arith) in omega arith)

    pub filling_over : Matches p t may₀ held₀ (q + 1) → Room (width (size p)) (size p) may → Room (width (size p)) (size p) held → Matches p t may held q
    filling_over m a b = record {
      at = λ n l less. elim (ℕ_discrete n q) [
        | yes z ↦ rw z (record {
          may_row = a.row q (omega arith);
          held_row = b.row q (omega arith);
          may_set = λ d x e h k. elim (dec_lt x v) [
            | yes y ↦ rw ew at (f.may_done d x h y (rw ew k))
            | no y ↦ (rw ew at (f.may_to_come x (omega arith) (rw ew k))) ∙ sym (unlike d x h (past x (omega arith)))
          ];
          held_set = λ d x e h k. elim (dec_lt x v) [
            | yes y ↦ rw ew at (f.held_done d x h y (rw ew k))
            | no y ↦ (rw ew at (f.held_to_come x (omega arith) (rw ew k))) ∙ ap (λ i. i && names_hold p t d q x) (sym (unlike d x h (past x (omega arith))))
          ];
        })
        | no z ↦ kept may₀ held₀ may held v ew f n z (m.at n (omega arith) less)
      ];
    }

-- the sets before q are still empty
pub still_clear : {w q : ℕ} {u t : List ℕ} → ((n x : ℕ) → x < 64 * w → (n ≡ q → ⊥) → member t w n x ≡ member u w n x) → Clear w (q + 1) u → Clear w q t
still_clear same c = record { none = λ n x l h. same n x h (λ z. omega arith) ∙ c.none n x (omega arith) h }

pub fewer_clear : {w q x : ℕ} {u : List ℕ} → q ≤ x → Clear w x u → Clear w q u
fewer_clear l c = record { none = λ n v b h. c.none n v (omega arith) h }

pub empty_clear : {w x : ℕ} {u : List ℕ} → Empty w u → Clear w x u
empty_clear e = record { none = λ n v l h. e.none n v }

pub same_room : {w k : ℕ} (u t : List ℕ) → length t ≡ length u → Room w k u → Room w k t
same_room {w} {k} u t e r = record { row = λ n l. room_row w w k n u t refl r e l }

-- a row without a constructor pattern or a held name asks for no sets
pub matches_skip : {p : Program} {t : Tables} {may held : List ℕ} (q x k : ℕ) → q + 1 ≡ x → k ≡ tag p q → (k ≡ 31 → ⊥) → (k ≡ 33 → ⊥) → Room (width (size p)) (size p) may → Room (width (size p)) (size p) held → Matches p t may held x → Matches p t may held q
matches_skip q x k down e ne other a b m = record {
  at = λ n l less. elim (ℕ_discrete n q) [
    | yes z ↦ record {
      may_row = a.row n less;
      held_row = b.row n less;
      may_set = λ d v f h i. absurd (⊎_elim (λ g. ne (e ∙ (ap (tag _) (sym z) ∙ g))) (λ g. other (e ∙ (ap (tag _) (sym z) ∙ g))) f);
      held_set = λ d v f h i. absurd (ne (e ∙ (ap (tag _) (sym z) ∙ f)));
    }
    | no z ↦ m.at n (omega arith) less
  ];
}

-- what a held name may match
held_match : (p : Program) (t : Tables) (d q v : ℕ) → Pattern p d q → tag p q ≡ 33 → does_equal_some p t (num p q) v ≡ may_match p t d q v
unfolding may_match does_equal_some implies
held_match p t zero q v h e = let z = pattern_deep h in absurd (omega arith)
held_match p t (suc d) q v h e = rw (ne_eqb (tag p q) 31 (λ z. omega arith), may_match, eq-eqb (tag p q) 33 e)

-- a row with a held name, whose set has been joined
pub matches_joined : {p : Program} {t : Tables} {may may' held : List ℕ} (q x k : ℕ) → q + 1 ≡ x → k ≡ tag p q → k ≡ 33 → Clear (width (size p)) x may → Joined (width (size p)) q (does_equal_some p t (num p q)) may may' → Room (width (size p)) (size p) may → Room (width (size p)) (size p) held → Matches p t may held x → Matches p t may' held q
matches_joined {p} {t} {may} {may'} q x k down e is clear j a b m =
    let same = sym e ∙ is in
    let room = same_room may may' j.long a in
    record {
      at = λ n l less. elim (ℕ_discrete n q) [
        | yes z ↦ rw z (record {
          may_row = room.row q (omega arith);
          held_row = b.row q (omega arith);
          may_set = λ d v f h i. joined_here j (rw (← down) at clear) v i ∙ held_match p t d q v h same;
          held_set = λ d v f h i. absurd (omega arith);
        })
        | no z ↦ let old = m.at n (omega arith) less in record {
          may_row = room.row n less;
          held_row = b.row n less;
          may_set = λ d v f h i. joined_others j n v i z ∙ old.may_set d v f h i;
          held_set = old.held_set;
        }
      ];
    }

pub matches_none : {p : Program} {t : Tables} {may held : List ℕ} (x : ℕ) → x ≡ size p → Matches p t may held x
matches_none x e = record { at = λ n l less. absurd (omega arith) }

pub matches_down : {p : Program} {t : Tables} {may held : List ℕ} {x : ℕ} → x ≤ 0 → Matches p t may held x → Matches p t may held 0
matches_down l m = record { at = λ n b less. m.at n (omega arith) less }

pub one_up : (q : ℕ) → 0 < q → q - 1 + 1 ≡ q
one_up q l = omega arith

module _ {ws : List ℕ} {s : Sizes} where
  -- with the sets of the patterns from x on, those patterns can be compared
  pub fill_match : {afters flow firsts nexts may held : List ℕ} {x : ℕ} → FillReady ws s afters flow firsts nexts → Matches (program ws s) (tables ws s) may held x → MatchReady ws s afters flow may held x
  fill_match h m = record { ready = h.ready; layout = h.layout; names = h.names; patterns = m }

  pub fill_builds : {afters flow firsts nexts : List ℕ} → FillReady ws s afters flow firsts nexts → BuildReady ws s firsts nexts
  fill_builds h = record { ready = h.ready; builds = h.builds }

  -- to begin with, the sets of no row are filled
  pub filled_none : {may held : List ℕ} → Unfilled s may held → FilledFrom ws s may held s.rows
  unfolding program columns
  filled_none u = record { may_room = u.may_room; held_room = u.held_room; may_clear = empty_clear u.may_empty; held_clear = empty_clear u.held_empty; patterns = matches_none _ refl }

  -- one row more, which asks for no sets, or whose set has been joined
  module _ {may held : List ℕ} (q x k : ℕ) (f : FilledFrom ws s may held x) (down : q + 1 ≡ x) (is : k ≡ tag (program ws s) q) where
    pub filled_skip : (k ≡ 31 → ⊥) → (k ≡ 33 → ⊥) → FilledFrom ws s may held q
    unfolding program columns
    filled_skip ne other = record {
      may_room = f.may_room;
      held_room = f.held_room;
      may_clear = fewer_clear (omega arith) f.may_clear;
      held_clear = fewer_clear (omega arith) f.held_clear;
      patterns = matches_skip q x k down is ne other f.may_room f.held_room f.patterns;
    }

    pub filled_joined : {may' : List ℕ} → k ≡ 33 → Joined (width s.rows) q (does_equal_some (program ws s) (tables ws s) (num (program ws s) q)) may may' → FilledFrom ws s may' held q
    unfolding program columns
    filled_joined held_name j = record {
      may_room = same_room may _ j.long f.may_room;
      held_room = f.held_room;
      may_clear = still_clear (joined_others j) (rw down f.may_clear);
      held_clear = fewer_clear (omega arith) f.held_clear;
      patterns = matches_joined q x k down is held_name f.may_clear j f.may_room f.held_room f.patterns;
    }
