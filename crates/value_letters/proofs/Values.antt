-- The arguments of a value of the tables, and the heads that the values of each may have.
use Prim.Native.Nat.{ℕ, ◌+◌, ◌*◌, ◌≤◌, ◌<◌}
use native.Mathlib.Decide.{ℕ_discrete}
use native.Mathlib.Omega.{arith}
use mathlib.Core.Path.{◌≡◌, refl, sym, ◌∙◌, ap, subst}
use mathlib.Core.Bool.{Bool, true, false, ◌&&◌}
use mathlib.Core.List.{List, [], ◌∷◌, ◌++◌, append_assoc, Memᴰ}
use mathlib.Core.Logic.{◌↔◌}
use mathlib.Core.Option.{some}
use lib.ListN.{replicate}
use lib.Dec.{eqb}
use borrow.Author.Tests.{eqb-true, eq-eqb, ne_eqb, leb-true}
use Rattle.bits.specs.Bits.{member, Row}
use Rattle.model.specs.declared.Sizes.{Sizes}
use Rattle.model.specs.Limits.{max_arity}
use Rattle.model.specs.Index.{any, first}
use Rattle.model.specs.Rows.{Program, program, size, tag, num, arity, Item, constructor, global, expression, step, whole, declarations, is_head_of}
use Rattle.model.specs.Letters.{head_count, row_head_of}
use Rattle.model.specs.Tables.{Tables, tables, some_of}
use Rattle.model.specs.Closed.{argument}
use Rattle.model.specs.Counters.{name_heads, any_argument}
use Rattle.model.proofs.Logic.{test, true_false, and_right, and_twice}
use Rattle.model.proofs.Index.{any_elim, any_none, first_is}
use Rattle.model.proofs.Exact.Tests.{eqb_iff}
use Rattle.model.proofs.Exact.Members.{some_of_iff}
use Rattle.model.proofs.Numbering.Choices.{name_has, head_of_name}
use Rattle.model.proofs.Numbering.Counters.{tag_inside}
use Rattle.model.proofs.Parse.Spans.{Spans}
use Rattle.model.proofs.Parse.Reached.{reached_begin, reached_spans}
use Rattle.model.proofs.Parse.Grammar.{fits_some}
use Rattle.model.proofs.Parse.Lengths.{built_below, row_location}
use Rattle.lists.specs.Ready.{Ready}
use Rattle.lists.proofs.Facts.{rows_fit, columns_whole}
use Rattle.values.proofs.Operands.{leaves, build_names}
use Rattle.system_letters.proofs.Tables.{head_low}
use Rattle.value_letters.specs.Letters.{HeadsKnown, value_arity_of, Arguments, Lacking}

-- how many arguments a value has, by its row's tag
pub arity_built : (p : Program) (v x k n : ℕ) → x ≡ tag p v → x ≡ 2 → k ≡ num p (v + 1) → n ≡ num p k → n ≡ value_arity_of p v
unfolding value_arity_of arity
arity_built p v x k n e b f g = rw (eq-eqb (tag p v) 2 (sym e ∙ b), value_arity_of) (g ∙ ap (num p) f)

pub arity_plain : (p : Program) (v x : ℕ) → x ≡ tag p v → (x ≡ 2 → ⊥) → 0 ≡ value_arity_of p v
unfolding value_arity_of
arity_plain p v x e b = rw (ne_eqb (tag p v) 2 (λ z. b (e ∙ z)), value_arity_of)

-- a constructor has at most eight arguments
constructor_leaf : (p : Program) (t m : ℕ) (more : List Item) → step p constructor t m ≡ some more → (more ≡ []) × (m ≤ max_arity)
unfolding step
constructor_leaf p t m more h =
    let (passes, same) = fits_some _ _ more h in
    (sym same, leb-true m max_arity (and_right (eqb t 10) _ passes))

module _ {ws : List ℕ} {s : Sizes} (h : Ready ws s) where
  abbrev p : Program
  p = program ws s

  abbrev t : Tables
  t = tables ws s

  few_arguments : (k : ℕ) → k < p.constructors → arity p k ≤ max_arity
  unfolding arity whole declarations
  few_arguments k l =
      let spans : Spans p (replicate p.constructors constructor ++ (replicate p.functions global ++ expression ∷ [])) 0 (size p) = rw append_assoc at (reached_spans (rows_fit h) 0 reached_begin) in
      let z : 0 + k ≡ k = omega arith in
      rw z at ((leaves p constructor (λ m. m ≤ max_arity) (constructor_leaf p) p.constructors 0 spans).1 k l)

  pub value_arguments : (v n : ℕ) → n ≡ value_arity_of p v → Arguments p v n
  unfolding value_arity_of argument is_head_of
  value_arguments v n e =
      test (eqb (tag p v) 2)
      (λ b.
      let g = eqb-true (tag p v) 2 b in
      let is : n ≡ arity p (num p (v + 1)) = e ∙ rw (b, value_arity_of) in
      record {
        few = omega (arith, few_arguments (num p (v + 1)) (built_below p (rows_fit h) v (tag_inside ws s v (omega arith)) g));
        named = λ k l. build_names p (row_location (rows_fit h) (columns_whole h) v (rw g)) g k (omega arith);
      })
      (λ b. let is : n ≡ 0 = e ∙ rw (b, value_arity_of) in record { few = omega arith; named = λ k l. absurd (omega arith) })

-- the heads of an argument, as the table has them
module _ {ws : List ℕ} {s : Sizes} {names : List ℕ} (g : HeadsKnown ws s names) {v n : ℕ} (a : Arguments (program ws s) v n) where
  pub argument_row : (k x : ℕ) → x ≡ num (program ws s) (v + 2 + k) → k < n → Row names 2 x
  unfolding argument
  argument_row k x e l = record { room = omega (arith, a.named k l, g.name_heads.room) }

  pub member_head : (k x y : ℕ) → x ≡ num (program ws s) (v + 2 + k) → k < n → y < head_count (program ws s) → (member names 2 x y ≡ true) ↔ Memᴰ y (name_heads (program ws s) (tables ws s) (any_argument k) (argument (program ws s) v k))
  unfolding argument
  member_head k x y e l low =
      let p = program ws s in
      let t = tables ws s in
      let name = num p (v + 2 + k) in
      let same : member names 2 x y ≡ some_of t.flow name (λ w. eqb (row_head_of p w) y) = ap (λ z. member names 2 z y) e ∙ g.name_heads.has name y (a.named k l) low in (
        λ m.
            let (w, there, head) = (some_of_iff t.flow name (λ w. eqb (row_head_of p w) y) (λ w. eqb_iff (row_head_of p w) y)).0 (sym same ∙ m) in
            subst (λ z. Memᴰ z (name_heads p t (any_argument k) name)) head (name_has p t (any_argument k) name w (head_low g.ready w) there refl),
        λ m.
            let (_, (w, (there, (head, _)))) = head_of_name p t (any_argument k) name y m in
            same ∙ (some_of_iff t.flow name (λ w. eqb (row_head_of p w) y) (λ w. eqb_iff (row_head_of p w) y)).1 (w, there, head),
      )

pub lacking : (p : Program) (v n k : ℕ) (names : List ℕ) (x : ℕ) {b : Bool} → x ≡ num p (v + 2 + k) → k < n → b ≡ any 0 (64 * 2) (λ w. member names 2 x w && member names 2 x w) → b ≡ false → Lacking p v n names
unfolding argument
lacking p v n k names x e l is never =
    record {
      at = k;
      below = l;
      none = λ y low. ap (λ z. member names 2 z y) (sym e) ∙ (sym (and_twice (member names 2 x y)) ∙ any_none 0 (64 * 2) y (λ w. member names 2 x w && member names 2 x w) (sym is ∙ never) (omega arith) (omega arith));
    }

-- the least head from k on
module _ (names : List ℕ) (name k e r : ℕ) (is : r ≡ first k e (member names 2 name)) (upto : k ≤ e) where
  pub next_range : (k ≤ r) × (r ≤ e)
  next_range = let f = first_is k e (member names 2 name) upto in (omega (arith, f.from), omega (arith, f.upto))

  pub next_here : r < e → member names 2 name r ≡ true
  next_here l = let f = first_is k e (member names 2 name) upto in ap (member names 2 name) is ∙ f.passes (omega arith)

  pub next_none : (y : ℕ) → k ≤ y → y < r → member names 2 name y ≡ false
  next_none y a b = (first_is k e (member names 2 name) upto).before y a (omega arith)

-- argument k has a head
abbrev pub Headed : Program → ℕ → List ℕ → ℕ → Type 0
Headed p v names k = any 0 (64 * 2) (λ w. member names 2 (argument p v k) w && member names 2 (argument p v k) w) ≡ true

-- one argument more has one; where all have, none lacks one
pub headed_next : (p : Program) (v : ℕ) (names : List ℕ) (i x : ℕ) {b : Bool} → x ≡ num p (v + 2 + i) → b ≡ any 0 (64 * 2) (λ w. member names 2 x w && member names 2 x w) → b ≡ true → ((k : ℕ) → k < i → Headed p v names k) → (k : ℕ) → k < i + 1 → Headed p v names k
unfolding argument
headed_next p v names i x e is there so k l = elim (ℕ_discrete k i) [
  | yes z ↦ rw (z, ← e) (sym is ∙ there)
  | no z ↦ so k (omega arith)
]

pub headed_all : (p : Program) (v n i : ℕ) (names : List ℕ) → n ≤ i → ((k : ℕ) → k < i → Headed p v names k) → Lacking p v n names → ⊥
headed_all p v n i names h so k =
    let (w, b, m) = any_elim 0 (64 * 2) (λ w. member names 2 (argument p v k.at) w && member names 2 (argument p v k.at) w) (so k.at (let z = k.below in omega arith)) in
    true_false (and_right (member names 2 (argument p v k.at) w) _ m) (k.none w (omega (arith, b.1)))
